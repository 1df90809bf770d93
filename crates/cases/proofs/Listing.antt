-- A list that is written to a stream member by member. Assumes nothing.
use Rattle.std.proofs.Common.{◌≡◌, ℕ, suc, zero, ◌+◌, ◌<◌, ◌≤◌, List, [], ◌∷◌, ◌++◌, length, cond, get_or, take, sym, ap, subst, ◌∙◌, arith, append_assoc, append-nil, add-one, take_all, ne_eqb}
use Rattle.std.specs.List.{join_by, flat_map}
use Rattle.std.specs.declared.option.Option.{Option}
use Rattle.std.specs.Io.KnownBytes.{Appends}
use Rattle.std.proofs.KnownBytes.{Appends-trans}
use Rattle.cases.specs.Lists.{comma_before, dash_for, list_field}

comma_later : (i : ℕ) → comma_before (suc i) ≡ 44 ∷ []
comma_later i = ap (λ b. cond b [] (44 ∷ [])) (ne_eqb (suc i) 0 (omega arith))

module _ {X : Type 0} (text : X → List ℕ) where
  -- the members after the first, one more of them
  pub rest_more : (xs : List X) (d : X) (i : ℕ) → i < length xs
      → flat_map (λ y. 44 ∷ text y) (take i xs) ++ (44 ∷ text (get_or xs i d)) ≡ flat_map (λ y. 44 ∷ text y) (take (suc i) xs)
  rest_more [] d i h = absurd (omega arith)
  rest_more (x ∷ xs) d zero h = sym (append-nil (44 ∷ text x))
  rest_more (x ∷ xs) d (suc i) h =
      append_assoc (44 ∷ text x) (flat_map (λ y. 44 ∷ text y) (take i xs)) (44 ∷ text (get_or xs i d))
      ∙ ap (λ l. (44 ∷ text x) ++ l) (rest_more xs d i (omega arith))

  -- one more member, with what stands before it
  pub members_more : (xs : List X) (d : X) (i : ℕ) → i < length xs
      → join_by text (44 ∷ []) (take i xs) ++ (comma_before i ++ text (get_or xs i d)) ≡ join_by text (44 ∷ []) (take (i + 1) xs)
  members_more [] d i h = absurd (omega arith)
  members_more (x ∷ xs) d zero h = sym (append-nil (text x))
  members_more (x ∷ xs) d (suc i) h =
      ap (λ l. join_by text (44 ∷ []) (x ∷ take i xs) ++ (l ++ text (get_or xs i d))) (comma_later i)
      ∙ append_assoc (text x) (flat_map (λ y. 44 ∷ text y) (take i xs)) (44 ∷ text (get_or xs i d))
      ∙ ap (λ l. text x ++ l) (rest_more xs d i (omega arith))
      ∙ ap (λ k. join_by text (44 ∷ []) (take k (x ∷ xs))) (sym (add-one (suc i)))

  -- what is written once the first i members are
  abbrev pub so_far : List X → ℕ → List ℕ
  so_far xs i = 32 ∷ (dash_for (length xs) ++ join_by text (44 ∷ []) (take i xs))

  pub list_start : (xs : List X) (a b c : Option (List ℕ)) → Appends a b (32 ∷ []) → Appends b c (dash_for (length xs)) → Appends a c (so_far xs 0)
  list_start xs a b c p q =
      subst (Appends a c) (ap (λ l. 32 ∷ l) (sym (append-nil (dash_for (length xs))))) (Appends-trans a b c (32 ∷ []) (dash_for (length xs)) p q)

  pub list_step : (xs : List X) (d : X) (i : ℕ) (a b c e : Option (List ℕ)) → i < length xs → Appends a b (so_far xs i)
      → Appends b c (comma_before i) → (t : List ℕ) → t ≡ text (get_or xs i d) → Appends c e t → Appends a e (so_far xs (i + 1))
  list_step xs d i a b c e h p q t same r =
      let member = comma_before i ++ text (get_or xs i d) in
      let joined =
      ap (λ l. 32 ∷ l) (append_assoc (dash_for (length xs)) (join_by text (44 ∷ []) (take i xs)) member
      ∙ ap (λ l. dash_for (length xs) ++ l) (members_more xs d i h)) in
      subst (Appends a e) joined (Appends-trans a b e (so_far xs i) member p (Appends-trans b c e (comma_before i) (text (get_or xs i d)) q (subst (Appends c e) same r)))

  pub list_end : (xs : List X) (i : ℕ) (a b : Option (List ℕ)) → length xs ≤ i → Appends a b (so_far xs i) → Appends a b (list_field text xs)
  list_end xs i a b h p = subst (λ l. Appends a b (32 ∷ (dash_for (length xs) ++ join_by text (44 ∷ []) l))) (take_all i xs h) p
