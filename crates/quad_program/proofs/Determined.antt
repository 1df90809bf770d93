-- The contract of the program determines its buffer: what is printed is told by the text, and what is left is the old rest. Assumes nothing.
use mathlib.Core.Path.{◌≡◌, sym, ap, ◌∙◌}
use mathlib.Core.List.{List, ◌++◌}
use Prim.Native.Nat.{ℕ}
use lib.ListN.{length, take, drop, take-append-drop}
use Rattle.answer.proofs.Determined.{answer}
use Rattle.quad_program.specs.Program.{program_text}

module _ (s old : List ℕ) where
  -- what the clauses `text`, `count` and `rest` say of a count and a buffer
  pub record Admitted (r : ℕ) (out : List ℕ) : Type 0 where
    pub text : take r out ≡ program_text s
    pub count : r ≡ length (program_text s)
    pub rest : drop r out ≡ drop r old

  -- the buffer is the text, and then the old buffer from there on
  whole : (r : ℕ) (out : List ℕ) → Admitted r out → out ≡ program_text s ++ drop (length (program_text s)) old
  whole r out a = sym (take-append-drop r out) ∙ (ap (λ front. front ++ drop r out) a.text ∙ ap (λ back. program_text s ++ back) (a.rest ∙ ap (λ n. drop n old) a.count))

  -- any two that it admits for the same text and the same old buffer are equal
  pub determined : (r q : ℕ) (out other : List ℕ) → Admitted r out → Admitted q other → (r ≡ q) × (out ≡ other)
  determined r q out other a b = (answer a.count b.count, answer (whole r out a) (whole q other b))
