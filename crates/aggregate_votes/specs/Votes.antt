-- Votes: which count, and how many each pair of ids has. They are counted, so the order of the matches changes nothing. Definitions only.
use Rattle.std.specs.Prelude.{ℕ, zero, suc, ◌+◌, ◌*◌, ◌/◌, Bool, false, cond, ◌&&◌, ◌||◌, List, [], ◌∷◌, ◌++◌, eqb, ltb, leb, ℤ, pos, negsuc, length, get_or}

-- whether two catalogue ids are the same
abbrev pub same_id : ℤ → ℤ → Bool
same_id (pos a) (pos b) = eqb a b
same_id (pos a) (negsuc b) = false
same_id (negsuc a) (pos b) = false
same_id (negsuc a) (negsuc b) = eqb a b

-- of the first n results the last with this id, counted from 1; 0 where there is none
abbrev pub last_of : List ℤ → ℤ → ℕ → ℕ
last_of results c zero = 0
last_of results c (suc k) = cond (same_id (get_or results k (pos 0)) c) (suc k) (last_of results c k)

-- a vote names a place of the image list and a place of the catalogue list
pub record Vote : Type 0 where
  pub image : ℕ
  pub catalogue : ℕ

-- a vote by its two places
abbrev pub vote : ℕ → ℕ → Vote
vote a b = record { image = a; catalogue = b }

-- the four votes of match m, whose eight places are the image quad's four and then the catalogue quad's
abbrev pub votes_in : List ℕ → ℕ → List Vote
votes_in matches m =
    vote (get_or matches (8 * m) 0) (get_or matches (8 * m + 4) 0)
    ∷ vote (get_or matches (8 * m + 1) 0) (get_or matches (8 * m + 5) 0)
    ∷ vote (get_or matches (8 * m + 2) 0) (get_or matches (8 * m + 6) 0)
    ∷ vote (get_or matches (8 * m + 3) 0) (get_or matches (8 * m + 7) 0)
    ∷ []

-- the votes of the first m matches
abbrev pub votes_to : List ℕ → ℕ → List Vote
votes_to matches zero = []
votes_to matches (suc m) = votes_to matches m ++ votes_in matches m

-- the votes of all matches
unfoldable pub votes_of : List ℕ → List Vote
votes_of matches = votes_to matches (length matches / 8)

-- the ids: a detection for each image star, a catalogue id for each catalogue star and for each result
pub record Ids : Type 0 where
  pub images : List ℕ
  pub catalogue : List ℤ
  pub results : List ℤ

-- the three lists of ids, in the order of the call
abbrev pub ids : List ℕ → List ℤ → List ℤ → Ids
ids images catalogue results = record { images = images; catalogue = catalogue; results = results }

-- the result, from 1, that is the position of a catalogue id: of repeated ids the last; 0 where it has none
abbrev pub position_of : Ids → ℤ → ℕ
position_of i c = last_of i.results c (length i.results)

-- the detection and the catalogue id that a vote names
abbrev pub detection_of : Ids → Vote → ℕ
detection_of i v = get_or i.images v.image 0

-- the catalogue id that a vote names
abbrev pub catalogue_of : Ids → Vote → ℤ
catalogue_of i v = get_or i.catalogue v.catalogue (pos 0)

-- a vote counts when both places exist and the catalogue id has a position
unfoldable pub counts : Ids → Vote → Bool
counts i v = ltb v.image (length i.images) && (ltb v.catalogue (length i.catalogue) && ltb 0 (position_of i (catalogue_of i v)))

-- how many of the votes pass a test
abbrev pub count_of : (Vote → Bool) → List Vote → ℕ
count_of p [] = 0
count_of p (v ∷ vs) = cond (p v) 1 0 + count_of p vs

-- whether one of the votes passes a test
abbrev pub any_of : (Vote → Bool) → List Vote → Bool
any_of p [] = false
any_of p (v ∷ vs) = p v || any_of p vs

-- a vote that counts, for detection d and catalogue id c
unfoldable pub is_for : Ids → ℕ → ℤ → Vote → Bool
is_for i d c v = counts i v && (eqb (detection_of i v) d && same_id (catalogue_of i v) c)

-- the votes of a pair of ids
abbrev pub votes_for : Ids → List Vote → ℕ → ℤ → ℕ
votes_for i vs d c = count_of (is_for i d c) vs

-- a vote that counts and names a detection that does not exist, of n
unfoldable pub is_missing : Ids → ℕ → Vote → Bool
is_missing i n v = counts i v && leb n (detection_of i v)

-- whether there is one
abbrev pub missing : Ids → List Vote → ℕ → Bool
missing i vs n = any_of (is_missing i n) vs

-- whether result r is the last with its id, and so its position
abbrev pub is_last : Ids → ℕ → Bool
is_last i r = eqb (position_of i (get_or i.results r (pos 0))) (suc r)

-- the votes that detection d has for result r: those of its id, where it is the last with that id
unfoldable pub votes_at : Ids → List Vote → ℕ → ℕ → ℕ
votes_at i vs d r = cond (is_last i r) (votes_for i vs d (get_or i.results r (pos 0))) 0
