-- What extract_pairs answers, and what it leaves in each output. Definitions only.
use Rattle.answer.specs.declared.Refusal.{Refusal}
use Rattle.std.specs.Prelude.{ℕ, ◌/◌, ◌%◌, Bool, cond, ◌&&◌, List, map, eqb, leb, ℤ, length, get_or, Float, Result, Ok, Err}
use Rattle.std.specs.Float.{nan}
use Rattle.domain.specs.Domain.{is_position, is_snr, every}
use Rattle.answer.specs.Answers.{answer_number, first, room_for}
use Rattle.answer.specs.declared.Refusal.TheVariants as refusal
use Rattle.aggregate_votes.specs.Votes.{Ids, ids, votes_of, missing}
use Rattle.aggregate_best.specs.declared.Choice.{Choice}
use Rattle.aggregate_choice.specs.Choice.{chosen_by, pairs_of}

-- all that is handed over: eight places for each match; the detections; the ids; the results, with their positions
pub record Given : Type 0 where
  pub matches : List ℕ
  pub xs : List Float
  pub ys : List Float
  pub snrs : List Float
  pub images : List ℕ
  pub catalogue : List ℤ
  pub results : List ℤ
  pub ras : List Float
  pub decs : List Float

-- the same, by its lists in the order of the call
abbrev pub given : List ℕ → List Float → List Float → List Float → List ℕ → List ℤ → List ℤ → List Float → List Float → Given
given matches xs ys snrs images catalogue results ras decs =
    record { matches = matches; xs = xs; ys = ys; snrs = snrs; images = images; catalogue = catalogue; results = results; ras = ras; decs = decs }

-- how many places each output has
pub record Room : Type 0 where
  pub px : ℕ
  pub py : ℕ
  pub ra : ℕ
  pub dec : ℕ
  pub votes : ℕ
  pub snr : ℕ

-- the same, by its six numbers in the order of the call
abbrev pub room : ℕ → ℕ → ℕ → ℕ → ℕ → ℕ → Room
room px py ra dec votes snr = record { px = px; py = py; ra = ra; dec = dec; votes = votes; snr = snr }

-- no list is longer than 100, and there are at most 144,000,000 whole eights of matches
abbrev pub few : ℕ → ℕ → ℕ → ℕ → ℕ → ℕ → ℕ → ℕ → ℕ → Bool
few matches xs ys snrs images catalogue results ras decs =
    leb (matches / 8) 144000000
    && ((leb xs 100 && (leb ys 100 && leb snrs 100)) && ((leb images 100 && leb catalogue 100) && (leb results 100 && (leb ras 100 && leb decs 100))))

-- the matches are whole eights, and the lists of the detections and of the results are each of one length
abbrev pub even : ℕ → ℕ → ℕ → ℕ → ℕ → ℕ → ℕ → Bool
even matches xs ys snrs results ras decs = eqb (matches % 8) 0 && ((eqb ys xs && eqb snrs xs) && (eqb ras results && eqb decs results))

-- every value is inside the domain
unfoldable pub inside : List Float → List Float → List Float → List Float → List Float → Bool
inside xs ys snrs ras decs = (every is_position xs && every is_position ys) && (every is_snr snrs && (every is_position ras && every is_position decs))

-- number 1 for a count outside its limit
abbrev pub count_answer : Given → Result Unit Refusal
count_answer g =
    cond (few (length g.matches) (length g.xs) (length g.ys) (length g.snrs) (length g.images) (length g.catalogue) (length g.results) (length g.ras) (length g.decs))
    (Ok tt) (Err refusal.Count)

-- number 2 for lengths that differ
abbrev pub lengths_answer : Given → Result Unit Refusal
lengths_answer g =
    cond (even (length g.matches) (length g.xs) (length g.ys) (length g.snrs) (length g.results) (length g.ras) (length g.decs))
    (Ok tt) (Err refusal.Lengths)

-- number 3 for a value outside the domain
abbrev pub values_answer : Given → Result Unit Refusal
values_answer g = cond (inside g.xs g.ys g.snrs g.ras g.decs) (Ok tt) (Err refusal.Value)

-- what the tests of the input come to: number 1, 2 or 3, or done
unfoldable pub input_answer : Given → Result Unit Refusal
input_answer g = first (count_answer g) (first (lengths_answer g) (values_answer g))

-- the ids that the votes are read by
abbrev pub ids_in : Given → Ids
ids_in g = ids g.images g.catalogue g.results

-- number 4 where a vote that counts names a detection that does not exist
abbrev pub place_answer : Given → Result Unit Refusal
place_answer g = cond (missing (ids_in g) (votes_of g.matches) (length g.xs)) (Err refusal.Place) (Ok tt)

-- the detections of the pairs, in order
abbrev pub found : Given → List ℕ
found g = pairs_of (ids_in g) (votes_of g.matches) (length g.xs)

-- number 7 where an output has fewer than n places
unfoldable pub room_answer : ℕ → Room → Result Unit Refusal
room_answer n o =
    first (room_for n o.px)
    (first (room_for n o.py) (first (room_for n o.ra) (first (room_for n o.dec) (first (room_for n o.votes) (room_for n o.snr)))))

-- the number of pairs, or a refusal
abbrev pub found_after : Result Unit Refusal → ℕ → Result ℕ Refusal
found_after (Ok tt) n = Ok n
found_after (Err why) n = Err why

-- the answer to an input that passed its tests
unfoldable pub vote_pairs : Given → Room → Result ℕ Refusal
vote_pairs g o = found_after (first (place_answer g) (room_answer (length (found g)) o)) (length (found g))

-- the answer of `extract_pairs`: the first of the numbers 1, 2, 3, 4 and 7 that is due, or the number of pairs
unfoldable pub pairs_answer : Given → Room → Result ℕ Refusal
pairs_answer g o = found_after (first (input_answer g) (first (place_answer g) (room_answer (length (found g)) o))) (length (found g))

-- done, or the refusal
abbrev pub answer_of : Result ℕ Refusal → Result Unit Refusal
answer_of (Ok n) = Ok tt
answer_of (Err why) = Err why

-- the choice of a detection: a place in the results, and its votes
abbrev pub choice_in : Given → ℕ → Choice
choice_in g d = chosen_by (ids_in g) (votes_of g.matches) d

-- what is written of each pair: the pixel of its detection, the position and the votes of its choice, the snr of its detection
abbrev pub pair_xs : Given → List Float
pair_xs g = map (λ d. get_or g.xs d nan) (found g)

-- their y
abbrev pub pair_ys : Given → List Float
pair_ys g = map (λ d. get_or g.ys d nan) (found g)

-- their right ascensions
abbrev pub pair_ras : Given → List Float
pair_ras g = map (λ d. get_or g.ras (choice_in g d).at.0 nan) (found g)

-- their declinations
abbrev pub pair_decs : Given → List Float
pair_decs g = map (λ d. get_or g.decs (choice_in g d).at.0 nan) (found g)

-- their votes
abbrev pub pair_votes : Given → List ℕ
pair_votes g = map (λ d. (choice_in g d).votes) (found g)

-- their detections' snr
abbrev pub pair_snrs : Given → List Float
pair_snrs g = map (λ d. get_or g.snrs d nan) (found g)
