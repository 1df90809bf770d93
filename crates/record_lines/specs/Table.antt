-- What a record is: a table of its lines, over its format, which the writer fills in and the reader reads. Definitions only.
use Rattle.std.specs.Prelude.{Bool, true, false, ◌&&◌, ◌||◌, List, [], ◌∷◌, ◌++◌, map, ℕ, zero, suc, leb, Float}
use Rattle.text.specs.Lines.{decimal_line}
use Rattle.domain.specs.Domain.{is_position, is_finite}
use Rattle.sip_terms.specs.declared.Term.{Term}
use Rattle.sip_terms.specs.Terms.{first_term, next_term, term_count, is_kept}
use Rattle.record_format.specs.declared.Format.{Format}
use Rattle.record_format.specs.Formats.{format_of, newest_format, held_by}
use Rattle.record_lines.specs.Names.{format_name, rows_name, crpix1_name, crpix2_name, cd11_name, cd12_name, cd21_name, cd22_name}
use Rattle.record_lines.specs.Names.{order_name, linear_name, rms_name, wrms_name, a_letter, b_letter, term_name}
use Rattle.record_lines.specs.Lines.{Solution, each_coefficient, number_line, with_line}

-- what a line may hold: a decimal number from a least to a most, or a float that passes a test
pub data Kind : Type 0 where
  Whole : ℕ → ℕ → Kind
  Real : (Float → Bool) → Kind

-- a line of the table: its name, what it may hold, and whether it must stand
pub record Slot : Type 0 where
  pub name : List ℕ
  pub kind : Kind
  pub must : Bool

-- ---- the kinds of lines

-- a decimal number from a least to a most
abbrev pub whole_slot : List ℕ → ℕ → ℕ → Slot
whole_slot name least most = record { name = name; kind = Kind.Whole least most; must = true }

-- a position
abbrev pub position_slot : List ℕ → Slot
position_slot name = record { name = name; kind = Kind.Real is_position; must = true }

-- a finite number
abbrev pub finite_slot : List ℕ → Slot
finite_slot name = record { name = name; kind = Kind.Real is_finite; must = true }

-- any number, NaN too
abbrev pub any_slot : List ℕ → Slot
any_slot name = record { name = name; kind = Kind.Real (λ (x : Float). true); must = true }

-- a coefficient that is kept; one that is dropped has no line
abbrev pub term_slot : ℕ → Term → Slot
term_slot letter t = record { name = term_name letter t; kind = Kind.Real (λ (x : Float). is_kept x); must = false }

-- ---- the table, to be held beside the whole record of the scope

-- the format, the rows used, and the reference pixel
abbrev pub start_slots : List Slot
start_slots = whole_slot format_name 1 newest_format ∷ whole_slot rows_name 0 100 ∷ position_slot crpix1_name ∷ position_slot crpix2_name ∷ []

-- the CD numbers and the order, which is one that the format may have
abbrev pub cd_slots : Format → List Slot
cd_slots f =
    finite_slot cd11_name ∷ finite_slot cd12_name ∷ finite_slot cd21_name ∷ finite_slot cd22_name
    ∷ whole_slot order_name f.least_order f.most_order ∷ []

-- the coefficients of n terms from a term on
unfoldable pub term_slots : ℕ → Term → ℕ → List Slot
term_slots letter t zero = []
term_slots letter t (suc n) = term_slot letter t ∷ term_slots letter (next_term t) n

-- the errors
abbrev pub error_slots : List Slot
error_slots = any_slot linear_name ∷ any_slot rms_name ∷ any_slot wrms_name ∷ []

-- the lines after the order, of so many terms on each axis
abbrev pub tail_slots : ℕ → List Slot
tail_slots n = term_slots a_letter first_term n ++ (term_slots b_letter first_term n ++ error_slots)

-- all lines of a record of a format and an order
abbrev pub record_slots : Format → ℕ → List Slot
record_slots f order = start_slots ++ (cd_slots f ++ tail_slots (term_count order))

-- ---- the table filled in

-- what stands in a line
pub data Value : Type 0 where
  Whole : ℕ → Value
  Real : Float → Value

-- whether a line may hold a value
abbrev pub may_hold : Kind → Value → Bool
may_hold (Kind.Whole least most) (Value.Whole n) = leb least n && leb n most
may_hold (Kind.Whole least most) (Value.Real x) = false
may_hold (Kind.Real test) (Value.Whole n) = false
may_hold (Kind.Real test) (Value.Real x) = test x

-- the line that shows a value
abbrev pub line_of : List ℕ → Value → List ℕ
line_of name (Value.Whole n) = decimal_line name n
line_of name (Value.Real x) = number_line name x

-- whether a value has a line: each that must stand, and of the others those that may hold it
abbrev pub has_line : Slot → Value → Bool
has_line k v = k.must || may_hold k.kind v

-- the lines of a table, one value for each slot
unfoldable pub lines_of : List Slot → List Value → List (List ℕ)
lines_of [] vs = []
lines_of (k ∷ ks) [] = []
lines_of (k ∷ ks) (v ∷ vs) = with_line (has_line k v) (line_of k.name v) (lines_of ks vs)

-- the values of a record, in the order of the table: the number of its format, and the numbers that its lines hold
abbrev pub values_of : ℕ → Solution → List Value
values_of number s =
    Value.Whole number
    ∷ Value.Whole s.fit.rows_used
    ∷ Value.Real s.wcs.crpix1
    ∷ Value.Real s.wcs.crpix2
    ∷ Value.Real s.wcs.cd1_1
    ∷ Value.Real s.wcs.cd1_2
    ∷ Value.Real s.wcs.cd2_1
    ∷ Value.Real s.wcs.cd2_2
    ∷ Value.Whole s.order
    ∷ (map Value.Real s.a
    ++ (map Value.Real s.b
    ++ (Value.Real s.fit.linear_rms
    ∷ Value.Real s.fit.rms
    ∷ Value.Real s.fit.wrms
    ∷ [])))

-- the lines of a format, for the numbers that they hold
unfoldable pub lines_as : ℕ → Solution → List (List ℕ)
lines_as number s = lines_of (record_slots (format_of number) s.order) (values_of number s)

-- the numbers that the lines of a format hold of a solution: its own, but for the sign of the coefficients
abbrev pub held_as : Format → Solution → Solution
held_as f s = each_coefficient (held_by f) s

-- the record of a solution in a format
abbrev pub record_as : ℕ → Solution → List (List ℕ)
record_as number s = lines_as number (held_as (format_of number) s)

-- the record that is written
abbrev pub record_of : Solution → List (List ℕ)
record_of s = record_as newest_format s
