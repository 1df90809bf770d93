-- A record that is read: the lines of the table of its format, part by part, and what a text comes to. Definitions only.
use Rattle.std.specs.Prelude.{true, cond, ◌&&◌, List, map, ℕ, leb, length, get_or, Float}
use Rattle.std.specs.Float.{binary64}
use Rattle.std.specs.Float.Ieee.{of_bits}
use Rattle.wcs.specs.declared.Wcs.{Wcs}
use Rattle.sip_terms.specs.declared.Sip.{Sip}
use Rattle.sip_terms.specs.Terms.{first_term, term_count}
use Rattle.record_format.specs.declared.Format.{Format}
use Rattle.record_format.specs.Formats.{format_of, solved_by}
use Rattle.record_lines.specs.Names.{a_letter, b_letter}
use Rattle.record_lines.specs.Lines.{Solution, each_coefficient}
use Rattle.record_lines.specs.Table.{start_slots, cd_slots, term_slots, error_slots}
use Rattle.record_scan.specs.declared.Spot.{Spot}
use Rattle.record_scan.specs.Slots.{Taken, read_slots}

-- where reading starts: at the first byte, with line 1
abbrev pub start_spot : Spot
start_spot = record { at = 0; line = 1; good = true }

-- the parts of a record
pub record Parts : Type 0 where
  pub start : Taken
  pub cd : Taken
  pub a : Taken
  pub b : Taken
  pub errors : Taken

-- the number of its format
abbrev pub format_in : Taken → ℕ
format_in start = get_or start.values 0 0

-- its order
abbrev pub order_in : Taken → ℕ
order_in cd = get_or cd.values 4 0

-- the parts of a text, each read where the one before it ends; the format that is read says which orders there are, and the order that
-- is read says how many terms
unfoldable pub read_parts : List ℕ → Parts
read_parts s =
    let start = read_slots start_slots s start_spot in
    let cd = read_slots (cd_slots (format_of (format_in start))) s start.next in
    let a = read_slots (term_slots a_letter first_term (term_count (order_in cd))) s cd.next in
    let b = read_slots (term_slots b_letter first_term (term_count (order_in cd))) s a.next in
    record { start = start; cd = cd; a = a; b = b; errors = read_slots error_slots s b.next }

-- the float whose bits are the number at a place
abbrev pub real_at : Taken → ℕ → Float
real_at t i = of_bits binary64 (get_or t.values i 0)

-- what the lines of an axis hold
abbrev pub reals_in : Taken → List Float
reals_in t = map (of_bits binary64) t.values

-- the reference pixel and the CD numbers
abbrev pub wcs_from : Taken → Taken → Wcs
wcs_from start cd = record {
  crpix1 = real_at start 2;
  crpix2 = real_at start 3;
  cd1_1 = real_at cd 0;
  cd1_2 = real_at cd 1;
  cd2_1 = real_at cd 2;
  cd2_2 = real_at cd 3;
}

-- the rows used and the errors
abbrev pub fit_from : Taken → Taken → Sip
fit_from start errors = record {
  rows_used = get_or start.values 1 0;
  linear_rms = real_at errors 0;
  rms = real_at errors 1;
  wrms = real_at errors 2;
}

-- the numbers that the lines hold
abbrev pub held_in : Parts → Solution
held_in p = record {
  fit = fit_from p.start p.errors;
  wcs = wcs_from p.start p.cd;
  order = order_in p.cd;
  a = reals_in p.a;
  b = reals_in p.b;
}

-- the solution that was solved, from the numbers that the lines of a format hold
abbrev pub solved_as : Format → Solution → Solution
solved_as f s = each_coefficient (solved_by f) s

-- the solution that the parts show
abbrev pub solution_from : Parts → Solution
solution_from p = solved_as (format_of (format_in p.start)) (held_in p)

-- a format's number and a solution, or the number of the first wrong line
pub data Reading : Type 0 where
  Shows : ℕ → Solution → Reading
  WrongAt : ℕ → Reading

-- every line is right, and nothing follows the last; what follows it counts as one line more
abbrev pub reading_of : List ℕ → Parts → Reading
reading_of s p =
    cond (p.errors.next.good && leb (length s) p.errors.next.at)
    (Reading.Shows (format_in p.start) (solution_from p))
    (Reading.WrongAt p.errors.next.line)

-- what a text comes to
unfoldable pub record_in : List ℕ → Reading
record_in s = reading_of s (read_parts s)
