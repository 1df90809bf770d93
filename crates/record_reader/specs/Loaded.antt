-- What the structs of the code hold of the parts of a record. Definitions only.
use Rattle.std.specs.Prelude.{cond, ◌&&◌, List, leb, ℕ, ◌≤◌, get_or, take, Float, Result, Ok, Err}
use Rattle.sip_terms.specs.Terms.{term_count}
use Rattle.record_scan.specs.Slots.{Taken}
use Rattle.record_reader.specs.declared.Start.{Start}
use Rattle.record_reader.specs.declared.Factors.{Factors}
use Rattle.record_reader.specs.declared.Errors.{Errors}
use Rattle.record_reader.specs.declared.Shown.{Shown}
use Rattle.record_reader.specs.declared.WrongLine.{WrongLine}
use Rattle.record_reader.specs.Reading.{Reading, format_in, order_in, real_at}

-- the first lines
abbrev pub start_in : Taken → Start
start_in t = record { format = format_in t; rows = get_or t.values 1 0; crpix1 = real_at t 2; crpix2 = real_at t 3; next = t.next }

-- the CD numbers and the order
abbrev pub cd_in : Taken → Factors
cd_in t = record { cd1_1 = real_at t 0; cd1_2 = real_at t 1; cd2_1 = real_at t 2; cd2_2 = real_at t 3; order = order_in t; next = t.next }

-- the errors
abbrev pub errors_in : Taken → Errors
errors_in t = record { linear_rms = real_at t 0; rms = real_at t 1; wrms = real_at t 2; next = t.next }

-- what a text of a length shows, of which all lines were read
unfoldable pub shown_whole : ℕ → Start → Factors → Errors → Result Shown WrongLine
shown_whole len start cd errors =
    cond (errors.next.good && leb len errors.next.at)
    (Ok (record {
      format = start.format;
      fit = record { rows_used = start.rows; linear_rms = errors.linear_rms; rms = errors.rms; wrms = errors.wrms };
      wcs = record {
        crpix1 = start.crpix1;
        crpix2 = start.crpix2;
        cd1_1 = cd.cd1_1;
        cd1_2 = cd.cd1_2;
        cd2_1 = cd.cd2_1;
        cd2_2 = cd.cd2_2;
      };
      order = cd.order;
    }))
    (Err (record { line = errors.next.line }))

-- what the answer of `load` says, with the two lists that it filled
abbrev pub shown_in : Result Shown WrongLine → List Float → List Float → Reading
shown_in (Ok s) xs ys =
    Reading.Shows s.format
    (record { fit = s.fit; wcs = s.wcs; order = s.order; a = take (term_count s.order) xs; b = take (term_count s.order) ys })
shown_in (Err wrong) xs ys = Reading.WrongAt wrong.line

-- an order that it says is fitted
abbrev pub OrderShown : Result Shown WrongLine → Type 0
OrderShown (Ok s) = (2 ≤ s.order) × (s.order ≤ 5)
OrderShown (Err wrong) = Unit {0}

-- how many coefficients it shows on each axis
abbrev pub shown_terms : Result Shown WrongLine → ℕ
shown_terms (Ok s) = term_count s.order
shown_terms (Err wrong) = 0
