-- One slot: its line is read where it stands, and stands where it is read. Assumes nothing.
use mathlib.Core.Path.{◌≡◌, refl, ◌∙◌}
use mathlib.Core.Bool.{Bool, true, false}
use mathlib.Core.List.{List, [], ◌∷◌, ◌++◌}
use Prim.Native.Nat.{ℕ, ◌+◌}
use native.Mathlib.Omega.{arith}
use lib.ListN.{length, drop}
use lib.Ieee.{binary64, of_bits, to_bits}
use Rattle.text.specs.Lines.{float_line, decimal_line}
use Rattle.scan.specs.declared.Wrong.{Wrong}
use Rattle.std.proofs.Common.{Result, Ok, Err}
use Rattle.scan.specs.Read.{read_bytes}
use Rattle.scan.proofs.Round.{text_read}
use Rattle.scan.proofs.Back.{left_after, read_stands}
use Rattle.scan_fields.proofs.Whole.{float_line_read, decimal_line_read}
use Rattle.record_lines.specs.Table.{Kind, Slot}
use Rattle.record_scan.specs.declared.Spot.{Spot}
use Rattle.record_scan.specs.Slots.{line_for, may_show, blank_of, number_at, missed_line, read_slot}
use Rattle.record_scan.proofs.Laws.{whole_read, bits_read}
use Rattle.record_back.specs.Lines.{Whole64}

-- the two ways of a slot: its line stands, or it does not
pub data Outcome (k : Slot) (s : List ℕ) (c : Spot) : Type 0 where
  stood : (n q : ℕ) → c.good ≡ true → may_show k.kind n ≡ true → drop c.at s ≡ line_for k.kind k.name n ++ drop q s
      → read_slot k s c ≡ record { value = n; next = record { at = q; line = c.line + 1; good = true } } → Outcome k s c
  missed : read_slot k s c ≡ missed_line c k.must (blank_of k.kind) → Outcome k s c

outcome_of : (k : Slot) (s : List ℕ) (c : Spot) (n : ℕ) → number_at k.kind k.name s c.at ≡ n → (g o : Bool) (f : Result ℕ Wrong) → c.good ≡ g → may_show k.kind n ≡ o
    → read_bytes (line_for k.kind k.name n) (drop c.at s) c.at ≡ f → Outcome k s c
unfolding read_slot
outcome_of k s c n en false o f eg eo ef = Outcome.missed (rw (en, eg))
outcome_of k s c n en true false f eg eo ef = Outcome.missed (rw (en, eg, eo))
outcome_of k s c n en true true (Err w) eg eo ef = Outcome.missed (rw (en, eg, eo, ef))
outcome_of k s c n en true true (Ok q) eg eo ef =
    let L = line_for k.kind k.name n in
    Outcome.stood n q eg eo (read_stands L s c.at q ef).0 (rw (en, eg, eo, ef))

pub outcome : (k : Slot) (s : List ℕ) (c : Spot) → Outcome k s c
outcome k s c =
    let n = number_at k.kind k.name s c.at in
    outcome_of k s c n refl c.good (may_show k.kind n) (read_bytes (line_for k.kind k.name n) (drop c.at s) c.at) refl refl refl

-- ---- a line that was written

-- its number is the one that stands there
pub value_read : (k : Kind) (name s : List ℕ) (at n : ℕ) (ys : List ℕ) → Whole64 k n → drop at s ≡ line_for k name n ++ ys → number_at k name s at ≡ n
value_read (Kind.Whole least most) name s at n ys h e =
    let L = decimal_line name n in
    let r : read_bytes L (drop at s) at ≡ Ok (at + length L) = rw e (text_read L ys at) in
    whole_read name (10 ∷ []) s at n (at + length L) (decimal_line_read name s at n (at + length L) h r)
value_read (Kind.Real test) name s at n ys h e =
    let b = to_bits binary64 (of_bits binary64 n) in
    let L = float_line name b in
    let r : read_bytes L (drop at s) at ≡ Ok (at + length L) = rw e (text_read L ys at) in
    bits_read name (10 ∷ []) s at b (at + length L) (float_line_read name s at b (at + length L) (omega (arith, h.0, h.1)) r) ∙ h.0

pub record Stood (k : Slot) (s : List ℕ) (c : Spot) (n : ℕ) (ys : List ℕ) : Type 0 where
  pub is : read_slot k s c ≡ record { value = n; next = record { at = c.at + length (line_for k.kind k.name n); line = c.line + 1; good = true } }
  pub left : drop (c.at + length (line_for k.kind k.name n)) s ≡ ys

pub slot_written : (k : Slot) (s : List ℕ) (c : Spot) (n : ℕ) (ys : List ℕ) → c.good ≡ true → may_show k.kind n ≡ true → Whole64 k.kind n
    → drop c.at s ≡ line_for k.kind k.name n ++ ys → Stood k s c n ys
unfolding read_slot
slot_written k s c n ys eg eo h e =
    let L = line_for k.kind k.name n in
    let b : read_bytes L (drop c.at s) c.at ≡ Ok (c.at + length L) = rw e (text_read L ys c.at) in
    record {
      is = rw (value_read k.kind k.name s c.at n ys h e, eg, eo, b);
      left = left_after L s ys c.at e;
    }
