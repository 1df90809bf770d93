-- `floats::floor` meets its contract. Assumes nothing.
use mathlib.Core.Path.{◌≡◌, refl, sym, subst, ◌∙◌}
use mathlib.Core.Bool.{true, false}
use lib.Dec.{T}
use lib.Ieee.{Float, binary64, fits, lt, neg, of_bits}
use Rattle.floats.proofs.Tests.{yes}
use Rattle.floats.proofs.Floors.{most, least, held_high, held_under, held_none}
use Rattle.floats.proofs.Held.{held_is}
use Rattle.floats.proofs.floor.Goals.{Start, Then-x}
use Rattle.floats.proofs.floor.Goals as goal

-- what owning an f64 tells: the format holds it
held : (c : Start) → T (fits binary64 c.args.x)
held c = subst T (sym c.well_formed.0.1) tt

most-is : of_bits binary64 0x41df_ffff_ffc0_0000 ≡ most
unfolding of_bits
most-is = refl

least-is : neg (of_bits binary64 0x41e0_0000_0000_0000) ≡ least
unfolding of_bits neg
least-is = refl

below : (c : Then-x) → lt c.args.x most ≡ true
below c = subst (λ (v : Float). lt c.args.x v ≡ true) most-is c.if-x.true

pub floor_inside-requires : goal.floor_inside-requires
floor_inside-requires c = (subst (λ (v : Float). T (lt v c.args.x)) least-is (yes c.if-x-2.true), yes (below c.before))

pub returns-then-x : goal.returns-then-x
returns-then-x c =
    let x = c.args.x in
    held_under x (below c.before) (subst (λ (v : Float). lt v x ≡ false) least-is c.if-x-2.false) ∙ held_is x (held c.before.before)

pub returns-then-x-3 : goal.returns-then-x-3
returns-then-x-3 c =
    let x = c.args.x in
    held_high x (subst (λ (v : Float). lt x v ≡ false) most-is c.if-x.false) c.if-x-3.true ∙ held_is x (held c.before.before)

pub returns : goal.returns
returns c =
    held_none c.args.x c.if-x-3.false ∙ held_is c.args.x (held c.before.before)
