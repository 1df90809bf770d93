-- `aggregate_votes::same_id` meets its contract. Assumes nothing.
use Rattle.aggregate_votes.proofs.Ids.{same_yes, same_no}
use mir.Syntax.{w64}
use mir.Val.{to_z, of_z}
use mir.ValLaws.{to_z-of_z}
use mathlib.Core.Path.{◌≡◌, ◌∙◌, refl, sym, ap}
use mathlib.Core.Bool.{Bool, true, false}
use lib.Dec.{eqb}
use borrow.Author.Tests.{eqb-true, eqb-false}
use Rattle.aggregate_votes.specs.Votes.{same_id}
use Rattle.aggregate_votes.proofs.same_id.Goals as goal

pub returns : goal.returns
returns c = go (eqb (of_z w64 c.args.a) (of_z w64 c.args.b)) (eqb-true _ _) (eqb-false _ _)
  where
    go : (t : Bool) → (t ≡ true → of_z w64 c.args.a ≡ of_z w64 c.args.b) → (t ≡ false → of_z w64 c.args.a ≡ of_z w64 c.args.b → ⊥) → t ≡ same_id c.args.a c.args.b
    go true y n = sym (same_yes _ _ (sym (to_z-of_z w64 c.args.a c.ranges.a) ∙ ap (to_z w64) (y refl) ∙ to_z-of_z w64 c.args.b c.ranges.b))
    go false y n = sym (same_no c.args.a c.args.b (λ e. n refl (ap (of_z w64) e)))
