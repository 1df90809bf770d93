-- `aggregate_votes::same_at` meets its contract. Assumes nothing.
use mir.Syntax.{w64}
use mir.ValLaws.{to_z-of_z}
use mathlib.Core.Path.{◌∙◌}
use borrow.Author.Rules.{sfits_of}
use Rattle.aggregate_votes.proofs.same_at.Goals as goal

pub returns : goal.returns
returns c = rw (← c.result_id.ensures, ← c.result_id-2.ensures) (c.same_id.ensures ∙ rw (to_z-of_z w64 c.result_id.result (sfits_of c.result_id.type_inv), to_z-of_z w64 c.result_id-2.result (sfits_of c.result_id-2.type_inv)))
