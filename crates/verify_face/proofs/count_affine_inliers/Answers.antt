-- `verify_face::count_affine_inliers` meets its contract: six numbers make an affine, and then the inner call decides. Assumes nothing.
use mathlib.Core.Path.{refl}
use borrow.Author.Tests.{eq-eqb, ne_eqb}
use Rattle.verify_face.proofs.count_affine_inliers.Goals as goal

pub returns-then-few_rows : goal.returns-then-few_rows
returns-then-few_rows c = rw (ne_eqb _ _ c.if-affine-ne6.true, ← c.few_rows.ensures, c.if-few_rows.true) (record { number = c.number.ensures; inliers = refl })

pub returns-then-affine-ne6 : goal.returns-then-affine-ne6
returns-then-affine-ne6 c = rw (ne_eqb _ _ c.if-affine-ne6.true, ← c.few_rows.ensures, c.if-few_rows.false) (record { number = c.number-then-affine-ne6.ensures; inliers = refl })

pub returns-in-Err : goal.returns-in-Err
returns-in-Err c =
    let same = c.affine_in.ensures in rw (eq-eqb _ _ c.if-affine-ne6.false, ← same, ← c.count_affine_inliers.ensures, c.in-Err.is) (record { number = c.number-in-Err.ensures; inliers = refl })

pub returns-in-Ok : goal.returns-in-Ok
returns-in-Ok c =
    let same = c.affine_in.ensures in rw (eq-eqb _ _ c.if-affine-ne6.false, ← same, ← c.count_affine_inliers.ensures, c.in-Ok.is) (record { number = refl; inliers = refl })
