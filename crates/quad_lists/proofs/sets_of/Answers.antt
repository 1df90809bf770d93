-- `quad_lists::sets_of` meets its contract. Assumes nothing.
use Prim.Native.Nat.{◌*◌}
use mathlib.Core.Path.{◌∙◌, refl}
use native.Mathlib.Omega.{arith}
use Rattle.quad_lists.proofs.Rows.{part_is, few_row}
use Rattle.quad_lists.proofs.Cells.{near_below, table_is, seed_sets}
use Rattle.quad_lists.proofs.sets_of.Goals as goal

pub put_cells-requires : goal.put_cells-requires
put_cells-requires c =
    let a = c.args in
    let g = c.requires.1 in
    let e = part_is a.lists.now (a.seed * 10) a.c in (
      refl,
      g.long_w,
      omega (arith, g.most, c.requires.2),
      rw e (few_row a.lists.now a.c a.seed g.few),
      rw e (λ b h. let k = near_below a.n a.c a.seed a.lists.now a.words.now g c.requires.2 b h in omega (arith, g.most)),
    )

pub new_sets-requires : goal.new_sets-requires
new_sets-requires c =
    let a = c.args in
    let g = c.requires.1 in
    let v = c.put_cells in
    let e = part_is a.lists.now (a.seed * 10) a.c in
    let t = table_is a.n a.c a.seed a.lists.now a.words.now g c.requires.2 v.new.cells (rw e at v.ensures) in
    let f = seed_sets a.n a.c a.seed a.lists.now a.words.now g c.requires.2 v.new.cells t in
    (v.auto.cells, rw e (few_row a.lists.now a.c a.seed g.few), rw e (omega (arith, f.1, c.requires.0)))

pub returns : goal.returns
returns c =
    let a = c.args in
    let g = c.requires.1 in
    let v = c.put_cells in
    let e = part_is a.lists.now (a.seed * 10) a.c in
    let t = table_is a.n a.c a.seed a.lists.now a.words.now g c.requires.2 v.new.cells (rw e at v.ensures) in
    let f = seed_sets a.n a.c a.seed a.lists.now a.words.now g c.requires.2 v.new.cells t in
    let w = rw e at c.new_sets.ensures in
    (omega (arith, w.0, f.1), w.1 ∙ f.0)
