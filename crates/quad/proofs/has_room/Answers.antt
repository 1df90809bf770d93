-- `quad::has_room` meets its contract. Assumes nothing.
use Prim.Native.Nat.{◌≤◌}
use mathlib.Core.Path.{sym}
use native.Mathlib.Omega.{arith}
use borrow.Author.Tests.{le-leb}
use lib.ListN.{length}
use Rattle.quad_lists.specs.Lists.{listed}
use Rattle.quad_lists.proofs.All.{listed_most}
use Rattle.quad.specs.Quads.{all_places}
use Rattle.quad.proofs.Laws.{few_places}
use Rattle.quad.proofs.has_room.Goals as goal

pub returns-then-xs-room : goal.returns-then-xs-room
returns-then-xs-room c =
    let a = c.args in
    let s = listed a.lists.now a.c (length a.xs.now) in
    let e = few_places a.xs.now a.ys.now a.least s in
    let f = listed_most a.lists.now a.c (length a.xs.now) c.requires.held.few in
    let g : length (all_places a.xs.now a.ys.now a.least s) ≤ a.room = omega (arith, e, f) in
    sym (le-leb _ _ g)

pub returns : goal.returns
returns c = rw (← c.needed_all.ensures)
