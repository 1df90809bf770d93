-- `quad::four_in` meets its contract. Assumes nothing.
use mathlib.Core.Path.{◌∙◌}
use lib.ListN.{length}
use Rattle.quad.proofs.Fours.{shifted, chosen, either_below}
use Rattle.quad.proofs.four_in.Goals as goal

pub place_in-a-requires : goal.place_in-a-requires
place_in-a-requires c =
    let h = c.requires in
    let a = c.args in
    let t = shifted a.xs.now a.ys.now a.s a.pair h in
    rw c.shifts_of-shifts.ensures t.fit.0

pub place_in-b-requires : goal.place_in-b-requires
place_in-b-requires c =
    let h = c.requires in
    let a = c.args in
    let t = shifted a.xs.now a.ys.now a.s a.pair h in
    rw c.shifts_of-shifts.ensures t.fit.1

pub place_in-c-requires : goal.place_in-c-requires
place_in-c-requires c =
    let h = c.requires in
    let a = c.args in
    let t = shifted a.xs.now a.ys.now a.s a.pair h in
    rw c.shifts_of-shifts.ensures t.fit.2

pub place_in-d-requires : goal.place_in-d-requires
place_in-d-requires c =
    let h = c.requires in
    let a = c.args in
    let t = shifted a.xs.now a.ys.now a.s a.pair h in
    rw c.shifts_of-shifts.ensures t.fit.3

pub star_in-requires : goal.star_in-requires
star_in-requires c =
    let h = c.requires in
    let a = c.args in
    let t = shifted a.xs.now a.ys.now a.s a.pair h in rw (c.place_in-a.ensures, c.shifts_of-shifts.ensures) (record { fact_1 = t.a_below; fact_2 = rw h.alike t.a_below })

pub star_in-requires-2 : goal.star_in-requires-2
star_in-requires-2 c =
    let h = c.requires in
    let a = c.args in
    let t = shifted a.xs.now a.ys.now a.s a.pair h in rw (c.place_in-b.ensures, c.shifts_of-shifts.ensures) (record { fact_1 = t.b_below; fact_2 = rw h.alike t.b_below })

pub star_in-requires-3 : goal.star_in-requires-3
star_in-requires-3 c =
    let h = c.requires in
    let a = c.args in
    let t = shifted a.xs.now a.ys.now a.s a.pair h in
    let b = either_below c.in_order-first.result _ _ (length a.xs.now) t.a_below t.b_below in rw (c.either.ensures, c.place_in-a.ensures, c.place_in-b.ensures, c.shifts_of-shifts.ensures) (record { fact_1 = b; fact_2 = rw h.alike b })

pub star_in-requires-4 : goal.star_in-requires-4
star_in-requires-4 c =
    let h = c.requires in
    let a = c.args in
    let t = shifted a.xs.now a.ys.now a.s a.pair h in
    let b = either_below c.in_order-first.result _ _ (length a.xs.now) t.b_below t.a_below in rw (c.either-2.ensures, c.place_in-a.ensures, c.place_in-b.ensures, c.shifts_of-shifts.ensures) (record { fact_1 = b; fact_2 = rw h.alike b })

pub star_in-requires-5 : goal.star_in-requires-5
star_in-requires-5 c =
    let h = c.requires in
    let a = c.args in
    let t = shifted a.xs.now a.ys.now a.s a.pair h in rw (c.place_in-c.ensures, c.shifts_of-shifts.ensures) (record { fact_1 = t.c_below; fact_2 = rw h.alike t.c_below })

pub star_in-requires-6 : goal.star_in-requires-6
star_in-requires-6 c =
    let h = c.requires in
    let a = c.args in
    let t = shifted a.xs.now a.ys.now a.s a.pair h in rw (c.place_in-d.ensures, c.shifts_of-shifts.ensures) (record { fact_1 = t.d_below; fact_2 = rw h.alike t.d_below })

pub returns : goal.returns
returns c =
    let h = c.requires in
    let a = c.args in
    let t = shifted a.xs.now a.ys.now a.s a.pair h in
    let e = rw (c.star_in.ensures, c.star_in-2.ensures, c.place_in-a.ensures, c.place_in-b.ensures, c.shifts_of-shifts.ensures) at c.in_order-first.ensures in
    rw (c.star_in-6.ensures, c.star_in-5.ensures, c.star_in-4.ensures, c.either-2.ensures, c.star_in-3.ensures, c.either.ensures, c.place_in-d.ensures, c.place_in-c.ensures, c.place_in-b.ensures, c.place_in-a.ensures, c.shifts_of-shifts.ensures)
    (chosen a.xs.now a.ys.now _ _ _ _ c.in_order-first.result e ∙ t.are)
