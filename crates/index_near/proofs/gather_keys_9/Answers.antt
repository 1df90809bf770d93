-- `index_near::gather_keys_9` meets its contract: nine keys with two lanes alike stand between two places of the table; where there is no entry they give nothing. Assumes nothing.
use borrow.Author.Tests.{not-true}
use Rattle.std.proofs.Common.{ℕ, ◌+◌, [], get_or, sym, refl, ◌∙◌, arith}
use Rattle.hash_near.specs.Over.{over}
use Rattle.hash_near.proofs.Over.{append_nil, over_add}
use Rattle.hash_near.proofs.Near.{start, step, ended, none_more}
use Rattle.index_near.specs.Near.{one_hits}
use Rattle.index_near.proofs.Ranges.{after, room}
use Rattle.index_near.proofs.Keys.{next_three, group_of, group_none, group_between, three_between}
use mathlib.Core.Path.{ap}
use mathlib.Core.Bool.{not}
use Rattle.index_near.proofs.gather_keys_9.Goals as goal

pub returns-then-not-is_within : goal.returns-then-not-is_within
returns-then-not-is_within c = let a = c.args in
    none_more a.found.now a.n _ (group_none (λ n. get_or a.keys.now n 0) a.e c.turn.result c.turn.ensures c.requires.fact_4 c.lower-lo.ensures c.requires.fact_1 (sym c.is_within.ensures ∙ not-true _ (ap not c.if-not-is_within.true)))

pub lower-hi-requires : goal.lower-hi-requires
lower-hi-requires c = record { fact_1 = c.requires.fact_1; fact_2 = after c.lower-lo.ensures (group_of c.turn.result + 4294967295) (omega arith) }

pub gather_keys_3-p-requires : goal.gather_keys_3-p-requires
gather_keys_3-p-requires c = let a = c.args in
    let key : ℕ → ℕ = λ n. get_or a.keys.now n 0 in
    let f = one_hits a.table.now a.m key in
    let b = group_between key a.e c.turn.result c.turn.ensures c.requires.fact_4 c.lower-lo.ensures c.lower-hi.ensures in record { fact_1 = c.requires.fact_1; fact_2 = omega arith; fact_3 = c.requires.fact_3; fact_4 = (λ j h. b j (omega arith)); fact_5 = room (start a.found.now a.n (over f a.e 9)) (over f a.e 3) (over f (a.e + 3) 6) (over_add f a.e 3 6) c.requires.fact_5 }

pub gather_keys_3-q-requires : goal.gather_keys_3-q-requires
gather_keys_3-q-requires c = let a = c.args in
    let key : ℕ → ℕ = λ n. get_or a.keys.now n 0 in
    let f = one_hits a.table.now a.m key in
    let u = c.gather_keys_3-p in
    let b = three_between key a.e c.turn.result c.turn.ensures c.requires.fact_4 c.lower-lo.ensures c.lower-hi.ensures in
    let s = step (start a.found.now a.n (over f a.e 9)) (over f a.e 3) (over f (a.e + 3) 6) u.new.found u.result (over_add f a.e 3 6) u.auto.found u.ensures in record { fact_1 = c.requires.fact_1; fact_2 = omega arith; fact_3 = c.requires.fact_3; fact_4 = b 3 (omega arith); fact_5 = room s (over f (a.e + 3) 3) (over f (a.e + 6) 3) (next_three f a.e) c.requires.fact_5 }

pub overflow_add-e-2 : goal.overflow_add-e-2
overflow_add-e-2 c = omega (arith, c.requires.fact_2, c.requires.fact_3)

pub gather_keys_3-requires : goal.gather_keys_3-requires
gather_keys_3-requires c = let a = c.args in
    let key : ℕ → ℕ = λ n. get_or a.keys.now n 0 in
    let f = one_hits a.table.now a.m key in
    let u = c.gather_keys_3-p in
    let v = c.gather_keys_3-q in
    let b = three_between key a.e c.turn.result c.turn.ensures c.requires.fact_4 c.lower-lo.ensures c.lower-hi.ensures in
    let s = step (start a.found.now a.n (over f a.e 9)) (over f a.e 3) (over f (a.e + 3) 6) u.new.found u.result (over_add f a.e 3 6) u.auto.found u.ensures in
    let t = step s (over f (a.e + 3) 3) (over f (a.e + 6) 3) v.new.found v.result (next_three f a.e) v.auto.found v.ensures in record { fact_1 = c.requires.fact_1; fact_2 = omega arith; fact_3 = c.requires.fact_3; fact_4 = b 6 (omega arith); fact_5 = room t (over f (a.e + 6) 3) [] (sym (append_nil (over f (a.e + 6) 3))) c.requires.fact_5 }

pub returns : goal.returns
returns c = let a = c.args in
    let f = one_hits a.table.now a.m (λ n. get_or a.keys.now n 0) in
    let u = c.gather_keys_3-p in
    let v = c.gather_keys_3-q in
    let w = c.gather_keys_3 in
    let s = step (start a.found.now a.n (over f a.e 9)) (over f a.e 3) (over f (a.e + 3) 6) u.new.found u.result (over_add f a.e 3 6) u.auto.found u.ensures in
    let t = step s (over f (a.e + 3) 3) (over f (a.e + 6) 3) v.new.found v.result (next_three f a.e) v.auto.found v.ensures in
    let x = step t (over f (a.e + 6) 3) [] w.new.found w.result (sym (append_nil (over f (a.e + 6) 3))) w.auto.found w.ensures in
    ended x refl
