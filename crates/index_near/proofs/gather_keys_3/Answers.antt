-- `index_near::gather_keys_3` meets its contract: three keys that are consecutive numbers are one run, and else they are found one after the other. Assumes nothing.
use Rattle.std.proofs.Common.{ℕ, ◌+◌, [], get_or, refl, arith}
use Rattle.hash_near.specs.Over.{over}
use Rattle.hash_near.proofs.Near.{start, step, ended}
use Rattle.index_near.specs.Near.{one_hits}
use Rattle.index_near.proofs.Ranges.{room}
use Rattle.index_near.proofs.Keys.{first_of, second_of, third_of, at_first, run_is}
use Rattle.index_near.proofs.gather_keys_3.Goals as goal

pub gather_range-requires : goal.gather_range-requires
gather_range-requires c = let a = c.args in
    let key : ℕ → ℕ = λ n. get_or a.keys.now n 0 in
    (c.requires.fact_1, (rw c.turn-a.ensures (at_first key a.e c.requires.fact_4), rw (run_is c.requires.fact_1 key a.e _ _ _ _ c.turn-a.ensures c.turn-b.ensures c.turn-c.ensures c.if-a-b.true c.wrapping_sub_u64.ensures.value) c.requires.fact_5))

pub returns-then-a-b : goal.returns-then-a-b
returns-then-a-b c = let a = c.args in
    rw (run_is c.requires.fact_1 (λ n. get_or a.keys.now n 0) a.e _ _ _ _ c.turn-a.ensures c.turn-b.ensures c.turn-c.ensures c.if-a-b.true c.wrapping_sub_u64.ensures.value) at c.gather_range.ensures

pub gather_range-p-requires : goal.gather_range-p-requires
gather_range-p-requires c = let a = c.args in
    let key : ℕ → ℕ = λ n. get_or a.keys.now n 0 in
    let f = one_hits a.table.now a.m key in
    (c.requires.fact_1, rw c.turn-a.ensures (at_first key a.e c.requires.fact_4, room (start a.found.now a.n (over f a.e 3)) (f a.e) (over f (a.e + 1) 2) (first_of f a.e) c.requires.fact_5))

pub gather_range-q-requires : goal.gather_range-q-requires
gather_range-q-requires c = let a = c.args in
    let f = one_hits a.table.now a.m (λ n. get_or a.keys.now n 0) in
    let u = c.gather_range-p in
    let s = step (start a.found.now a.n (over f a.e 3)) (f a.e) (over f (a.e + 1) 2) u.new.found u.result (first_of f a.e) u.auto.found (rw c.turn-a.ensures at u.ensures) in
    (c.requires.fact_1, rw c.turn-b.ensures (c.requires.fact_4 1 (omega arith), room s (f (a.e + 1)) (over f (a.e + 2) 1) (second_of f a.e) c.requires.fact_5))

pub gather_range-requires-2 : goal.gather_range-requires-2
gather_range-requires-2 c = let a = c.args in
    let f = one_hits a.table.now a.m (λ n. get_or a.keys.now n 0) in
    let u = c.gather_range-p in
    let v = c.gather_range-q in
    let s = step (start a.found.now a.n (over f a.e 3)) (f a.e) (over f (a.e + 1) 2) u.new.found u.result (first_of f a.e) u.auto.found (rw c.turn-a.ensures at u.ensures) in
    let t = step s (f (a.e + 1)) (over f (a.e + 2) 1) v.new.found v.result (second_of f a.e) v.auto.found (rw c.turn-b.ensures at v.ensures) in
    (c.requires.fact_1, rw c.turn-c.ensures (c.requires.fact_4 2 (omega arith), room t (f (a.e + 2)) [] (third_of f a.e) c.requires.fact_5))

pub returns : goal.returns
returns c = let a = c.args in
    let f = one_hits a.table.now a.m (λ n. get_or a.keys.now n 0) in
    let u = c.gather_range-p in
    let v = c.gather_range-q in
    let w = c.gather_range-2 in
    let s = step (start a.found.now a.n (over f a.e 3)) (f a.e) (over f (a.e + 1) 2) u.new.found u.result (first_of f a.e) u.auto.found (rw c.turn-a.ensures at u.ensures) in
    let t = step s (f (a.e + 1)) (over f (a.e + 2) 1) v.new.found v.result (second_of f a.e) v.auto.found (rw c.turn-b.ensures at v.ensures) in
    let x = step t (f (a.e + 2)) [] w.new.found w.result (third_of f a.e) w.auto.found (rw c.turn-c.ensures at w.ensures) in
    ended x refl
