-- `index_near::gather_near` meets its contract: a quad with no lane at an end has three ranges, and another its 81 keys, of which each nine have two lanes alike. Assumes nothing.
use Rattle.std.proofs.Common.{◌≡◌, true, false, sym, ap, ◌∙◌}
use Rattle.index_table.specs.Table.{quad_key}
use Rattle.index_near.specs.Near.{inner}
use Rattle.index_near.proofs.Ranges.{quad_room, near_inner, near_ends, same_keys}
use Rattle.index_near.proofs.Keys.{nines_near}
use Rattle.hash_lanes.specs.Lanes.{hash_at}
use Rattle.quad_key.specs.Key.{neighbour_keys}
use Rattle.index_near.proofs.gather_near.Goals as goal

pub overflow_sub-key : goal.overflow_sub-key
overflow_sub-key c = let a = c.args in
    let e : inner (quad_key a.hashes.now a.i) ≡ true = rw c.key_at-key.ensures at (sym c.is_inner.ensures ∙ c.if-is_inner.true) in
    rw c.key_at-key.ensures (quad_room a.hashes.now a.i e).0

pub gather_three-requires : goal.gather_three-requires
gather_three-requires c = let a = c.args in
    let e : inner (quad_key a.hashes.now a.i) ≡ true = rw c.key_at-key.ensures at (sym c.is_inner.ensures ∙ c.if-is_inner.true) in record {
      fact_1 = c.requires.fact_1;
      fact_2 = rw c.key_at-key.ensures (quad_room a.hashes.now a.i e).1;
      fact_3 = rw c.key_at-key.ensures (rw (near_inner a.table.now a.m a.hashes.now a.i e) at c.requires.fact_3);
    }

pub returns-then-is_inner : goal.returns-then-is_inner
returns-then-is_inner c = let a = c.args in
    let e : inner (quad_key a.hashes.now a.i) ≡ true = rw c.key_at-key.ensures at (sym c.is_inner.ensures ∙ c.if-is_inner.true) in
    rw (near_inner a.table.now a.m a.hashes.now a.i e) (rw c.key_at-key.ensures at c.gather_three.ensures)

pub gather_keys-requires : goal.gather_keys-requires
gather_keys-requires c = let a = c.args in
    let e : inner (quad_key a.hashes.now a.i) ≡ false = rw c.key_at-key.ensures at (sym c.is_inner.ensures ∙ c.if-is_inner.false) in
    let h = hash_at a.hashes.now a.i in
    let own : c.keys_of-keys.result ≡ neighbour_keys h = c.keys_of-keys.ensures.1 ∙ ap neighbour_keys c.hash_at.ensures in
    let k = same_keys a.table.now a.m h c.keys_of-keys.result own in record { fact_1 = c.requires.fact_1; fact_2 = c.keys_of-keys.ensures.0; fact_3 = nines_near h c.keys_of-keys.result own; fact_4 = rw (k, ← near_ends a.table.now a.m a.hashes.now a.i e) c.requires.fact_3 }

pub returns : goal.returns
returns c = let a = c.args in
    let e : inner (quad_key a.hashes.now a.i) ≡ false = rw c.key_at-key.ensures at (sym c.is_inner.ensures ∙ c.if-is_inner.false) in
    let k = same_keys a.table.now a.m (hash_at a.hashes.now a.i) c.keys_of-keys.result (c.keys_of-keys.ensures.1 ∙ ap neighbour_keys c.hash_at.ensures) in
    rw (near_ends a.table.now a.m a.hashes.now a.i e, ← k) c.gather_keys.ensures
