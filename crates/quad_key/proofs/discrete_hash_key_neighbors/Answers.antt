-- `quad_key::discrete_hash_key_neighbors` meets its contract: a refusal stores nothing, and three runs of 27 stores make the list. Assumes nothing.
use Rattle.std.proofs.Common.{refl, lt-ltb}
use Rattle.quad_key.proofs.Keys.{done}
use Rattle.quad_key.proofs.discrete_hash_key_neighbors.Goals as goal

pub returns-then-keys-lt81 : goal.returns-then-keys-lt81
returns-then-keys-lt81 c = rw (lt-ltb _ _ c.if-keys-lt81.true) (record { answer = refl; after = refl })

pub returns : goal.returns
returns c =
    let a = c.args in let it = done a.h a.keys.now c.three_lanes-a.result c.three_lanes-b.result c.three_lanes-c.result c.three_lanes-d.result
    c.three_lanes-a.ensures c.three_lanes-b.ensures c.three_lanes-c.ensures c.three_lanes-d.ensures
    c.if-keys-lt81.false c.write_27.ensures c.write_27-2.ensures c.write_27-3.ensures in record { answer = it.0; after = it.1 }
