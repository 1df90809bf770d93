-- `quad_key::write_9` meets its contract: three runs of three stores. Assumes nothing.
use Rattle.std.proofs.Common.{◌+◌, ◌*◌, ◌^◌, refl}
use Rattle.quad_key.specs.Steps.{three_keys}
use Rattle.quad_key.proofs.Stores.{thrice}
use Rattle.quad_key.proofs.write_9.Goals as goal

pub returns : goal.returns
returns c =
    let a = c.args in
    thrice a.keys.now a.at 3
    (three_keys (a.low + a.c.less * 2 ^ 32) a.d)
    (three_keys (a.low + a.c.own * 2 ^ 32) a.d)
    (three_keys (a.low + a.c.more * 2 ^ 32) a.d)
    refl refl c.write_3.ensures c.write_3-2.ensures c.write_3-3.ensures
