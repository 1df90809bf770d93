-- `quad_key::write_27` meets its contract: three runs of nine stores. Assumes nothing.
use Rattle.std.proofs.Common.{◌+◌, ◌*◌, ◌^◌, refl}
use Rattle.quad_key.specs.Steps.{nine_keys}
use Rattle.quad_key.proofs.Stores.{thrice}
use Rattle.quad_key.proofs.write_27.Goals as goal

pub returns : goal.returns
returns c =
    let a = c.args in
    thrice a.keys.now a.at 9
    (nine_keys (a.low + a.b.less * 2 ^ 16) a.c a.d)
    (nine_keys (a.low + a.b.own * 2 ^ 16) a.c a.d)
    (nine_keys (a.low + a.b.more * 2 ^ 16) a.c a.d)
    refl refl c.write_9.ensures c.write_9-2.ensures c.write_9-3.ensures
