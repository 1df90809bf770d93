-- `quad_lists::bit_of` meets its contract. Assumes nothing.
use native.Mathlib.Omega.{arith}
use Rattle.quad_lists.proofs.Bits.{no_bit, one_bit}
use Rattle.quad_lists.proofs.bit_of.Goals as goal

pub returns-then-q-from : goal.returns-then-q-from
returns-then-q-from c = λ v h. no_bit _ _ v (λ e. omega arith)

pub returns-then-v-lt64 : goal.returns-then-v-lt64
returns-then-v-lt64 c = λ v h. one_bit c.args.q c.args.from v (omega arith) (omega arith)

pub returns-else-v-lt64 : goal.returns-else-v-lt64
returns-else-v-lt64 c = λ v h. no_bit _ _ v (λ e. omega arith)
