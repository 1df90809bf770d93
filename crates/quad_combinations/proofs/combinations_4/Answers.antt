-- `combinations_4` meets its contract: the refusal, no set, and the first. Assumes nothing.
use native.Mathlib.Omega.{arith}
use borrow.Author.Tests.{lt-ltb, le-ltb}
use Rattle.quad_combinations.specs.Combinations.{start_of}
use Rattle.quad_combinations.proofs.combinations_4.Goals as goal

pub returns-then-n-gt-MOST : goal.returns-then-n-gt-MOST
unfolding start_of
returns-then-n-gt-MOST c = rw (lt-ltb 100 c.args.n (omega arith))

pub returns-then-n-lt4 : goal.returns-then-n-lt4
unfolding start_of
returns-then-n-lt4 c = rw (c.state_past.ensures, le-ltb 100 c.args.n (omega arith), lt-ltb c.args.n 4 (omega arith))

pub returns : goal.returns
unfolding start_of
returns c = rw (c.state_at.ensures, le-ltb 100 c.args.n (omega arith), le-ltb c.args.n 4 (omega arith))
