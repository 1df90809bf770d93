-- `record_reader::load` meets its contract: each part is read where the one before it ends. Assumes nothing.
use Rattle.record_reader.proofs.Laws.{loaded}
use Rattle.sip_terms.proofs.Places.{few_terms}
use lib.Seq.{length-take-le}
use lib.ListN.{length}
use Prim.Native.Nat.{◌≤◌}
use mathlib.Core.Path.{sym, ◌∙◌}
use native.Mathlib.Omega.{arith}
use Rattle.record_reader.proofs.load.Goals as goal

pub slice_bounds-read_terms-end : goal.slice_bounds-read_terms-end
slice_bounds-read_terms-end c = omega (arith, c.term_count-n.ensures, few_terms c.read_cd-cd.result.order c.read_cd-cd.ensures.3, c.requires.0)

pub slice_bounds-read_terms-end-2 : goal.slice_bounds-read_terms-end-2
slice_bounds-read_terms-end-2 c = sym (length-take-le c.term_count-n.result c.args.xs.now (omega (arith, c.term_count-n.ensures, few_terms c.read_cd-cd.result.order c.read_cd-cd.ensures.3, c.requires.0)))

pub read_terms-here-requires : goal.read_terms-here-requires
read_terms-here-requires c = (omega (arith, length-take-le c.term_count-n.result c.args.xs.now (omega (arith, c.term_count-n.ensures, few_terms c.read_cd-cd.result.order c.read_cd-cd.ensures.3, c.requires.0)), c.term_count-n.ensures, few_terms c.read_cd-cd.result.order c.read_cd-cd.ensures.3), omega (arith, c.read_cd-cd.ensures.1))

pub slice_bounds-read_terms-end-3 : goal.slice_bounds-read_terms-end-3
slice_bounds-read_terms-end-3 c = omega (arith, c.term_count-n.ensures, few_terms c.read_cd-cd.result.order c.read_cd-cd.ensures.3, c.requires.1)

pub slice_bounds-read_terms-end-4 : goal.slice_bounds-read_terms-end-4
slice_bounds-read_terms-end-4 c = sym (length-take-le c.term_count-n.result c.args.ys.now (omega (arith, c.term_count-n.ensures, few_terms c.read_cd-cd.result.order c.read_cd-cd.ensures.3, c.requires.1)))

pub read_terms-there-requires : goal.read_terms-there-requires
read_terms-there-requires c = (omega (arith, length-take-le c.term_count-n.result c.args.ys.now (omega (arith, c.term_count-n.ensures, few_terms c.read_cd-cd.result.order c.read_cd-cd.ensures.3, c.requires.1)), c.term_count-n.ensures, few_terms c.read_cd-cd.result.order c.read_cd-cd.ensures.3), omega (arith, c.read_cd-cd.ensures.1, c.read_terms-here.ensures.2))

pub read_errors-errors-requires : goal.read_errors-errors-requires
read_errors-errors-requires c = omega (arith, c.read_cd-cd.ensures.1, c.read_terms-here.ensures.2, c.read_terms-there.ensures.2)

pub returns : goal.returns
returns c = let n = c.term_count-n.result in
    let nx : n ≤ length c.args.xs.now = omega (arith, c.term_count-n.ensures, few_terms c.read_cd-cd.result.order c.read_cd-cd.ensures.3, c.requires.0) in
    let ny : n ≤ length c.args.ys.now = omega (arith, c.term_count-n.ensures, few_terms c.read_cd-cd.result.order c.read_cd-cd.ensures.3, c.requires.1) in
    let r = loaded c.args.s.now c.read_start-start.result c.read_cd-cd.result c.read_errors-errors.result n c.read_terms-here.result c.read_terms-there.result c.args.xs.now c.args.ys.now _ _ c.whole.result
    c.read_start-start.ensures.0 c.read_cd-cd.ensures.0 c.term_count-n.ensures (length-take-le n c.args.xs.now nx) (length-take-le n c.args.ys.now ny)
    c.read_terms-here.ensures.0 c.read_terms-here.ensures.1 c.read_terms-there.ensures.0 c.read_terms-there.ensures.1 c.read_errors-errors.ensures c.whole.ensures c.read_cd-cd.ensures.2 c.read_cd-cd.ensures.3 nx ny in
    (r.0, r.1, r.2 ∙ c.requires.0, r.3 ∙ c.requires.1)
