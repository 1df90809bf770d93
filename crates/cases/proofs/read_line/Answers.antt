-- `cases::read_line`: a newline, the end of the stream and the end of the room, and a byte more. Assumes nothing.
use Rattle.std.proofs.Common.{◌≡◌, ◌≤◌, Ok, length, arith, sym, ap, subst, length-take-le}
use Rattle.std.proofs.Math.ListN.{length-set}
use Rattle.std.specs.Io.KnownBytes.{Consumes}
use Rattle.std.proofs.KnownBytes.{Consumes-trans}
use Rattle.cases.proofs.Lines.{more_bytes, none_more, line_full, line_last, line_ended}
use Rattle.cases.proofs.read_line.Goals as goal

pub returns-in_default-clause-line : goal.returns-in_default-clause-line
returns-in_default-clause-line g c =
    let h : c.loop-n.n ≤ length c.loop-n.out = omega arith in
    line_last _ _ _ _ c.loop-n.invariant.moved c.loop-n.invariant.none (omega (arith, length-take-le _ _ h)) (c.in_ok-b.ensures.end (ap Ok c.in_default.is))

pub returns-then-b-eq10-clause-line : goal.returns-then-b-eq10-clause-line
returns-then-b-eq10-clause-line g c =
    let h : c.loop-n.n ≤ length c.loop-n.out = omega arith in
    line_ended _ _ _ _ _ c.in-Some.b _ c.loop-n.invariant.moved c.loop-n.invariant.none
    (omega (arith, length-take-le _ _ h, length-set c.loop-n.out c.loop-n.n c.in-Some.b))
    (rw c.in-Some.is at c.in_ok-b.ensures.some) c.if-b-eq10.true (more_bytes _ _ _ (omega arith))

pub loop-n-preserved : goal.loop-n-preserved
loop-n-preserved g c = record {
  none = none_more _ _ _ (omega arith) c.loop-n.invariant.none c.if-b-eq10.false;
  moved = subst (Consumes _ _) (sym (more_bytes c.loop-n.out c.loop-n.n c.in-Some.b (omega arith))) (Consumes-trans _ _ _ _ _ c.loop-n.invariant.moved (rw c.in-Some.is at c.in_ok-b.ensures.some));
}

pub returns-clause-line : goal.returns-clause-line
returns-clause-line g c =
    let h : c.loop-n.n ≤ length c.loop-n.out = omega arith in
    let all : length c.loop-n.out ≡ c.loop-n.n = omega arith in
    rw all (line_full _ _ _ _ c.loop-n.invariant.moved c.loop-n.invariant.none (omega (arith, length-take-le _ _ h)))
