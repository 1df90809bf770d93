-- `sip_rounds::fit_rounds` meets its contract: what is left of the rounds, from the mask at hand, comes to the whole. Assumes nothing.
use Rattle.sip_rounds.proofs.Turns.{round_failed, round_ended, round_goes_on, errors_kept, round_last}
use Rattle.sip_sums.specs.Field.{field}
use Rattle.rows.specs.Rows.{rows}
use native.Mathlib.Omega.{arith}
use mathlib.Core.Path.{◌≡◌, ◌∙◌, sym}
use Prim.Native.Nat.{ℕ}
use Rattle.sip_rounds.proofs.fit_rounds.Goals as goal

pub solve_errors-r-requires : goal.solve_errors-r-requires
solve_errors-r-requires c = let l = c.loop-round in record { py_len_1 = c.requires.py_len_1; py_len_2 = c.requires.py_len_2; py_len_3 = c.requires.py_len_3; py_len_4 = c.requires.py_len_4; py_len_5 = l.invariant.2; errors_len_1 = l.invariant.3; errors_len_2 = c.requires.errors_len_2; errors_len_3 = l.invariant.4; errors_len_4 = l.invariant.5; errors_len_5 = c.requires.errors_len_5; powers = c.requires.powers; lines = c.requires.lines }

pub returns-in-Err : goal.returns-in-Err
returns-in-Err c = let g = c.args in let l = c.loop-round in let p = c.solve_errors-r in record { ended = sym (sym l.invariant.0 ∙ round_failed (field (rows g.px.now g.py.now g.xi.now g.eta.now) g.snr.now g.wcs) g.n l.round l.mask p.result p.new.a p.new.b p.ensures.solved _ c.loop-round-test.true c.in-Err.is); errors = λ e. let z : ◌≡◌ {A = ℕ} 0 1 = cc in absurd (omega arith) }

pub clip-requires : goal.clip-requires
clip-requires c = let l = c.loop-round in let p = c.solve_errors-r in record { snr_len = ((c.requires.py_len_4 ∙ sym l.invariant.2), (p.auto.errors ∙ l.invariant.3 ∙ sym l.invariant.2), omega (arith, l.invariant.2, c.requires.errors_len_5)); roots_value = c.requires.roots_value }

pub returns-then-clip-eq0 : goal.returns-then-clip-eq0
returns-then-clip-eq0 c = let g = c.args in let l = c.loop-round in let p = c.solve_errors-r in let t = c.clip in
    let f = field (rows g.px.now g.py.now g.xi.now g.eta.now) g.snr.now g.wcs in
    let x = p.new.a in let y = p.new.b in
    let d = c.in_default.is in record { ended = sym (sym l.invariant.0 ∙ round_ended f g.n l.round l.mask p.result x y p.ensures.solved p.new.errors t.new.mask t.result c.loop-round-test.true d (p.ensures.errors d) t.ensures c.if-clip-eq0.true); errors = λ e. errors_kept f g.n l.round l.mask p.result x y p.ensures.solved p.new.errors t.new.mask t.result c.loop-round-test.true d (p.ensures.errors d) t.ensures c.if-clip-eq0.true l.invariant.2 }

pub loop-round-preserved : goal.loop-round-preserved
loop-round-preserved c = let g = c.args in let l = c.loop-round in let p = c.solve_errors-r in let t = c.clip in
    let f = field (rows g.px.now g.py.now g.xi.now g.eta.now) g.snr.now g.wcs in
    let x = p.new.a in let y = p.new.b in
    let d = c.in_default.is in (
      sym (sym l.invariant.0 ∙ round_goes_on f g.n l.round l.mask p.result x y p.ensures.solved p.new.errors t.new.mask t.result c.loop-round-test.true d (p.ensures.errors d) t.ensures c.if-clip-eq0.false),
      omega (arith, c.loop-round-test.true),
      t.auto.mask ∙ l.invariant.2,
      p.auto.errors ∙ l.invariant.3,
      p.auto.a ∙ l.invariant.4,
      p.auto.b ∙ l.invariant.5,
      l.invariant.6,
      l.invariant.7,
      l.invariant.8,
      l.invariant.9,
    )

pub solve_errors-requires : goal.solve_errors-requires
solve_errors-requires c = let l = c.loop-round in record { py_len_1 = c.requires.py_len_1; py_len_2 = c.requires.py_len_2; py_len_3 = c.requires.py_len_3; py_len_4 = c.requires.py_len_4; py_len_5 = l.invariant.2; errors_len_1 = l.invariant.3; errors_len_2 = c.requires.errors_len_2; errors_len_3 = l.invariant.4; errors_len_4 = l.invariant.5; errors_len_5 = c.requires.errors_len_5; powers = c.requires.powers; lines = c.requires.lines }

pub returns : goal.returns
returns c = let g = c.args in let l = c.loop-round in let p = c.solve_errors in record { ended = sym (sym l.invariant.0 ∙ round_last (field (rows g.px.now g.py.now g.xi.now g.eta.now) g.snr.now g.wcs) g.n l.round l.mask p.result p.new.a p.new.b p.ensures.solved c.loop-round-test.false); errors = p.ensures.errors }
