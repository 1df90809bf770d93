-- `sip::fit_lent` meets its contract: the end of the rounds decides. Assumes nothing.
use Rattle.sip.proofs.Ending.{failed, done, done_a, done_b}
use Rattle.sip_rounds.specs.Rounds.{rounds_of, ended_as}
use Rattle.sip_sums.specs.Field.{field}
use borrow.Author.Rules.{rules}
use Prim.Native.Nat.{ℕ}
use Rattle.std.specs.Prelude.{Err}
use Rattle.rows.specs.Rows.{rows}
use lib.ListN.{length, length-replicate}
use native.Mathlib.Omega.{arith}
use mathlib.Core.Path.{◌≡◌, ◌∙◌, sym}
use Rattle.sip.proofs.fit_lent.Goals as goal

pub put_lines-requires : goal.put_lines-requires
put_lines-requires c = record { py_len_1 = c.requires.py_len_1; py_len_2 = c.requires.py_len_2; py_len_3 = c.requires.py_len_3; n_bound = c.requires.n_bound_1; lines_len = c.requires.up_len_3 }

pub put_powers-requires : goal.put_powers-requires
put_powers-requires c = record { py_len_1 = c.requires.py_len_1; py_len_2 = c.requires.py_len_2; py_len_3 = c.requires.py_len_3; py_len_4 = c.requires.py_len_5; up_len_1 = c.requires.up_len_1; up_len_2 = c.requires.up_len_2 }

pub put_roots-requires : goal.put_roots-requires
put_roots-requires c = c.requires.roots_len_1 ∙ sym c.requires.py_len_4

pub linear_rms-linear-requires : goal.linear_rms-linear-requires
linear_rms-linear-requires c = record { py_len_1 = c.requires.py_len_1; py_len_2 = c.requires.py_len_2; py_len_3 = c.requires.py_len_3; px_len_bound = c.requires.py_len_5 }

pub fit_rounds-requires : goal.fit_rounds-requires
fit_rounds-requires c = let m : length c.args.mask.now ≡ length c.args.px.now = rw c.requires.roots_len_2 (length-replicate (length c.args.px.now) 1) in record { py_len_1 = c.requires.py_len_1; py_len_2 = c.requires.py_len_2; py_len_3 = c.requires.py_len_3; py_len_4 = c.requires.py_len_4; py_len_5 = m; errors_len_1 = c.requires.roots_len_3; errors_len_2 = c.requires.n_bound_1; errors_len_3 = c.requires.n_bound_2; errors_len_4 = c.requires.n_bound_3; errors_len_5 = c.requires.py_len_5; roots_value = c.put_roots.ensures; powers = c.put_powers.ensures; lines = c.put_lines.ensures }

pub sip_of-requires : goal.sip_of-requires
sip_of-requires c = let p = c.fit_rounds in let m : length c.args.mask.now ≡ length c.args.px.now = rw c.requires.roots_len_2 (length-replicate (length c.args.px.now) 1) in let x = p.auto.mask ∙ m in (x ∙ sym c.requires.py_len_4, p.auto.errors ∙ c.requires.roots_len_3 ∙ sym c.requires.py_len_4, omega (arith, x, c.requires.py_len_5))

pub returns : goal.returns
returns c = let g = c.args in let p = c.fit_rounds in
    let f = field (rows g.px.now g.py.now g.xi.now g.eta.now) g.snr.now g.wcs in
    let t : ended_as p.result p.new.mask p.new.a p.new.b ≡ rounds_of f g.n = rw c.requires.roots_len_2 at p.ensures.ended in
    let d = c.in_ok-fit_rounds.was in record { answer = done f (rounds_of f g.n) p.result p.new.mask p.new.a p.new.b t d c.sip_of.result c.linear_rms-linear.result p.new.errors c.linear_rms-linear.ensures (p.ensures.errors d) c.sip_of.ensures; a = λ e. done_a f (rounds_of f g.n) p.result p.new.mask p.new.a p.new.b t d; b = λ e. done_b f (rounds_of f g.n) p.result p.new.mask p.new.a p.new.b t d }

pub returns-in_err-fit_rounds : goal.returns-in_err-fit_rounds
returns-in_err-fit_rounds c = let g = c.args in let p = c.fit_rounds in
    let f = field (rows g.px.now g.py.now g.xi.now g.eta.now) g.snr.now g.wcs in
    let t : ended_as p.result p.new.mask p.new.a p.new.b ≡ rounds_of f g.n = rw c.requires.roots_len_2 at p.ensures.ended in
    let e : c.from_residual.result ≡ Err c.in_err-fit_rounds.field-0.0 = search rules in
    record { answer = rw e (failed f (rounds_of f g.n) p.result p.new.mask p.new.a p.new.b t _ c.in_err-fit_rounds.was); a = λ d. let z : ◌≡◌ {A = ℕ} 0 1 = cc (rw e at d) in absurd (omega arith); b = λ d. let z : ◌≡◌ {A = ℕ} 0 1 = cc (rw e at d) in absurd (omega arith) }
