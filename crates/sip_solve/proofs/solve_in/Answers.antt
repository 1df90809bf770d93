-- `sip_solve::solve_in` meets its contract: one elimination gives the unknowns of both right sides. Assumes nothing.
use Prim.Native.Nat.{◌+◌, ◌*◌}
use mathlib.Core.Path.{◌≡◌, ◌∙◌, sym}
use native.Mathlib.Omega.{arith}
use lib.ListN.{length, length-replicate}
use Rattle.cd_plate.specs.Plate.{nothing}
use Rattle.elimination_rows.specs.Matrix.{cells}
use Rattle.sip_sums.specs.Steps.{sums_in}
use Rattle.sip_solve.proofs.Axes.{axes_solved, axes_stopped}
use Rattle.sip_solve.proofs.solve_in.Goals as goal

pub put_sums-requires : goal.put_sums-requires
put_sums-requires c = record { mask_len_1 = c.requires.mask_len_1; mask_len_2 = c.requires.mask_len_2; n_bound = c.requires.n_bound; m_value = c.requires.m_value }

pub eliminate-requires : goal.eliminate-requires
eliminate-requires c = let e : length c.args.m.now ≡ c.args.n * (c.args.n + 2) = rw c.requires.m_value (length-replicate (c.args.n * (c.args.n + 2)) nothing) in record { m_len = c.put_sums.auto.m ∙ e; n_le_w = (omega arith, omega arith) }

pub put_coefficients-requires : goal.put_coefficients-requires
put_coefficients-requires c = let e : length c.args.m.now ≡ c.args.n * (c.args.n + 2) = rw c.requires.m_value (length-replicate (c.args.n * (c.args.n + 2)) nothing) in record { m_len = c.eliminate.auto.m ∙ c.put_sums.auto.m ∙ e; n_le_w = (omega arith, omega arith); x_len = c.requires.a_len_1 }

pub overflow_add-n : goal.overflow_add-n
overflow_add-n c = omega (arith, c.requires.n_bound)

pub put_coefficients-requires-in-Ok : goal.put_coefficients-requires-in-Ok
put_coefficients-requires-in-Ok c = let e : length c.args.m.now ≡ c.args.n * (c.args.n + 2) = rw c.requires.m_value (length-replicate (c.args.n * (c.args.n + 2)) nothing) in record { m_len = c.eliminate.auto.m ∙ c.put_sums.auto.m ∙ e; n_le_w = (omega arith, omega arith); x_len = c.requires.a_len_2 }

pub returns-in-Err : goal.returns-in-Err
returns-in-Err c = let a = c.args in let p = c.put_sums in let e = c.eliminate in sym (axes_stopped (sums_in (cells a.lines.now (a.n + 2)) a.snr.now a.mask.now (length a.snr.now)) a.n p.new.m e.new.m p.ensures e.result _ c.in-Err.is e.ensures)

pub returns-in-Ok : goal.returns-in-Ok
returns-in-Ok c = let a = c.args in let p = c.put_sums in let e = c.eliminate in rw (c.put_coefficients.ensures, c.put_coefficients-in-Ok.ensures) (sym (axes_solved (sums_in (cells a.lines.now (a.n + 2)) a.snr.now a.mask.now (length a.snr.now)) a.n p.new.m e.new.m p.ensures e.result c.in-Ok.is e.ensures))
