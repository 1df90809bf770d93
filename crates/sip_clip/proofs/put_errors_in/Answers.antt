-- `sip_clip::put_errors_in` meets its contract: the values by the tables are those of the definition. Assumes nothing.
use Rattle.sip_clip.proofs.Errors.{errors_are}
use Rattle.cd_plate.specs.Plate.{nothing}
use Rattle.rows.specs.Rows.{rows}
use lib.ListN.{length, length-replicate}
use mathlib.Core.Path.{◌≡◌, ◌∙◌}
use native.Mathlib.Omega.{arith}
use Rattle.sip_clip.proofs.put_errors_in.Goals as goal

pub put_values-requires : goal.put_values-requires
put_values-requires c = let t = c.requires.powers in let e = c.requires.x_value_1 in
    let l : length c.args.x.now ≡ length c.args.px.now = rw e (length-replicate (length c.args.px.now) nothing) in
    let b = c.requires.a_len_bound in record { cs_len_bound = (omega (arith, b.0, b.1), rw l b.2); up_len_1 = rw l t.long_u; up_len_2 = rw l t.long_v; s_value = rw l e }

pub put_values-requires-2 : goal.put_values-requires-2
put_values-requires-2 c = let t = c.requires.powers in let e = c.requires.x_value_2 in
    let l : length c.args.y.now ≡ length c.args.px.now = rw e (length-replicate (length c.args.px.now) nothing) in
    let b = c.requires.a_len_bound in record { cs_len_bound = (omega (arith, b.0, b.1), rw l b.2); up_len_1 = rw l t.long_u; up_len_2 = rw l t.long_v; s_value = rw l e }

pub put_lengths-requires : goal.put_lengths-requires
put_lengths-requires c = let l : length c.args.x.now ≡ length c.args.px.now = rw c.requires.x_value_1 (length-replicate (length c.args.px.now) nothing) in
    let m : length c.args.y.now ≡ length c.args.px.now = rw c.requires.x_value_2 (length-replicate (length c.args.px.now) nothing) in record { py_len_1 = c.requires.py_len_1; py_len_2 = c.requires.py_len_2; py_len_3 = c.requires.py_len_3; py_len_4 = c.requires.py_len_4; py_len_5 = c.requires.py_len_5; x_len_1 = c.put_values.auto.s ∙ l; x_len_2 = c.put_values-2.auto.s ∙ m }

pub returns : goal.returns
returns c = let g = c.args in
    let l : length g.x.now ≡ length g.px.now = rw c.requires.x_value_1 (length-replicate (length g.px.now) nothing) in
    let m : length g.y.now ≡ length g.px.now = rw c.requires.x_value_2 (length-replicate (length g.px.now) nothing) in
    let p = c.put_values in let q = c.put_values-2 in let b = c.requires.a_len_bound in
    c.put_lengths.ensures ∙ errors_are (rows g.px.now g.py.now g.xi.now g.eta.now) g.wcs g.up.now g.vp.now c.requires.powers g.mask.now g.a.now g.b.now p.new.s q.new.s b.0 b.1 (rw l at p.ensures) (rw m at q.ensures)
