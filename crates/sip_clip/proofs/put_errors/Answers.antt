-- `sip_clip::put_errors` meets its contract: the lists that are lent are of zeros. Assumes nothing.
use Rattle.sip_terms.proofs.Told.{take_replicate}
use lib.Seq.{length-take-le}
use Rattle.cd_plate.specs.Plate.{nothing}
use lib.ListN.{length}
use mathlib.Core.Path.{sym}
use Rattle.sip_clip.proofs.put_errors.Goals as goal

pub slice_bounds-x-end : goal.slice_bounds-x-end
slice_bounds-x-end c = c.requires.a_len_bound.2

pub slice_bounds-put_errors_in-end : goal.slice_bounds-put_errors_in-end
slice_bounds-put_errors_in-end c = sym (length-take-le _ _ c.requires.a_len_bound.2)

pub slice_bounds-y-end : goal.slice_bounds-y-end
slice_bounds-y-end c = c.requires.a_len_bound.2

pub slice_bounds-put_errors_in-end-2 : goal.slice_bounds-put_errors_in-end-2
slice_bounds-put_errors_in-end-2 c = sym (length-take-le _ _ c.requires.a_len_bound.2)

pub put_errors_in-requires : goal.put_errors_in-requires
put_errors_in-requires c = let z = take_replicate (length c.args.px.now) 100 nothing c.requires.a_len_bound.2 in record { py_len_1 = c.requires.py_len_1; py_len_2 = c.requires.py_len_2; py_len_3 = c.requires.py_len_3; py_len_4 = c.requires.py_len_4; py_len_5 = c.requires.py_len_5; a_len_bound = c.requires.a_len_bound; powers = c.requires.powers; x_value_1 = z; x_value_2 = z }

pub returns : goal.returns
returns c = c.put_errors_in.ensures
