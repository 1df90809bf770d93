-- `errors_face::weighted_rms_error` meets its contract: what the inner call finds is handed out. Assumes nothing.
use Rattle.errors_face.proofs.weighted_rms_error.Goals as goal

pub returns : goal.returns
returns c = rw (← c.weighted_rms_error.ensures) (record { number = c.put_rms.ensures.number; rms = c.put_rms.ensures.rms })
