-- `errors_face::rms_error` meets its contract: what the inner call finds is handed out. Assumes nothing.
use Rattle.errors_face.proofs.rms_error.Goals as goal

pub returns : goal.returns
returns c = rw (← c.rms_error.ensures) (record { number = c.put_rms.ensures.number; rms = c.put_rms.ensures.rms })
