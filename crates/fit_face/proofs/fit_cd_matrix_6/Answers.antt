-- `fit_face::fit_cd_matrix_6` meets its contract: the fit is put where there is room. Assumes nothing.
use Rattle.fit_face.proofs.fit_cd_matrix_6.Goals as goal

pub returns : goal.returns
returns c = rw (← c.fit_cd_matrix_6.ensures) (record { number = c.put_fit.ensures.number; cd = c.put_fit.ensures.cd })
