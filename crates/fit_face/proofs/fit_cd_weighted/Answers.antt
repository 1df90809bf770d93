-- `fit_face::fit_cd_weighted` meets its contract: the fit is put where there is room. Assumes nothing.
use Rattle.fit_face.proofs.fit_cd_weighted.Goals as goal

pub returns : goal.returns
returns c = rw (← c.fit_cd_weighted.ensures) (record { number = c.put_fit.ensures.number; cd = c.put_fit.ensures.cd })
