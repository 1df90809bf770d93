-- `fit_face::solve_normal_equations` meets its contract, which is that of the function it calls. Assumes nothing.
use Rattle.fit_face.proofs.solve_normal_equations.Goals as goal

pub returns : goal.returns
returns c = rw (← c.solve_normal_equations.ensures.answer) (record { number = c.number.ensures; x = c.solve_normal_equations.ensures.unknowns })
