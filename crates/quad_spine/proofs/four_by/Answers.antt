-- `quad_spine::four_by` meets its contract: each pair has its own order. Assumes nothing.
use Rattle.quad_spine.proofs.four_by.Goals as goal

pub returns-in-P01 : goal.returns-in-P01
returns-in-P01 c = rw (c.four_of.ensures, c.in-P01.is)

pub returns-in-P02 : goal.returns-in-P02
returns-in-P02 c = rw (c.four_of-in-P02.ensures, c.in-P02.is)

pub returns-in-P03 : goal.returns-in-P03
returns-in-P03 c = rw (c.four_of-in-P03.ensures, c.in-P03.is)

pub returns-in-P12 : goal.returns-in-P12
returns-in-P12 c = rw (c.four_of-in-P12.ensures, c.in-P12.is)

pub returns-in-P13 : goal.returns-in-P13
returns-in-P13 c = rw (c.four_of-in-P13.ensures, c.in-P13.is)

pub returns-in-P23 : goal.returns-in-P23
returns-in-P23 c = rw (c.four_of-in-P23.ensures, c.in-P23.is)
