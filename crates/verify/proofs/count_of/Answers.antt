-- `verify::count_of` meets its contract: the tests decide, then the calls give what the definition names. Assumes nothing.
use Rattle.verify.specs.Score.{fit_triple}
use Rattle.verify.proofs.count_of.Goals as goal

pub returns-then-is_repeated : goal.returns-then-is_repeated
unfolding fit_triple
returns-then-is_repeated c = rw (← c.is_repeated.ensures, c.if-is_repeated.true)

pub count_agreeing-requires : goal.count_agreeing-requires
count_agreeing-requires c = record { fact_1 = c.requires.py_len_1; fact_2 = c.requires.py_len_2; fact_3 = c.requires.py_len_3 }

pub returns-in-Err : goal.returns-in-Err
unfolding fit_triple
returns-in-Err c = rw (← c.is_repeated.ensures, c.if-is_repeated.false, ← c.row_at-p.ensures, ← c.row_at-q.ensures, ← c.row_at-r.ensures, ← c.fit_rows.ensures, c.in-Err.is)

pub returns-in-Ok : goal.returns-in-Ok
unfolding fit_triple
returns-in-Ok c = rw (← c.is_repeated.ensures, c.if-is_repeated.false, ← c.row_at-p.ensures, ← c.row_at-q.ensures, ← c.row_at-r.ensures, ← c.fit_rows.ensures, c.in-Ok.is) c.count_agreeing.ensures
