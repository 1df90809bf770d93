-- `sip_tests::check_field` meets its contract: each test has its own return. Assumes nothing.
use Rattle.sip_tests.specs.Tests.{field_answer}
use mathlib.Core.Path.{ap}
use mathlib.Core.Bool.{not}
use Rattle.sip_tests.proofs.check_field.Goals as goal

pub returns-then-not-few_rows-snr : goal.returns-then-not-few_rows-snr
unfolding field_answer
returns-then-not-few_rows-snr c = rw (← c.few_rows.ensures, (ap not c.if-not-few_rows-snr.true))

pub returns-then-not-even_rows-snr : goal.returns-then-not-even_rows-snr
unfolding field_answer
returns-then-not-even_rows-snr c = rw (← c.few_rows.ensures, (ap not c.if-not-few_rows-snr.false), ← c.even_rows.ensures, (ap not c.if-not-even_rows-snr.true))

pub returns-then-not-numbers-is_taken : goal.returns-then-not-numbers-is_taken
unfolding field_answer
returns-then-not-numbers-is_taken c = rw (← c.few_rows.ensures, (ap not c.if-not-few_rows-snr.false), ← c.even_rows.ensures, (ap not c.if-not-even_rows-snr.false), ← c.position_rows.ensures, ← c.all_snrs.ensures, ← c.is_taken.ensures, (ap not c.if-not-numbers-is_taken.true))

pub returns : goal.returns
unfolding field_answer
returns c = rw (← c.few_rows.ensures, (ap not c.if-not-few_rows-snr.false), ← c.even_rows.ensures, (ap not c.if-not-even_rows-snr.false), ← c.position_rows.ensures, ← c.all_snrs.ensures, ← c.is_taken.ensures, (ap not c.if-not-numbers-is_taken.false))
