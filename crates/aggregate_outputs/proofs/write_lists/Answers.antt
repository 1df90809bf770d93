-- `aggregate_outputs::write_lists` meets its contract. Assumes nothing.
use Rattle.aggregate_outputs.proofs.write_lists.Goals as goal

pub put_values-requires-3 : goal.put_values-requires-3
put_values-requires-3 c = record { fact_1 = c.requires.0; fact_2 = c.requires.6 }

pub returns : goal.returns
returns c = record { px_after = c.put_values.ensures; py_after = c.put_values-2.ensures; ra_after = c.put_positions.ensures; dec_after = c.put_positions-2.ensures; votes_after = c.put_votes.ensures; snr_after = c.put_values-3.ensures }
