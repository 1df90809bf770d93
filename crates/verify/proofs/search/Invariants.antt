-- `verify::search` meets its contract: after so many trials the word and the best count are those of the definition's run. Assumes nothing.
use Rattle.verify.specs.Score.{fit_triple, limit, start_word}
use Rattle.draw.proofs.Holding.{Scoring}
use Rattle.affine.specs.Affine.{agreeing}
use Rattle.rows.specs.Rows.{rows}
use lib.ListN.{length}
use Prim.Native.Nat.{◌≤◌}
use Rattle.verify.proofs.search.Given as goal

abbrev pub invariant-loop : goal.invariant-loop
invariant-loop l = (l.counter ≤ 1000) × Scoring (fit_triple (rows l.px l.py l.xi l.eta)) (agreeing (rows l.px l.py l.xi l.eta) limit) (length l.px) start_word l.counter l.word l.best
