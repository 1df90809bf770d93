-- `quad_lists::put_words` meets its contract. Assumes nothing.
use native.Mathlib.Omega.{arith}
use lib.ListN.{length-set}
use Rattle.quad_lists.proofs.Bits.{words_put, words_kept}
use Rattle.quad_lists.proofs.put_words.Goals as goal

pub bounds-words-p-2 : goal.bounds-words-p-2
bounds-words-p-2 c = simp length-set (omega (arith, c.requires.0, c.requires.1))

pub returns : goal.returns
returns c =
    let a = c.args in (
      words_put a.words.now a.list.now a.p c.word_of.result c.word_of-2.result c.requires.0 c.requires.1 c.word_of.ensures c.word_of-2.ensures,
      words_kept a.words.now a.list.now a.p c.word_of.result c.word_of-2.result c.requires.0 c.requires.1,
    )
