-- `draw::draw_three` meets its contract: each place is that of its word. Assumes nothing.
use Rattle.draw.specs.Draw.{triple_after}
use Rattle.draw.proofs.draw_three.Goals as goal

pub returns : goal.returns
unfolding triple_after
returns c = rw (c.place_of-3.ensures, c.place_of-2.ensures, c.place_of.ensures, c.next_word-third.ensures, c.next_word-second.ensures, c.next_word-first.ensures)
