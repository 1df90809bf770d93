-- Any two answers that a contract admits are equal, and so is what stands in each lent list after them. Every public contract is of these two kinds; docs/CONTRACTS.md says which call is of which. Assumes nothing.
use mathlib.Core.Path.{◌≡◌, sym, ◌∙◌}

-- a contract that is one equation: the answer is what the definition gives for the input
pub answer : {A : Type 0} {meant : A} {r s : A} → r ≡ meant → s ≡ meant → r ≡ s
answer e f = e ∙ sym f

-- a contract whose lent list is told by the answer: `after` is what stands there, once the answer is known
pub lent : {A B : Type 0} (after : A → B) {meant : A} {r s : A} {x y : B} → r ≡ meant → s ≡ meant → x ≡ after r → y ≡ after s → x ≡ y
lent after e f g h = g ∙ rw (answer e f) (sym h)
