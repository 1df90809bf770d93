-- The numbers of the answers, their order, and what stands in a lent list or number after a call. Definitions only.
use Rattle.std.specs.Prelude.{Result, Ok, Err, Bool, cond, ◌||◌, List, ◌++◌, ℕ, ltb, eqb, length, drop}
use Rattle.answer.specs.declared.Refusal.{Refusal}
use Rattle.answer.specs.declared.Refusal.TheVariants.{Count, Lengths, Value, Place, Index, Order, Rows, Room, Degenerate, Few, Form}

-- the number of a refusal
abbrev pub number_of : Refusal → ℕ
number_of Count = 1
number_of Lengths = 2
number_of Value = 3
number_of Place = 4
number_of Index = 11
number_of Order = 5
number_of Rows = 6
number_of Room = 7
number_of Degenerate = 8
number_of Few = 9
number_of Form = 10

-- the number of an answer: 0 is done
abbrev pub answer_number : {A : Type 0} → Result A Refusal → ℕ
answer_number (Ok v) = 0
answer_number (Err why) = number_of why

-- the first refusal of two tests
abbrev pub first : {A : Type 0} → Result Unit Refusal → Result A Refusal → Result A Refusal
first (Ok done) next = next
first (Err why) next = Err why

-- number 7 where a lent list has fewer places than the result needs
abbrev pub room_for : ℕ → ℕ → Result Unit Refusal
room_for need places = cond (ltb places need) (Err Room) (Ok tt)

-- a refusal is checked for before the room: numbers 1 to 6, and 11, which stands after 4
abbrev pub before_room : Refusal → Bool
before_room why = ltb (number_of why) 7 || eqb (number_of why) 11

-- such a refusal comes before that of the room, and any other after it
abbrev pub in_turn : Refusal → Result Unit Refusal → Result Unit Refusal
in_turn why room = cond (before_room why) (Err why) (first room (Err why))

-- the result written from the front of the old list, whose further places keep their values
abbrev pub written : {A : Type 0} → List A → List A → List A
written vs old = vs ++ drop (length vs) old

-- a lent list after a call: the result is written when it is done, and nothing changes when it is refused
abbrev pub lent_after : {A B : Type 0} → Result B Refusal → List A → List A → List A
lent_after (Ok v) vs old = written vs old
lent_after (Err why) vs old = old

-- a lent number after a call: the result when it is done, and the old one when it is refused
abbrev pub number_after : {B : Type 0} → Result B Refusal → ℕ → ℕ → ℕ
number_after (Ok v) new old = new
number_after (Err why) new old = old
