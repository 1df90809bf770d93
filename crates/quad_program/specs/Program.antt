-- The quad program: which text it prints for which text. Definitions only.
use Rattle.answer.specs.declared.Refusal.{Refusal}
use Rattle.std.specs.Prelude.{List, [], ◌++◌, ℕ, ◌/◌, length, Float, Result, Ok, Err}
use Rattle.answer.specs.declared.Refusal.TheVariants as refusal
use Rattle.answer.specs.Answers.{number_of, answer_number}
use Rattle.quad.specs.Quads.{input_answer, answer_after, quad_places, quad_hashes}
use Rattle.quad_program.specs.Form.{Form, parsed}
use Rattle.quad_program.specs.Print.{status_line, lines_of}

-- the answer for these stars: what the tests of the input refuse, or how many quads they have, each with four places
unfoldable pub quads_of : List Float → List Float → ℕ → Float → Result ℕ Refusal
quads_of xs ys k least = answer_after (input_answer xs ys k least) (Ok (length (quad_places xs ys k least) / 4))

-- the answer to what a text says; one that is not in form is refused
abbrev pub answer_to : Form → Result ℕ Refusal
answer_to (Form.Says k least xs ys) = quads_of xs ys k least
answer_to Form.Wrong = Err refusal.Form

-- the status of a text
unfoldable pub status_of : List ℕ → ℕ
status_of s = answer_number (answer_to (parsed s))

-- the lines of the quads of these stars
unfoldable pub quads_lines : List Float → List Float → ℕ → Float → List ℕ
quads_lines xs ys k least = lines_of (quads_of xs ys k least) (quad_places xs ys k least) (quad_hashes xs ys k least)

-- what is printed for these stars
unfoldable pub quads_text : List Float → List Float → ℕ → Float → List ℕ
quads_text xs ys k least = status_line (answer_number (quads_of xs ys k least)) ++ quads_lines xs ys k least

-- the lines after the status for what a text says
abbrev pub lines_for : Form → List ℕ
lines_for (Form.Says k least xs ys) = quads_lines xs ys k least
lines_for Form.Wrong = []

-- what is printed for a text: the line of its status, and the lines of its quads
unfoldable pub program_text : List ℕ → List ℕ
program_text s = status_line (status_of s) ++ lines_for (parsed s)
