-- One answer in one 64-bit word: bits 0 to 7 the number, bits 8 to 31 the value, bits 32 to 63 the position.
use Rattle.std.specs.Prelude.{ℕ, ◌+◌, ◌*◌, ◌%◌, ◌^◌}
use Rattle.answers.specs.Answers.{Answer}
use Rattle.steps.specs.Calls.{Told}

abbrev pub word : ℕ → ℕ → ℕ → ℕ
word number value position = number + value * 2 ^ 8 + position % 2 ^ 32 * 2 ^ 32

-- the word of an answer that has no value
abbrev pub answer_word : Answer → ℕ
answer_word a = word a.number 0 a.position

-- the word of what a call on a session tells
abbrev pub told_word : Told → ℕ
told_word t = word t.number t.value t.position
