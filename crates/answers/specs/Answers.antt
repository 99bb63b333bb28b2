-- The number and position that document 01 gives each answer.
use Rattle.std.specs.Prelude.{ℕ, List, ◌++◌, Result, Ok, Err, codes, decimal}
use Rattle.answers.specs.declared.Refusal.{Refusal}
use Rattle.answers.specs.declared.Refusal.TheVariants.{Short, Version, Header, Length, Row, Writer, Proposals, Schedule, Session, Party, Output, NoSheet}

-- a number and a position; number 0 is "done"
pub record Answer : Type 0 where
  pub number : ℕ
  pub position : ℕ

abbrev pub answer : ℕ → ℕ → Answer
answer n k = record { number = n; position = k }

abbrev pub done : Answer
done = answer 0 0

abbrev pub number_of : Refusal → ℕ
number_of Short = 1
number_of Version = 2
number_of Header = 3
number_of Length = 4
number_of (Row k) = 5
number_of (Writer k) = 6
number_of Proposals = 7
number_of (Schedule k) = 8
number_of Session = 9
number_of Party = 10
number_of Output = 11
number_of NoSheet = 12

-- the row counted from 1 for 5 and 6, the index counted from 0 for 8, else 0
abbrev pub position_of : Refusal → ℕ
position_of Short = 0
position_of Version = 0
position_of Header = 0
position_of Length = 0
position_of (Row k) = k
position_of (Writer k) = k
position_of Proposals = 0
position_of (Schedule k) = k
position_of Session = 0
position_of Party = 0
position_of Output = 0
position_of NoSheet = 0

-- of a call, whatever it gives where it is done
abbrev pub answer_of : {A : Type 0} → Result A Refusal → Answer
answer_of (Ok _) = done
answer_of (Err r) = answer (number_of r) (position_of r)

-- what is printed of a refusal
abbrev pub refusal_text : Refusal → List ℕ
refusal_text r = codes "refused " ++ decimal (number_of r) ++ codes " at " ++ decimal (position_of r)
