-- A status by name: its number in a party's entry, and the word that it prints.
use Rattle.std.specs.Prelude.{◌≡◌, ℕ, ◌<◌, List, Result, MatchResult, codes}
use Rattle.state.specs.Status.{idle, running, decided, stopped}
use Rattle.state.specs.declared.kept.Status.{Status}
use Rattle.state.specs.declared.kept.Status.TheVariants.{Idle, Running, Decided, Stopped}
use Rattle.state.specs.declared.kept.UnknownStatus.{UnknownStatus}

abbrev pub number_of : Status → ℕ
number_of Idle = idle
number_of Running = running
number_of Decided = decided
number_of Stopped = stopped

abbrev pub word_of : Status → List ℕ
word_of Idle = codes "idle"
word_of Running = codes "running"
word_of Decided = codes "decided"
word_of Stopped = codes "stopped"

-- the result is the status of this number, or the number where it is none's
abbrev pub Names : ℕ → Result Status UnknownStatus → Type 0
Names n r = MatchResult r (λ s. number_of s ≡ n) (λ e. (e.0 ≡ n) × (stopped < n))
