-- What is read of the parties: of each its status, its own steps and its decision, off a session, a record or a session's bytes.
use Rattle.std.specs.Prelude.{ℕ, List}
use Rattle.state.specs.Session.{party_of}
use Rattle.state.specs.declared.kept.Party.{Party}

pub record Readings : Type 0 where
  pub status : ℕ → ℕ
  pub steps : ℕ → ℕ
  pub decision : ℕ → ℕ

-- off the parties of a session
abbrev pub of_parties : List Party → Readings
of_parties ps =
    record { status = λ i. (party_of ps i).status; steps = λ i. (party_of ps i).steps; decision = λ i. (party_of ps i).decision }
