-- What a schedule is listed as: the builder's sheet of kind 1 for B = 3 and N = 2, proposals 500 and 600.
use Rattle.std.specs.Prelude.{ℕ, List, [], ◌∷◌, cond, length, replicate, eqb}
use Rattle.answers.specs.Answers.{Answer}
use Rattle.builder.specs.Build.{built_sheet}
use Rattle.record.specs.Record.{record_length}
use Rattle.steps.specs.Run.{run_answer, run_out}
use Rattle.lister.specs.Text.{listing, refused_text}

abbrev pub proposals : List ℕ
proposals = 500 ∷ 600 ∷ []

abbrev pub answered : List ℕ → Answer
answered schedule = run_answer (built_sheet 1 3 2) proposals schedule (record_length 2)

-- the record of the run
abbrev pub recorded : List ℕ → List ℕ
recorded schedule = run_out (built_sheet 1 3 2) proposals schedule (replicate (record_length 2) 0)

unfoldable pub listed : List ℕ → List ℕ
listed schedule =
    cond (eqb (answered schedule).number 0) (listing (recorded schedule) (length schedule))
    (refused_text (answered schedule).number (answered schedule).position)
