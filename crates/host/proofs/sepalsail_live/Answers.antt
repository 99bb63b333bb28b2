-- The word is of what the call on the bytes answers.
use Rattle.std.proofs.Common.{ap, ◌∙◌}
use Rattle.host.specs.Word.{told_word}
use Rattle.host.proofs.sepalsail_live.Goals as goal

pub returns : goal.returns
returns c = c.told.ensures ∙ ap told_word c.live.ensures
