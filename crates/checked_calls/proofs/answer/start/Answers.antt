-- By the definition.
use mathlib.Core.Path.{refl}
use Rattle.checked_calls.specs.Answers.{started}
use Rattle.checked_calls.proofs.answer.start.Goals as goal

pub returns : goal.returns
unfolding started
returns c = refl
