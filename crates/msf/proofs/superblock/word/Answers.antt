-- What the field's two cases come to is the field's.
use Rattle.std.proofs.Common.{◌∙◌, ap, Some, None, Option, ℕ, unwrap_or}
use Rattle.wire.proofs.Laws.{map-field}
use Rattle.msf.specs.Superblock.{word}
use Rattle.msf.proofs.superblock.word.Goals as goal

pub returns : goal.returns
unfolding word
returns c = c.unwrap_or.ensures ∙ (ap (λ (o : Option ℕ). unwrap_or o 0) c.field_at.ensures ∙ map-field (λ (o : Option ℕ). unwrap_or o 0) 4 _ _ Some None)
