-- A record of any other kind says nothing.
use borrow.Author.Rules.{rules}
use Rattle.queries.specs.Sizes.{layout_kind}
use Rattle.queries.proofs.HeadLaws.{no_layout}
use Rattle.queries.proofs.scan.Scan.of_fields.Goals as goal

pub returns-in_default : goal.returns-in_default
unfolding layout_kind
returns-in_default c = no_layout _ _ _ _ _ _ (search rules)
