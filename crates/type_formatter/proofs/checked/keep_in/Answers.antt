-- The places of the types are noted at the end, and those of the ids behind the 19 numbers at the start.
use Rattle.std.proofs.Common.{refl, arith}
use Rattle.type_formatter.proofs.Once.{kept_in_lem}
use Rattle.type_formatter.proofs.checked.keep_in.Goals as goal

pub returns : goal.returns
returns c = kept_in_lem _ _ _ c.args.checked.now c.check_by-a.new.places c.keep_ids.new.kept _ _ (omega (arith, c.split_for.ensures, c.requires)) (omega (arith, c.split_for.ensures, c.requires)) refl c.check_by-a.ensures c.keep_ids.ensures
