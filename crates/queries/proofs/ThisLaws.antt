-- The law of the this pointer: the answer leads to the text of the rule. Assumes nothing.
use Rattle.std.proofs.Common.{◌≡◌, Bool, rules}
use Rattle.rules.specs.Flags.{Settings}
use Rattle.rules.specs.Record.{Table, Method}
use Rattle.rules.specs.Task.{Rule}
use Rattle.rules.specs.Methods.{this_pointer}
use Rattle.queries.specs.This.{reading, through_modifier, pointee_of, this_of, by_this}

-- The rule of the this pointer is what follows from the answer.
pub this-is : (c : Settings) (t : Table) (m : Method) (k : Bool → Bool → Rule) → this_pointer c t m k ≡ by_this (this_of t.types m.this m.class) k
unfolding this_pointer this_of pointee_of reading through_modifier by_this
this-is c t m k = search rules
