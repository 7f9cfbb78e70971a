-- The this pointer of a method as the code answers it, and what the rules write by that answer.
use Rattle.std.specs.Prelude.{ℕ, Bool, true, false, eqb, Option, Some, None, Result, Ok, Err}
use Rattle.wire.specs.Field.{pick}
use Rattle.rules.specs.Record.{Record, Read, good, bad, pointer_or, modifier_or}
use Rattle.rules.specs.Task.{Rule, unread}
use Rattle.streams.specs.declared.refusal.Refusal.{Refusal}

-- What follows from a reading.
unfoldable pub reading : Read Record → (Record → Result (Option Bool) Refusal) → Result (Option Bool) Refusal
reading (good r) f = f r
reading (bad e) f = Err e

-- What is pointed to: the class, or a modifier of it.
unfoldable pub through_modifier : ℕ → Record → Result (Option Bool) Refusal
through_modifier class q = modifier_or q (λ v b. pick (eqb v class) (Ok (Some b.constant)) (Ok None)) (Ok None)

unfoldable pub pointee_of : (ℕ → Read Record) → ℕ → ℕ → Result (Option Bool) Refusal
pointee_of types u class = pick (eqb u class) (Ok (Some false)) (reading (types u) (through_modifier class))

unfoldable pub this_of : (ℕ → Read Record) → ℕ → ℕ → Result (Option Bool) Refusal
this_of types this class =
    pick (eqb this 0) (Ok (Some false))
    (reading (types this) (λ r. pointer_or r (λ u mode a size. pointee_of types u class) (Ok None)))

-- What follows, given whether the this pointer is an argument, and whether the class is const.
unfoldable pub by_this : Result (Option Bool) Refusal → (Bool → Bool → Rule) → Rule
by_this (Ok (Some b)) k = k false b
by_this (Ok None) k = k true false
by_this (Err f) k = unread f
