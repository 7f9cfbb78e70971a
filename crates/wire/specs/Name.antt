-- Zero-ended names, as places.
use Rattle.std.specs.Prelude.{ℕ, zero, suc, ◌+◌, ◌-◌, Bool, false, ◌||◌, List, length, get_or, eqb, ltb, Option, Some, None}
use Rattle.wire.specs.Field.{pick}
use Rattle.wire.specs.declared.name.Name.{Name}

-- The place of the first zero among so many bytes from a place on, or the place behind them.
unfoldable pub zero_from : ℕ → List ℕ → ℕ → ℕ
zero_from zero s at = at
zero_from (suc n) s at = pick (eqb (get_or s at 0) 0) at (zero_from n s (at + 1))

-- Whether a zero stands among so many bytes from a place on.
unfoldable pub zero_among : ℕ → List ℕ → ℕ → Bool
zero_among zero s at = false
zero_among (suc n) s at = zero_among n s at || eqb (get_or s (at + n) 0) 0

-- The place where the name at a place ends: that of its closing zero, or the end where it has none.
unfoldable pub name_end : List ℕ → ℕ → ℕ
name_end s at = zero_from (length s - at) s at

-- A name at a place is the bytes before its closing zero ("closing zero of a name past the record" is malformed); its length is handed on.
unfoldable pub name : {A : Type 0} → List ℕ → ℕ → (ℕ → A) → A → A
name s at ended unended = pick (ltb (name_end s at) (length s)) (ended (name_end s at - at)) unended

-- The same, as the code answers it.
abbrev pub name_answer : List ℕ → ℕ → Option Name
name_answer s at = name s at (λ n. Some (record { start = at; len = n })) None
