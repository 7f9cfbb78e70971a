-- What the code's own functions are asked: a kind that is left to the decoder of named records.
use Rattle.std.specs.Prelude.{ℕ, ◌≡◌}

-- None of the five kinds that are told apart before.
pub record NamedKind (kind : ℕ) : Type 0 where
  pub modifier : kind ≡ 0x1001 → ⊥
  pub pointer : kind ≡ 0x1002 → ⊥
  pub procedure : kind ≡ 0x1008 → ⊥
  pub method : kind ≡ 0x1009 → ⊥
  pub arguments : kind ≡ 0x1201 → ⊥
