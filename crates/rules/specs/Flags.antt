-- What a call is set to: the flags of 000, each a bit, and the pointer size.
use Rattle.std.specs.Prelude.{ℕ, Bool, ◌||◌, eqb, ltb}
use Rattle.wire.specs.Field.{pick}
use Rattle.codeview.specs.Record.{bit}
use Rattle.streams.specs.declared.refusal.Refusal.{Refusal}
use Rattle.streams.specs.declared.refusal.Refusal.TheVariants.{UnknownFlags, PointerSize}

pub record Settings : Type 0 where
  pub no_return : Bool
  pub no_static : Bool
  pub space_comma : Bool
  pub space_pointer : Bool
  pub name_only : Bool
  pub no_arguments : Bool
  pub pointer_size : ℕ

-- The six flags, from bit 0 up: NO_FUNCTION_RETURN, NO_MEMBER_FUNCTION_STATIC, SPACE_AFTER_COMMA, SPACE_BEFORE_POINTER, NAME_ONLY, NO_ARGUMENTS.
unfoldable pub settings : ℕ → ℕ → Settings
settings flags size =
    record {
      no_return = bit 0 flags;
      no_static = bit 1 flags;
      space_comma = bit 2 flags;
      space_pointer = bit 3 flags;
      name_only = bit 4 flags;
      no_arguments = bit 5 flags;
      pointer_size = size;
    }

-- What follows from a pointer size: 2 where it is not 4, 8 or 16.
unfoldable pub sized : {A : Type 0} → ℕ → A → (Refusal → A) → A
sized size good bad = pick (eqb size 4 || (eqb size 8 || eqb size 16)) good (bad (PointerSize size))

-- What follows from flags: 1 for a "flag bit that 000 does not define".
unfoldable pub flagged : {A : Type 0} → ℕ → A → (Refusal → A) → A
flagged flags good bad = pick (ltb flags 64) good (bad (UnknownFlags flags))
