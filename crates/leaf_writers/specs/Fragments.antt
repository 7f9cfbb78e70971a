-- What the functions here write, where the rules have no name for it.
use Rattle.std.specs.Prelude.{ℕ, Bool, ◌||◌, ◌&&◌, not, List, [], eqb}
use Rattle.wire.specs.Field.{pick}
use Rattle.wire.specs.Text.{bytes}
use Rattle.codeview.specs.declared.record.TypeData.{TypeData}
use Rattle.rules.specs.Flags.{Settings}
use Rattle.rules.specs.Record.{type_contents, named_or}
use Rattle.rules.specs.Types.{named_text}

unfoldable pub static_text : Settings → ℕ → List ℕ
static_text c this = pick (eqb this 0 && not c.no_static) (bytes "static ") []

-- What a text names; nothing for a record that it looks into.
unfoldable pub record_text : Settings → List ℕ → TypeData → List ℕ
record_text c s t = named_or (type_contents s t) (named_text c) []

-- Whether a byte is the sign of a pointer or of a reference.
unfoldable pub is_sign : ℕ → Bool
is_sign b = eqb b 42 || eqb b 38
