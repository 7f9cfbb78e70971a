-- Sheet commands (document 01, "The program `names`"): "0x01 flags u32, 0x02 pointer size u8, 0x10 type, 0x11 size, 0x12 id (u32 each), 0x13 u32 and 16 name
-- bytes ended by a zero or the width". "16: unknown or cut command", its detail the command byte.
use Rattle.std.specs.Prelude.{ℕ, ◌+◌, ◌-◌, List, eqb}
use Rattle.wire.specs.Field.{pick, field}
use Rattle.wire.specs.Name.{zero_from}
use Rattle.rules.specs.Record.{name_at}
use Rattle.sheet.specs.declared.command.Command.{Command}
use Rattle.sheet.specs.declared.command.Command.TheVariants.{End, Flags, PointerSize, TypeText, TypeSize, IdText, FunctionText, Faulty}

-- A command whose byte is followed by a u32.
unfoldable pub word_command : ℕ → ℕ → Command
word_command byte n =
    pick (eqb byte 0x01) (Flags n)
    (pick (eqb byte 0x10) (TypeText n)
    (pick (eqb byte 0x11) (TypeSize n)
    (pick (eqb byte 0x12) (IdText n)
    (pick (eqb byte 0x13) (FunctionText n)
    (Faulty byte)))))

unfoldable pub worded_at : List ℕ → ℕ → ℕ → Command
worded_at s at byte = field 4 s at (word_command byte) (Faulty byte)

-- The command that sets the pointer size.
unfoldable pub sized_at : List ℕ → ℕ → Command
sized_at s at = field 1 s at PointerSize (Faulty 0x02)

-- The command that names a function: its u32 and its name have 20 bytes.
unfoldable pub function_at : List ℕ → ℕ → Command
function_at s at = field 20 s at (λ _. worded_at s at 0x13) (Faulty 0x13)

-- The command with this byte, given the place behind it.
unfoldable pub command_by : List ℕ → ℕ → ℕ → Command
command_by s at byte = pick (eqb byte 0x02) (sized_at s at) (pick (eqb byte 0x13) (function_at s at) (worded_at s at byte))

-- The command at a place of a sheet; the end, where there is no byte.
unfoldable pub command_at : List ℕ → ℕ → Command
command_at s at = field 1 s at (command_by s (at + 1)) End

-- The name of a function command, given the place of its 16 bytes.
unfoldable pub given_name : List ℕ → ℕ → List ℕ
given_name s at = name_at s (record { start = at; len = zero_from 16 s at - at })
