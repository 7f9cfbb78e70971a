-- What the functions here give and write, where the rules have no name for it.
use Rattle.std.specs.Prelude.{ℕ, ◌+◌, List}
use Rattle.interpreter.specs.Trace.{call}
use Rattle.rules.specs.Flags.{Settings}
use Rattle.rules.specs.Record.{Method}
use Rattle.rules.specs.Task.{by_itself, Rule, ◌>>◌, say}
use Rattle.rules.specs.Types.{result, returned}
use Rattle.rules.specs.Methods.{static_mark, method_named}
use Rattle.context.specs.declared.flags.Call.{Call}

-- A call whose chain of scopes has one id more.
abbrev pub further : Call → Call
further c = record { flags = c.flags; size = c.size; chain = c.chain + 1 }

-- A method with its parent before its name.
abbrev pub member_named : Settings → Method → ℕ → List ℕ → Rule
member_named c m parent name = method_named c m (call (by_itself parent) >> say "::") name

-- What stands first in a method's text.
abbrev pub method_start : Settings → Method → Rule
method_start c m = static_mark c m >> returned c (result c m.constructor m.result)
