-- Functions and ids (document 01, "Writing rules": "Names are copied byte for byte", "A string list writes its entries as types"). The names of ids are those
-- of the table, as they are shown.
use Rattle.std.specs.Prelude.{ℕ, Bool, false, List, [], eqb}
use Rattle.wire.specs.Text.{bytes}
use Rattle.streams.specs.declared.refusal.Refusal.TheVariants.{FunctionIdIsNotProcedureType, MemberFunctionIdIsNotMemberFunctionType}
use Rattle.interpreter.specs.Trace.{write, refuse, call}
use Rattle.rules.specs.Flags.{Settings}
use Rattle.rules.specs.Record.{Record, IdRecord, function, member_function, strings, string, id_kind_only, Read, good, bad, procedure_or, method_or}
use Rattle.rules.specs.Text.{unhandled_scope, string_text}
use Rattle.rules.specs.Task.{by_itself, id_of, function_id, member_id, Rule, ◌>>◌, say, unless, marked, separated}
use Rattle.rules.specs.Methods.{method_named, procedure_named}

module _ (c : Settings) where
  -- A function (`emit_function`); "where the function's type is no function type: then the name as it is".
  unfoldable pub function_text : List ℕ → Record → Rule
  function_text name r =
      method_or r
      (λ m. method_named c m (write []) name)
      (procedure_or r (λ t constructor list. procedure_named c t constructor list (write []) name) (write name))

  -- The function type of a function id and of a member id (`emit_id`); refusals 10 and 11.
  unfoldable pub scope_text : ℕ → Rule
  scope_text scope = unless (eqb scope 0) (call (id_of scope) >> say "::")

  unfoldable pub function_id_text : ℕ → ℕ → List ℕ → Record → Rule
  function_id_text scope t name r =
      procedure_or r
      (λ u constructor list. procedure_named c u constructor list (scope_text scope) name)
      (refuse (FunctionIdIsNotProcedureType t))

  unfoldable pub member_id_text : ℕ → ℕ → List ℕ → Record → Rule
  member_id_text parent t name r =
      method_or r
      (λ m. method_named c m (call (by_itself parent) >> say "::") name)
      (refuse (MemberFunctionIdIsNotMemberFunctionType t))

  -- "A string list writes its entries as types", in quotes.
  abbrev pub string_entries : Bool → List ℕ → Rule
  string_entries between list = separated (bytes "\" \"") between list

  -- An id (`emit_id`).
  unfoldable pub id_text : IdRecord → Rule
  id_text (function scope t name) = call (function_id scope t name)
  id_text (member_function parent t name) = call (member_id parent t name)
  id_text (strings list) = say "\"" >> string_entries false list >> say "\""
  id_text (string name) = write (string_text name)
  id_text (id_kind_only k) = write (unhandled_scope k)

  unfoldable pub id_alone : Read IdRecord → Rule
  id_alone (good r) = id_text r
  id_alone (bad f) = marked f
