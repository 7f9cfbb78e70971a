-- Types by themselves (document 01, "Writing rules": "A bare procedure's text has no closing parenthesis").
use Rattle.std.specs.Prelude.{ℕ, Bool, false, ◌||◌, List, [], ◌∷◌, eqb}
use Rattle.wire.specs.Field.{pick}
use Rattle.wire.specs.Text.{bytes}
use Rattle.interpreter.specs.Trace.{write, call}
use Rattle.rules.specs.Flags.{Settings}
use Rattle.rules.specs.Record.{Method, Named, class, union, enumeration, enumerate, kind_only, Record, pointer, modifier, procedure, method, arguments, array, primitive, named, Read, good, bad}
use Rattle.rules.specs.Text.{unhandled_type, primitive_text, worded, class_text, level}
use Rattle.rules.specs.Task.{by_itself, target, modified, list_of, element, Rule, ◌>>◌, say, unless, texted, marked, separated}

module _ (c : Settings) where
  -- An index by itself and a space: a result, unless it is a constructor's (`emit_return_type`).
  unfoldable pub result : Bool → ℕ → Rule
  result constructor index = unless constructor (call (by_itself index) >> say " ")

  -- "Index 0 means none as a procedure's return."
  unfoldable pub procedure_result : Bool → ℕ → Rule
  procedure_result constructor index = result (constructor || eqb index 0) index

  -- NO_FUNCTION_RETURN (`maybe_emit_return_type`).
  unfoldable pub returned : Rule → Rule
  returned p = unless c.no_return p

  -- NO_ARGUMENTS "acts at the function, the id and methods".
  unfoldable pub method_arguments : Method → Bool → Rule
  method_arguments m closes = unless c.no_arguments (call (list_of m closes))

  unfoldable pub procedure_arguments : ℕ → Rule
  procedure_arguments list = unless c.no_arguments (say "(" >> call (by_itself list) >> say ")")

  -- What stands between two arguments; SPACE_AFTER_COMMA. The entries of an argument list, a comma before each but the first, or before all
  -- (`emit_arg_list`).
  unfoldable pub comma : List ℕ
  comma = pick c.space_comma (bytes ", ") (bytes ",")

  abbrev pub argument_entries : Bool → List ℕ → Rule
  argument_entries between list = separated comma between list

  -- What a text names.
  unfoldable pub named_text : Named → List ℕ
  named_text (class kind l) = class_text c kind l.name
  named_text (union l) = worded c "union" l.name
  named_text (enumeration u name) = worded c "enum" name
  named_text (enumerate w name) = worded c "enum class" name
  named_text (kind_only k) = unhandled_type k

  -- A type (`emit_type_inner`). "A bare procedure's text has no closing parenthesis."
  unfoldable pub type_text : Record → Rule
  type_text (pointer t mode a size) = call (target t (level a.constant false mode ∷ []))
  type_text (modifier t a) = call (modified t a.constant)
  type_text (procedure r constructor list) = returned (procedure_result constructor r) >> say "()(" >> call (by_itself list)
  type_text (method m) = returned (result m.constructor m.result) >> say "()" >> method_arguments m false
  type_text (arguments list) = argument_entries false list
  type_text (array e size) = call (element e (size ∷ []))
  type_text (primitive code n) = write (primitive_text c false code n)
  type_text (named x) = write (named_text x)

  -- A type index by itself (`emit_type_index`).
  unfoldable pub alone : Read Record → Rule
  alone (good r) = texted (type_text r)
  alone (bad f) = marked f
