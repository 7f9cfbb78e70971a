-- Methods, and functions with a name (document 01, "Writing rules": "A method's list must be an argument list").
use Rattle.std.specs.Prelude.{ℕ, Bool, true, false, ◌&&◌, not, List, [], eqb}
use Rattle.wire.specs.Field.{pick}
use Rattle.wire.specs.Text.{bytes}
use Rattle.streams.specs.declared.refusal.Refusal.TheVariants.{ArgumentTypeNotArgumentList}
use Rattle.interpreter.specs.Trace.{write, refuse, call}
use Rattle.rules.specs.Flags.{Settings}
use Rattle.rules.specs.Record.{Method, Record, Table, pointer_or, modifier_or, arguments_or}
use Rattle.rules.specs.Text.{function_name}
use Rattle.rules.specs.Task.{by_itself, Rule, ◌>>◌, say, inside}
use Rattle.rules.specs.Types.{result, procedure_result, returned, method_arguments, procedure_arguments, argument_entries}

module _ (c : Settings) where
  -- A method's arguments once all is read (`emit_method_args`): whether the this pointer is an argument, whether the method is const.
  unfoldable pub method_text : Method → Bool → List ℕ → Bool → Bool → Rule
  method_text m closes list extra constant =
      say "("
      >> pick extra (call (by_itself m.this)) (write [])
      >> argument_entries c extra list
      >> say ")"
      >> write (pick (closes && constant) (bytes " const") [])

  module _ (t : Table) where
    -- The this pointer (`check_ptr_class`): "A this pointer not to the given class (or its modifier) becomes the first argument." What follows is given
    -- whether it does, and whether the class is const.
    unfoldable pub this_pointer : Method → (Bool → Bool → Rule) → Rule
    this_pointer m k =
        pick (eqb m.this 0) (k false false)
        (inside (t.types m.this)
        (λ r. pointer_or r
        (λ u mode a size.
        pick (eqb u m.class) (k false false)
        (inside (t.types u)
        (λ q. modifier_or q (λ v b. pick (eqb v m.class) (k false b.constant) (k true false)) (k true false))))
        (k true false)))

    -- "A method's list must be an argument list; any other record there is refusal 9."
    unfoldable pub method_list : Method → Bool → Record → Rule
    method_list m closes r =
        arguments_or r
        (λ list. this_pointer m (λ extra constant. method_text m closes list extra constant))
        (refuse (ArgumentTypeNotArgumentList m.list))

  -- `static ` before a method that has no this pointer; NO_MEMBER_FUNCTION_STATIC.
  unfoldable pub static_mark : Method → Rule
  static_mark m = write (pick (eqb m.this 0 && not c.no_static) (bytes "static ") [])

  -- A method with a name before its arguments, and with what qualifies the name; the same for a procedure.
  unfoldable pub method_named : Method → Rule → List ℕ → Rule
  method_named m qualified name =
      static_mark m
      >> returned c (result c m.constructor m.result)
      >> qualified
      >> write (function_name name)
      >> method_arguments c m true

  unfoldable pub procedure_named : ℕ → Bool → ℕ → Rule → List ℕ → Rule
  procedure_named r constructor list qualified name =
      returned c (procedure_result c constructor r)
      >> qualified
      >> write (function_name name)
      >> procedure_arguments c list
