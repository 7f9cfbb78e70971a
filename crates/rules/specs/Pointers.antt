-- Pointers and modifiers (document 01, "Writing rules": "The type under a pointer decides which writer comes next").
use Rattle.std.specs.Prelude.{Bool, true, false, ◌||◌, List, [], ◌∷◌}
use Rattle.wire.specs.Field.{pick}
use Rattle.wire.specs.Text.{bytes}
use Rattle.interpreter.specs.Trace.{write, call, after}
use Rattle.rules.specs.Flags.{Settings}
use Rattle.rules.specs.Record.{Record, pointer_or, modifier_or, procedure_or, method_or, primitive_or}
use Rattle.rules.specs.Text.{primitive_text, Level, level, over_pointee, levels, ends_signed}
use Rattle.rules.specs.Task.{by_itself, target, target_of_modifier, Rule, ◌>>◌, say, texted}
use Rattle.rules.specs.Types.{result, procedure_result, method_arguments, type_text}

module _ (c : Settings) where
  -- Under the levels of its pointers (`emit_ptr_helper`): "pointers to functions and methods write the return type under every flag, except a
  -- constructor's; procedure pointers also their list."
  unfoldable pub pointed : List Level → Record → Rule
  pointed ls r =
      method_or r
      (λ m.
      result c m.constructor m.result
      >> say "("
      >> call (by_itself m.class)
      >> write (levels c false false ls)
      >> say ")"
      >> method_arguments c m false)
      (procedure_or r
      (λ t constructor list.
      procedure_result c constructor t
      >> say "("
      >> write (levels c false false ls)
      >> say ")"
      >> say "("
      >> call (by_itself list)
      >> say ")")
      (after (texted (type_text c r)) (λ bs. levels c true (ends_signed bs) ls)))

  -- A pointer's target (`emit_ptr`): another pointer or a modifier goes on.
  unfoldable pub aimed : List Level → Record → Rule
  aimed ls r =
      pointer_or r
      (λ t mode a size. call (target t (level a.constant false mode ∷ ls)))
      (modifier_or r (λ t a. call (target_of_modifier t (over_pointee a.constant ls))) (pointed ls r))

  -- The target of a pointer's modifier.
  unfoldable pub aimed_again : List Level → Record → Rule
  aimed_again ls r = pointer_or r (λ t mode a size. call (target t (level a.constant false mode ∷ ls))) (pointed ls r)

  -- Any other modifier's target (`emit_modifier`): a pointer takes the const, a primitive leads with it, any other type has it before its own text.
  unfoldable pub modified_text : Bool → Record → Rule
  modified_text constant r =
      pointer_or r
      (λ t mode a size. call (target t (level (a.constant || constant) false mode ∷ [])))
      (primitive_or r
      (λ code n. write (primitive_text c constant code n))
      (write (pick constant (bytes "const ") []) >> texted (type_text c r)))
