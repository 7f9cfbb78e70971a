-- The walk of a task and of a rule, over what the writers are given.
use Rattle.std.specs.Prelude.{ℕ, Bool, true, false, List}
use Rattle.streams.specs.declared.refusal.Refusal.{Refusal}
use Rattle.codeview.specs.declared.record.Entries.{Entries}
use Rattle.codeview.specs.declared.record.MemberFunctionType.{MemberFunctionType}
use Rattle.interpreter.specs.Trace.{Trace, after}
use Rattle.rules.specs.Flags.{Settings}
use Rattle.rules.specs.Record.{Record, Method, arguments, numbers_at}
use Rattle.rules.specs.Places.{Lent, table_in}
use Rattle.rules.specs.Text.{Level, levels, ends_signed}
use Rattle.rules.specs.Task.{Task, target, target_of_modifier, Rule, texted}
use Rattle.rules.specs.Types.{type_text}
use Rattle.rules.specs.Pointers.{aimed, aimed_again}
use Rattle.rules.specs.Methods.{method_list}
use Rattle.rules.specs.Opening.{walked, ruled}
use Rattle.context.specs.declared.flags.Call.{Call}
use Rattle.context.specs.declared.seen.Way.{Way}
use Rattle.context.specs.declared.seen.Way.TheVariants as way
use Rattle.context.specs.Context.{settings_of, holding}

abbrev pub walking : List ℕ → Lent → Call → List ℕ → Task → Trace Refusal
walking types d call seen x = walked (settings_of call) (table_in types d) (holding call seen) x

abbrev pub ruling : List ℕ → Lent → Call → List ℕ → Rule → Trace Refusal
ruling types d call seen p = ruled (settings_of call) (table_in types d) (holding call seen) p

-- A method as the rules see it.
abbrev pub method_of : MemberFunctionType → Method
method_of m =
    record {
      result = m.result.0;
      class = m.class.0;
      this = m.this.0;
      constructor = m.constructor;
      list = m.arguments.0;
    }

-- The numbers of a list that stands in a stream, and a method's arguments by such a list.
abbrev pub entries_at : List ℕ → Entries → List ℕ
entries_at s e = numbers_at s e.start e.count

abbrev pub list_rule : List ℕ → Lent → Call → MemberFunctionType → Bool → Entries → Rule
list_rule types d call m closes e = method_list (settings_of call) (table_in types d) (method_of m) closes (arguments (entries_at types e))

-- A type that is neither method nor procedure, under the levels of its pointers (the last case of `pointed`).
abbrev pub plain_pointed : Settings → List Level → Record → Rule
plain_pointed c ls r = after (texted (type_text c r)) (λ bs. levels c true (ends_signed bs) ls)

-- A pointer's target, or that of a pointer's modifier, and the way in which it is opened.
abbrev pub aimed_at : Bool → ℕ → List Level → Task
aimed_at true i ls = target_of_modifier i ls
aimed_at false i ls = target i ls

abbrev pub way_to : Bool → Way
way_to true = way.TargetOfModifier
way_to false = way.Target

-- What is done with its record.
abbrev pub aimed_rule : Settings → Bool → List Level → Record → Rule
aimed_rule c true ls r = aimed_again c ls r
aimed_rule c false ls r = aimed c ls r
