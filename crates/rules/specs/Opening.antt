-- What is opened and in which way, what is then done, and the two readings of it (document 01, "Writing rules": "Opening").
use Rattle.std.specs.Prelude.{ℕ, zero, suc, ◌+◌, ◌-◌, Bool, eqb, length}
use Rattle.streams.specs.declared.refusal.Refusal.{Refusal}
use Rattle.interpreter.specs.Trace.{Trace, write, exec, Key, key, Held, Entry, through, opens, afresh, run, walk, strict, plain}
use Rattle.rules.specs.Flags.{Settings}
use Rattle.rules.specs.Record.{Read, good, bad, Table}
use Rattle.rules.specs.Text.{function_name}
use Rattle.rules.specs.Task.{Task, by_itself, function_of, target, target_of_modifier, modified, list_of, element, size_of, id_of, function_id, member_id, Rule, inside}
use Rattle.rules.specs.Types.{alone}
use Rattle.rules.specs.Pointers.{aimed, aimed_again, modified_text}
use Rattle.rules.specs.Methods.{method_list}
use Rattle.rules.specs.Arrays.{element_text}
use Rattle.rules.specs.Sizes.{size_step}
use Rattle.rules.specs.Ids.{function_text, function_id_text, member_id_text, id_alone}

-- The ways in which an index is opened.
abbrev pub as_function : ℕ → Entry
as_function i = opens (key 0 i)

abbrev pub as_itself : ℕ → Entry
as_itself i = opens (key 1 i)

abbrev pub as_target : ℕ → Entry
as_target i = opens (key 2 i)

abbrev pub as_target_of_modifier : ℕ → Entry
as_target_of_modifier i = opens (key 3 i)

abbrev pub as_modified : ℕ → Entry
as_modified i = opens (key 4 i)

abbrev pub as_list : ℕ → Entry
as_list i = opens (key 5 i)

-- "A type index written by itself is read, then opened"; a chain's record is read before it is counted.
unfoldable pub after_read : {A : Type 0} → Read A → Entry → Entry
after_read (good a) e = e
after_read (bad f) e = through

-- Which openings count as the same: those of the same index, whatever the way.
unfoldable pub same_index : Key → Key → Bool
same_index j k = eqb j.index k.index

-- How many tasks that open nothing can follow one another from here.
unfoldable pub rank : Task → ℕ
rank (by_itself i) = 0
rank (function_of i name) = 0
rank (target i ls) = 0
rank (target_of_modifier i ls) = 0
rank (modified i constant) = 0
rank (list_of m closes) = 0
rank (element i sizes) = 40 + (32 - length sizes)
rank (size_of i n) = suc (32 - n)
rank (id_of i) = 0
rank (function_id scope t name) = 0
rank (member_id parent t name) = 0

module _ (c : Settings) (t : Table) where
  -- What taking up a task opens: "a type index written by itself is read, then opened (an id index never is); a pointer's or modifier's target and a
  -- method's argument list are opened, then read. A function call and each id open their function type first, in a fresh list." Function type 0 is not
  -- opened; array elements and size steps never are; an id starts a fresh list.
  unfoldable pub entry_of : Task → Entry
  entry_of (by_itself i) = after_read (t.types i) (as_itself i)
  entry_of (function_of zero name) = through
  entry_of (function_of (suc i) name) = as_function (suc i)
  entry_of (target i ls) = as_target i
  entry_of (target_of_modifier i ls) = as_target_of_modifier i
  entry_of (modified i constant) = as_modified i
  entry_of (list_of m closes) = as_list m.list
  entry_of (element i sizes) = through
  entry_of (size_of i n) = through
  entry_of (id_of i) = after_read (t.ids i) (afresh i)
  entry_of (function_id scope i name) = as_function i
  entry_of (member_id parent i name) = as_function i

  -- What is then done. "Function type 0 writes only the name."
  unfoldable pub body : Task → Rule
  body (by_itself i) = alone c (t.types i)
  body (function_of zero name) = write (function_name name)
  body (function_of (suc i) name) = inside (t.types (suc i)) (function_text c name)
  body (target i ls) = inside (t.types i) (aimed c ls)
  body (target_of_modifier i ls) = inside (t.types i) (aimed_again c ls)
  body (modified i constant) = inside (t.types i) (modified_text c constant)
  body (list_of m closes) = inside (t.types m.list) (method_list c t m closes)
  body (element i sizes) = inside (t.types i) (element_text c t i sizes)
  body (size_of i n) = size_step c t i n (t.types i)
  body (id_of i) = id_alone c (t.ids i)
  body (function_id scope i name) = inside (t.types i) (function_id_text c scope i name)
  body (member_id parent i name) = inside (t.types i) (member_id_text c parent i name)

  -- The strict walk of a task; of a rule whose task is taken up already; and the plain reading, tasks taken up so many deep.
  unfoldable pub walked : Held → Task → Trace Refusal
  walked h x = walk same_index entry_of body rank h x

  unfoldable pub ruled : Held → Rule → Trace Refusal
  ruled h p = exec strict (λ u. walked h u) p

  unfoldable pub plainly : ℕ → Held → Task → Trace Refusal
  plainly n h x = run same_index entry_of body plain n h x
