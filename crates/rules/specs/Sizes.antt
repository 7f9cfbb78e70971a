-- Sizes (document 01, "Writing rules": "A forward reference has the size of the first full class, interface, struct or union").
use Rattle.std.specs.Prelude.{ℕ, zero, suc, ◌+◌, ◌-◌, ◌&&◌, not, List, leb, eqb}
use Rattle.wire.specs.Field.{pick}
use Rattle.interpreter.specs.Trace.{limit, call}
use Rattle.rules.specs.Flags.{Settings}
use Rattle.rules.specs.Record.{Layout, Named, class, union, enumeration, enumerate, kind_only, Record, pointer, modifier, procedure, method, arguments, array, primitive, named, Read, good, bad, Table, primitive_or, named_or}
use Rattle.rules.specs.Text.{primitive_size, same_bytes}
use Rattle.rules.specs.Task.{size_of, Rule, value}

-- The size of a record that is full and has a name to match, or else the given one.
unfoldable pub full_layout : Layout → List ℕ → ℕ → ℕ
full_layout l name other = pick (not l.forward && same_bytes l.match name) l.size other

unfoldable pub full_named : Named → List ℕ → ℕ → ℕ
full_named (class kind l) name other = full_layout l name other
full_named (union l) name other = full_layout l name other
full_named (enumeration u n) name other = other
full_named (enumerate w n) name other = other
full_named (kind_only k) name other = other

unfoldable pub full_or : Read Record → List ℕ → ℕ → ℕ
full_or (good r) name other = named_or r (λ x. full_named x name other) other
full_or (bad f) name other = other

module _ (c : Settings) (t : Table) where
  -- "A forward reference has the size of the first full class, interface, struct or union after its own index with its name (unique name first),
  -- malformed records passed over, else its own": among so many records from an index on.
  unfoldable pub full_size : ℕ → ℕ → List ℕ → ℕ → ℕ
  full_size zero i name own = own
  full_size (suc n) i name own = full_or (t.types i) name (full_size n (i + 1) name own)

  unfoldable pub layout_size : ℕ → Layout → ℕ
  layout_size i l = pick l.forward (full_size (t.end - (i + 1)) (i + 1) l.match l.size) l.size

  -- The size of what is named: "a size follows an enum .. to its underlying type and asks the same again".
  unfoldable pub named_size : ℕ → ℕ → Named → Rule
  named_size i n (class kind l) = value (layout_size i l)
  named_size i n (union l) = value (layout_size i l)
  named_size i n (enumeration u name) = call (size_of u (suc n))
  named_size i n (enumerate width name) = value width
  named_size i n (kind_only k) = value 0

  -- The size of a record that is one more of a chain (`get_data_size`). "A pointer's size is its size field, zero too."
  unfoldable pub record_size : ℕ → ℕ → Record → Rule
  record_size i n (pointer u mode a size) = value size
  record_size i n (modifier u a) = call (size_of u (suc n))
  record_size i n (procedure r constructor list) = value c.pointer_size
  record_size i n (method m) = value c.pointer_size
  record_size i n (arguments list) = value 0
  record_size i n (array e size) = value size
  record_size i n (primitive code k) = value (pick (eqb k 0) (primitive_size code) c.pointer_size)
  record_size i n (named x) = named_size i n x

  -- A size step: "a chain's record is read before it is counted, and there a primitive, or what cannot be read, does not count".
  unfoldable pub size_step : ℕ → ℕ → Read Record → Rule
  size_step i n (good r) = primitive_or r (λ code k. record_size i n r) (limit (leb 32 n) i (record_size i n r))
  size_step i n (bad f) = value 0
