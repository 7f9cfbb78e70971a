-- Laws of the heads of records: a record that is passed over by its head says nothing of a forward reference. Assumes nothing.
use Rattle.std.proofs.Common.{◌≡◌, ℕ, ◌+◌, ◌-◌, ◌≤◌, Bool, true, false, ltb, List, length, take, drop, Option, Some, None, Result, Ok, Err, refl, arith, rules}
use Rattle.std.specs.Result.{IfOk}
use native.Mathlib.Nat.{add_assoc}
use lib.ListN.{length-take}
use lib.Seq.{get_or-take, get_or-drop}
use Rattle.wire.specs.Field.{pick, number, field}
use Rattle.wire.specs.Leaf.{leaf, leaf_answer}
use Rattle.wire.specs.Name.{name, name_end}
use Rattle.wire.specs.declared.name.Name.{Name}
use Rattle.wire.specs.declared.leaf.Leaf.{Leaf}
use Rattle.wire.proofs.Laws.{all-field, read_leaf, unread_leaf}
use Rattle.streams.specs.Stream.{behind, record_at, part, stands}
use Rattle.streams.specs.declared.refusal.Refusal.{Refusal}
use Rattle.streams.specs.declared.refusal.Refusal.TheVariants.{Missing}
use Rattle.streams.specs.declared.stream.Stream.{Stream}
use Rattle.streams.specs.declared.stream.RecordAt.{RecordAt}
use Rattle.streams.specs.declared.stream.Absent.{Absent}
use Rattle.streams.specs.declared.stream.Absent.TheVariants as absent
use Rattle.streams.proofs.Walk.{by_found, record-by, record-within}
use Rattle.codeview.specs.Record.{bit, names, entries, pointer_mode, containing, member_class, modifier_of, pointer_of, procedure_of, member_function_of, argument_list_of, enumerate_of, array_of, class_of, union_of, enumeration_of, type_of}
use Rattle.codeview.specs.Read.{type_in}
use Rattle.codeview.specs.declared.record.ClassKind.{ClassKind}
use Rattle.codeview.specs.declared.record.TypeData.{TypeData}
use Rattle.rules.specs.Record.{type_contents, type_as_read}
use Rattle.rules.specs.Sizes.{full_layout, full_named, full_or}
use Rattle.queries.specs.Sizes.{FullOf, layout_kind, passed_over}

-- What holds of each way that a reading may go on, and of its stop, holds of what it comes to.
module _ {A : Type 0} (P : A → Type 0) where
  pub all-pick : (b : Bool) (x y : A) → (b ≡ true → P x) → (b ≡ false → P y) → P (pick b x y)
  all-pick true x y f g = f refl
  all-pick false x y f g = g refl

  all-leaf : (o : ℕ → ℕ) (s : List ℕ) (at : ℕ) (k : ℕ → ℕ → ℕ → A) (z : A) → ((v w n : ℕ) → P (k v w n)) → P z → P (leaf o s at k z)
  all-leaf o s at k z f p = go (leaf_answer o s at) refl
    where
      go : (r : Option Leaf) → r ≡ leaf_answer o s at → P (leaf o s at k z)
      go (Some l) e = rw (read_leaf o s at e l refl k z) (f l.value l.width l.next)
      go None e = rw (unread_leaf o s at e refl k z) p

  all-name : (s : List ℕ) (at : ℕ) (k : ℕ → A) (z : A) → ((n : ℕ) → P (k n)) → P z → P (name s at k z)
  unfolding name
  all-name s at k z f p = all-pick (ltb (name_end s at) (length s)) _ _ (λ e. f (name_end s at - at)) (λ e. p)

  all-names : (base p : ℕ) (s : List ℕ) (at : ℕ) (k : Name → Option Name → A) (z : A) → ((n : Name) (u : Option Name) → P (k n u)) → P z → P (names base p s at k z)
  unfolding names
  all-names base p s at k z f q = all-name s at _ z (λ n. all-pick (bit 9 p) _ _ (λ e. all-name s (at + n + 1) _ z (λ m. f _ _) q) (λ e. f _ _)) q

-- A record of a kind that is no layout says nothing, whatever its fields are; nor does a class or union with property bit 7.
module _ (s : List ℕ) (own : List ℕ) (f : Refusal) (base : ℕ) (b : List ℕ) where
  abbrev P : Result TypeData Refusal → Type 0
  P r = FullOf s r own None

  modifier-passes : P (modifier_of (Err f) base b)
  unfolding modifier_of field full_or type_as_read type_contents
  modifier-passes = search rules

  pointer-passes : P (pointer_of (Err f) base b)
  unfolding pointer_of pointer_mode member_class containing field full_or type_as_read type_contents
  pointer-passes = search rules

  procedure-passes : P (procedure_of (Err f) base b)
  unfolding procedure_of field full_or type_as_read type_contents
  procedure-passes = search rules

  method-passes : P (member_function_of (Err f) base b)
  unfolding member_function_of field full_or type_as_read type_contents
  method-passes = search rules

  arguments-passes : P (argument_list_of (Err f) base b)
  unfolding argument_list_of entries field full_or type_as_read type_contents
  arguments-passes = search rules

  enumerate-passes : P (enumerate_of (Err f) base b)
  unfolding enumerate_of field full_or type_as_read type_contents full_named
  enumerate-passes = search (all-field P, all-leaf P, all-name P, rules)

  array-passes : P (array_of (Err f) base b)
  unfolding array_of field full_or type_as_read type_contents
  array-passes = search (all-field P, all-leaf P, all-name P, rules)

  enumeration-passes : P (enumeration_of (Err f) base b)
  unfolding enumeration_of field full_or type_as_read type_contents full_named
  enumeration-passes = search (all-field P, all-names P, rules)

  module _ (h : 4 ≤ length b → bit 7 (number 2 b 2) ≡ true) where
    class-passes : (kind : ClassKind) → P (class_of (Err f) base kind b)
    unfolding class_of field full_or type_as_read type_contents full_named full_layout
    class-passes kind = search (all-field P, all-leaf P, all-names P, h, rules)

    union-passes : P (union_of (Err f) base b)
    unfolding union_of field full_or type_as_read type_contents full_named full_layout
    union-passes = search (all-field P, all-leaf P, all-names P, h, rules)

  record-passes : (kind : ℕ) → (layout_kind kind ≡ true → 4 ≤ length b → bit 7 (number 2 b 2) ≡ true) → P (type_of (Err f) base kind b)
  unfolding type_of layout_kind full_or type_as_read type_contents full_named
  record-passes kind h = search (all-pick P, modifier-passes, pointer-passes, procedure-passes, method-passes, arguments-passes, enumerate-passes, array-passes, enumeration-passes, class-passes, union-passes, rules) depth 24

-- So a record of none of the four kinds says nothing.
pub no_layout : (s own : List ℕ) (f : Refusal) (base : ℕ) (b : List ℕ) (kind : ℕ) → layout_kind kind ≡ false → FullOf s (type_of (Err f) base kind b) own None
no_layout s own f base b kind e = record-passes s own f base b kind (λ l. absurd cc)

-- A number of a part is the number at its place in the whole.
two-taken : (s : List ℕ) (n at : ℕ) → at + 2 ≤ n → number 2 (take n s) at ≡ number 2 s at
unfolding number
two-taken s n at h = rw (get_or-take n s at 0 (omega arith), get_or-take n s (at + 1) 0 (omega arith))

two-part : (s : List ℕ) (start end at : ℕ) → at + 2 ≤ length (part s start end) → number 2 (part s start end) at ≡ number 2 s (start + at)
unfolding part number
two-part s start end at h =
    let k : at + 2 ≤ end - start = omega (arith, length-take (end - start) (drop start s)) in
    simp (two-taken (drop start s) (end - start) at k, get_or-drop, add_assoc)

-- What the head shows: of a layout, property bit 7.
head-shows : (s : List ℕ) (at : ℕ) → passed_over s at ≡ true → layout_kind (number 2 s (at + 2)) ≡ true → bit 7 (number 2 s (at + 6)) ≡ true
unfolding passed_over field
head-shows s at e h = search rules

-- So the record of such a head says nothing.
pub head_passes : (s : List ℕ) (t : Stream) (at index : ℕ) (own : List ℕ) → passed_over s at ≡ true → FullOf s (type_in s t at index) own None
unfolding type_in record_at behind field full_or type_as_read
head_passes s t at index own h = search (all-pick P, record-passes, shown, rules)
  where
    P : Result TypeData Refusal → Type 0
    P r = FullOf s r own None

    shown : (end : ℕ) → at + 4 ≤ length (take t.stop s) → layout_kind (number 2 (take t.stop s) (at + 2)) ≡ true → 4 ≤ length (part s (at + 4) end) → bit 7 (number 2 (part s (at + 4) end) 2) ≡ true
    shown end a l b = rw (two-part s (at + 4) end 2 b, add_assoc at 4 2) (head-shows s at h (rw (two-taken s t.stop (at + 2) (omega (arith, length-take t.stop s))) at l))

-- What follows from a record goes by what is found, and its fields lie in the stream.
abbrev found : List ℕ → ℕ → Result RecordAt Absent
found s at = record_at s at stands (Err absent.Missing)

pub by_record : {A : Type 0} (s : List ℕ) (at : ℕ) (k : ℕ → ℕ → ℕ → A) (m : A) → record_at s at k m ≡ by_found (found s at) k m m
by_record s at k m = record-by s at refl refl k m

pub record_inside : (s : List ℕ) (n at : ℕ) → (found (take n s) at ≡ found (take n s) at) × IfOk (found (take n s) at) (λ r. (r.start ≤ r.end) × (r.end ≤ length s))
record_inside s n at = (refl, go (found (take n s) at) refl)
  where
    go : (q : Result RecordAt Absent) → found (take n s) at ≡ q → IfOk q (λ r. (r.start ≤ r.end) × (r.end ≤ length s))
    go (Ok r) e = let h = record-within (take n s) at refl r.kind r.start r.end e in (h.0, omega (arith, h.1, length-take n s))
    go (Err a) e = tt
