-- Laws of the parts of records: what follows from each goes by what is read. Assumes nothing.
use Rattle.std.proofs.Common.{◌≡◌, ℕ, ◌+◌, ◌/◌, ◌%◌, true, false, leb, ltb, ◌<◌, ◌≤◌, List, length, Option, Some, None, Result, Ok, Err, refl, sym, ap}
use Rattle.std.specs.Option.{option_map_or, IfSome}
use Rattle.wire.specs.Leaf.{leaf, leaf_answer}
use Rattle.wire.specs.Name.{name, name_answer}
use Rattle.wire.specs.declared.leaf.Leaf.{Leaf}
use Rattle.wire.specs.declared.name.Name.{Name}
use Rattle.std.specs.Result.{IfOk}
use Rattle.streams.specs.Stream.{look_from, stands, part}
use Rattle.streams.specs.declared.stream.Stream.{Stream}
use Rattle.streams.specs.declared.stream.Cursor.{Cursor}
use Rattle.streams.specs.declared.stream.RecordAt.{RecordAt}
use Rattle.streams.specs.declared.stream.Absent.{Absent}
use Rattle.streams.specs.declared.stream.Absent.TheVariants as absent
use Rattle.streams.proofs.Walk.{by_found, look-by, look-within}
use Rattle.codeview.specs.Record.{names, pointer_mode, mode_answer, type_of}
use Rattle.codeview.specs.Read.{primitive_of, type_from}
use Rattle.codeview.specs.declared.record.PointerMode.{PointerMode}
use Rattle.codeview.specs.declared.record.UnlistedMode.{UnlistedMode}
use Rattle.codeview.specs.declared.record.TypeData.{TypeData}
use Rattle.codeview.specs.declared.record.TypeData.TheVariants as type
use Rattle.streams.specs.declared.refusal.Refusal.{Refusal}
use Rattle.streams.specs.declared.refusal.Refusal.TheVariants.{Malformed, Missing, CrossModule}
use Rattle.primitives.specs.Primitive.{primitives, first_of}
use Rattle.primitives.proofs.Table.{first-if}
use Rattle.wire.specs.Field.{pick}
use Rattle.wire.proofs.Laws.{map-pick, map-name, within_name, read_leaf, unread_leaf}

-- A name, and that it ends inside; a leaf; a name with a unique one behind it.
pub by_name : {A : Type 0} (b : List ℕ) (at : ℕ) (k : ℕ → A) (z : A) → name b at k z ≡ option_map_or (λ n. k n.len) (name_answer b at) z
by_name b at k z = sym (map-name (λ q. option_map_or (λ n. k n.len) q z) b at (λ n. Some (record { start = at; len = n })) None)

pub name_inside : (b : List ℕ) (at : ℕ) → (name_answer b at ≡ name_answer b at) × IfSome (name_answer b at) (λ n. at + n.len < length b)
name_inside b at = (refl, go (name_answer b at) refl)
  where
    go : (q : Option Name) → name_answer b at ≡ q → IfSome q (λ n. at + n.len < length b)
    go (Some n) e = (within_name b at refl n e).1
    go None e = tt

pub by_leaf : {A : Type 0} (o : ℕ → ℕ) (b : List ℕ) (at : ℕ) (k : ℕ → ℕ → ℕ → A) (z : A) → leaf o b at k z ≡ option_map_or (λ l. k l.value l.width l.next) (leaf_answer o b at) z
by_leaf o b at k z = go (leaf_answer o b at) refl
  where
    go : (q : Option Leaf) → leaf_answer o b at ≡ q → leaf o b at k z ≡ option_map_or (λ l. k l.value l.width l.next) q z
    go (Some l) e = read_leaf o b at refl l e k z
    go None e = unread_leaf o b at refl e k z

map-names : {A B : Type 0} (f : A → B) (base p : ℕ) (b : List ℕ) (at : ℕ) (k : Name → Option Name → A) (z : A) → f (names base p b at k z) ≡ names base p b at (λ n u. f (k n u)) (f z)
unfolding names
map-names f base p b at k z = simp (map-name f, map-pick f)

abbrev names_answer : ℕ → ℕ → List ℕ → ℕ → Option (Name × Option Name)
names_answer base p b at = names base p b at (λ n u. Some (n, u)) None

pub by_names : {A : Type 0} (base p : ℕ) (b : List ℕ) (at : ℕ) (k : Name → Option Name → A) (z : A) → names base p b at k z ≡ option_map_or (λ n. k n.0 n.1) (names_answer base p b at) z
by_names base p b at k z = sym (map-names (λ q. option_map_or (λ n. k n.0 n.1) q z) base p b at (λ n u. Some (n, u)) None)

-- A look-up: what follows from it goes by what is found, and the fields that are found lie in the stream.
module _ (s : List ℕ) (t : Stream) (from : Cursor) (i : ℕ) where
  abbrev pub found : Result RecordAt Absent
  found = look_from s t from i stands (Err absent.Missing) (Err absent.CrossModule)

  pub by_look : {A : Type 0} (k : ℕ → ℕ → ℕ → A) (m x : A) → look_from s t from i k m x ≡ by_found found k m x
  by_look k m x = look-by s t from i refl refl k m x

  pub look_inside : (found ≡ found) × IfOk found (λ r. (r.start ≤ r.end) × (r.end ≤ length s))
  look_inside = (refl, go found refl)
    where
      go : (q : Result RecordAt Absent) → found ≡ q → IfOk q (λ r. (r.start ≤ r.end) × (r.end ≤ length s))
      go (Ok r) e = look-within s t from i refl r.kind r.start r.end e
      go (Err a) e = tt

  pub by_type : type_from s t from i
      ≡ pick (ltb i 0x1000) (primitive_of i)
      (by_found found (λ kind start end. type_of (Err (Malformed i)) start kind (part s start end)) (Err (Missing i)) (Err (CrossModule i)))
  unfolding type_from
  by_type = rw by_look

-- The mode of a pointer goes by what the conversion answers, and a primitive by the test of its code.
abbrev pub by_answer : {A B E : Type 0} → Result A E → (A → B) → B → B
by_answer (Ok x) k z = k x
by_answer (Err e) k z = z

pub by_mode : {A : Type 0} (m : ℕ) (k : PointerMode → A) (z : A) → pointer_mode m k z ≡ by_answer (mode_answer m) k z
unfolding pointer_mode
by_mode m k z = simp (map-pick (λ (r : Result PointerMode UnlistedMode). by_answer r k z))

pub by_listed : (i : ℕ) → primitive_of i
    ≡ pick (leb (i / 256) 7)
    (pick (first_of (i % 256) primitives (λ _. true) false) (Ok (type.Primitive (record { code = i % 256; indirection = i / 256 }))) (Err (Missing i)))
    (Err (Missing i))
unfolding primitive_of
by_listed i = ap (λ (x : Result TypeData Refusal). pick (leb (i / 256) 7) x (Err (Missing i))) (first-if (i % 256) primitives refl refl _ _)

-- What the decoders read by.
pub ruleset reads = (by_name, by_leaf, by_names, by_mode)
