-- What holds of a rule that picks, or goes by the kind of a record, where it holds of each part. Assumes nothing.
use Prim.Native.Nat.{ℕ}
use mathlib.Core.Bool.{Bool, true, false}
use mathlib.Core.List.{List}
use Rattle.wire.specs.Field.{pick}
use Rattle.codeview.specs.declared.record.PointerMode.{PointerMode}
use Rattle.rules.specs.Record.{Attributes, Method, Named, Record, pointer, modifier, procedure, method, arguments, array, primitive, named, by_kind, pointer_or, modifier_or, procedure_or, method_or, arguments_or, array_or, primitive_or}
use Rattle.rules.specs.Task.{Rule}

module _ (S : Rule → Type 0) where
  pub either : (b : Bool) (p q : Rule) → S p → S q → S (pick b p q)
  either true p q h k = h
  either false p q h k = k

  by-kind : (r : Record) (f : ℕ → PointerMode → Attributes → ℕ → Rule) (g : ℕ → Attributes → Rule) (h : ℕ → Bool → ℕ → Rule) (i : Method → Rule) (j : List ℕ → Rule)
      (k l : ℕ → ℕ → Rule) (n : Named → Rule) → ((u : ℕ) (m : PointerMode) (a : Attributes) (z : ℕ) → S (f u m a z)) → ((u : ℕ) (a : Attributes) → S (g u a))
      → ((u : ℕ) (b : Bool) (v : ℕ) → S (h u b v)) → ((m : Method) → S (i m)) → ((v : List ℕ) → S (j v)) → ((e z : ℕ) → S (k e z)) → ((c z : ℕ) → S (l c z))
      → ((x : Named) → S (n x)) → S (by_kind r f g h i j k l n)
  by-kind (pointer u m a z) f g h i j k₀ l₀ n₀ p q s t v w x y = p u m a z
  by-kind (modifier u a) f g h i j k₀ l₀ n₀ p q s t v w x y = q u a
  by-kind (procedure u b l) f g h i j k₀ l₀ n₀ p q s t v w x y = s u b l
  by-kind (method m) f g h i j k₀ l₀ n₀ p q s t v w x y = t m
  by-kind (arguments l) f g h i j k₀ l₀ n₀ p q s t v w x y = v l
  by-kind (array e z) f g h i j k₀ l₀ n₀ p q s t v w x y = w e z
  by-kind (primitive c z) f g h i j k₀ l₀ n₀ p q s t v w x y = x c z
  by-kind (named n) f g h i j k₀ l₀ n₀ p q s t v w x y = y n

  pub pointer-or : (r : Record) (f : ℕ → PointerMode → Attributes → ℕ → Rule) (z : Rule) → ((u : ℕ) (m : PointerMode) (a : Attributes) (n : ℕ) → S (f u m a n)) → S z → S (pointer_or r f z)
  pointer-or r f z h k = by-kind r _ _ _ _ _ _ _ _ h (λ u a. k) (λ u b l. k) (λ m. k) (λ l. k) (λ e n. k) (λ c n. k) (λ x. k)

  pub modifier-or : (r : Record) (f : ℕ → Attributes → Rule) (z : Rule) → ((u : ℕ) (a : Attributes) → S (f u a)) → S z → S (modifier_or r f z)
  modifier-or r f z h k = by-kind r _ _ _ _ _ _ _ _ (λ u m a n. k) h (λ u b l. k) (λ m. k) (λ l. k) (λ e n. k) (λ c n. k) (λ x. k)

  pub procedure-or : (r : Record) (f : ℕ → Bool → ℕ → Rule) (z : Rule) → ((u : ℕ) (b : Bool) (l : ℕ) → S (f u b l)) → S z → S (procedure_or r f z)
  procedure-or r f z h k = by-kind r _ _ _ _ _ _ _ _ (λ u m a n. k) (λ u a. k) h (λ m. k) (λ l. k) (λ e n. k) (λ c n. k) (λ x. k)

  pub method-or : (r : Record) (f : Method → Rule) (z : Rule) → ((m : Method) → S (f m)) → S z → S (method_or r f z)
  method-or r f z h k = by-kind r _ _ _ _ _ _ _ _ (λ u m a n. k) (λ u a. k) (λ u b l. k) h (λ l. k) (λ e n. k) (λ c n. k) (λ x. k)

  pub arguments-or : (r : Record) (f : List ℕ → Rule) (z : Rule) → ((l : List ℕ) → S (f l)) → S z → S (arguments_or r f z)
  arguments-or r f z h k = by-kind r _ _ _ _ _ _ _ _ (λ u m a n. k) (λ u a. k) (λ u b l. k) (λ m. k) h (λ e n. k) (λ c n. k) (λ x. k)

  pub array-or : (r : Record) (f : ℕ → ℕ → Rule) (z : Rule) → ((e n : ℕ) → S (f e n)) → S z → S (array_or r f z)
  array-or r f z h k = by-kind r _ _ _ _ _ _ _ _ (λ u m a n. k) (λ u a. k) (λ u b l. k) (λ m. k) (λ l. k) h (λ c n. k) (λ x. k)

  pub primitive-or : (r : Record) (f : ℕ → ℕ → Rule) (z : Rule) → ((c n : ℕ) → S (f c n)) → S z → S (primitive_or r f z)
  primitive-or r f z h k = by-kind r _ _ _ _ _ _ _ _ (λ u m a n. k) (λ u a. k) (λ u b l. k) (λ m. k) (λ l. k) (λ e n. k) h (λ x. k)
