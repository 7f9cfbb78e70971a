-- The laws of the settings and of the stacks: a search, a push, a change of the newest, and when a stack is full. Assumes nothing.
use Prim.Native.Nat.{ℕ, zero, suc, ◌+◌, ◌-◌, ◌*◌, ◌/◌, ◌%◌, ◌^◌, ◌<◌, ◌≤◌}
use mathlib.Core.Path.{◌≡◌, refl, ap, sym, ◌∙◌}
use mathlib.Core.List.{List, [], ◌∷◌, map}
use mathlib.Core.Bool.{Bool, true, false, not, ◌||◌}
use lib.ListN.{length, set, take, drop, get_or, length-set, length-drop, length-map, drop_of_length-le}
use lib.Seq.{take_all, drop-cons, drop-set-lt, get_or-set_same}
use lib.Bits.{bit_and, and_high}
use lib.Dec.{eqb, leb}
use lib.Pow.{high_ones, pow_pos}
use native.Mathlib.Nat.{one-mul}
use native.Mathlib.Decide.{dec_lt}
use native.Mathlib.Numerals.{add-one}
use native.Mathlib.Omega.{arith}
use Rattle.std.specs.List.{list_any, fold}
use borrow.Author.Tests.{eq-eqb, ne_eqb, lt-leb, le-leb, lt-ltb}
use Rattle.interpreter.specs.Trace.{key}
use Rattle.rules.specs.Flags.{settings}
use Rattle.rules.specs.Text.{Level, level, over_pointee}
use Rattle.codeview.specs.Record.{bit}
use Rattle.codeview.specs.declared.record.PointerMode.{PointerMode}
use Rattle.context.specs.declared.flags.Call.{Call}
use Rattle.context.specs.declared.levels.Levels.{Levels}
use Rattle.context.specs.declared.levels.Dimensions.{Dimensions}
use Rattle.context.specs.declared.levels.PtrAttributes.{PtrAttributes}
use Rattle.codeview.specs.declared.record.PointerMode.TheVariants as mode
use Rattle.streams.specs.declared.refusal.Refusal.TheVariants.{CircularTypeDefinition, TooManyOpen}
use Rattle.pen.specs.Page.{read_pen, idle, refused_pen, opened_pen}
use Rattle.pen.proofs.Laws.{refused-alive}
use Rattle.pen.specs.declared.Pen.{Pen}
use Rattle.context.specs.Context.{intersects, settings_of, key_of, keys_of, has_index, flags_byte, mode_byte, mode_at, level_byte, level_of, level_at, over_levels, sizes_of, pushed_dimension}
use Rattle.context.specs.Opening.{noted, leaves, opens_to}
use Rattle.context.specs.declared.seen.Way.{Way}

-- a flag that is one bit
one_bit : (d p : ℕ) → d < 2 → 0 < p → not (eqb (d * p) 0) ≡ eqb d 1
one_bit zero p h k = let e : 0 * p ≡ 0 = omega arith in rw e
one_bit (suc zero) p h k = let e : 1 * p ≡ 0 → ⊥ = λ z. omega arith in rw (ne_eqb _ _ e)
one_bit (suc (suc d)) p h k = absurd (omega arith)

pub flag-bit : (k n : ℕ) → intersects n (2 ^ k) ≡ bit k n
unfolding intersects bit
flag-bit k n =
    let w : 2 ^ k ≡ 2 ^ (1 + k) - 2 ^ k = sym (high_ones 1 k ∙ one-mul (2 ^ k)) in
    let e : bit_and n (2 ^ k) ≡ (n / 2 ^ k % 2) * 2 ^ k = ap (bit_and n) w ∙ and_high n 1 k in
    rw e (one_bit (n / 2 ^ k % 2) (2 ^ k) (omega arith) (pow_pos k))

-- the settings of a call, each by its flag
module _ (c : Call) where
  pub sets_no_return : intersects c.flags.0 0b1 ≡ (settings_of c).no_return
  unfolding settings_of settings
  sets_no_return = flag-bit 0 c.flags.0

  pub sets_no_static : intersects c.flags.0 0b10 ≡ (settings_of c).no_static
  unfolding settings_of settings
  sets_no_static = flag-bit 1 c.flags.0

  pub sets_space_comma : intersects c.flags.0 0b100 ≡ (settings_of c).space_comma
  unfolding settings_of settings
  sets_space_comma = flag-bit 2 c.flags.0

  pub sets_space_pointer : intersects c.flags.0 0b1000 ≡ (settings_of c).space_pointer
  unfolding settings_of settings
  sets_space_pointer = flag-bit 3 c.flags.0

  pub sets_name_only : intersects c.flags.0 0b1_0000 ≡ (settings_of c).name_only
  unfolding settings_of settings
  sets_name_only = flag-bit 4 c.flags.0

  pub sets_no_arguments : intersects c.flags.0 0b10_0000 ≡ (settings_of c).no_arguments
  unfolding settings_of settings
  sets_no_arguments = flag-bit 5 c.flags.0

-- a search of the open indexes
pub any-has : (l : List ℕ) (i : ℕ) → list_any (λ x. eqb (x % 4_294_967_296) i) l ≡ has_index i (keys_of l)
unfolding has_index keys_of
any-has [] i = refl
any-has (x ∷ l) i = ap (λ b. eqb (x % 4_294_967_296) i || b) (any-has l i)

-- all asked, one after another, and the answers joined
pub any-at-once : (p : ℕ → Bool) (l : List ℕ) (t : Bool) → fold (λ t x. t || p x) t l ≡ (t || list_any p l)
any-at-once p [] true = refl
any-at-once p [] false = refl
any-at-once p (x ∷ l) true = any-at-once p l true
any-at-once p (x ∷ l) false = any-at-once p l (p x)

-- a push
pub drop-set : {A : Type 0} (l : List A) (n : ℕ) (x : A) → n < length l → drop n (set l n x) ≡ x ∷ drop (n + 1) l
drop-set l n x h =
    let k : n < length (set l n x) = simp length-set (omega arith) in
    let m : n < suc n = omega arith in
    drop-cons (set l n x) n x k ∙ (rw (get_or-set_same l n x x (omega arith), drop-set-lt (suc n) l n x m, add-one))

pub drop-push : {A : Type 0} (l : List A) (n : ℕ) (x : A) → 0 < n → n ≤ length l → drop (n - 1) (set l (n - 1) x) ≡ x ∷ drop n l
drop-push l n x h k =
    let e : (n - 1) + 1 ≡ n = omega arith in
    drop-set l (n - 1) x (omega arith) ∙ (rw e)

-- a key is packed and taken apart again
packed : (w i : ℕ) → i < 4_294_967_296 → key_of (w * 4_294_967_296 + i) ≡ key w i
packed w i h =
    let a : (w * 4_294_967_296 + i) / 4_294_967_296 ≡ w = omega arith in
    let b : (w * 4_294_967_296 + i) % 4_294_967_296 ≡ i = omega arith in
    rw (a, b)

pub keys_push : (l m : List ℕ) (w i : ℕ) → i < 4_294_967_296 → m ≡ (w * 4_294_967_296 + i) ∷ l → keys_of m ≡ key w i ∷ keys_of l
unfolding keys_of
keys_push l m w i k e = rw (e, packed w i k)

pub keys_length : (l : List ℕ) → length (keys_of l) ≡ length l
unfolding keys_of
keys_length l = length-map l key_of

-- what an opening comes to, by a search of the open part of the list
module _ (p : Pen) (list : List ℕ) (left : ℕ) (w : Way) (i : ℕ) where
  pub opens-idle : idle (read_pen p).stop ≡ true → leaves list p ≡ opens_to p list left w i
  unfolding opens_to
  opens-idle a = rw a

  module _ (a : idle (read_pen p).stop ≡ false) (b : Bool) (e : b ≡ list_any (λ x. eqb (x % 4_294_967_296) i) (take (length list - left) (drop left list))) where
    among : has_index i (keys_of (drop left list)) ≡ b
    among = let k : length (drop left list) ≤ length list - left = simp length-drop (omega arith) in sym (any-has (drop left list) i) ∙ sym (rw (take_all (length list - left) (drop left list) k) at e)

    pub opens-again : (q : Pen) → b ≡ true → q ≡ refused_pen p (CircularTypeDefinition i) → leaves list q ≡ opens_to p list left w i
    unfolding opens_to
    opens-again q f g = rw (a, among, f, g, refused-alive p (CircularTypeDefinition i) a)

    pub opens-full : (q : Pen) → b ≡ false → left ≡ 0 → q ≡ refused_pen p (TooManyOpen i) → leaves list q ≡ opens_to p list left w i
    unfolding opens_to
    opens-full q f z g = rw (a, among, f, eq-eqb left 0 z, g, refused-alive p (TooManyOpen i) a)

    pub opens_in : (q : Pen) (x : ℕ) → b ≡ false → (left ≡ 0 → ⊥) → x ≡ noted w i → q ≡ opened_pen p → leaves (set list (left - 1) x) q ≡ opens_to p list left w i
    unfolding opens_to
    opens_in q x f z h g = rw (a, among, f, ne_eqb left 0 z, h, g)

-- one level of an array more, and how many more may follow
pub pushed-left : (o : Dimensions) (x n : ℕ) → o.left ≡ suc n → (pushed_dimension o x).left ≡ n
unfolding pushed_dimension
pushed-left o x n e = omega arith

pub pushed-items : (o : Dimensions) (x : ℕ) → length (pushed_dimension o x).items ≡ length o.items
unfolding pushed_dimension
pushed-items o x = length-set o.items (o.left - 1) x

pub pushed-sizes : (o : Dimensions) (x : ℕ) → 0 < o.left → o.left ≤ length o.items → sizes_of (pushed_dimension o x) ≡ x ∷ sizes_of o
unfolding pushed_dimension sizes_of
pushed-sizes o x h k = drop-push o.items o.left x h k

pub room-is : (o : Dimensions) → length o.items ≡ 32 → leb 32 (length (sizes_of o)) ≡ eqb o.left 0
unfolding sizes_of
room-is o k = by (dec_lt 0 o.left)
  where
    by : Dec (0 < o.left) → leb 32 (length (drop o.left o.items)) ≡ eqb o.left 0
    by (yes e) = let m : length (drop o.left o.items) < 32 = simp length-drop (omega arith) in let z : o.left ≡ 0 → ⊥ = λ z. omega arith in simp (ne_eqb _ _ z, lt-leb 32 _ m)
    by (no e) = let m : 32 ≤ length (drop o.left o.items) = simp length-drop (omega arith) in let z : o.left ≡ 0 = omega arith in simp (eq-eqb _ _ z, le-leb 32 _ m)

-- a level is packed and taken apart again
pub unpacked : (c p : Bool) (m : PointerMode) → level_at (level_byte c p m) ≡ level c p m
unfolding level_at flags_byte mode_byte mode_at
unpacked false false mode.Pointer = refl
unpacked false false mode.LValueReference = refl
unpacked false false mode.Member = refl
unpacked false false mode.MemberFunction = refl
unpacked false false mode.RValueReference = refl
unpacked false true mode.Pointer = refl
unpacked false true mode.LValueReference = refl
unpacked false true mode.Member = refl
unpacked false true mode.MemberFunction = refl
unpacked false true mode.RValueReference = refl
unpacked true false mode.Pointer = refl
unpacked true false mode.LValueReference = refl
unpacked true false mode.Member = refl
unpacked true false mode.MemberFunction = refl
unpacked true false mode.RValueReference = refl
unpacked true true mode.Pointer = refl
unpacked true true mode.LValueReference = refl
unpacked true true mode.Member = refl
unpacked true true mode.MemberFunction = refl
unpacked true true mode.RValueReference = refl

-- a push of a level
pub levels-push : (l : List ℕ) (n x : ℕ) (v : Level) → 0 < n → n ≤ length l → level_at x ≡ v
    → map level_at (drop (n - 1) (set l (n - 1) x)) ≡ v ∷ map level_at (drop n l)
levels-push l n x v h k e = rw (drop-push l n x h k, ← e)

-- a change of the newest level
pub over-newest : (l : List ℕ) (n x : ℕ) (c : Bool) → n < length l → level_at x ≡ level (level_at (get_or l n 0)).constant c (level_at (get_or l n 0)).mode
    → map level_at (drop n (set l n x)) ≡ over_pointee c (map level_at (drop n l))
unfolding over_pointee
over-newest l n x c h e = rw (drop-set l n x h, drop-cons l n 0 h, add-one, e)

pub over-read : (r : PtrAttributes) (b : ℕ) (c : Bool) → level_of r ≡ level_at b → level r.constant c r.mode ≡ level (level_at b).constant c (level_at b).mode
over-read r b c e = ap (λ (l : Level). level l.constant c l.mode) e

pub over-is : (o : Levels) (x : ℕ) (c : Bool) (r : PtrAttributes) → o.left < 96 → level_of r ≡ level_at (get_or o.items o.left 0) → x ≡ level_byte r.constant c r.mode
    → record { items = set o.items o.left x; left = o.left } ≡ over_levels o c
unfolding over_levels
over-is o x c r h e k =
    let m : x ≡ level_byte (level_at (get_or o.items o.left 0)).constant c (level_at (get_or o.items o.left 0)).mode = k ∙ ap (λ (l : Level). level_byte l.constant c l.mode) e in
    simp (lt-ltb _ _ h) (rw m)
