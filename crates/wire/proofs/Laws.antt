-- Laws of fields, over the width. Assumes nothing.
use Rattle.std.proofs.Common.{◌≡◌, ℕ, zero, suc, ◌+◌, ◌-◌, ◌*◌, ◌^◌, ◌≤◌, ◌<◌, ◌≢◌, Bool, true, false, leb, ltb, List, length, get_or, Option, Some, None, refl, sym, ◌∙◌, arith}
use Rattle.std.proofs.lemmas.Grind.{common_steps}
use lib.ListN.{take, set}
use lib.Seq.{take_all, take-suc, take-suc-set}
use native.Mathlib.Numerals.{add-one}
use native.Mathlib.Nat.{le_refl, add-zero, zero-add, suc-add, mul_assoc, pow-succ', pow-zero}
use borrow.Author.Tests.{le-leb, lt-leb, lt-ltb, leb-true, ltb-true, ltb-false, ne_eqb}
use Rattle.wire.specs.Name.{zero_from, zero_among, name_end, name, name_answer}
use Rattle.wire.specs.Leaf.{payload, leaf, leaf_answer}
use Rattle.wire.specs.declared.leaf.Leaf.{Leaf}
use Rattle.wire.specs.declared.name.Name.{Name}
use Rattle.wire.specs.Field.{pick, number, field, field_answer}

-- A field with fewer bytes left than its width is outside; any other is inside.
pub field_short : {A : Type 0} (width : ℕ) (s : List ℕ) (at : ℕ) (inside : ℕ → A) (outside : A) → length s < at + width → outside ≡ field width s at inside outside
unfolding field
field_short width s at k z h = rw (lt-leb (at + width) (length s) h)

pub field_long : {A : Type 0} (width : ℕ) (s : List ℕ) (at : ℕ) (inside : ℕ → A) (outside : A) (n : ℕ) → at + width ≤ length s → n ≡ number width s at → inside n ≡ field width s at inside outside
unfolding field
field_long width s at k z n h e = rw (le-leb (at + width) (length s) h, e)

-- A field of two widths together is the first part and the second part above it.
pub number-split : (v w : ℕ) (s : List ℕ) (at : ℕ) → number (v + w) s at ≡ number v s at + 256 ^ v * number w s (at + v)
unfolding number
number-split zero w s at = rw (zero-add w, add-zero at, pow-zero) (omega arith)
number-split (suc v) w s at =
    let e : at + 1 + v ≡ at + suc v = omega arith in
    rw (suc-add v w, number, number-split v w s (at + 1), pow-succ' 256 v, mul_assoc 256 (256 ^ v) (number w s (at + suc v)), e) (omega arith)

-- A test only picks, and a field only goes on or stops: a function of what follows is what follows with the function put on each answer.
pub map-pick : {A B : Type 0} (f : A → B) (b : Bool) (x y : A) → f (pick b x y) ≡ pick b (f x) (f y)
map-pick f true x y = refl
map-pick f false x y = refl

pub map-field : {A B : Type 0} (f : A → B) (w : ℕ) (s : List ℕ) (at : ℕ) (k : ℕ → A) (z : A) → f (field w s at k z) ≡ field w s at (λ n. f (k n)) (f z)
unfolding field
map-field f w s at k z = map-pick f (leb (at + w) (length s)) (k (number w s at)) z

-- Whatever holds of each answer to a field inside, and of the answer to one outside, holds of what follows from the field.
pub all-field : {A : Type 0} (P : A → Type 0) (w : ℕ) (s : List ℕ) (at : ℕ) (k : ℕ → A) (z : A) → ((n : ℕ) → at + w ≤ length s → P (k n)) → P z → P (field w s at k z)
unfolding field
all-field P w s at k z f p = go (leb (at + w) (length s)) refl
  where
    go : (b : Bool) → leb (at + w) (length s) ≡ b → P (pick b (k (number w s at)) z)
    go true e = f (number w s at) (leb-true (at + w) (length s) e)
    go false e = p

-- What an answered field says: where it lies, and that whatever goes by that field goes on with its number or stops.
module _ (width : ℕ) (s : List ℕ) (at : ℕ) {r : Option ℕ} (e : r ≡ field_answer width s at) where
  pub within_field : (x : ℕ) → r ≡ Some x → at + width ≤ length s
  unfolding field
  within_field x h = grind (arith, common_steps, leb-true)

  pub read_field : (x : ℕ) → r ≡ Some x → {A : Type 0} (k : ℕ → A) (z : A) → field width s at k z ≡ k x
  unfolding field
  read_field x h k z = grind (arith, common_steps)

  pub unread_field : r ≡ None → {A : Type 0} (k : ℕ → A) (z : A) → field width s at k z ≡ z
  unfolding field
  unread_field h k z = grind (arith, common_steps)

-- Looking for the end of a name: it is here, or it is looked for one place on, or the slice ends.
module _ (s : List ℕ) (at : ℕ) where
  pub zero_here : at < length s → get_or s at 0 ≡ 0 → name_end s at ≡ at
  unfolding name_end zero_from
  zero_here h e = let k : length s - at ≡ suc (length s - (at + 1)) = omega arith in rw (k, e)

  pub zero_later : at < length s → get_or s at 0 ≢ 0 → name_end s at ≡ name_end s (at + 1)
  unfolding name_end zero_from
  zero_later h e = let k : length s - at ≡ suc (length s - (at + 1)) = omega arith in rw (k, ne_eqb (get_or s at 0) 0 e)

  pub zero_none : length s ≤ at → name_end s at ≡ at
  unfolding name_end zero_from
  zero_none h = let k : length s - at ≡ 0 = omega arith in rw k

-- Where no zero stands among so many bytes it is looked for behind them.
pub zero_behind : (n : ℕ) (s : List ℕ) (at : ℕ) → at + n ≤ length s → zero_among n s at ≡ false → name_end s at ≡ name_end s (at + n)
unfolding zero_among
zero_behind zero s at h e = rw add-zero
zero_behind (suc n) s at h e =
    let m : at + n + 1 ≡ at + suc n = omega arith in
    let l = zero_later s (at + n) (omega arith) in
    let b = zero_behind n s at (omega arith) in
    grind (arith, common_steps)

-- What a name that was read says: it starts where it was asked for and ends inside, and whatever goes by it goes on with its length or stops.
pub map-name : {A B : Type 0} (f : A → B) (s : List ℕ) (at : ℕ) (k : ℕ → A) (z : A) → f (name s at k z) ≡ name s at (λ n. f (k n)) (f z)
unfolding name
map-name f s at k z = map-pick f (ltb (name_end s at) (length s)) (k (name_end s at - at)) z

end_after : (n : ℕ) (s : List ℕ) (at : ℕ) → at ≤ zero_from n s at
unfolding zero_from
end_after zero s at = le_refl at
end_after (suc n) s at = let h = end_after n s (at + 1) in grind (arith, common_steps)

module _ (s : List ℕ) (at : ℕ) {r : Option Name} (e : r ≡ name_answer s at) where
  pub read_name : (n : Name) → r ≡ Some n → {A : Type 0} (k : ℕ → A) (z : A) → name s at k z ≡ k n.len
  unfolding name
  read_name n h k z = grind (arith, common_steps)

  pub unread_name : r ≡ None → {A : Type 0} (k : ℕ → A) (z : A) → name s at k z ≡ z
  unfolding name
  unread_name h k z = grind (arith, common_steps)

  pub within_name : (n : Name) → r ≡ Some n → (n.start ≡ at) × (at + n.len < length s)
  unfolding name name_end
  within_name n h = grind (arith, common_steps, ltb-true, ltb-false, end_after (length s - at) s at)

-- No number has width 0; any other is a field of its width.
pub payload_pick : {A : Type 0} (w : ℕ) (s : List ℕ) (at : ℕ) (k : ℕ → ℕ → ℕ → A) (z : A) → payload w s at k z ≡ pick (ltb 0 w) (field w s at (λ v. k v w (at + w)) z) z
unfolding payload
payload_pick zero s at k z = refl
payload_pick (suc w) s at k z = rw (lt-ltb 0 (suc w) (omega arith))

-- What a leaf that was read says.
module _ (o : ℕ → ℕ) (s : List ℕ) (at : ℕ) {r : Option Leaf} (e : r ≡ leaf_answer o s at) where
  pub read_leaf : (l : Leaf) → r ≡ Some l → {A : Type 0} (k : ℕ → ℕ → ℕ → A) (z : A) → leaf o s at k z ≡ k l.value l.width l.next
  unfolding leaf field
  read_leaf l h k z = let q = simp payload_pick at (sym e ∙ h) in simp payload_pick (grind (arith, common_steps))

  pub unread_leaf : r ≡ None → {A : Type 0} (k : ℕ → ℕ → ℕ → A) (z : A) → leaf o s at k z ≡ z
  unfolding leaf field
  unread_leaf h k z = let q = simp payload_pick at (sym e ∙ h) in simp payload_pick (grind (arith, common_steps))

-- Bytes over as many others: a turn of the copying, and what is copied when all of it is.
pub copy-turn : (d s : List ℕ) (i : ℕ) → length d ≡ length s → i < length s → take i d ≡ take i s → take (i + 1) (set d i (get_or s i 0)) ≡ take (i + 1) s
copy-turn d s i l h e = rw (add-one, take-suc-set d i (get_or s i 0) (omega arith), take-suc s i 0 h, e)

pub copy-all : (d s : List ℕ) (i : ℕ) → length d ≡ length s → length s ≤ i → take i d ≡ take i s → d ≡ s
copy-all d s i l h e = sym (take_all i d (omega arith)) ∙ e ∙ take_all i s h
