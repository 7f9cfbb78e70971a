-- What the rules ask of a name they may ask of its bytes or of the name as it is shown (document 02, Note 2: "the anonymous test reads the replaced name"):
-- whether it ends in a sign, and whether it is that of an anonymous namespace. Assumes nothing.
use Prim.Native.Nat.{ℕ, ◌+◌, ◌*◌, ◌%◌, ◌≤◌, ◌<◌}
use mathlib.Core.Path.{◌≡◌, refl, ap, sym, ◌∙◌}
use mathlib.Core.Bool.{Bool, true, false, ◌&&◌, ◌||◌}
use mathlib.Core.List.{List, [], ◌∷◌}
use lib.Dec.{eqb, leb, ltb}
use lib.ListN.{take, drop, take-append-drop}
use native.Mathlib.Omega.{arith}
use borrow.Author.Tests.{eqb-true, ne_eqb, lt-ltb, ltb-true}
use Rattle.wire.specs.Field.{pick}
use Rattle.wire.specs.Text.{bytes}
use Rattle.utf8.specs.Utf8.{shown}
use Rattle.utf8.proofs.Shown.{never, both, ends_in, shown-ends, all_ascii, shown-all, shown-plain, all_append}
use Rattle.rules.specs.Text.{ends_signed, hex_digit, hex_below, hex_number, plus_number, same_bytes, is_anonymous_namespace}

-- Whether it ends in a sign.
abbrev is_sign : ℕ → Bool
is_sign b = eqb b 42 || eqb b 38

sign-ends : (s : List ℕ) → ends_signed s ≡ ends_in is_sign false s
unfolding ends_signed ends_in
sign-ends [] = refl
sign-ends (b ∷ []) = refl
sign-ends (b ∷ d ∷ bs) = sign-ends (d ∷ bs)

sign_low : (b : ℕ) → 128 ≤ b → is_sign b ≡ false
sign_low b h = rw (ne_eqb b 42 (λ e. omega arith), ne_eqb b 38 (λ e. omega arith)) refl

pub shown-signed : (s : List ℕ) → ends_signed (shown s) ≡ ends_signed s
shown-signed s = sign-ends (shown s) ∙ shown-ends is_sign sign_low s ∙ sym (sign-ends s)

-- Whether it is that of an anonymous namespace: all bytes of such a name are ASCII.
small : (a b c : ℕ) → (leb a b && ltb b c) ≡ true → c ≤ 128 → ltb b 0x80 ≡ true
small a b c h k = let m : b < c = ltb-true b c (both (leb a b) (ltb b c) h).1 in lt-ltb b 0x80 (omega arith)

below-ascii : (n : ℕ) (s : List ℕ) → hex_below n s ≡ true → all_ascii s ≡ true
unfolding hex_below hex_digit all_ascii
below-ascii n [] h = refl
below-ascii n (b ∷ bs) h = by (leb 48 b && ltb b 58) (leb 65 b && ltb b 71) (leb 97 b && ltb b 103) refl refl refl h (λ m. below-ascii m bs)
  where
    by : (p q r : Bool) → (leb 48 b && ltb b 58) ≡ p → (leb 65 b && ltb b 71) ≡ q → (leb 97 b && ltb b 103) ≡ r
        → pick p (hex_below (n * 16 + b % 48) bs) (pick q (hex_below (n * 16 + (b % 65 + 10)) bs) (pick r (hex_below (n * 16 + (b % 97 + 10)) bs) false)) ≡ true
        → ((m : ℕ) → hex_below m bs ≡ true → all_ascii bs ≡ true) → (ltb b 0x80 && all_ascii bs) ≡ true
    by true q r e f g h k = rw (small 48 b 58 e (omega arith)) (k _ h)
    by false true r e f g h k = rw (small 65 b 71 f (omega arith)) (k _ h)
    by false false true e f g h k = rw (small 97 b 103 g (omega arith)) (k _ h)
    by false false false e f g h k = never h

number-ascii : (s : List ℕ) → hex_number s ≡ true → all_ascii s ≡ true
unfolding hex_number
number-ascii [] h = never h
number-ascii (b ∷ bs) h = below-ascii 0 (b ∷ bs) h

plus-ascii : (s : List ℕ) → plus_number s ≡ true → all_ascii s ≡ true
unfolding plus_number all_ascii
plus-ascii [] h = never h
plus-ascii (b ∷ bs) h = by (eqb b 43) refl h
  where
    by : (t : Bool) → eqb b 43 ≡ t → pick t (hex_number bs) (hex_number (b ∷ bs)) ≡ true → (ltb b 0x80 && all_ascii bs) ≡ true
    by true e h = let k = eqb-true b 43 e in rw (lt-ltb b 0x80 (omega arith)) (number-ascii bs h)
    by false e h = number-ascii (b ∷ bs) h

same-ascii : (a b : List ℕ) → same_bytes a b ≡ true → all_ascii b ≡ true → all_ascii a ≡ true
unfolding same_bytes all_ascii
same-ascii [] b h k = refl
same-ascii (x ∷ a) [] h k = never h
same-ascii (x ∷ a) (y ∷ b) h k =
    let e = eqb-true x y (both (eqb x y) (same_bytes a b) h).0 in
    let l = both (ltb y 0x80) (all_ascii b) k in
    rw (e, l.0) (same-ascii a b (both (eqb x y) (same_bytes a b) h).1 l.1)

letters : all_ascii (bytes "?A0x") ≡ true
unfolding all_ascii
letters = refl

anonymous-ascii : (s : List ℕ) → is_anonymous_namespace s ≡ true → all_ascii s ≡ true
unfolding is_anonymous_namespace
anonymous-ascii s h =
    let k = both (same_bytes (take 4 s) (bytes "?A0x")) (plus_number (drop 4 s)) h in
    rw (← take-append-drop 4 s) (all_append (take 4 s) (drop 4 s) (same-ascii (take 4 s) (bytes "?A0x") k.0 letters) (plus-ascii (drop 4 s) k.1))

not-anonymous : (s : List ℕ) → all_ascii s ≡ false → is_anonymous_namespace s ≡ false
not-anonymous s h = by (is_anonymous_namespace s) refl
  where
    by : (t : Bool) → is_anonymous_namespace s ≡ t → t ≡ false
    by true e = never (sym h ∙ anonymous-ascii s e)
    by false e = refl

pub shown-anonymous : (s : List ℕ) → is_anonymous_namespace (shown s) ≡ is_anonymous_namespace s
shown-anonymous s = by (all_ascii s) refl
  where
    by : (t : Bool) → all_ascii s ≡ t → is_anonymous_namespace (shown s) ≡ is_anonymous_namespace s
    by true e = ap is_anonymous_namespace (shown-plain s e)
    by false e = not-anonymous (shown s) (shown-all s ∙ e) ∙ sym (not-anonymous s e)
