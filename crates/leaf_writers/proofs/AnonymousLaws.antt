-- The laws of hexadecimal digits and of the strings that name an anonymous namespace. Assumes nothing.
use Prim.Native.Nat.{ℕ, suc, ◌+◌, ◌*◌, ◌-◌, ◌%◌, ◌<◌, ◌≤◌}
use mathlib.Core.Path.{◌≡◌, refl, sym, ◌∙◌}
use mathlib.Core.List.{List, [], ◌∷◌}
use mathlib.Core.Bool.{Bool, true, false, ◌&&◌}
use lib.ListN.{length, drop, get_or, drop_of_length-le}
use lib.Seq.{drop-cons}
use lib.Dec.{leb, ltb}
use native.Mathlib.Omega.{arith}
use native.Mathlib.Numerals.{add-one}
use borrow.Author.Tests.{lt-ltb, le-ltb}
use Rattle.std.specs.Prelude.{Some, None}
use Rattle.wire.specs.Field.{pick}
use Rattle.wire.specs.Text.{bytes}
use Rattle.utf8.specs.Utf8.{shown}
use Rattle.rules.specs.Text.{hex_digit, hex_below, is_anonymous_namespace, string_text}
use Rattle.rules.proofs.Shown.{shown-anonymous}
use Rattle.pen.specs.Page.{writing}

-- What a digit's value is handed to, and what follows where a byte is none.
pub digit-some : {A : Type 0} (f : ℕ → A) (z : A) (b d : ℕ) → Some d ≡ hex_digit b Some None → hex_digit b f z ≡ f d
unfolding hex_digit
digit-some {A} f z b d = by (leb 48 b && ltb b 58) (leb 65 b && ltb b 71) (leb 97 b && ltb b 103)
  where
    by : (p q r : Bool) → Some d ≡ pick p (Some (b % 48)) (pick q (Some (b % 65 + 10)) (pick r (Some (b % 97 + 10)) None))
        → pick p (f (b % 48)) (pick q (f (b % 65 + 10)) (pick r (f (b % 97 + 10)) z)) ≡ f d
    by true q r e = cc
    by false true r e = cc
    by false false true e = cc
    by false false false e = cc

pub digit-none : {A : Type 0} (f : ℕ → A) (z : A) (b : ℕ) → None ≡ hex_digit b Some None → hex_digit b f z ≡ z
unfolding hex_digit
digit-none {A} f z b = by (leb 48 b && ltb b 58) (leb 65 b && ltb b 71) (leb 97 b && ltb b 103)
  where
    by : (p q r : Bool) → None ≡ pick p (Some (b % 48)) (pick q (Some (b % 65 + 10)) (pick r (Some (b % 97 + 10)) None))
        → pick p (f (b % 48)) (pick q (f (b % 65 + 10)) (pick r (f (b % 97 + 10)) z)) ≡ z
    by true q r e = cc
    by false true r e = cc
    by false false true e = cc
    by false false false e = refl

-- A number once too large stays so.
over : (n : ℕ) (s : List ℕ) → 4_294_967_296 ≤ n → hex_below n s ≡ false
unfolding hex_below hex_digit
over n [] h = le-ltb n 4_294_967_296 h
over n (b ∷ s) h = by (leb 48 b && ltb b 58) (leb 65 b && ltb b 71) (leb 97 b && ltb b 103) (λ d. over (n * 16 + d) s (omega arith))
  where
    by : (p q r : Bool) → ((d : ℕ) → hex_below (n * 16 + d) s ≡ false)
        → pick p (hex_below (n * 16 + b % 48) s) (pick q (hex_below (n * 16 + (b % 65 + 10)) s) (pick r (hex_below (n * 16 + (b % 97 + 10)) s) false)) ≡ false
    by true q r rest = rest (b % 48)
    by false true r rest = rest (b % 65 + 10)
    by false false true rest = rest (b % 97 + 10)
    by false false false rest = refl

-- One step of `hex_below`: a digit, no digit, a number too large; and its end.
module _ (s : List ℕ) (n i : ℕ) where
  module _ (h : i < length s) where
    pub below_next : (d : ℕ) → Some d ≡ hex_digit (get_or s i 0) Some None → hex_below n (drop i s) ≡ hex_below (n * 16 + d) (drop (i + 1) s)
    unfolding hex_below
    below_next d e = rw (add-one, drop-cons s i 0 h) (digit-some (λ d. hex_below (n * 16 + d) (drop (suc i) s)) false (get_or s i 0) d e)

    pub below_other : None ≡ hex_digit (get_or s i 0) Some None → hex_below n (drop i s) ≡ false
    unfolding hex_below
    below_other e = rw (drop-cons s i 0 h) (digit-none (λ d. hex_below (n * 16 + d) (drop (suc i) s)) false (get_or s i 0) e)

    pub below-over : (d : ℕ) → Some d ≡ hex_digit (get_or s i 0) Some None → 4_294_967_296 ≤ n * 16 + d → hex_below n (drop i s) ≡ false
    below-over d e k = below_next d e ∙ over (n * 16 + d) (drop (i + 1) s) k

  pub below_all : length s ≤ i → n < 4_294_967_296 → hex_below n (drop i s) ≡ true
  unfolding hex_below
  below_all h k = rw (drop_of_length-le s h) (lt-ltb n 4_294_967_296 k)

-- What is written of a string, by its bytes.
pub string-anonymous : (s : List ℕ) (r : Bool) → r ≡ is_anonymous_namespace s → r ≡ true → writing (bytes "`anonymous namespace'") ≡ writing (string_text (shown s))
unfolding string_text
string-anonymous s r e h = rw (shown-anonymous s ∙ sym e ∙ h) refl

pub string-itself : (s : List ℕ) (r : Bool) → r ≡ is_anonymous_namespace s → r ≡ false → writing (shown s) ≡ writing (string_text (shown s))
unfolding string_text
string-itself s r e h = rw (shown-anonymous s ∙ sym e ∙ h) refl
