-- Laws of numbers in digits, the last of which is written first. Assumes nothing.
use Prim.Native.Nat.{ℕ, zero, suc, ◌+◌, ◌-◌, ◌/◌, ◌%◌, ◌≤◌, ◌<◌}
use mathlib.Core.Path.{◌≡◌, refl, ap, sym, ◌∙◌}
use mathlib.Core.List.{List, [], ◌∷◌, ◌++◌, append_assoc, append-nil}
use mathlib.Core.Bool.{Bool, true, false}
use lib.ListN.{length, take, drop, set}
use lib.Seq.{drop-length, set_split, drop_at, length-take-le}
use lib.Dec.{ltb}
use native.Mathlib.Nat.{mod-eq_of_lt}
use native.Mathlib.Omega.{arith}
use borrow.Author.Tests.{lt-ltb, le-ltb, ltb-true, ltb-false}
use Rattle.wire.specs.Field.{pick}
use Rattle.rules.specs.Text.{digit, numeral}

-- A byte that is a digit on both sides of ten.
pub digit-is : (n d : ℕ) → (n < 10 → d ≡ 48 + n) → (10 ≤ n → d ≡ 87 + n) → d ≡ digit n
unfolding digit
digit-is n d low high = by (ltb n 10) refl
  where
    by : (t : Bool) → ltb n 10 ≡ t → d ≡ pick t (48 + n) (87 + n)
    by true e = low (ltb-true n 10 e)
    by false e = high (ltb-false n 10 e)

-- A byte and what stands behind it.
placed : (buf : List ℕ) (a d : ℕ) → a < length buf → drop a (set buf a d) ≡ d ∷ drop (suc a) buf
placed buf a d h = ap (drop a) (set_split buf a d h) ∙ drop_at (take a buf) (d ∷ drop (suc a) buf) a (length-take-le a buf (omega arith))

-- Before the first digit.
pub digits-none : (b n : ℕ) (buf : List ℕ) → numeral b (length buf) n ≡ numeral b (length buf) n ++ drop (length buf) buf
digits-none b n buf = sym (ap (λ (r : List ℕ). numeral b (length buf) n ++ r) (drop-length buf) ∙ append-nil (numeral b (length buf) n))

-- The highest digit, and any other.
pub digits_last : (b l n d : ℕ) (buf : List ℕ) → 0 < l → l ≤ length buf → n < b → d ≡ digit (n % b) → numeral b l n ++ drop l buf ≡ drop (l - 1) (set buf (l - 1) d)
unfolding numeral
digits_last b zero n d buf h j k e = absurd (omega arith)
digits_last b (suc l) n d buf h j k e =
    let m : suc l - 1 ≡ l = omega arith in
    let x : digit n ≡ d = sym (e ∙ ap digit (mod-eq_of_lt k)) in
    rw (lt-ltb n b k, m, x) (sym (placed buf l d (omega arith)))

pub digits_more : (b l n d : ℕ) (buf : List ℕ) → 0 < l → l ≤ length buf → b ≤ n → d ≡ digit (n % b)
    → numeral b l n ++ drop l buf ≡ numeral b (l - 1) (n / b) ++ drop (l - 1) (set buf (l - 1) d)
unfolding numeral
digits_more b zero n d buf h j k e = absurd (omega arith)
digits_more b (suc l) n d buf h j k e =
    let m : suc l - 1 ≡ l = omega arith in
    rw (le-ltb n b k, m, ← e) (append_assoc (numeral b l (n / b)) (d ∷ []) (drop (suc l) buf) ∙ ap (λ (r : List ℕ). numeral b l (n / b) ++ r) (sym (placed buf l d (omega arith))))

-- No digit more has room.
pub digits-all : (b l n : ℕ) (buf : List ℕ) → l ≡ 0 → numeral b l n ++ drop l buf ≡ buf
unfolding numeral
digits-all b l n buf e = rw e refl
