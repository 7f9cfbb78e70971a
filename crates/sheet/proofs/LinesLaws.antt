-- Laws of a sheet's commands and of its lines. Assumes nothing.
use Rattle.std.specs.Prelude.{Option, Some, None}
use Prim.Native.Nat.{ℕ, zero, suc, ◌+◌, ◌-◌, ◌/◌, ◌%◌, ◌≤◌, ◌<◌}
use mathlib.Core.Path.{◌≡◌, refl, ap, sym, ◌∙◌}
use mathlib.Core.Bool.{Bool, true, false}
use mathlib.Core.List.{List, [], ◌∷◌, ◌++◌}
use lib.ListN.{length, get_or, length-append, get_or-eq_default}
use lib.Dec.{eqb, ltb}
use native.Mathlib.Omega.{arith}
use borrow.Author.Tests.{ne_eqb}
use Rattle.wire.specs.Field.{pick}
use Rattle.wire.specs.Name.{zero_from}
use Rattle.wire.specs.Text.{bytes}
use Rattle.streams.specs.Refusal.{number_of, detail_of}
use Rattle.streams.specs.declared.refusal.Refusal.{Refusal}
use Rattle.rules.specs.Call.{refused_by}
use Rattle.rules.proofs.Demand.{numbered}
use Rattle.rules.specs.Text.{digit, numeral, decimal, hex}
use Rattle.pen.specs.Page.{writing}
use Rattle.sheet.specs.Line.{head, told_line, refused_line, text_line}

-- The end of a name, looked for from a place on.
pub name_stops : (n : ℕ) (s : List ℕ) (at : ℕ) → get_or s at 0 ≡ 0 → zero_from n s at ≡ at
unfolding zero_from
name_stops zero s at e = refl
name_stops (suc n) s at e = rw e

pub name_cut : (n : ℕ) (s : List ℕ) (at : ℕ) → length s ≤ at → zero_from n s at ≡ at
name_cut n s at h = name_stops n s at (get_or-eq_default s 0 h)

pub name_goes : (n m : ℕ) (s : List ℕ) (at : ℕ) → n ≡ suc m → (get_or s at 0 ≡ 0 → ⊥) → zero_from n s at ≡ zero_from m s (at + 1)
unfolding zero_from
name_goes n m s at h e = rw (h, ne_eqb (get_or s at 0) 0 e)

pub name_none : (n : ℕ) (s : List ℕ) (at : ℕ) → n ≡ 0 → zero_from n s at ≡ at
unfolding zero_from
name_none n s at e = rw e

-- A refusal's line, by its number and detail: no refusal has the number 0, so nothing comes behind them.
told-as : (n : ℕ) (f : Refusal) (bs : List ℕ) → told_line n (refused_by f) bs ≡ head n (number_of f) (detail_of f) ++ bytes "\n"
unfolding told_line
told-as n f bs = rw (ne_eqb (number_of f) 0 (λ e. let h = numbered f in omega arith)) refl

refused_as : (n : ℕ) (f : Refusal) → refused_line n f ≡ head n (number_of f) (detail_of f) ++ bytes "\n"
unfolding refused_line
refused_as n f = told-as n f []

pub told-refused : (n : ℕ) (f : Refusal) (bs : List ℕ) → told_line n (refused_by f) bs ≡ refused_line n f
told-refused n f bs = told-as n f bs ∙ sym (refused_as n f)

pub refused-line : (n : ℕ) (f : Refusal) {r d : ℕ} → r ≡ number_of f → d ≡ detail_of f → writing (head n r d ++ bytes "\n") ≡ writing (refused_line n f)
refused-line n f e g = rw (e, g, refused_as n f) refl

-- A line is short: its numbers have so many digits at most.
joined_length : (a b : List ℕ) (m n : ℕ) → length a ≤ m → length b ≤ n → length (a ++ b) ≤ m + n
joined_length a b m n h k = rw (length-append a b) (omega arith)

pub numeral-length : (b f n : ℕ) → length (numeral b f n) ≤ f
unfolding numeral
numeral-length b zero n = omega arith
numeral-length b (suc f) n = go (ltb n b) (numeral-length b f (n / b))
  where
    go : (t : Bool) → length (numeral b f (n / b)) ≤ f → length (pick t (digit n ∷ []) (numeral b f (n / b) ++ digit (n % b) ∷ [])) ≤ suc f
    go true h = omega arith
    go false h = let k = joined_length (numeral b f (n / b)) (digit (n % b) ∷ []) f 1 h (omega arith) in omega arith

head-length : (n r d : ℕ) → length (head n r d) ≤ 52
unfolding head decimal hex
head-length n r d =
    let k = numeral-length 16 8 d in
    let h = joined_length (numeral 10 20 r) (bytes " 0x" ++ numeral 16 8 d) 20 11 (numeral-length 10 20 r) (joined_length (bytes " 0x") (numeral 16 8 d) 3 8 (omega arith) k) in
    joined_length (numeral 10 20 n) (bytes " " ++ (numeral 10 20 r ++ (bytes " 0x" ++ numeral 16 8 d))) 20 32 (numeral-length 10 20 n)
    (joined_length (bytes " ") (numeral 10 20 r ++ (bytes " 0x" ++ numeral 16 8 d)) 1 31 (omega arith) h)

pub refused-length : (n : ℕ) (f : Refusal) → length (refused_line n f) ≤ 53
refused-length n f = rw (refused_as n f) (joined_length (head n (number_of f) (detail_of f)) (bytes "\n") 52 1 (head-length n (number_of f) (detail_of f)) (omega arith))

pub text-length : (n : ℕ) (bs : List ℕ) → length (text_line n bs) ≤ 54 + length bs
unfolding text_line told_line
text-length n bs =
    let h = joined_length (head n 0 0) (bytes " " ++ (bs ++ bytes "\n")) 52 (1 + (length bs + 1)) (head-length n 0 0)
    (joined_length (bytes " ") (bs ++ bytes "\n") 1 (length bs + 1) (omega arith) (joined_length bs (bytes "\n") (length bs) 1 (omega arith) (omega arith))) in
    omega arith

pub size-length : (n k : ℕ) → length (text_line n (decimal k)) ≤ 74
unfolding decimal
size-length n k = let h = text-length n (numeral 10 20 k) in let g = numeral-length 10 20 k in omega arith
