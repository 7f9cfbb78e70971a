-- The laws of names. Assumes nothing.
use Prim.Native.Nat.{ℕ, ◌+◌, ◌-◌, ◌<◌, ◌≤◌}
use mathlib.Core.Path.{◌≡◌, refl, ap, sym, ◌∙◌}
use mathlib.Core.List.{List, [], ◌∷◌}
use lib.ListN.{length, take, drop, drop_of_length-le}
use native.Mathlib.Omega.{arith}
use Rattle.wire.specs.Text.{bytes}
use Rattle.primitives.specs.Primitive.{primitives, first_of}
use Rattle.utf8.specs.Utf8.{replacement, shown}
use Rattle.utf8.specs.Parts.{part_len, run}
use Rattle.utf8.proofs.Shown.{shown-nil, shown-empty}
use Rattle.utf8.proofs.Laws.{part-inside, run-within, run-kept, run-behind}
use Rattle.rules.specs.Text.{function_name, primitive_name}
use Rattle.pen.specs.Page.{Page, PageRead, read_page, ink, Wrote, writing}
use Rattle.pen.proofs.Laws.{ink-append, ink-nil, run-say}

-- A function's name.
pub name-itself : (s : List ℕ) → (length s ≡ 0 → ⊥) → writing s ≡ writing (function_name s)
unfolding function_name
name-itself [] h = absurd (h refl)
name-itself (b ∷ s) h = refl

-- A function's name that stands in a record.
empty-list : (s : List ℕ) → length s ≡ 0 → s ≡ []
empty-list [] h = refl
empty-list (b ∷ s) h = absurd (omega arith)

pub shown-omitted : (s : List ℕ) → length s ≤ 0 → writing (function_name s) ≡ writing (function_name (shown s))
shown-omitted s h = let e : length s ≡ 0 = omega arith in rw (empty-list s e, shown-nil) refl

pub shown-itself : (s : List ℕ) → 0 < length s → writing (shown s) ≡ writing (function_name (shown s))
shown-itself s h = name-itself (shown s) (λ e. let k : s ≡ [] = (shown-empty s).0 (empty-list (shown s) e) in let l : length s ≡ 0 = rw k refl in omega arith)

-- A record's name, run by run: what is left to be shown leads to the page that all of it leads to.
abbrev pub Leads : PageRead → List ℕ → PageRead → ℕ → Type 0
Leads g₀ s g at = ink g (shown (drop at s)) ≡ ink g₀ (shown s)

module _ (g₀ : PageRead) (s : List ℕ) (g h : Page) (at end : ℕ) (l : Leads g₀ s (read_page g) at) (e : end ≡ at + run (drop at s))
    (w : Wrote g (writing (take (end - at) (drop at s))) h) where
  -- The page behind a run.
  run-page : ink (read_page h) (shown (drop end s)) ≡ ink g₀ (shown s)
  run-page =
      ap (λ (k : PageRead). ink k (shown (drop end s))) (w.is ∙ run-say (read_page g) (take (end - at) (drop at s)))
      ∙ ink-append (take (end - at) (drop at s)) (read_page g) (shown (drop end s))
      ∙ ap (ink (read_page g)) (sym (run-kept s at end e))
      ∙ l

  pub run-last : end ≡ length s → read_page h ≡ ink g₀ (shown s)
  run-last f =
      let b : length s ≤ end = omega arith in
      let k : drop end s ≡ [] = drop_of_length-le s b in
      sym (ink-nil (read_page h)) ∙ ap (ink (read_page h)) (sym (ap shown k ∙ shown-nil)) ∙ run-page

  pub run-next : (k : Page) (r : ℕ) → (end ≡ length s → ⊥) → at ≤ length s → r ≡ part_len s end → Wrote h (writing (0xEF ∷ 0xBF ∷ 0xBD ∷ [])) k → Leads g₀ s (read_page k) (end + r)
  run-next k r n m f v =
      let b : end < length s = omega (arith, run-within s at end e m) in
      ap (λ (x : PageRead). ink x (shown (drop (end + r) s))) (v.is ∙ run-say (read_page h) replacement)
      ∙ ink-append replacement (read_page h) (shown (drop (end + r) s))
      ∙ ap (ink (read_page h)) (rw f (sym (run-behind s at end e b)))
      ∙ run-page

pub run-over : (g₀ : PageRead) (s : List ℕ) (g : PageRead) (at : ℕ) → Leads g₀ s g at → length s ≤ at → g ≡ ink g₀ (shown s)
run-over g₀ s g at l h = sym (ink-nil g) ∙ ap (ink g) (sym (ap shown (drop_of_length-le s h) ∙ shown-nil)) ∙ l

-- The part behind a run lies inside.
pub part-behind : (s : List ℕ) (at end : ℕ) (r : ℕ) → end ≡ at + run (drop at s) → at ≤ length s → (end ≡ length s → ⊥) → r ≡ part_len s end → (0 < r) × (end + r ≤ length s)
part-behind s at end r e h n f = omega (arith, f, part-inside s end (omega (arith, run-within s at end e h)))

-- The name of a primitive's kind.
pub kind-name : (code : ℕ) (name : List ℕ) → name ≡ first_of code primitives (λ k. k.name) [] → name ≡ primitive_name code
unfolding primitive_name
kind-name code name e = e
