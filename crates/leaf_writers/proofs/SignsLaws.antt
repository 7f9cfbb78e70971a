-- The laws of settings, of what is named and of pointer levels. Assumes nothing.
use Prim.Native.Nat.{ℕ, zero, suc, ◌+◌, ◌<◌, ◌≤◌}
use mathlib.Core.Path.{◌≡◌, refl, ap, sym, ◌∙◌}
use mathlib.Core.List.{List, [], ◌∷◌, ◌++◌, append_assoc, map}
use mathlib.Core.Bool.{Bool, true, false, not}
use lib.ListN.{length, drop, get_or, drop_of_length-le}
use lib.Seq.{drop-cons}
use native.Mathlib.Numerals.{add-one}
use Rattle.wire.specs.Field.{pick}
use Rattle.wire.specs.Text.{bytes}
use Rattle.codeview.specs.declared.record.ClassKind.{ClassKind}
use Rattle.codeview.specs.declared.record.ClassKind.TheVariants as kind
use Rattle.rules.specs.Flags.{Settings}
use Rattle.rules.specs.Text.{primitive_name, primitive_text, worded, class_text, sign, Level, levels}
use Rattle.pen.specs.Page.{Page, PageRead, read_page, ink, Wrote, writing}
use Rattle.pen.proofs.Laws.{ink-append, ink-nil, run-say}
use Rattle.context.specs.declared.levels.PtrAttributes.{PtrAttributes}
use Rattle.context.specs.Context.{level_of, level_at}
use Rattle.leaf_writers.specs.Signs.{behind_word, class_word, const_text, spaced, level_text}

-- A primitive by itself, and one that is pointed to.
pub primitive-itself : (c : Settings) (constant : Bool) (code n : ℕ) → n ≡ 0 → writing (pick constant (bytes "const ") [] ++ primitive_name code) ≡ writing (primitive_text c constant code n)
unfolding primitive_text
primitive-itself c constant code n h = rw h

pub primitive-pointed : (c : Settings) (constant space : Bool) (code n : ℕ) → space ≡ c.space_pointer → (n ≡ 0 → ⊥)
    → writing (primitive_name code ++ (pick constant (bytes " const") [] ++ (pick space (bytes " ") [] ++ bytes "*"))) ≡ writing (primitive_text c constant code n)
unfolding primitive_text
primitive-pointed c constant space code zero e h = absurd (h refl)
primitive-pointed c constant space code (suc n) e h = rw e

-- A name alone, and behind its word.
pub named-alone : (c : Settings) (only : Bool) (word name : List ℕ) → only ≡ c.name_only → only ≡ true → writing name ≡ writing (behind_word c word name)
unfolding behind_word
named-alone c only word name e h = simp (sym e ∙ h)

pub named-behind : (c : Settings) (only : Bool) (word name : List ℕ) → only ≡ c.name_only → only ≡ false → writing (word ++ (bytes " " ++ name)) ≡ writing (behind_word c word name)
unfolding behind_word
named-behind c only word name e h = simp (sym e ∙ h)

-- The word of a kind of class: none where names stand alone, else that of the kind. Behind it the name makes the text.
pub word_none : (c : Settings) (only : Bool) (k : ClassKind) → only ≡ c.name_only → only ≡ true → writing [] ≡ writing (class_word c k)
unfolding class_word
word_none c only kind.Class e h = simp (sym e ∙ h)
word_none c only kind.Struct e h = simp (sym e ∙ h)
word_none c only kind.Interface e h = simp (sym e ∙ h)

behind-word : (w : List ℕ) (b : Bool) (name : List ℕ) → writing (pick b [] (w ++ bytes " ") ++ name) ≡ writing (pick b name (w ++ (bytes " " ++ name)))
behind-word w true name = refl
behind-word w false name = rw (append_assoc w (bytes " ") name)

pub class-behind : (c : Settings) (k : ClassKind) (name : List ℕ) → writing (class_word c k ++ name) ≡ writing (class_text c k name)
unfolding class_word class_text worded
class-behind c kind.Class name = behind-word (bytes "class") c.name_only name
class-behind c kind.Struct name = behind-word (bytes "struct") c.name_only name
class-behind c kind.Interface name = behind-word (bytes "interface") c.name_only name

-- One level.
pub level-is : (c : Settings) (free signed space on : Bool) (l : Level) → space ≡ c.space_pointer → on ≡ spaced space free signed l.pointee
    → writing (const_text l.pointee free ++ (pick on (bytes " ") [] ++ (sign l.mode ++ pick l.constant (bytes " const") []))) ≡ writing (level_text c free signed l)
unfolding level_text
level-is c free signed space on l e h = rw (h, e)

-- All levels: the first, then the others.
pub levels-more : (c : Settings) (free signed : Bool) (l : Level) (ls : List Level) → levels c free signed (l ∷ ls) ≡ level_text c free signed l ++ levels c true (not l.constant) ls
unfolding levels level_text const_text spaced
levels-more c free signed l ls = simp append_assoc

module _ (c : Settings) (free signed : Bool) (items : List ℕ) (i : ℕ) where
  levels-next : (l : PtrAttributes) → i < length items → level_of l ≡ level_at (get_or items i 0)
      → levels c free signed (map level_at (drop i items))
      ≡ level_text c free signed (level_of l) ++ levels c true (not l.constant) (map level_at (drop (i + 1) items))
  levels-next l h e = rw (add-one, drop-cons items i 0 h, ← e) (levels-more c free signed (level_of l) _)

  -- A turn of a loop over the levels, and its end.
  pub levels-turn : (l : PtrAttributes) (all : List ℕ) (g h : Page) (k : PageRead) → i < length items → level_of l ≡ level_at (get_or items i 0)
      → ink (read_page g) (levels c free signed (map level_at (drop i items))) ≡ ink k all
      → Wrote g (writing (level_text c free signed (level_of l))) h
      → ink (read_page h) (levels c true (not l.constant) (map level_at (drop (i + 1) items))) ≡ ink k all
  levels-turn l all g h k lt d e w =
      rw (w.is, run-say) (ink-append (level_text c free signed (level_of l)) (read_page g) _ ∙ ap (ink (read_page g)) (sym (levels-next l lt d)) ∙ e)

  pub levels-end : (all : List ℕ) (g k : Page) → length items ≤ i → ink (read_page g) (levels c free signed (map level_at (drop i items))) ≡ ink (read_page k) all → Wrote k (writing all) g
  unfolding levels
  levels-end all g k h e = record { is = (rw (drop_of_length-le items h, ink-nil) at e) ∙ sym (run-say (read_page k) all) }
