-- What holds of shown bytes, over any bytes (document 02, Note 2): a well-formed name is its own replacement; the replacement is well-formed, and empty exactly
-- where the name is; its ASCII bytes are the name's, in order, and it ends in one of them where the name does. Assumes nothing.
use Prim.Native.Nat.{ℕ, zero, suc, ◌<◌, ◌≤◌}
use mathlib.Core.Logic.{◌↔◌}
use mathlib.Core.Path.{◌≡◌, refl, ap, sym, ◌∙◌}
use mathlib.Core.Bool.{Bool, true, false, ◌&&◌}
use mathlib.Core.List.{List, [], ◌∷◌, ◌++◌, append_assoc}
use Rattle.std.specs.Prelude.{Option, Some, None}
use lib.Dec.{leb, ltb}
use lib.ListN.{length, take, drop, take-append-drop}
use lib.Seq.{take-append_seam}
use native.Mathlib.Omega.{arith}
use native.Mathlib.Decide.{dec_lt}
use borrow.Author.Tests.{eq-eqb, eqb-true, le-ltb, le-leb, lt-leb, ltb-true, leb-true}
use Rattle.std.proofs.lemmas.Bool.{and_parts}
use Rattle.wire.specs.Field.{pick}
use Rattle.utf8.specs.declared.Range.{Range}
use Rattle.utf8.specs.Utf8.{is_in, Row, table, behind_in, behind, each, Sequence, sequence, WellFormed, empty, further, fitting, is_whole, reach, replacement, shown_part, shown_past, shown}

-- What cannot be said of a test; and two tests that both hold.
pub never : {A : Type 0} → false ≡ true → A
never e = cc

pub both : (t u : Bool) → (t && u) ≡ true → (t ≡ true) × (u ≡ true)
both = and_parts

-- Bytes behind the first n are shown as they are by themselves.
pub past : (n : ℕ) (s : List ℕ) → shown_past n s ≡ shown (drop n s)
unfolding shown_past shown
past zero s = refl
past (suc n) [] = refl
past (suc n) (b ∷ bs) = past n bs

-- A part that is a sequence, and one that is not.
pub shown-whole : (b : ℕ) (bs : List ℕ) → is_whole (behind b) bs ≡ true → shown (b ∷ bs) ≡ (b ∷ take (reach (behind b) bs) bs) ++ shown (drop (reach (behind b) bs) bs)
unfolding shown shown_past shown_part
shown-whole b bs h = rw (h, past (reach (behind b) bs) bs) refl

pub shown-broken : (b : ℕ) (bs : List ℕ) → is_whole (behind b) bs ≡ false → shown (b ∷ bs) ≡ replacement ++ shown (drop (reach (behind b) bs) bs)
unfolding shown shown_past shown_part
shown-broken b bs h = rw (h, past (reach (behind b) bs) bs) refl

pub shown-nil : shown [] ≡ []
unfolding shown shown_past
shown-nil = refl

-- A well-formed name is its own replacement.
fits_all : (rs : List Range) (bs s : List ℕ) → each rs bs ≡ true → (fitting rs (bs ++ s) ≡ length rs) × (length bs ≡ length rs)
unfolding each fitting
fits_all [] [] s h = (refl, refl)
fits_all [] (b ∷ bs) s h = never h
fits_all (r ∷ rs) [] s h = never h
fits_all (r ∷ rs) (b ∷ bs) s h = by (is_in r b) h (fits_all rs bs s)
  where
    by : (t : Bool) → (t && each rs bs) ≡ true → (each rs bs ≡ true → (fitting rs (bs ++ s) ≡ length rs) × (length bs ≡ length rs))
        → (pick t (suc (fitting rs (bs ++ s))) 0 ≡ suc (length rs)) × (suc (length bs) ≡ suc (length rs))
    by true h k = (ap suc (k h).0, ap suc (k h).1)
    by false h k = never h

past_all : (bs s : List ℕ) → shown_past (length bs) (bs ++ s) ≡ shown s
unfolding shown_past shown
past_all [] s = refl
past_all (b ∷ bs) s = past_all bs s

own-part : (b : ℕ) (bs s : List ℕ) (rs : List Range) → behind b ≡ Some rs → fitting rs (bs ++ s) ≡ length bs → length bs ≡ length rs → shown (b ∷ (bs ++ s)) ≡ b ∷ (bs ++ shown s)
unfolding shown shown_past shown_part is_whole reach
own-part b bs s rs e f g = rw (e, f, g, eq-eqb (length rs) (length rs) refl, ← g, take-append_seam bs s, past_all bs s) refl

pub shown-own : {s : List ℕ} → WellFormed s → shown s ≡ s
shown-own empty = shown-nil
shown-own (further {s = s} (sequence {b = b} {bs = bs} rs e h) w f) =
    let k = fits_all rs bs s h in
    rw f (own-part b bs s rs e (k.0 ∙ sym k.1) k.1 ∙ ap (λ (x : List ℕ). b ∷ (bs ++ x)) (shown-own w))

-- The replacement is well-formed.
each-taken : (rs : List Range) (bs : List ℕ) → fitting rs bs ≡ length rs → each rs (take (fitting rs bs) bs) ≡ true
unfolding each fitting
each-taken [] bs h = refl
each-taken (r ∷ rs) [] h = absurd (omega arith)
each-taken (r ∷ rs) (b ∷ bs) h = by (is_in r b) refl h (each-taken rs bs)
  where
    by : (t : Bool) → is_in r b ≡ t → pick t (suc (fitting rs bs)) 0 ≡ suc (length rs) → (fitting rs bs ≡ length rs → each rs (take (fitting rs bs) bs) ≡ true)
        → each (r ∷ rs) (take (pick t (suc (fitting rs bs)) 0) (b ∷ bs)) ≡ true
    by true e h k = rw e (k (omega arith))
    by false e h k = absurd (omega arith)

sequence-replacement : Sequence replacement
unfolding behind behind_in table is_in each
sequence-replacement = sequence _ refl refl

part-sequence : (b : ℕ) (bs : List ℕ) → Sequence (shown_part b bs)
unfolding shown_part is_whole reach
part-sequence b bs = by (behind b) refl (is_whole (behind b) bs) refl
  where
    by : (o : Option (List Range)) → behind b ≡ o → (t : Bool) → is_whole o bs ≡ t → Sequence (pick t (b ∷ take (reach o bs) bs) replacement)
    by o e false h = sequence-replacement
    by None e true h = never h
    by (Some rs) e true h = sequence rs e (each-taken rs bs (eqb-true _ _ h))

past-well : (n : ℕ) (s : List ℕ) → WellFormed (shown_past n s)
unfolding shown_past
past-well zero [] = empty
past-well (suc n) [] = empty
past-well zero (b ∷ bs) = further (part-sequence b bs) (past-well (reach (behind b) bs) bs) refl
past-well (suc n) (b ∷ bs) = past-well n bs

pub shown-well : (s : List ℕ) → WellFormed (shown s)
unfolding shown
shown-well s = past-well 0 s

-- It is empty exactly where the name is.
shown-some : (b : ℕ) (bs : List ℕ) → shown (b ∷ bs) ≡ [] → ⊥
unfolding shown shown_past shown_part
shown-some b bs = by (is_whole (behind b) bs)
  where
    by : (t : Bool) → pick t (b ∷ take (reach (behind b) bs) bs) replacement ++ shown_past (reach (behind b) bs) bs ≡ [] → ⊥
    by true e = cc
    by false e = cc

pub shown-empty : (s : List ℕ) → (shown s ≡ []) ↔ (s ≡ [])
shown-empty [] = (λ e. refl, λ e. shown-nil)
shown-empty (b ∷ bs) = (λ e. absurd (shown-some b bs e), λ e. cc)

-- How a byte begins a part: it is ASCII and alone; it leads a sequence, in which no byte is ASCII; or it begins none.
unfoldable pub all_high : List Range → Bool
all_high [] = true
all_high (r ∷ rs) = leb 0x80 r.low && all_high rs

unfoldable high_rows : List Row → Bool
high_rows [] = true
high_rows (r ∷ rs) = all_high r.behind && high_rows rs

pub data Begins (b : ℕ) : Type 0 where
  ascii : b < 128 → behind b ≡ Some [] → Begins b
  leads : 128 ≤ b → (rs : List Range) → behind b ≡ Some rs → all_high rs ≡ true → Begins b
  stray : 128 ≤ b → behind b ≡ None → Begins b

begins-in : (b : ℕ) → 128 ≤ b → (rows : List Row) → high_rows rows ≡ true → behind_in rows b ≡ behind b → Begins b
unfolding behind_in high_rows
begins-in b l [] h e = stray l (sym e)
begins-in b l (r ∷ rs) h e = by (is_in r.first b) (all_high r.behind) refl h e (begins-in b l rs)
  where
    by : (t u : Bool) → all_high r.behind ≡ u → (u && high_rows rs) ≡ true → pick t (Some r.behind) (behind_in rs b) ≡ behind b
        → (high_rows rs ≡ true → behind_in rs b ≡ behind b → Begins b) → Begins b
    by true true f h e k = leads l r.behind (sym e) f
    by false true f h e k = k h e
    by t false f h e k = never h

pub behind-low : (b : ℕ) → b < 128 → behind b ≡ Some []
unfolding behind table behind_in is_in
behind-low b l = rw (le-leb 0 b (omega arith), le-leb b 0x7F (omega arith)) refl

behind-high : (b : ℕ) → 128 ≤ b → behind_in (drop 1 table) b ≡ behind b
unfolding behind table behind_in is_in
behind-high b l = rw (le-leb 0 b (omega arith), lt-leb b 0x7F (omega arith)) refl

rows-high : high_rows (drop 1 table) ≡ true
unfolding table high_rows all_high
rows-high = refl

pub begins : (b : ℕ) → Begins b
begins b = by (dec_lt b 128)
  where
    by : Dec (b < 128) → Begins b
    by (yes l) = ascii l (behind-low b l)
    by (no l) = begins-in b (omega arith) (drop 1 table) rows-high (behind-high b (omega arith))

-- Bytes none of which is ASCII.
unfoldable pub high_bytes : List ℕ → Bool
high_bytes [] = true
high_bytes (b ∷ bs) = leb 0x80 b && high_bytes bs

high-in : (r : Range) (b : ℕ) → leb 0x80 r.low ≡ true → is_in r b ≡ true → leb 0x80 b ≡ true
unfolding is_in
high-in r b e h =
    let k : 0x80 ≤ r.low = leb-true 0x80 r.low e in
    let m : r.low ≤ b = leb-true r.low b (both (leb r.low b) (leb b r.high) h).0 in
    le-leb 0x80 b (omega arith)

high_taken : (rs : List Range) (bs : List ℕ) → all_high rs ≡ true → high_bytes (take (fitting rs bs) bs) ≡ true
unfolding all_high high_bytes fitting
high_taken [] bs h = refl
high_taken (r ∷ rs) [] h = refl
high_taken (r ∷ rs) (b ∷ bs) h = by (is_in r b) refl (high_taken rs bs (both (leb 0x80 r.low) (all_high rs) h).1)
  where
    by : (t : Bool) → is_in r b ≡ t → high_bytes (take (fitting rs bs) bs) ≡ true → high_bytes (take (pick t (suc (fitting rs bs)) 0) (b ∷ bs)) ≡ true
    by true e k = rw (high-in r b (both (leb 0x80 r.low) (all_high rs) h).0 e) k
    by false e k = refl

-- A part is one ASCII byte, or none of its bytes is ASCII and none of those that are shown for it.
pub data PartOf (b : ℕ) (bs : List ℕ) : Type 0 where
  one : b < 128 → shown_part b bs ≡ b ∷ [] → reach (behind b) bs ≡ 0 → PartOf b bs
  other : (c : ℕ) (x : List ℕ) → shown_part b bs ≡ c ∷ x → high_bytes (c ∷ x) ≡ true → high_bytes (b ∷ take (reach (behind b) bs) bs) ≡ true → PartOf b bs

part-alone : (b : ℕ) (bs : List ℕ) → behind b ≡ Some [] → (shown_part b bs ≡ b ∷ []) × (reach (behind b) bs ≡ 0)
unfolding shown_part is_whole reach fitting
part-alone b bs e = (rw e refl, rw e refl)

part-high : (b : ℕ) (bs : List ℕ) → 128 ≤ b → high_bytes (take (reach (behind b) bs) bs) ≡ true → PartOf b bs
unfolding high_bytes shown_part
part-high b bs l k = by (is_whole (behind b) bs) refl
  where
    by : (t : Bool) → is_whole (behind b) bs ≡ t → PartOf b bs
    by true e = other b (take (reach (behind b) bs) bs) (rw e refl) (rw (le-leb 0x80 b l) k) (rw (le-leb 0x80 b l) k)
    by false e = other 0xEF (0xBF ∷ 0xBD ∷ []) (rw e refl) refl (rw (le-leb 0x80 b l) k)

part_of : (b : ℕ) (bs : List ℕ) → PartOf b bs
unfolding reach high_bytes
part_of b bs = by (begins b)
  where
    by : Begins b → PartOf b bs
    by (ascii l e) = let k = part-alone b bs e in one l k.0 k.1
    by (leads l rs e h) = part-high b bs l (rw e (high_taken rs bs h))
    by (stray l e) = part-high b bs l (rw e refl)

-- Its ASCII bytes are the name's, in order.
unfoldable pub ascii_of : List ℕ → List ℕ
ascii_of [] = []
ascii_of (b ∷ bs) = pick (ltb b 0x80) (b ∷ ascii_of bs) (ascii_of bs)

high-ascii : (x y : List ℕ) → high_bytes x ≡ true → ascii_of (x ++ y) ≡ ascii_of y
unfolding high_bytes ascii_of
high-ascii [] y h = refl
high-ascii (b ∷ x) y h =
    let k = both (leb 0x80 b) (high_bytes x) h in
    rw (le-ltb b 0x80 (leb-true _ _ k.0)) (high-ascii x y k.1)

-- The bytes of a part, and those behind it.
joined : (b : ℕ) (bs : List ℕ) → (b ∷ take (reach (behind b) bs) bs) ++ drop (reach (behind b) bs) bs ≡ b ∷ bs
joined b bs = ap (λ (l : List ℕ). b ∷ l) (take-append-drop (reach (behind b) bs) bs)

past_ascii : (n : ℕ) (s : List ℕ) → ascii_of (shown_past n s) ≡ ascii_of (drop n s)
unfolding shown_past ascii_of
past_ascii zero [] = refl
past_ascii (suc n) [] = refl
past_ascii (suc n) (b ∷ bs) = past_ascii n bs
past_ascii zero (b ∷ bs) = by (part_of b bs) (λ n. past_ascii n bs)
  where
    by : PartOf b bs → ((n : ℕ) → ascii_of (shown_past n bs) ≡ ascii_of (drop n bs)) → ascii_of (shown_part b bs ++ shown_past (reach (behind b) bs) bs) ≡ ascii_of (b ∷ bs)
    by (one l e f) rest = rw (e, f, rest 0) refl
    by (other c x e h k) rest =
        rw e (high-ascii (c ∷ x) (shown_past (reach (behind b) bs) bs) h)
        ∙ rest (reach (behind b) bs)
        ∙ sym (high-ascii _ (drop (reach (behind b) bs) bs) k)
        ∙ ap ascii_of (joined b bs)

pub shown-ascii : (s : List ℕ) → ascii_of (shown s) ≡ ascii_of s
unfolding shown
shown-ascii s = past_ascii 0 s

-- It ends in a byte of some kind where the name does, if all bytes of that kind are ASCII; `before` is said of no bytes.
unfoldable pub ends_in : (ℕ → Bool) → Bool → List ℕ → Bool
ends_in f before [] = before
ends_in f before (b ∷ bs) = ends_in f (f b) bs

module _ (f : ℕ → Bool) (low : (b : ℕ) → 128 ≤ b → f b ≡ false) where
  high-ends : (before : Bool) (c : ℕ) (x y : List ℕ) → high_bytes (c ∷ x) ≡ true → ends_in f before ((c ∷ x) ++ y) ≡ ends_in f false y
  unfolding high_bytes ends_in
  high-ends before c [] y h = ap (λ (t : Bool). ends_in f t y) (low c (leb-true 0x80 c (both (leb 0x80 c) true h).0))
  high-ends before c (d ∷ x) y h = high-ends (f c) d x y (both (leb 0x80 c) (high_bytes (d ∷ x)) h).1

  past-ends : (before : Bool) (n : ℕ) (s : List ℕ) → ends_in f before (shown_past n s) ≡ ends_in f before (drop n s)
  unfolding shown_past ends_in
  past-ends before zero [] = refl
  past-ends before (suc n) [] = refl
  past-ends before (suc n) (b ∷ bs) = past-ends before n bs
  past-ends before zero (b ∷ bs) = by (part_of b bs) (λ t n. past-ends t n bs)
    where
      by : PartOf b bs → ((t : Bool) (n : ℕ) → ends_in f t (shown_past n bs) ≡ ends_in f t (drop n bs))
          → ends_in f before (shown_part b bs ++ shown_past (reach (behind b) bs) bs) ≡ ends_in f before (b ∷ bs)
      by (one l e g) rest = rw (e, g) (rest (f b) 0)
      by (other c x e h k) rest =
          rw e (high-ends before c x (shown_past (reach (behind b) bs) bs) h)
          ∙ rest false (reach (behind b) bs)
          ∙ sym (high-ends before b (take (reach (behind b) bs) bs) (drop (reach (behind b) bs) bs) k)
          ∙ ap (ends_in f before) (joined b bs)

  pub shown-ends : (s : List ℕ) → ends_in f false (shown s) ≡ ends_in f false s
  unfolding shown
  shown-ends s = past-ends false 0 s

-- It is all ASCII where the name is, and then it is the name.
unfoldable pub all_ascii : List ℕ → Bool
all_ascii [] = true
all_ascii (b ∷ bs) = ltb b 0x80 && all_ascii bs

-- A byte that is not ASCII.
not_ascii : (b : ℕ) (t u : Bool) → leb 0x80 b && t ≡ true → (ltb b 0x80 && u) ≡ false
not_ascii b t u h = rw (le-ltb b 0x80 (leb-true 0x80 b (both (leb 0x80 b) t h).0)) refl

pub shown-all : (s : List ℕ) → all_ascii (shown s) ≡ all_ascii s
unfolding shown shown_past all_ascii high_bytes
shown-all [] = refl
shown-all (b ∷ bs) = by (part_of b bs) (shown-all bs)
  where
    by : PartOf b bs → all_ascii (shown_past 0 bs) ≡ all_ascii bs → all_ascii (shown_part b bs ++ shown_past (reach (behind b) bs) bs) ≡ all_ascii (b ∷ bs)
    by (one l e f) rest = rw (e, f, rest) refl
    by (other c x e h k) rest = rw e (not_ascii c _ _ h ∙ sym (not_ascii b _ _ k))

pub shown-plain : (s : List ℕ) → all_ascii s ≡ true → shown s ≡ s
unfolding shown shown_past all_ascii high_bytes
shown-plain [] h = refl
shown-plain (b ∷ bs) h = by (part_of b bs) h (shown-plain bs)
  where
    by : PartOf b bs → all_ascii (b ∷ bs) ≡ true → (all_ascii bs ≡ true → shown_past 0 bs ≡ bs) → shown_part b bs ++ shown_past (reach (behind b) bs) bs ≡ b ∷ bs
    by (one l e f) h rest = rw (e, f, rest (both (ltb b 0x80) (all_ascii bs) h).1) refl
    by (other c x e g k) h rest = never (sym (not_ascii b _ _ k) ∙ h)

-- Texts one after another; and ASCII bytes are well-formed.
pub all_append : (a b : List ℕ) → all_ascii a ≡ true → all_ascii b ≡ true → all_ascii (a ++ b) ≡ true
unfolding all_ascii
all_append [] b h k = k
all_append (x ∷ a) b h k = let l = both (ltb x 0x80) (all_ascii a) h in rw l.0 (all_append a b l.1 k)

pub well-append : {a b : List ℕ} → WellFormed a → WellFormed b → WellFormed (a ++ b)
well-append empty v = v
well-append {b = b} (further {q = q} {s = s} {t = t} h w e) v = further {t = t ++ b} h (well-append w v) (rw e (append_assoc q s b))

pub well-ascii : (s : List ℕ) → all_ascii s ≡ true → WellFormed s
unfolding all_ascii each
well-ascii [] h = empty
well-ascii (b ∷ bs) h =
    let k = both (ltb b 0x80) (all_ascii bs) h in
    further {q = b ∷ []} (sequence [] (behind-low b (ltb-true b 0x80 k.0)) refl) (well-ascii bs k.1) refl
