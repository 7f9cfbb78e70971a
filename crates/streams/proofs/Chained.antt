-- Laws of chains: how a chain starts, notes and goes on, and that chains that meet make one walk. Assumes nothing.
use Rattle.std.proofs.Common.{◌≡◌, ℕ, ◌+◌, ◌-◌, ◌*◌, ◌/◌, ◌≤◌, ◌<◌, Bool, true, false, ltb, leb, eqb, List, ◌++◌, length, get_or, set, Option, Some, None, refl, sym, ap, ◌∙◌, arith}
use Rattle.std.proofs.lemmas.Grind.{common_steps}
use native.Mathlib.Nat.{zero-add, zero-mul, suc-mul, mul-le-mul_right, min-le_right}
use native.Mathlib.Numerals.{add-one}
use borrow.Author.Tests.{ltb-true, ltb-false, eq-eqb}
use Rattle.wire.specs.Field.{pick}
use Rattle.streams.specs.Stream.{behind, passed, tiled}
use Rattle.streams.specs.Places.{entry_in, mark_in, mark_by, first_mark, RightMarks, RightRun, quartered}
use Rattle.streams.specs.Chains.{Apart, Alike, Sized, Linked, due_next, Dued, FourBefore, Stretched, Together, Stepped, Finished, ChainedFor}
use Rattle.streams.specs.Short.{Before}
use Rattle.streams.specs.declared.places.Spacing.{Spacing}
use Rattle.streams.specs.declared.chains.Four.{Four}
use Rattle.streams.specs.declared.chains.Lead.{Lead}
use Rattle.streams.specs.declared.chains.Pace.{Pace}
use Rattle.streams.proofs.Walk.{passed_next, passed-at, passed-from, passed-bound, passed-grows}
use Rattle.streams.proofs.Marks.{entry-before}

pub linked_start : (s : List ℕ) (from stride : ℕ) (part : List ℕ) → Linked s from stride part from (record { n = 0; k = 0; wait = 0 })
unfolding passed
linked_start s from stride part = record { here = refl; inside = omega arith; next = λ h. omega (arith, zero-mul stride); right = λ i h. absurd (omega arith) }

module _ (s : List ℕ) (from stride : ℕ) (part : List ℕ) (at : ℕ) (p : Pace) (l : Linked s from stride part at p) where
  -- An entry is noted where it is due; where no entry is left, none is due.
  linked-note : p.k < length part → p.wait ≡ 0 → Linked s from stride (set part p.k at) at (record { n = p.n; k = p.k + 1; wait = stride })
  linked-note h z =
      let up : (p.k + 1) * stride ≡ p.k * stride + stride = rw (add-one p.k) (suc-mul p.k stride) in
      let here : p.k * stride ≡ p.n = omega (arith, l.next h) in
      record {
        here = l.here;
        inside = grind (arith, common_steps);
        next = λ j. omega (arith, l.next h, up);
        right = λ j m. grind (arith, common_steps, l.right j, l.here, here);
      }

  linked-rest : length part ≤ p.k → (wait : ℕ) → Linked s from stride part at (record { n = p.n; k = p.k; wait = wait })
  linked-rest h w = record { here = l.here; inside = l.inside; next = λ i. absurd (omega arith); right = l.right }

  -- One record more, and some.
  pub linked_next : 0 < p.wait → (x : ℕ) → behind s at Some None ≡ Some x → Linked s from stride part x (record { n = p.n + 1; k = p.k; wait = p.wait - 1 })
  linked_next h x e = record { here = passed_next p.n s from at x l.here e; inside = l.inside; next = λ i. omega (arith, l.next i); right = l.right }

  pub linked_many : (m x : ℕ) → m ≤ p.wait → passed m s at Some None ≡ Some x → Linked s from stride part x (record { n = p.n + m; k = p.k; wait = p.wait - m })
  linked_many m x h e = record { here = passed-from p.n m s from at l.here Some None ∙ e; inside = l.inside; next = λ i. omega (arith, l.next i); right = l.right }

  -- How far it is, and what it leaves behind.
  pub linked_far : from ≤ length s → (from + 4 * p.n ≤ at) × (at ≤ length s)
  linked_far h = (passed-grows p.n s from at l.here, passed-bound p.n s from (length s) at h (omega arith) l.here)

  pub linked_met : (old : List ℕ) → length part ≡ length old → Finished s from at stride old part (Some p.n)
  linked_met old e = record { sized = e; met = l.here; right = λ i h m. rw (zero-add i) (grind (arith, l.right i, l.next, λ (h : p.k ≤ i). mul-le-mul_right stride h)) }

-- What `note` answers: nothing was due, no entry is left, or one is noted.
module _ (stride at : ℕ) (p : Pace) (part : List ℕ) where
  pub dued_later : 0 < p.wait → Dued stride at p part part p
  unfolding due_next
  dued_later h = record { is = grind arith; waits = λ w. omega arith; sized = refl; linked = λ s from l. l }

  pub dued_none : p.wait ≤ 0 → length part ≤ p.k → Dued stride at p part part (record { n = p.n; k = p.k; wait = stride })
  unfolding due_next
  dued_none h i = record { is = grind arith; waits = λ w. omega arith; sized = refl; linked = λ s from l. linked-rest s from stride part at p l i stride }

  pub dued_now : p.wait ≤ 0 → p.k < length part → Dued stride at p part (set part p.k at) (record { n = p.n; k = p.k + 1; wait = stride })
  unfolding due_next
  dued_now h i = record { is = grind arith; waits = λ w. omega arith; sized = grind (arith, common_steps); linked = λ s from l. linked-note s from stride part at p l i (omega arith) }

-- The places behind four records.
module _ (s : List ℕ) (at goals : Four) where
  pub before_none : (r : Option Four) → r ≡ None → FourBefore s at goals r
  before_none r e = rw e (record { are = tt; low = tt })

  pub before_all : (f : Four) → Apart s at goals → Before s at.a goals.a (Some f.a) → Before s at.b goals.b (Some f.b) → Before s at.c goals.c (Some f.c) → Before s at.d goals.d (Some f.d) → FourBefore s at goals (Some f)
  before_all f h a b c d =
      record {
        are = (a.is, b.is, c.is, d.is);
        low = record { first = (a.low, h.first.1); second = (b.low, h.second.1); third = (c.low, h.third.1); fourth = (d.low, h.fourth.1) };
      }

-- Stretches of four chains.
module _ (s : List ℕ) (from : Four) (most : ℕ) where
  pub stretched_start : Stretched s from most (record { at = from; n = 0 })
  unfolding passed
  stretched_start = record { first = refl; second = refl; third = refl; fourth = refl; within = omega arith }

  pub stretched_next : (at next goals : Four) (n : ℕ) → Stretched s from most (record { at = at; n = n }) → n < most → FourBefore s at goals (Some next) → Stretched s from most (record { at = next; n = n + 1 })
  stretched_next at next goals n w h f =
      let g = f.are in
      record {
        first = passed_next n s from.a at.a next.a w.first g.0;
        second = passed_next n s from.b at.b next.b w.second g.1;
        third = passed_next n s from.c at.c next.c w.third g.2;
        fourth = passed_next n s from.d at.d next.d w.fourth g.3;
        within = omega arith;
      }

-- Four chains at one pace: they start, note and go on together.
module _ (s : List ℕ) (starts : Four) (stride : ℕ) where
  pub together_start : (a b c d : List ℕ) → Together s starts stride a b c d starts (record { n = 0; k = 0; wait = 0 })
  together_start a b c d =
      record { first = linked_start s starts.a stride a; second = linked_start s starts.b stride b; third = linked_start s starts.c stride c; fourth = linked_start s starts.d stride d }

  pub together_step : {i j k l a b c d a' b' c' d' : List ℕ} {at : Four} {p e f g h : Pace} → Alike i j k l → Sized i j k l a b c d → Together s starts stride a b c d at p
      → Dued stride at.a p a a' e → Dued stride at.b p b b' f → Dued stride at.c p c c' g → Dued stride at.d p d d' h → {r : Lead} → Stretched s at h.wait r
      → Stepped s starts stride i j k l a' b' c' d' (record { at = r.at; pace = record { n = h.n + r.n; k = h.k; wait = h.wait - r.n } })
  together_step {a = a} {b} {c} {d} {a'} {b'} {c'} {d'} {p = p} {e} {f} {g} {h} o v t x y z w {r} m =
      record {
        sized = record { first = x.sized ∙ v.first; second = y.sized ∙ v.second; third = z.sized ∙ v.third; fourth = w.sized ∙ v.fourth };
        linked =
            record {
              first = linked_many s starts.a stride a' _ h (rw (← same a e (v.fourth ∙ o.fourth ∙ sym v.first) x.is) at (x.linked s starts.a t.first)) r.n r.at.a m.within m.first;
              second = linked_many s starts.b stride b' _ h (rw (← same b f (v.fourth ∙ o.fourth ∙ sym (v.second ∙ o.second)) y.is) at (y.linked s starts.b t.second)) r.n r.at.b m.within m.second;
              third = linked_many s starts.c stride c' _ h (rw (← same c g (v.fourth ∙ o.fourth ∙ sym (v.third ∙ o.third)) z.is) at (z.linked s starts.c t.third)) r.n r.at.c m.within m.third;
              fourth = linked_many s starts.d stride d' _ h (w.linked s starts.d t.fourth) r.n r.at.d m.within m.fourth;
            };
      }
    where
      same : (q : List ℕ) (u : Pace) → length d ≡ length q → u ≡ due_next (length q) stride p → h ≡ u
      same q u i j = w.is ∙ rw i (sym j)

-- What is right of a part's entries is right of any that are the same.
pub run-frame : (s : List ℕ) (from stride room base c : ℕ) (ps qs : List ℕ) → ((i : ℕ) → i < room → get_or qs (base + i) 0 ≡ get_or ps (base + i) 0) → RightRun s from c stride room base ps → RightRun s from c stride room base qs
run-frame s from stride room base c ps qs f r i h m = rw (f i h) (r i h m)

-- A chain's marks are right in the whole.
chain-right : (l : Spacing) (ps s : List ℕ) (off first from c n : ℕ) → passed first s 56 Some None ≡ Some from → RightRun s from c l.stride l.room off ps → 0 < l.room → first ≤ n → n < first + c → passed (mark_in l ps off first n).number s 56 Some None ≡ Some (mark_in l ps off first n).place
unfolding mark_in passed
chain-right l ps s off first from c n e r h i j = go (ltb (off + k) (length ps))
  where
    k : ℕ
    k = entry_in l first n

    go : (b : Bool) → passed (pick b (record { number = first + k * l.stride; place = get_or ps (off + k) 0 }) first_mark).number s 56 Some None ≡ Some (pick b (record { number = first + k * l.stride; place = get_or ps (off + k) 0 }) first_mark).place
    go true =
        passed-from first (k * l.stride) s 56 from e Some None
        ∙ r k (omega (arith, min-le_right ((n - first) / l.stride) (l.room - 1))) (omega (arith, entry-before (n - first) l.stride (l.room - 1)))
    go false = refl

-- THE LAW of composition: four chains that meet are one walk, and their marks are right.
module _ (s : List ℕ) (x y z n₀ n₁ n₂ n₃ : ℕ)
    (a : passed n₀ s 56 Some None ≡ Some x) (b : passed n₁ s x Some None ≡ Some y) (c : passed n₂ s y Some None ≡ Some z) (d : passed n₃ s z Some None ≡ Some (length s)) where
  to-y : passed (n₀ + n₁) s 56 Some None ≡ Some y
  to-y = passed-from n₀ n₁ s 56 x a Some None ∙ b

  to-z : passed (n₀ + n₁ + n₂) s 56 Some None ≡ Some z
  to-z = passed-from (n₀ + n₁) n₂ s 56 y to-y Some None ∙ c

  pub chains-tile : tiled (n₀ + n₁ + n₂ + n₃) s ≡ true
  unfolding tiled
  chains-tile =
      passed-at (n₀ + n₁ + n₂ + n₃) s 56 refl (length s) (passed-from (n₀ + n₁ + n₂) n₃ s 56 z to-z Some None ∙ d) (λ at. eqb at (length s)) false
      ∙ eq-eqb (length s) (length s) refl

  pub chains-right : (stride room : ℕ) (ps : List ℕ) → 0 < room → RightRun s 56 n₀ stride room 0 ps → RightRun s x n₁ stride room room ps → RightRun s y n₂ stride room (2 * room) ps → RightRun s z n₃ stride room (3 * room) ps → RightMarks (quartered stride room n₀ n₁ n₂) ps (n₀ + n₁ + n₂ + n₃) s
  unfolding mark_by passed
  chains-right stride room ps h r₀ r₁ r₂ r₃ n i = go (ltb n n₀) (ltb n (n₀ + n₁)) (ltb n (n₀ + n₁ + n₂)) refl refl refl
    where
      l : Spacing
      l = quartered stride room n₀ n₁ n₂

      go : (p q r : Bool) → ltb n n₀ ≡ p → ltb n (n₀ + n₁) ≡ q → ltb n (n₀ + n₁ + n₂) ≡ r → passed (pick p (mark_in l ps 0 0 n) (pick q (mark_in l ps room n₀ n) (pick r (mark_in l ps (2 * room) (n₀ + n₁) n) (mark_in l ps (3 * room) (n₀ + n₁ + n₂) n)))).number s 56 Some None ≡ Some (pick p (mark_in l ps 0 0 n) (pick q (mark_in l ps room n₀ n) (pick r (mark_in l ps (2 * room) (n₀ + n₁) n) (mark_in l ps (3 * room) (n₀ + n₁ + n₂) n)))).place
      go true q r e f g = chain-right l ps s 0 0 56 n₀ n refl r₀ h (omega arith) (omega (arith, ltb-true n n₀ e))
      go false true r e f g = chain-right l ps s room n₀ x n₁ n a r₁ h (ltb-false n n₀ e) (ltb-true n (n₀ + n₁) f)
      go false false true e f g = chain-right l ps s (2 * room) (n₀ + n₁) y n₂ n to-y r₂ h (ltb-false n (n₀ + n₁) f) (ltb-true n (n₀ + n₁ + n₂) g)
      go false false false e f g = chain-right l ps s (3 * room) (n₀ + n₁ + n₂) z n₃ n to-z r₃ h (ltb-false n (n₀ + n₁ + n₂) g) i

-- Four chains that are finished, each in its part of the places, so that each ends where the next starts.
module _ (s : List ℕ) (starts : Four) (stride room : ℕ) {a b c d a' b' c' d' : List ℕ} {n₀ n₁ n₂ n₃ : ℕ} (e : starts.a ≡ 56) (h : length a ≡ room) (k : Alike a b c d)
    (w : Finished s starts.a starts.b stride a a' (Some n₀)) (x : Finished s starts.b starts.c stride b b' (Some n₁)) (y : Finished s starts.c starts.d stride c c' (Some n₂)) (z : Finished s starts.d (length s) stride d d' (Some n₃)) where
  -- There are not more of their records than the stream can hold.
  pub chains_few : 56 + 4 * (n₀ + n₁ + n₂ + n₃) ≤ length s
  chains_few = omega (arith, passed-grows n₀ s starts.a starts.b w.met, passed-grows n₁ s starts.b starts.c x.met, passed-grows n₂ s starts.c starts.d y.met, passed-grows n₃ s starts.d (length s) z.met)

  pub chains_meet : (old rest : List ℕ) (count : ℕ) → length (a' ++ (b' ++ (c' ++ (d' ++ rest)))) ≡ length old → n₀ + n₁ + n₂ + n₃ ≡ count → 0 < room
      → ChainedFor s count old (a' ++ (b' ++ (c' ++ (d' ++ rest)))) (Some (quartered stride room n₀ n₁ n₂))
  chains_meet old rest count i j o =
      let a-is : length a' ≡ room = w.sized ∙ h in
      let b-is : length b' ≡ room = x.sized ∙ k.second ∙ h in
      let c-is : length c' ≡ room = y.sized ∙ k.third ∙ h in
      let d-is : length d' ≡ room = z.sized ∙ k.fourth ∙ h in
      let first : RightRun s starts.a n₀ stride room 0 (a' ++ (b' ++ (c' ++ (d' ++ rest)))) = λ k i m. grind (arith, common_steps, w.right k) in
      record {
        sized = i;
        tiles = rw (← j) (chains-tile s starts.b starts.c starts.d n₀ n₁ n₂ n₃ (rw e at w.met) x.met y.met z.met);
        right = rw (← j) (chains-right s starts.b starts.c starts.d n₀ n₁ n₂ n₃ (rw e at w.met) x.met y.met z.met stride room _ o
            (rw e at first)
            (λ k i m. grind (arith, common_steps, x.right k))
            (λ k i m. grind (arith, common_steps, y.right k))
            (λ k i m. grind (arith, common_steps, z.right k)));
      }
