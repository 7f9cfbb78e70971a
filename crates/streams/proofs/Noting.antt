-- Laws of the walk that notes places: how it starts, goes on and ends. Assumes nothing.
use Rattle.std.proofs.Common.{◌≡◌, ℕ, ◌+◌, ◌-◌, ◌*◌, ◌≤◌, ◌<◌, min, List, length, get_or, set, Option, Some, None, refl, sym, ◌∙◌, arith}
use Rattle.std.proofs.lemmas.Grind.{common_steps}
use native.Mathlib.Nat.{zero-add, zero-mul, suc-mul, mul-le-mul_right}
use native.Mathlib.Numerals.{add-one}
use Rattle.streams.specs.Stream.{passed}
use Rattle.streams.specs.Places.{Noted}
use Rattle.streams.proofs.Walk.{passed_past, passed_none, passed-bound, passed_on, passed-from}

-- The first k entries are noted, and the others are as they were.
pub record Notes (s : List ℕ) (from count stride : ℕ) (old : List ℕ) (k : ℕ) (new : List ℕ) : Type 0 where
  pub sized : length new ≡ length old
  pub kept : (j : ℕ) → k ≤ j → get_or new j 0 ≡ get_or old j 0
  pub below : (j : ℕ) → j < k → j * stride < count
  pub right : (j : ℕ) → j < k → passed (j * stride) s from Some None ≡ Some (get_or new j 0)

-- Where such a walk is: `left` records are to come, from the place of record k * stride.
pub record Noting (s : List ℕ) (from count stride : ℕ) (old : List ℕ) (at left k : ℕ) (new : List ℕ) : Type 0 where
  pub same : passed left s at Some None ≡ passed count s from Some None
  pub here : 0 < left → passed (k * stride) s from Some None ≡ Some at
  pub number : 0 < left → k * stride + left ≡ count
  pub over : left ≤ 0 → count ≤ k * stride
  pub low : at < 0x1_0000_0000
  pub notes : Notes s from count stride old k new

module _ (s : List ℕ) (from count stride : ℕ) (old : List ℕ) where
  pub noting_start : from < 0x1_0000_0000 → Noting s from count stride old from count 0 old
  unfolding passed
  noting_start h =
      record {
        same = refl;
        here = λ i. rw (zero-mul stride);
        number = λ i. omega (arith, zero-mul stride);
        over = λ i. omega arith;
        low = h;
        notes = record { sized = refl; kept = λ j i. refl; below = λ j i. absurd (omega arith); right = λ j i. absurd (omega arith) };
      }

  module _ (at left k : ℕ) (new : List ℕ) (w : Noting s from count stride old at left k new) where
    note : 0 < left → k < length old → Notes s from count stride old (k + 1) (set new k at)
    note h i =
        record {
          sized = grind (arith, common_steps);
          kept = λ j l. grind (arith, common_steps, w.notes.kept j);
          below = λ j l. grind (arith, w.notes.below j, w.number h);
          right = λ j l. grind (arith, common_steps, w.notes.right j, w.here h);
        }

    -- One stretch more.
    pub noting_next : 0 < left → k < length old → (part next : ℕ) → part ≡ min left stride → length s < 0x1_0000_0000 → passed part s at Some None ≡ Some next → Noting s from count stride old next (left - part) (k + 1) (set new k at)
    noting_next h i part next e small p =
        let whole : part + (left - part) ≡ left = omega arith in
        let up : (k + 1) * stride ≡ k * stride + stride = rw (add-one k) (suc-mul k stride) in
        record {
          same = sym (passed-from part (left - part) s at next p Some None) ∙ rw whole w.same;
          here = λ m. let f : part ≡ stride = omega arith in rw (up, passed-from (k * stride) stride s from at (w.here h) Some None, ← f) p;
          number = λ m. omega (arith, w.number h, up);
          over = λ m. omega (arith, w.number h, up);
          low = omega (arith, passed-bound part s at 0xffff_ffff next (omega (arith, w.low)) (omega arith) p);
          notes = note h i;
        }

    -- The three ends: nothing is left, no entry is left, or the stream ended before.
    pub noting_done : left ≤ 0 → Noted s from count stride old new (Some at)
    noting_done h =
        record {
          is = passed_none left s at Some None h ∙ w.same;
          sized = w.notes.sized;
          right = λ x e j i l. rw (zero-add j) (grind (arith, w.notes.right j, w.over h, λ (h : k ≤ j). mul-le-mul_right stride h));
          rest = λ j l. grind (arith, w.notes.kept j, w.notes.below j);
        }

    pub noting_full : length old ≤ k → (r : Option ℕ) → r ≡ passed left s at Some None → Noted s from count stride old new r
    noting_full h r e =
        record {
          is = e ∙ w.same;
          sized = w.notes.sized;
          right = λ x e j i l. rw (zero-add j) (w.notes.right j (omega arith));
          rest = λ j l. grind (arith, w.notes.kept j, w.notes.below j);
        }

    pub noting_beyond : 0 < left → k < length old → (part : ℕ) → part ≡ min left stride → passed part s at Some None ≡ None → Noted s from count stride old (set new k at) None
    noting_beyond h i part e p =
        let whole : part + (left - part) ≡ left = omega arith in
        let n = note h i in
        record {
          is = rw (← w.same, ← whole, passed_on part (left - part) s at Some None) (sym (passed_past part s at (λ at. passed (left - part) s at Some None) None p));
          sized = n.sized;
          right = λ x e j i l. absurd cc;
          rest = λ j l. grind (arith, n.kept j, n.below j);
        }
