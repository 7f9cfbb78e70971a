-- Laws of the chains of a short stream: how one starts, notes and goes on. Assumes nothing.
use Rattle.std.proofs.Common.{◌≡◌, ℕ, ◌+◌, ◌*◌, ◌≤◌, ◌<◌, List, length, get_or, set, Some, None, refl, ◌∙◌, arith}
use Rattle.std.proofs.lemmas.Grind.{common_steps}
use native.Mathlib.Nat.{mul-one, zero-add}
use Rattle.streams.specs.Stream.{behind, passed}
use Rattle.streams.specs.Chains.{Sized, FourBefore, Finished}
use Rattle.streams.specs.Short.{Traced, Quad, NotedIn, Abreast}
use Rattle.streams.specs.declared.chains.Four.{Four}
use Rattle.streams.proofs.Walk.{passed_next, passed-grows}

traced_start : (s : List ℕ) (from : ℕ) (part : List ℕ) → Traced s from part from 0 0
unfolding passed
traced_start s from part = record { here = refl; right = λ i h j. absurd (omega arith) }

module _ (s : List ℕ) (from : ℕ) (part : List ℕ) (at n : ℕ) where
  pub traced_next : (m : ℕ) → Traced s from part at n m → (x : ℕ) → behind s at Some None ≡ Some x → Traced s from part x (n + 1) m
  traced_next m t x e = record { here = passed_next n s from at x t.here e; right = t.right }

  -- The place of the record is noted, or there is no entry left for it.
  traced_note : Traced s from part at n n → n < length part → Traced s from (set part n at) at n (n + 1)
  traced_note t h = record { here = t.here; right = λ i k l. grind (arith, common_steps, t.right i, t.here) }

  traced_full : Traced s from part at n n → length part ≤ n → Traced s from part at n (n + 1)
  traced_full t h = record { here = t.here; right = λ i k l. t.right i (omega arith) l }

  -- Where a chain is of which so many places are noted.
  traced_at : (m k : ℕ) → Traced s from part at n m → k < m → k < length part → Traced s from part (get_or part k 0) k (k + 1)
  traced_at m k t h i = record { here = t.right k h i; right = λ j l o. t.right j (omega arith) o }

  -- How many records there are at most.
  pub traced_few : (m : ℕ) → Traced s from part at n m → from + 4 * n ≤ at
  traced_few m t = passed-grows n s from at t.here

  -- It is at its goal.
  pub traced_met : Traced s from part at n (n + 1) → (old : List ℕ) → length part ≡ length old → Finished s from at 1 old part (Some n)
  traced_met t old e = record { sized = e; met = t.here; right = λ i h l. rw (mul-one, zero-add) (t.right i (omega (arith, mul-one i)) h) }

-- What `note_in` answers.
module _ (k at : ℕ) (part : List ℕ) where
  pub noted_in : k < length part → NotedIn k at part (set part k at)
  noted_in h = record { sized = grind (arith, common_steps); traced = λ s from t. traced_note s from part at k t h }

  pub noted_out : length part ≤ k → NotedIn k at part part
  noted_out h = record { sized = refl; traced = λ s from t. traced_full s from part at k t h }

-- Four chains.
module _ (s : List ℕ) (starts : Four) where
  pub quad_start : (a b c d : List ℕ) → Quad s starts a b c d starts 0 0
  quad_start a b c d = record { first = traced_start s starts.a a; second = traced_start s starts.b b; third = traced_start s starts.c c; fourth = traced_start s starts.d d }

  pub quad_note : {a b c d : List ℕ} {at : Four} {n : ℕ} → Quad s starts a b c d at n n → n < length a → n < length b → n < length c → n < length d
      → Quad s starts (set a n at.a) (set b n at.b) (set c n at.c) (set d n at.d) at n (n + 1)
  quad_note q e f g h =
      record { first = traced_note s starts.a _ _ _ q.first e; second = traced_note s starts.b _ _ _ q.second f; third = traced_note s starts.c _ _ _ q.third g; fourth = traced_note s starts.d _ _ _ q.fourth h }

  pub quad_next : {a b c d : List ℕ} {at next goals : Four} {n m : ℕ} → Quad s starts a b c d at n m → FourBefore s at goals (Some next) → Quad s starts a b c d next (n + 1) m
  quad_next q f =
      let g = f.are in
      record { first = traced_next s starts.a _ _ _ _ q.first _ g.0; second = traced_next s starts.b _ _ _ _ q.second _ g.1; third = traced_next s starts.c _ _ _ _ q.third _ g.2; fourth = traced_next s starts.d _ _ _ _ q.fourth _ g.3 }

  pub quad_ends : {i j k l a b c d : List ℕ} {at : Four} {n m : ℕ} (o : ℕ) → o < 64 → o < m → Quad s starts a b c d at n m → Sized i j k l a b c d → o < length a → o < length b → o < length c → o < length d
      → Abreast s starts i j k l a b c d o
  quad_ends o h p q z e f g w =
      record {
        sized = z;
        few = h;
        quad = record { first = traced_at s starts.a _ _ _ _ o q.first p e; second = traced_at s starts.b _ _ _ _ o q.second p f; third = traced_at s starts.c _ _ _ _ o q.third p g; fourth = traced_at s starts.d _ _ _ _ o q.fourth p w };
      }
