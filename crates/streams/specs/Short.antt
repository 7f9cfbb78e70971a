-- Chains of a short stream: each notes the places of its first 64 records.
use Rattle.std.specs.Prelude.{ℕ, ◌+◌, ◌<◌, ◌≡◌, List, length, get_or, Option, Some, None, IfSome}
use Rattle.streams.specs.Stream.{behind, passed}
use Rattle.streams.specs.Chains.{Sized}
use Rattle.streams.specs.declared.chains.Four.{Four}

-- Where a chain is that started at `from` and notes in a part of the places: n records are passed, and the places of the first m are noted, as far as there
-- are entries.
pub record Traced (s : List ℕ) (from : ℕ) (part : List ℕ) (at n m : ℕ) : Type 0 where
  pub here : passed n s from Some None ≡ Some at
  pub right : (i : ℕ) → i < m → i < length part → passed i s from Some None ≡ Some (get_or part i 0)

-- Four chains at once, each with its part of the places.
pub record Quad (s : List ℕ) (starts : Four) (a b c d : List ℕ) (at : Four) (n m : ℕ) : Type 0 where
  pub first : Traced s starts.a a at.a n m
  pub second : Traced s starts.b b at.b n m
  pub third : Traced s starts.c c at.c n m
  pub fourth : Traced s starts.d d at.d n m

-- The place behind a record, where it is before a goal.
pub record Before (s : List ℕ) (at goal : ℕ) (r : Option ℕ) : Type 0 where
  pub is : IfSome r (λ n. behind s at Some None ≡ Some n)
  pub low : IfSome r (λ n. n < goal)

-- What noting a place in an entry keeps of a chain: it is noted, or there is no entry for it.
pub record NotedIn (k at : ℕ) (old new : List ℕ) : Type 0 where
  pub sized : length new ≡ length old
  pub traced : (s : List ℕ) (from : ℕ) → Traced s from old at k k → Traced s from new at k (k + 1)

-- What the four chains come to in lockstep: k records of each are passed and noted.
pub record Abreast (s : List ℕ) (starts : Four) (a b c d a' b' c' d' : List ℕ) (k : ℕ) : Type 0 where
  pub sized : Sized a b c d a' b' c' d'
  pub few : k < 64
  pub quad : Quad s starts a' b' c' d' (record { a = get_or a' k 0; b = get_or b' k 0; c = get_or c' k 0; d = get_or d' k 0 }) k (k + 1)
