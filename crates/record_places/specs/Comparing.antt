-- How lent places are held against a stream: where such a walk is, and what it comes to.
use Rattle.std.specs.Prelude.{ℕ, ◌+◌, ◌-◌, ◌*◌, ◌≤◌, ◌<◌, ◌≡◌, Bool, false, List, length, drop, get_or, ltb, eqb, Some, None, Result, Ok, Err}
use Rattle.wire.specs.Field.{pick}
use Rattle.streams.specs.Stream.{passed}
use Rattle.record_places.specs.declared.Known.{Known}
use Rattle.record_places.specs.declared.Comparison.{Comparison}
use Rattle.record_places.specs.RecordPlaces.{places_from, entries_for, compared, Pass, leaves, refused_pass}
use Rattle.streams.specs.declared.refusal.Refusal.{Refusal}

-- Whether entry k is there and has a place.
unfoldable pub holds_at : List ℕ → ℕ → ℕ → Bool
holds_at ps k at = pick (ltb k (length ps)) (eqb (get_or ps k 0) at) false

-- An entry leads to the next in 64 records.
abbrev pub Lead : List ℕ → List ℕ → ℕ → Type 0
Lead s ps k = passed 64 s (get_or ps k 0) Some None ≡ Some (get_or ps (k + 1) 0)

-- Four entries do, so far apart; and so many that follow each other.
pub record FourLead (s ps : List ℕ) (k apart : ℕ) : Type 0 where
  pub inside : k + 3 * apart + 1 < length ps
  pub first : Lead s ps k
  pub second : Lead s ps (k + apart)
  pub third : Lead s ps (k + 2 * apart)
  pub fourth : Lead s ps (k + 3 * apart)

pub record BlockLeads (s ps : List ℕ) (k m : ℕ) : Type 0 where
  pub inside : k + m < length ps
  pub lead : (i : ℕ) → i < m → Lead s ps (k + i)

-- Where the walk is: `left` records are to come, from the place of record 64 k, and what the entries from k on come to, all come to.
pub record Comparing (s : List ℕ) (count : ℕ) (ps : List ℕ) (at left k : ℕ) : Type 0 where
  pub same : passed left s at Some None ≡ passed count s 56 Some None
  pub here : 0 < left → passed (k * 64) s 56 Some None ≡ Some at
  pub number : 0 < left → k * 64 + left ≡ count
  pub over : left ≤ 0 → count ≤ k * 64
  pub rest : compared (places_from (entries_for count) 0 s) ps 0 ≡ compared (places_from (entries_for count - k) k s) (drop k ps) k

-- Where it is after some entries.
pub record Begun (s : List ℕ) (count : ℕ) (ps : List ℕ) (r : Known) : Type 0 where
  pub low : r.k * 64 ≤ count
  pub at : Comparing s count ps r.at (count - r.k * 64) r.k

-- What it comes to: where the records end, and, where they are all there, the check of the places.
pub record ComparedFor (s : List ℕ) (count : ℕ) (ps : List ℕ) (r : Comparison) : Type 0 where
  pub end : r.end ≡ passed count s 56 Some None
  pub places : (x : ℕ) → r.end ≡ Some x → r.places ≡ compared (places_from (entries_for count) 0 s) ps 0

-- What is left where a refused pass fills the buffer with zeros.
unfoldable pub settled_pass : List ℕ → Result ℕ Refusal → Pass
settled_pass b (Ok n) = leaves b (Ok n)
settled_pass b (Err f) = refused_pass b f
