-- Laws of record places: what each entry is, what a comparison that holds says, and where the walk that compares is. Assumes nothing.
use Rattle.std.specs.Prelude.{Option, Some, None, Result, Ok, Err}
use Prim.Native.Nat.{ℕ, zero, suc, ◌+◌, ◌-◌, ◌*◌, ◌≤◌, ◌<◌, min}
use native.Mathlib.Nat.{not-suc-le-zero, add-zero}
use native.Mathlib.Numerals.{add-one}
use native.Mathlib.Omega.{arith}
use mathlib.Core.Path.{◌≡◌, refl, sym, ◌∙◌, ap}
use mathlib.Core.Bool.{Bool, true, false}
use mathlib.Core.List.{List, [], ◌∷◌}
use lib.ListN.{length, take, drop, get_or, drop_of_length-le}
use lib.Seq.{drop-cons}
use lib.Dec.{ltb, eqb}
use borrow.Author.Tests.{ltb-true, ltb-false, eqb-true}
use Rattle.wire.specs.Field.{pick}
use Rattle.streams.specs.Stream.{passed}
use Rattle.streams.proofs.Walk.{passed-at, passed-beyond, passed_none, passed_on, passed-from}
use Rattle.record_places.specs.RecordPlaces.{record_place, places_from, entries_for, compared}
use Rattle.record_places.specs.Comparing.{holds_at, Lead, FourLead, BlockLeads, Comparing, Begun, ComparedFor}
use Rattle.record_places.specs.declared.Known.{Known}
use Rattle.std.proofs.lemmas.Bool.Decides.{nat_tests}

-- The place of a record that a walk comes to.
pub place_at : (s : List ℕ) (n x : ℕ) → passed n s 56 Some None ≡ Some x → record_place s n ≡ x
unfolding record_place
place_at s n x h = passed-at n s 56 refl x h (λ at. at) 0

module _ (s : List ℕ) where
  pub length-places : (m k : ℕ) → length (places_from m k s) ≡ m
  unfolding places_from
  length-places zero k = refl
  length-places (suc m) k = ap suc (length-places m (suc k))

  pub get-places : (m k j : ℕ) → j < m → get_or (places_from m k s) j 0 ≡ record_place s ((k + j) * 64)
  unfolding places_from
  get-places zero k j h = absurd (not-suc-le-zero h)
  get-places (suc m) k zero h = ap (λ (n : ℕ). record_place s (n * 64)) (sym (add-zero k))
  get-places (suc m) k (suc j) h =
      let e : suc k + j ≡ k + suc j = omega arith in
      get-places m (suc k) j (omega arith) ∙ ap (λ (n : ℕ). record_place s (n * 64)) e

-- How many entries there are.
pub entries-more : (n k : ℕ) → k * 64 < n → k < entries_for n
unfolding entries_for
entries-more n k h = omega arith

pub entries-back : (n k : ℕ) → k < entries_for n → k * 64 < n
unfolding entries_for
entries-back n k h = omega arith

pub entries_over : (n k : ℕ) → n ≤ k * 64 → entries_for n ≤ k
unfolding entries_for
entries_over n k h = omega arith

pub entries-past : (n k : ℕ) → entries_for n ≤ k → n ≤ k * 64
unfolding entries_for
entries-past n k h = omega arith

-- Where a comparison holds each entry is there and is the stream's.
pub compared-right : (ps qs : List ℕ) (k : ℕ) → compared ps qs k ≡ Ok tt → (j : ℕ) → j < length ps → (j < length qs) × (get_or qs j 0 ≡ get_or ps j 0)
unfolding compared
compared-right [] qs k e j h = absurd (not-suc-le-zero h)
compared-right (p ∷ ps) [] k e j h = absurd cc
compared-right (p ∷ ps) (q ∷ qs) k e j h = go (eqb q p) refl e (compared-right ps qs (suc k)) j h
  where
    go : (b : Bool) → eqb q p ≡ b → pick b (compared ps qs (suc k)) (Err k) ≡ Ok tt
        → (compared ps qs (suc k) ≡ Ok tt → (j : ℕ) → j < length ps → (j < length qs) × (get_or qs j 0 ≡ get_or ps j 0))
        → (j : ℕ) → j < suc (length ps) → (j < suc (length qs)) × (get_or (q ∷ qs) j 0 ≡ get_or (p ∷ ps) j 0)
    go true f i more zero l = (omega arith, eqb-true q p f)
    go true f i more (suc j) l = let r = more i j (omega arith) in (omega (arith, r.0), r.1)
    go false f i more j l = absurd cc

-- Entries past the stream's are never read.
pub compared-front : (ps qs : List ℕ) (k : ℕ) → compared ps (take (length ps) qs) k ≡ compared ps qs k
unfolding compared
compared-front [] qs k = refl
compared-front (p ∷ ps) [] k = refl
compared-front (p ∷ ps) (q ∷ qs) k = ap (λ (c : Result Unit ℕ). pick (eqb q p) c (Err k)) (compared-front ps qs (suc k))

-- An entry that holds is there and has the place; one that is there holds at what it is.
pub held : (ps : List ℕ) (k at : ℕ) → holds_at ps k at ≡ true → (k < length ps) × (get_or ps k 0 ≡ at)
unfolding holds_at
held ps k at e = grind (arith, nat_tests)

holds-own : (ps : List ℕ) (k : ℕ) → k < length ps → holds_at ps k (get_or ps k 0) ≡ true
unfolding holds_at
holds-own ps k h = grind (arith, nat_tests)

-- One entry more holds, or is the first that does not.
compared-at : (s ps : List ℕ) (m k : ℕ) → compared (places_from (suc m) k s) (drop k ps) k ≡ pick (holds_at ps k (record_place s (k * 64))) (compared (places_from m (suc k) s) (drop (suc k) ps) (suc k)) (Err k)
unfolding compared places_from holds_at
compared-at s ps m k = go (ltb k (length ps)) refl
  where
    rest : Result Unit ℕ
    rest = compared (places_from m (suc k) s) (drop (suc k) ps) (suc k)

    go : (b : Bool) → ltb k (length ps) ≡ b → compared (places_from (suc m) k s) (drop k ps) k ≡ pick (pick b (eqb (get_or ps k 0) (record_place s (k * 64))) false) rest (Err k)
    go true e = rw (drop-cons ps k 0 (ltb-true k (length ps) e))
    go false e = rw (drop_of_length-le ps (ltb-false k (length ps) e))

module _ (s : List ℕ) (count : ℕ) (ps : List ℕ) where
  none_left : (k : ℕ) → compared (places_from 0 k s) (drop k ps) k ≡ Ok tt
  unfolding compared places_from
  none_left k = refl

  comparing-start : Comparing s count ps 56 count 0
  unfolding passed
  comparing-start =
      record {
        same = refl;
        here = λ h. refl;
        number = λ h. omega arith;
        over = λ h. omega arith;
        rest = let e : entries_for count - 0 ≡ entries_for count = omega arith in rw e;
      }

  pub none-known : Begun s count ps (record { k = 0; at = 56 })
  none-known = let e : count - 0 * 64 ≡ count = omega arith in record { low = omega arith; at = rw e comparing-start }

  module _ (at left k : ℕ) (w : Comparing s count ps at left k) (h : 0 < left) where
    -- There is an entry for what is left, and it has this place where it is right.
    due : entries_for count - k ≡ suc (entries_for count - (k + 1))
    due = omega (arith, entries-more count k (omega (arith, w.number h)))

    rest-at : compared (places_from (entries_for count) 0 s) ps 0 ≡ pick (holds_at ps k at) (compared (places_from (entries_for count - (k + 1)) (suc k) s) (drop (suc k) ps) (suc k)) (Err k)
    rest-at = w.rest ∙ rw (due, compared-at, place_at s (k * 64) at (w.here h))

    comparing-next : holds_at ps k at ≡ true → (part next left₁ k₁ : ℕ) → part ≡ min left 64 → left₁ ≡ left - part → k₁ ≡ k + 1
        → passed part s at Some None ≡ Some next → Comparing s count ps next left₁ k₁
    comparing-next i part next left₁ k₁ e f j p =
        record {
          same = sym (passed-from part left₁ s at next p Some None) ∙ ap (λ (n : ℕ). passed n s at Some None) whole ∙ w.same;
          here = λ l. on (omega arith);
          number = λ l. omega (arith, w.number h);
          over = λ l. omega (arith, w.number h);
          rest = rest-at ∙ rw i up;
        }
      where
        whole : part + left₁ ≡ left
        whole = omega arith

        on : part ≡ 64 → passed (k₁ * 64) s 56 Some None ≡ Some next
        on l =
            let u : k₁ * 64 ≡ k * 64 + 64 = omega arith in
            rw (u, passed-from (k * 64) 64 s 56 at (w.here h) Some None) (rw l at p)

        up : compared (places_from (entries_for count - (k + 1)) (suc k) s) (drop (suc k) ps) (suc k) ≡ compared (places_from (entries_for count - k₁) k₁ s) (drop k₁ ps) k₁
        up = let u : k₁ ≡ suc k = j ∙ add-one k in rw (u, add-one k)

  -- A block at once: so many entries, each of which leads to the next.
  comparing-block : (at left k m : ℕ) → Comparing s count ps at left k → get_or ps k 0 ≡ at → m * 64 < left → BlockLeads s ps k m → (n : ℕ) → n ≤ m → Comparing s count ps (get_or ps (k + n) 0) (left - n * 64) (k + n)
  comparing-block at left k m w e h b zero l =
      let x : k + 0 ≡ k = omega arith in
      let y : left - 0 * 64 ≡ left = omega arith in
      rw (x, y, e) w
  comparing-block at left k m w e h b (suc n) l =
      let x : k + n + 1 ≡ k + suc n = omega arith in
      comparing-next (get_or ps (k + n) 0) (left - n * 64) (k + n) (comparing-block at left k m w e h b n (omega arith)) (omega arith) (holds-own ps (k + n) (omega (arith, b.inside)))
      64 (get_or ps (k + suc n) 0) (left - suc n * 64) (k + suc n) (omega arith) (omega arith) (omega arith)
      (b.lead n (omega arith) ∙ ap (λ (i : ℕ). Some (get_or ps i 0)) x)

  -- So more entries are known.
  pub block-known : (r : Known) → Begun s count ps r → holds_at ps r.k r.at ≡ true → (m : ℕ) → BlockLeads s ps r.k m → r.k + m < entries_for count → Begun s count ps (record { k = r.k + m; at = get_or ps (r.k + m) 0 })
  block-known r w e m b l =
      let i = entries-back count (r.k + m) l in
      let left : count - r.k * 64 - m * 64 ≡ count - (r.k + m) * 64 = omega arith in
      record { low = omega arith; at = rw left at (comparing-block r.at (count - r.k * 64) r.k m w.at (held ps r.k r.at e).1 (omega arith) b m (omega arith)) }

  -- One entry after another: where it is right the walk goes on behind its records; else it ends, or the stream does.
  module _ (at k : ℕ) (w : Comparing s count ps at (count - k * 64) k) where
    pub one-more : k < entries_for count → holds_at ps k at ≡ true → (next : ℕ) → passed (min (count - k * 64) 64) s at Some None ≡ Some next → Comparing s count ps next (count - (k + 1) * 64) (k + 1)
    one-more h e next p =
        let l = entries-back count k h in
        comparing-next at (count - k * 64) k w (omega arith) e (min (count - k * 64) 64) next (count - (k + 1) * 64) (k + 1) refl (omega arith) refl p

    pub compared-done : entries_for count ≤ k → ComparedFor s count ps (record { end = Some at; places = Ok tt })
    compared-done h =
        record {
          end = passed_none (count - k * 64) s at Some None (omega (arith, entries-past count k h)) ∙ w.same;
          places = λ x e. sym (w.rest ∙ none (entries_for count - k) (omega arith));
        }
      where
        none : (m : ℕ) → m ≤ 0 → compared (places_from m k s) (drop k ps) k ≡ Ok tt
        none zero l = none_left k
        none (suc m) l = absurd (not-suc-le-zero l)

    pub compared-wrong : k < entries_for count → holds_at ps k at ≡ false → (r : Option ℕ) → r ≡ passed (count - k * 64) s at Some None → ComparedFor s count ps (record { end = r; places = Err k })
    compared-wrong h n r e =
        let l = entries-back count k h in
        record { end = e ∙ w.same; places = λ x f. sym (rest-at at (count - k * 64) k w (omega arith) ∙ rw n) }

    pub compared-beyond : passed (min (count - k * 64) 64) s at Some None ≡ None → ComparedFor s count ps (record { end = None; places = Ok tt })
    compared-beyond p =
        record {
          end = sym (sym w.same ∙ ap (λ (n : ℕ). passed n s at Some None) (sym whole) ∙ passed_on part (count - k * 64 - part) s at Some None ∙ passed-beyond part s at refl p (λ at. passed (count - k * 64 - part) s at Some None) None);
          places = λ x e. absurd cc;
        }
      where
        part : ℕ
        part = min (count - k * 64) 64

        whole : part + (count - k * 64 - part) ≡ count - k * 64
        whole = omega arith

-- The first so many of each of four parts of a block lead to the next.
pub record Led (s ps : List ℕ) (k apart j : ℕ) : Type 0 where
  pub inside : 0 < j → k + 3 * apart + j < length ps
  pub each : (i : ℕ) → i < j → FourLead s ps (k + i) apart

-- All of them: each entry of the block.
pub led-all : (s ps : List ℕ) (k apart j : ℕ) → 0 < apart → apart ≤ j → j ≤ apart → Led s ps k apart j → BlockLeads s ps k (4 * apart)
led-all s ps k apart j h l m w = record { inside = omega (arith, w.inside (omega arith)); lead = λ i n. go i n (ltb i apart) (ltb i (2 * apart)) (ltb i (3 * apart)) refl refl refl }
  where
    at_place : (i n : ℕ) → i ≡ n → Lead s ps i → Lead s ps n
    at_place i n e f = rw (← e) f

    go : (i : ℕ) → i < 4 * apart → (a b c : Bool) → ltb i apart ≡ a → ltb i (2 * apart) ≡ b → ltb i (3 * apart) ≡ c → Lead s ps (k + i)
    go i n true b c e f g = (w.each i (omega (arith, ltb-true i apart e))).first
    go i n false true c e f g =
        let x : apart ≤ i = ltb-false i apart e in
        let y : i < 2 * apart = ltb-true i (2 * apart) f in
        at_place (k + (i - apart) + apart) (k + i) (omega arith) (w.each (i - apart) (omega arith)).second
    go i n false false true e f g =
        let x : 2 * apart ≤ i = ltb-false i (2 * apart) f in
        let y : i < 3 * apart = ltb-true i (3 * apart) g in
        at_place (k + (i - 2 * apart) + 2 * apart) (k + i) (omega arith) (w.each (i - 2 * apart) (omega arith)).third
    go i n false false false e f g =
        let x : 3 * apart ≤ i = ltb-false i (3 * apart) g in
        at_place (k + (i - 3 * apart) + 3 * apart) (k + i) (omega arith) (w.each (i - 3 * apart) (omega arith)).fourth
