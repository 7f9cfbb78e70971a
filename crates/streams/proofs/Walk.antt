-- Laws of the walk over records: what its answer says, and where it stays. Assumes nothing.
use Rattle.std.specs.Prelude.{Option, Some, None, IfSome, Result, Ok, Err, IfOk, ⊤}
use Rattle.std.specs.Option.{option_map_or}
use Rattle.std.proofs.lemmas.Option.{MatchOption-at_some}
use Rattle.std.proofs.lemmas.Result.{IfOk-at_ok}
use Prim.Native.Nat.{ℕ, zero, suc, ◌+◌, ◌-◌, ◌*◌, ◌≤◌, ◌<◌, min}
use native.Mathlib.Nat.{not-suc-le-zero, zero-add, suc-add, zero-min, suc-min-suc}
use native.Mathlib.Numerals.{add-one}
use native.Mathlib.Omega.{arith}
use mathlib.Core.Path.{◌≡◌, refl, sym, ◌∙◌, ap, fun_ext}
use mathlib.Core.Bool.{Bool, true, false}
use mathlib.Core.List.{List, [], ◌∷◌}
use lib.ListN.{length, take, drop, length-take, length-drop}
use lib.Seq.{take-nil}
use lib.Dec.{leb, ltb, eqb}
use borrow.Author.Tests.{leb-true, leb-false, ltb-false}
use Rattle.wire.specs.Field.{pick, number, field}
use Rattle.wire.proofs.Laws.{map-pick, map-field, all-field}
use Rattle.streams.specs.Stream.{indexes, header, behind, passed, record_at, walk_from, look_from}
use Rattle.streams.specs.declared.stream.Stream.{Stream}
use Rattle.streams.specs.declared.stream.Cursor.{Cursor}
use Rattle.streams.specs.declared.stream.RecordAt.{RecordAt}
use Rattle.streams.specs.declared.stream.Absent.{Absent}
use Rattle.streams.specs.Stream.{headed}
use Rattle.streams.specs.Stream.{stands}
use Rattle.streams.specs.declared.stream.Absent.TheVariants as absent

-- Whatever holds of every answer that a record inside can give, and of the answer beyond, holds of what follows from a place.
module _ {A : Type 0} (P : A → Type 0) (s : List ℕ) where
  behind-all : (at : ℕ) (k : ℕ → A) (z : A) → ((next : ℕ) → at + 4 ≤ next → next ≤ length s → P (k next)) → P z → P (behind s at k z)
  unfolding behind field
  behind-all at k z f p = go (leb (at + 2) (length s)) (leb 2 (number 2 s at)) (leb (at + 2 + number 2 s at) (length s)) refl refl
    where
      go : (a b c : Bool) → leb 2 (number 2 s at) ≡ b → leb (at + 2 + number 2 s at) (length s) ≡ c → P (pick a (pick b (pick c (k (at + 2 + number 2 s at)) z) z) z)
      go true true true e h =
          let i : 2 ≤ number 2 s at = leb-true 2 (number 2 s at) e in
          f (at + 2 + number 2 s at) (omega arith) (leb-true (at + 2 + number 2 s at) (length s) h)
      go true true false e h = p
      go true false c e h = p
      go false b c e h = p

  pub passed-all : (n at : ℕ) (k : ℕ → A) (z : A) → ((next : ℕ) → P (k next)) → P z → P (passed n s at k z)
  unfolding passed
  passed-all zero at k z f p = f at
  passed-all (suc n) at k z f p = behind-all at (λ at. passed n s at k z) z (λ next h i. passed-all n next k z f p) p

  pub record_at-all : (at : ℕ) (k : ℕ → ℕ → ℕ → A) (z : A) → ((kind start end : ℕ) → start ≤ end → end ≤ length s → P (k kind start end)) → P z → P (record_at s at k z)
  unfolding record_at field
  record_at-all at k z f p =
      behind-all at (λ next. field 2 s (at + 2) (λ kind. k kind (at + 4) next) z) z
      (λ next h i. go next (leb (at + 2 + 2) (length s)) h i) p
    where
      go : (next : ℕ) (b : Bool) → at + 4 ≤ next → next ≤ length s → P (pick b (k (number 2 s (at + 2)) (at + 4) next) z)
      go next true h i = f (number 2 s (at + 2)) (at + 4) next h i
      go next false h i = p

-- A function of what follows is what follows with the function put on each answer.
module _ {A B : Type 0} (f : A → B) (s : List ℕ) where
  map-behind : (at : ℕ) (k : ℕ → A) (z : A) → f (behind s at k z) ≡ behind s at (λ n. f (k n)) (f z)
  unfolding behind
  map-behind at k z = simp (map-field f, map-pick f)

  pub map-passed : (n at : ℕ) (k : ℕ → A) (z : A) → f (passed n s at k z) ≡ passed n s at (λ n. f (k n)) (f z)
  unfolding passed
  map-passed zero at k z = refl
  map-passed (suc n) at k z =
      map-behind at (λ at. passed n s at k z) z
      ∙ ap (λ (g : ℕ → B). behind s at g (f z)) (fun_ext (λ at. map-passed n at k z))

  pub map-record : (at : ℕ) (k : ℕ → ℕ → ℕ → A) (z : A) → f (record_at s at k z) ≡ record_at s at (λ a b c. f (k a b c)) (f z)
  unfolding record_at
  map-record at k z =
      map-behind at (λ next. field 2 s (at + 2) (λ kind. k kind (at + 4) next) z) z
      ∙ ap (λ (g : ℕ → B). behind s at g (f z)) (fun_ext (λ next. map-field f 2 s (at + 2) (λ kind. k kind (at + 4) next) z))

  map-header : (k : ℕ → ℕ → ℕ → A) (z : A) → f (header s k z) ≡ header s (λ a b c. f (k a b c)) (f z)
  unfolding header indexes
  map-header k z = simp (map-pick f, map-field f)

pub map-walk : {A B : Type 0} (f : A → B) (s : List ℕ) (t : Stream) (from : Cursor) (i : ℕ) (k : Cursor → A) (m x : A) → f (walk_from s t from i k m x) ≡ walk_from s t from i (λ c. f (k c)) (f m) (f x)
unfolding walk_from
map-walk {A} {B} f s t from i k m x =
    map-pick f (leb 0x8000_0000 i) x _
    ∙ ap (λ (y : B). pick (leb 0x8000_0000 i) (f x) y)
    (map-pick f (ltb i from.index) m _
    ∙ ap (λ (y : B). pick (ltb i from.index) (f m) y)
    (map-pick f (leb t.end i) m _
    ∙ ap (λ (y : B). pick (leb t.end i) (f m) y)
    (map-passed f (take t.stop s) (i - from.index) from.at (λ at. k (record { index = i; at = at })) m)))

map-look : {A B : Type 0} (f : A → B) (s : List ℕ) (t : Stream) (from : Cursor) (i : ℕ) (k : ℕ → ℕ → ℕ → A) (m x : A) → f (look_from s t from i k m x) ≡ look_from s t from i (λ a b c. f (k a b c)) (f m) (f x)
unfolding look_from
map-look {A} {B} f s t from i k m x =
    map-walk f s t from i (λ c. record_at (take t.stop s) c.at k m) m x
    ∙ ap (λ (g : Cursor → B). walk_from s t from i g (f m) (f x)) (fun_ext (λ c. map-record f (take t.stop s) c.at k m))

-- What an answered place says: whatever goes by it goes on from there, or stops.
module _ (s : List ℕ) (at : ℕ) {r : (Option ℕ)} (e : r ≡ behind s at Some None) where
  behind-by : {A : Type 0} (k : ℕ → A) (z : A) → behind s at k z ≡ option_map_or k r z
  behind-by k z = sym (ap (λ (p : Option ℕ). option_map_or k p z) e ∙ map-behind (λ (p : Option ℕ). option_map_or k p z) s at Some None)

  pub behind-at : (x : ℕ) → r ≡ Some x → {A : Type 0} (k : ℕ → A) (z : A) → behind s at k z ≡ k x
  behind-at x h k z = behind-by k z ∙ rw h

  pub behind-beyond : r ≡ None → {A : Type 0} (k : ℕ → A) (z : A) → behind s at k z ≡ z
  behind-beyond h k z = behind-by k z ∙ rw h

  pub behind-within : (x : ℕ) → r ≡ Some x → (at + 4 ≤ x) × (x ≤ length s)
  behind-within x h =
      MatchOption-at_some ⊤ (λ x. (at + 4 ≤ x) × (x ≤ length s)) x (sym e ∙ h)
      (behind-all (λ (p : Option ℕ). IfSome p (λ x. (at + 4 ≤ x) × (x ≤ length s))) s at Some None (λ next i j. (i, j)) tt)

module _ (n : ℕ) (s : List ℕ) (at : ℕ) {r : (Option ℕ)} (e : r ≡ passed n s at Some None) where
  pub passed-by : {A : Type 0} (k : ℕ → A) (z : A) → passed n s at k z ≡ option_map_or k r z
  passed-by k z = sym (ap (λ (p : Option ℕ). option_map_or k p z) e ∙ map-passed (λ (p : Option ℕ). option_map_or k p z) s n at Some None)

  pub passed-at : (x : ℕ) → r ≡ Some x → {A : Type 0} (k : ℕ → A) (z : A) → passed n s at k z ≡ k x
  passed-at x h k z = passed-by k z ∙ rw h

  pub passed-beyond : r ≡ None → {A : Type 0} (k : ℕ → A) (z : A) → passed n s at k z ≡ z
  passed-beyond h k z = passed-by k z ∙ rw h

pub passed_to : {A : Type 0} (n : ℕ) (s : List ℕ) (at : ℕ) (k : ℕ → A) (z : A) (x : ℕ) → passed n s at Some None ≡ Some x → passed n s at k z ≡ k x
passed_to n s at k z x e = passed-at n s at refl x e k z

pub passed_past : {A : Type 0} (n : ℕ) (s : List ℕ) (at : ℕ) (k : ℕ → A) (z : A) → passed n s at Some None ≡ None → passed n s at k z ≡ z
passed_past n s at k z e = passed-beyond n s at refl e k z

-- A walk of no record, and of one more.
pub passed_none : {A : Type 0} (n : ℕ) (s : List ℕ) (at : ℕ) (k : ℕ → A) (z : A) → n ≤ 0 → k at ≡ passed n s at k z
unfolding passed
passed_none zero s at k z h = refl
passed_none (suc n) s at k z h = absurd (not-suc-le-zero h)

more : {A : Type 0} (n : ℕ) (s : List ℕ) (at : ℕ) (k : ℕ → A) (z : A) → passed (suc n) s at k z ≡ behind s at (λ at. passed n s at k z) z
unfolding passed
more n s at k z = refl

pub passed-more : {A : Type 0} (n : ℕ) (s : List ℕ) (at : ℕ) (k : ℕ → A) (z : A) → 0 < n → passed n s at k z ≡ behind s at (λ at. passed (n - 1) s at k z) z
passed-more zero s at k z h = absurd (not-suc-le-zero h)
passed-more (suc n) s at k z h =
    let e : suc n - 1 ≡ n = omega arith in
    simp e (more n s at k z)

-- A walk over two runs of records is one walk.
pub passed_on : {A : Type 0} (m n : ℕ) (s : List ℕ) (at : ℕ) (k : ℕ → A) (z : A) → passed (m + n) s at k z ≡ passed m s at (λ at. passed n s at k z) z
unfolding passed
passed_on zero n s at k z = simp zero-add
passed_on {A} (suc m) n s at k z = rw suc-add (ap (λ (g : ℕ → A). behind s at g z) (fun_ext (λ next. passed_on m n s next k z)))

-- A walk of one record more ends with that record.
pub passed-last : {A : Type 0} (n : ℕ) (s : List ℕ) (at : ℕ) (k : ℕ → A) (z : A) → passed (suc n) s at k z ≡ passed n s at (λ at. behind s at k z) z
unfolding passed
passed-last zero s at k z = refl
passed-last {A} (suc n) s at k z = ap (λ (g : ℕ → A). behind s at g z) (fun_ext (λ next. passed-last n s next k z))

-- Where a run is passed, a walk over it and what follows goes on from its end.
pub passed-from : {A : Type 0} (m n : ℕ) (s : List ℕ) (at x : ℕ) → passed m s at Some None ≡ Some x → (k : ℕ → A) (z : A) → passed (m + n) s at k z ≡ passed n s x k z
passed-from m n s at x e k z = passed_on m n s at k z ∙ passed-at m s at refl x e (λ at. passed n s at k z) z

-- A walk and one record more, or none where there is no such record.
pub passed_next : (n : ℕ) (s : List ℕ) (from at x : ℕ) → passed n s from Some None ≡ Some at → behind s at Some None ≡ Some x → passed (n + 1) s from Some None ≡ Some x
passed_next n s from at x e f = rw add-one (passed-last n s from Some None ∙ passed-at n s from refl at e (λ at. behind s at Some None) None ∙ f)

pub passed_stop : {A : Type 0} (n m : ℕ) (s : List ℕ) (from at : ℕ) (k : ℕ → A) (z : A) → passed n s from Some None ≡ Some at → behind s at Some None ≡ None → n < m → passed m s from k z ≡ z
passed_stop n m s from at k z e f h =
    let i : n + (m - n) ≡ m = omega arith in
    let j : 0 < m - n = omega arith in
    rw (sym i) (passed-from n (m - n) s from at e k z ∙ passed-more (m - n) s at k z j ∙ behind-beyond s at refl f (λ at. passed (m - n - 1) s at k z) z)

-- A walk stays below whatever bounds its start and the stream.
bounded : (n : ℕ) (s : List ℕ) (at b : ℕ) → at ≤ b → length s ≤ b → IfSome (passed n s at Some None) (λ x. x ≤ b)
unfolding passed
bounded zero s at b h i = h
bounded (suc n) s at b h i = behind-all (λ (p : Option ℕ). IfSome p (λ x. x ≤ b)) s at (λ at. passed n s at Some None) None (λ next j k. bounded n s next b (omega arith) i) tt

pub passed-bound : (n : ℕ) (s : List ℕ) (at b x : ℕ) → at ≤ b → length s ≤ b → passed n s at Some None ≡ Some x → x ≤ b
passed-bound n s at b x h i e = MatchOption-at_some ⊤ (λ x. x ≤ b) x e (bounded n s at b h i)

-- Each record has at least four bytes.
grown : (n : ℕ) (s : List ℕ) (at b : ℕ) → b ≤ at + 4 * n → IfSome (passed n s at Some None) (λ x. b ≤ x)
unfolding passed
grown zero s at b h = omega arith
grown (suc n) s at b h = behind-all (λ (p : Option ℕ). IfSome p (λ x. b ≤ x)) s at (λ at. passed n s at Some None) None (λ next j k. grown n s next b (omega arith)) tt

pub passed-grows : (n : ℕ) (s : List ℕ) (at x : ℕ) → passed n s at Some None ≡ Some x → at + 4 * n ≤ x
passed-grows n s at x e = MatchOption-at_some ⊤ (λ x. at + 4 * n ≤ x) x e (grown n s at (at + 4 * n) (omega arith))

-- Whatever holds of every answer that an index of the stream can give, and of the two others, holds of what follows from a walk.
pub walk-all : {A : Type 0} (P : A → Type 0) (s : List ℕ) (t : Stream) (from : Cursor) (i : ℕ) (k : Cursor → A) (m x : A) → ((at : ℕ) → from.index ≤ i → i < t.end → i < 0x8000_0000 → P (k (record { index = i; at = at }))) → P m → P x → P (walk_from s t from i k m x)
unfolding walk_from
walk-all P s t from i k m x f p q = go (leb 0x8000_0000 i) (ltb i from.index) (leb t.end i) refl refl refl
  where
    go : (a b c : Bool) → leb 0x8000_0000 i ≡ a → ltb i from.index ≡ b → leb t.end i ≡ c → P (pick a x (pick b m (pick c m (passed (i - from.index) (take t.stop s) from.at (λ at. k (record { index = i; at = at })) m))))
    go true b c d e h = q
    go false true c d e h = p
    go false false true d e h = p
    go false false false d e h =
        passed-all P (take t.stop s) (i - from.index) from.at (λ at. k (record { index = i; at = at })) m
        (λ at. f at (ltb-false i from.index e) (leb-false t.end i h) (leb-false 0x8000_0000 i d)) p

-- The fields of a record that was looked up lie inside the stream.
pub look-within : (s : List ℕ) (t : Stream) (from : Cursor) (i : ℕ) {r : (Result RecordAt Absent)} → r ≡ look_from s t from i stands (Err absent.Missing) (Err absent.CrossModule) → (kind start end : ℕ) → r ≡ stands kind start end → (start ≤ end) × (end ≤ length s)
unfolding look_from
look-within s t from i e kind start end h =
    IfOk-at_ok Inside (sym e ∙ h)
    (walk-all (λ (r : Result RecordAt Absent). IfOk r Inside) s t from i (λ c. record_at (take t.stop s) c.at stands (Err absent.Missing)) (Err absent.Missing) (Err absent.CrossModule)
    (λ at a b c. record_at-all (λ (r : Result RecordAt Absent). IfOk r Inside) (take t.stop s) at stands (Err absent.Missing) (λ kd a b i j. (i, omega (arith, length-take t.stop s))) tt) tt tt)
  where
    Inside : RecordAt → Type 0
    Inside r = (r.start ≤ r.end) × (r.end ≤ length s)

-- Whatever holds of every answer that a whole header can give, and of the answer to a broken one, holds of what follows from a header.
header-all : {A : Type 0} (P : A → Type 0) (s : List ℕ) (k : ℕ → ℕ → ℕ → A) (z : A)
    → ((first end stop : ℕ) → first ≤ end → end ≤ 0x8000_0000 → stop ≤ length s → length s ≤ 16_777_216 → P (k first end stop)) → P z → P (header s k z)
unfolding header indexes field
header-all {A} P s k z f p =
    all (leb (length s) 16_777_216) (λ a. all (leb 56 (length s)) (λ b. all (leb (4 + 4) (length s)) (λ _. all (eqb (number 4 s 4) 56) (λ _.
    all (leb (8 + 4) (length s)) (λ _. all (leb (12 + 4) (length s)) (λ _. all (leb (16 + 4) (length s)) (λ _.
    all (leb 0x1000 (number 4 s 8)) (λ _. all (leb (number 4 s 8) (number 4 s 12)) (λ c. all (leb (number 4 s 12) 0x8000_0000) (λ d. all (leb (number 4 s 16) (length s - 56)) (λ e.
    f (number 4 s 8) (number 4 s 12) (56 + number 4 s 16) (leb-true _ _ c) (leb-true _ _ d) (omega (arith, leb-true _ _ b, leb-true _ _ e)) (leb-true _ _ a))))))))))))
  where
    all : (b : Bool) {x : A} → (b ≡ true → P x) → P (pick b x z)
    all true g = g refl
    all false g = p

-- What a header that was read says: its numbers are in order and fit.
abbrev by_head : {A : Type 0} → Option Stream → (ℕ → ℕ → ℕ → A) → A → A
by_head (Some t) k z = k t.first t.end t.stop
by_head None k z = z

pub record Headed (s : List ℕ) (t : Stream) : Type 0 where
  pub onward : t.first ≤ t.end
  pub low : t.end ≤ 0x8000_0000
  pub inside : t.stop ≤ length s
  pub small : length s ≤ 16_777_216

pub headed_fits : (s : List ℕ) (t : Stream) → header s headed None ≡ Some t → Headed s t
headed_fits s t e =
    MatchOption-at_some ⊤ (Headed s) t e
    (header-all (λ (r : Option Stream). IfSome r (Headed s)) s headed None
    (λ a b c i j l h. record { onward = i; low = j; inside = l; small = h }) tt)

module _ (s : List ℕ) {r : (Option Stream)} (e : r ≡ header s headed None) where
  header-by : {A : Type 0} (k : ℕ → ℕ → ℕ → A) (z : A) → header s k z ≡ by_head r k z
  header-by k z = sym (ap (λ (r : Option Stream). by_head r k z) e ∙ map-header (λ (r : Option Stream). by_head r k z) s headed None)

  pub header-good : (a b c : ℕ) → r ≡ headed a b c → {A : Type 0} (k : ℕ → ℕ → ℕ → A) (z : A) → header s k z ≡ k a b c
  header-good a b c h k z = header-by k z ∙ rw h

  pub header-broken : r ≡ None → {A : Type 0} (k : ℕ → ℕ → ℕ → A) (z : A) → header s k z ≡ z
  header-broken h k z = header-by k z ∙ rw h

  pub header-within : (a b c : ℕ) → r ≡ headed a b c → (a ≤ b) × (c ≤ length s)
  header-within a b c h = let w = headed_fits s (record { first = a; end = b; stop = c }) (sym e ∙ h) in (w.onward, w.inside)

  pub header-end : (a b c : ℕ) → r ≡ headed a b c → b ≤ 0x8000_0000
  header-end a b c h = (headed_fits s (record { first = a; end = b; stop = c }) (sym e ∙ h)).low

pub header-small : (s : List ℕ) {r : (Option Stream)} → r ≡ header s headed None → (a b c : ℕ) → r ≡ headed a b c → length s ≤ 16_777_216
header-small s e a b c h = (headed_fits s (record { first = a; end = b; stop = c }) (sym e ∙ h)).small

-- A part up to a stop, or up to the end where that comes first.
pub take-shorter : (s : List ℕ) (n : ℕ) → take (min n (length s)) s ≡ take n s
take-shorter [] zero = take-nil (min 0 0)
take-shorter [] (suc n) = take-nil (min (suc n) 0)
take-shorter (x ∷ s) zero = rw (zero-min (suc (length s)))
take-shorter (x ∷ s) (suc n) = rw (suc-min-suc n (length s)) (ap (λ (l : List ℕ). x ∷ l) (take-shorter s n))

pub ruleset taken = (take-shorter)

pub ruleset within = (behind-within)

-- What a look-up says of all that goes by it.
abbrev pub by_found : {A : Type 0} → (Result RecordAt Absent) → (ℕ → ℕ → ℕ → A) → A → A → A
by_found (Ok r) k m x = k r.kind r.start r.end
by_found (Err absent.Missing) k m x = m
by_found (Err absent.CrossModule) k m x = x

module _ (s : List ℕ) (t : Stream) (from : Cursor) (i : ℕ) {r : (Result RecordAt Absent)} (e : r ≡ look_from s t from i stands (Err absent.Missing) (Err absent.CrossModule)) where
  pub look-by : {v : (Result RecordAt Absent)} → r ≡ v → {A : Type 0} (k : ℕ → ℕ → ℕ → A) (m x : A) → look_from s t from i k m x ≡ by_found v k m x
  look-by h k m x = sym (map-look (λ (r : (Result RecordAt Absent)). by_found r k m x) s t from i stands (Err absent.Missing) (Err absent.CrossModule)) ∙ ap (λ (r : (Result RecordAt Absent)). by_found r k m x) (sym e ∙ h)

-- What the record at a place says of all that goes by it, and where its fields lie.
module _ (s : List ℕ) (at : ℕ) {r : (Result RecordAt Absent)} (e : r ≡ record_at s at stands (Err absent.Missing)) where
  pub record-by : {v : (Result RecordAt Absent)} → r ≡ v → {A : Type 0} (k : ℕ → ℕ → ℕ → A) (m : A) → record_at s at k m ≡ by_found v k m m
  record-by h k m = sym (map-record (λ (r : (Result RecordAt Absent)). by_found r k m m) s at stands (Err absent.Missing)) ∙ ap (λ (r : (Result RecordAt Absent)). by_found r k m m) (sym e ∙ h)

  pub record-within : (kind start end : ℕ) → r ≡ stands kind start end → (start ≤ end) × (end ≤ length s)
  record-within kind start end h =
      IfOk-at_ok Inside (sym e ∙ h)
      (record_at-all (λ (r : Result RecordAt Absent). IfOk r Inside) s at stands (Err absent.Missing) (λ kd a b i j. (i, j)) tt)
    where
      Inside : RecordAt → Type 0
      Inside r = (r.start ≤ r.end) × (r.end ≤ length s)

-- A part inside a stream ends where it was asked to.
pub part_end : (s : List ℕ) (start end : ℕ) → (start ≤ end) × (end ≤ length s) → start + length (take (end - start) (drop start s)) ≡ end
part_end s start end h =
    let i = h.0 in
    let j = h.1 in
    omega (arith, length-take (end - start) (drop start s), length-drop start s)
