-- Laws of batches: a call with less room answers the same or that there is none; one text behind the others; what is left at the end. Assumes nothing.
use Rattle.std.specs.Prelude.{Result, Ok, Err}
use Prim.Native.Nat.{ℕ, zero, suc, ◌+◌, ◌-◌, ◌*◌, ◌/◌, ◌≤◌, ◌<◌, min}
use mathlib.Core.Path.{◌≡◌, refl, ap, sym, ◌∙◌}
use mathlib.Core.Bool.{Bool, true, false, ◌&&◌}
use mathlib.Core.List.{List, [], ◌∷◌, ◌++◌, append_assoc, append-nil}
use lib.Dec.{leb, ltb, eqb}
use lib.ListN.{length, take, drop, get_or, set, replicate, length-append, length-drop, length-take, drop_of_length-le}
use lib.Seq.{drop-cons, drop-drop, take_all, take_at, drop_at, take-append-le, take-append-add, length-take-le}
use native.Mathlib.Nat.{sub-zero, zero-add}
use native.Mathlib.Omega.{arith}
use native.Mathlib.Decide.{dec_lt, dec_le}
use borrow.Author.Tests.{lt-ltb, lt-leb, le-leb}
use Rattle.wire.specs.Field.{pick}
use Rattle.streams.specs.Refusal.{number_of, detail_of}
use Rattle.streams.specs.declared.refusal.Refusal.{Refusal}
use Rattle.streams.specs.declared.refusal.Refusal.TheVariants.{NoRoom}
use Rattle.streams.specs.declared.refusal.StreamKind.{StreamKind}
use Rattle.streams.specs.declared.refusal.StreamKind.TheVariants.{Types, Ids}
use Rattle.interpreter.specs.Trace.{Trace, tr}
use Rattle.rules.specs.Places.{Near}
use Rattle.rules.specs.Call.{Outcome, text, stopped, answer, within, id_outcome, type_outcome, Report, of_text}
use Rattle.checked_calls.specs.Answers.{of_answer, settled, laid, text_of}
use Rattle.checked_calls.specs.Checks.{id_over, type_over}
use Rattle.checked_calls.specs.Kept.{KeptOf, Kept}
use Rattle.checked_calls.proofs.AnswerLaws.{settled-told, settled-text}
use Rattle.checked_calls.proofs.CallsLaws.{id-over, type-over}
use Rattle.batch.specs.Batch.{entry, Batch, none, ahead, leaves_off, batch_from, batch_of, batched, laid_batch, GoesOn, texts_over, type_batch, id_batch, batch_over, Laying}

-- With less room a call answers what it answers with more, or that there is none.
abbrev pub Grows : (ℕ → ℕ → Outcome) → Type 0
Grows call = (i a b : ℕ) → a ≤ b → eqb (of_text (call i a)).number 15 ≡ false → call i a ≡ call i b

within-grows : (t : Trace Refusal) (a b : ℕ) → a ≤ b → eqb (of_text (within a t)).number 15 ≡ false → within a t ≡ within b t
unfolding within of_text
within-grows (tr bs e ns c) a b h f = by (dec_le (length bs) a) f
  where
    by : Dec (length bs ≤ a) → eqb (of_text (pick (leb (length bs) a) (answer bs c.opened e) (stopped NoRoom))).number 15 ≡ false
        → pick (leb (length bs) a) (answer bs c.opened e) (stopped NoRoom) ≡ pick (leb (length bs) b) (answer bs c.opened e) (stopped NoRoom)
    by (yes l) f = rw (le-leb (length bs) a l, le-leb (length bs) b (omega arith)) refl
    by (no l) f =
        let k : leb (length bs) a ≡ false = lt-leb (length bs) a (omega arith) in
        let g : true ≡ false = ap (λ x. eqb (of_text (pick x (answer bs c.opened e) (stopped NoRoom))).number 15) (sym k) ∙ f in
        absurd (let z : ◌≡◌ {A = ℕ} 0 1 = cc in omega arith)

pub texts-grow : (which : StreamKind) (types ids : List ℕ) (v : Near) (flags size : ℕ) → Grows (texts_over which types ids v flags size)
unfolding texts_over type_over id_over
texts-grow Types types ids v flags size i a b h f = within-grows _ a b h f
texts-grow Ids types ids v flags size i a b h f = within-grows _ a b h f

-- The ends of `leaves_off`.
pub stays-text : (at : ℕ) {a : (Result ℕ Refusal)} {n : ℕ} → a ≡ Ok n → false ≡ leaves_off at (of_answer a)
unfolding leaves_off of_answer
stays-text at e = rw e (by (ltb 0 at))
  where
    by : (x : Bool) → false ≡ x && false
    by true = refl
    by false = refl

pub stays-first : (t : Report) {at : ℕ} → at ≡ 0 → false ≡ leaves_off at t
unfolding leaves_off
stays-first t e = rw e refl

pub leaves_by : (at : ℕ) {a : (Result ℕ Refusal)} {f : Refusal} {n : ℕ} → a ≡ Err f → 0 < at → n ≡ number_of f → eqb n 15 ≡ leaves_off at (of_answer a)
unfolding leaves_off of_answer
leaves_by at e h g = rw (e, lt-ltb 0 at h, g) refl

-- The ends of `text_of`.
module _ (types ids : List ℕ) (v : Near) (flags size i room : ℕ) (buf : List ℕ) {which : StreamKind} where
  pub by-types : which ≡ Types → laid buf (type_over types v flags size i room) ≡ laid buf (texts_over which types ids v flags size i room)
  unfolding texts_over
  by-types e = rw e refl

  pub by-ids : which ≡ Ids → laid buf (id_over types ids v flags size i room) ≡ laid buf (texts_over which types ids v flags size i room)
  unfolding texts_over
  by-ids e = rw e refl

-- Four numbers, and those of an answer.
pub four-set : (to : List ℕ) (a b c d : ℕ) → length to ≡ 4 → set (set (set (set to 0 a) 1 b) 2 c) 3 d ≡ a ∷ b ∷ c ∷ d ∷ []
four-set [] a b c d e = absurd (omega arith)
four-set (w ∷ []) a b c d e = absurd (omega arith)
four-set (w ∷ x ∷ []) a b c d e = absurd (omega arith)
four-set (w ∷ x ∷ y ∷ []) a b c d e = absurd (omega arith)
four-set (w ∷ x ∷ y ∷ z ∷ []) a b c d e = refl
four-set (w ∷ x ∷ y ∷ z ∷ u ∷ us) a b c d e = absurd (omega arith)

module _ (at : ℕ) {a : (Result ℕ Refusal)} {to : List ℕ} where
  pub noted-text : {n : ℕ} → a ≡ Ok n → to ≡ 0 ∷ 0 ∷ at ∷ n ∷ [] → (n ≡ (of_answer a).value) × (to ≡ entry at (of_answer a))
  unfolding of_answer
  noted-text e t = rw e (refl, t)

  pub noted-refused : {f : Refusal} {n d : ℕ} → a ≡ Err f → n ≡ number_of f → d ≡ detail_of f → to ≡ n ∷ d ∷ at ∷ 0 ∷ [] → (0 ≡ (of_answer a).value) × (to ≡ entry at (of_answer a))
  unfolding of_answer
  noted-refused e n d t = rw (e, ← n, ← d) (refl, t)

-- What was laid before, and the rest.
abbrev joined : List ℕ → List ℕ → ℕ → Batch → Batch
joined ts es n b = record { texts = ts ++ b.texts; answers = es ++ b.answers; done = n + b.done }

joined-none : (ts es : List ℕ) (n : ℕ) → joined ts es n none ≡ record { texts = ts; answers = es; done = n }
joined-none ts es n = let z : n + 0 ≡ n = omega arith in rw (append-nil ts, append-nil es, z) refl

joined-ahead : (ts es : List ℕ) (n at : ℕ) (o : Outcome) (b : Batch) → joined ts es n (ahead at o b) ≡ joined (ts ++ text_of o) (es ++ entry at (of_text o)) (n + 1) b
joined-ahead ts es n at o b =
    let z : n + suc b.done ≡ n + 1 + b.done = omega arith in
    rw (sym (append_assoc ts (text_of o) b.texts), sym (append_assoc es (entry at (of_text o)) b.answers), z) refl

from_zero : (call : ℕ → ℕ → Outcome) (room at : ℕ) (is : List ℕ) → batch_from call room 0 at is ≡ none
unfolding batch_from
from_zero call room at is = refl

from-nil : (call : ℕ → ℕ → Outcome) (room n at : ℕ) → batch_from call room n at [] ≡ none
unfolding batch_from
from-nil call room zero at = refl
from-nil call room (suc n) at = refl

-- An index that is not left off is answered as with the whole buffer.
same_answer : (call : ℕ → ℕ → Outcome) → Grows call → (i room at : ℕ) → leaves_off at (of_text (call i (room - at))) ≡ false → call i (room - at) ≡ call i room
unfolding leaves_off
same_answer call grows i room at e = by (dec_lt 0 at)
  where
    by : Dec (0 < at) → call i (room - at) ≡ call i room
    by (yes h) = grows i (room - at) room (omega arith) (ap (λ x. x && eqb (of_text (call i (room - at))).number 15) (sym (lt-ltb 0 at h)) ∙ e)
    by (no h) = let z : room - at ≡ room = omega arith in ap (call i) z

-- The text of a call is inside its buffer.
text-length : (o : Outcome) → length (text_of o) ≡ (of_text o).value
unfolding text_of of_text
text-length (text bs n) = refl
text-length (stopped f) = refl

value_room : (part buf : List ℕ) (o : Outcome) (a : (Result ℕ Refusal)) → settled part a ≡ laid buf o → (of_answer a).value ≤ length part
value_room part buf o a s = by (dec_le (of_answer a).value (length part))
  where
    by : Dec ((of_answer a).value ≤ length part) → (of_answer a).value ≤ length part
    by (yes h) = h
    by (no h) =
        let t : (of_answer a).value ≡ length (text_of o) = ap (λ (r : Report). r.value) (settled-told part buf o a s) ∙ sym (text-length o) in
        let l : length (text_of o) ≡ length part = ap length (sym (settled-text part buf o a s) ∙ take_all (of_answer a).value part (omega arith)) in
        omega arith

-- Four numbers more.
told_more : (es answers₀ answers new told : List ℕ) (done : ℕ) → length es ≡ 4 * done → answers ≡ es ++ drop (4 * done) answers₀ → told ≡ new → length new ≡ 4
    → take (4 * done) answers ++ (told ++ drop 4 (drop (4 * done) answers)) ≡ (es ++ new) ++ drop (4 * (done + 1)) answers₀
told_more es answers₀ answers new told done m e t n =
    let f : take (4 * done) answers ≡ es = ap (take (4 * done)) e ∙ take_at es (drop (4 * done) answers₀) (4 * done) m in
    let d : drop (4 * done) answers ≡ drop (4 * done) answers₀ = ap (drop (4 * done)) e ∙ drop_at es (drop (4 * done) answers₀) (4 * done) m in
    let k : 4 * done + 4 ≡ 4 * (done + 1) = omega arith in
    let r : drop 4 (drop (4 * done) answers) ≡ drop (4 * (done + 1)) answers₀ = ap (drop 4) d ∙ drop-drop 4 (4 * done) answers₀ ∙ ap (λ j. drop j answers₀) k in
    rw (f, r, t) (sym (append_assoc es new (drop (4 * (done + 1)) answers₀)))

-- The loop: what is laid so far, with the batch of the indexes behind, is the whole batch.
pub record Going (call : ℕ → ℕ → Outcome) (out₀ answers₀ is out answers : List ℕ) (done bytes : ℕ) : Type 0 where
  pub ts : List ℕ
  pub es : List ℕ
  pub all : batch_of call (length out₀) (length answers₀) is ≡ joined ts es done (batch_from call (length out₀) (length answers₀ / 4 - done) bytes (drop done is))
  pub long : length out ≡ length out₀
  pub room : bytes ≤ length out₀
  pub texts : take bytes out ≡ ts
  pub told : answers ≡ es ++ drop (4 * done) answers₀
  pub many : length es ≡ 4 * done
  pub fits : 4 * done ≤ length answers₀

module _ (call : ℕ → ℕ → Outcome) (out₀ answers₀ is : List ℕ) where
  pub going-first : Going call out₀ answers₀ is out₀ answers₀ 0 0
  going-first = record { ts = []; es = []; all = rw (sub-zero, zero-add) refl; long = refl; room = omega arith; texts = refl; told = refl; many = refl; fits = omega arith }

  module _ {out answers : List ℕ} {done bytes : ℕ} (g : Going call out₀ answers₀ is out answers done bytes) where
    pub answers-length : length answers ≡ length answers₀
    answers-length =
        let l = length-append g.es (drop (4 * done) answers₀) in
        let d = length-drop (4 * done) answers₀ in
        let m = g.many in
        let f = g.fits in
        ap length g.told ∙ (let z : length (g.es ++ drop (4 * done) answers₀) ≡ length answers₀ = omega arith in z)

    -- at the end nothing is behind
    stop : batch_from call (length out₀) (length answers₀ / 4 - done) bytes (drop done is) ≡ none → (out₁ : List ℕ) → length out₁ ≡ length out₀ → take bytes out₁ ≡ take bytes out
        → Laying out₀ answers₀ (batch_of call (length out₀) (length answers₀) is) out₁ answers bytes done
    stop e out₁ n t =
        let b : batch_of call (length out₀) (length answers₀) is ≡ record { texts = g.ts; answers = g.es; done = done } = g.all ∙ ap (joined g.ts g.es done) e ∙ joined-none g.ts g.es done in
        record {
          long = n;
          room = g.room;
          texts = rw b (t ∙ g.texts);
          told = rw (b, g.many) g.told;
          count = rw b refl;
        }

    pub going-over : {n : ℕ} → n ≡ min (length is) (length answers₀ / 4) → n ≤ done → Laying out₀ answers₀ (batch_of call (length out₀) (length answers₀) is) out answers bytes done
    going-over {n} e h = stop (by (dec_le (length is) done)) out g.long refl
      where
        by : Dec (length is ≤ done) → batch_from call (length out₀) (length answers₀ / 4 - done) bytes (drop done is) ≡ none
        by (yes l) = rw (drop_of_length-le is l) (from-nil call (length out₀) (length answers₀ / 4 - done) bytes)
        by (no l) = let z : length answers₀ / 4 - done ≡ 0 = omega arith in rw z (from_zero call (length out₀) bytes (drop done is))

    -- the next index, and what its call left in the rest of the buffer
    module _ {n : ℕ} (e : n ≡ min (length is) (length answers₀ / 4)) (h : done < n) (part : List ℕ) (a : (Result ℕ Refusal))
        (s : settled part a ≡ laid (take (length out - bytes) (drop bytes out)) (call (get_or is done 0) (length (take (length out - bytes) (drop bytes out)))))
        (p : length part ≡ length (take (length out - bytes) (drop bytes out))) where
      here : Outcome
      here = call (get_or is done 0) (length out₀ - bytes)

      room-is : length (take (length out - bytes) (drop bytes out)) ≡ length out₀ - bytes
      room-is = let l = g.long in let k = length-take (length out - bytes) (drop bytes out) in let j = length-drop bytes out in omega arith

      lain : settled part a ≡ laid (take (length out - bytes) (drop bytes out)) here
      unfolding here
      lain = s ∙ ap (λ r. laid (take (length out - bytes) (drop bytes out)) (call (get_or is done 0) r)) room-is

      told_here : of_answer a ≡ of_text here
      told_here = settled-told part (take (length out - bytes) (drop bytes out)) here a lain

      next : batch_from call (length out₀) (length answers₀ / 4 - done) bytes (drop done is)
          ≡ pick (leaves_off bytes (of_answer a)) none
          (ahead bytes (call (get_or is done 0) (length out₀)) (batch_from call (length out₀) (length answers₀ / 4 - (done + 1)) (bytes + (of_text (call (get_or is done 0) (length out₀))).value) (drop (done + 1) is)))
      unfolding batch_from here
      next =
          let m : length answers₀ / 4 - done ≡ suc (length answers₀ / 4 - (done + 1)) = omega arith in
          let d : drop done is ≡ get_or is done 0 ∷ drop (done + 1) is = drop-cons is done 0 (omega arith) ∙ ap (λ k. get_or is done 0 ∷ drop k is) (let z : suc done ≡ done + 1 = omega arith in z) in
          rw (m, d, told_here) refl

      -- the buffer with it
      abbrev after : List ℕ
      after = take bytes out ++ (part ++ drop (length out - bytes) (drop bytes out))

      front : length (take bytes out) ≡ bytes
      front = length-take-le bytes out (let l = g.long in let r = g.room in omega arith)

      pub after-length : length after ≡ length out₀
      after-length =
          let l = g.long in let r = g.room in let f = front in
          let i = length-append (take bytes out) (part ++ drop (length out - bytes) (drop bytes out)) in
          let j = length-append part (drop (length out - bytes) (drop bytes out)) in
          let k = length-drop (length out - bytes) (drop bytes out) in
          let m = length-drop bytes out in
          let q = room-is in
          omega (arith, p)

      after-texts : take bytes after ≡ take bytes out
      after-texts = take_at (take bytes out) (part ++ drop (length out - bytes) (drop bytes out)) bytes front

      pub going-full : leaves_off bytes (of_answer a) ≡ true → Laying out₀ answers₀ (batch_of call (length out₀) (length answers₀) is) after answers bytes done
      going-full f = stop (next ∙ ap (λ x. pick x none (ahead bytes (call (get_or is done 0) (length out₀)) (batch_from call (length out₀) (length answers₀ / 4 - (done + 1)) (bytes + (of_text (call (get_or is done 0) (length out₀))).value) (drop (done + 1) is)))) f) after after-length after-texts

      -- it is answered: as with the whole buffer
      module _ (grows : Grows call) (f : leaves_off bytes (of_answer a) ≡ false) where
        same : here ≡ call (get_or is done 0) (length out₀)
        unfolding here
        same = same_answer call grows (get_or is done 0) (length out₀) bytes (ap (leaves_off bytes) (sym told_here) ∙ f)

        value : (of_answer a).value ≤ length part
        value = value_room part (take (length out - bytes) (drop bytes out)) here a lain

        pub value-fits : bytes + (of_answer a).value ≤ length out₀
        value-fits = let v = value in let q = room-is in let r = g.room in omega (arith, p)

        gone-on : (told : List ℕ) → told ≡ entry bytes (of_answer a)
            → Going call out₀ answers₀ is after (take (4 * done) answers ++ (told ++ drop 4 (drop (4 * done) answers))) (done + 1) (bytes + (of_answer a).value)
        gone-on told t =
            let o = call (get_or is done 0) (length out₀) in
            let w : of_answer a ≡ of_text o = told_here ∙ ap of_text same in
            let v = value in
            let c : take (bytes + (of_answer a).value) after ≡ take bytes out ++ text_of o =
            ap (λ n. take (n + (of_answer a).value) after) (sym front)
            ∙ take-append-add (take bytes out) (part ++ drop (length out - bytes) (drop bytes out)) (of_answer a).value
            ∙ ap (λ (l : List ℕ). take bytes out ++ l) (take-append-le (of_answer a).value part (drop (length out - bytes) (drop bytes out)) v ∙ settled-text part (take (length out - bytes) (drop bytes out)) here a lain ∙ ap text_of same) in
            record {
              ts = g.ts ++ text_of o;
              es = g.es ++ entry bytes (of_text o);
              all = g.all ∙ ap (joined g.ts g.es done) (next ∙ (rw (f, w) refl)) ∙ joined-ahead g.ts g.es done bytes o _;
              long = after-length;
              room = value-fits;
              texts = c ∙ ap (λ (l : List ℕ). l ++ text_of o) g.texts;
              told = told_more g.es answers₀ answers (entry bytes (of_text o)) told done g.many g.told (t ∙ ap (entry bytes) w) refl;
              many = let l = length-append g.es (entry bytes (of_text o)) in let m = g.many in omega arith;
              fits = let z : done + 1 ≤ length answers₀ / 4 = omega arith in omega arith;
            }

        pub going_on : (told : List ℕ) (k v : ℕ) → told ≡ entry bytes (of_answer a) → k ≡ 4 → v ≡ (of_answer a).value
            → Going call out₀ answers₀ is after (take (4 * done) answers ++ (told ++ drop k (drop (4 * done) answers))) (done + 1) (bytes + v)
        going_on told k v₀ t e₀ q = rw (e₀, q) (gone-on told t)

-- The texts, then zeros.
pub laid-rest : {out₀ answers₀ out answers rest : List ℕ} {b : Batch} {bytes done : ℕ} → Laying out₀ answers₀ b out answers bytes done
    → rest ≡ replicate (length (take (length out - bytes) (drop bytes out))) 0
    → batched (take bytes out ++ (rest ++ drop (length out - bytes) (drop bytes out))) answers done ≡ laid_batch out₀ answers₀ b
unfolding laid_batch
laid-rest {out₀} {answers₀} {out} {answers} {rest} {b} {bytes} {done} l e =
    let n = l.long in
    let r = l.room in
    let t : length b.texts ≡ bytes = ap length (sym l.texts) ∙ length-take-le bytes out (omega arith) in
    let k = length-take (length out - bytes) (drop bytes out) in
    let j = length-drop bytes out in
    let m : length (take (length out - bytes) (drop bytes out)) ≡ length out₀ - length b.texts = omega arith in
    let h : length (drop bytes out) ≤ length out - bytes = omega arith in
    let z : drop (length out - bytes) (drop bytes out) ≡ [] = drop_of_length-le (drop bytes out) h in
    rw (l.texts, e, m, z, append-nil, ← l.told, l.count) refl

-- One at least is done where there is one, and no more than there are.
goes_on : (call : ℕ → ℕ → Outcome) (room n at : ℕ) (is : List ℕ) → (batch_from call room n at is).done ≤ length is
unfolding batch_from
goes_on call room zero at is = omega arith
goes_on call room (suc n) at [] = omega arith
goes_on call room (suc n) at (i ∷ is) = by (leaves_off at (of_text (call i (room - at)))) (goes_on call room n (at + (of_text (call i room)).value) is)
  where
    by : (x : Bool) → (batch_from call room n (at + (of_text (call i room)).value) is).done ≤ length is
        → (pick x none (ahead at (call i room) (batch_from call room n (at + (of_text (call i room)).value) is))).done ≤ length (i ∷ is)
    by true h = omega arith
    by false h = omega arith

first_done : (call : ℕ → ℕ → Outcome) (room n : ℕ) (is : List ℕ) → 0 < length is → 0 < n → 0 < (batch_from call room n 0 is).done
unfolding batch_from leaves_off
first_done call room zero is h k = absurd (omega arith)
first_done call room (suc n) [] h k = absurd (omega arith)
first_done call room (suc n) (i ∷ is) h k = omega arith

pub batch-goes-on : (call : ℕ → ℕ → Outcome) (room numbers : ℕ) (is : List ℕ) → GoesOn numbers is (batch_of call room numbers is)
batch-goes-on call room numbers is = record { most = goes_on call room (numbers / 4) 0 is; some = λ h k. first_done call room (numbers / 4) is h (omega arith) }

-- Batches of calls that answer alike are alike.
batch-as : (f g : ℕ → ℕ → Outcome) → ((i room : ℕ) → f i room ≡ g i room) → (room n at : ℕ) (is : List ℕ) → batch_from f room n at is ≡ batch_from g room n at is
unfolding batch_from
batch-as f g e room zero at is = refl
batch-as f g e room (suc n) at [] = refl
batch-as f g e room (suc n) at (i ∷ is) =
    rw (e i (room - at), e i room)
    (ap (λ (b : Batch). pick (leaves_off at (of_text (g i (room - at)))) none (ahead at (g i room) b)) (batch-as f g e room n (at + (of_text (g i room)).value) is))

-- Over what was kept of the checks of the same bytes they are those of the rules.
module _ (types ids : List ℕ) (v : Near) (flags size : ℕ) where
  types-kept : KeptOf Types types v → (i room : ℕ) → texts_over Types types ids v flags size i room ≡ type_outcome flags size types i room
  unfolding texts_over
  types-kept k i room = type-over types v k flags size i room

  ids-kept : Kept types ids v → (i room : ℕ) → texts_over Ids types ids v flags size i room ≡ id_outcome flags size types ids i room
  unfolding texts_over
  ids-kept k i room = id-over types v k.of_types ids k.of_ids flags size i room

  module _ (room numbers : ℕ) (is : List ℕ) where
    pub type-batch-kept : KeptOf Types types v → batch_over Types types ids v flags size room numbers is ≡ type_batch flags size types room numbers is
    type-batch-kept k = batch-as _ _ (types-kept k) room (numbers / 4) 0 is

    pub id-batch-kept : Kept types ids v → batch_over Ids types ids v flags size room numbers is ≡ id_batch flags size types ids room numbers is
    id-batch-kept k = batch-as _ _ (ids-kept k) room (numbers / 4) 0 is
