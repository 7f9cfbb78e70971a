-- Many texts in one call: the texts one after another in the buffer, and for each index what its call tells and where its text lies.
use Rattle.std.specs.Prelude.{ℕ, zero, suc, ◌+◌, ◌-◌, ◌/◌, ◌≤◌, ◌<◌, Bool, ◌&&◌, List, [], ◌∷◌, ◌++◌, ◌≡◌, eqb, ltb, length, take, drop, replicate}
use Rattle.wire.specs.Field.{pick}
use Rattle.streams.specs.declared.refusal.StreamKind.{StreamKind}
use Rattle.streams.specs.declared.refusal.StreamKind.TheVariants.{Types, Ids}
use Rattle.rules.specs.Places.{Near}
use Rattle.rules.specs.Call.{Outcome, id_outcome, type_outcome, Report, of_text}
use Rattle.checked_calls.specs.Answers.{text_of}
use Rattle.checked_calls.specs.Checks.{id_over, type_over}

-- What is told of an index: the refusal's number or 0, its detail or 0, where the text starts in the buffer, and how long it is.
abbrev pub entry : ℕ → Report → List ℕ
entry at t = t.number ∷ t.detail ∷ at ∷ t.value ∷ []

-- The texts, one after another; the four numbers of each index that is done; and how many are done.
pub record Batch : Type 0 where
  pub texts : List ℕ
  pub answers : List ℕ
  pub done : ℕ

abbrev pub none : Batch
none = record { texts = []; answers = []; done = 0 }

abbrev pub ahead : ℕ → Outcome → Batch → Batch
ahead at o b = record { texts = text_of o ++ b.texts; answers = entry at (of_text o) ++ b.answers; done = suc b.done }

-- A batch is left off before an index for which there is too little room behind the texts ("15: next byte does not fit"). With no text before it an index has
-- the whole buffer, so it is done: then 15 is its answer.
unfoldable pub leaves_off : ℕ → Report → Bool
leaves_off at t = ltb 0 at && eqb t.number 15

-- A call by its index and the length of its buffer.
module _ (call : ℕ → ℕ → Outcome) (room : ℕ) where
  -- The answers of indexes, at most n of them, with `at` bytes of texts before. Each is that of the call with the whole buffer.
  unfoldable pub batch_from : ℕ → ℕ → List ℕ → Batch
  batch_from zero at is = none
  batch_from (suc n) at [] = none
  batch_from (suc n) at (i ∷ is) =
      pick (leaves_off at (of_text (call i (room - at)))) none (ahead at (call i room) (batch_from n (at + (of_text (call i room)).value) is))

-- A batch in a buffer of so many bytes, with so many numbers for answers.
abbrev pub batch_of : (ℕ → ℕ → Outcome) → ℕ → ℕ → List ℕ → Batch
batch_of call room numbers is = batch_from call room (numbers / 4) 0 is

-- What is left: the texts and then zeros; the answers, behind which the numbers are as they were; and how many are done.
pub record Batched : Type 0 where
  pub buf : List ℕ
  pub answers : List ℕ
  pub done : ℕ

abbrev pub batched : List ℕ → List ℕ → ℕ → Batched
batched buf answers done = record { buf = buf; answers = answers; done = done }

unfoldable pub laid_batch : List ℕ → List ℕ → Batch → Batched
laid_batch out answers b =
    batched (b.texts ++ replicate (length out - length b.texts) 0) (b.answers ++ drop (length b.answers) answers) b.done

-- A caller that asks again for the rest comes to the end: where there is an index and there are four numbers for it, one is done at least.
pub record GoesOn (numbers : ℕ) (is : List ℕ) (b : Batch) : Type 0 where
  pub most : b.done ≤ length is
  pub some : 0 < length is → 4 ≤ numbers → 0 < b.done

-- The texts of types or of ids: over what was kept of a check, whatever that is; and by the rules.
unfoldable pub texts_over : StreamKind → List ℕ → List ℕ → Near → ℕ → ℕ → ℕ → ℕ → Outcome
texts_over Types types ids v flags size i room = type_over types v flags size i room
texts_over Ids types ids v flags size i room = id_over types ids v flags size i room

-- The batches of types and of ids by the rules, and over what was kept.
abbrev pub type_batch : ℕ → ℕ → List ℕ → ℕ → ℕ → List ℕ → Batch
type_batch flags size types = batch_of (λ i room. type_outcome flags size types i room)

abbrev pub id_batch : ℕ → ℕ → List ℕ → List ℕ → ℕ → ℕ → List ℕ → Batch
id_batch flags size types ids = batch_of (λ i room. id_outcome flags size types ids i room)

abbrev pub batch_over : StreamKind → List ℕ → List ℕ → Near → ℕ → ℕ → ℕ → ℕ → List ℕ → Batch
batch_over which types ids v flags size = batch_of (texts_over which types ids v flags size)

-- The texts of a batch at the start of a buffer, before the rest is filled with zeros.
pub record Laying (out₀ answers₀ : List ℕ) (b : Batch) (out answers : List ℕ) (bytes : ℕ) (done : ℕ) : Type 0 where
  pub long : length out ≡ length out₀
  pub room : bytes ≤ length out₀
  pub texts : take bytes out ≡ b.texts
  pub told : answers ≡ b.answers ++ drop (length b.answers) answers₀
  pub count : done ≡ b.done
