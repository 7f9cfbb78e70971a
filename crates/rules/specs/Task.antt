-- The tasks, and what all writing rules share: rules as programs, marks, what follows from a reading (document 01, "Writing rules", first item).
use Rattle.std.specs.Prelude.{ℕ, Bool, true, List, [], ◌∷◌, eqb}
use Prim.Native.String.{String}
use Rattle.wire.specs.Field.{pick}
use Rattle.wire.specs.Text.{bytes}
use Rattle.streams.specs.Refusal.{number_of, detail_of}
use Rattle.streams.specs.declared.refusal.Refusal.{Refusal}
use Rattle.interpreter.specs.Trace.{Prog, write, miss, refuse, call, seq, catch}
use Rattle.rules.specs.Record.{Method, Read, good, bad}
use Rattle.rules.specs.Text.{missing_mark, unimplemented_mark, Level}

-- What is taken up, one index each: a type by itself; a function's type, with the name; a pointer's target under the levels so far; the target of a
-- pointer's modifier; any other modifier's target, with its const; a method's argument list, and whether const may close it; an array's element, under
-- the bytes of the levels so far; a size step, after so many records; an id; the function type of a function id and of a member id.
pub data Task : Type 0 where
  by_itself : ℕ → Task
  function_of : ℕ → List ℕ → Task
  target : ℕ → List Level → Task
  target_of_modifier : ℕ → List Level → Task
  modified : ℕ → Bool → Task
  list_of : Method → Bool → Task
  element : ℕ → List ℕ → Task
  size_of : ℕ → ℕ → Task
  id_of : ℕ → Task
  function_id : ℕ → ℕ → List ℕ → Task
  member_id : ℕ → ℕ → List ℕ → Task

abbrev pub Rule : Type 0
Rule = Prog Refusal Task

infixr 10 ◌>>◌
abbrev pub ◌>>◌ : Rule → Rule → Rule
p >> q = seq p q

abbrev pub say : String → Rule
say text = write (bytes text)

-- Nothing, or a rule.
abbrev pub unless : Bool → Rule → Rule
unless b p = pick b (write []) p

-- A type's text is its own: "a missing record ends that type's text where it is and appends the missing mark" (`emit_type`).
abbrev pub texted : Rule → Rule
texted p = catch p (λ i. write (missing_mark i))

-- What could not be read inside a type: a missing record ends the text, "an unlisted kind there is refusal 7".
unfoldable pub unread : Refusal → Rule
unread f = pick (eqb (number_of f) 8) (miss (detail_of f)) (refuse f)

-- What could not be read by itself: its mark.
unfoldable pub marked : Refusal → Rule
marked f =
    pick (eqb (number_of f) 8) (write (missing_mark (detail_of f)))
    (pick (eqb (number_of f) 7) (write (unimplemented_mark (detail_of f)))
    (refuse f))

-- What follows from a reading inside a type.
abbrev pub inside : {A : Type 0} → Read A → (A → Rule) → Rule
inside (good a) f = f a
inside (bad r) f = unread r

-- A size that is asked for is written as one number.
abbrev pub value : ℕ → Rule
value n = write (n ∷ [])

unfoldable pub value_of : List ℕ → ℕ
value_of [] = 0
value_of (n ∷ ns) = n

-- Indexes by themselves, a text between every two of them, and before the first too where something stands there.
unfoldable pub separated : List ℕ → Bool → List ℕ → Rule
separated sep between [] = write []
separated sep between (a ∷ al) = write (pick between sep []) >> call (by_itself a) >> separated sep true al
