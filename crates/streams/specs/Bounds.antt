-- What the checks of a call's two streams found, as numbers in a list: so it is lent to the writers beside the places, and kept by a caller for later calls. Of
-- each stream there are nine, the types' before the ids'; then follow how many places of the ids there are, and these. The types' places are a list by
-- themselves, so that a caller may lend them. Any list of numbers says something.
use Rattle.std.specs.Prelude.{ℕ, ◌+◌, min, List, [], ◌∷◌, drop, get_or, eqb, Result, Ok, Err}
use Rattle.wire.specs.Field.{pick}
use Rattle.streams.specs.Refusal.{number_of}
use Rattle.streams.specs.Stream.{none}
use Rattle.streams.specs.declared.refusal.StreamKind.{StreamKind}
use Rattle.streams.specs.declared.refusal.StreamKind.TheVariants as stream
use Rattle.streams.specs.declared.refusal.Refusal.TheVariants.{Header, Tiling}
use Rattle.streams.specs.declared.stream.Stream.{Stream}
use Rattle.streams.specs.declared.places.Spacing.{Spacing}
use Rattle.streams.specs.declared.places.NotedCheck.{NotedCheck}
use Rattle.streams.specs.declared.refusal.Refusal.{Refusal}

-- Where the numbers of a stream start.
unfoldable pub start_of : StreamKind → ℕ
start_of stream.Types = 0
start_of stream.Ids = 9

-- The bounds of a stream, and how its places are laid out.
unfoldable pub stream_in : List ℕ → StreamKind → Stream
stream_in ns which =
    record {
      first = get_or ns (start_of which + 1) 0;
      end = get_or ns (start_of which + 2) 0;
      stop = get_or ns (start_of which + 3) 0;
    }

unfoldable pub spacing_in : List ℕ → StreamKind → Spacing
spacing_in ns which =
    record {
      stride = get_or ns (start_of which + 4) 0;
      room = get_or ns (start_of which + 5) 0;
      second = get_or ns (start_of which + 6) 0;
      third = get_or ns (start_of which + 7) 0;
      fourth = get_or ns (start_of which + 8) 0;
    }

-- The check of a stream: 1 says that it is good, 4 that its records do not tile, anything else that it has no header.
unfoldable pub check_in : List ℕ → StreamKind → Result Stream Refusal
check_in ns which =
    pick (eqb (get_or ns (start_of which) 0) 1) (Ok (stream_in ns which))
    (pick (eqb (get_or ns (start_of which) 0) 4) (Err (Tiling which)) (Err (Header which)))

-- The places of a stream.
unfoldable pub places_in : List ℕ → List ℕ → StreamKind → List ℕ
places_in ns ps stream.Types = ps
places_in ns ps stream.Ids = drop 19 ns

-- What is noted of a check: its answer, then the bounds and the spacing.
unfoldable pub state_of : Result Stream Refusal → ℕ
state_of (Ok t) = 1
state_of (Err f) = number_of f

-- What is noted of a stream that was refused is none.
unfoldable pub stream_of : Result Stream Refusal → Stream
stream_of (Ok t) = t
stream_of (Err f) = none

abbrev numbers_before : ℕ → Stream → Spacing → List ℕ → List ℕ
numbers_before state t l rest =
    state ∷ t.first ∷ t.end ∷ min t.stop 0xffff_ffff ∷ l.stride ∷ l.room ∷ l.second ∷ l.third ∷ l.fourth ∷ rest

unfoldable pub numbers_of : NotedCheck → List ℕ
numbers_of c = numbers_before (state_of c.check) (stream_of c.check) c.spacing []

unfoldable pub bounds_of : NotedCheck → NotedCheck → ℕ → List ℕ
bounds_of a b count =
    numbers_before (state_of a.check) (stream_of a.check) a.spacing
    (numbers_before (state_of b.check) (stream_of b.check) b.spacing (count ∷ []))
