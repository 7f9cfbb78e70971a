-- A page is a lent buffer with the pen over it, and this is what a trace makes of a page.
use Rattle.std.specs.Prelude.{ℕ, zero, suc, ◌+◌, ◌/◌, ◌%◌, ◌≡◌, List, [], ◌∷◌, Bool, true, false, set, ltb, leb, eqb}
use Rattle.wire.specs.Field.{pick}
use Rattle.streams.specs.Refusal.{number_of, detail_of, refusal_of}
use Rattle.streams.specs.declared.refusal.Refusal.{Refusal}
use Rattle.streams.specs.declared.refusal.Refusal.TheVariants.{CircularTypeDefinition, TooManyOpen, ChainTooLong, NoRoom}
use Rattle.interpreter.specs.Trace.{again, deep, long, End, done, missing, refused, halted, unfinished, count, Trace, tr, then, caught}
use Rattle.pen.specs.declared.Pen.{Pen}
use Rattle.pen.specs.declared.Stop.{Stop}
use Rattle.pen.specs.declared.Stop.TheVariants.{No, Missing, Refused}

-- Why a pen has stopped, by its two numbers: 0, it has not; 255, which no refusal has, an index is missing; any other is a refusal's.
abbrev pub stop_in : ℕ → ℕ → Stop
stop_in n d = pick (eqb n 0) No (pick (eqb n 255) (Missing d) (Refused (refusal_of n d)))

-- A pen, read. Its tally is the last byte, and above it how many indexes were opened.
pub record PenRead : Type 0 where
  pub at : ℕ
  pub last : ℕ
  pub opened : ℕ
  pub limit : ℕ
  pub stop : Stop

abbrev pub read_pen : Pen → PenRead
read_pen p = record { at = p.at; last = p.tally % 256; opened = p.tally / 256; limit = p.limit; stop = stop_in p.stop p.detail }

pub record Page : Type 0 where
  pub buf : List ℕ
  pub pen : Pen

abbrev pub page : List ℕ → Pen → Page
page b p = record { buf = b; pen = p }

-- a page, read
pub record PageRead : Type 0 where
  pub buf : List ℕ
  pub pen : PenRead

abbrev pub under : List ℕ → PenRead → PageRead
under b p = record { buf = b; pen = p }

abbrev pub read_page : Page → PageRead
read_page g = under g.buf (read_pen g.pen)

-- a pen that was refused keeps nothing but its limit
abbrev pub ended : ℕ → Refusal → PenRead
ended limit f = record { at = 0; last = 0; opened = 0; limit = limit; stop = Refused f }

abbrev pub gone : ℕ → Refusal → Pen
gone limit f = record { at = 0; tally = 0; limit = limit; stop = number_of f; detail = detail_of f }

-- one byte at a place: where the limit is reached, refusal 15. (Past the end of the buffer `set` changes nothing.)
abbrev pub put_at : List ℕ → PenRead → ℕ → PageRead
put_at buf p b =
    pick (ltb p.at p.limit)
    (under (set buf p.at b) (record { at = p.at + 1; last = b; opened = p.opened; limit = p.limit; stop = No }))
    (under buf (ended p.limit NoRoom))

abbrev pub unless_stopped : {A : Type 0} → Stop → A → A → A
unless_stopped No g h = g
unless_stopped (Missing i) g h = h
unless_stopped (Refused f) g h = h

-- one byte more, unless the pen has stopped
unfoldable pub put : PageRead → ℕ → PageRead
put g b = unless_stopped g.pen.stop (put_at g.buf g.pen b) g

-- the bytes of a text
unfoldable pub ink : PageRead → List ℕ → PageRead
ink g [] = g
ink g (b ∷ bs) = ink (put g b) bs

-- One index more; the count stops at the most that a pen has room for.
abbrev pub most : ℕ
most = 0xff_ffff_ffff_ffff

abbrev pub next : ℕ → ℕ
next n = pick (ltb n most) (n + 1) n

-- An index opened, unless the pen has stopped; and as many as a trace opens.
unfoldable pub tick : PageRead → PageRead
tick g =
    under g.buf
    (unless_stopped g.pen.stop
    (record { at = g.pen.at; last = g.pen.last; opened = next g.pen.opened; limit = g.pen.limit; stop = No })
    g.pen)

unfoldable pub tallied : PageRead → ℕ → PageRead
tallied g zero = g
tallied g (suc n) = tallied (tick g) n

-- How a pen stops at each end: 12, 13 and 14 for what the walk was halted at.
unfoldable pub stop_of : End Refusal → Stop
stop_of done = No
stop_of (missing i) = Missing i
stop_of (refused f) = Refused f
stop_of (halted (again i)) = Refused (CircularTypeDefinition i)
stop_of (halted (deep i)) = Refused (TooManyOpen i)
stop_of (halted (long i)) = Refused (ChainTooLong i)
stop_of unfinished = Refused NoRoom

abbrev pub end_as : PenRead → Stop → PenRead
end_as p No = p
end_as p (Missing i) = record { at = p.at; last = p.last; opened = p.opened; limit = p.limit; stop = Missing i }
end_as p (Refused f) = ended p.limit f

-- a pen that has not stopped ends as e says
abbrev pub finish : PageRead → Stop → PageRead
finish g e = under g.buf (unless_stopped g.pen.stop (end_as g.pen e) g.pen)

unfoldable pub page_after : PageRead → Trace Refusal → PageRead
page_after g (tr bs e ns c) = finish (tallied (ink g bs) c.opened) (stop_of e)

-- the page h is what the trace t makes of the page g
pub record Wrote (g : Page) (t : Trace Refusal) (h : Page) : Type 0 where
  pub is : read_page h ≡ page_after (read_page g) t

-- A trace that writes bytes, and one that takes up an index without opening it.
abbrev pub writing : List ℕ → Trace Refusal
writing bs = tr bs done [] (count 0 0)

unfoldable pub step : Trace Refusal
step = tr [] done [] (count 0 1)

-- the last byte written since start; 0 where there is none
unfoldable pub last_since : PenRead → ℕ → ℕ
last_since p start = pick (leb p.at start) 0 p.last

-- a pen that stopped goes on
abbrev pub resumed : Pen → Pen
resumed p = record { at = p.at; tally = p.tally; limit = p.limit; stop = 0; detail = 0 }

-- where an index was missing, u goes on
abbrev pub go_on : Stop → (ℕ → Trace Refusal) → PageRead → PageRead
go_on No u g = g
go_on (Missing i) u g =
    page_after (under g.buf (record { at = g.pen.at; last = g.pen.last; opened = g.pen.opened; limit = g.pen.limit; stop = No })) (u i)
go_on (Refused f) u g = g

pub record Caught (g : Page) (u : ℕ → Trace Refusal) (h : Page) : Type 0 where
  pub is : read_page h ≡ go_on (read_page g).pen.stop u (read_page g)

-- whether a pen has stopped
abbrev pub idle : Stop → Bool
idle No = false
idle (Missing i) = true
idle (Refused f) = true

-- An index taken up and opened.
unfoldable pub opened : Trace Refusal
opened = tr [] done [] (count 1 1)

-- The last byte of a text; b, where it is empty.
unfoldable pub last : ℕ → List ℕ → ℕ
last b [] = b
last b (c ∷ cs) = last c cs

-- The traces of the code, shut, so that they stand as they are written: one after another; a part and what is written by its last byte; a part and what
-- goes on where an index was missing.
infixr 40 ◌⨾◌
unfoldable pub ◌⨾◌ : Trace Refusal → Trace Refusal → Trace Refusal
t ⨾ u = then t (λ _. u)

unfoldable pub ending : Trace Refusal → (ℕ → List ℕ) → Trace Refusal
ending t f = then t (λ bs. tr (f (last 0 bs)) done [] (count 0 0))

unfoldable pub marking : Trace Refusal → (ℕ → Trace Refusal) → Trace Refusal
marking t u = caught t u

abbrev pub bytes_of : Trace Refusal → List ℕ
bytes_of (tr bs e ns c) = bs

-- A pen that has not stopped is refused.
unfoldable pub refused_pen : Pen → Refusal → Pen
refused_pen p f = unless_stopped (read_pen p).stop (gone p.limit f) p

-- A pen that has not stopped ends its text at a missing index.
unfoldable pub missed_pen : Pen → ℕ → Pen
missed_pen p i = unless_stopped (read_pen p).stop (record { at = p.at; tally = p.tally; limit = p.limit; stop = 255; detail = i }) p

-- A pen by which an index is opened. Its tally has room for the byte below the count.
unfoldable pub next_tally : ℕ → ℕ
next_tally n = pick (ltb n 0xffff_ffff_ffff_ff00) (n + 256) n

unfoldable pub opened_pen : Pen → Pen
opened_pen p = record { at = p.at; tally = next_tally p.tally; limit = p.limit; stop = p.stop; detail = p.detail }

-- A pen behind a run of bytes, of which the last is b: its tally keeps the count.
pub record Past (p : Pen) (end b : ℕ) (q : Pen) : Type 0 where
  pub is : read_pen q ≡ record { at = end; last = b; opened = (read_pen p).opened; limit = p.limit; stop = No }

-- What could not be read inside a type: a missing record ends the text, anything else is refused. The pen, and the trace.
unfoldable pub unread_pen : Pen → Refusal → Pen
unread_pen p f = pick (eqb (number_of f) 8) (missed_pen p (detail_of f)) (refused_pen p f)

unfoldable pub unread_trace : Refusal → Trace Refusal
unread_trace f =
    pick (eqb (number_of f) 8) (tr [] (missing (detail_of f)) [] (count 0 0)) (tr [] (refused f) [] (count 0 0))
