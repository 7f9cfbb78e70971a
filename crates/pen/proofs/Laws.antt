-- The laws of pages that proofs cite, so that no proof elsewhere opens a definition of `Page`. Assumes nothing.
use Prim.Native.Nat.{ℕ, zero, suc, ◌+◌, ◌-◌, ◌/◌, ◌%◌, ◌<◌, ◌≤◌}
use mathlib.Core.Logic.{◌⊎◌, inl, inr}
use mathlib.Core.Path.{◌≡◌, refl, ap, ap₂, sym, ◌∙◌, subst}
use mathlib.Core.List.{List, [], ◌∷◌, ◌++◌, append_assoc}
use mathlib.Core.Bool.{Bool, true, false}
use lib.ListN.{length, set, take, drop, get_or, length-set}
use lib.Dec.{eqb, ltb}
use lib.Seq.{drop-drop, set_out, sets, sets-eq, take-suc}
use native.Mathlib.Decide.{dec_lt}
use native.Mathlib.Numerals.{add-one}
use native.Mathlib.Nat.{add-zero, zero-add, suc-add}
use native.Mathlib.Omega.{arith}
use Rattle.std.specs.Prelude.{Some, slice_get}
use Rattle.std.proofs.lemmas.Option.{slice_get_within, get_or_from_slice_get}
use borrow.Author.Tests.{ne_eqb, lt-ltb, le-ltb, lt-leb, le-leb}
use Rattle.wire.specs.Field.{pick}
use Rattle.streams.specs.declared.refusal.Refusal.{Refusal}
use Rattle.streams.specs.declared.refusal.Refusal.TheVariants.{CircularTypeDefinition, TooManyOpen, ChainTooLong, NoRoom}
use Rattle.streams.specs.declared.refusal.Refusal.TheVariants as refusal
use Rattle.streams.specs.Refusal.{number_of, detail_of, refusal_of}
use Rattle.streams.specs.declared.refusal.StreamKind.TheVariants as stream
use Rattle.streams.specs.contracts.refusal.Refusal.{the_type}
use denote.Enum.Declared.{tag_of}
use package.types.Run.{OneOf}
use Rattle.interpreter.specs.Trace.{Note, End, done, missing, refused, halted, unfinished, again, deep, long, Count, count, Trace, tr, prefix, then, caught}
use Rattle.pen.specs.declared.Pen.{Pen}
use Rattle.pen.specs.declared.Stop.{Stop}
use Rattle.pen.specs.declared.Stop.TheVariants.{No, Missing, Refused}
use Rattle.pen.specs.Page.{stop_in, PenRead, read_pen, Page, PageRead, under, read_page, page, ended, gone, put, unless_stopped, ink, most, next, tick, tallied, stop_of, end_as, finish, page_after, Wrote, writing, step, last_since, resumed, go_on, Caught, idle, opened, last, ◌⨾◌, ending, marking, bytes_of, refused_pen, missed_pen, unread_pen, unread_trace, next_tally, opened_pen, Past}

-- The two numbers of a pen, read: a refusal's are its own.
refusal-back : (f : Refusal) → stop_in (number_of f) (detail_of f) ≡ Refused f
unfolding refusal_of
refusal-back (refusal.UnknownFlags flags) = refl
refusal-back (refusal.PointerSize size) = refl
refusal-back (refusal.Header stream.Types) = refl
refusal-back (refusal.Header stream.Ids) = refl
refusal-back (refusal.Tiling stream.Types) = refl
refusal-back (refusal.Tiling stream.Ids) = refl
refusal-back (refusal.Malformed index) = refl
refusal-back (refusal.CrossModule index) = refl
refusal-back (refusal.UnlistedKind kind) = refl
refusal-back (refusal.Missing index) = refl
refusal-back (refusal.ArgumentTypeNotArgumentList index) = refl
refusal-back (refusal.FunctionIdIsNotProcedureType index) = refl
refusal-back (refusal.MemberFunctionIdIsNotMemberFunctionType index) = refl
refusal-back (refusal.CircularTypeDefinition index) = refl
refusal-back (refusal.TooManyOpen index) = refl
refusal-back (refusal.ChainTooLong index) = refl
refusal-back refusal.NoRoom = refl
refusal-back (refusal.UnknownCommand command) = refl
refusal-back (refusal.WrongPlace entry) = refl

pub read-gone : (limit : ℕ) (f : Refusal) → read_pen (gone limit f) ≡ ended limit f
read-gone limit f = rw (refusal-back f)

-- one byte, by cases
put-fits : (buf : List ℕ) (p : PenRead) (b : ℕ) → p.stop ≡ No → p.at < p.limit
    → put (under buf p) b ≡ under (set buf p.at b) (record { at = p.at + 1; last = b; opened = p.opened; limit = p.limit; stop = No })
unfolding put
put-fits buf p b h l = simp (h, lt-ltb _ _ l)

pub put-stored : (buf out : List ℕ) (p q : Pen) (b : ℕ) → out ≡ set buf p.at b → Past p (p.at + 1) b q → p.stop ≡ 0 → p.at < p.limit
    → read_page (page out q) ≡ put (read_page (page buf p)) b
put-stored buf out p q b e f h l = ap₂ under e f.is ∙ sym (put-fits buf (read_pen p) b (rw h) l)

put_full : (buf : List ℕ) (p : PenRead) (b : ℕ) → p.stop ≡ No → p.limit ≤ p.at → put (under buf p) b ≡ under buf (ended p.limit NoRoom)
unfolding put
put_full buf p b h l = simp (h, le-ltb _ _ l)

-- a page whose pen has stopped
abbrev pub Halted : PageRead → Type 0
Halted g = idle g.pen.stop ≡ true

idle-keeps : {A : Type 0} (x : Stop) (a b : A) → idle x ≡ true → unless_stopped x a b ≡ b
idle-keeps No a b h = absurd (cc)
idle-keeps (Missing i) a b h = refl
idle-keeps (Refused f) a b h = refl

pub put-halted : (g : PageRead) (b : ℕ) → Halted g → put g b ≡ g
unfolding put
put-halted g b h = idle-keeps g.pen.stop _ _ h

ink-halted : (bs : List ℕ) (g : PageRead) → Halted g → ink g bs ≡ g
unfolding ink
ink-halted [] g h = refl
ink-halted (b ∷ bs) g h = rw (put-halted g b h) (ink-halted bs g h)

finish-halted : (g : PageRead) (e : Stop) → Halted g → finish g e ≡ g
finish-halted g e h = ap (under g.buf) (idle-keeps g.pen.stop _ _ h)

tick-halted : (g : PageRead) → Halted g → tick g ≡ g
unfolding tick
tick-halted g h = ap (under g.buf) (idle-keeps g.pen.stop _ _ h)

tallied-halted : (n : ℕ) (g : PageRead) → Halted g → tallied g n ≡ g
unfolding tallied
tallied-halted zero g h = refl
tallied-halted (suc n) g h = rw (tick-halted g h) (tallied-halted n g h)

pub run-halted : (g : PageRead) (t : Trace Refusal) → Halted g → page_after g t ≡ g
unfolding page_after
run-halted g (tr bs e ns c) h = rw (ink-halted bs g h, tallied-halted c.opened g h) (finish-halted g (stop_of e) h)

-- openings and bytes do not disturb each other
put-tick-at : (x : Stop) (b : List ℕ) (at l o lim v : ℕ) → let g = under b (record { at = at; last = l; opened = o; limit = lim; stop = x }) in put (tick g) v ≡ tick (put g v)
unfolding put tick
put-tick-at No b at l o lim v = by (ltb at lim)
  where
    by : (c : Bool)
        → pick c (under (set b at v) (record { at = at + 1; last = v; opened = next o; limit = lim; stop = No })) (under b (ended lim NoRoom))
        ≡ tick (pick c (under (set b at v) (record { at = at + 1; last = v; opened = o; limit = lim; stop = No })) (under b (ended lim NoRoom)))
    by true = refl
    by false = refl
put-tick-at (Missing i) b at l o lim v = refl
put-tick-at (Refused f) b at l o lim v = refl

put-tick : (g : PageRead) (v : ℕ) → put (tick g) v ≡ tick (put g v)
put-tick g v = put-tick-at g.pen.stop g.buf g.pen.at g.pen.last g.pen.opened g.pen.limit v

ink-tick : (bs : List ℕ) (g : PageRead) → ink (tick g) bs ≡ tick (ink g bs)
unfolding ink
ink-tick [] g = refl
ink-tick (b ∷ bs) g = rw (put-tick g b) (ink-tick bs (put g b))

ink-tallied : (n : ℕ) (g : PageRead) (bs : List ℕ) → ink (tallied g n) bs ≡ tallied (ink g bs) n
unfolding tallied
ink-tallied zero g bs = refl
ink-tallied (suc n) g bs = ink-tallied n (tick g) bs ∙ ap (λ (h : PageRead). tallied h n) (ink-tick bs g)

tallied-add : (n : ℕ) (g : PageRead) (m : ℕ) → tallied (tallied g n) m ≡ tallied g (n + m)
unfolding tallied
tallied-add zero g m = rw zero-add refl
tallied-add (suc n) g m = rw suc-add (tallied-add n (tick g) m)

-- a text and another after it
pub ink-append : (a : List ℕ) (g : PageRead) (b : List ℕ) → ink (ink g a) b ≡ ink g (a ++ b)
unfolding ink
ink-append [] g b = refl
ink-append (x ∷ a) g b = ink-append a (put g x) b

pub ink-nil : (g : PageRead) → ink g [] ≡ g
unfolding ink
ink-nil g = refl

pub ink-one : (g : PageRead) (b : ℕ) → ink g (b ∷ []) ≡ put g b
unfolding ink
ink-one g b = refl

pub ink-more : (g : PageRead) (s : List ℕ) (i : ℕ) → i < length s → ink g (take (i + 1) s) ≡ put (ink g (take i s)) (get_or s i 0)
ink-more g s i h = rw (add-one, take-suc s i 0, ← ink-append, ink-one)

finish-no-at : (x : Stop) (b : List ℕ) (at l o lim : ℕ) → let g = under b (record { at = at; last = l; opened = o; limit = lim; stop = x }) in finish g No ≡ g
finish-no-at No b at l o lim = refl
finish-no-at (Missing i) b at l o lim = refl
finish-no-at (Refused f) b at l o lim = refl

finish-no : (g : PageRead) → finish g No ≡ g
finish-no g = finish-no-at g.pen.stop g.buf g.pen.at g.pen.last g.pen.opened g.pen.limit

run-done : (g : PageRead) (bs : List ℕ) (ns : List Note) (c : Count) → page_after g (tr bs done ns c) ≡ tallied (ink g bs) c.opened
unfolding page_after stop_of
run-done g bs ns c = finish-no (tallied (ink g bs) c.opened)

pub run-say : (g : PageRead) (bs : List ℕ) → page_after g (writing bs) ≡ ink g bs
unfolding tallied
run-say g bs = run-done g bs [] (count 0 0)

-- what is written before a trace
run-prefix : (g : PageRead) (bs : List ℕ) (ns : List Note) (c : Count) (t : Trace Refusal) → page_after g (prefix bs ns c t) ≡ page_after (tallied (ink g bs) c.opened) t
unfolding page_after
run-prefix g bs ns c (tr cs e ms d) = rw (ink-tallied c.opened (ink g bs) cs, tallied-add c.opened (ink (ink g bs) cs) d.opened, ink-append bs g cs)

finish-halts-at : (x : Stop) (b : List ℕ) (at l o lim : ℕ) (e : Stop) → idle e ≡ true → Halted (finish (under b (record { at = at; last = l; opened = o; limit = lim; stop = x })) e)
finish-halts-at No b at l o lim No h = h
finish-halts-at No b at l o lim (Missing i) h = refl
finish-halts-at No b at l o lim (Refused f) h = refl
finish-halts-at (Missing i) b at l o lim e h = refl
finish-halts-at (Refused f) b at l o lim e h = refl

finish-halts : (g : PageRead) (e : Stop) → idle e ≡ true → Halted (finish g e)
finish-halts g e h = finish-halts-at g.pen.stop g.buf g.pen.at g.pen.last g.pen.opened g.pen.limit e h

run-stays : (g : PageRead) (bs : List ℕ) (e : End Refusal) (ns : List Note) (c : Count) (u : Trace Refusal) → idle (stop_of e) ≡ true → page_after (page_after g (tr bs e ns c)) u ≡ page_after g (tr bs e ns c)
unfolding page_after
run-stays g bs e ns c u h = run-halted _ u (finish-halts (tallied (ink g bs) c.opened) (stop_of e) h)

idle-refused : (f : Refusal) → idle (stop_of (refused f)) ≡ true
unfolding stop_of
idle-refused f = refl

idle-halted : (x : Note) → idle (stop_of (halted x)) ≡ true
unfolding stop_of
idle-halted (again i) = refl
idle-halted (deep i) = refl
idle-halted (long i) = refl

-- a trace and what follows it
pub run-then : (g : PageRead) (s : Trace Refusal) (k : List ℕ → Trace Refusal) → page_after (page_after g s) (k (bytes_of s)) ≡ page_after g (then s k)
unfolding stop_of
run-then g (tr bs done ns c) k = ap (λ h. page_after h (k bs)) (run-done g bs ns c) ∙ sym (run-prefix g bs ns c (k bs))
run-then g (tr bs (missing i) ns c) k = run-stays g bs (missing i) ns c (k bs) refl
run-then g (tr bs (refused f) ns c) k = run-stays g bs (refused f) ns c (k bs) (idle-refused f)
run-then g (tr bs (halted x) ns c) k = run-stays g bs (halted x) ns c (k bs) (idle-halted x)
run-then g (tr bs unfinished ns c) k = run-stays g bs unfinished ns c (k bs) refl

-- one writing after another
infixr 30 ◌▹◌
pub ◌▹◌ : {g h k : Page} {t u : Trace Refusal} → Wrote g t h → Wrote h u k → Wrote g (then t (λ _. u)) k
◌▹◌ {g} {h} {k} {t} {u} e f = record { is = cc (run-then (read_page g) t (λ _. u), e.is, f.is) }

-- the same writing, by another name for its trace
pub wrote_as : {g h : Page} {t u : Trace Refusal} → t ≡ u → Wrote g t h → Wrote g u h
wrote_as {g} {h} {t} {u} f e = record { is = cc (e.is, f) }

pub wrote_by : {g h : Page} {t u : Trace Refusal} → Wrote g t h → t ≡ u → Wrote g u h
wrote_by e f = wrote_as f e

-- nothing is written
pub wrote_none : {g : Page} → Wrote g (writing []) g
wrote_none {g} = record { is = sym (run-say (read_page g) [] ∙ ink-nil (read_page g)) }

pub wrote-same : {g : Page} {u : Trace Refusal} → writing [] ≡ u → Wrote g u g
wrote-same {g} {u} e = wrote_as e wrote_none

-- a stopped pen writes nothing, whatever it is asked
pub wrote-idle : {g : Page} {t : Trace Refusal} → Halted (read_page g) → Wrote g t g
wrote-idle {g} {t} h = record { is = sym (run-halted (read_page g) t h) }

-- what stops a pen: an end with nothing written before it
finish-refused : (b : List ℕ) (p : Pen) (f : Refusal) → read_page (page b (refused_pen p f)) ≡ finish (read_page (page b p)) (Refused f)
unfolding refused_pen
finish-refused b p f = by (read_pen p).stop refl
  where
    by : (x : Stop) → (read_pen p).stop ≡ x → read_page (page b (unless_stopped x (gone p.limit f) p)) ≡ under b (unless_stopped x (ended p.limit f) (read_pen p))
    by No e = ap (under b) (read-gone p.limit f)
    by (Missing i) e = refl
    by (Refused g) e = refl

pub wrote-stop : (b : List ℕ) (p q : Pen) (e : End Refusal) (n : ℕ) (f : Refusal) → stop_of e ≡ Refused f → q ≡ refused_pen p f → Wrote (page b p) (tr [] e [] (count 0 n)) (page b q)
unfolding page_after ink tallied
wrote-stop b p q e n f h k = record { is = rw (h, k) (finish-refused b p f) }

finish-missing : (b : List ℕ) (p : Pen) (i : ℕ) → read_page (page b (missed_pen p i)) ≡ finish (read_page (page b p)) (Missing i)
unfolding missed_pen
finish-missing b p i = by (read_pen p).stop refl
  where
    by : (x : Stop) → (read_pen p).stop ≡ x
        → read_page (page b (unless_stopped x (record { at = p.at; tally = p.tally; limit = p.limit; stop = 255; detail = i }) p)) ≡ under b (unless_stopped x (end_as (read_pen p) (Missing i)) (read_pen p))
    by No e = refl
    by (Missing j) e = refl
    by (Refused g) e = refl

wrote-missing : (b : List ℕ) (p q : Pen) (i : ℕ) → q ≡ missed_pen p i → Wrote (page b p) (tr [] (missing i) [] (count 0 0)) (page b q)
unfolding page_after ink tallied stop_of
wrote-missing b p q i e = record { is = rw e (finish-missing b p i) }

-- taking up an index without opening it changes nothing
pub wrote-step : {g : Page} → Wrote g step g
unfolding ink step tallied
wrote-step {g} = record { is = sym (run-done (read_page g) [] [] (count 0 1)) }

-- opening it counts it
next-tally : (n : ℕ) → (next_tally n / 256 ≡ next (n / 256)) × (next_tally n % 256 ≡ n % 256)
unfolding next_tally
next-tally n = by (dec_lt n 0xffff_ffff_ffff_ff00)
  where
    by : Dec (n < 0xffff_ffff_ffff_ff00) → (pick (ltb n 0xffff_ffff_ffff_ff00) (n + 256) n / 256 ≡ next (n / 256)) × (pick (ltb n 0xffff_ffff_ffff_ff00) (n + 256) n % 256 ≡ n % 256)
    by (yes h) = rw (lt-ltb n 0xffff_ffff_ffff_ff00 h, lt-ltb (n / 256) most (omega arith)) (omega arith, omega arith)
    by (no h) = rw (le-ltb n 0xffff_ffff_ffff_ff00 (omega arith), le-ltb (n / 256) most (omega arith)) (refl, refl)

pub wrote-opened : (b : List ℕ) (p q : Pen) → idle (read_pen p).stop ≡ false → q ≡ opened_pen p → Wrote (page b p) opened (page b q)
unfolding ink opened tallied tick opened_pen
wrote-opened b p q a e = record { is = ap (λ (x : Pen). read_page (page b x)) e ∙ by (read_pen p).stop refl ∙ sym (run-done (read_page (page b p)) [] [] (count 1 1)) }
  where
    by : (x : Stop) → (read_pen p).stop ≡ x → read_page (page b (opened_pen p)) ≡ tick (read_page (page b p))
    by No f = rw (f, (next-tally p.tally).0, (next-tally p.tally).1)
    by (Missing i) f = absurd (cc)
    by (Refused g) f = absurd (cc)

-- a pen that has not stopped, refused
pub refused-alive : (p : Pen) (f : Refusal) → idle (read_pen p).stop ≡ false → refused_pen p f ≡ gone p.limit f
unfolding refused_pen
refused-alive p f h = by (read_pen p).stop h
  where
    by : (x : Stop) → idle x ≡ false → unless_stopped x (gone p.limit f) p ≡ gone p.limit f
    by No h = refl
    by (Missing i) h = absurd (cc)
    by (Refused g) h = absurd (cc)

-- what could not be read inside a type
pub wrote-unread : (b : List ℕ) (p q : Pen) (f : Refusal) → q ≡ unread_pen p f → Wrote (page b p) (unread_trace f) (page b q)
unfolding unread_pen unread_trace stop_of
wrote-unread b p q f e = by (eqb (number_of f) 8) e
  where
    by : (x : Bool) → q ≡ pick x (missed_pen p (detail_of f)) (refused_pen p f)
        → Wrote (page b p) (pick x (tr [] (missing (detail_of f)) [] (count 0 0)) (tr [] (refused f) [] (count 0 0))) (page b q)
    by true h = wrote-missing b p q (detail_of f) h
    by false h = wrote-stop b p q (refused f) 0 f refl h

-- A refusal's number is its place among the cases, from 1 on: so one that is none of some cases has none of their numbers.
number-place : (f : Refusal) → number_of f ≡ suc (tag_of the_type f)
number-place (refusal.UnknownFlags flags) = refl
number-place (refusal.PointerSize size) = refl
number-place (refusal.Header stream) = refl
number-place (refusal.Tiling stream) = refl
number-place (refusal.Malformed index) = refl
number-place (refusal.CrossModule index) = refl
number-place (refusal.UnlistedKind kind) = refl
number-place (refusal.Missing index) = refl
number-place (refusal.ArgumentTypeNotArgumentList index) = refl
number-place (refusal.FunctionIdIsNotProcedureType index) = refl
number-place (refusal.MemberFunctionIdIsNotMemberFunctionType index) = refl
number-place (refusal.CircularTypeDefinition index) = refl
number-place (refusal.TooManyOpen index) = refl
number-place (refusal.ChainTooLong index) = refl
number-place refusal.NoRoom = refl
number-place (refusal.UnknownCommand command) = refl
number-place (refusal.WrongPlace entry) = refl

-- The cases but 8.
abbrev pub not_missing : List ℕ
not_missing = 0 ∷ 1 ∷ 2 ∷ 3 ∷ 4 ∷ 5 ∷ 6 ∷ 8 ∷ 9 ∷ 10 ∷ 11 ∷ 12 ∷ 13 ∷ 14 ∷ 15 ∷ 16 ∷ []

pub not-number : (k : ℕ) (ks : List ℕ) (f : Refusal) → (OneOf ks k → ⊥) → OneOf ks (tag_of the_type f) → eqb (number_of f) (suc k) ≡ false
not-number k ks f h n =
    ne_eqb (number_of f) (suc k) (λ e. let p = number-place f in let q : tag_of the_type f ≡ k = omega arith in h (subst (OneOf ks) q n))

-- the last byte written
Ended : PageRead → ℕ → ℕ → Type 0
Ended g start b = Halted g ⊎ ((last_since g.pen start ≡ b) × (start ≤ g.pen.at))

ends-put-no : (b : List ℕ) (p : PenRead) (v start : ℕ) → p.stop ≡ No → start ≤ p.at → Dec (p.at < p.limit) → Ended (put (under b p) v) start v
unfolding Ended last_since
ends-put-no b p v start e h (yes l) = rw (put-fits b p v e l) (inr (rw (lt-leb (p.at + 1) start (omega arith)), omega arith))
ends-put-no b p v start e h (no l) = rw (put_full b p v e (omega arith)) (inl refl)

ends-put-at : (x : Stop) (b : List ℕ) (at l o lim v start : ℕ) → start ≤ at → Ended (put (under b (record { at = at; last = l; opened = o; limit = lim; stop = x })) v) start v
unfolding Ended put
ends-put-at No b at l o lim v start h = ends-put-no b (record { at = at; last = l; opened = o; limit = lim; stop = No }) v start refl h (dec_lt at lim)
ends-put-at (Missing i) b at l o lim v start h = inl refl
ends-put-at (Refused f) b at l o lim v start h = inl refl

ends-ink : (bs : List ℕ) (g : PageRead) (start x : ℕ) → Ended g start x → Ended (ink g bs) start (last x bs)
unfolding ink last Ended
ends-ink [] g start x h = h
ends-ink (b ∷ bs) g start x (inl h) = ends-ink bs (put g b) start b (inl (rw (put-halted g b h) h))
ends-ink (b ∷ bs) g start x (inr h) = ends-ink bs (put g b) start b (ends-put-at g.pen.stop g.buf g.pen.at g.pen.last g.pen.opened g.pen.limit b start h.1)

ends-tick-at : (x : Stop) (b : List ℕ) (at l o lim start y : ℕ) → let g = under b (record { at = at; last = l; opened = o; limit = lim; stop = x }) in Ended g start y → Ended (tick g) start y
unfolding Ended tick last_since
ends-tick-at No b at l o lim start y (inl h) = inl h
ends-tick-at No b at l o lim start y (inr h) = inr h
ends-tick-at (Missing i) b at l o lim start y h = inl refl
ends-tick-at (Refused f) b at l o lim start y h = inl refl

ends-tallied : (n : ℕ) (g : PageRead) (start x : ℕ) → Ended g start x → Ended (tallied g n) start x
unfolding tallied
ends-tallied zero g start x h = h
ends-tallied (suc n) g start x h =
    ends-tallied n (tick g) start x (ends-tick-at g.pen.stop g.buf g.pen.at g.pen.last g.pen.opened g.pen.limit start x h)

fresh : (g : PageRead) → Ended g g.pen.at 0
unfolding Ended last_since
fresh g = inr (simp (le-leb g.pen.at g.pen.at (omega arith)), omega arith)

Lasts : PageRead → ℕ → ℕ → Type 0
Lasts g start x = Halted g ⊎ (last_since g.pen start ≡ x)

lasts : (g : PageRead) (start x : ℕ) → Ended g start x → Lasts g start x
unfolding Ended Lasts
lasts g start x (inl h) = inl h
lasts g start x (inr h) = inr h.0

ends-done : (g : PageRead) (bs : List ℕ) (ns : List Note) (c : Count) → Lasts (page_after g (tr bs done ns c)) g.pen.at (last 0 bs)
ends-done g bs ns c =
    rw (run-done g bs ns c)
    (lasts (tallied (ink g bs) c.opened) g.pen.at (last 0 bs) (ends-tallied c.opened (ink g bs) g.pen.at (last 0 bs) (ends-ink bs g g.pen.at 0 (fresh g))))

ends-run : (g : PageRead) (t : Trace Refusal) → Lasts (page_after g t) g.pen.at (last 0 (bytes_of t))
unfolding page_after Lasts stop_of
ends-run g (tr bs done ns c) = ends-done g bs ns c
ends-run g (tr bs (missing i) ns c) = inl (finish-halts (tallied (ink g bs) c.opened) (Missing i) refl)
ends-run g (tr bs (refused f) ns c) = inl (finish-halts (tallied (ink g bs) c.opened) (stop_of (refused f)) (idle-refused f))
ends-run g (tr bs (halted x) ns c) = inl (finish-halts (tallied (ink g bs) c.opened) (stop_of (halted x)) (idle-halted x))
ends-run g (tr bs unfinished ns c) = inl (finish-halts (tallied (ink g bs) c.opened) (stop_of unfinished) refl)

-- a writing that goes by the last byte of the one before it
pub wrote_after : {g h k : Page} {t : Trace Refusal} (f : ℕ → Trace Refusal) (start : ℕ) → start ≡ g.pen.at → Wrote g t h → Wrote h (f (last_since (read_pen h.pen) start)) k
    → Wrote g (then t (λ bs. f (last 0 bs))) k
unfolding Lasts
wrote_after {g} {h} {k} {t} f start s e w = record { is = go (ends-run (read_page g) t) ∙ run-then (read_page g) t (λ bs. f (last 0 bs)) }
  where
    from : read_page k ≡ page_after (page_after (read_page g) t) (f (last_since (page_after (read_page g) t).pen g.pen.at))
    from = rw (← e.is, ← s) w.is

    go : Lasts (page_after (read_page g) t) g.pen.at (last 0 (bytes_of t)) → read_page k ≡ page_after (page_after (read_page g) t) (f (last 0 (bytes_of t)))
    go (inl x) = from ∙ run-halted _ _ x ∙ sym (run-halted _ _ x)
    go (inr x) = rw x at from

-- A missing index that is caught. A pen that had not stopped is stopped by a text only where that has no room.
Kept : PageRead → Type 0
Kept g = (g.pen.stop ≡ No) ⊎ (g.pen.stop ≡ Refused NoRoom)

kept-pick : (b : Bool) (g h : PageRead) → Kept g → Kept h → Kept (pick b g h)
kept-pick true g h x y = x
kept-pick false g h x y = y

kept-put-at : (x : Stop) (b : List ℕ) (at l o lim v : ℕ) → let g = under b (record { at = at; last = l; opened = o; limit = lim; stop = x }) in Kept g → Kept (put g v)
unfolding put Kept
kept-put-at No b at l o lim v h = kept-pick (ltb at lim) _ _ (inl refl) (inr refl)
kept-put-at (Missing i) b at l o lim v h = h
kept-put-at (Refused f) b at l o lim v h = h

kept-ink : (bs : List ℕ) (g : PageRead) → Kept g → Kept (ink g bs)
unfolding ink
kept-ink [] g h = h
kept-ink (b ∷ bs) g h = kept-ink bs (put g b) (kept-put-at g.pen.stop g.buf g.pen.at g.pen.last g.pen.opened g.pen.limit b h)

kept-tick-at : (x : Stop) (b : List ℕ) (at l o lim : ℕ) → let g = under b (record { at = at; last = l; opened = o; limit = lim; stop = x }) in Kept g → Kept (tick g)
unfolding tick Kept
kept-tick-at No b at l o lim h = inl refl
kept-tick-at (Missing i) b at l o lim h = h
kept-tick-at (Refused f) b at l o lim h = h

kept-tallied : (n : ℕ) (g : PageRead) → Kept g → Kept (tallied g n)
unfolding tallied
kept-tallied zero g h = h
kept-tallied (suc n) g h = kept-tallied n (tick g) (kept-tick-at g.pen.stop g.buf g.pen.at g.pen.last g.pen.opened g.pen.limit h)

caught-kept-at : (x : Stop) (g : PageRead) (u : ℕ → Trace Refusal) → g.pen.stop ≡ x → Kept g → go_on x u g ≡ g
unfolding Kept
caught-kept-at No g u e h = refl
caught-kept-at (Missing i) g u e (inl h) = absurd (cc)
caught-kept-at (Missing i) g u e (inr h) = absurd (cc)
caught-kept-at (Refused f) g u e h = refl

caught-missing-at : (x : Stop) (b : List ℕ) (at l o lim i : ℕ) (u : ℕ → Trace Refusal) → let g = under b (record { at = at; last = l; opened = o; limit = lim; stop = x }) in Kept g
    → go_on (finish g (Missing i)).pen.stop u (finish g (Missing i)) ≡ page_after g (u i)
unfolding Kept
caught-missing-at No b at l o lim i u h = refl
caught-missing-at (Missing j) b at l o lim i u (inl h) = absurd (cc)
caught-missing-at (Missing j) b at l o lim i u (inr h) = absurd (cc)
caught-missing-at (Refused f) b at l o lim i u h = sym (run-halted (under b (record { at = at; last = l; opened = o; limit = lim; stop = Refused f })) (u i) refl)

caught-stop-at : (x y : Stop) (b : List ℕ) (at l o lim : ℕ) (u : ℕ → Trace Refusal) → let g = under b (record { at = at; last = l; opened = o; limit = lim; stop = x }) in Kept g
    → (f : Refusal) → y ≡ Refused f → go_on (finish g y).pen.stop u (finish g y) ≡ finish g y
unfolding Kept
caught-stop-at No y b at l o lim u h f e = rw e
caught-stop-at (Missing j) y b at l o lim u (inl h) f e = absurd (cc)
caught-stop-at (Missing j) y b at l o lim u (inr h) f e = absurd (cc)
caught-stop-at (Refused k) y b at l o lim u h f e = refl

halted-as : (x : Note) → (f : Refusal) × (stop_of (halted x) ≡ Refused f)
unfolding stop_of
halted-as (again i) = (CircularTypeDefinition i, refl)
halted-as (deep i) = (TooManyOpen i, refl)
halted-as (long i) = (ChainTooLong i, refl)

module _ (u : ℕ → Trace Refusal) (g : PageRead) (alive : g.pen.stop ≡ No) where
  caught-ended : (bs : List ℕ) (e : End Refusal) (ns : List Note) (c : Count) (f : Refusal) → stop_of e ≡ Refused f → go_on (page_after g (tr bs e ns c)).pen.stop u (page_after g (tr bs e ns c)) ≡ page_after g (tr bs e ns c)
  unfolding page_after Kept
  caught-ended bs e ns c f n =
      let h = tallied (ink g bs) c.opened in
      caught-stop-at h.pen.stop (stop_of e) h.buf h.pen.at h.pen.last h.pen.opened h.pen.limit u (kept-tallied c.opened (ink g bs) (kept-ink bs g (inl alive))) f n

  missed : (bs : List ℕ) (i : ℕ) (ns : List Note) (c : Count) → go_on (page_after g (tr bs (missing i) ns c)).pen.stop u (page_after g (tr bs (missing i) ns c)) ≡ page_after g (prefix bs ns c (u i))
  unfolding page_after stop_of Kept
  missed bs i ns c =
      let h = tallied (ink g bs) c.opened in
      caught-missing-at h.pen.stop h.buf h.pen.at h.pen.last h.pen.opened h.pen.limit i u (kept-tallied c.opened (ink g bs) (kept-ink bs g (inl alive))) ∙ sym (run-prefix g bs ns c (u i))

  run-caught : (s : Trace Refusal) → go_on (page_after g s).pen.stop u (page_after g s) ≡ page_after g (caught s u)
  unfolding stop_of Kept
  run-caught (tr bs done ns c) = caught-kept-at _ (page_after g (tr bs done ns c)) u refl (rw (run-done g bs ns c) (kept-tallied c.opened (ink g bs) (kept-ink bs g (inl alive))))
  run-caught (tr bs (missing i) ns c) = missed bs i ns c
  run-caught (tr bs (refused f) ns c) = caught-ended bs (refused f) ns c f refl
  run-caught (tr bs (halted x) ns c) = caught-ended bs (halted x) ns c (halted-as x).0 (halted-as x).1
  run-caught (tr bs unfinished ns c) = caught-ended bs unfinished ns c NoRoom refl

wrote-caught : {g h k : Page} {t : Trace Refusal} {u : ℕ → Trace Refusal} → (read_page g).pen.stop ≡ No → Wrote g t h → Caught h u k → Wrote g (caught t u) k
wrote-caught {g} {h} {k} {t} {u} a e f = record { is = f.is ∙ ap (λ (x : PageRead). go_on x.pen.stop u x) e.is ∙ run-caught u (read_page g) a t }

pub prefix-none : (t : Trace Refusal) → prefix [] [] (count 0 0) t ≡ t
prefix-none (tr bs e ns c) = simp zero-add

-- a writing keeps the buffer's length
put-length-at : (x : Stop) (b : List ℕ) (at l o lim v : ℕ) → length (put (under b (record { at = at; last = l; opened = o; limit = lim; stop = x })) v).buf ≡ length b
unfolding put
put-length-at No b at l o lim v = by (ltb at lim)
  where
    by : (c : Bool) → length (pick c (under (set b at v) (record { at = at + 1; last = v; opened = o; limit = lim; stop = No })) (under b (ended lim NoRoom))).buf ≡ length b
    by true = simp length-set
    by false = refl
put-length-at (Missing i) b at l o lim v = refl
put-length-at (Refused f) b at l o lim v = refl

pub ink-length : (bs : List ℕ) (g : PageRead) → length (ink g bs).buf ≡ length g.buf
unfolding ink
ink-length [] g = refl
ink-length (b ∷ bs) g = ink-length bs (put g b) ∙ put-length-at g.pen.stop g.buf g.pen.at g.pen.last g.pen.opened g.pen.limit b

tallied-length : (n : ℕ) (g : PageRead) → length (tallied g n).buf ≡ length g.buf
unfolding tallied tick
tallied-length zero g = refl
tallied-length (suc n) g = tallied-length n (tick g)

run_length : (g : PageRead) (t : Trace Refusal) → length (page_after g t).buf ≡ length g.buf
unfolding page_after
run_length g (tr bs e ns c) = tallied-length c.opened (ink g bs) ∙ ink-length bs g

pub wrote-length : {g h : Page} {t : Trace Refusal} → Wrote g t h → length h.buf ≡ length g.buf
wrote-length {g} {h} {t} w = ap (λ (x : PageRead). length x.buf) w.is ∙ run_length (read_page g) t

pub wrote-byte : {g h : Page} {b : ℕ} → read_page h ≡ put (read_page g) b → Wrote g (writing (b ∷ [])) h
wrote-byte {g} {h} {b} e = record { is = e ∙ sym (run-say (read_page g) (b ∷ []) ∙ ink-one (read_page g) b) }

-- what catches, by the first of the pen's two numbers
pub caught-goes : {b : List ℕ} (p : Pen) {q : Pen} {u : ℕ → Trace Refusal} {k : Page} → p.stop ≡ 255 → q ≡ resumed p → Wrote (page b q) (u p.detail) k → Caught (page b p) u k
caught-goes {b} p {q} {u} {k} e f w = record { is = rw e (rw f at w.is) }

pub caught-none : (b : List ℕ) (p : Pen) {u : ℕ → Trace Refusal} → (p.stop ≡ 255 → ⊥) → Caught (page b p) u (page b p)
caught-none b p {u} h = record { is = by (eqb p.stop 0) (eqb p.stop 255) (ne_eqb p.stop 255 h) (read_page (page b p)) }
  where
    by : (x y : Bool) → y ≡ false → (g : PageRead) → g ≡ go_on (pick x No (pick y (Missing p.detail) (Refused (refusal_of p.stop p.detail)))) u g
    by true y e g = refl
    by false false e g = refl
    by false true e g = absurd (cc)

-- the same laws over the shut traces
alive : (x : Stop) → idle x ≡ false → x ≡ No
alive No e = refl
alive (Missing i) e = absurd (cc)
alive (Refused f) e = absurd (cc)

infixr 30 ◌▸◌
pub ◌▸◌ : {g h k : Page} {t u : Trace Refusal} → Wrote g t h → Wrote h u k → Wrote g (t ⨾ u) k
unfolding ◌⨾◌
e ▸ f = e ▹ f

pub wrote-ending : {g h k : Page} {t : Trace Refusal} (f : ℕ → List ℕ) (start : ℕ) → start ≡ g.pen.at → Wrote g t h → Wrote h (writing (f (last_since (read_pen h.pen) start))) k → Wrote g (ending t f) k
unfolding ending
wrote-ending f start s e w = wrote_after (λ b. writing (f b)) start s e w

pub wrote-marking : {g h k : Page} {t : Trace Refusal} {u : ℕ → Trace Refusal} → idle (read_pen g.pen).stop ≡ false → Wrote g t h → Caught h u k → Wrote g (marking t u) k
unfolding marking
wrote-marking {g} a e f = wrote-caught (alive (read_page g).pen.stop a) e f

-- A whole trace, from the start of a buffer.
ink-fits : (bs buf : List ℕ) (at l o lim : ℕ) → at + length bs ≤ lim
    → ink (under buf (record { at = at; last = l; opened = o; limit = lim; stop = No })) bs ≡ under (sets buf at bs) (record { at = at + length bs; last = last l bs; opened = o; limit = lim; stop = No })
unfolding ink last
ink-fits [] buf at l o lim h = rw add-zero
ink-fits (b ∷ bs) buf at l o lim h =
    let k : (at + 1) + length bs ≡ at + (suc (length bs)) = omega arith in
    rw (put-fits buf (record { at = at; last = l; opened = o; limit = lim; stop = No }) b refl (omega arith), ink-fits bs (set buf at b) (at + 1) b o lim (omega arith), k, add-one)

ink-over : (bs buf : List ℕ) (at l o lim : ℕ) → at ≤ lim → lim < at + length bs → (ink (under buf (record { at = at; last = l; opened = o; limit = lim; stop = No })) bs).pen.stop ≡ Refused NoRoom
unfolding ink
ink-over [] buf at l o lim h k = absurd (omega arith)
ink-over (b ∷ bs) buf at l o lim h k = by (dec_lt at lim) (λ d. ink-over bs (set buf at b) (at + 1) b o lim (omega arith) (omega arith))
  where
    by : Dec (at < lim) → (at < lim → (ink (under (set buf at b) (record { at = at + 1; last = b; opened = o; limit = lim; stop = No })) bs).pen.stop ≡ Refused NoRoom)
        → (ink (put (under buf (record { at = at; last = l; opened = o; limit = lim; stop = No })) b) bs).pen.stop ≡ Refused NoRoom
    by (yes d) rest = rw (put-fits buf (record { at = at; last = l; opened = o; limit = lim; stop = No }) b refl d) (rest d)
    by (no d) rest = rw (put_full buf (record { at = at; last = l; opened = o; limit = lim; stop = No }) b refl (omega arith), ink-halted bs (under buf (ended lim NoRoom)) refl)

-- A run of bytes that has room, and its last byte.
pub record Run (p : Pen) (s : List ℕ) (b : ℕ) : Type 0 where
  pub goes : (read_pen p).stop ≡ No
  pub fits : p.at + length s ≤ p.limit
  pub some : 0 < length s
  pub last : get_or s (length s - 1) 0 ≡ b

pub run-tells : (p : Pen) (s : List ℕ) (b r : ℕ) → Some b ≡ slice_get s (length s - 1) → r ≡ unless_stopped (read_pen p).stop (p.limit - p.at) 0 → length s ≤ r → Run p s b
run-tells p s b r f e h = by (read_pen p).stop refl (rw e at h)
  where
    inside : length s - 1 < length s
    inside = slice_get_within s (length s - 1) b (sym f)

    by : (x : Stop) → (read_pen p).stop ≡ x → length s ≤ unless_stopped x (p.limit - p.at) 0 → Run p s b
    by No w k = record { goes = w; fits = omega (arith, inside); some = omega (arith, inside); last = get_or_from_slice_get s (length s - 1) b 0 (sym f) }
    by (Missing i) w k = absurd (omega (arith, inside))
    by (Refused g) w k = absurd (omega (arith, inside))

last-at : (b : ℕ) (bs : List ℕ) (i : ℕ) → length bs ≡ suc i → last b bs ≡ get_or bs i 0
unfolding last
last-at b [] i e = absurd (omega arith)
last-at b (c ∷ []) zero e = refl
last-at b (c ∷ []) (suc i) e = absurd (omega arith)
last-at b (c ∷ d ∷ ds) zero e = absurd (omega arith)
last-at b (c ∷ d ∷ ds) (suc i) e = last-at c (d ∷ ds) i (omega arith)

-- It is written where its bytes are set.
wrote-sets : (buf out s : List ℕ) (p q : Pen) (b : ℕ) → Run p s b → out ≡ sets buf p.at s → Past p (p.at + length s) b q → Wrote (page buf p) (writing s) (page out q)
wrote-sets buf out s p q b m e f = record { is = ap₂ under e f.is ∙ sym inked }
  where
    inked : page_after (read_page (page buf p)) (writing s) ≡ under (sets buf p.at s) (record { at = p.at + length s; last = b; opened = (read_pen p).opened; limit = p.limit; stop = No })
    inked =
        run-say (read_page (page buf p)) s
        ∙ ap (λ x. ink (under buf (record { at = p.at; last = (read_pen p).last; opened = (read_pen p).opened; limit = p.limit; stop = x })) s) m.goes
        ∙ ink-fits s buf p.at (read_pen p).last (read_pen p).opened p.limit m.fits
        ∙ rw (last-at (read_pen p).last s (length s - 1) (omega (arith, m.some)), m.last)

-- It was copied to the pen's place.
pub wrote-run : (buf ys s : List ℕ) (p q : Pen) (b k : ℕ) → Run p s b → p.at + length s ≤ length buf → k ≡ length s → ys ≡ s → Past p (p.at + length s) b q
    → Wrote (page buf p) (writing s) (page (take p.at buf ++ (ys ++ drop k (drop p.at buf))) q)
wrote-run buf ys s p q b k m i e f h = wrote-sets buf _ s p q b m (rw (e, f, drop-drop, ← append_assoc) (sym (sets-eq s buf p.at i))) h

-- Or it lies past the buffer's end, where nothing is set.
sets-out : (s buf : List ℕ) (at : ℕ) → length buf ≤ at → sets buf at s ≡ buf
sets-out [] buf at h = refl
sets-out (b ∷ s) buf at h = rw (set_out buf at b h) (sets-out s buf (suc at) (omega arith))

pub wrote-past : (buf s : List ℕ) (p q : Pen) (b : ℕ) → Run p s b → length buf ≤ p.at → Past p (p.at + length s) b q → Wrote (page buf p) (writing s) (page buf q)
wrote-past buf s p q b m h f = wrote-sets buf buf s p q b m (sym (sets-out s buf p.at h)) f

-- The count of a pen that goes on, in which there is room for it.
counts : ℕ → ℕ → ℕ
counts o zero = o
counts o (suc n) = counts (next o) n

counts-add : (n o : ℕ) → o + n ≤ most → counts o n ≡ o + n
unfolding counts
counts-add zero o h = omega arith
counts-add (suc n) o h = rw (lt-ltb o most (omega arith)) (counts-add n (o + 1) (omega arith) ∙ omega arith)

tallied-goes : (n : ℕ) (b : List ℕ) (at l o lim : ℕ)
    → tallied (under b (record { at = at; last = l; opened = o; limit = lim; stop = No })) n ≡ under b (record { at = at; last = l; opened = counts o n; limit = lim; stop = No })
unfolding tallied tick counts
tallied-goes zero b at l o lim = refl
tallied-goes (suc n) b at l o lim = tallied-goes n b at l (next o) lim

-- what a text that fits leaves
pub record Ran (buf : List ℕ) (limit : ℕ) (bs : List ℕ) (n : ℕ) (b : List ℕ) (q : Pen) : Type 0 where
  pub at : q.at ≡ length bs
  pub opened : n ≤ most → (read_pen q).opened ≡ n
  pub buffer : b ≡ sets buf 0 bs
  pub room : length bs ≤ limit

end-stop : (p : PenRead) (x : Stop) → p.stop ≡ No → (end_as p x).stop ≡ x
end-stop p No e = e
end-stop p (Missing i) e = refl
end-stop p (Refused f) e = refl

module _ (buf : List ℕ) (limit : ℕ) (bs : List ℕ) (e : End Refusal) (ns : List Note) (c : Count) (b : List ℕ) (q : Pen) where
  abbrev p : PenRead
  p = record { at = 0 + length bs; last = last 0 bs; opened = counts 0 c.opened; limit = limit; stop = No }

  ran : length bs ≤ limit → page_after (under buf (record { at = 0; last = 0; opened = 0; limit = limit; stop = No })) (tr bs e ns c) ≡ under (sets buf 0 bs) (end_as p (stop_of e))
  unfolding page_after
  ran h = rw (ink-fits bs buf 0 0 0 limit (omega arith), tallied-goes c.opened (sets buf 0 bs) (0 + length bs) (last 0 bs) 0 limit) refl

  pub ran-fits : length bs ≤ limit → Wrote (page buf (record { at = 0; tally = 0; limit = limit; stop = 0; detail = 0 })) (tr bs e ns c) (page b q)
      → ((read_pen q).stop ≡ stop_of e) × ((read_pen q).stop ≡ No → Ran buf limit bs c.opened b q)
  ran-fits h w = (stops, λ n. whole (stop_of e) refl (sym stops ∙ n))
    where
      is : read_page (page b q) ≡ under (sets buf 0 bs) (end_as p (stop_of e))
      is = w.is ∙ ran h

      stops : (read_pen q).stop ≡ stop_of e
      stops = ap (λ (g : PageRead). g.pen.stop) is ∙ end-stop p (stop_of e) refl

      whole : (x : Stop) → stop_of e ≡ x → x ≡ No → Ran buf limit bs c.opened b q
      whole x y z =
          let k : read_page (page b q) ≡ under (sets buf 0 bs) p = is ∙ ap (λ x. under (sets buf 0 bs) (end_as p x)) (y ∙ z) in
          record {
            at = ap (λ (g : PageRead). g.pen.at) k ∙ zero-add (length bs);
            opened = λ f. ap (λ (g : PageRead). g.pen.opened) k ∙ counts-add c.opened 0 (omega arith) ∙ zero-add c.opened;
            buffer = ap (λ (g : PageRead). g.buf) k;
            room = h;
          }

  pub ran_over : limit < length bs → Wrote (page buf (record { at = 0; tally = 0; limit = limit; stop = 0; detail = 0 })) (tr bs e ns c) (page b q) → (read_pen q).stop ≡ Refused NoRoom
  unfolding page_after
  ran_over h w =
      let g = under buf (record { at = 0; last = 0; opened = 0; limit = limit; stop = No }) in
      let s : (ink g bs).pen.stop ≡ Refused NoRoom = ink-over bs buf 0 0 0 limit (omega arith) (omega arith) in
      let k : Halted (ink g bs) = rw s refl in
      ap (λ (g : PageRead). g.pen.stop) w.is
      ∙ ap (λ (g : PageRead). (finish g (stop_of e)).pen.stop) (tallied-halted c.opened (ink g bs) k)
      ∙ ap (λ (g : PageRead). g.pen.stop) (finish-halted (ink g bs) (stop_of e) k) ∙ s
