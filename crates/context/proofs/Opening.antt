-- The laws of opening, for every task that opens an index: what stops there, and what goes on where it is open. Assumes nothing.
use Prim.Native.Nat.{ℕ, ◌+◌, ◌-◌, ◌≤◌, ◌<◌}
use mathlib.Core.Path.{◌≡◌, refl, ap, ap₂, sym, ◌∙◌}
use mathlib.Core.List.{List, [], ◌∷◌}
use mathlib.Core.Bool.{Bool, true, false, ◌||◌}
use lib.Dec.{eqb, leb}
use lib.ListN.{length, drop, set, length-set, length-drop, drop_of_length-le}
use lib.Seq.{drop-drop, drop-set-lt}
use native.Mathlib.Omega.{arith}
use borrow.Author.Tests.{lt-leb, le-leb, eqb-true, eqb-false}
use Rattle.std.specs.Prelude.{Result, Ok, Err}
use Rattle.wire.specs.Field.{pick}
use Rattle.streams.specs.Refusal.{number_of, detail_of}
use Rattle.streams.specs.declared.refusal.Refusal.{Refusal}
use Rattle.streams.specs.declared.refusal.Refusal.TheVariants.{CircularTypeDefinition, TooManyOpen}
use Rattle.codeview.specs.declared.record.TypeData.{TypeData}
use Rattle.interpreter.specs.Trace.{Trace, tr, halted, again, deep, count, prefix, Key, key, Held, held, through, opens, is_open, exec, strict, refuse}
use Rattle.interpreter.specs.Trace as trace
use Rattle.interpreter.proofs.Laws.{walk_through, walk-again, walk-deep, walk-open}
use Rattle.rules.specs.Flags.{Settings}
use Rattle.rules.specs.Places.{table_by, read_near, Lent, table_in}
use Rattle.rules.specs.Record.{Record, good, bad, Table, type_contents, type_as_read}
use Rattle.rules.specs.Task.{Task, Rule, inside, unread}
use Rattle.rules.specs.Opening.{same_index, entry_of, body, rank, walked, ruled}
use Rattle.rules.proofs.Rank.{ranked}
use Rattle.pen.specs.Page.{Page, page, Wrote, Caught, read_pen, idle, gone, opened_pen, unread_trace, writing, last_since, step, opened, stop_of, ◌⨾◌, ending, marking}
use Rattle.pen.specs.declared.Pen.{Pen}
use Rattle.pen.proofs.Laws.{◌▸◌, wrote_by, wrote-ending, wrote-marking, wrote-length, wrote-idle, wrote-stop, wrote-opened, refused-alive}
use Rattle.context.specs.declared.flags.Call.{Call}
use Rattle.context.specs.declared.seen.Way.{Way}
use Rattle.context.specs.Context.{settings_of, keys_of, has_index, holding}
use Rattle.context.specs.Opening.{way_of, noted, Leaves, leaves, opens_to, Opens, Writes}
use Rattle.context.proofs.Laws.{keys_push, keys_length, drop-push}

-- An index is open whatever the way.
open_is : (w i : ℕ) (o : List Key) → is_open same_index (key w i) o ≡ has_index i o
unfolding is_open same_index has_index
open_is w i [] = refl
open_is w i (k ∷ o) = ap (λ b. eqb k.index i || b) (open_is w i o)

-- An index taken up and opened.
opened-twice : (t : Trace Refusal) → prefix [] [] (count 1 1) t ≡ prefix [] [] (count 0 1) (prefix [] [] (count 1 0) t)
opened-twice (tr bs e ns c) =
    let a : 1 + c.opened ≡ 0 + (1 + c.opened) = omega arith in
    let b : 1 + c.taken ≡ 1 + (0 + c.taken) = omega arith in
    ap₂ (λ (i j : ℕ). tr bs e ns (count i j)) a b

-- The walk of what was not read, and of a choice.
module _ (c : Settings) (t : Table) (h : Held) where
  pub ruled-pick : (b : Bool) (p q : Rule) → ruled c t h (pick b p q) ≡ pick b (ruled c t h p) (ruled c t h q)
  ruled-pick true p q = refl
  ruled-pick false p q = refl

  pub unread-is : (f : Refusal) → unread_trace f ≡ ruled c t h (unread f)
  unfolding unread unread_trace ruled exec
  unread-is f = sym (ruled-pick (eqb (number_of f) 8) (trace.miss (detail_of f)) (refuse f))

-- A pen that has stopped is no pen that goes on.
alive : (q : Pen) → idle (read_pen q).stop ≡ true → idle (read_pen q).stop ≡ false → ⊥
alive q e f = let z : ◌≡◌ {A = ℕ} 0 1 = cc in omega arith

-- What is known of an index that was opened in a list of 96: there was room, it comes right before the others, which stay, and the pen, which had not stopped, counts it.
pub record In (p : Pen) (list : List ℕ) (left : ℕ) (w : Way) (i : ℕ) (l : List ℕ) (q : Pen) (n : ℕ) : Type 0 where
  pub free : has_index i (keys_of (drop left list)) ≡ false
  pub few : length (drop left list) < 96
  pub next : n + 1 ≡ left
  pub all : length l ≡ 96
  pub first : drop n l ≡ noted w i ∷ drop left list
  pub kept : drop left l ≡ drop left list
  pub goes : idle (read_pen p).stop ≡ false
  pub pen : q ≡ opened_pen p
  pub small : i < 4_294_967_296

module _ {p : Pen} {list : List ℕ} {left : ℕ} {w : Way} {i : ℕ} {l : List ℕ} {q : Pen} (s : Opens p list left w i l q) (room : length list ≡ 96) (low : left ≤ 96) where
  pub open_in : idle (read_pen q).stop ≡ false → In p list left w i l q (left - 1)
  unfolding opens_to
  open_in e = by (idle (read_pen p).stop) (has_index i (keys_of (drop left list))) (eqb left 0) refl refl refl s.is
    where
      by : (a b f : Bool) → idle (read_pen p).stop ≡ a → has_index i (keys_of (drop left list)) ≡ b → eqb left 0 ≡ f
          → leaves l q
          ≡ pick a (leaves list p)
          (pick b (leaves list (gone p.limit (CircularTypeDefinition i)))
          (pick f (leaves list (gone p.limit (TooManyOpen i)))
          (leaves (set list (left - 1) (noted w i)) (opened_pen p))))
          → In p list left w i l q (left - 1)
      by true b f v x y k =
          let same : q ≡ p = ap (λ (a : Leaves). a.pen) k in
          absurd (alive q (ap (λ (u : Pen). idle (read_pen u).stop) same ∙ v) e)
      by false true f v x y k =
          let same : q ≡ gone p.limit (CircularTypeDefinition i) = ap (λ (a : Leaves). a.pen) k in
          absurd (alive q (ap (λ (u : Pen). idle (read_pen u).stop) same) e)
      by false false true v x y k =
          let same : q ≡ gone p.limit (TooManyOpen i) = ap (λ (a : Leaves). a.pen) k in
          absurd (alive q (ap (λ (u : Pen). idle (read_pen u).stop) same) e)
      by false false false v x y k =
          let on : l ≡ set list (left - 1) (noted w i) = ap (λ (a : Leaves). a.list) k in
          let some : left ≡ 0 → ⊥ = eqb-false left 0 y in
          let h : 0 < left = omega arith in
          let size : length (drop left list) ≡ length list - left = length-drop left list in
          let below : left - 1 < left = omega arith in
          record {
            free = x;
            few = omega arith;
            next = omega arith;
            all = ap length on ∙ length-set list (left - 1) (noted w i) ∙ room;
            first = rw on (drop-push list left (noted w i) h (omega arith));
            kept = ap (drop left) on ∙ drop-set-lt left list (left - 1) (noted w i) below;
            goes = v;
            pen = ap (λ (a : Leaves). a.pen) k;
            small = s.small;
          }

-- What was open before is kept where what is open after an opening is.
in_kept : {p : Pen} {list : List ℕ} {left : ℕ} {w : Way} {i : ℕ} {l : List ℕ} {q : Pen} {n : ℕ} (m : List ℕ) → In p list left w i l q n → drop n m ≡ drop n l → drop left m ≡ drop left list
in_kept {left = left} {l = l} {n = n} m k e =
    let a : drop 1 (drop n m) ≡ drop left m = drop-drop 1 n m ∙ ap (λ (j : ℕ). drop j m) k.next in
    let b : drop 1 (drop n l) ≡ drop left l = drop-drop 1 n l ∙ ap (λ (j : ℕ). drop j l) k.next in
    sym a ∙ ap (drop 1) e ∙ b ∙ k.kept

-- What is written without the list, and the same writing by what was open at another time.
pub plain : {left : ℕ} {list : List ℕ} {g h : Page} {t : Trace Refusal} → Wrote g t h → Writes left list list g (λ o. t) h
plain w = record { wrote = w; kept = refl }

pub unlent : {left : ℕ} {list : List ℕ} {g h : Page} {t : List ℕ → Trace Refusal} → Wrote g (t (drop left list)) h → Writes left list list g t h
unlent w = record { wrote = w; kept = refl }

pub wrote_at : {left : ℕ} {list l o : List ℕ} {g h : Page} {t : List ℕ → Trace Refusal} → Writes left list l g t h → drop left list ≡ o → Wrote g (t o) h
wrote_at {t = t} a e = wrote_by a.wrote (ap t e)

-- And by what is open at first, in a list that is lent whole: nothing.
pub wrote-first : {list l : List ℕ} {g h : Page} {t : List ℕ → Trace Refusal} → Writes 96 list l g t h → length list ≡ 96 → Wrote g (t []) h
wrote-first {list} a e = wrote_at a (drop_of_length-le list {i = 96} (omega arith))

-- Writers that are lent the list, one after another; what is written by the last byte; what goes on where an index was missing; the same writing by another
-- name for its trace.
infixr 30 ◌▸▸◌
pub ◌▸▸◌ : {left : ℕ} {list l m : List ℕ} {g h k : Page} {t u : List ℕ → Trace Refusal} → Writes left list l g t h → Writes left l m h u k → Writes left list m g (λ o. t o ⨾ u o) k
a ▸▸ b = record { wrote = a.wrote ▸ wrote_at b a.kept; kept = b.kept ∙ a.kept }

pub writes-ending : {left : ℕ} {list l : List ℕ} {g h k : Page} {t : List ℕ → Trace Refusal} (f : ℕ → List ℕ) (start : ℕ) → start ≡ g.pen.at → Writes left list l g t h
    → Wrote h (writing (f (last_since (read_pen h.pen) start))) k → Writes left list l g (λ o. ending (t o) f) k
writes-ending f start s a w = record { wrote = wrote-ending f start s a.wrote w; kept = a.kept }

pub writes-marking : {left : ℕ} {list l : List ℕ} {g h k : Page} {t : List ℕ → Trace Refusal} {u : ℕ → Trace Refusal} → idle (read_pen g.pen).stop ≡ false → Writes left list l g t h
    → Caught h u k → Writes left list l g (λ o. marking (t o) u) k
writes-marking e a f = record { wrote = wrote-marking e a.wrote f; kept = a.kept }

pub writes-by : {left : ℕ} {list l : List ℕ} {g h : Page} {t u : List ℕ → Trace Refusal} → Writes left list l g t h → t (drop left list) ≡ u (drop left list) → Writes left list l g u h
writes-by a e = record { wrote = wrote_by a.wrote e; kept = a.kept }

pub writes-length : {left : ℕ} {list l : List ℕ} {g h : Page} {t : List ℕ → Trace Refusal} → Writes left list l g t h → length h.buf ≡ length g.buf
writes-length a = wrote-length a.wrote

module _ (s : List ℕ) (d : Lent) (call : Call) where
  abbrev c : Settings
  c = settings_of call

  abbrev t : Table
  t = table_in s d

  module _ (o : List ℕ) where
    abbrev h : Held
    h = holding call o

    -- What was read.
    pub read-good : (i : ℕ) (r : Result TypeData Refusal) (x : TypeData) → r ≡ read_near s d.near i → r ≡ Ok x → t.types i ≡ good (type_contents s x)
    unfolding table_in table_by type_as_read
    read-good i r x e f = let k : read_near s d.near i ≡ Ok x = cc in rw k

    pub read-bad : (i : ℕ) (r : Result TypeData Refusal) (f : Refusal) → r ≡ read_near s d.near i → r ≡ Err f → t.types i ≡ bad f
    unfolding table_in table_by type_as_read
    read-bad i r f e g = let k : read_near s d.near i ≡ Err f = cc in rw k

    pub walk-on : (q : Task) (p : Rule) → entry_of c t q ≡ through → body c t q ≡ p → step ⨾ ruled c t h p ≡ walked c t h q
    unfolding walked ruled step ◌⨾◌
    walk-on q p e k = rw (← k) (walk_through same_index (entry_of c t) (body c t) rank (ranked c t) h q e)

    -- A task that opens an index.
    module _ (x : Task) (w : Way) (i : ℕ) (e : entry_of c t x ≡ opens (key (way_of w) i)) where
      again-is : has_index i (keys_of o) ≡ true → tr [] (halted (again i)) [] (count 0 1) ≡ walked c t h x
      unfolding walked holding
      again-is a = walk-again same_index (entry_of c t) (body c t) rank (ranked c t) h x (key (way_of w) i) e (open_is (way_of w) i (keys_of o) ∙ a)

      deep_is : has_index i (keys_of o) ≡ false → 96 ≤ length o → tr [] (halted (deep i)) [] (count 0 1) ≡ walked c t h x
      unfolding walked holding
      deep_is a f = walk-deep same_index (entry_of c t) (body c t) rank (ranked c t) h x (key (way_of w) i) e (open_is (way_of w) i (keys_of o) ∙ a) (ap (leb 96) (keys_length o) ∙ le-leb 96 (length o) f)

      open-then : (m : List ℕ) (k : Rule) → has_index i (keys_of o) ≡ false → length o < 96 → i < 4_294_967_296 → m ≡ noted w i ∷ o → body c t x ≡ k
          → opened ⨾ ruled c t (holding call m) k ≡ walked c t h x
      unfolding walked ruled holding opened ◌⨾◌
      open-then m k free few small first e₀ =
          let f : leb 96 (length (keys_of o)) ≡ false = rw (keys_length o) (lt-leb 96 (length o) few) in
          rw (keys_push o m (way_of w) i small first, ← e₀)
          (opened-twice (exec strict (λ u. walked c t (held call.chain (key (way_of w) i ∷ keys_of o)) u) (body c t x))
          ∙ walk-open same_index (entry_of c t) (body c t) rank (ranked c t) h x (key (way_of w) i) e (open_is (way_of w) i (keys_of o) ∙ free) f)

  -- The same in a list of 96, where those from `left` on are open: the walk by what is open.
  module _ (list : List ℕ) (left : ℕ) (x : Task) (w : Way) (i : ℕ) (e : entry_of c t x ≡ opens (key (way_of w) i)) where
    abbrev walk : List ℕ → Trace Refusal
    walk o = walked c t (holding call o) x

    -- It is not opened: 12, or 13, or the pen had stopped before.
    pub stopped-then : {p q : Pen} {l : List ℕ} (b : List ℕ) → Opens p list left w i l q → length list ≡ 96 → left ≤ 96 → idle (read_pen q).stop ≡ true
        → Writes left list l (page b p) walk (page b q)
    unfolding opens_to stop_of opened_pen
    stopped-then {p} {q} {l} b s room low h =
        by (idle (read_pen p).stop) (has_index i (keys_of (drop left list))) (eqb left 0) refl refl refl s.is
      where
        by : (y z f : Bool) → idle (read_pen p).stop ≡ y → has_index i (keys_of (drop left list)) ≡ z → eqb left 0 ≡ f
            → leaves l q
            ≡ pick y (leaves list p)
            (pick z (leaves list (gone p.limit (CircularTypeDefinition i)))
            (pick f (leaves list (gone p.limit (TooManyOpen i)))
            (leaves (set list (left - 1) (noted w i)) (opened_pen p))))
            → Writes left list l (page b p) walk (page b q)
        by true z f a g j m =
            let same : q ≡ p = ap (λ (a : Leaves). a.pen) m in
            record { wrote = rw same (wrote-idle a); kept = ap (λ (a : Leaves). drop left a.list) m }
        by false true f a g j m =
            let same : q ≡ gone p.limit (CircularTypeDefinition i) = ap (λ (a : Leaves). a.pen) m in
            record {
              wrote = wrote_by (wrote-stop b p q (halted (again i)) 1 (CircularTypeDefinition i) refl (same ∙ sym (refused-alive p (CircularTypeDefinition i) a)))
                  (again-is (drop left list) x w i e g);
              kept = ap (λ (a : Leaves). drop left a.list) m;
            }
        by false false true a g j m =
            let same : q ≡ gone p.limit (TooManyOpen i) = ap (λ (a : Leaves). a.pen) m in
            let none : left ≡ 0 = eqb-true left 0 j in
            let size : length (drop left list) ≡ length list - left = length-drop left list in
            let full : 96 ≤ length (drop left list) = omega arith in
            record {
              wrote = wrote_by (wrote-stop b p q (halted (deep i)) 1 (TooManyOpen i) refl (same ∙ sym (refused-alive p (TooManyOpen i) a)))
                  (deep_is (drop left list) x w i e g full);
              kept = ap (λ (a : Leaves). drop left a.list) m;
            }
        by false false false a g j m = absurd (alive q h (ap (λ (l : Leaves). idle (read_pen l.pen).stop) m ∙ a))

    -- It is opened, and what is then done is done with it open: of a page, for an index that is opened by itself or in a list of its own.
    pub opened-then : {p q : Pen} {l m : List ℕ} {n : ℕ} {g : Page} (b : List ℕ) (k : Rule) → In p list left w i l q n → body c t x ≡ k
        → Writes n l m (page b q) (λ o. ruled c t (holding call o) k) g → Writes left list m (page b p) walk g
    opened-then {p} {q} {l} {m} {n} b k z e₀ v =
        record {
          wrote = wrote_by (wrote-opened b p q z.goes z.pen ▸ v.wrote) (open-then (drop left list) x w i e (drop n l) k z.free z.few z.small z.first e₀);
          kept = in_kept m z v.kept;
        }

    -- And for one that is opened and then read: k is what the rule does with its record.
    module _ (k : Record → Rule) (e₁ : body c t x ≡ inside (t.types i) k) {p q : Pen} {l : List ℕ} (b : List ℕ)
        (z : Opens p list left w i l q) (room : length list ≡ 96) (low : left ≤ 96) (go : idle (read_pen q).stop ≡ false) {r : (Result TypeData Refusal)} (y : r ≡ read_near s d.near i) where
      pub type-open : {a : TypeData} {m : List ℕ} {g : Page} → r ≡ Ok a → Writes (left - 1) l m (page b q) (λ o. ruled c t (holding call o) (k (type_contents s a))) g
          → Writes left list m (page b p) walk g
      type-open {a} f v = opened-then b (k (type_contents s a)) (open_in z room low go) (e₁ ∙ rw (read-good (drop left list) i r a y f)) v

      pub type-bad : {f : Refusal} {g : Page} → r ≡ Err f → Wrote (page b q) (unread_trace f) g → Writes left list l (page b p) walk g
      type-bad {f} h v =
          opened-then b (unread f) (open_in z room low go) (e₁ ∙ rw (read-bad (drop left list) i r f y h))
          (unlent (wrote_by v (unread-is c t (holding call (drop (left - 1) l)) f)))
