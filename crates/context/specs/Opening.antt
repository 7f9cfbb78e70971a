-- What comes of opening an index: the list, and the answer (document 01, "Writing rules": opening).
use Rattle.std.specs.Prelude.{ℕ, ◌+◌, ◌-◌, ◌*◌, ◌<◌, ◌≡◌, List, drop, set, eqb}
use Rattle.wire.specs.Field.{pick}
use Rattle.streams.specs.declared.refusal.Refusal.{Refusal}
use Rattle.streams.specs.declared.refusal.Refusal.TheVariants.{CircularTypeDefinition, TooManyOpen}
use Rattle.interpreter.specs.Trace.{Trace}
use Rattle.pen.specs.Page.{Page, Wrote, read_pen, idle, gone, opened_pen}
use Rattle.pen.specs.declared.Pen.{Pen}
use Rattle.context.specs.Context.{keys_of, has_index}
use Rattle.context.specs.declared.seen.Way.{Way}
use Rattle.context.specs.declared.seen.Way.TheVariants as way

-- The numbers by which the rules tell the ways apart.
abbrev pub way_of : Way → ℕ
way_of way.Function = 0
way_of way.Itself = 1
way_of way.Target = 2
way_of way.TargetOfModifier = 3
way_of way.Modified = 4
way_of way.List = 5

-- An open index with its way, packed in one number.
abbrev pub noted : Way → ℕ → ℕ
noted w i = way_of w * 4_294_967_296 + i

-- The list at exit with the pen.
pub record Leaves : Type 0 where
  pub list : List ℕ
  pub pen : Pen

abbrev pub leaves : List ℕ → Pen → Leaves
leaves l q = record { list = l; pen = q }

-- A stopped pen opens nothing; "12 is tested before 13"; an index that is opened is written right below those that are open, and the pen counts it.
unfoldable pub opens_to : Pen → List ℕ → ℕ → Way → ℕ → Leaves
opens_to p list left w i =
    pick (idle (read_pen p).stop) (leaves list p)
    (pick (has_index i (keys_of (drop left list))) (leaves list (gone p.limit (CircularTypeDefinition i)))
    (pick (eqb left 0) (leaves list (gone p.limit (TooManyOpen i)))
    (leaves (set list (left - 1) (noted w i)) (opened_pen p))))

-- What `open_index` leaves; the index is a u32.
pub record Opens (p : Pen) (list : List ℕ) (left : ℕ) (w : Way) (i : ℕ) (l : List ℕ) (q : Pen) : Type 0 where
  pub is : leaves l q ≡ opens_to p list left w i
  pub small : i < 4_294_967_296

-- What a writer leaves that is lent the list: the page h is what the trace makes of the page g, by those that are open; and these stay as they are, at exit too.
pub record Writes (left : ℕ) (list l : List ℕ) (g : Page) (t : List ℕ → Trace Refusal) (h : Page) : Type 0 where
  pub wrote : Wrote g (t (drop left list)) h
  pub kept : drop left l ≡ drop left list
