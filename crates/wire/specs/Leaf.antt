-- Numeric leaves: a number of CodeView that says its own width (cvinfo.h, LF_NUMERIC).
use Rattle.std.specs.Prelude.{ℕ, zero, suc, ◌+◌, Bool, true, false, List, eqb, ltb, Option, Some, None}
use Rattle.wire.specs.Field.{pick, field}
use Rattle.wire.specs.declared.leaf.Leaf.{Leaf}

-- The width of the number after a lead that a size may have; 0 for any other ("a size number not below 0x8000 nor led by 0x8002, 0x8004, 0x800A").
unfoldable pub size_width : ℕ → ℕ
size_width lead = pick (eqb lead 0x8002) 2 (pick (eqb lead 0x8004) 4 (pick (eqb lead 0x800A) 8 0))

-- The same for an enumerate's value, which may be signed too ("Enumerate values take also 0x8000, 0x8001, 0x8003, 0x8009").
unfoldable pub value_width : ℕ → ℕ
value_width lead =
    pick (eqb lead 0x8000) 1
    (pick (eqb lead 0x8001) 2
    (pick (eqb lead 0x8003) 4
    (pick (eqb lead 0x8009) 8
    (size_width lead))))

-- The widths that the leads of a leaf may give: of an enumerate's value, or of a size.
unfoldable pub width_of : Bool → ℕ → ℕ
width_of true lead = value_width lead
width_of false lead = size_width lead

-- The number of a width after its lead: its value, its width and the place behind it. No number has width 0.
unfoldable pub payload : {A : Type 0} → ℕ → List ℕ → ℕ → (ℕ → ℕ → ℕ → A) → A → A
payload zero s at read unread = unread
payload (suc w) s at read unread = field (suc w) s at (λ value. read value (suc w) (at + suc w)) unread

-- A numeric leaf at a place, with the widths that its leads may give: a lead below 0x8000 is the number itself, of width 2 ("one below 0x8000 has size 2").
unfoldable pub leaf : {A : Type 0} → (ℕ → ℕ) → List ℕ → ℕ → (ℕ → ℕ → ℕ → A) → A → A
leaf width_of s at read unread =
    field 2 s at
    (λ lead. pick (ltb lead 0x8000) (read lead 2 (at + 2)) (payload (width_of lead) s (at + 2) read unread))
    unread

-- The same, as the code answers it.
abbrev pub payload_answer : ℕ → List ℕ → ℕ → Option Leaf
payload_answer width s at = payload width s at (λ v w n. Some (record { value = v; width = w; next = n })) None

abbrev pub leaf_answer : (ℕ → ℕ) → List ℕ → ℕ → Option Leaf
leaf_answer width_of s at = leaf width_of s at (λ v w n. Some (record { value = v; width = w; next = n })) None
