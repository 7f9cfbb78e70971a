-- What the functions here give, where the standard has no name for it.
use Rattle.std.specs.Prelude.{ℕ, zero, suc, List, [], ◌∷◌, Result, Ok, Err, get_or, drop}
use Rattle.wire.specs.Field.{pick}
use Rattle.utf8.specs.Utf8.{behind, is_whole, reach}

-- The part at a place, by its length: a well-formed sequence, or what is ill-formed there.
abbrev pub part_len : List ℕ → ℕ → ℕ
part_len s at = suc (reach (behind (get_or s at 0)) (drop (suc at) s))

abbrev pub part_at : List ℕ → ℕ → Result ℕ ℕ
part_at s at = pick (is_whole (behind (get_or s at 0)) (drop (suc at) s)) (Ok (part_len s at)) (Err (part_len s at))

-- How long the longest well-formed beginning is; the first n bytes are of a sequence that is in it.
unfoldable pub run_past : ℕ → List ℕ → ℕ
run_past n [] = 0
run_past zero (b ∷ bs) = pick (is_whole (behind b) bs) (suc (run_past (reach (behind b) bs) bs)) 0
run_past (suc n) (b ∷ bs) = suc (run_past n bs)

unfoldable pub run : List ℕ → ℕ
run s = run_past 0 s
