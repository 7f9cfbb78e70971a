-- Pieces of text: numbers, marks, names of primitives and classes, signs (document 01, "Writing rules"; 000's texts).
use Rattle.std.specs.Prelude.{ℕ, zero, suc, ◌+◌, ◌*◌, ◌/◌, ◌%◌, ◌^◌, Bool, true, false, ◌||◌, ◌&&◌, not, List, [], ◌∷◌, ◌++◌, eqb, ltb, leb, take, drop}
use Prim.Native.String.{String}
use Rattle.wire.specs.Field.{pick}
use Rattle.wire.specs.Text.{bytes}
use Rattle.primitives.specs.Primitive.{primitives, first_of}
use Rattle.codeview.specs.declared.record.PointerMode.{PointerMode}
use Rattle.codeview.specs.declared.record.PointerMode.TheVariants as mode
use Rattle.codeview.specs.declared.record.ClassKind.{ClassKind}
use Rattle.codeview.specs.declared.record.ClassKind.TheVariants as kind
use Rattle.rules.specs.Flags.{Settings}

-- A digit below 16: `0` to `9`, then `a` to `f` ("Hex is lower case without leading zeros").
unfoldable pub digit : ℕ → ℕ
digit n = pick (ltb n 10) (48 + n) (87 + n)

-- A number to a base, in at most so many digits.
unfoldable pub numeral : ℕ → ℕ → ℕ → List ℕ
numeral base zero n = []
numeral base (suc f) n = pick (ltb n base) (digit n ∷ []) (numeral base f (n / base) ++ digit (n % base) ∷ [])

-- An index or a kind in hexadecimal, a u32 in 8 digits at most; a count in decimal, a u64 in 20 at most.
unfoldable pub hex : ℕ → List ℕ
hex n = numeral 16 8 n

unfoldable pub decimal : ℕ → List ℕ
decimal n = numeral 10 20 n

-- "`<missing type 0x..>` and `<unimplemented type kind 0x..>` replace an index written by itself."
unfoldable pub missing_mark : ℕ → List ℕ
missing_mark index = bytes "<missing type 0x" ++ (hex index ++ bytes ">")

unfoldable pub unimplemented_mark : ℕ → List ℕ
unimplemented_mark kind = bytes "<unimplemented type kind 0x" ++ (hex kind ++ bytes ">")

-- "Types 0x1203, 0x1205, 0x1206 write `unhandled type /* 0x1203 */` with their kind, ids .. `<unhandled id scope 0x1603>::`."
unfoldable pub unhandled_type : ℕ → List ℕ
unhandled_type kind = bytes "unhandled type /* 0x" ++ (hex kind ++ bytes " */")

unfoldable pub unhandled_scope : ℕ → List ℕ
unhandled_scope kind = bytes "<unhandled id scope 0x" ++ (hex kind ++ bytes ">::")

-- "Empty function names are `<name omitted>`."
unfoldable pub function_name : List ℕ → List ℕ
function_name [] = bytes "<name omitted>"
function_name (b ∷ bs) = b ∷ bs

-- The name and the byte size of a primitive's kind.
unfoldable pub primitive_name : ℕ → List ℕ
primitive_name code = first_of code primitives (λ k. k.name) []

unfoldable pub primitive_size : ℕ → ℕ
primitive_size code = first_of code primitives (λ k. k.size) 0

-- A primitive as 000 writes it, with the const of its modifier: before the name, or behind it where it is pointed to.
unfoldable pub primitive_text : Settings → Bool → ℕ → ℕ → List ℕ
primitive_text c constant code zero = pick constant (bytes "const ") [] ++ primitive_name code
primitive_text c constant code (suc n) =
    primitive_name code ++ (pick constant (bytes " const") [] ++ (pick c.space_pointer (bytes " ") [] ++ bytes "*"))

-- A name behind the word for its kind; NAME_ONLY writes the name alone.
unfoldable pub worded : Settings → String → List ℕ → List ℕ
worded c word name = pick c.name_only name (bytes word ++ (bytes " " ++ name))

unfoldable pub class_text : Settings → ClassKind → List ℕ → List ℕ
class_text c kind.Class name = worded c "class" name
class_text c kind.Struct name = worded c "struct" name
class_text c kind.Interface name = worded c "interface" name

-- One pointer on the way to a type: whether it is const, whether what it points to is, and its sign.
pub record Level : Type 0 where
  pub constant : Bool
  pub pointee : Bool
  pub mode : PointerMode

abbrev pub level : Bool → Bool → PointerMode → Level
level constant pointee mode = record { constant = constant; pointee = pointee; mode = mode }

-- A modifier between a pointer and what it points to: its const is that of the last level.
unfoldable pub over_pointee : Bool → List Level → List Level
over_pointee constant [] = []
over_pointee constant (l ∷ ls) = level l.constant constant l.mode ∷ ls

unfoldable pub sign : PointerMode → List ℕ
sign mode.Pointer = bytes "*"
sign mode.LValueReference = bytes "&"
sign mode.Member = bytes "::*"
sign mode.MemberFunction = bytes "::*"
sign mode.RValueReference = bytes "&&"

-- The levels, the innermost first, as `emit_attributes` writes them: `free` where a space may stand, `signed` where a sign stands right before.
unfoldable pub levels : Settings → Bool → Bool → List Level → List ℕ
levels c free signed [] = []
levels c free signed (l ∷ ls) =
    pick l.pointee (pick free (bytes " const") (bytes "const")) []
    ++ (pick (c.space_pointer && (not (signed && not l.pointee) && (free || l.pointee))) (bytes " ") []
    ++ (sign l.mode
    ++ (pick l.constant (bytes " const") []
    ++ levels c true (not l.constant) ls)))

-- Whether a text ends in a sign.
unfoldable pub ends_signed : List ℕ → Bool
ends_signed [] = false
ends_signed (b ∷ []) = eqb b 42 || eqb b 38
ends_signed (b ∷ d ∷ bs) = ends_signed (d ∷ bs)

-- The levels of an array, their bytes the innermost first: "each level's bytes divided by the next level's, the last by the base size; `[]` for a zero
-- divisor."
unfoldable pub bracket : ℕ → ℕ → List ℕ
bracket bytes₀ zero = bytes "[]"
bracket bytes₀ (suc n) = bytes "[" ++ (decimal (bytes₀ / suc n) ++ bytes "]")

unfoldable pub brackets : ℕ → List ℕ → List ℕ
brackets size [] = []
brackets size (b ∷ bs) = brackets b bs ++ bracket b size

-- The value of a hexadecimal digit of either case, handed on, or what is said of any other byte.
unfoldable pub hex_digit : {A : Type 0} → ℕ → (ℕ → A) → A → A
hex_digit b value other =
    pick (leb 48 b && ltb b 58) (value (b % 48))
    (pick (leb 65 b && ltb b 71) (value (b % 65 + 10))
    (pick (leb 97 b && ltb b 103) (value (b % 97 + 10))
    other))

-- Whether bytes are hexadecimal digits of a number below 2^32, those before them taken into account.
unfoldable pub hex_below : ℕ → List ℕ → Bool
hex_below n [] = ltb n (2 ^ 32)
hex_below n (b ∷ bs) = hex_digit b (λ d. hex_below (n * 16 + d) bs) false

-- At least one such digit; and the same with one `+` allowed before them.
unfoldable pub hex_number : List ℕ → Bool
hex_number [] = false
hex_number (b ∷ bs) = hex_below 0 (b ∷ bs)

unfoldable pub plus_number : List ℕ → Bool
plus_number [] = false
plus_number (b ∷ bs) = pick (eqb b 43) (hex_number bs) (hex_number (b ∷ bs))

-- Two runs of bytes that are the same.
unfoldable pub same_bytes : List ℕ → List ℕ → Bool
same_bytes [] [] = true
same_bytes [] (b ∷ bs) = false
same_bytes (a ∷ al) [] = false
same_bytes (a ∷ al) (b ∷ bs) = eqb a b && same_bytes al bs

-- "A string `?A0x` and hex digits (one `+` allowed, value below 2^32) is `` `anonymous namespace' ``."
unfoldable pub is_anonymous_namespace : List ℕ → Bool
is_anonymous_namespace name = same_bytes (take 4 name) (bytes "?A0x") && plus_number (drop 4 name)

unfoldable pub string_text : List ℕ → List ℕ
string_text name = pick (is_anonymous_namespace name) (bytes "`anonymous namespace'") name
