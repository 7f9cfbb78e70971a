-- The pieces of a text are well-formed UTF-8 where the names in them are: all else in them is ASCII. Assumes nothing.
use Prim.Native.Nat.{ℕ, zero, suc, ◌+◌, ◌/◌, ◌%◌, ◌<◌, ◌≤◌}
use native.Mathlib.Omega.{arith}
use mathlib.Core.Path.{◌≡◌, refl}
use mathlib.Core.Bool.{Bool, true, false, ◌&&◌, ◌||◌, not}
use mathlib.Core.List.{List, [], ◌∷◌, ◌++◌}
use lib.Dec.{eqb, ltb}
use borrow.Author.Tests.{lt-ltb, ltb-true}
use Rattle.wire.specs.Field.{pick}
use Rattle.wire.specs.Text.{bytes}
use Rattle.primitives.specs.Primitive.{Kind, primitives, first_of}
use Rattle.codeview.specs.declared.record.PointerMode.{PointerMode}
use Rattle.codeview.specs.declared.record.PointerMode.TheVariants as mode
use Rattle.codeview.specs.declared.record.ClassKind.{ClassKind}
use Rattle.codeview.specs.declared.record.ClassKind.TheVariants as kind
use Rattle.utf8.specs.Utf8.{WellFormed}
use Rattle.utf8.proofs.Shown.{never, all_ascii, all_append, well-append, well-ascii}
use Rattle.rules.specs.Flags.{Settings}
use Rattle.rules.specs.Text.{digit, numeral, hex, decimal, missing_mark, unimplemented_mark, unhandled_type, unhandled_scope, function_name, primitive_name, primitive_text, worded, class_text, Level, sign, levels, bracket, brackets, is_anonymous_namespace, string_text}

-- Digits and numbers.
digit-ascii : (n : ℕ) → n < 16 → all_ascii (digit n ∷ []) ≡ true
unfolding digit all_ascii
digit-ascii n h = by (ltb n 10)
  where
    by : (t : Bool) → (ltb (pick t (48 + n) (87 + n)) 0x80 && true) ≡ true
    by true = rw (lt-ltb (48 + n) 0x80 (omega arith)) refl
    by false = rw (lt-ltb (87 + n) 0x80 (omega arith)) refl

numeral-ascii : (base : ℕ) → base ≤ 16 → ((n : ℕ) → n % base < 16) → (f n : ℕ) → all_ascii (numeral base f n) ≡ true
unfolding numeral all_ascii
numeral-ascii base h k zero n = refl
numeral-ascii base h k (suc f) n = by (ltb n base) refl (numeral-ascii base h k f (n / base))
  where
    by : (t : Bool) → ltb n base ≡ t → all_ascii (numeral base f (n / base)) ≡ true → all_ascii (pick t (digit n ∷ []) (numeral base f (n / base) ++ digit (n % base) ∷ [])) ≡ true
    by true e r = let l : n < base = ltb-true n base e in digit-ascii n (omega arith)
    by false e r = all_append (numeral base f (n / base)) (digit (n % base) ∷ []) r (digit-ascii (n % base) (k n))

hex-ascii : (n : ℕ) → all_ascii (hex n) ≡ true
unfolding hex
hex-ascii n = numeral-ascii 16 (omega arith) (λ n. omega arith) 8 n

decimal-ascii : (n : ℕ) → all_ascii (decimal n) ≡ true
unfolding decimal
decimal-ascii n = numeral-ascii 10 (omega arith) (λ n. omega arith) 20 n

-- Texts between others.
between : (a b c : List ℕ) → all_ascii a ≡ true → all_ascii b ≡ true → all_ascii c ≡ true → WellFormed (a ++ (b ++ c))
between a b c h k l = well-ascii (a ++ (b ++ c)) (all_append a (b ++ c) h (all_append b c k l))

picked : (t : Bool) (a b : List ℕ) → all_ascii a ≡ true → all_ascii b ≡ true → all_ascii (pick t a b) ≡ true
picked true a b h k = h
picked false a b h k = k

pub missing-well : (i : ℕ) → WellFormed (missing_mark i)
unfolding missing_mark all_ascii
missing-well i = between (bytes "<missing type 0x") (hex i) (bytes ">") refl (hex-ascii i) refl

pub unimplemented-well : (i : ℕ) → WellFormed (unimplemented_mark i)
unfolding unimplemented_mark all_ascii
unimplemented-well i = between (bytes "<unimplemented type kind 0x") (hex i) (bytes ">") refl (hex-ascii i) refl

pub unhandled-type-well : (i : ℕ) → WellFormed (unhandled_type i)
unfolding unhandled_type all_ascii
unhandled-type-well i = between (bytes "unhandled type /* 0x") (hex i) (bytes " */") refl (hex-ascii i) refl

pub unhandled-scope-well : (i : ℕ) → WellFormed (unhandled_scope i)
unfolding unhandled_scope all_ascii
unhandled-scope-well i = between (bytes "<unhandled id scope 0x") (hex i) (bytes ">::") refl (hex-ascii i) refl

-- Names and what stands before them.
pub function-name-well : (name : List ℕ) → WellFormed name → WellFormed (function_name name)
unfolding function_name all_ascii
function-name-well [] w = well-ascii (bytes "<name omitted>") refl
function-name-well (b ∷ bs) w = w

pub string-well : (name : List ℕ) → WellFormed name → WellFormed (string_text name)
unfolding string_text all_ascii
string-well name w = by (is_anonymous_namespace name)
  where
    by : (t : Bool) → WellFormed (pick t (bytes "`anonymous namespace'") name)
    by true = well-ascii (bytes "`anonymous namespace'") refl
    by false = w

behind-word : (c : Settings) (word name : List ℕ) → all_ascii word ≡ true → WellFormed name → WellFormed (pick c.name_only name (word ++ (bytes " " ++ name)))
unfolding all_ascii
behind-word c word name h w = by c.name_only
  where
    by : (t : Bool) → WellFormed (pick t name (word ++ (bytes " " ++ name)))
    by true = w
    by false = well-append (well-ascii word h) (well-append (well-ascii (bytes " ") refl) w)

pub class-well : (c : Settings) (k : ClassKind) (name : List ℕ) → WellFormed name → WellFormed (class_text c k name)
unfolding class_text worded all_ascii
class-well c kind.Class name w = behind-word c (bytes "class") name refl w
class-well c kind.Struct name w = behind-word c (bytes "struct") name refl w
class-well c kind.Interface name w = behind-word c (bytes "interface") name refl w

pub union-well : (c : Settings) (name : List ℕ) → WellFormed name → WellFormed (worded c "union" name)
unfolding worded all_ascii
union-well c name w = behind-word c (bytes "union") name refl w

pub enum-well : (c : Settings) (name : List ℕ) → WellFormed name → WellFormed (worded c "enum" name)
unfolding worded all_ascii
enum-well c name w = behind-word c (bytes "enum") name refl w

pub enumerate-well : (c : Settings) (name : List ℕ) → WellFormed name → WellFormed (worded c "enum class" name)
unfolding worded all_ascii
enumerate-well c name w = behind-word c (bytes "enum class") name refl w

-- Primitives: the names of the table.
unfoldable named-ascii : List Kind → Bool
named-ascii [] = true
named-ascii (k ∷ ks) = all_ascii k.name && named-ascii ks

table-ascii : named-ascii primitives ≡ true
unfolding named-ascii primitives all_ascii
table-ascii = refl

first-ascii : (code : ℕ) (l : List Kind) → named-ascii l ≡ true → all_ascii (first_of code l (λ k. k.name) []) ≡ true
unfolding first_of named-ascii all_ascii
first-ascii code [] h = refl
first-ascii code (k ∷ ks) h = by (eqb k.code code) (all_ascii k.name) refl h (first-ascii code ks)
  where
    by : (t u : Bool) → all_ascii k.name ≡ u → (u && named-ascii ks) ≡ true
        → (named-ascii ks ≡ true → all_ascii (first_of code ks (λ k. k.name) []) ≡ true)
        → all_ascii (pick t k.name (first_of code ks (λ k. k.name) [])) ≡ true
    by true true e g r = e
    by false true e g r = r g
    by t false e g r = never g

primitive-name-ascii : (code : ℕ) → all_ascii (primitive_name code) ≡ true
unfolding primitive_name
primitive-name-ascii code = first-ascii code primitives table-ascii

pub primitive-well : (c : Settings) (constant : Bool) (code n : ℕ) → WellFormed (primitive_text c constant code n)
unfolding primitive_text all_ascii
primitive-well c constant code zero =
    well-ascii _ (all_append (pick constant (bytes "const ") []) (primitive_name code) (picked constant (bytes "const ") [] refl refl) (primitive-name-ascii code))
primitive-well c constant code (suc n) =
    well-ascii _
    (all_append (primitive_name code) _ (primitive-name-ascii code)
    (all_append (pick constant (bytes " const") []) _ (picked constant (bytes " const") [] refl refl)
    (all_append (pick c.space_pointer (bytes " ") []) (bytes "*") (picked c.space_pointer (bytes " ") [] refl refl) refl)))

-- Signs and brackets.
sign-ascii : (m : PointerMode) → all_ascii (sign m) ≡ true
unfolding sign all_ascii
sign-ascii mode.Pointer = refl
sign-ascii mode.LValueReference = refl
sign-ascii mode.Member = refl
sign-ascii mode.MemberFunction = refl
sign-ascii mode.RValueReference = refl

levels-ascii : (c : Settings) (free signed : Bool) (ls : List Level) → all_ascii (levels c free signed ls) ≡ true
unfolding levels all_ascii
levels-ascii c free signed [] = refl
levels-ascii c free signed (l ∷ ls) =
    all_append (pick l.pointee (pick free (bytes " const") (bytes "const")) []) _
    (picked l.pointee _ [] (picked free (bytes " const") (bytes "const") refl refl) refl)
    (all_append (pick (c.space_pointer && (not (signed && not l.pointee) && (free || l.pointee))) (bytes " ") []) _
    (picked (c.space_pointer && (not (signed && not l.pointee) && (free || l.pointee))) (bytes " ") [] refl refl)
    (all_append (sign l.mode) _ (sign-ascii l.mode)
    (all_append (pick l.constant (bytes " const") []) _ (picked l.constant (bytes " const") [] refl refl) (levels-ascii c true (not l.constant) ls))))

pub levels-well : (c : Settings) (free signed : Bool) (ls : List Level) → WellFormed (levels c free signed ls)
levels-well c free signed ls = well-ascii _ (levels-ascii c free signed ls)

bracket-ascii : (b n : ℕ) → all_ascii (bracket b n) ≡ true
unfolding bracket all_ascii
bracket-ascii b zero = refl
bracket-ascii b (suc n) = all_append (bytes "[") (decimal (b / suc n) ++ bytes "]") refl (all_append (decimal (b / suc n)) (bytes "]") (decimal-ascii (b / suc n)) refl)

brackets-ascii : (size : ℕ) (bs : List ℕ) → all_ascii (brackets size bs) ≡ true
unfolding brackets all_ascii
brackets-ascii size [] = refl
brackets-ascii size (b ∷ bs) = all_append (brackets b bs) (bracket b size) (brackets-ascii b bs) (bracket-ascii b size)

pub brackets-well : (size : ℕ) (bs : List ℕ) → WellFormed (brackets size bs)
brackets-well size bs = well-ascii _ (brackets-ascii size bs)
