-- Id records (document 01, "Streams and records", over cvinfo.h's structures), as those of types.
use Rattle.std.specs.Prelude.{ℕ, ◌+◌, List, eqb, Result, Ok, Err}
use Rattle.wire.specs.Field.{pick, field}
use Rattle.wire.specs.Name.{name}
use Rattle.wire.specs.declared.name.Name.{Name}
use Rattle.codeview.specs.Record.{type_index, id_index, place, entries}
use Rattle.streams.specs.declared.refusal.Refusal.TheVariants.{UnlistedKind}
use Rattle.codeview.specs.declared.record.IdData.TheVariants as id
use Rattle.streams.specs.declared.refusal.Refusal.{Refusal}
use Rattle.codeview.specs.declared.record.IdData.{IdData}

-- What the ids of functions and of member functions have in the same places: whose function it is, its type, and its name.
unfoldable pub function_parts : {A : Type 0} → ℕ → List ℕ → (ℕ → ℕ → Name → A) → A → A
function_parts base b whole bad =
    field 4 b 0 (λ owner. field 4 b 4 (λ function. name b 8 (λ n. whole owner function (place (base + 8) n)) bad) bad) bad

module _ (bad : Result IdData Refusal) (base : ℕ) where
  infixr 5 ◌⇒◌
  abbrev ◌⇒◌ : {K : Type 0} → (K → Result IdData Refusal → Result IdData Refusal) → K → Result IdData Refusal
  r ⇒ k = r k bad

  unfoldable pub function_id_of : List ℕ → Result IdData Refusal
  function_id_of b =
      function_parts base b ⇒ λ scope function name.
      Ok (id.Function (record { scope = id_index scope; function = type_index function; name = name }))

  unfoldable pub member_function_id_of : List ℕ → Result IdData Refusal
  member_function_id_of b =
      function_parts base b ⇒ λ parent function name.
      Ok (id.MemberFunction (record { parent = type_index parent; function = type_index function; name = name }))

  unfoldable pub string_list_of : List ℕ → Result IdData Refusal
  string_list_of b = entries base b ⇒ λ list. Ok (id.StringList list)

  unfoldable pub string_of : List ℕ → Result IdData Refusal
  string_of b =
      field 4 b 0 ⇒ λ list.
      name b 4 ⇒ λ n.
      Ok (id.String (record { list = id_index list; name = place (base + 4) n }))

  -- A record of the id stream, by its kind. The fields of 0x1603, 0x1606 and 0x1607 are not read; 7 for a kind that is not listed.
  unfoldable pub id_data_of : ℕ → List ℕ → Result IdData Refusal
  id_data_of kind b =
      pick (eqb kind 0x1601) (function_id_of b)
      (pick (eqb kind 0x1602) (member_function_id_of b)
      (pick (eqb kind 0x1604) (string_list_of b)
      (pick (eqb kind 0x1605) (string_of b)
      (pick (eqb kind 0x1603) (Ok (id.Unhandled kind))
      (pick (eqb kind 0x1606) (Ok (id.Unhandled kind))
      (pick (eqb kind 0x1607) (Ok (id.Unhandled kind))
      (Err (UnlistedKind kind))))))))
