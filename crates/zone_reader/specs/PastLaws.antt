-- Laws of what later entries inherit.
use Rattle.std.specs.Prelude.{◌≡◌, ℕ, false, List, [], ◌∷◌, ◌++◌, Option, Some, None}
use Rattle.dns_wire.specs.Wire.{wire}
use Rattle.dns_lexer.specs.EntryTokens.{TokenSeen}
use Rattle.rdata_tokens.specs.NameSpelling.{IsWireName}
use Rattle.rdata_tokens.specs.PrintedNames.{wire_name_text}
use Rattle.rdata_fields.specs.Parsing.{SpellsField}
use Rattle.rdata_fields.specs.declared.field.Field.TheVariants.{Name as OfName}
use Rattle.zone_reader.specs.Past.{Declared, NewOwner, IsOwnerAfter, IsRecordTtl, StateAfter}
use Rattle.zone_reader.specs.Learning.{IsInheritedTtl, chosen_ttl}
use Rattle.zone_reader.specs.declared.known.NameState.{NameState}
use Rattle.zone_reader.specs.declared.known.NameState.TheVariants.{Name}
use Rattle.zone_reader.specs.declared.state.State.{State}
use Rattle.zone_reader.specs.declared.ttl.RecordTtl.{RecordTtl}
use Rattle.zone_reader.specs.declared.ttl.RecordTtl.TheVariants.{Explicit}

-- the same values leave one state
abbrev pub IsKnownOnce : Type 0
IsKnownOnce = (start : State) (past : List Declared) (a b : State) → StateAfter start past a → StateAfter start past b → a ≡ b

-- without values the state is the start
abbrev pub StartsAsItIs : Type 0
StartsAsItIs = (start : State) → StateAfter start [] start

-- a text that is read with the state that another left is read as if both were one text
abbrev pub IsReadInPieces : Type 0
IsReadInPieces = (start middle end : State) (past later : List Declared) → StateAfter start past middle → StateAfter middle later end → StateAfter start (past ++ later) end

-- The owner that a token spells without an origin is the same after any values, and so is an owner
-- as it is printed.
pub record OwnersAreIndependent : Type 0 where
  pub absolute : (t : TokenSeen) (labels : List (List ℕ)) (start : State) (past : List Declared) (owner : NameState) → SpellsField None OfName t (wire labels)
      → IsOwnerAfter start (past ++ (NewOwner (Some t) ∷ [])) owner → owner ≡ Name labels
  pub printed : (t : TokenSeen) (labels : List (List ℕ)) (start : State) (past : List Declared) (owner : NameState) → IsWireName (wire labels) → t.is_quoted ≡ false → t.text ≡ wire_name_text (wire labels)
      → IsOwnerAfter start (past ++ (NewOwner (Some t) ∷ [])) owner → owner ≡ Name labels

-- so is the TTL of a record's own
abbrev pub TtlsAreIndependent : Type 0
TtlsAreIndependent = (start : State) (past : List Declared) (own : ℕ) (minimum : Option ℕ) (ttl : Option RecordTtl) → IsRecordTtl start past (Some own) minimum ttl → ttl ≡ Some (Explicit own)

-- the first TTL that a state has is the record's after all values that led to the state
abbrev pub ChosenTtlsAreReturned : Type 0
ChosenTtlsAreReturned = (own minimum : Option ℕ) (state : State) → IsInheritedTtl own minimum state (chosen_ttl own state.default_ttl state.last_ttl minimum)
