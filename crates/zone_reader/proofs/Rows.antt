-- Worked examples of names.
use Rattle.std.proofs.Common.{ℕ, true, false, List, [], ◌∷◌, length, map, Some, None, refl, ap, arith, true≢false}
use Rattle.std.specs.Prelude.{codes}
use Rattle.std.proofs.lemmas.List.Elements.{All-nil, All-cons}
use Rattle.dns_symbol.specs.declared.symbol.Symbol.TheVariants.{Char}
use Rattle.dns_wire.specs.Wire.{wire, IsPlain}
use Rattle.dns_wire.proofs.Wires.{IsName-absolute}
use Rattle.dns_lexer.specs.EntryTokens.{TokenSeen}
use Rattle.rdata_tokens.specs.NameSpelling.{IsLabelPart, relative, SpellsName}
use Rattle.zone_reader.specs.Past.{NewOrigin, NewOwner, IsOriginAfter, no_origin_said, origin_said_last, IsOwnerAfter, owner_said_last, nothing_declared}
use Rattle.zone_reader.specs.declared.known.NameState.TheVariants.{Name, Rejected}
use Rattle.zone_reader.specs.declared.state.State.{State}

abbrev word : List ℕ → TokenSeen
word text = record { text = text; is_quoted = false; is_adjacent = false; at = 0 }

abbrev example : List (List ℕ)
example = codes "example" ∷ [] ∷ []

abbrev in_example : State
in_example = record (nothing_declared 1) { origin = Name example }

-- `sub` before `example.`
sub_spelled : SpellsName (Some example) (codes "sub") (wire (codes "sub" ∷ example))
sub_spelled = record {
  labels = codes "sub" ∷ example;
  spelled = relative [] (map Char (codes "sub")) example (omega arith)
      (record { front = record { each = All-nil IsLabelPart; whole = refl }; last_each = refl; last_short = omega arith }) (λ e. let l = ap length e in omega (arith, l)) refl refl;
  is_name = IsName-absolute (codes "sub" ∷ codes "example" ∷ [])
      (All-cons IsPlain (codes "sub") (codes "example" ∷ []) (omega arith, omega arith) (All-cons IsPlain (codes "example") [] (omega arith, omega arith) (All-nil IsPlain))) (omega arith);
  absolute = (codes "sub" ∷ codes "example" ∷ [], refl);
  whole = refl;
}

-- the operand of `$ORIGIN sub` is relative to the origin before it
relative_origin_row : IsOriginAfter in_example (NewOrigin (Some (word (codes "sub"))) ∷ []) (Name (codes "sub" ∷ example))
relative_origin_row =
    origin_said_last (NewOrigin (Some (word (codes "sub"))) ∷ []) (Name (codes "sub" ∷ example)) (Some (word (codes "sub")))
    (record { before = []; at = NewOrigin (Some (word (codes "sub"))); after = []; whole = refl; said = refl; silent = tt }) (Name example) (no_origin_said [] (Name example) tt refl) (refl, sub_spelled)

-- an entry that begins with a blank after `$ORIGIN`: the owner stays
owner_behind_origin_row : IsOwnerAfter in_example (NewOwner (Some (word (codes "sub"))) ∷ NewOrigin (Some (word (codes "other."))) ∷ []) (Name (codes "sub" ∷ example))
owner_behind_origin_row =
    owner_said_last (Some (word (codes "sub")))
    (record { before = []; at = NewOwner (Some (word (codes "sub"))); after = NewOrigin (Some (word (codes "other."))) ∷ []; whole = refl; said = refl; silent = (refl, tt) })
    (Name example) (no_origin_said [] (Name example) tt refl) (refl, sub_spelled)

-- `$ORIGIN "a."` is rejected
abbrev quoted : TokenSeen
quoted = record { text = codes "a."; is_quoted = true; is_adjacent = false; at = 8 }

quoted_origin_row : IsOriginAfter in_example (NewOrigin (Some quoted) ∷ []) Rejected
quoted_origin_row =
    origin_said_last (NewOrigin (Some quoted) ∷ []) Rejected (Some quoted)
    (record { before = []; at = NewOrigin (Some quoted); after = []; whole = refl; said = refl; silent = tt }) (Name example) (no_origin_said [] (Name example) tt refl)
    (λ octets h. true≢false h.0)

-- and so is `$ORIGIN` without a name
no_name_row : IsOriginAfter in_example (NewOrigin None ∷ []) Rejected
no_name_row =
    origin_said_last (NewOrigin None ∷ []) Rejected None (record { before = []; at = NewOrigin None; after = []; whole = refl; said = refl; silent = tt }) (Name example)
    (no_origin_said [] (Name example) tt refl) tt
