-- What RDATA prints as spells it again.
use Rattle.std.proofs.Common.{ℕ, ◌≡◌, ◌⊎◌, ◌≤◌, ◌^◌, Option, Some, None, List, [], ◌∷◌, refl, sym, subst, ◌∙◌, arith, inl, inr, length, append-nil, decimal}
use Rattle.std.proofs.lemmas.Fmt.{decimal_is_IsNumeral}
use Rattle.dns_codec.specs.Base.{base16}
use Rattle.rdata_tokens.specs.Spelled.{SpellsDigits}
use Rattle.rdata_tokens.specs.declared.kind.DigitsKind.TheVariants.{Hex}
use Rattle.rdata_tokens.proofs.Pieces.{nothing_spelled}
use Rattle.rdata_tokens.proofs.Spelling.{printed_spells}
use Rattle.rdata_fields.specs.Words.{SpellsBelow}
use Rattle.rdata_tokens.specs.NameSpelling.{IsOrigin}
use Rattle.rdata_tokens.specs.Spelling.{AreOctetValues}
use Rattle.dns_lexer.specs.EntryTokens.{TokenSeen}
use Rattle.rdata.specs.ByType.{HasShape, shape_of_code, SpellsTypeData}
use Rattle.rdata.specs.Digits.{SpellsJoined, printed_digits}
use Rattle.rdata.specs.Generic.{SpellsGeneric, generic_form}
use Rattle.rdata.specs.Data.{IsTextData}
use Rattle.rdata.specs.Printing.{printed_parts}
use Rattle.rdata.specs.Rests.{ArePrinted}
use Rattle.rdata.specs.Types.{TypeShape}
use Rattle.rdata.specs.declared.shape.Shape.{Shape}
use Rattle.rdata.proofs.PrintedBack.{data_back}
use Rattle.rdata.proofs.Textless.{HasNoText, generic_printed, text_or_none, text_printed}
use Rattle.zone_record.specs.DataBack.{IsTypeDataReadBack}
use Rattle.zone_record.specs.DataTokens.{tokens_of_shape}
use Rattle.zone_record.specs.TypeData.{IsTypeData}
use Rattle.zone_record.proofs.Unmarked.{from_generic, shape_unmarked}

hex_back : (octets : List ℕ) (tokens : List TokenSeen) → AreOctetValues octets → ArePrinted (printed_digits base16 octets) tokens → SpellsJoined base16 tokens octets
hex_back [] [] values p = (tt, nothing_spelled Hex)
hex_back [] (t ∷ ts) values p = absurd p
hex_back (o ∷ os) [] values p = absurd p
hex_back (o ∷ os) (t ∷ []) values p = (
  (p.0, tt),
  subst (λ text. SpellsDigits base16 text (o ∷ os)) (sym (append-nil t.text ∙ p.1)) (printed_spells base16 (inl refl) (o ∷ os) values),
)
hex_back (o ∷ os) (t ∷ u ∷ ts) values p = absurd p.3

count_back : (text : List ℕ) (count : ℕ) → count ≤ 65535 → text ≡ decimal count → SpellsBelow (2 ^ 16) text count
count_back text count few is =
    let d = decimal_is_IsNumeral count (omega (arith, few)) in
    subst (λ t. SpellsBelow (2 ^ 16) t count) (sym is) ((d.0, sym d.1), omega (arith, few))

generic_back : (octets : List ℕ) (tokens : List TokenSeen) → AreOctetValues octets → length octets ≤ 65535 → ArePrinted (generic_form.printed octets) tokens → SpellsGeneric tokens octets
generic_back octets [] values short p = absurd p
generic_back octets (mark ∷ []) values short p = absurd p.3
generic_back octets (mark ∷ count ∷ digits) values short p =
    ((p.0, p.1), (p.3.0, count_back count.text (length octets) short p.3.1), hex_back octets digits values p.3.3)

-- a shape with the parts of a row
abbrev pub shape_with : TypeShape → Shape
shape_with s = record { fields = record { ref_ptr = (0, 0); now = s.fields }; rest = s.rest; length = s.lengths }

shape_back : (origin : Option (List (List ℕ))) (rtype : ℕ) (octets : List ℕ) (tokens : List TokenSeen) → IsOrigin origin → AreOctetValues octets → IsTypeData rtype octets
    → (found : Option TypeShape) → shape_of_code rtype ≡ found → ArePrinted (tokens_of_shape found octets) tokens → SpellsTypeData origin rtype tokens octets
shape_back origin rtype octets tokens known values is None found p =
    (is.in_zones, inl (generic_back octets tokens values is.short p, λ shape has. absurd (subst (λ f. HasShape f shape) found has)))
shape_back origin rtype octets tokens known values is (Some s) found p =
    let has : HasShape (shape_of_code rtype) (shape_with s) = subst (λ f. HasShape f (shape_with s)) (sym found) (refl, refl, refl) in
    by has (text_or_none (shape_with s) octets (is.shaped (shape_with s) has))
  where
    by : HasShape (shape_of_code rtype) (shape_with s) → IsTextData (shape_with s) octets ⊎ HasNoText (shape_with s) octets → SpellsTypeData origin rtype tokens octets
    by has (inl own) = (
      is.in_zones,
      inr (
        λ generic. shape_unmarked rtype s octets own.back found own.fields own.rest
            (from_generic (printed_parts s.fields s.rest octets) tokens (subst (λ ts. ArePrinted ts tokens) (text_printed (shape_with s) octets own) p) generic),
        (shape_with s, has, data_back origin known (shape_with s) octets tokens own p),
      ),
    )
    by has (inr none) =
        let generic = subst (λ ts. ArePrinted ts tokens) (generic_printed (shape_with s) octets none) p in
        (is.in_zones, inl (generic_back octets tokens values is.short generic, is.shaped))

pub type_data_back : IsTypeDataReadBack
type_data_back origin rtype octets tokens known values is p = shape_back origin rtype octets tokens known values is (shape_of_code rtype) refl p
