-- Each token that a record is printed as is a word, or a quoted text.
use Rattle.std.proofs.Common.{◌≡◌, ℕ, ◌<◌, ◌^◌, ◌==◌, Bool, true, false, true≢false, List, [], ◌∷◌, ◌++◌, length, decimal, refl, sym, subst, arith, inl, inr, length-append}
use Rattle.std.specs.Prelude.{codes, cond, is_some, if◌then◌else◌, unwrap_or, Option, Some, None}
use Rattle.std.specs.List.{AllByRecursion}
use Rattle.std.specs.Option.{option_map}
use lib.Utf8.{encode}
use Rattle.dns_codec.specs.Base.{base16}
use Rattle.rdata_values.specs.Classes.{class_prefix, class_text}
use Rattle.rdata_values.specs.Registry.{Row, code_row}
use Rattle.rdata_values.specs.Types.{type_text, portable_text}
use Rattle.rdata_values.specs.declared.classes.Class.{Class}
use Rattle.rdata_values.specs.declared.types.RecordType.{RecordType}
use Rattle.dns_symbol.specs.declared.symbol.Symbol.TheVariants.{SimpleEscape}
use Rattle.dns_lexer.specs.Token.{IsToken, IsWord}
use Rattle.dns_wire.specs.Wire.{wire}
use Rattle.rdata.specs.ByType.{HasShape, shape_of_code}
use Rattle.rdata.specs.Digits.{printed_digits}
use Rattle.rdata.specs.GatewayKeys.{plain_word}
use Rattle.rdata.specs.Printing.{printed_data, token_bytes}
use Rattle.rdata.specs.PrintLaws.{IsQuotedWell, IsWordWell}
use Rattle.rdata.specs.Rests.{PrintedToken}
use Rattle.rdata.specs.Types.{TypeShape}
use Rattle.rdata.specs.declared.shape.Shape.{Shape}
use Rattle.rdata.proofs.PlainWords.{IsPlainWord, decimal_word, encoded16_word, plain_append, plain_is_word}
use Rattle.rdata.proofs.PrintedQuotes.{data_well}
use Rattle.rdata.proofs.PrintedWords.{data_words, named_type_word, type_word as portable_type_word}
use Rattle.zone_record.specs.DataTokens.{data_tokens, tokens_of_shape}
use Rattle.zone_record.specs.RecordLaws.{AreRecordValues}
use Rattle.zone_record.specs.Records.{data_of, head_tokens, record_type_text}
use Rattle.zone_record.specs.TypeData.{IsTypeData}
use Rattle.zone_record.specs.declared.record.Record.{Record}
use Rattle.zone_record.proofs.DataBack.{shape_with}
use Rattle.zone_record.proofs.RecordBack.{owner_word}

abbrev pub IsWell : PrintedToken → Type 0
IsWell p = IsQuotedWell p × IsWordWell p

pub well_token : (p : PrintedToken) → IsWell p → IsToken (token_bytes p)
well_token p w = by p.is_quoted refl
  where
    by : (b : Bool) → p.is_quoted ≡ b → IsToken (token_bytes p)
    by true is = inr (w.0 is)
    by false is = inl (w.1 is)

well_word : (text : List ℕ) → IsWord text → IsWell (plain_word text)
well_word text w = ((λ q. absurd (true≢false (sym q))), λ _. w)

well_plain : (text : List ℕ) → IsPlainWord text → IsWell (plain_word text)
well_plain text w = well_word text (plain_is_word text w)

-- ---- the class and the type

class_word : (code : Class) → code < 2 ^ 16 → IsPlainWord (class_text code)
class_word code small = by (1 == code) (3 == code) (4 == code)
  where
    by : (a b c : Bool) → IsPlainWord (unwrap_or (option_map (λ (r : Row). r.name) (cond a (Some (code_row 1 (codes "IN"))) (cond b (Some (code_row 3 (codes "CH"))) (cond c (Some (code_row 4 (codes "HS"))) None)))) (class_prefix ++ decimal code))
    by true b c = record { some = omega arith; plain = refl }
    by false true c = record { some = omega arith; plain = refl }
    by false false true = record { some = omega arith; plain = refl }
    by false false false =
        let number = decimal_word code (omega (arith, small)) in record { some = omega (arith, number.some, length-append class_prefix (decimal code)); plain = plain_append class_prefix (decimal code) refl number.plain }

type_word : (rtype : RecordType) → rtype < 2 ^ 16 → IsPlainWord (record_type_text rtype)
type_word rtype small = by (is_some (shape_of_code rtype))
  where
    by : (shaped : Bool) → IsPlainWord (if shaped then type_text rtype else portable_text rtype)
    by true = named_type_word rtype (omega (arith, small))
    by false = portable_type_word rtype (omega (arith, small))

-- ---- the data

both : (tokens : List PrintedToken) → AllByRecursion IsQuotedWell tokens → AllByRecursion IsWordWell tokens → AllByRecursion IsWell tokens
both [] quotes words = tt
both (t ∷ ts) quotes words = ((quotes.0, words.0), both ts quotes.1 words.1)

digits_well : (octets : List ℕ) → AllByRecursion IsWell (printed_digits base16 octets)
digits_well [] = tt
digits_well (o ∷ os) = (well_plain _ (encoded16_word (o ∷ os) (omega arith)), tt)

mark_word : IsWord (codes "\\#")
unfolding encode
mark_word = record { symbols = SimpleEscape 35 ∷ []; some = omega arith; valid = refl; spelled = refl }

module _ (rtype : RecordType) (octets : List ℕ) (is : IsTypeData rtype octets) where
  shape_well : (found : Option TypeShape) → shape_of_code rtype ≡ found → AllByRecursion IsWell (tokens_of_shape found octets)
  shape_well None none = (well_word _ mark_word, (well_plain _ (decimal_word (length octets) (omega (arith, is.short))), digits_well octets))
  shape_well (Some s) some =
      let shape : Shape = shape_with s in
      let own = is.shaped shape (subst (λ f. HasShape f shape) (sym some) (refl, refl, refl)) in
      both (printed_data shape octets) (data_well shape octets own) (data_words shape octets own)

pub data_is_well : (rtype : RecordType) (octets : List ℕ) → IsTypeData rtype octets → AllByRecursion IsWell (data_tokens rtype octets)
data_is_well rtype octets is = shape_well rtype octets is (shape_of_code rtype) refl

pub head_is_well : {N O : Type 0} (r : Record N O) → AreRecordValues r → r.ttl < 2 ^ 31 → AllByRecursion IsWell (head_tokens r)
head_is_well r values small = (
  well_word _ (owner_word (wire r.owner) values.owner).word,
  (
    well_plain _ (decimal_word r.ttl (omega (arith, small))),
    (well_plain _ (class_word r.class values.class), (well_plain _ (type_word (data_of r).rtype values.type), tt)),
  ),
)
