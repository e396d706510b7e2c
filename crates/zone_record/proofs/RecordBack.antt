-- What records print as spells them again.
use Rattle.std.proofs.Common.{ℕ, ◌≡◌, ◌≢◌, ◌<◌, ◌^◌, Bool, true, false, true≢false, Option, List, [], ◌∷◌, ◌++◌, refl, sym, ap, subst, ◌∙◌, arith, length, append_assoc, map}
use Rattle.std.specs.Prelude.{is_some, if◌then◌else◌, ◌&&◌, nat_lt, nat_le, All, slice_index}
use Rattle.std.specs.List.{flat_map}
use Rattle.std.proofs.lemmas.List.Elements.{All-head}
use Rattle.rdata_values.specs.Classes.{SpellsClass}
use Rattle.rdata_values.specs.Ttl.{SpellsTtl}
use Rattle.rdata_values.specs.Types.{SpellsType, type_text, portable_text}
use Rattle.rdata_values.proofs.CodeLaws.{types_are_kind, portable_types_are_kind, classes_are_kind}
use Rattle.rdata_values.proofs.TtlLaws.{ttls_are_kind}
use Rattle.rdata_tokens.specs.NameSpelling.{IsOrigin, IsWireName, SpellsName, dotted_parts}
use Rattle.rdata_tokens.specs.PrintedNames.{wire_name_text}
use Rattle.rdata_tokens.proofs.NameFronts.{name_front_plain}
use Rattle.rdata_tokens.proofs.NameLaws.{front_parts, name_text_is, names_spelled, printed_parts as printed_name}
use Rattle.rdata_tokens.proofs.NameWords.{name_is_word}
use Rattle.dns_lexer.specs.EntryTokens.{TokenSeen}
use Rattle.dns_symbol.specs.Symbol.{spell}
use Rattle.dns_symbol.specs.declared.symbol.Symbol.TheVariants.{Char, SimpleEscape, DecimalEscape}
use Rattle.dns_wire.specs.Printed.{dotted_by}
use Rattle.dns_wire.specs.Wire.{wire, IsPlain}
use Rattle.dns_wire.specs.ZoneText.{is_zone_escape, zone_symbol, zone_label}
use Rattle.rdata.specs.ByType.{shape_of_code}
use Rattle.rdata.specs.Rests.{ArePrinted}
use Rattle.zone_record.specs.Records.{data_of, record_tokens, record_type_text}
use Rattle.zone_record.specs.RecordLaws.{AreRecordValues, SpellsRecord, IsOwnerWord}
use Rattle.zone_record.specs.declared.record.Record.{Record}
use Rattle.zone_record.proofs.DataBack.{type_data_back}

-- ---- owners

-- the text begins neither with a dollar nor with the origin's sign
record BeginsPlain (text : List ℕ) : Type 0 where
  pub some : 0 < length text
  pub no_dollar : slice_index text 0 ≢ 36
  pub no_at : slice_index text 0 ≢ 64

octet_begins : (o : ℕ) (rest : List ℕ) → BeginsPlain (spell (zone_symbol o) ++ rest)
octet_begins o rest = by (is_zone_escape o) (nat_lt 32 o && nat_le o 126) refl
  where
    by : (e p : Bool) → is_zone_escape o ≡ e → BeginsPlain (spell (if e then SimpleEscape o else (if p then Char o else DecimalEscape o)) ++ rest)
    by true p is = record { some = omega arith; no_dollar = λ h. omega (arith, h); no_at = λ h. omega (arith, h) }
    by false true is = record {
      some = omega arith;
      no_dollar = λ h. true≢false (subst (λ x. is_zone_escape x ≡ false) h is);
      no_at = λ h. true≢false (subst (λ x. is_zone_escape x ≡ false) h is);
    }
    by false false is = record { some = omega arith; no_dollar = λ h. omega (arith, h); no_at = λ h. omega (arith, h) }

label_begins : (label rest : List ℕ) → IsPlain label → BeginsPlain (flat_map spell (map zone_symbol label) ++ rest)
label_begins [] rest plain = absurd (omega (arith, plain.0))
label_begins (o ∷ os) rest plain =
    subst BeginsPlain (sym (append_assoc (spell (zone_symbol o)) (flat_map spell (map zone_symbol os)) rest)) (octet_begins o (flat_map spell (map zone_symbol os) ++ rest))

front_begins : (labels front : List (List ℕ)) → All IsPlain front → labels ≡ front ++ [] ∷ [] → BeginsPlain (dotted_by zone_label labels)
front_begins labels [] plain is = subst (λ l. BeginsPlain (dotted_by zone_label l)) (sym is) (record { some = omega arith; no_dollar = λ h. omega (arith, h); no_at = λ h. omega (arith, h) })
front_begins labels (x ∷ xs) plain is =
    let first = flat_map spell (map zone_symbol x) in
    let text : dotted_by zone_label labels ≡ first ++ (46 ∷ dotted_parts (front_parts xs)) =
    ap (dotted_by zone_label) is ∙ printed_name x xs ∙ append_assoc first (46 ∷ []) (dotted_parts (front_parts xs)) in
    subst BeginsPlain (sym text) (label_begins x (46 ∷ dotted_parts (front_parts xs)) (All-head IsPlain x xs plain))

pub owner_word : (form : List ℕ) → IsWireName form → IsOwnerWord (wire_name_text form)
owner_word form h =
    let front = h.absolute.0 in
    let begins : BeginsPlain (wire_name_text form) =
    subst BeginsPlain (sym (name_text_is form h.labels h.whole)) (front_begins h.labels front (name_front_plain h.labels front h.is_name h.absolute.1) h.absolute.1) in record {
      word = name_is_word form h;
      no_origin = λ e. begins.no_at (ap (λ t. slice_index t 0) e);
      no_directive = begins.no_dollar;
    }

-- ---- records

-- what a record's type prints as spells it
type_spelled : (rtype : ℕ) → rtype < 2 ^ 16 → SpellsType (record_type_text rtype) rtype
type_spelled rtype small = by (is_some (shape_of_code rtype))
  where
    by : (shaped : Bool) → SpellsType (if shaped then type_text rtype else portable_text rtype) rtype
    by true = types_are_kind.spelled rtype small
    by false = portable_types_are_kind.spelled (record { 0 = rtype }) small

pub record_back : {N O : Type 0} (r : Record N O) (origin : Option (List (List ℕ))) (tokens : List TokenSeen) → AreRecordValues r → IsOrigin origin → r.ttl < 2 ^ 31 → ArePrinted (record_tokens r) tokens
    → SpellsRecord origin tokens r
record_back r origin [] values known small p = absurd p
record_back r origin (owner ∷ []) values known small p = absurd p.3
record_back r origin (owner ∷ ttl ∷ []) values known small p = absurd p.3.3
record_back r origin (owner ∷ ttl ∷ class ∷ []) values known small p = absurd p.3.3.3
record_back r origin (owner ∷ ttl ∷ class ∷ type ∷ others) values known small p = (
  record {
    unquoted = (p.0, p.3.0, p.3.3.0, p.3.3.3.0);
    owner_is = subst (λ text. SpellsName origin text (wire r.owner)) (sym p.1) ((names_spelled origin known).back (wire r.owner) values.owner);
    ttl_is = subst (λ text. SpellsTtl text r.ttl) (sym p.3.1) (ttls_are_kind.spelled r.ttl small);
    class_is = subst (λ text. SpellsClass text r.class) (sym p.3.3.1) (classes_are_kind.spelled r.class values.class);
    type_is = subst (λ text. SpellsType text (data_of r).rtype) (sym p.3.3.3.1) (type_spelled (data_of r).rtype values.type);
  },
  type_data_back origin (data_of r).rtype (data_of r).octets others known values.octets values.typed p.3.3.3.3,
)
