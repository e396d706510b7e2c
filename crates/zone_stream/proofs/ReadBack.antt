-- Records that are printed and read.
use Rattle.std.proofs.Common.{◌≡◌, ◌≢◌, ℕ, ◌<◌, ◌^◌, false, List, [], ◌∷◌, refl, sym, ap, ◌∙◌, subst, inl}
use Rattle.std.specs.Prelude.{if◌then◌else◌, Some, None, Ok, slice_index}
use Rattle.std.proofs.lemmas.Bool.{ne_eqb}
use Rattle.dns_wire.specs.Wire.{wire}
use Rattle.rdata_tokens.specs.NameSpelling.{IsWireName}
use Rattle.rdata_tokens.specs.PrintedNames.{dollar, wire_name_text}
use Rattle.dns_lexer.specs.EntryTokens.{TokenSeen}
use Rattle.rdata.specs.Rests.{ArePrinted}
use Rattle.zone_reader.specs.Directives.{directive_in, directive_of, directive_of_word}
use Rattle.zone_reader.specs.EntryMeanings.{FirstTokenMeans, says_record}
use Rattle.zone_reader.proofs.WordLemmas.{says_short_ttl}
use Rattle.zone_reader.specs.declared.header.RecordHeader.{RecordHeader}
use Rattle.zone_record.specs.RecordLaws.{AreRecordValues, IsOwnerWord, IsRecordReadBack}
use Rattle.zone_record.specs.Records.{data_of, record_tokens}
use Rattle.zone_record.specs.declared.record.Record.{Record}
use Rattle.zone_reader.specs.ReadingLaws.{IsWholeRecord, WholeRecordsAreIndependent}
use Rattle.rdata_fields.specs.Source.{next_place}
use Rattle.zone_stream.specs.ReadBack.{IsPrintedRecordRead}

no_dollar : (text : List ℕ) → slice_index text 0 ≢ dollar → directive_of_word text ≡ None
no_dollar [] h = refl
no_dollar (c ∷ cs) h = ap (λ b. if b then Some (directive_in (c ∷ cs)) else None) (ne_eqb c dollar h)

no_directive : (t : TokenSeen) → t.is_quoted ≡ false → slice_index t.text 0 ≢ dollar → directive_of t ≡ None
no_directive t q h = ap (λ b. if b then None else directive_of_word t.text) q ∙ no_dollar t.text h

module _ {N O : Type 0} (r : Record N O) (values : AreRecordValues r) (back : IsRecordReadBack r) (words : (form : List ℕ) → IsWireName form → IsOwnerWord (wire_name_text form)) where
  pub says_whole : (end : ℕ) (tokens : List TokenSeen) → r.ttl < 2 ^ 31 → ArePrinted (record_tokens r) tokens → IsWholeRecord end tokens r.owner r.ttl r.class (data_of r).rtype (data_of r).octets
  says_whole end [] small p = absurd p
  says_whole end (o ∷ []) small p = absurd p.3
  says_whole end (o ∷ t ∷ []) small p = absurd p.3.3
  says_whole end (o ∷ t ∷ c ∷ []) small p = absurd p.3.3.3
  says_whole end (o ∷ t ∷ c ∷ k ∷ others) small p =
      let s = (back None (o ∷ t ∷ c ∷ k ∷ others) tt small p).0 in
      let w : RecordHeader = record { ttl = Some r.ttl; class = Some r.class; rtype = (data_of r).rtype } in
      let none : directive_of o ≡ None = no_directive o s.unquoted.0 (subst (λ l. slice_index l 0 ≢ dollar) (sym p.1) (words (wire r.owner) values.owner).no_directive) in
      record {
        owner = o;
        behind = others;
        says = subst (λ d. FirstTokenMeans d end o (t ∷ c ∷ k ∷ others) (says_record (Some o) (Ok w) others)) (sym none) (
          Ok w,
          others,
          (
            k,
            record {
              head = t ∷ c ∷ [];
              whole = refl;
              is = record { front = t ∷ []; back = c ∷ []; whole = refl; order = inl (says_short_ttl t r.ttl s.unquoted.1 s.ttl_is, (s.unquoted.2, s.class_is)) };
              ends = (λ e. cc, λ e. cc);
            },
            (s.unquoted.3, s.type_is),
          ),
          refl,
        );
        owner_is = (s.unquoted.0, s.owner_is);
        «data» = λ origin i. (back origin (o ∷ t ∷ c ∷ k ∷ others) i small p).1;
      }

  pub printed_read : WholeRecordsAreIndependent → IsPrintedRecordRead r
  printed_read whole room end tokens before after old new result small p origin fits reads =
      let says = says_whole end tokens small p in
      let is = whole room end tokens r.owner r.ttl r.class (data_of r).rtype (data_of r).octets says before after old new result origin fits reads in
      (next_place says.behind end, is.0, is.1, is.2)
