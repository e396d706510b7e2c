-- Tokens that are rejected as RDATA of a shape.
use Rattle.std.specs.Prelude.{Err, slice_index}
use Rattle.std.proofs.Common.{ℕ, Option, true, false, ◌≡◌, ◌<◌, ◌+◌, ◌-◌, List, [], ◌∷◌, ◌++◌, length, take, drop, refl, sym, ap, subst, ◌∙◌, inl, inr, arith, length-append}
use Rattle.std.proofs.Math.Seq.{drop-append_seam}
use Rattle.std.proofs.lemmas.List.{append_assoc, get_or_append_left}
use Rattle.dns_octets.specs.Room.{Room}
use Rattle.dns_octets.specs.Appending.{Extends, Gains}
use Rattle.rdata_tokens.specs.declared.kind.DigitsKind.TheVariants.{Hex as InHex, Base64 as InBase64}
use Rattle.rdata_tokens.proofs.Pieces.{rest_of}
use Rattle.rdata_fields.specs.Parsing.{HasParsedFields, ParsesAllFields, last_place}
use Rattle.rdata_fields.specs.RecordErrors.{error_at, error_in_field}
use Rattle.rdata_fields.specs.declared.record_error.RecordError.{RecordError}
use Rattle.rdata_values.specs.declared.error.ErrorKind.TheVariants.{ShortBuf}
use Rattle.rdata_fields.proofs.Refused.{only_room_lacks, fields_front, all_once}
use Rattle.rdata_tokens.proofs.FormLaws.{octets_spelled}
use Rattle.dns_lexer.specs.EntryTokens.{TokenSeen}
use Rattle.rdata.specs.Data.{HasLength, HasWrongHash, IsWrongLength, SpellsData, ReadsData, wrong_length}
use Rattle.rdata.specs.Rests.{RefusesAs, ParsesInParts}
use Rattle.rdata.specs.RestKinds.{IsRestPart, rest_form}
use Rattle.rdata.specs.Texts.{AreText}
use Rattle.rdata.specs.TypeLists.{NameBitmap}
use Rattle.rdata.specs.declared.rest.Rest.{Rest}
use Rattle.rdata.specs.declared.rest.Rest.TheVariants.{Nothing, Strings, MaybeString, Hex, Base64, Types, SomeTypes, Text, QuotedText, Location as OfLocation, Prefixes, GatewayKey, HostIdentity, Params, Nsap}
use Rattle.rdata.specs.declared.shape.LengthRule.{LengthRule}
use Rattle.rdata.specs.declared.shape.LengthRule.TheVariants.{Any, Digest, Hash}
use Rattle.rdata.specs.declared.shape.Shape.{Shape}
use Rattle.rdata_svcb.proofs.Exceeded.{params_exceeded}
use Rattle.rdata_svcb.proofs.ParamLaws.{all_params_once}
use Rattle.rdata_tails.proofs.LocationLaws.{locations_are_read}
use Rattle.rdata_tails.specs.Locations.{SpellsLocation}
use Rattle.rdata.proofs.GatewayLaws.{gateway_key_once, gateway_key_exceeded}
use Rattle.rdata.proofs.HostLaws.{host_once, host_exceeded}
use Rattle.rdata.proofs.PrefixListLaws.{prefixes_once, prefixes_exceeded}
use Rattle.rdata.proofs.Joinings.{joined_once, digits_exceeded}
use Rattle.rdata.proofs.MaybeStringLaws.{maybe_string_once, maybe_string_exceeded}
use Rattle.rdata.proofs.NsapRestLaws.{nsap_once, nsap_exceeded}
use Rattle.rdata.proofs.Strings.{strings_exceeded}
use Rattle.rdata.proofs.TextLaws.{text_exceeded}
use Rattle.rdata.proofs.TokenRests.{whole_exceeded}
use Rattle.rdata.proofs.Namings.{types_once}

-- what was gained, as it is cut off
pub gained_is : (begun : ℕ) (old new shown : List ℕ) → begun ≡ length old → shown ≡ new → take (length shown - begun) (drop begun shown) ≡ drop (length old) new
gained_is begun old new shown start is = rest_of begun shown ∙ ap (λ n. drop n shown) start ∙ ap (drop (length old)) is

text_once : (wants_quotes : _) (tokens : List TokenSeen) (a b : List ℕ) → AreText wants_quotes tokens a → AreText wants_quotes tokens b → a ≡ b
text_once wants_quotes [] a b h k = absurd h
text_once wants_quotes (t ∷ []) a b h k = octets_spelled.once t.text a b h.1 k.1
text_once wants_quotes (t ∷ u ∷ ts) a b h k = absurd h

-- tokens spell one tail only
pub rest_once : (origin : Option (List (List ℕ))) (r : Rest) (tokens : List TokenSeen) (a b : List ℕ) → (rest_form origin r).spells tokens a → (rest_form origin r).spells tokens b → a ≡ b
rest_once origin Nothing tokens a b h k = h.1 ∙ sym k.1
rest_once origin Strings tokens a b h k = all_once origin _ tokens a b h.0 k.0
rest_once origin MaybeString tokens a b h k = maybe_string_once tokens a b h k
rest_once origin Hex tokens a b h k = joined_once InHex tokens a b h.0 k.0
rest_once origin Base64 tokens a b h k = joined_once InBase64 tokens a b h.0 k.0
rest_once origin Nsap tokens a b h k = nsap_once tokens a b h k
rest_once origin Types tokens a b h k = types_once tokens a b h k
rest_once origin SomeTypes tokens a b h k = types_once tokens a b h.0 k.0
rest_once origin Text tokens a b h k = text_once false tokens a b h k
rest_once origin QuotedText tokens a b h k = text_once true tokens a b h k
rest_once origin OfLocation tokens a b h k = locations_are_read.once tokens a b h k
rest_once origin Prefixes tokens a b h k = prefixes_once tokens a b h k
rest_once origin GatewayKey tokens a b h k = gateway_key_once origin tokens a b h k
rest_once origin HostIdentity tokens a b h k = host_once origin tokens a b h k
rest_once origin Params tokens a b h k = all_params_once tokens a b h k

-- what begins to exceed the room exceeds it
pub rest_exceeded : (origin : Option (List (List ℕ))) (r : Rest) (room : Room) (tokens left : List TokenSeen) (old octets : List ℕ) → (rest_form origin r).exceeds room tokens left old → (rest_form origin r).spells tokens octets
    → room.fits < length old + length octets
rest_exceeded origin Nothing room tokens left old octets h k = absurd h
rest_exceeded origin Strings room tokens left old octets h k = strings_exceeded origin room tokens left old octets h k.0
rest_exceeded origin MaybeString room tokens left old octets h k = maybe_string_exceeded room tokens left old octets h k
rest_exceeded origin Hex room tokens left old octets h k = digits_exceeded InHex room tokens left old octets h k.0
rest_exceeded origin Base64 room tokens left old octets h k = digits_exceeded InBase64 room tokens left old octets h k.0
rest_exceeded origin Nsap room tokens left old octets h k = nsap_exceeded room tokens left old octets h k
rest_exceeded origin Types room tokens left old octets h k = whole_exceeded NameBitmap types_once room tokens left old octets h k
rest_exceeded origin SomeTypes room tokens left old octets h k = whole_exceeded NameBitmap types_once room tokens left old octets h k.0
rest_exceeded origin Text room tokens left old octets h k = text_exceeded false room tokens left old octets h k
rest_exceeded origin QuotedText room tokens left old octets h k = text_exceeded true room tokens left old octets h k
rest_exceeded origin OfLocation room tokens left old octets h k = whole_exceeded SpellsLocation locations_are_read.once room tokens left old octets h k
rest_exceeded origin Prefixes room tokens left old octets h k = prefixes_exceeded room tokens left old octets h k
rest_exceeded origin GatewayKey room tokens left old octets h k = gateway_key_exceeded origin room left tokens old octets h k
rest_exceeded origin HostIdentity room tokens left old octets h k = host_exceeded origin room left tokens old octets h k
rest_exceeded origin Params room tokens left old octets h k = params_exceeded room tokens left old octets h k

module _ (origin : Option (List (List ℕ))) (room : Room) (shape : Shape) (end : ℕ) (tokens : List TokenSeen) (old : List ℕ) where
  pub field_refused : (r : RecordError) (left : List TokenSeen) (new : List ℕ) → ParsesAllFields origin room shape.fields.now end tokens old (Err r) left new → ReadsData origin room shape end tokens old (Err r) left new
  field_refused r left new h =
      let f = h.1 in
      let b = f.before in (
        inl h,
        λ octets sp. (
            let lacks = only_room_lacks origin room shape.fields.now tokens old h.0 r.kind left new sp.first sp.last sp.front f sp.tokens_are sp.fields in
            let sum = ap length sp.octets_are ∙ length-append sp.front sp.back in
            (lacks.0, omega (arith, lacks.1, sum))
            ),
        (b.octets ++ f.extends.0, f.extends.1 ∙ ap (λ o. o ++ f.extends.0) b.gained ∙ append_assoc old b.octets f.extends.0),
      )

  module _ (behind : List TokenSeen) (middle : List ℕ) (t : HasParsedFields origin shape.fields.now tokens old behind middle) where
    -- what tokens spell of RDATA, after the fields that were parsed
    parts : (octets : List ℕ) (sp : SpellsData origin shape tokens octets) → (rest_form origin shape.rest).spells behind sp.back × (octets ≡ t.octets ++ sp.back)
    parts octets sp =
        let same = fields_front origin shape.fields.now sp.first sp.last t.taken behind sp.front t.octets sp.fields t.spelled (sym sp.tokens_are ∙ t.whole) in
        (subst (λ l. (rest_form origin shape.rest).spells l sp.back) same.1 sp.rest, sp.octets_are ∙ ap (λ o. o ++ sp.back) same.2)

    extends_on : (new : List ℕ) → Extends middle new → Extends old new
    extends_on new h = (t.octets ++ h.0, h.1 ∙ ap (λ o. o ++ h.0) t.gained ∙ append_assoc old t.octets h.0)

    only_room : (left : List TokenSeen) (e : _) (octets : List ℕ) → RefusesAs room (rest_form origin shape.rest) behind middle left e → SpellsData origin shape tokens octets
        → (e ≡ ShortBuf) × (room.fits < length old + length octets)
    only_room left e octets (inl h) sp =
        let p = parts octets sp in
        let lacks = rest_exceeded origin shape.rest room behind left middle sp.back h.1 p.0 in
        let sum = ap length p.1 ∙ length-append t.octets sp.back in
        let start = ap length t.gained ∙ length-append old t.octets in
        (h.0, omega (arith, lacks, sum, start))
    only_room left e octets (inr h) sp = absurd (h.1 sp.back (parts octets sp).0)

    pub rest_refused : (begun : ℕ) (r : RecordError) (left : List TokenSeen) (new : List ℕ) → begun ≡ end → (HasWrongHash shape.length t.octets → ⊥)
        → ParsesInParts room (rest_form origin shape.rest) (IsRestPart origin shape.rest) (length shape.fields.now) begun behind middle (Err r) left new → ReadsData origin room shape end tokens old (Err r) left new
    rest_refused begun r left new ends hashed h =
        let kind : r.kind ≡ h.0.kind = ap (λ (e : RecordError). e.kind) h.2 in (
          inr (record {
            behind = behind;
            middle = middle;
            taken = t;
            why = inr (hashed, inl (subst (λ e. ParsesInParts room (rest_form origin shape.rest) (IsRestPart origin shape.rest) (length shape.fields.now) e behind middle (Err r) left new) ends h));
          }),
          λ octets sp. only_room left r.kind octets (subst (RefusesAs room (rest_form origin shape.rest) behind middle left) (sym kind) h.3.why) sp,
          extends_on new h.3.extends,
        )

    -- a hash among the fields is the same with what comes after them
    wrong_in : (length_is : LengthRule) (back : List ℕ) → HasWrongHash length_is t.octets → HasLength length_is (t.octets ++ back) → ⊥
    wrong_in Any back h k = h
    wrong_in (Digest digests place) back h k = h
    wrong_in Hash back h k =
        let front = λ (i : ℕ) (less : i < length t.octets). get_or_append_left t.octets back 0 i less in
        let first = front 0 (omega (arith, h.0)) in
        let salt = front 4 (omega (arith, h.0)) in
        let count = front (5 + slice_index t.octets 4) h.0 in
        let place : 5 + slice_index (t.octets ++ back) 4 ≡ 5 + slice_index t.octets 4 = ap (λ n. 5 + n) salt in
        h.1 (λ one. sym (ap (slice_index (t.octets ++ back)) place ∙ count) ∙ k (first ∙ one))

    pub hash_refused : (r : RecordError) (left : List TokenSeen) (new : List ℕ) → r ≡ error_in_field (length shape.fields.now - 1) (error_at (last_place shape.fields.now tokens end) (wrong_length shape.length (drop (length old) middle)))
        → left ≡ behind → new ≡ middle → HasWrongHash shape.length (drop (length old) middle) → ReadsData origin room shape end tokens old (Err r) left new
    hash_refused r left new is rest same wrong =
        let all : drop (length old) middle ≡ t.octets = ap (drop (length old)) t.gained ∙ drop-append_seam old t.octets in
        let bad : HasWrongHash shape.length t.octets = subst (HasWrongHash shape.length) all wrong in
        let known = is ∙ ap (λ o. error_in_field (length shape.fields.now - 1) (error_at (last_place shape.fields.now tokens end) (wrong_length shape.length o))) all in (
          inr (record { behind = behind; middle = middle; taken = t; why = inl (known, rest, same, bad) }),
          λ octets sp. (let p = parts octets sp in absurd (wrong_in shape.length sp.back bad (subst (HasLength shape.length) p.1 sp.lengths))),
          (t.octets, same ∙ t.gained),
        )

    pub length_refused : (r : RecordError) (left : List TokenSeen) (new : List ℕ) → (HasWrongHash shape.length t.octets → ⊥)
        → (left ≡ []) × Gains ((rest_form origin shape.rest).spells behind) middle new → IsWrongLength shape end behind (drop (length old) new) r
        → ReadsData origin room shape end tokens old (Err r) left new
    length_refused r left new hashed h wrong =
        let back : List ℕ = h.1.0 in
        let all : drop (length old) new ≡ t.octets ++ back = ap (drop (length old)) (h.1.2 ∙ ap (λ o. o ++ back) t.gained ∙ append_assoc old t.octets back) ∙ drop-append_seam old (t.octets ++ back) in
        let bad : IsWrongLength shape end behind (t.octets ++ back) r = subst (λ o. IsWrongLength shape end behind o r) all wrong in (
          inr (record { behind = behind; middle = middle; taken = t; why = inr (hashed, inr (h.0, (back, (h.1.1, bad), h.1.2))) }),
          λ octets sp. (
              let p = parts octets sp in
              let same : sp.back ≡ back = rest_once origin shape.rest behind sp.back back p.0 h.1.1 in
              absurd (bad.0 (subst (HasLength shape.length) (p.1 ∙ ap (λ o. t.octets ++ o) same) sp.lengths))
              ),
          extends_on new (back, h.1.2),
        )

    -- no hash among the fields is wrong
    pub none_wrong : (HasWrongHash shape.length (drop (length old) middle) → ⊥) → HasWrongHash shape.length t.octets → ⊥
    none_wrong none h = none (subst (HasWrongHash shape.length) (sym (ap (drop (length old)) t.gained ∙ drop-append_seam old t.octets)) h)

    -- after the fields comes the tail of the shape
    pub data_taken : (left : List TokenSeen) (new : List ℕ) → (left ≡ []) × Gains ((rest_form origin shape.rest).spells behind) middle new → HasLength shape.length (drop (length old) new)
        → (left ≡ []) × Gains (SpellsData origin shape tokens) old new
    data_taken left new h long =
        let back : List ℕ = h.1.0 in
        let whole : new ≡ old ++ (t.octets ++ back) = h.1.2 ∙ ap (λ o. o ++ back) t.gained ∙ append_assoc old t.octets back in
        let all : drop (length old) new ≡ t.octets ++ back = ap (drop (length old)) whole ∙ drop-append_seam old (t.octets ++ back) in
        let spelled : SpellsData origin shape tokens (t.octets ++ back) = record {
          first = t.taken;
          last = behind;
          front = t.octets;
          back = back;
          tokens_are = t.whole;
          octets_are = refl;
          fields = t.spelled;
          rest = h.1.1;
          lengths = subst (HasLength shape.length) all long;
        } in
        (h.0, (t.octets ++ back, spelled, whole))
