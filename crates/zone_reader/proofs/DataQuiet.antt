-- Data is never rejected with the kind `Syntax`, which is for errors of the text.
use Rattle.std.proofs.Common.{ℕ, ◌≡◌, Bool, true, false, List, [], ◌∷◌, Option, None, Err, take, drop, sym, subst, ap, ◌∙◌, inl, inr}
use Rattle.std.specs.Prelude.{◌^◌, if◌then◌else◌, slice_index}
use Rattle.dns_octets.specs.Room.{Room}
use Rattle.dns_lexer.specs.EntryTokens.{TokenSeen}
use Rattle.dns_lexer.specs.declared.pieces.Wrong.{Wrong}
use Rattle.rdata_values.specs.declared.error.ErrorKind.{ErrorKind}
use Rattle.rdata_values.specs.declared.error.ErrorKind.TheVariants.{IllegalBase32, LongHash, NoDataType, NotOfType, NoTextForm, ShortBase32, Syntax, WrongLength}
use Rattle.rdata_values.specs.declared.types.RecordType.{RecordType}
use Rattle.rdata_tokens.specs.Hashes.{hash_refusal}
use Rattle.rdata_tokens.specs.Spelled.{unfinished}
use Rattle.rdata_tokens.specs.declared.kind.DigitsKind.{DigitsKind}
use Rattle.rdata_tokens.specs.declared.kind.DigitsKind.TheVariants.{Hex as InHex, Base64 as InBase64}
use Rattle.rdata_fields.specs.Fields.{field_form}
use Rattle.rdata_fields.specs.Parsing.{RefusesNext, ParsesAllFields}
use Rattle.rdata_fields.specs.Words.{NumberReason}
use Rattle.rdata_fields.specs.declared.field.Field.{Field}
use Rattle.rdata_fields.specs.declared.field.Field.TheVariants.{Number8, Number16, Number32, Interval, Ipv4, Ipv6, RecordType as OfRecordType, SigType, Algorithm, CertificateType, SyncScheme, Eui48, Eui64, Time, Locator, String, PsdnAddress, Tag, Salt, Hash, Name}
use Rattle.rdata_fields.specs.declared.record_error.RecordError.{RecordError}
use Rattle.rdata_svcb.specs.ListItems.{ItemReason, OctetFault, SpecialFault}
use Rattle.rdata_svcb.specs.ParamRefusals.{NewReason, NextKeyReason, ParamReason, ParamsReason, ValueReason, WordFault}
use Rattle.rdata_svcb.specs.declared.keys.ValueKind.{ValueKind}
use Rattle.rdata_svcb.specs.declared.keys.ValueKind.TheVariants.{Keys, Strings as OfStrings, Nothing as OfNothing, Port, Ipv4 as OfIpv4, Digits, Ipv6 as OfIpv6, Octets}
use Rattle.rdata.specs.ByType.{RefusesData, RefusesGeneric, RefusesType, shape_of_code}
use Rattle.rdata.specs.Data.{RefusesAfterFields}
use Rattle.rdata.specs.Digits.{IsDigitsFault, JoinedReason, digits_form}
use Rattle.rdata.specs.GatewayKeys.{GatewayTypeReason, gateway_form, gateway_key_form, gateway_type_form, key_form, octet_form}
use Rattle.rdata.specs.Generic.{GenericReason, WhyNoCount, generic_form}
use Rattle.rdata.specs.PrefixLists.{prefix_form}
use Rattle.rdata.specs.HeldForms.{held_form}
use Rattle.rdata.specs.HostIdentities.{PublicKeyReason, hit_form, host_identity_form, public_key_form, server_form}
use Rattle.rdata.specs.MaybeStrings.{MaybeStringReason}
use Rattle.rdata.specs.NsapRest.{nsap_word_form}
use Rattle.rdata.specs.OneToken.{OneReason}
use Rattle.rdata.specs.RestKinds.{StringTokensReason, rest_form}
use Rattle.rdata.specs.Rests.{AfterSomeTokens, RefusesAs, RefusesRest, RestForm}
use Rattle.rdata.specs.Texts.{TextReason}
use Rattle.rdata.specs.TokenForms.{ReasonAfter, ThenReason, TokenForm, each_form, then_form}
use Rattle.rdata.specs.TypeLists.{TypesReason}
use Rattle.rdata.specs.Types.{TypeShape}
use Rattle.rdata.specs.declared.rest.Rest.{Rest}
use Rattle.rdata.specs.declared.rest.Rest.TheVariants.{Nothing, Strings, MaybeString, Hex, Base64, Types, SomeTypes, Text, QuotedText, Location, Prefixes, GatewayKey, HostIdentity, Params, Nsap}
use Rattle.rdata.specs.declared.shape.Shape.{Shape}

module _ (w : Wrong) where
  -- ---- fields

  number_quiet : (limit : ℕ) (text : List ℕ) → NumberReason limit text (Syntax w) → ⊥
  number_quiet limit text (inl h) = let e = h.0 in cc
  number_quiet limit text (inr h) = let e = h.0 in cc

  hash_kind : (long short : Bool) → Syntax w ≡ (if long then LongHash else if short then ShortBase32 else IllegalBase32) → ⊥
  hash_kind true short h = cc
  hash_kind false true h = cc
  hash_kind false false h = cc

  hash_quiet : (text : List ℕ) → Syntax w ≡ hash_refusal text → ⊥
  hash_quiet text h = hash_kind _ _ h

  pub field_quiet : (origin : Option (List (List ℕ))) (f : Field) (quoted : Bool) (text : List ℕ) → (field_form origin f).reason quoted text (Syntax w) → ⊥
  field_quiet origin Number8 quoted text (inl h) = let e = h.0 in cc
  field_quiet origin Number8 quoted text (inr h) = number_quiet (2 ^ 8) text h.1
  field_quiet origin Number16 quoted text (inl h) = let e = h.0 in cc
  field_quiet origin Number16 quoted text (inr h) = number_quiet (2 ^ 16) text h.1
  field_quiet origin Number32 quoted text (inl h) = let e = h.0 in cc
  field_quiet origin Number32 quoted text (inr h) = number_quiet (2 ^ 32) text h.1
  field_quiet origin Interval quoted text (inl h) = let e = h.0 in cc
  field_quiet origin Interval quoted text (inr h) = let e = h.1 in cc
  field_quiet origin Ipv4 quoted text (inl h) = let e = h.0 in cc
  field_quiet origin Ipv4 quoted text (inr h) = let e = h.1 in cc
  field_quiet origin Ipv6 quoted text (inl h) = let e = h.0 in cc
  field_quiet origin Ipv6 quoted text (inr h) = let e = h.1 in cc
  field_quiet origin OfRecordType quoted text (inl h) = let e = h.0 in cc
  field_quiet origin OfRecordType quoted text (inr h) = let e = h.1 in cc
  field_quiet origin SigType quoted text (inl h) = let e = h.0 in cc
  field_quiet origin SigType quoted text (inr h) = let e = h.1 in cc
  field_quiet origin Algorithm quoted text (inl h) = let e = h.0 in cc
  field_quiet origin Algorithm quoted text (inr h) = let e = h.1 in cc
  field_quiet origin CertificateType quoted text (inl h) = let e = h.0 in cc
  field_quiet origin CertificateType quoted text (inr h) = let e = h.1 in cc
  field_quiet origin SyncScheme quoted text (inl h) = let e = h.0 in cc
  field_quiet origin SyncScheme quoted text (inr h) = let e = h.1 in cc
  field_quiet origin Eui48 quoted text (inl h) = let e = h.0 in cc
  field_quiet origin Eui48 quoted text (inr h) = let e = h.1 in cc
  field_quiet origin Eui64 quoted text (inl h) = let e = h.0 in cc
  field_quiet origin Eui64 quoted text (inr h) = let e = h.1 in cc
  field_quiet origin Time quoted text (inl h) = let e = h.0 in cc
  field_quiet origin Time quoted text (inr h) = let e = h.1 in cc
  field_quiet origin Locator quoted text (inl h) = let e = h.0 in cc
  field_quiet origin Locator quoted text (inr h) = let e = h.1 in cc
  field_quiet origin String quoted text h = h
  field_quiet origin PsdnAddress quoted text h = let e = h.0 in cc
  field_quiet origin Tag quoted text (inl h) = let e = h.0 in cc
  field_quiet origin Tag quoted text (inr h) = let e = h.0 in cc
  field_quiet origin Salt quoted text (inl h) = let e = h.0 in cc
  field_quiet origin Salt quoted text (inr h) = let e = h.1 in cc
  field_quiet origin Hash quoted text (inl h) = let e = h.0 in cc
  field_quiet origin Hash quoted text (inr h) = hash_quiet text h.0
  field_quiet origin Name quoted text (inl h) = let e = h.0 in cc
  field_quiet origin Name quoted text (inr h) = h.1

  pub next_quiet : (origin : Option (List (List ℕ))) (room : Room) (f : Field) (tokens : List TokenSeen) (old : List ℕ) → RefusesNext origin room f tokens old (Syntax w) → ⊥
  next_quiet origin room f [] old h = cc
  next_quiet origin room f (t ∷ ts) old (inl h) = let e = h.0 in cc
  next_quiet origin room f (t ∷ ts) old (inr h) = field_quiet origin f t.is_quoted t.text h.0

  -- ---- fields up to the end of an entry

  abbrev Quiet : (List TokenSeen → List TokenSeen → ErrorKind → Type 0) → Type 0
  Quiet Why = (tokens left : List TokenSeen) → Why tokens left (Syntax w) → ⊥

  abbrev TokenQuiet : (TokenSeen → ErrorKind → Type 0) → Type 0
  TokenQuiet Why = (t : TokenSeen) → Why t (Syntax w) → ⊥

  behind_quiet : (Why : List TokenSeen → List TokenSeen → ErrorKind → Type 0) → Quiet Why → Quiet (AfterSomeTokens Why)
  behind_quiet Why quiet tokens left h = quiet h.0 left h.2

  strings_quiet : (origin : Option (List (List ℕ))) → Quiet (StringTokensReason origin)
  strings_quiet origin before [] h = h
  strings_quiet origin before (t ∷ ts) h = h.1

  maybe_string_quiet : Quiet MaybeStringReason
  maybe_string_quiet [] left h = h
  maybe_string_quiet (t ∷ ts) left (inl h) = h.1
  maybe_string_quiet (t ∷ ts) left (inr h) = let e = h.1 in cc

  digits_quiet : (kind : DigitsKind) (text : List ℕ) → IsDigitsFault kind text (Syntax w) → ⊥
  digits_quiet InHex text (inl h, goes) = let e = h.0 in cc
  digits_quiet InBase64 text (inl h, goes) = let e = h.0 in cc
  digits_quiet kind text (inr h, goes) = let e = h.0 in cc

  unfinished_quiet : (kind : DigitsKind) → Syntax w ≡ unfinished kind → ⊥
  unfinished_quiet InHex h = cc
  unfinished_quiet InBase64 h = cc

  joined_quiet : (kind : DigitsKind) → Quiet (JoinedReason kind)
  joined_quiet kind before [] h = unfinished_quiet kind h.0
  joined_quiet kind before (t ∷ ts) (inl h) = let e = h.0 in cc
  joined_quiet kind before (t ∷ ts) (inr h) = digits_quiet kind _ h.1

  digits_form_quiet : (kind : DigitsKind) → Quiet (digits_form kind).reason
  digits_form_quiet kind tokens left h = joined_quiet kind h.0 left h.2.2

  types_quiet : Quiet TypesReason
  types_quiet before [] h = h
  types_quiet before (t ∷ ts) (named, inl h) = let e = h.0 in cc
  types_quiet before (t ∷ ts) (named, inr (q, inl h)) = let e = h.0 in cc
  types_quiet before (t ∷ ts) (named, inr (q, inr h)) = let e = h.0 in cc

  text_quiet : (wants : Bool) → Quiet (TextReason wants)
  text_quiet wants [] [] h = cc
  text_quiet wants [] (t ∷ ts) (inl h) = let e = h.0 in cc
  text_quiet wants [] (t ∷ ts) (inr h) = let e = h.0 in cc
  text_quiet wants (t ∷ []) [] h = h
  text_quiet wants (t ∷ []) (u ∷ us) h = let e = h.0 in cc
  text_quiet wants (t ∷ u ∷ ts) left h = h

  prefix_quiet : Quiet (ReasonAfter prefix_form)
  prefix_quiet before [] h = h
  prefix_quiet before (t ∷ ts) (octets, inl h, none) = let e = h.0 in cc
  prefix_quiet before (t ∷ ts) (octets, inr h, none) = let e = h.0 in cc

  -- ---- a gateway and a key

  then_quiet : (f : TokenForm) (behind : List ℕ → RestForm) → TokenQuiet f.reason → ((front : List ℕ) → Quiet (behind front).reason) → Quiet (ThenReason f behind)
  then_quiet f behind first rest [] left h = let e = h.1 in cc
  then_quiet f behind first rest (t ∷ ts) left (inl h) = first t h.1
  then_quiet f behind first rest (t ∷ ts) left (inr h) = rest h.0 ts left h.2

  one_quiet : (f : TokenForm) → TokenQuiet f.reason → Quiet (OneReason f)
  one_quiet f first [] left h = let e = h.1 in cc
  one_quiet f first (t ∷ ts) left (inl h) = first t h.1
  one_quiet f first (t ∷ ts) left (inr h) = let e = h.1 in cc

  nsap_quiet : TokenQuiet nsap_word_form.reason
  nsap_quiet t (inl h) = let e = h.0 in cc
  nsap_quiet t (inr (q, inl h, never)) = let e = h.0 in cc
  nsap_quiet t (inr (q, inr (digits, has, some, inl h), never)) = let e = h.0 in cc
  nsap_quiet t (inr (q, inr (digits, has, some, inr h), never)) = let e = h.0 in cc

  octet_quiet : TokenQuiet octet_form.reason
  octet_quiet t h = field_quiet None Number8 t.is_quoted t.text h

  gateway_type_quiet : TokenQuiet GatewayTypeReason
  gateway_type_quiet t (inl h) = octet_quiet t h
  gateway_type_quiet t (inr h) = let e = h.0 in cc

  gateway_quiet : (origin : Option (List (List ℕ))) (number : ℕ) → TokenQuiet (gateway_form origin number).reason
  gateway_quiet origin number t (inl h) = field_quiet origin Name t.is_quoted t.text h.1
  gateway_quiet origin number t (inr (n, inl h)) = let e = h.0 in cc
  gateway_quiet origin number t (inr (n, inr h)) = let e = h.0 in cc

  key_quiet : (algorithm : ℕ) → Quiet (key_form algorithm).reason
  key_quiet algorithm tokens left (inl h) = digits_form_quiet InBase64 tokens left h
  key_quiet algorithm tokens left (inr h) = let e = h.0 in cc

  abbrev behind_algorithm : Option (List (List ℕ)) → List ℕ → List ℕ → RestForm
  behind_algorithm origin number algorithm = then_form (gateway_form origin (slice_index number 0)) (λ gateway. key_form (slice_index algorithm 0))

  abbrev behind_type : Option (List (List ℕ)) → List ℕ → RestForm
  behind_type origin number = then_form octet_form (behind_algorithm origin number)

  gateway_key_quiet : (origin : Option (List (List ℕ))) → Quiet (gateway_key_form origin).reason
  gateway_key_quiet origin =
      then_quiet gateway_type_form (behind_type origin) gateway_type_quiet (λ number. then_quiet octet_form (behind_algorithm origin number) octet_quiet (λ algorithm.
      then_quiet (gateway_form origin (slice_index number 0)) (λ gateway. key_form (slice_index algorithm 0)) (gateway_quiet origin (slice_index number 0)) (λ gateway. key_quiet (slice_index algorithm 0))))

  -- ---- a host identity

  hit_quiet : TokenQuiet hit_form.reason
  hit_quiet t (inl h) = let e = h.0 in cc
  hit_quiet t (inr h) = let e = h.0 in cc

  public_key_quiet : TokenQuiet PublicKeyReason
  public_key_quiet t (inl h) = let e = h.0 in cc
  public_key_quiet t (inr (plain, inl h)) = let e = h.0 in cc
  public_key_quiet t (inr (plain, inr (inl h))) = digits_quiet InBase64 t.text h
  public_key_quiet t (inr (plain, inr (inr h))) = let e = h.0 in cc

  server_quiet : (origin : Option (List (List ℕ))) → Quiet (ReasonAfter (server_form origin))
  server_quiet origin before [] h = h
  server_quiet origin before (t ∷ ts) h = field_quiet origin Name t.is_quoted t.text h.1

  abbrev after_hit : Option (List (List ℕ)) → List ℕ → List ℕ → RestForm
  after_hit origin algorithm hit = then_form (public_key_form (slice_index algorithm 0) hit) (λ key. each_form (server_form origin))

  abbrev after_algorithm : Option (List (List ℕ)) → List ℕ → RestForm
  after_algorithm origin algorithm = held_form (λ octets. take (slice_index octets 0) (drop 4 octets)) hit_form (after_hit origin algorithm)

  host_quiet : (origin : Option (List (List ℕ))) → Quiet (host_identity_form origin).reason
  host_quiet origin =
      then_quiet octet_form (after_algorithm origin) octet_quiet (λ algorithm. then_quiet hit_form (after_hit origin algorithm) hit_quiet (λ hit.
      then_quiet (public_key_form (slice_index algorithm 0) hit) (λ key. each_form (server_form origin)) public_key_quiet (λ key. behind_quiet (ReasonAfter (server_form origin)) (server_quiet origin))))

  -- ---- service parameters

  next_key_quiet : (keys : List ℕ) (item : List ℕ) → NextKeyReason keys item (Syntax w) → ⊥
  next_key_quiet keys item (inl h) = let e = h.0 in cc
  next_key_quiet keys item (inr h) = let e = h.0 in cc

  special_quiet : (text : List ℕ) → SpecialFault text (Syntax w) → ⊥
  special_quiet text (inl h) = let e = h.0 in cc
  special_quiet text (inr h) = let e = h.0 in cc

  item_octet_quiet : (text : List ℕ) → OctetFault text (Syntax w) → ⊥
  item_octet_quiet text (inl h) = let e = h.0 in cc
  item_octet_quiet text (inr h) = special_quiet h.0 h.2

  item_quiet : (item rest : List ℕ) → ItemReason item rest (Syntax w) → ⊥
  item_quiet item rest (inl h) = let e = h.0 in cc
  item_quiet item rest (inr h) = item_octet_quiet rest h.1

  value_quiet : (kind : ValueKind) (text : List ℕ) → ValueReason kind text (Syntax w) → ⊥
  value_quiet Keys text h = next_key_quiet h.0 h.1 h.4
  value_quiet OfStrings text h = item_quiet h.4.0 h.4.1 h.4.3
  value_quiet OfNothing text h = let e = h.0 in cc
  value_quiet Port text h = number_quiet (2 ^ 16) text h
  value_quiet OfIpv4 text h = let e = h.3 in cc
  value_quiet Digits text (inl h) = let e = h.0 in cc
  value_quiet Digits text (inr (inl i, x)) = let e = i.0 in cc
  value_quiet Digits text (inr (inr t, x)) = let e = t.0 in cc
  value_quiet OfIpv6 text h = let e = h.3 in cc
  value_quiet Octets text h = let e = h.0 in cc

  new_quiet : (params : List (ℕ × List ℕ)) (key : ℕ) (kind : ValueKind) (text : List ℕ) → NewReason params key kind text (Syntax w) → ⊥
  new_quiet params key kind text (inl h) = value_quiet kind text h
  new_quiet params key kind text (inr (v, s, inl h)) = let e = h.0 in cc
  new_quiet params key kind text (inr (v, s, inr h)) = let e = h.0 in cc

  begin_quiet : (t : TokenSeen) → WordFault t (Syntax w) → ⊥
  begin_quiet t (inl h) = let e = h.0 in cc
  begin_quiet t (inr (inl h)) = let e = h.0 in cc
  begin_quiet t (inr (inr h)) = let e = h.0 in cc

  param_quiet : (params : List (ℕ × List ℕ)) (tokens left : List TokenSeen) → ParamReason params tokens left (Syntax w) → ⊥
  param_quiet params [] left (inl h) = h.1
  param_quiet params (t ∷ ts) left (inl h) = begin_quiet t h.1
  param_quiet params [] left (inr h) = new_quiet params h.0 h.1 h.2 h.5
  param_quiet params (t ∷ ts) left (inr h) = new_quiet params h.0 h.1 h.2 h.5

  params_quiet : Quiet ParamsReason
  params_quiet tokens left (params, rest, read, inl p) = param_quiet params rest left p
  params_quiet tokens left (params, rest, read, inr f) = f.2

  -- ---- each kind

  pub rest_quiet : (origin : Option (List (List ℕ))) (r : Rest) → Quiet (rest_form origin r).reason
  rest_quiet origin Nothing tokens left h = let e = h.2 in cc
  rest_quiet origin Strings tokens left (inl h) = behind_quiet (StringTokensReason origin) (strings_quiet origin) tokens left h
  rest_quiet origin Strings tokens left (inr h) = let e = h.0 in cc
  rest_quiet origin MaybeString tokens left h = maybe_string_quiet tokens left h
  rest_quiet origin Hex tokens left (inl h) = digits_form_quiet InHex tokens left h
  rest_quiet origin Hex tokens left (inr h) = let e = h.0 in cc
  rest_quiet origin Base64 tokens left (inl h) = digits_form_quiet InBase64 tokens left h
  rest_quiet origin Base64 tokens left (inr h) = let e = h.0 in cc
  rest_quiet origin Nsap tokens left h = one_quiet nsap_word_form nsap_quiet tokens left h
  rest_quiet origin Types tokens left h = behind_quiet TypesReason types_quiet tokens left h
  rest_quiet origin SomeTypes tokens left (inl h) = behind_quiet TypesReason types_quiet tokens left h
  rest_quiet origin SomeTypes tokens left (inr h) = let e = h.0 in cc
  rest_quiet origin Text tokens left h = behind_quiet (TextReason false) (text_quiet false) tokens left h
  rest_quiet origin QuotedText tokens left h = behind_quiet (TextReason true) (text_quiet true) tokens left h
  rest_quiet origin Location tokens left h = h.0
  rest_quiet origin Prefixes tokens left h = behind_quiet (ReasonAfter prefix_form) prefix_quiet tokens left h
  rest_quiet origin GatewayKey tokens left h = gateway_key_quiet origin tokens left h
  rest_quiet origin HostIdentity tokens left h = host_quiet origin tokens left h
  rest_quiet origin Params tokens left h = params_quiet tokens left h

  count_quiet : (tokens : List TokenSeen) → WhyNoCount tokens (Syntax w) → ⊥
  count_quiet [] h = cc
  count_quiet (t ∷ ts) (inl h) = let e = h.0 in cc
  count_quiet (t ∷ ts) (inr h) = number_quiet (2 ^ 16) t.text h.1

  not_length : (found wanted : ℕ) → Syntax w ≡ WrongLength found wanted → ⊥
  not_length found wanted h = cc

  generic_quiet : Quiet GenericReason
  generic_quiet [] left h = h
  generic_quiet (mark ∷ tokens) left (inl h) = count_quiet tokens h.1
  generic_quiet (mark ∷ tokens) left (inr (count, digits, is, inl h)) = digits_form_quiet InHex digits left h.1
  generic_quiet (mark ∷ tokens) left (inr (count, digits, is, inr (other, none))) = not_length _ _ other.5

  -- ---- data

  -- an error of another kind
  pub other_kind : (e : RecordError) (kind : ErrorKind) → e.kind ≡ kind → e.kind ≡ Syntax w → Syntax w ≡ kind
  other_kind e kind is fault = sym fault ∙ is

  rest_refused : (room : Room) (f : RestForm) (end : ℕ) (tokens left : List TokenSeen) (old new : List ℕ) (e : RecordError) → Quiet f.reason → RefusesRest room f end tokens old e left new → e.kind ≡ Syntax w → ⊥
  rest_refused room f end tokens left old new e quiet h is = go (subst (λ k. RefusesAs room f tokens old left k) is h.why)
    where
      go : RefusesAs room f tokens old left (Syntax w) → ⊥
      go (inl k) = let e = k.0 in cc
      go (inr k) = quiet tokens left k.0

  module _ (origin : Option (List (List ℕ))) (room : Room) (end : ℕ) (tokens left : List TokenSeen) (old new : List ℕ) (e : RecordError) (is : e.kind ≡ Syntax w) where
    fields_refused : (fields : List Field) → ParsesAllFields origin room fields end tokens old (Err e) left new → ⊥
    fields_refused fields (place, h, at) = next_quiet origin room h.field left h.middle (subst (λ k. RefusesNext origin room h.field left h.middle k) is h.why)

    behind_refused : (shape : Shape) → RefusesAfterFields origin room shape end tokens old e left new → ⊥
    behind_refused shape h = elim h.why [
      | inl hash ↦ not_length _ _ (sym is ∙ ap (λ x. x.kind) hash.0)
      | inr rest ↦ elim rest.1 [
        | inl part ↦ rest_refused room (rest_form origin shape.rest) end h.behind left h.middle new part.0 (rest_quiet origin shape.rest) part.3 (sym (ap (λ x. x.kind) part.2) ∙ is)
        | inr short ↦ not_length _ _ (sym is ∙ ap (λ x. x.kind) short.1.1.1.1)
      ]
    ]

    generic_refused : (found : Option TypeShape) → RefusesGeneric found room end tokens old e left new → ⊥
    generic_refused found (inl h) = rest_refused room generic_form end tokens left old new e generic_quiet h is
    generic_refused found (inr h) = let other : Syntax w ≡ NotOfType = other_kind e NotOfType (ap (λ x. x.kind) h.0) is in cc

    data_refused : (rtype : RecordType) → RefusesData origin room rtype end tokens old e left new → ⊥
    data_refused rtype (inl h) = let other : Syntax w ≡ NoDataType = other_kind e NoDataType (ap (λ x. x.kind) h.0) is in cc
    data_refused rtype (inr (inl h)) = generic_refused (shape_of_code rtype) h.2
    data_refused rtype (inr (inr (inl h))) = let other : Syntax w ≡ NoTextForm = other_kind e NoTextForm (ap (λ x. x.kind) h.0) is in cc
    data_refused rtype (inr (inr (inr (mark, (shape, has, h), is_type)))) = elim h.0 [ inl field ↦ fields_refused shape.fields.now field | inr behind ↦ behind_refused shape behind ]

  pub type_refused : (origin : Option (List (List ℕ))) (room : Room) (rtype : RecordType) (end : ℕ) (tokens left : List TokenSeen) (old new : List ℕ) (e : RecordError) → RefusesType origin room rtype end tokens old e left new → e.kind ≡ Syntax w → ⊥
  type_refused origin room rtype end tokens left old new e h is = data_refused origin room end tokens left old new h.0 (sym (ap (λ x. x.kind) h.1) ∙ is) rtype h.2
