-- Tails are rejected at one token, for one reason.
use Rattle.std.proofs.Common.{ℕ, zero, suc, Bool, true, false, true≢false, Option, None, ◌≡◌, ◌≢◌, ◌≤◌, ◌<◌, List, [], ◌∷◌, ◌++◌, length, refl, sym, ap, subst, ◌∙◌, inl, inr, arith, append_assoc, append-nil, length-append}
use Rattle.std.specs.Prelude.{◌⊎◌, ◌^◌, slice_index}
use Rattle.dns_lexer.specs.EntryTokens.{TokenSeen}
use Rattle.dns_codec.specs.Base.{base64}
use Rattle.rdata_tokens.specs.Spelled.{SpellsDigits, base_of}
use Rattle.rdata_tokens.specs.Tokens.{DigitsContinue}
use Rattle.rdata_tokens.specs.declared.kind.DigitsKind.{DigitsKind}
use Rattle.rdata_tokens.specs.declared.kind.DigitsKind.TheVariants.{Hex as InHex, Base64 as InBase64}
use Rattle.rdata_values.specs.declared.error.ErrorKind.{ErrorKind}
use Rattle.rdata_values.specs.declared.error.ErrorKind.TheVariants.{WrongLength}
use Rattle.rdata_fields.specs.declared.field.Field.TheVariants.{Number8 as OfNumber8, String as OfString, Name as OfName}
use Rattle.rdata_fields.specs.Parsing.{SpellsEach, SpellsField}
use Rattle.rdata_fields.proofs.FieldErrors.{one_reason, bad_or_spelled, number_once, reason_or_number, reason_or_string}
use Rattle.rdata_fields.proofs.Splits.{GoesOn, two_splits}
use Rattle.rdata_svcb.proofs.ParamReasons.{params_reason_once}
use Rattle.rdata_tails.specs.LocationParsing.{RefusesTokens}
use Rattle.rdata_tails.proofs.LocationReasons.{first_refused_once, location_reason_once}
use Rattle.rdata.specs.Digits.{joined_words, AreUnquoted, SpellsJoined, IsDigitsFault, JoinedReason, digits_form}
use Rattle.rdata.specs.GatewayKeys.{octet_form, gateway_type_form, AddressReason, gateway_form, key_form, gateway_key_form}
use Rattle.rdata.specs.Generic.{IsCount, IsNoCount, WhyNoCount, IsOtherCount, generic_form}
use Rattle.rdata.specs.HeldForms.{held_form}
use Rattle.rdata.specs.HostIdentities.{hit_form, PublicKeyTextReason, public_key_form, server_form, servers_form, host_identity_form}
use Rattle.rdata.specs.LocationRest.{location_form}
use Rattle.rdata.specs.MaybeStrings.{maybe_string_form}
use Rattle.rdata.specs.OneError.{RejectsOnce, HasOnePart}
use Rattle.rdata.specs.PrefixLists.{prefix_form}
use Rattle.rdata.specs.RestKinds.{StringTokensReason, rest_form, strings_form}
use Rattle.rdata.specs.Rests.{RestForm, AfterSomeTokens, some_form}
use Rattle.rdata.specs.Texts.{TextReason, nothing_form, text_form}
use Rattle.rdata.specs.TokenForms.{TokenForm, SpellOctets, ReasonAfter, ThenReason, PartAfter, each_form, then_form}
use Rattle.rdata.specs.TypeLists.{NameTypes, NamesNone, TypesReason, types_form}
use Rattle.rdata.specs.declared.rest.Rest.{Rest}
use Rattle.rdata.specs.declared.rest.Rest.TheVariants.{Nothing, Strings, MaybeString, Hex, Base64, Types, SomeTypes, Text, QuotedText, Location as OfLocation, Prefixes, GatewayKey, HostIdentity, Params, Nsap}
use Rattle.rdata.proofs.GatewayLaws.{octet_once, gateway_type_once, gateway_once}
use Rattle.rdata.proofs.HostLaws.{after_algorithm as after_own, after_hit, hit_once, public_key_once, shown_algorithm, shown_hit}
use Rattle.rdata.proofs.Joinings.{joined_once as spelled_once, joined_parts, unquoted_at}
use Rattle.rdata.proofs.Namings.{names_at, never_both}
use Rattle.rdata.proofs.NsapRestLaws.{nsap_rejected}
use Rattle.rdata.proofs.TokenRests.{SpelledOnce}

quoted_apart : (quoted : Bool) → quoted ≡ true → quoted ≡ false → ⊥
quoted_apart quoted h k = true≢false (sym h ∙ k)

-- what holds after some tokens holds after no others
module _ (Why : List TokenSeen → List TokenSeen → ErrorKind → Type 0) where
  pub after_once : ((before left : List TokenSeen) (a b : ErrorKind) → Why before left a → Why before left b → a ≡ b)
      → ((before left others last : List TokenSeen) (a b : ErrorKind) → GoesOn before left others → Why before left a → Why others last b → ⊥)
      → (tokens left last : List TokenSeen) (a b : ErrorKind) → AfterSomeTokens Why tokens left a → AfterSomeTokens Why tokens last b → (left ≡ last) × (a ≡ b)
  after_once one apart tokens left last a b h k =
      elim (two_splits h.0 k.0 left last (sym h.1 ∙ k.1)) [
        | inl same ↦ (same.1, one k.0 last a b (subst (λ ts. Why k.0 ts a) same.1 (subst (λ ts. Why ts left a) same.0 h.2)) k.2)
        | inr (inl on) ↦ absurd (apart h.0 left k.0 last a b on h.2 k.2)
        | inr (inr on) ↦ absurd (apart k.0 last h.0 left b a on k.2 h.2)
      ]

-- ---- strings

module _ (origin : Option (List (List ℕ))) where
  each_at : (before more : List TokenSeen) (t : TokenSeen) (octets : List ℕ) → SpellsEach origin OfString (before ++ t ∷ more) octets → (o : List ℕ) × SpellsField origin OfString t o
  each_at [] more t octets h = (h.0, h.3)
  each_at (b ∷ bs) more t octets h = each_at bs more t h.1 h.4

  strings_same : (before left : List TokenSeen) (a b : ErrorKind) → StringTokensReason origin before left a → StringTokensReason origin before left b → a ≡ b
  strings_same before [] a b h k = absurd h
  strings_same before (t ∷ ts) a b h k = one_reason origin OfString t.is_quoted t.text a b h.1 k.1

  -- a token that is rejected after others is not among tokens that are spelled
  string_in : (before left others : List TokenSeen) (e : ErrorKind) (octets : List ℕ) → GoesOn before left others → StringTokensReason origin before left e → SpellsEach origin OfString others octets → ⊥
  string_in before left others e octets on h sp =
      let at = each_at before on.more on.token octets (subst (λ ts. SpellsEach origin OfString ts octets) on.whole sp) in
      let why : StringTokensReason origin before (on.token ∷ on.later) e = subst (λ ts. StringTokensReason origin before ts e) on.next h in
      reason_or_string on.token.is_quoted on.token.text at.0 e why.1 at.1

  strings_apart : (before left others last : List TokenSeen) (a b : ErrorKind) → GoesOn before left others → StringTokensReason origin before left a → StringTokensReason origin others last b → ⊥
  strings_apart before left others [] a b on h k = k
  strings_apart before left others (t ∷ ts) a b on h k = string_in before left others a k.0.0 on h k.0.1

  strings_once : RejectsOnce (strings_form origin)
  strings_once = after_once (StringTokensReason origin) strings_same strings_apart

  all_on : (before left tokens : List TokenSeen) (t : TokenSeen) (ts : List TokenSeen) → tokens ≡ before ++ left → left ≡ t ∷ ts → GoesOn before left tokens
  all_on before left tokens t ts whole next = record { token = t; later = ts; more = ts; next = next; whole = whole ∙ ap (λ l. before ++ l) next }

  strings_excluded : (tokens left : List TokenSeen) (e : ErrorKind) (octets : List ℕ) → (strings_form origin).reason tokens left e → SpellsEach origin OfString tokens octets → ⊥
  strings_excluded tokens [] e octets h sp = h.2
  strings_excluded tokens (t ∷ ts) e octets h sp = string_in h.0 (t ∷ ts) tokens e octets (all_on h.0 (t ∷ ts) tokens t ts h.1 refl) h.2 sp

-- one or more octets
some_once : (f : RestForm) → RejectsOnce f → ((tokens left : List TokenSeen) (e : ErrorKind) (octets : List ℕ) → f.reason tokens left e → f.spells tokens octets → ⊥) → RejectsOnce (some_form f)
some_once f once excluded tokens left last a b (inl h) (inl k) = once tokens left last a b h k
some_once f once excluded tokens left last a b (inl h) (inr k) = absurd (excluded tokens left a [] h k.2)
some_once f once excluded tokens left last a b (inr h) (inl k) = absurd (excluded tokens last b [] k h.2)
some_once f once excluded tokens left last a b (inr h) (inr k) = (h.1 ∙ sym k.1, h.0 ∙ sym k.0)

maybe_string_rejected : RejectsOnce maybe_string_form
maybe_string_rejected [] left last a b h k = absurd h
maybe_string_rejected (t ∷ ts) left last a b (inl h) (inl k) = (h.0 ∙ sym k.0, one_reason None OfString t.is_quoted t.text a b h.1 k.1)
maybe_string_rejected (t ∷ ts) left last a b (inl h) (inr k) = absurd (reason_or_string t.is_quoted t.text k.2.1.0 a h.1 k.2.1.1)
maybe_string_rejected (t ∷ ts) left last a b (inr h) (inl k) = absurd (reason_or_string t.is_quoted t.text h.2.1.0 b k.1 h.2.1.1)
maybe_string_rejected (t ∷ ts) left last a b (inr h) (inr k) = (h.0 ∙ sym k.0, h.1 ∙ sym k.1)

-- ---- digits

module _ (kind : DigitsKind) where
  abbrev DigitsWhy : List TokenSeen → List TokenSeen → ErrorKind → Type 0
  DigitsWhy before left e = AreUnquoted before × DigitsContinue kind (joined_words before) × JoinedReason kind before left e

  fault_once : (text : List ℕ) (a b : ErrorKind) → IsDigitsFault kind text a → IsDigitsFault kind text b → a ≡ b
  fault_once text a b (inl h, p) (inl k, q) = h.0 ∙ sym k.0
  fault_once text a b (inl h, p) (inr k, q) = absurd (h.1 k.1)
  fault_once text a b (inr h, p) (inl k, q) = absurd (k.1 h.1)
  fault_once text a b (inr h, p) (inr k, q) = h.0 ∙ sym k.0

  joined_once : (before left : List TokenSeen) (a b : ErrorKind) → JoinedReason kind before left a → JoinedReason kind before left b → a ≡ b
  joined_once before [] a b h k = h.0 ∙ sym k.0
  joined_once before (t ∷ ts) a b (inl h) (inl k) = h.0 ∙ sym k.0
  joined_once before (t ∷ ts) a b (inl h) (inr k) = absurd (quoted_apart t.is_quoted h.1 k.0)
  joined_once before (t ∷ ts) a b (inr h) (inl k) = absurd (quoted_apart t.is_quoted k.1 h.0)
  joined_once before (t ∷ ts) a b (inr h) (inr k) = fault_once (joined_words (before ++ t ∷ [])) a b h.1 k.1

  -- the digits of some words, and of one more among them
  joined_more : (before more : List TokenSeen) (t : TokenSeen) → joined_words (before ++ t ∷ more) ≡ joined_words (before ++ t ∷ []) ++ joined_words more
  joined_more before more t = ap joined_words (sym (append_assoc before (t ∷ []) more)) ∙ joined_parts (before ++ t ∷ []) more

  continues_less : (before more : List TokenSeen) (t : TokenSeen) → DigitsContinue kind (joined_words (before ++ t ∷ more)) → DigitsContinue kind (joined_words (before ++ t ∷ []))
  continues_less before more t h =
      let text = ap (λ x. x ++ h.0) (joined_more before more t) ∙ append_assoc (joined_words (before ++ t ∷ [])) (joined_words more) h.0 in
      (joined_words more ++ h.0, h.1, subst (λ x. SpellsDigits (base_of kind) x h.1) text h.2)

  joined_in : (before left others : List TokenSeen) (e : ErrorKind) → GoesOn before left others → JoinedReason kind before left e → AreUnquoted others → DigitsContinue kind (joined_words others) → ⊥
  joined_in before left others e on h plain goes = by (subst (λ l. JoinedReason kind before l e) on.next h)
    where
      by : JoinedReason kind before (on.token ∷ on.later) e → ⊥
      by (inl k) = quoted_apart on.token.is_quoted k.1 (unquoted_at before on.more on.token (subst AreUnquoted on.whole plain))
      by (inr k) = let f = k.1 in f.1 (continues_less before on.more on.token (subst (λ ts. DigitsContinue kind (joined_words ts)) on.whole goes))

  digits_once : RejectsOnce (digits_form kind)
  digits_once = after_once DigitsWhy (λ before left a b h k. joined_once before left a b h.2 k.2) (λ before left others last a b on h k. joined_in before left others a on h.2 k.0 k.1)

  pub digits_excluded : (tokens left : List TokenSeen) (e : ErrorKind) (octets : List ℕ) → (digits_form kind).reason tokens left e → SpellsJoined (base_of kind) tokens octets → ⊥
  digits_excluded tokens [] e octets h sp =
      let why = h.2 in
      let end = why.2 in
      end.1 octets (subst (λ ts. SpellsDigits (base_of kind) (joined_words ts) octets) (h.1 ∙ append-nil h.0) sp.1)
  digits_excluded tokens (t ∷ ts) e octets h sp =
      let why = h.2 in
      let goes : DigitsContinue kind (joined_words tokens) = ([], octets, subst (λ x. SpellsDigits (base_of kind) x octets) (sym (append-nil (joined_words tokens))) sp.1) in
      joined_in h.0 (t ∷ ts) tokens e (record { token = t; later = ts; more = ts; next = refl; whole = h.1 }) why.2 sp.0 goes

-- ---- types

none_once : (t : TokenSeen) (a b : ErrorKind) → NamesNone t a → NamesNone t b → a ≡ b
none_once t a b (inl h) (inl k) = h.0 ∙ sym k.0
none_once t a b (inl h) (inr k) = absurd (quoted_apart t.is_quoted h.1 k.0)
none_once t a b (inr h) (inl k) = absurd (quoted_apart t.is_quoted k.1 h.0)
none_once t a b (inr (p, inl h)) (inr (q, inl k)) = h.0 ∙ sym k.0
none_once t a b (inr (p, inl h)) (inr (q, inr k)) = absurd (h.1 0 k.1)
none_once t a b (inr (p, inr h)) (inr (q, inl k)) = absurd (k.1 0 h.1)
none_once t a b (inr (p, inr h)) (inr (q, inr k)) = h.0 ∙ sym k.0

types_same : (before left : List TokenSeen) (a b : ErrorKind) → TypesReason before left a → TypesReason before left b → a ≡ b
types_same before [] a b h k = absurd h
types_same before (t ∷ ts) a b h k = none_once t a b h.1 k.1

type_in : (before left others : List TokenSeen) (e : ErrorKind) (types : List ℕ) → GoesOn before left others → TypesReason before left e → NameTypes others types → ⊥
type_in before left others e types on h named =
    let at = names_at before on.more on.token types (subst (λ ts. NameTypes ts types) on.whole named) in
    let why : TypesReason before (on.token ∷ on.later) e = subst (λ l. TypesReason before l e) on.next h in
    never_both on.token e at.0 why.1 at.1

types_apart : (before left others last : List TokenSeen) (a b : ErrorKind) → GoesOn before left others → TypesReason before left a → TypesReason others last b → ⊥
types_apart before left others [] a b on h k = k
types_apart before left others (t ∷ ts) a b on h k = type_in before left others a k.0.0 on h k.0.1

types_rejected : RejectsOnce types_form
types_rejected = after_once TypesReason types_same types_apart

types_excluded : (tokens left : List TokenSeen) (e : ErrorKind) (octets : List ℕ) → types_form.reason tokens left e → types_form.spells tokens octets → ⊥
types_excluded tokens [] e octets h sp = h.2
types_excluded tokens (t ∷ ts) e octets h sp = type_in h.0 (t ∷ ts) tokens e sp.0 (record { token = t; later = ts; more = ts; next = refl; whole = h.1 }) h.2 sp.1

-- ---- text

module _ (wants : Bool) where
  text_same : (before left : List TokenSeen) (a b : ErrorKind) → TextReason wants before left a → TextReason wants before left b → a ≡ b
  text_same [] [] a b h k = h ∙ sym k
  text_same [] (t ∷ ts) a b (inl h) (inl k) = h.0 ∙ sym k.0
  text_same [] (t ∷ ts) a b (inl h) (inr k) = absurd (quoted_apart t.is_quoted (k.1 h.1) h.2)
  text_same [] (t ∷ ts) a b (inr h) (inl k) = absurd (quoted_apart t.is_quoted (h.1 k.1) k.2)
  text_same [] (t ∷ ts) a b (inr h) (inr k) = h.0 ∙ sym k.0
  text_same (t ∷ []) [] a b h k = absurd h
  text_same (t ∷ []) (u ∷ us) a b h k = h.0 ∙ sym k.0
  text_same (t ∷ u ∷ ts) left a b h k = absurd h

  text_after : (before more last : List TokenSeen) (t : TokenSeen) (later : List TokenSeen) (a b : ErrorKind) → TextReason wants before (t ∷ later) a → TextReason wants (before ++ t ∷ more) last b → ⊥
  text_after [] [] [] t later a b h k = k
  text_after [] [] (u ∷ us) t later a b (inl h) k = quoted_apart t.is_quoted (k.1.1.0 h.1) h.2
  text_after [] [] (u ∷ us) t later a b (inr h) k = bad_or_spelled t.text k.1.0 h.2 k.1.1.1
  text_after [] (m ∷ ms) last t later a b h k = k
  text_after (s ∷ []) more last t later a b h k = k
  text_after (s ∷ r ∷ ss) more last t later a b h k = h

  text_apart : (before left others last : List TokenSeen) (a b : ErrorKind) → GoesOn before left others → TextReason wants before left a → TextReason wants others last b → ⊥
  text_apart before left others last a b on h k =
      text_after before on.more last on.token on.later a b (subst (λ l. TextReason wants before l a) on.next h) (subst (λ o. TextReason wants o last b) on.whole k)

  text_rejected : RejectsOnce (text_form wants)
  text_rejected = after_once (TextReason wants) text_same text_apart

-- ---- locations

location_rejected : RejectsOnce location_form
location_rejected tokens left last a b h k =
    let same = first_refused_once tokens left last h.1 k.1 in
    (same, location_reason_once tokens last a b (subst (λ l. RefusesTokens a tokens l) same h.0) k.0)

-- ---- tokens of one form

-- a token has one reason of a form at most
abbrev pub TokenOnce : TokenForm → Type 0
TokenOnce f = (t : TokenSeen) (a b : ErrorKind) → f.reason t a → f.reason t b → a ≡ b

module _ (f : TokenForm) (one : TokenOnce f) where
  octets_at : (before more : List TokenSeen) (t : TokenSeen) (octets : List ℕ) → SpellOctets f (before ++ t ∷ more) octets → (o : List ℕ) × f.spells t o
  octets_at [] more t octets h = (h.0, h.3)
  octets_at (b ∷ bs) more t octets h = octets_at bs more t h.1 h.4

  each_same : (before left : List TokenSeen) (a b : ErrorKind) → ReasonAfter f before left a → ReasonAfter f before left b → a ≡ b
  each_same before [] a b h k = absurd h
  each_same before (t ∷ ts) a b h k = one t a b h.1 k.1

  each_apart : (before left others last : List TokenSeen) (a b : ErrorKind) → GoesOn before left others → ReasonAfter f before left a → ReasonAfter f others last b → ⊥
  each_apart before left others [] a b on h k = k
  each_apart before left others (u ∷ us) a b on h k =
      let why : ReasonAfter f before (on.token ∷ on.later) a = subst (λ l. ReasonAfter f before l a) on.next h in
      let at = octets_at before on.more on.token k.0.0 (subst (λ ts. SpellOctets f ts k.0.0) on.whole k.0.1) in
      why.2 at.0 at.1

  pub each_rejected : RejectsOnce (each_form f)
  each_rejected = after_once (ReasonAfter f) each_same each_apart

prefix_once : TokenOnce prefix_form
prefix_once t a b (inl h) (inl k) = h.0 ∙ sym k.0
prefix_once t a b (inl h) (inr k) = absurd (quoted_apart t.is_quoted h.1 k.1)
prefix_once t a b (inr h) (inl k) = absurd (quoted_apart t.is_quoted k.1 h.1)
prefix_once t a b (inr h) (inr k) = h.0 ∙ sym k.0

-- ---- a token, and what its octets require

-- a tail is rejected once, at a token of it or at its end
pub record RejectsWithin (f : RestForm) : Type 0 where
  pub once : RejectsOnce f
  pub within : (tokens left : List TokenSeen) (e : ErrorKind) → f.reason tokens left e → length left ≤ length tokens

module _ (f : TokenForm) (behind : List ℕ → RestForm) (one : TokenOnce f) (spelled : SpelledOnce f.spells) (rests : (front : List ℕ) → RejectsWithin (behind front)) where
  then_once : RejectsOnce (then_form f behind)
  then_once [] left last a b h k = (h.0 ∙ sym k.0, h.1 ∙ sym k.1)
  then_once (t ∷ ts) left last a b (inl h) (inl k) = (h.0 ∙ sym k.0, one t a b h.1 k.1)
  then_once (t ∷ ts) left last a b (inl h) (inr k) = absurd (h.2 k.0 k.1)
  then_once (t ∷ ts) left last a b (inr h) (inl k) = absurd (k.2 h.0 h.1)
  then_once (t ∷ ts) left last a b (inr h) (inr k) =
      let front = spelled t h.0 k.0 h.1 k.1 in
      let rest = rests k.0 in
      rest.once ts left last a b (subst (λ o. (behind o).reason ts left a) front h.2) k.2

  then_within : (tokens left : List TokenSeen) (e : ErrorKind) → ThenReason f behind tokens left e → length left ≤ length tokens
  then_within [] left e h = omega (arith, ap length h.0)
  then_within (t ∷ ts) left e (inl h) = omega (arith, ap length h.0)
  then_within (t ∷ ts) left e (inr h) = let rest = rests h.0 in let few = rest.within ts left e h.2 in omega (arith, few)

  pub then_rejected : RejectsWithin (then_form f behind)
  then_rejected = record { once = then_once; within = then_within }

  -- its parts
  module _ (IsPart : List ℕ → List TokenSeen → List TokenSeen → ℕ → Type 0) (parts : (front : List ℕ) (tokens left : List TokenSeen) (e : ErrorKind) (p q : ℕ) → (behind front).reason tokens left e → IsPart front tokens left p → IsPart front tokens left q → p ≡ q) where
    first_part : (tokens left : List TokenSeen) (e : ErrorKind) (q : ℕ) → ThenReason f behind tokens left e → left ≡ tokens → PartAfter f IsPart tokens left (suc q) → ⊥
    first_part [] left e q h is k = k
    first_part (t ∷ ts) left e q (inl h) is k = h.2 k.0 k.1
    first_part (t ∷ ts) left e q (inr h) is k = let rest = rests h.0 in let few = rest.within ts left e h.2 in omega (arith, few, ap length is)

    later_part : (tokens left : List TokenSeen) (e : ErrorKind) (p q : ℕ) → ThenReason f behind tokens left e → PartAfter f IsPart tokens left (suc p) → PartAfter f IsPart tokens left (suc q) → p ≡ q
    later_part [] left e p q h j k = absurd j
    later_part (t ∷ ts) left e p q (inl h) j k = absurd (h.2 j.0 j.1)
    later_part (t ∷ ts) left e p q (inr h) j k =
        let one = spelled t j.0 h.0 j.1 h.1 in
        let two = spelled t k.0 h.0 k.1 h.1 in
        parts h.0 ts left e p q h.2 (subst (λ o. IsPart o ts left p) one j.2) (subst (λ o. IsPart o ts left q) two k.2)

    pub part_once : (tokens left : List TokenSeen) (e : ErrorKind) (p q : ℕ) → ThenReason f behind tokens left e → PartAfter f IsPart tokens left p → PartAfter f IsPart tokens left q → p ≡ q
    part_once tokens left e zero zero h j k = refl
    part_once tokens left e zero (suc q) h j k = absurd (first_part tokens left e q h j k)
    part_once tokens left e (suc p) zero h j k = absurd (first_part tokens left e p h k j)
    part_once tokens left e (suc p) (suc q) h j k = ap suc (later_part tokens left e p q h j k)

-- ---- a gateway and a key

octet_excluded : (t : TokenSeen) (e : ErrorKind) (octets : List ℕ) → octet_form.reason t e → octet_form.spells t octets → ⊥
octet_excluded t e octets (inl h) k = quoted_apart t.is_quoted h.1 k.0
octet_excluded t e octets (inr h) k = let value = k.1 in reason_or_number (2 ^ 8) t.text value.0 e h.1 value.2

octet_reason_once : TokenOnce octet_form
octet_reason_once t a b h k = one_reason None OfNumber8 t.is_quoted t.text a b h k

type_reason_once : TokenOnce gateway_type_form
type_reason_once t a b (inl h) (inl k) = octet_reason_once t a b h k
type_reason_once t a b (inl h) (inr k) = absurd (octet_excluded t a k.1.0 h k.1.1)
type_reason_once t a b (inr h) (inl k) = absurd (octet_excluded t b h.1.0 k h.1.1)
type_reason_once t a b (inr h) (inr k) = h.0 ∙ sym k.0

address_reason_once : (t : TokenSeen) (a b : ErrorKind) → AddressReason t a → AddressReason t b → a ≡ b
address_reason_once t a b (inl h) (inl k) = h.0 ∙ sym k.0
address_reason_once t a b (inl h) (inr k) = absurd (quoted_apart t.is_quoted h.1 k.1)
address_reason_once t a b (inr h) (inl k) = absurd (quoted_apart t.is_quoted k.1 h.1)
address_reason_once t a b (inr h) (inr k) = h.0 ∙ sym k.0

gateway_reason_once : (origin : Option (List (List ℕ))) (number : ℕ) → TokenOnce (gateway_form origin number)
gateway_reason_once origin number t a b (inl h) (inl k) = one_reason origin OfName t.is_quoted t.text a b h.1 k.1
gateway_reason_once origin number t a b (inl h) (inr k) = absurd (k.0 h.0)
gateway_reason_once origin number t a b (inr h) (inl k) = absurd (h.0 k.0)
gateway_reason_once origin number t a b (inr h) (inr k) = address_reason_once t a b h.1 k.1

key_once : (algorithm : ℕ) → RejectsOnce (key_form algorithm)
key_once algorithm tokens left last a b (inl h) (inl k) = digits_once InBase64 tokens left last a b h k
key_once algorithm tokens left last a b (inl h) (inr k) = absurd (digits_excluded InBase64 tokens left a [] h k.3)
key_once algorithm tokens left last a b (inr h) (inl k) = absurd (digits_excluded InBase64 tokens last b [] k h.3)
key_once algorithm tokens left last a b (inr h) (inr k) = (h.1 ∙ sym k.1, h.0 ∙ sym k.0)

key_within : (algorithm : ℕ) (tokens left : List TokenSeen) (e : ErrorKind) → (key_form algorithm).reason tokens left e → length left ≤ length tokens
key_within algorithm tokens left e (inl h) = omega (arith, ap length h.1, length-append h.0 left)
key_within algorithm tokens left e (inr h) = omega (arith, ap length h.1)

key_rejected : (algorithm : ℕ) → RejectsWithin (key_form algorithm)
key_rejected algorithm = record { once = key_once algorithm; within = key_within algorithm }

module _ (origin : Option (List (List ℕ))) where
  abbrev after_algorithm : ℕ → List ℕ → RestForm
  after_algorithm number algorithm = then_form (gateway_form origin number) (λ gateway. key_form (slice_index algorithm 0))

  abbrev after_type : List ℕ → RestForm
  after_type number = then_form octet_form (after_algorithm (slice_index number 0))

  gateway_rejected : (number : ℕ) (algorithm : List ℕ) → RejectsWithin (after_algorithm number algorithm)
  gateway_rejected number algorithm =
      then_rejected (gateway_form origin number) (λ gateway. key_form (slice_index algorithm 0)) (gateway_reason_once origin number) (gateway_once origin number) (λ gateway. key_rejected (slice_index algorithm 0))

  algorithm_rejected : (number : List ℕ) → RejectsWithin (after_type number)
  algorithm_rejected number = then_rejected octet_form (after_algorithm (slice_index number 0)) octet_reason_once octet_once (gateway_rejected (slice_index number 0))

  pub gateway_key_rejected : RejectsWithin (gateway_key_form origin)
  gateway_key_rejected = then_rejected gateway_type_form after_type type_reason_once gateway_type_once algorithm_rejected

  -- the key is the last part
  abbrev LastPart : List ℕ → List TokenSeen → List TokenSeen → ℕ → Type 0
  LastPart gateway tokens left part = part ≡ 0

  abbrev GatewayPart : ℕ → List ℕ → List TokenSeen → List TokenSeen → ℕ → Type 0
  GatewayPart number algorithm = PartAfter (gateway_form origin number) LastPart

  abbrev AlgorithmPart : List ℕ → List TokenSeen → List TokenSeen → ℕ → Type 0
  AlgorithmPart number = PartAfter octet_form (GatewayPart (slice_index number 0))

  pub gateway_part_once : HasOnePart origin GatewayKey
  gateway_part_once tokens left e p q h j k =
      part_once gateway_type_form after_type type_reason_once gateway_type_once algorithm_rejected AlgorithmPart (λ number.
      part_once octet_form (after_algorithm (slice_index number 0)) octet_reason_once octet_once (gateway_rejected (slice_index number 0)) (GatewayPart (slice_index number 0)) (λ algorithm.
      part_once (gateway_form origin (slice_index number 0)) (λ gateway. key_form (slice_index algorithm 0)) (gateway_reason_once origin (slice_index number 0)) (gateway_once origin (slice_index number 0)) (λ gateway. key_rejected (slice_index algorithm 0))
      LastPart (λ gateway ts l d m n r x y. x ∙ sym y))) tokens left e p q h j k

-- ---- a host identity

hit_reason_once : TokenOnce hit_form
hit_reason_once t a b (inl h) (inl k) = h.0 ∙ sym k.0
hit_reason_once t a b (inl h) (inr k) = absurd (quoted_apart t.is_quoted h.1 k.1)
hit_reason_once t a b (inr h) (inl k) = absurd (quoted_apart t.is_quoted k.1 h.1)
hit_reason_once t a b (inr h) (inr k) = h.0 ∙ sym k.0

-- a text that spells octets continues to one that does
spells_on : (text key : List ℕ) → SpellsDigits base64 text key → DigitsContinue InBase64 text
spells_on text key sp = ([], key, subst (λ z. SpellsDigits base64 z key) (sym (append-nil text)) sp)

none_long : (key : List ℕ) → key ≡ [] → 65535 < length key → ⊥
none_long key none long = omega (arith, ap length none, long)

key_text_once : (text : List ℕ) (a b : ErrorKind) → PublicKeyTextReason text a → PublicKeyTextReason text b → a ≡ b
key_text_once text a b (inl h) (inl k) = h.0 ∙ sym k.0
key_text_once text a b (inl h) (inr (inl k)) = absurd (k.1 h.1)
key_text_once text a b (inl h) (inr (inr k)) = absurd (none_long k.1.0 (h.2 k.1.0 k.1.1) k.1.2)
key_text_once text a b (inr (inl h)) (inl k) = absurd (h.1 k.1)
key_text_once text a b (inr (inl h)) (inr (inl k)) = fault_once InBase64 text a b h k
key_text_once text a b (inr (inl h)) (inr (inr k)) = absurd (h.1 (spells_on text k.1.0 k.1.1))
key_text_once text a b (inr (inr h)) (inl k) = absurd (none_long h.1.0 (k.2 h.1.0 h.1.1) h.1.2)
key_text_once text a b (inr (inr h)) (inr (inl k)) = absurd (k.1 (spells_on text h.1.0 h.1.1))
key_text_once text a b (inr (inr h)) (inr (inr k)) = h.0 ∙ sym k.0

public_key_reason_once : (algorithm : ℕ) (hit : List ℕ) → TokenOnce (public_key_form algorithm hit)
public_key_reason_once algorithm hit t a b (inl h) (inl k) = h.0 ∙ sym k.0
public_key_reason_once algorithm hit t a b (inl h) (inr k) = absurd (quoted_apart t.is_quoted h.1 k.0)
public_key_reason_once algorithm hit t a b (inr h) (inl k) = absurd (quoted_apart t.is_quoted k.1 h.0)
public_key_reason_once algorithm hit t a b (inr h) (inr k) = key_text_once t.text a b h.1 k.1

-- a token whose octets are not at its place
held_rejected : (shown : List ℕ → List ℕ) (f : TokenForm) (later : List ℕ → RestForm) → TokenOnce f → SpelledOnce f.spells → ((own : List ℕ) → RejectsWithin (later own)) → RejectsWithin (held_form shown f later)
held_rejected shown f later one spelled rests = let then = then_rejected f later one spelled rests in record { once = then.once; within = then.within }

module _ (origin : Option (List (List ℕ))) where
  server_reason_once : TokenOnce (server_form origin)
  server_reason_once t a b h k = one_reason origin OfName t.is_quoted t.text a b h k

  servers_within : (tokens left : List TokenSeen) (e : ErrorKind) → (servers_form origin).reason tokens left e → length left ≤ length tokens
  servers_within tokens left e h = omega (arith, ap length h.1, length-append h.0 left)

  servers_rejected : RejectsWithin (servers_form origin)
  servers_rejected = record { once = each_rejected (server_form origin) server_reason_once; within = servers_within }

  public_key_rejected : (algorithm : ℕ) (hit : List ℕ) → RejectsWithin (after_hit origin algorithm hit)
  public_key_rejected algorithm hit = then_rejected (public_key_form algorithm hit) (λ key. servers_form origin) (public_key_reason_once algorithm hit) (public_key_once algorithm hit) (λ key. servers_rejected)

  hit_rejected : (algorithm : ℕ) → RejectsWithin (after_own origin algorithm)
  hit_rejected algorithm = held_rejected shown_hit hit_form (λ hit. after_hit origin algorithm hit) hit_reason_once hit_once (public_key_rejected algorithm)

  host_rejected : RejectsWithin (host_identity_form origin)
  host_rejected = held_rejected shown_algorithm octet_form (λ own. after_own origin (slice_index own 0)) octet_reason_once octet_once (λ own. hit_rejected (slice_index own 0))

  -- the servers are the last part
  abbrev ServersPart : List ℕ → List TokenSeen → List TokenSeen → ℕ → Type 0
  ServersPart key tokens left part = part ≡ 0

  abbrev KeyPart : ℕ → List ℕ → List TokenSeen → List TokenSeen → ℕ → Type 0
  KeyPart algorithm hit = PartAfter (public_key_form algorithm hit) ServersPart

  abbrev HitPart : List ℕ → List TokenSeen → List TokenSeen → ℕ → Type 0
  HitPart own = PartAfter hit_form (KeyPart (slice_index own 0))

  host_part_once : HasOnePart origin HostIdentity
  host_part_once tokens left e p q h j k =
      part_once octet_form (λ own. after_own origin (slice_index own 0)) octet_reason_once octet_once (λ own. hit_rejected (slice_index own 0)) HitPart (λ own.
      part_once hit_form (λ hit. after_hit origin (slice_index own 0) hit) hit_reason_once hit_once (public_key_rejected (slice_index own 0)) (KeyPart (slice_index own 0)) (λ hit.
      part_once (public_key_form (slice_index own 0) hit) (λ key. servers_form origin) (public_key_reason_once (slice_index own 0) hit) (public_key_once (slice_index own 0) hit) (λ key. servers_rejected) ServersPart (λ key ts l d m n r x y. x ∙ sym y))) tokens
      left e p q h j k

-- ---- the generic form

count_once : (tokens : List TokenSeen) (a b : ErrorKind) → WhyNoCount tokens a → WhyNoCount tokens b → a ≡ b
count_once [] a b h k = h ∙ sym k
count_once (t ∷ ts) a b (inl h) (inl k) = h.0 ∙ sym k.0
count_once (t ∷ ts) a b (inl h) (inr k) = absurd (quoted_apart t.is_quoted h.1 k.0)
count_once (t ∷ ts) a b (inr h) (inl k) = absurd (quoted_apart t.is_quoted k.1 h.0)
count_once (t ∷ ts) a b (inr h) (inr k) = number_once (2 ^ 16) t.text a b h.1 k.1

no_count : (t : TokenSeen) (n : ℕ) (e : ErrorKind) → IsNoCount t e → IsCount t n → ⊥
no_count t n e (inl h) k = quoted_apart t.is_quoted h.1 k.0
no_count t n e (inr h) k = h.2 n k.1

same_count : (t : TokenSeen) (n m : ℕ) → IsCount t n → IsCount t m → n ≡ m
same_count t n m h k = let a = h.1.0.1 in let b = k.1.0.1 in a ∙ sym b

-- the digits after the mark and a number
abbrev CountedReason : TokenSeen → List TokenSeen → List TokenSeen → ErrorKind → Type 0
CountedReason count digits left e = (((wanted : ℕ) × IsCount count wanted) × (digits_form InHex).reason digits left e) ⊎ (IsOtherCount count digits e × (left ≡ []))

is_counted : (t : TokenSeen) (digits left : List TokenSeen) (e : ErrorKind) → CountedReason t digits left e → (n : ℕ) × IsCount t n
is_counted t digits left e (inl h) = h.0
is_counted t digits left e (inr h) = (h.0.0, h.0.2)

counted_once : (t : TokenSeen) (digits left last : List TokenSeen) (a b : ErrorKind) → CountedReason t digits left a → CountedReason t digits last b → (left ≡ last) × (a ≡ b)
counted_once t digits left last a b (inl h) (inl k) = digits_once InHex digits left last a b h.1 k.1
counted_once t digits left last a b (inl h) (inr k) = absurd (digits_excluded InHex digits left a k.0.1 h.1 k.0.3)
counted_once t digits left last a b (inr h) (inl k) = absurd (digits_excluded InHex digits last b h.0.1 k.1 h.0.3)
counted_once t digits left last a b (inr h) (inr k) =
    let wanted = same_count t h.0.0 k.0.0 h.0.2 k.0.2 in
    let octets = spelled_once InHex digits h.0.1 k.0.1 h.0.3 k.0.3 in
    (h.1 ∙ sym k.1, h.0.5 ∙ (λ i. WrongLength (length (octets i)) (wanted i)) ∙ sym k.0.5)

-- the first token after the mark is not a number, or it is one
not_counted : (tokens digits left : List TokenSeen) (t : TokenSeen) (a b : ErrorKind) → WhyNoCount tokens a → tokens ≡ t ∷ digits → CountedReason t digits left b → ⊥
not_counted tokens digits left t a b h is k =
    let at : WhyNoCount (t ∷ digits) a = subst (λ ts. WhyNoCount ts a) is h in
    let counted = is_counted t digits left b k in
    no_count t counted.0 a at counted.1

generic_after : (tokens left last : List TokenSeen) (t u : TokenSeen) (digits others : List TokenSeen) (a b : ErrorKind) → tokens ≡ t ∷ digits → tokens ≡ u ∷ others → CountedReason t digits left a → CountedReason u others last b → (left ≡ last) × (a ≡ b)
generic_after tokens left last t u digits others a b is as_ h k =
    let both : t ∷ digits ≡ u ∷ others = sym is ∙ as_ in
    let head : t ≡ u = cc both in
    let tail : digits ≡ others = cc both in
    counted_once u others left last a b (subst (λ ts. CountedReason u ts left a) tail (subst (λ x. CountedReason x digits left a) head h)) k

pub generic_rejected : RejectsOnce generic_form
generic_rejected [] left last a b h k = absurd h
generic_rejected (mark ∷ tokens) left last a b (inl h) (inl k) = (h.0 ∙ sym k.0, count_once tokens a b h.1 k.1)
generic_rejected (mark ∷ tokens) left last a b (inl h) (inr k) = absurd (not_counted tokens k.1 last k.0 a b h.1 k.2 k.3)
generic_rejected (mark ∷ tokens) left last a b (inr h) (inl k) = absurd (not_counted tokens h.1 left h.0 b a k.1 h.2 h.3)
generic_rejected (mark ∷ tokens) left last a b (inr h) (inr k) = generic_after tokens left last h.0 k.0 h.1 k.1 a b h.2 k.2 h.3 k.3

-- ---- each kind

nothing_rejected : RejectsOnce nothing_form
nothing_rejected tokens left last a b h k = (h.0 ∙ sym k.0, h.2 ∙ sym k.2)

pub rest_rejected : (origin : Option (List (List ℕ))) (r : Rest) → RejectsOnce (rest_form origin r)
rest_rejected origin Nothing = nothing_rejected
rest_rejected origin Strings = some_once (strings_form origin) (strings_once origin) (strings_excluded origin)
rest_rejected origin MaybeString = maybe_string_rejected
rest_rejected origin Hex = some_once (digits_form InHex) (digits_once InHex) (digits_excluded InHex)
rest_rejected origin Nsap = nsap_rejected
rest_rejected origin Base64 = some_once (digits_form InBase64) (digits_once InBase64) (digits_excluded InBase64)
rest_rejected origin Types = types_rejected
rest_rejected origin SomeTypes = some_once types_form types_rejected types_excluded
rest_rejected origin Text = text_rejected false
rest_rejected origin QuotedText = text_rejected true
rest_rejected origin OfLocation = location_rejected
rest_rejected origin Prefixes = each_rejected prefix_form prefix_once
rest_rejected origin GatewayKey = let keyed = gateway_key_rejected origin in keyed.once
rest_rejected origin HostIdentity = let host = host_rejected origin in host.once
rest_rejected origin Params = params_reason_once

pub rest_part_once : (origin : Option (List (List ℕ))) (r : Rest) → HasOnePart origin r
rest_part_once origin Nothing tokens left e p q h j k = j ∙ sym k
rest_part_once origin Strings tokens left e p q h j k = j ∙ sym k
rest_part_once origin MaybeString tokens left e p q h j k = j ∙ sym k
rest_part_once origin Hex tokens left e p q h j k = j ∙ sym k
rest_part_once origin Nsap tokens left e p q h j k = j ∙ sym k
rest_part_once origin Base64 tokens left e p q h j k = j ∙ sym k
rest_part_once origin Types tokens left e p q h j k = j ∙ sym k
rest_part_once origin SomeTypes tokens left e p q h j k = j ∙ sym k
rest_part_once origin Text tokens left e p q h j k = j ∙ sym k
rest_part_once origin QuotedText tokens left e p q h j k = j ∙ sym k
rest_part_once origin OfLocation tokens left e p q h j k = j ∙ sym k
rest_part_once origin Prefixes tokens left e p q h j k = j ∙ sym k
rest_part_once origin GatewayKey tokens left e p q h j k = gateway_part_once origin tokens left e p q h j k
rest_part_once origin HostIdentity tokens left e p q h j k = host_part_once origin tokens left e p q h j k
rest_part_once origin Params tokens left e p q h j k = j ∙ sym k
