-- Tokens that are rejected as fields have one error.
use Rattle.std.proofs.Common.{ℕ, zero, suc, ◌≡◌, ◌≢◌, ◌≤◌, ◌<◌, true, false, true≢false, Bool, Option, Some, List, [], ◌∷◌, ◌++◌, length, take, refl, sym, ap, subst, ◌∙◌, inl, inr, arith}
use Rattle.std.specs.Prelude.{slice_get, ◌^◌}
use Rattle.std.proofs.lemmas.Option.{none-some}
use Rattle.dns_octets.specs.Room.{Room}
use Rattle.dns_lexer.specs.EntryTokens.{TokenSeen}
use Rattle.rdata_tokens.specs.Spelling.{SpellsOctetList, SpellsToBadEscape}
use Rattle.rdata_tokens.proofs.NameReasons.{name_reason_once}
use Rattle.rdata_tokens.specs.Forms.{SpellsString}
use Rattle.rdata_tokens.proofs.Spellings.{none_spelled, spelled_once}
use Rattle.rdata_values.specs.declared.error.ErrorKind.{ErrorKind}
use Rattle.rdata_values.specs.declared.error.ErrorKind.TheVariants.{ShortBuf, EndOfEntry, Quoted, BadEscape, LongString}
use Rattle.rdata_fields.specs.FieldErrors.{HasOneReason, HaveOneError, HaveFieldsOneError}
use Rattle.rdata_fields.specs.Fields.{field_form}
use Rattle.rdata_fields.specs.Forms.{WordReason, StringReason, string_form, psdn_address_form, tag_form, salt_form, hash_form, name_form}
use Rattle.rdata_fields.specs.Parsing.{SpellsField, SpellsFields, RefusesAField, RefusesNext}
use Rattle.rdata_fields.specs.Words.{NumberReason, SpellsBelow}
use Rattle.rdata_fields.specs.declared.field.Field.{Field}
use Rattle.rdata_fields.specs.declared.field.Field.TheVariants.{Number8 as OfNumber8, Number16 as OfNumber16, Number32 as OfNumber32, Interval as OfInterval, Ipv4 as OfIpv4, Ipv6 as OfIpv6, RecordType as OfRecordType, SigType as OfSigType, Algorithm as OfAlgorithm, CertificateType as OfCertificateType, SyncScheme as OfSyncScheme, Eui48 as OfEui48, Eui64 as OfEui64, Time as OfTime, Locator as OfLocator, String as OfString, PsdnAddress as OfPsdnAddress, Tag as OfTag, Salt as OfSalt, Hash as OfHash, Name as OfName}

-- ---- one token

unquoted : (quoted : Bool) → quoted ≡ true → quoted ≡ false → ⊥
unquoted quoted h k = true≢false (sym h ∙ k)

word_once : (reason : List ℕ → ErrorKind → Type 0) → ((text : List ℕ) (a b : ErrorKind) → reason text a → reason text b → a ≡ b) → (quoted : Bool) (text : List ℕ) (a b : ErrorKind) → WordReason reason quoted text a → WordReason reason quoted text b → a ≡ b
word_once reason one quoted text a b (inl h) (inl k) = h.0 ∙ sym k.0
word_once reason one quoted text a b (inl h) (inr k) = absurd (unquoted quoted h.1 k.0)
word_once reason one quoted text a b (inr h) (inl k) = absurd (unquoted quoted k.1 h.0)
word_once reason one quoted text a b (inr h) (inr k) = one text a b h.1 k.1

-- a number has no reason
pub reason_or_number : (limit : ℕ) (text : List ℕ) (n : ℕ) (e : ErrorKind) → NumberReason limit text e → SpellsBelow limit text n → ⊥
reason_or_number limit text n e (inl h) k = h.1 k.0.0
reason_or_number limit text n e (inr h) k = omega (arith, h.2, k.0.1, k.1)

-- a word with one reason beside its quotes
lone_once : (why : ErrorKind) (quoted : Bool) (text : List ℕ) (a b : ErrorKind) → WordReason (λ _ e. e ≡ why) quoted text a → WordReason (λ _ e. e ≡ why) quoted text b → a ≡ b
lone_once why = word_once (λ _ e. e ≡ why) (λ text a b h k. h ∙ sym k)

pub number_once : (limit : ℕ) (text : List ℕ) (a b : ErrorKind) → NumberReason limit text a → NumberReason limit text b → a ≡ b
number_once limit text a b (inl h) (inl k) = h.0 ∙ sym k.0
number_once limit text a b (inl h) (inr k) = absurd (h.1 k.1)
number_once limit text a b (inr h) (inl k) = absurd (k.1 h.1)
number_once limit text a b (inr h) (inr k) = h.0 ∙ sym k.0

pub bad_or_spelled : (text octets : List ℕ) → SpellsToBadEscape text → SpellsOctetList text octets → ⊥
bad_or_spelled text octets h k = none_spelled text h.0 h.1 octets h.2 h.3 k

-- a text that spells a character string has no reason
pub reason_or_string : (quoted : Bool) (text form : List ℕ) (e : ErrorKind) → StringReason quoted text e → SpellsString text form → ⊥
reason_or_string quoted text form BadEscape h k = bad_or_spelled text k.octets h k.spelled
reason_or_string quoted text form LongString h k = let same = spelled_once text h.0 k.octets h.1 k.spelled in omega (arith, h.2, k.short, ap length same)
reason_or_string quoted text form other h k = h

string_once : HasOneReason string_form
string_once quoted text BadEscape BadEscape h k = refl
string_once quoted text BadEscape LongString h k = absurd (bad_or_spelled text k.0 h k.1)
string_once quoted text BadEscape other h k = absurd k
string_once quoted text LongString BadEscape h k = absurd (bad_or_spelled text h.0 k h.1)
string_once quoted text LongString LongString h k = refl
string_once quoted text LongString other h k = absurd k
string_once quoted text other b h k = absurd h

tag_once : HasOneReason tag_form
tag_once quoted text a b (inl h) (inl k) = h.0 ∙ sym k.0
tag_once quoted text a b (inl h) (inr k) = absurd (unquoted quoted h.1 k.1)
tag_once quoted text a b (inr h) (inl k) = absurd (unquoted quoted k.1 h.1)
tag_once quoted text a b (inr h) (inr k) = h.0 ∙ sym k.0

hash_once : HasOneReason hash_form
hash_once quoted text a b (inl h) (inl k) = h.0 ∙ sym k.0
hash_once quoted text a b (inl h) (inr k) = absurd (unquoted quoted h.1 k.1)
hash_once quoted text a b (inr h) (inl k) = absurd (unquoted quoted k.1 h.1)
hash_once quoted text a b (inr h) (inr k) = h.0 ∙ sym k.0

name_reasons_once : (origin : Option (List (List ℕ))) → HasOneReason (name_form origin)
name_reasons_once origin quoted text a b (inl h) (inl k) = h.0 ∙ sym k.0
name_reasons_once origin quoted text a b (inl h) (inr k) = absurd (unquoted quoted h.1 k.0)
name_reasons_once origin quoted text a b (inr h) (inl k) = absurd (unquoted quoted k.1 h.0)
name_reasons_once origin quoted text a b (inr h) (inr k) = name_reason_once origin text a b h.1 k.1

pub one_reason : (origin : Option (List (List ℕ))) (f : Field) → HasOneReason (field_form origin f)
one_reason origin OfNumber8 = word_once (NumberReason (2 ^ 8)) (number_once (2 ^ 8))
one_reason origin OfNumber16 = word_once (NumberReason (2 ^ 16)) (number_once (2 ^ 16))
one_reason origin OfNumber32 = word_once (NumberReason (2 ^ 32)) (number_once (2 ^ 32))
one_reason origin OfInterval = lone_once _
one_reason origin OfIpv4 = lone_once _
one_reason origin OfIpv6 = lone_once _
one_reason origin OfRecordType = lone_once _
one_reason origin OfSigType = lone_once _
one_reason origin OfAlgorithm = lone_once _
one_reason origin OfCertificateType = lone_once _
one_reason origin OfSyncScheme = lone_once _
one_reason origin OfEui48 = lone_once _
one_reason origin OfEui64 = lone_once _
one_reason origin OfTime = lone_once _
one_reason origin OfLocator = lone_once _
one_reason origin OfString = string_once
one_reason origin OfPsdnAddress = λ quoted text a b h k. h.0 ∙ sym k.0
one_reason origin OfTag = tag_once
one_reason origin OfSalt = lone_once _
one_reason origin OfHash = hash_once
one_reason origin OfName = name_reasons_once origin

-- ---- one token after another

module _ (origin : Option (List (List ℕ))) where
  -- the next token is not the field, or there is none
  abbrev RefusedNext : Field → List TokenSeen → ErrorKind → Type 0
  RefusedNext f [] e = e ≡ EndOfEntry
  RefusedNext f (t ∷ ts) e = (field_form origin f).reason t.is_quoted t.text e × ((octets : List ℕ) → SpellsField origin f t octets → ⊥)

  -- the field at an index is rejected, after tokens that spell those before it
  abbrev RefusedAt : List Field → List TokenSeen → ℕ → ErrorKind → List TokenSeen → Type 0
  RefusedAt [] tokens place e left = ⊥
  RefusedAt (f ∷ fs) tokens zero e left = (left ≡ tokens) × RefusedNext f tokens e
  RefusedAt (f ∷ fs) [] (suc place) e left = ⊥
  RefusedAt (f ∷ fs) (t ∷ ts) (suc place) e left = (octets : List ℕ) × SpellsField origin f t octets × RefusedAt fs ts place e left

  by_room : (room : Room) (f : Field) (left : List TokenSeen) (old : List ℕ) (e : ErrorKind) → RefusesNext origin room f left old e → e ≢ ShortBuf → RefusedNext f left e
  by_room room f [] old e h fits = h
  by_room room f (t ∷ ts) old e (inl h) fits = absurd (fits h.0)
  by_room room f (t ∷ ts) old e (inr h) fits = h

  by_index : (fields : List Field) (tokens taken left : List TokenSeen) (octets : List ℕ) (place : ℕ) (f : Field) (e : ErrorKind) → slice_get fields place ≡ Some f → tokens ≡ taken ++ left
      → SpellsFields origin (take place fields) taken octets → RefusedNext f left e → RefusedAt fields tokens place e left
  by_index [] tokens taken left octets zero f e is whole sp h = absurd (none-some f is)
  by_index [] tokens taken left octets (suc place) f e is whole sp h = absurd (none-some f is)
  by_index (g ∷ gs) tokens [] left octets zero f e is whole sp h =
      let same : g ≡ f = cc is in (sym whole, subst (λ x. RefusedNext x tokens e) (sym same) (subst (λ ts. RefusedNext f ts e) (sym whole) h))
  by_index (g ∷ gs) tokens (u ∷ us) left octets zero f e is whole sp h = absurd sp
  by_index (g ∷ gs) tokens [] left octets (suc place) f e is whole sp h = absurd sp
  by_index (g ∷ gs) [] (u ∷ us) left octets (suc place) f e is whole sp h = absurd (omega (arith, ap length whole))
  by_index (g ∷ gs) (t ∷ ts) (u ∷ us) left octets (suc place) f e is whole sp h =
      let head : t ≡ u = cc whole in
      let tail : ts ≡ us ++ left = cc whole in
      (sp.0, subst (λ x. SpellsField origin g x sp.0) (sym head) sp.3, by_index gs ts us left sp.1 place f e is tail sp.4 h)

  at_once : (fields : List Field) (tokens left last : List TokenSeen) (place index : ℕ) (a b : ErrorKind) → RefusedAt fields tokens place a left → RefusedAt fields tokens index b last → (place ≡ index) × (left ≡ last) × (a ≡ b)
  at_once [] tokens left last place index a b h k = absurd h
  at_once (f ∷ fs) [] left last zero zero a b h k = (refl, h.0 ∙ sym k.0, h.1 ∙ sym k.1)
  at_once (f ∷ fs) [] left last zero (suc index) a b h k = absurd k
  at_once (f ∷ fs) [] left last (suc place) index a b h k = absurd h
  at_once (f ∷ fs) (t ∷ ts) left last zero zero a b h k = (refl, h.0 ∙ sym k.0, one_reason origin f t.is_quoted t.text a b h.1.0 k.1.0)
  at_once (f ∷ fs) (t ∷ ts) left last zero (suc index) a b h k = absurd (h.1.1 k.0 k.1)
  at_once (f ∷ fs) (t ∷ ts) left last (suc place) zero a b h k = absurd (k.1.1 h.0 h.1)
  at_once (f ∷ fs) (t ∷ ts) left last (suc place) (suc index) a b h k =
      let same = at_once fs ts left last place index a b h.2 k.2 in (ap suc same.0, same.1, same.2)

  pub fields_refused_once : (fields : List Field) → HaveOneError origin fields
  fields_refused_once fields room other tokens left last old before new after place index a b h k fits fit =
      let one = h.before in
      let two = k.before in
      at_once fields tokens left last place index a b
      (by_index fields tokens one.taken left one.octets place h.field a h.is_field one.whole one.spelled (by_room room h.field left h.middle a h.why fits))
      (by_index fields tokens two.taken last two.octets index k.field b k.is_field two.whole two.spelled (by_room other k.field last k.middle b k.why fit))

pub fields_one_error : HaveFieldsOneError
fields_one_error = record { one = one_reason; all = fields_refused_once }
