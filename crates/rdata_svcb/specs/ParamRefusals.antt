-- Why service parameters are rejected. Each reason names the part of the input that it is about, and what is before it.
use Rattle.std.specs.Prelude.{ℕ, ◌≡◌, ◌≢◌, ◌⊎◌, ◌+◌, ◌<◌, ◌≤◌, ◌^◌, true, false, IsSome, List, [], ◌∷◌, ◌++◌, length}
use Rattle.std.specs.List.{AllPairs}
use Rattle.dns_octets.specs.Room.{Room}
use Rattle.dns_octets.specs.Appending.{ExceedsRoom}
use Rattle.dns_codec.specs.Base.{base64}
use Rattle.rdata_values.specs.Bitmap.{has}
use Rattle.rdata_values.specs.declared.error.ErrorKind.{ErrorKind}
use Rattle.rdata_values.specs.declared.error.ErrorKind.TheVariants.{ShortBuf, BadEscape, ExpectedIpv4, ExpectedIpv6, IllegalBase64, TrailingBase64, IncompleteBase64, QuotedParam, GluedParam, UnknownKey, UnexpectedValue, RepeatedKey, LongValue, RepeatedParam}
use Rattle.rdata_fields.specs.Words.{NumberReason}
use Rattle.rdata_tokens.specs.Reading.{PaddedBefore}
use Rattle.rdata_tokens.specs.Spelled.{BeginsWithDigits, SpellsDigits}
use Rattle.rdata_tokens.specs.Spelling.{BeginsWithOctets, SpellsToBadEscape}
use Rattle.rdata_tokens.specs.Tokens.{DigitsContinue}
use Rattle.rdata_tokens.specs.declared.kind.DigitsKind.TheVariants.{Base64}
use Rattle.dns_lexer.specs.EntryTokens.{TokenSeen}
use Rattle.rdata_fields.specs.RecordErrors.{IsErrorAt}
use Rattle.rdata_fields.specs.Source.{next_place}
use Rattle.rdata_fields.specs.declared.record_error.RecordError.{RecordError}
use Rattle.rdata_svcb.specs.Params.{param_head, params_wire, value_at}
use Rattle.rdata_svcb.specs.ParamsFaults.{IsParamsFault}
use Rattle.rdata_svcb.specs.Keys.{NamesKey}
use Rattle.rdata_svcb.specs.ListItems.{BeginsStrings, StringsReason}
use Rattle.rdata_svcb.specs.ParamTokens.{IsSeparateWord, ReadsParams, SplitsWord, SpellsParams, FindsParam}
use Rattle.rdata_svcb.specs.ParamValues.{BeginsValues, NamesAKey, SpellsIpv4, SpellsIpv6, SpellsKeys, SpellsPort, SpellsValue}
use Rattle.rdata_svcb.specs.Items.{BeginsApart, SpellsApart}
use Rattle.rdata_svcb.specs.declared.keys.ValueKind.{ValueKind}
use Rattle.rdata_svcb.specs.declared.keys.ValueKind.TheVariants.{Keys, Strings, Nothing, Port, Ipv4, Digits, Ipv6, Octets}

-- octets that a text spells were not appended: some exceed the room; or it spells none, for this reason
abbrev pub RefusesSpelled : Type 0 → (List ℕ → Type 0) → (ErrorKind → Type 0) → ErrorKind → Type 0
RefusesSpelled exceeds spelled reason e = ((e ≡ ShortBuf) × exceeds) ⊎ (reason e × ((octets : List ℕ) → spelled octets → ⊥))

-- why the item after keys is not one more: it names no key, or one of them
abbrev pub NextKeyReason : List ℕ → List ℕ → ErrorKind → Type 0
NextKeyReason keys item e = ((e ≡ UnknownKey) × ((key : ℕ) → NamesAKey item key → ⊥)) ⊎ ((e ≡ RepeatedKey) × ((key : ℕ) × NamesAKey item key × (has keys key ≡ true)))

-- the first item that is not one more key, after keys that differ
abbrev pub KeysReason : List ℕ → ErrorKind → Type 0
KeysReason text e = (keys item : List ℕ) × BeginsApart NamesAKey text keys item × AllPairs (λ a b. a ≢ b) keys × NextKeyReason keys item e

-- of one word in base 64: it spells no octets, and a longer one would; or no text of octets begins so, with an error after padding or without any
abbrev pub DigitsReason : List ℕ → ErrorKind → Type 0
DigitsReason text e =
    ((e ≡ IncompleteBase64) × DigitsContinue Base64 text × ((octets : List ℕ) → SpellsDigits base64 text octets → ⊥))
    ⊎ ((((e ≡ IllegalBase64) × (PaddedBefore base64 text → ⊥)) ⊎ ((e ≡ TrailingBase64) × PaddedBefore base64 text)) × (DigitsContinue Base64 text → ⊥))

-- the first item that spells no value, after items that spell some
abbrev pub OfSomeItem : (List ℕ → List ℕ → Type 0) → (List ℕ → ErrorKind → Type 0) → List ℕ → ErrorKind → Type 0
OfSomeItem spells reason text e = (values : List (List ℕ)) × (item : List ℕ) × BeginsApart spells text values item × reason item e × ((octets : List ℕ) → spells item octets → ⊥)

-- why a text spells no value of its kind
abbrev pub ValueReason : ValueKind → List ℕ → ErrorKind → Type 0
ValueReason Keys text e = KeysReason text e
ValueReason Strings text e = StringsReason text e
ValueReason Nothing text e = (e ≡ UnexpectedValue) × (text ≢ [])
ValueReason Port text e = NumberReason (2 ^ 16) text e
ValueReason Ipv4 text e = OfSomeItem SpellsIpv4 (λ item e. e ≡ ExpectedIpv4) text e
ValueReason Digits text e = DigitsReason text e
ValueReason Ipv6 text e = OfSomeItem SpellsIpv6 (λ item e. e ≡ ExpectedIpv6) text e
ValueReason Octets text e = (e ≡ BadEscape) × SpellsToBadEscape text

-- the value that a text spells exceeds the room, or the part of it that the text begins with
abbrev pub ExceedsValue : Room → ValueKind → List ℕ → List ℕ → Type 0
ExceedsValue room Keys text old = ExceedsRoom room (SpellsKeys text) old
ExceedsValue room Strings text old = ExceedsRoom room (BeginsStrings text) old
ExceedsValue room Nothing text old = ⊥
ExceedsValue room Port text old = ExceedsRoom room (SpellsPort text) old
ExceedsValue room Ipv4 text old = ExceedsRoom room (BeginsValues SpellsIpv4 text) old
ExceedsValue room Digits text old = ExceedsRoom room (BeginsWithDigits base64 text) old
ExceedsValue room Ipv6 text old = ExceedsRoom room (BeginsValues SpellsIpv6 text) old
ExceedsValue room Octets text old = ExceedsRoom room (BeginsWithOctets text) old

-- octets of a value that a text spells were not appended
abbrev pub RefusesValue : Room → ValueKind → List ℕ → List ℕ → ErrorKind → Type 0
RefusesValue room kind text old e = RefusesSpelled (ExceedsValue room kind text old) (SpellsValue kind text) (ValueReason kind text) e

-- a text spells no keys that differ
abbrev pub RefusesKeys : List ℕ → ErrorKind → Type 0
RefusesKeys text e = KeysReason text e × ((keys : List ℕ) → SpellsApart NamesAKey text keys → ¬ AllPairs (λ a b. a ≢ b) keys)

-- why a value is not added to parameters: it is too long, or one of them has its key
abbrev pub AddedReason : List (ℕ × List ℕ) → ℕ → List ℕ → ErrorKind → Type 0
AddedReason params key value e = ((e ≡ LongValue) × (65536 ≤ length value)) ⊎ ((e ≡ RepeatedParam) × (length value < 65536) × IsSome (value_at params key))

-- why a parameter after others gets no value of a kind
abbrev pub NewReason : List (ℕ × List ℕ) → ℕ → ValueKind → List ℕ → ErrorKind → Type 0
NewReason params key kind text e = ValueReason kind text e ⊎ ((value : List ℕ) × SpellsValue kind text value × AddedReason params key value e)

-- a word names no key
abbrev pub NamesNoKey : List ℕ → Type 0
NamesNoKey word = (name value : List ℕ) → SplitsWord word name value → (key : ℕ) (kind : ValueKind) → NamesKey name key kind → ⊥

-- a word names a key
abbrev pub BeginsWithKey : List ℕ → Type 0
BeginsWithKey word = (name value : List ℕ) × (key : ℕ) × (kind : ValueKind) × SplitsWord word name value × NamesKey name key kind

-- why a token does not begin a parameter
abbrev pub WordFault : TokenSeen → ErrorKind → Type 0
WordFault t e =
    ((e ≡ GluedParam) × (t.is_adjacent ≡ true))
    ⊎ (((e ≡ QuotedParam) × (t.is_adjacent ≡ false) × (t.is_quoted ≡ true)) ⊎ ((e ≡ UnknownKey) × IsSeparateWord t × NamesNoKey t.text))

-- why the first token does not
abbrev pub FirstTokenReason : List TokenSeen → ErrorKind → Type 0
FirstTokenReason [] e = ⊥
FirstTokenReason (t ∷ tokens) e = WordFault t e

-- the first token is a word that names a key
abbrev pub FirstNamesKey : List TokenSeen → Type 0
FirstNamesKey [] = ⊥
FirstNamesKey (t ∷ tokens) = IsSeparateWord t × BeginsWithKey t.text

-- why the tokens after parameters do not begin with one more: that of the first token, or that of its value, at which it is
abbrev pub ParamReason : List (ℕ × List ℕ) → List TokenSeen → List TokenSeen → ErrorKind → Type 0
ParamReason params tokens left e =
    ((left ≡ tokens) × FirstTokenReason tokens e)
    ⊎ ((key : ℕ) × (kind : ValueKind) × (value : List ℕ) × (after : List TokenSeen) × FindsParam tokens key kind value left after × NewReason params key kind value e)

-- the parameter that the tokens begin with exceeds the room: its key and the length of its value do, or its value after them
abbrev pub ExceedsNew : Room → List TokenSeen → List TokenSeen → List ℕ → Type 0
ExceedsNew room tokens left old =
    ((left ≡ tokens) × FirstNamesKey tokens × (room.fits < length old + 4))
    ⊎ ((key : ℕ) × (kind : ValueKind) × (value : List ℕ) × (after : List TokenSeen) × FindsParam tokens key kind value left after × ExceedsValue room kind value (old ++ param_head key))

-- why tokens are no parameters: after parameters of different keys, the next is rejected; or all of them together, at the end
abbrev pub ParamsReason : List TokenSeen → List TokenSeen → ErrorKind → Type 0
ParamsReason tokens left e =
    (params : List (ℕ × List ℕ)) × (rest : List TokenSeen) × ReadsParams tokens params rest × (ParamReason params rest left e ⊎ ((rest ≡ []) × (left ≡ []) × IsParamsFault e (params_wire params)))

-- after parameters of different keys, the next one exceeds the room
abbrev pub ExceedsParams : Room → List TokenSeen → List TokenSeen → List ℕ → Type 0
ExceedsParams room tokens left old = (params : List (ℕ × List ℕ)) × (rest : List TokenSeen) × ReadsParams tokens params rest × ExceedsNew room rest left (old ++ params_wire params)

-- a token is rejected, or the entry's end: the octets of the parameters exceed the room, or the tokens spell none
abbrev pub RefusesParams : Room → ℕ → List TokenSeen → List ℕ → RecordError → List TokenSeen → Type 0
RefusesParams room end tokens old r left =
    IsErrorAt (next_place left end) r × RefusesSpelled (ExceedsParams room tokens left old) (SpellsParams tokens) (ParamsReason tokens left) r.kind
