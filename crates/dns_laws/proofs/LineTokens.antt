-- The entries of a line, and that its tokens parse as its fields.
use Rattle.std.proofs.Common.{◌≡◌, ℕ, ◌<◌, ◌≤◌, ◌^◌, true, List, [], ◌∷◌, ◌++◌, length, map, All, refl, sym, ap, subst, ◌∙◌, arith, inl, inr, None, Result, Ok, Err}
use Rattle.std.specs.List.{flat_map, list_all}
use Rattle.std.specs.Fmt.{decimal}
use Rattle.std.proofs.lemmas.Bool.{and_parts}
use Rattle.std.proofs.lemmas.List.Elements.{recursion_from_All}
use Rattle.std.proofs.lemmas.Str.{encode_ascii}
use Rattle.dns_octets.specs.Room.{Room, within}
use Rattle.dns_codec.specs.Base.{base16, base64, encoded}
use Rattle.dns_symbol.specs.declared.symbol.Symbol.{Symbol}
use Rattle.dns_symbol.specs.declared.symbol.Symbol.TheVariants.{Char}
use Rattle.dns_symbol.specs.Symbol.{bytes, is_readable, may_be_in_word, is_word_symbol}
use Rattle.dns_symbol.proofs.Unique.{bytes_same}
use Rattle.std.specs.declared.alloc.Global.{Global}
use Rattle.dns_lexer.specs.Answer.{IsSplitOf}
use Rattle.dns_lexer.specs.declared.error.SplitError.{SplitError}
use Rattle.dns_lexer.specs.declared.error.SplitError.TheVariants.{BadText, ShortBuf}
use Rattle.dns_lexer.specs.Splitting.{Entries, Splits, SplitsOnlyInto, with_token}
use Rattle.dns_lexer.specs.Token.{IsWord}
use Rattle.dns_symbol.specs.Cause.{Cause}
use Rattle.dns_scan.specs.Numbers.{by_cause, greatest}
use Rattle.dns_scan.specs.Octets.{ReturnsWhere, StringBack, unquoted_token}
use Rattle.dns_scan.specs.Reads.{NumberReads}
use Rattle.dns_scan.specs.Tokens.{Token}
use Rattle.dns_scan.proofs.Decimal.{decimal_read}
use Rattle.dns_scan.proofs.Once.{numbers_once}
use Rattle.dns_zone.specs.Layout.{end}
use Rattle.dns_zone.specs.Printed.{printed}
use Rattle.dns_zone.specs.declared.zonefile_fmt.DisplayKind.{DisplayKind}
use Rattle.dns_laws.specs.Entries.{document_entries}
use Rattle.dns_laws.proofs.DocumentLayouts.{text_only}
use Rattle.dns_zone.specs.EntryFields.{Content, number, hex_octets, base64_octets, text_octets, IsContent, IsPrintable, field_text}
use Rattle.dns_zone.specs.EntryLines.{AreContents, IsLine, field_step, line_document}
use Rattle.dns_zone.proofs.EntryWords.{line_formed, number_word, hex_word, base64_word, text_word}
use Rattle.dns_laws.specs.declared.lines.Refusal.TheVariants.{Split}
use Rattle.dns_laws.specs.Encodings.{EncodingBack}
use Rattle.dns_laws.specs.Lines.{line_entries, kind_of, IsLineRefusal, IsScannedOf, ReturnsField, ReturnsOctets}
use Rattle.dns_zone.specs.declared.entry.FieldKind.TheVariants.{Number, Hex, Base64, Text}
use Rattle.dns_laws.specs.declared.lines.Scanned.{Scanned}
use Rattle.dns_laws.specs.declared.lines.Scanned.TheVariants.{Number as NumberScanned, Octets, Text as TextScanned}

tokens_entries : (fields : List Content) → document_entries (map field_step fields ++ end ∷ []) ≡ line_entries fields
tokens_entries [] = refl
tokens_entries (field ∷ fields) = ap (with_token (field_text field)) (tokens_entries fields)

-- the entries of a line's document
pub entries_are : (fields : List Content) → document_entries (line_document fields) ≡ line_entries fields
entries_are fields = tokens_entries fields

pub line_only : (kind : DisplayKind) (fields : List Content) (text : List ℕ) → AreContents fields → IsLine fields → text ≡ printed kind (line_document fields) → (e : Entries)
    → (Splits text e → e ≡ line_entries fields) × (e ≡ line_entries fields → Splits text e)
line_only kind fields text are line is e =
    subst (λ f. (Splits text e → e ≡ f) × (e ≡ f → Splits text e)) (entries_are fields)
    (text_only kind (line_document fields) text is e (line_formed fields are line))

-- the possible errors of splitting a text that splits into a line's entries
pub split_refusal : (fields : List Content) (text : List ℕ) → SplitsOnlyInto text (line_entries fields) → (e : SplitError) → IsSplitOf {A = Global} (Err e) text → IsLineRefusal fields (Split e)
split_refusal fields text only ShortBuf h = tt
split_refusal fields text only (BadText i) bad = absurd (bad.splits_not (line_entries fields) ((only (line_entries fields)).1 refl))

-- a word begins with no double quote
word_unquoted : (text rest : List ℕ) → IsWord text → text ≡ 34 ∷ rest → ⊥
word_unquoted text rest word e = by word.symbols word.some word.valid word.spelled
  where
    quote_no_word : is_word_symbol (Char 34) ≡ true → ⊥
    quote_no_word h = cc

    by : (ss : List Symbol) → 0 < length ss → list_all is_word_symbol ss ≡ true → text ≡ flat_map bytes ss → ⊥
    by [] some valid spelled = absurd (omega (arith, some))
    by (s ∷ ss) some valid spelled =
        let first = (and_parts (is_word_symbol s) (list_all is_word_symbol ss) valid).0 in
        let readable = (and_parts (may_be_in_word s) (is_readable s) first).1 in
        let front : bytes s ++ flat_map bytes ss ≡ bytes (Char 34) ++ rest = sym spelled ∙ e ∙ ap (λ l. (l ++ []) ++ rest) (sym (encode_ascii 34 (omega arith))) in
        let same = bytes_same s (Char 34) (flat_map bytes ss) rest readable refl front in
        quote_no_word (subst (λ x. is_word_symbol x ≡ true) same.0 first)

-- the unquoted form of some octets is a word
pub unquoted_word : (os : List ℕ) → 0 < length os → All (λ o. o < 256) os → IsWord (unquoted_token os)
unquoted_word [] some all = absurd (omega (arith, some))
unquoted_word (o ∷ os) some all = text_word o os all

-- of a word the word itself is scanned
pub scanned_word : (token text : Token) → IsWord token → IsScannedOf token text → text ≡ token
scanned_word token text word (inl h) = h.1
scanned_word token text word (inr h) = absurd (word_unquoted token (text ++ 34 ∷ []) word h)

-- of two double quotes nothing is
pub scanned_quotes : (text : Token) → IsScannedOf (34 ∷ 34 ∷ []) text → text ≡ []
scanned_quotes text (inl h) = absurd (word_unquoted (34 ∷ 34 ∷ []) (34 ∷ []) h.0 refl)
scanned_quotes [] (inr h) = refl
scanned_quotes (c ∷ []) (inr h) = cc
scanned_quotes (c ∷ d ∷ cs) (inr h) = cc

-- a number that is read of its decimal text
pub number_back : {E : Type 0} (cause : E → Cause) (n : ℕ) (r : Result ℕ E) → n < 2 ^ 32 → NumberReads (greatest 32) (decimal n) (by_cause cause r) → r ≡ Ok n
number_back {E} cause n r small reads =
    let is = decimal_read (greatest 32) n (omega (arith, small)) (omega (arith, small)) in
    by r (numbers_once (greatest 32) (decimal n) (by_cause cause r) (Ok n) reads (record { symbols = is.0; error = None; read = is.1; reads = (is.2, λ i. None) }))
  where
    by : (r : Result ℕ E) → by_cause cause r ≡ Ok n → r ≡ Ok n
    by (Ok v) e = cc
    by (Err x) e = cc

-- what was scanned, as the answer has it
abbrev pub as_number : {O E : Type 0} → Result ℕ E → Result (Scanned O) E
as_number (Ok n) = Ok (NumberScanned n)
as_number (Err e) = Err e

abbrev pub as_octets : {O E : Type 0} → Result O E → Result (Scanned O) E
as_octets (Ok o) = Ok (Octets o)
as_octets (Err e) = Err e

abbrev pub as_text : {O E : Type 0} → Result (List ℕ) E → Result (Scanned O) E
as_text (Ok o) = Ok (TextScanned o)
as_text (Err e) = Err e

module _ {O E : Type 0} (cause : E → Cause) (octets : O → List ℕ) (room : Room) where
  octets_back : (os : List ℕ) (r : Result O E) → ReturnsWhere cause octets room os r → ReturnsOctets cause octets room os (as_octets r)
  octets_back os (Ok o) (inl h) = inl (o, refl, h)
  octets_back os (Ok o) (inr h) = absurd h.0
  octets_back os (Err e) (inl h) = absurd h
  octets_back os (Err e) (inr h) = inr h

  text_back : (os : List ℕ) (r : Result (List ℕ) E) → length os ≤ 255 → ReturnsWhere cause (λ o. o) (within 255 room) os r → ReturnsField cause octets room (text_octets os) (as_text r)
  text_back os (Ok o) short (inl h) = inl (ap (λ l. Ok (TextScanned l)) h)
  text_back os (Ok o) short (inr h) = absurd h.0
  text_back os (Err e) short (inl h) = absurd h
  text_back os (Err e) short (inr h) = inr (h.0, omega (arith, h.1, short))

  -- what was scanned of a field's token
  module _ (text : Token) where
    pub number_field : (field : Content) (r : Result ℕ E) → IsContent field → kind_of field ≡ Number → IsScannedOf (field_text field) text
        → NumberReads (greatest 32) text (by_cause cause r) → ReturnsField cause octets room field (as_number r)
    number_field (number n) r is kind scanned reads =
        let same = scanned_word (decimal n) text (number_word n is) scanned in
        ap as_number (number_back cause n r is (subst (λ t. NumberReads (greatest 32) t (by_cause cause r)) same reads))
    number_field (hex_octets os) r is kind scanned reads = cc
    number_field (base64_octets os) r is kind scanned reads = cc
    number_field (text_octets os) r is kind scanned reads = cc

    pub hex_field : (field : Content) (r : Result O E) → IsContent field → IsPrintable field → kind_of field ≡ Hex → IsScannedOf (field_text field) text
        → EncodingBack base16 cause octets room text r → ReturnsField cause octets room field (as_octets r)
    hex_field (hex_octets os) r is can kind scanned back =
        octets_back os r (back.back os (recursion_from_All (λ o. o < 256) os is) (scanned_word (encoded base16 os) text (hex_word os is can) scanned))
    hex_field (number n) r is can kind scanned back = cc
    hex_field (base64_octets os) r is can kind scanned back = cc
    hex_field (text_octets os) r is can kind scanned back = cc

    pub base64_field : (field : Content) (r : Result O E) → IsContent field → IsPrintable field → kind_of field ≡ Base64 → IsScannedOf (field_text field) text
        → EncodingBack base64 cause octets room text r → ReturnsField cause octets room field (as_octets r)
    base64_field (base64_octets os) r is can kind scanned back =
        octets_back os r (back.back os (recursion_from_All (λ o. o < 256) os is) (scanned_word (encoded base64 os) text (base64_word os is can) scanned))
    base64_field (number n) r is can kind scanned back = cc
    base64_field (hex_octets os) r is can kind scanned back = cc
    base64_field (text_octets os) r is can kind scanned back = cc

    pub text_field : (field : Content) (r : Result (List ℕ) E) → IsContent field → kind_of field ≡ Text → IsScannedOf (field_text field) text
        → StringBack cause (within 255 room) text r → ReturnsField cause octets room field (as_text r)
    text_field (text_octets []) r is kind scanned back = text_back [] r is.1 (back.printed [] is.0 (inl (scanned_quotes text scanned)))
    text_field (text_octets (o ∷ os)) r is kind scanned back =
        text_back (o ∷ os) r is.1 (back.printed (o ∷ os) is.0 (inl (scanned_word (unquoted_token (o ∷ os)) text (text_word o os is.0) scanned)))
    text_field (number n) r is kind scanned back = cc
    text_field (hex_octets os) r is kind scanned back = cc
    text_field (base64_octets os) r is kind scanned back = cc
