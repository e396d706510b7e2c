-- A call with as much room as another one said doesn't lack room, if the input alone determines how much it needs.
use Rattle.std.proofs.Common.{ℕ, ◌≡◌, ◌<◌, ◌^◌, inl, inr, List, [], ◌∷◌, length, drop, refl, sym, ap, subst, ◌∙◌, arith, Result, Ok, Err}
use Rattle.std.specs.Borrow.{Bor}
use Rattle.std.proofs.lemmas.Bool.{cases_lt}
use Rattle.arrayvec.specs.ArrayVec.{ArrayVec}
use Rattle.dns_codec.specs.Base.{Base, encoded}
use Rattle.dns_codec.specs.Outcome.{octet_count}
use Rattle.dns_charstr.proofs.Answered.{one_list}
use Rattle.dns_charstr.proofs.OctetSpellings.{spells_one}
use Rattle.dns_lexer.specs.Pieces.{AreOctets, EachWithin, ReadsOctetsFrom}
use Rattle.dns_lexer.specs.declared.pieces.Fault.{Fault as TextFault}
use Rattle.dns_lexer.specs.declared.pieces.Piece.{Piece}
use Rattle.dns_lexer.specs.declared.pieces.Wrong.{Wrong}
use Rattle.dns_lexer.specs.declared.pieces.Wrong.TheVariants.{Closing as NoneOpen, OpenParenthesis as NotClosed, OpenQuote as NotQuoted, LoneReturn as NoFeed, BadEscape as NoEscape}
use Rattle.dns_name.specs.Reading.{ReadsAs}
use Rattle.dns_name.specs.Uncertain.{MakesUncertain, labels_of}
use Rattle.dns_name.specs.declared.name.UncertainName.{UncertainName}
use Rattle.dns_name.specs.declared.name.error.UncertainDnameError.{UncertainDnameError}
use Rattle.dns_name.specs.declared.name.error.UncertainDnameError.TheVariants.{BadLabel as NoType, CompressedName, LongName, TrailingData, ShortInput as NameCutShort}
use Rattle.dns_name.proofs.OneUncertain.{uncertain_same}
use Rattle.dns_name.proofs.WholeName.{one_name}
use Rattle.dns_symbol.specs.declared.error.SymbolCharsError.{SymbolCharsError}
use Rattle.dns_symbol.specs.declared.error.SymbolCharsError.TheVariants.{BadEscape as BadOne, ShortInput as ShortOne}
use Rattle.dns_symbol.specs.declared.error.SymbolOctetsError.{SymbolOctetsError}
use Rattle.dns_symbol.specs.declared.error.SymbolOctetsError.TheVariants.{BadUtf8 as NoUtf8, BadEscape as NoSymbol, ShortInput as SymbolCutShort}
use Rattle.dns_wire.specs.Wire.{wire}
use Rattle.rdata_values.specs.declared.types.RecordType.{RecordType}
use Rattle.zone_record.specs.CanonicalData.{canonical_data}
use Rattle.zone_record.specs.declared.error.WireError.{WireError}
use Rattle.zone_record.specs.declared.error.WireError.TheVariants.{NoDataType, LongData, NotOfType}
use Rattle.c_calls.specs.Codecs.{DecodesText, PrintsOctets, ReportsValue}
use Rattle.c_calls.specs.DataText.{PrintsData, ReportsCanonical, ReportsText, data_text, fault_of_wire}
use Rattle.c_calls.specs.EnoughRoom.{FillsOrKeeps, NameCalls, NextEntryCalls, ReportsEnoughRoom}
use Rattle.c_calls.specs.Entries.{ReadsEntry, ReportsEntry, counted, refusal_of_wrong, tokens_of}
use Rattle.c_calls.specs.Names.{NameAnswer, NameStops, PrintsName, ReadsNameText, ReportsName, ReportsNameText, refusal_of_octets}
use Rattle.c_calls.specs.Reports.{CopiesWhole, IsReported, number_of}
use Rattle.c_calls.specs.Strings.{PrintsString, ReadsOctetString, ReadsString, ReportsOctetString, ReportsString, StopsOctets, StopsReading, refusal_of, refusal_of_escape}
use Rattle.c_calls.specs.declared.outcome.Fault.{Fault}
use Rattle.c_calls.specs.declared.outcome.Outcome.{Outcome}
use Rattle.c_calls.specs.declared.outcome.Refusal.{Refusal}
use Rattle.c_calls.specs.declared.outcome.Refusal.TheVariants.{NoRoom, BadEscape, ShortInput, BadUtf8, BadSymbol, TooLong, BadEncoding, Closing, OpenParenthesis, OpenQuote, LoneReturn, BadCursor, EmptyLabel, LongLabel, BinaryLabel}
use Rattle.c_calls.specs.declared.outcome.Refusal.TheVariants.{BadLabel, Pointer, TrailingOctets, NoDigit, TooGreat, BadPlace, BadTtl, UnknownType, UnknownClass, BadHead, NotSupported, BadName, NoOrigin, NoOwner, RefusedOwner}
use Rattle.c_calls.specs.declared.outcome.Refusal.TheVariants.{BadData, NoTtl, RelativeName, BadGenerate}
use Rattle.c_calls.specs.declared.tokens.Cursor.{Cursor}
use Rattle.c_calls.specs.declared.tokens.EntryEnd.{EntryEnd}
use Rattle.c_calls.specs.declared.tokens.EntryEnd.TheVariants.{End, Fault as FaultStops, Nothing}
use Rattle.c_calls.specs.declared.tokens.Token.{Token as TokenAt}
use Rattle.c_calls.proofs.InCalls.{drop_octets, once, some_given}

-- ---- the input determines how much room is needed

module _ {X : Type 0} (May : List X → ℕ → List X → Outcome → Type 0) (Needs : ℕ → Type 0) (needs_once : (n m : ℕ) → Needs n → Needs m → n ≡ m)
    (lacks : (old new : List X) (outcome : Outcome) → May old 2 new outcome → Needs outcome.length × (length old < outcome.length)) where
  pub enough_reported : ReportsEnoughRoom May
  enough_reported = record {
    longer = λ old new outcome h. (lacks old new outcome h).1;
    enough = λ old new larger after outcome next status h fits k is.
        let one = lacks old new outcome h in
        let other = lacks larger after next (subst (λ s. May larger s after next) is k) in
        let same = needs_once outcome.length next.length one.0 other.0 in
        omega (arith, same, other.1, fits);
  }

-- octets that were not copied are longer than the buffer
pub copy_lacks : (octets old new : List ℕ) (outcome : Outcome) → CopiesWhole octets old 2 new outcome → (outcome.length ≡ length octets) × (length old < length octets) × (new ≡ old)
copy_lacks octets old new outcome h = elim (cases_lt (length old) (length octets)) [
  | inl short ↦ (ap (λ (o : Outcome). o.length) h.told, short, (h.lacks short).1)
  | inr fits ↦ let no : 2 ≡ 0 = (h.fits fits).0 in absurd (omega (arith, no))
]

-- a call that lacks room had octets to copy, and the input determines these
module _ (May : List ℕ → ℕ → List ℕ → Outcome → Type 0) (IsResult : List ℕ → Type 0) (result_once : (a b : List ℕ) → IsResult a → IsResult b → a ≡ b)
    (copied : (old new : List ℕ) (outcome : Outcome) → May old 2 new outcome → (octets : List ℕ) × IsResult octets × CopiesWhole octets old 2 new outcome) where
  abbrev IsLength : ℕ → Type 0
  IsLength n = (octets : List ℕ) × IsResult octets × (n ≡ length octets)

  lengths_once : (n m : ℕ) → IsLength n → IsLength m → n ≡ m
  lengths_once n m h k = h.2 ∙ ap length (result_once h.0 k.0 h.1 k.1) ∙ sym k.2

  lengths_lack : (old new : List ℕ) (outcome : Outcome) → May old 2 new outcome → IsLength outcome.length × (length old < outcome.length)
  lengths_lack old new outcome h =
      let c = copied old new outcome h in
      let l = copy_lacks c.0 old new outcome c.2 in
      ((c.0, c.1, l.0), omega (arith, l.0, l.1))

  pub fills : FillsOrKeeps May
  fills = record {
    room = enough_reported May IsLength lengths_once lengths_lack;
    keeps = λ old new outcome h. let c = copied old new outcome h in (copy_lacks c.0 old new outcome c.2).2;
  }

-- ---- the status of an error is another one

pub room_alone : (r : Refusal) → 2 ≡ number_of r → r ≡ NoRoom
room_alone NoRoom h = refl
room_alone BadEscape h = cc
room_alone ShortInput h = cc
room_alone BadUtf8 h = cc
room_alone BadSymbol h = cc
room_alone TooLong h = cc
room_alone BadEncoding h = cc
room_alone Closing h = cc
room_alone OpenParenthesis h = cc
room_alone OpenQuote h = cc
room_alone LoneReturn h = cc
room_alone BadCursor h = cc
room_alone EmptyLabel h = cc
room_alone LongLabel h = cc
room_alone BinaryLabel h = cc
room_alone BadLabel h = cc
room_alone Pointer h = cc
room_alone TrailingOctets h = cc
room_alone NoDigit h = cc
room_alone TooGreat h = cc
room_alone BadPlace h = cc
room_alone BadTtl h = cc
room_alone UnknownType h = cc
room_alone UnknownClass h = cc
room_alone BadHead h = cc
room_alone NotSupported h = cc
room_alone BadName h = cc
room_alone NoOrigin h = cc
room_alone NoOwner h = cc
room_alone RefusedOwner h = cc
room_alone BadData h = cc
room_alone NoTtl h = cc
room_alone RelativeName h = cc
room_alone BadGenerate h = cc

pub wrong_else : (wrong : Wrong) → 2 ≡ number_of (refusal_of_wrong wrong) → ⊥
wrong_else NoneOpen h = cc
wrong_else NotClosed h = cc
wrong_else (NotQuoted at) h = cc
wrong_else NoFeed h = cc
wrong_else NoEscape h = cc

symbol_else : (e : SymbolOctetsError) → NoRoom ≡ refusal_of e → ⊥
symbol_else NoUtf8 h = cc
symbol_else NoSymbol h = cc
symbol_else SymbolCutShort h = cc

escape_else : (e : SymbolCharsError) → NoRoom ≡ refusal_of_escape e → ⊥
escape_else BadOne h = cc
escape_else ShortOne h = cc

octets_else : (e : UncertainDnameError) → 2 ≡ number_of (refusal_of_octets e) → ⊥
octets_else (NoType e) h = cc
octets_else CompressedName h = cc
octets_else LongName h = cc
octets_else TrailingData h = cc
octets_else NameCutShort h = cc

pub wire_else : (e : WireError) → 2 ≡ number_of (fault_of_wire e).refusal → ⊥
wire_else NoDataType h = cc
wire_else LongData h = cc
wire_else NotOfType h = cc

-- ---- words, and encoded texts

pub word_filled : (word : List ℕ) → FillsOrKeeps (CopiesWhole word)
word_filled word = fills (CopiesWhole word) (λ x. x ≡ word) (λ a b h k. h ∙ sym k) (λ old new outcome h. (word, refl, h))

pub octets_printed : (b : Base) (octets : List ℕ) → FillsOrKeeps (PrintsOctets b octets)
octets_printed b octets = fills (PrintsOctets b octets) (λ x. x ≡ encoded b octets) (λ a c h k. h ∙ sym k) (λ old new outcome h. elim (cases_lt (2 ^ 60) (length octets)) [
  | inl long ↦ let no : 2 ≡ 7 = (h.long long).0.0 in absurd (omega (arith, no))
  | inr short ↦ (encoded b octets, refl, h.short short)
])

module _ (b : Base) (text : List ℕ) where
  value_else : (new : List ℕ) (outcome : Outcome) → ReportsValue b text 2 new outcome → ⊥
  value_else new outcome (inl h) = let no : 2 ≡ 0 = h.0 in omega (arith, no)
  value_else new outcome (inr h) = let no : 2 ≡ 8 = h.0.0 in omega (arith, no)

  text_lacks : (old new : List ℕ) (outcome : Outcome) → DecodesText b text old 2 new outcome → (outcome.length ≡ octet_count b text) × (length old < octet_count b text) × (new ≡ old)
  text_lacks old new outcome h = elim (cases_lt (length old) (octet_count b text)) [
    | inl short ↦ (ap (λ (o : Outcome). o.length) (h.lacks short).1, short, (h.lacks short).2)
    | inr fits ↦ absurd (value_else new outcome (h.fits fits))
  ]

  pub text_decoded : FillsOrKeeps (DecodesText b text)
  text_decoded = record {
    room = enough_reported (DecodesText b text) (λ n. n ≡ octet_count b text) (λ n m h k. h ∙ sym k) (λ old new outcome h.
        let l = text_lacks old new outcome h in (l.0, omega (arith, l.0, l.1)));
    keeps = λ old new outcome h. (text_lacks old new outcome h).2;
  }

-- ---- strings

pub string_printed : (text_is : List ℕ → List ℕ) (octets : List ℕ) → FillsOrKeeps (PrintsString text_is octets)
string_printed text_is octets = fills (PrintsString text_is octets) (λ x. x ≡ text_is octets) (λ a b h k. h ∙ sym k) (λ old new outcome h. elim (cases_lt 255 (length octets)) [
  | inl long ↦ let no : 2 ≡ 7 = (h.long long).0.0 in absurd (omega (arith, no))
  | inr short ↦ (text_is octets, refl, h.short short)
])

module _ (text : List ℕ) where
  abbrev IsString : List ℕ → Type 0
  IsString octets = ReadsString text (Ok octets)

  string_copied : (old new : List ℕ) (outcome : Outcome) (answer : Result (List ℕ) Fault) → ReadsString text answer → IsReported answer old 2 new outcome → (octets : List ℕ) × IsString octets × CopiesWhole octets old 2 new outcome
  string_copied old new outcome (Ok octets) r c = (octets, r, c)
  string_copied old new outcome (Err fault) r c = absurd (subst (λ x. StopsReading text r.0 fault.place x) (room_alone fault.refusal c.0.0) r.2)

  pub string_read : FillsOrKeeps (ReportsString text)
  string_read = fills (ReportsString text) IsString (λ a b h k. one_list text a b h.0 k.0) (λ old new outcome h. string_copied old new outcome h.0 h.1 h.2)

  abbrev IsOctetString : List ℕ → Type 0
  IsOctetString octets = ReadsOctetString text (Ok octets)

  stops_else : (octets rest : List ℕ) → StopsOctets octets rest NoRoom → ⊥
  stops_else octets rest (inl h) = let no : NoRoom ≡ TooLong = h.4 in cc
  stops_else octets rest (inr h) = escape_else h.0 h.3

  octets_copied : (old new : List ℕ) (outcome : Outcome) (answer : Result (List ℕ) Fault) → ReadsOctetString text answer → IsReported answer old 2 new outcome
      → (octets : List ℕ) × IsOctetString octets × CopiesWhole octets old 2 new outcome
  octets_copied old new outcome (Ok octets) r c = (octets, r, c)
  octets_copied old new outcome (Err fault) r c = absurd (stops_else r.0 (drop fault.place text) (subst (λ x. StopsOctets r.0 (drop fault.place text) x) (room_alone fault.refusal c.0.0) r.3))

  pub octets_read : FillsOrKeeps (ReportsOctetString text)
  octets_read = fills (ReportsOctetString text) IsOctetString (λ a b h k. spells_one text a b h.0 k.0) (λ old new outcome h. octets_copied old new outcome h.0 h.1 h.2)

-- ---- names

module _ (text_is : List (List ℕ) → List ℕ) where
  abbrev IsNameText : List ℕ → List ℕ → Type 0
  IsNameText [] x = x ≡ text_is []
  IsNameText (o ∷ os) x = (name : UncertainName (Bor (List ℕ))) × MakesUncertain (o ∷ os) (Ok name) × (x ≡ text_is (labels_of name))

  name_text_once : (octets a b : List ℕ) → IsNameText octets a → IsNameText octets b → a ≡ b
  name_text_once [] a b h k = h ∙ sym k
  name_text_once (o ∷ os) a b h k =
      let both = uncertain_same (o ∷ os) (Ok h.0) (Ok k.0) h.1 k.1 in
      let same : h.0 ≡ k.0 = cc in
      h.2 ∙ ap (λ (n : UncertainName (Bor (List ℕ))). text_is (labels_of n)) same ∙ sym k.2

  name_copied : (octets old new : List ℕ) (outcome : Outcome) → PrintsName text_is octets old 2 new outcome → (x : List ℕ) × IsNameText octets x × CopiesWhole x old 2 new outcome
  name_copied [] old new outcome h = (text_is [], refl, h.none refl)
  name_copied (o ∷ os) old new outcome h = let p = h.some (λ e. cc) in by p.0 p.1 p.2
    where
      by : (made : Result (UncertainName (Bor (List ℕ))) UncertainDnameError) → MakesUncertain (o ∷ os) made → ReportsNameText text_is made old 2 new outcome → (x : List ℕ) × IsNameText (o ∷ os) x × CopiesWhole x old 2 new outcome
      by (Ok name) m c = (text_is (labels_of name), (name, m, refl), c)
      by (Err e) m c = absurd (octets_else e c.0.0)

  pub name_printed : (octets : List ℕ) → FillsOrKeeps (PrintsName text_is octets)
  name_printed octets = fills (PrintsName text_is octets) (IsNameText octets) (name_text_once octets) (name_copied octets)

module _ (text : List ℕ) where
  abbrev IsNameWire : List ℕ → Type 0
  IsNameWire x = (name : UncertainName (ArrayVec ℕ)) × ReadsAs text name × (x ≡ wire (labels_of name))

  wire_once : (a b : List ℕ) → IsNameWire a → IsNameWire b → a ≡ b
  wire_once a b h k =
      let same : h.0 ≡ k.0 = one_name text h.0 k.0 h.1 k.1 in
      h.2 ∙ ap (λ (n : UncertainName (ArrayVec ℕ)). wire (labels_of n)) same ∙ sym k.2

  wire_copied : (old new : List ℕ) (outcome : Outcome) (was is : ℕ) (answer : NameAnswer) → ReadsNameText text answer → ReportsName answer old was 2 new is outcome → (x : List ℕ) × IsNameWire x × CopiesWhole x old 2 new outcome
  wire_copied old new outcome was is (Ok name) r c = (wire (labels_of name), (name, r, refl), c.0)
  wire_copied old new outcome was is (Err fault) r c =
      let stops = subst (λ x. NameStops text r.0 r.1 fault.place x) (room_alone fault.refusal c.0.0) r.4 in absurd (symbol_else stops.0 stops.2)

  pub name_read : FillsOrKeeps (NameCalls text)
  name_read = fills (NameCalls text) IsNameWire wire_once (λ old new outcome h. wire_copied old new outcome h.0 h.1 h.2 h.3 h.4)

-- ---- data that is printed, and canonical forms

module _ (rtype : RecordType) (octets : List ℕ) where
  abbrev IsDataText : List ℕ → Type 0
  IsDataText x = x ≡ data_text (record { rtype = rtype; octets = octets })

  text_copied : (old new : List ℕ) (outcome : Outcome) → ReportsText (data_text (record { rtype = rtype; octets = octets })) old 2 new outcome → (x : List ℕ) × IsDataText x × CopiesWhole x old 2 new outcome
  text_copied old new outcome (inl h) = (data_text (record { rtype = rtype; octets = octets }), refl, h)
  text_copied old new outcome (inr h) = let no : 2 ≡ 7 = h.0.0 in absurd (omega (arith, no))

  data_copied : (old new : List ℕ) (outcome : Outcome) → PrintsData rtype octets old 2 new outcome → (x : List ℕ) × IsDataText x × CopiesWhole x old 2 new outcome
  data_copied old new outcome (inl h) = text_copied old new outcome h.1
  data_copied old new outcome (inr h) = absurd (wire_else h.0 h.2.0)

  pub data_printed : FillsOrKeeps (PrintsData rtype octets)
  data_printed = fills (PrintsData rtype octets) IsDataText (λ a b h k. h ∙ sym k) data_copied

  form_copied : (old new : List ℕ) (outcome : Outcome) → ReportsCanonical rtype octets old 2 new outcome → (x : List ℕ) × (x ≡ canonical_data rtype octets) × CopiesWhole x old 2 new outcome
  form_copied old new outcome (inl h) = (canonical_data rtype octets, refl, h.1)
  form_copied old new outcome (inr h) = absurd (wire_else h.0 h.2.0)

  pub form_written : FillsOrKeeps (ReportsCanonical rtype octets)
  form_written = fills (ReportsCanonical rtype octets) (λ x. x ≡ canonical_data rtype octets) (λ a b h k. h ∙ sym k) form_copied

-- ---- the tokens of an entry

module _ (text : List ℕ) (are : AreOctets text) (cursor : Cursor) where
  -- the number of tokens of the entry that begins there
  abbrev IsCount : ℕ → Type 0
  IsCount n = (given : List (Result Piece TextFault)) × ReadsOctetsFrom text cursor.at given × EachWithin (length text) given × (n ≡ counted (length (tokens_of given)))

  count_once : (n m : ℕ) → IsCount n → IsCount m → n ≡ m
  count_once n m h k =
      let alone = some_given _ (drop_octets cursor.at text are) in
      let one = once text cursor.at h.0 alone.0 h.1 h.2 alone.1 in
      let other = once text cursor.at k.0 alone.0 k.1 k.2 alone.1 in
      h.3 ∙ ap (λ g. counted (length (tokens_of g))) (one ∙ sym other) ∙ sym k.3

  -- only an entry that ends lacks room
  stop_lacks : (count room : ℕ) (stop : EntryEnd) (later : Cursor) (outcome : Outcome) → ReportsEntry text count stop room 2 cursor later outcome → (outcome.length ≡ count) × (room < count)
  stop_lacks count room (End e last) later outcome h = elim (cases_lt room count) [
    | inl short ↦ (ap (λ (o : Outcome). o.length) h.0, short)
    | inr fits ↦ let no : 2 ≡ 0 = (h.1 fits).0 in absurd (omega (arith, no))
  ]
  stop_lacks count room (FaultStops f) later outcome h = absurd (wrong_else f.wrong h.1)
  stop_lacks count room Nothing later outcome h = let no : 2 ≡ 1 = h.1 in absurd (omega (arith, no))

  entry_lacks : (old new : List TokenAt) (later : Cursor) (outcome : Outcome) → ReadsEntry text cursor later old new 2 outcome → IsCount outcome.length × (length old < outcome.length)
  entry_lacks old new later outcome h =
      let l = stop_lacks h.count (length old) h.stop later outcome h.told in
      ((h.given, h.reads, h.within, l.0 ∙ h.entry.count_is), omega (arith, l.0, l.1))

  tokens_lack : (old new : List TokenAt) (outcome : Outcome) → NextEntryCalls text cursor old 2 new outcome → IsCount outcome.length × (length old < outcome.length)
  tokens_lack old new outcome (later, h) = elim (cases_lt 0 cursor.is_done) [
    | inl done ↦ let no : 2 ≡ 1 = (h.done (λ e. omega (arith, e, done))).0 in absurd (omega (arith, no))
    | inr going ↦ elim (cases_lt (length text) cursor.at) [
      | inl past ↦ let no : 2 ≡ 13 = (h.past (omega (arith, going)) past).0.0 in absurd (omega (arith, no))
      | inr within ↦ entry_lacks old new later outcome (h.reads (omega (arith, going)) within)
    ]
  ]

  pub tokens_returned : ReportsEnoughRoom (NextEntryCalls text cursor)
  tokens_returned = enough_reported (NextEntryCalls text cursor) IsCount count_once tokens_lack
