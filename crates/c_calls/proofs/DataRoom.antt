-- A text spells one list of octets as data of a type, and an entry of a `$GENERATE` directive has one text: so these calls need one length.
use Rattle.std.proofs.Common.{ℕ, ◌≡◌, Bool, true, false, List, [], ◌∷◌, ◌++◌, length, length-append, take, refl, sym, ap, subst, ◌∙◌, arith, inl, inr, Option, Some, None, Result, Ok, Err}
use Rattle.std.proofs.lemmas.Bool.{cases_lt}
use Rattle.dns_octets.specs.Room.{exactly}
use Rattle.dns_lexer.specs.EntryTokens.{BeginsToken, EndIs, IsSeen, TokenIs, TokenSeen}
use Rattle.dns_lexer.specs.declared.pieces.EndOfEntry.{EndOfEntry}
use Rattle.dns_lexer.specs.declared.pieces.Fault.{Fault as TextFault}
use Rattle.dns_lexer.specs.declared.pieces.Wrong.{Wrong}
use Rattle.dns_lexer.proofs.EntryLaws.{seen_once}
use Rattle.dns_wire.specs.FromOctets.{MakesName}
use Rattle.dns_wire.specs.Wire.{wire}
use Rattle.dns_wire.specs.declared.error.NameError.{NameError}
use Rattle.dns_wire.specs.declared.error.NameError.TheVariants.{BadLabel as NoLabel, CompressedName, LongName, TrailingData, ShortInput as CutShort, Relative, Absolute}
use Rattle.dns_wire.proofs.OneAnswer.{name_same}
use Rattle.rdata.specs.ByType.{ReadsType, SpellsTypeData}
use Rattle.rdata.proofs.OneSpelling.{type_once}
use Rattle.rdata_fields.specs.declared.record_error.RecordError.{RecordError}
use Rattle.rdata_values.specs.declared.types.RecordType.{RecordType}
use Rattle.zone_generate.specs.Directives.{Generating, entry_text}
use Rattle.zone_generate.specs.Ranges.{number_at}
use Rattle.zone_generate.specs.Tokens.{FindsDirective, entry_tokens}
use Rattle.zone_generate.specs.declared.error.GenerateError.{GenerateError}
use Rattle.zone_reader.specs.Source.{BeginsEntry, SourceSeen, parts_after_unread, tokens_first, unread_entry_tokens}
use Rattle.zone_reader.specs.declared.source.StartOfEntry.{StartOfEntry}
use Rattle.zone_reader.proofs.SeenParts.{Parts}
use Rattle.zone_reader.proofs.Passing.{ends_of}
use Rattle.zone_reader.proofs.StepsSeen.{open_left}
use Rattle.zone_reader.proofs.TextParts.{closed_left}
use Rattle.c_calls.specs.DataText.{DataAnswer, ReadsDataText, ReadsFirstData, ReportsData, ReportsReadData, answer_before, data_answer}
use Rattle.c_calls.specs.EnoughRoom.{FillsOrKeeps, GenerateCalls}
use Rattle.c_calls.specs.Generates.{EntryCall, WritesIndex, WritesNumber, WritesNumberIf, found_directive}
use Rattle.c_calls.specs.Kept.{IsOriginOf}
use Rattle.c_calls.specs.Reasons.{DataError, ReportsDataError, ReportsError, ReportsErrorText, refusal_of_entry, refusal_of_name, syntax_of}
use Rattle.c_calls.specs.Reports.{CopiesWhole, number_of}
use Rattle.c_calls.specs.declared.outcome.Outcome.{Outcome}
use Rattle.c_calls.proofs.KindsElse.{entry_else}
use Rattle.c_calls.proofs.RoomSaid.{fills, room_alone, wrong_else}

-- ---- the tokens of the first entry that has some

-- the parts from the first one on that is not the end of an entry
abbrev pub past_ends : Parts → Parts
past_ends [] = []
past_ends (Ok (EndIs e) ∷ parts) = past_ends parts
past_ends (Ok (TokenIs t b) ∷ parts) = Ok (TokenIs t b) ∷ parts
past_ends (Err f ∷ parts) = Err f ∷ parts

abbrev pub first_tokens : Parts → List TokenSeen
first_tokens parts = tokens_first (past_ends parts)

pub ends_passed : (ends : List EndOfEntry) (parts : Parts) → past_ends (ends_of ends ++ parts) ≡ past_ends parts
ends_passed [] parts = refl
ends_passed (e ∷ ends) parts = ends_passed ends parts

begun_tokens : (parts : Parts) → BeginsToken parts → tokens_first parts ≡ first_tokens parts
begun_tokens [] h = absurd h
begun_tokens (Ok (TokenIs t b) ∷ parts) h = refl
begun_tokens (Ok (EndIs e) ∷ parts) h = absurd h
begun_tokens (Err f ∷ parts) h = absurd h

closed_tokens : (s : SourceSeen) → s.is_open ≡ false → unread_entry_tokens s ≡ []
closed_tokens s = go s.is_open
  where
    go : (b : Bool) → b ≡ false → unread_entry_tokens (record { began = s.began; is_open = b; taken = s.taken; parts = s.parts }) ≡ []
    go true e = cc
    go false e = refl

module _ (old begun : SourceSeen) (closed : old.is_open ≡ false) where
  begun_past : (start : Result (Option StartOfEntry) TextFault) (h : BeginsEntry old start begun) → first_tokens old.parts ≡ first_tokens begun.parts
  begun_past start h = ap first_tokens (sym (closed_left old closed) ∙ h.passed) ∙ ap tokens_first (ends_passed h.ends begun.parts)

  pub tokens_begun : (found : Option StartOfEntry) → BeginsEntry old (Ok found) begun → unread_entry_tokens begun ≡ first_tokens old.parts
  tokens_begun (Some start) h = (open_left begun h.start.0).0 ∙ begun_tokens begun.parts h.start.3 ∙ sym (begun_past (Ok (Some start)) h)
  tokens_begun None h = closed_tokens begun h.start.0 ∙ ap first_tokens (sym h.start.1) ∙ sym (begun_past (Ok None) h)

-- ---- a text spells one list of octets

answer_same : (rtype : RecordType) (octets given : List ℕ) (parts : Parts) → Ok given ≡ answer_before rtype octets parts → octets ≡ given
answer_same rtype octets given [] h = cc
answer_same rtype octets given (Ok (EndIs e) ∷ parts) h = answer_same rtype octets given parts h
answer_same rtype octets given (Ok (TokenIs t b) ∷ parts) h = cc
answer_same rtype octets given (Err f ∷ parts) h = cc

module _ (rtype : RecordType) (origin : Option (List (List ℕ))) (text : List ℕ) where
  -- the tokens of its first entry spell them
  abbrev SpelledIn : List ℕ → Type 0
  SpelledIn octets = (parts : Parts) × IsSeen text parts × SpellsTypeData origin rtype (first_tokens parts) octets

  spelled_once : (a b : List ℕ) → SpelledIn a → SpelledIn b → a ≡ b
  spelled_once a b h k =
      let same = seen_once text h.0 k.0 h.1 k.1 in
      type_once origin (first_tokens k.0) rtype a b (subst (λ p. SpellsTypeData origin rtype (first_tokens p) a) same h.2) k.2

  read_spells : (tokens : List TokenSeen) (end : ℕ) (read : Result (Unit {0}) RecordError) (left : List TokenSeen) (octets given : List ℕ) (parts : Parts) → ReadsType origin (exactly 65535) rtype end tokens [] read left octets
      → Ok given ≡ data_answer rtype read octets parts → SpellsTypeData origin rtype tokens given
  read_spells tokens end (Ok u) left octets given [] reads is = let same : octets ≡ given = cc in subst (SpellsTypeData origin rtype tokens) (sym reads.1.2 ∙ same) reads.1.1
  read_spells tokens end (Ok u) left octets given (Err f ∷ parts) reads is = cc
  read_spells tokens end (Ok u) left octets given (Ok p ∷ parts) reads is =
      subst (SpellsTypeData origin rtype tokens) (sym reads.1.2 ∙ answer_same rtype octets given (Ok p ∷ parts) is) reads.1.1
  read_spells tokens end (Err e) left octets given [] reads is = cc
  read_spells tokens end (Err e) left octets given (Err f ∷ parts) reads is = cc
  read_spells tokens end (Err e) left octets given (Ok p ∷ parts) reads is = cc

  pub text_spells : (octets : List ℕ) → ReadsDataText (exactly 65535) rtype origin text (Ok octets) → SpelledIn octets
  text_spells octets h = (h.source.parts, h.seen, by h.start h.begins h.reads)
    where
      by : (start : Result (Option StartOfEntry) TextFault) → BeginsEntry h.source start h.begun → ReadsFirstData (exactly 65535) rtype origin start h.begun (Ok octets)
          → SpellsTypeData origin rtype (first_tokens h.source.parts) octets
      by (Err f) b r = cc
      by (Ok found) b r =
          subst (λ l. SpellsTypeData origin rtype l octets) (tokens_begun h.source h.begun h.closed found b) (read_spells (unread_entry_tokens h.begun) _ r.0 r.1 r.2 octets (parts_after_unread h.begun) r.3 r.4)

-- ---- data is read

pub name_else : (e : NameError) → 2 ≡ number_of (refusal_of_name e) → ⊥
name_else (NoLabel e) h = cc
name_else CompressedName h = cc
name_else LongName h = cc
name_else TrailingData h = cc
name_else CutShort h = cc
name_else Relative h = cc
name_else Absolute h = cc

text_else : (wrong : Option Wrong) (e : RecordError) (old new : List ℕ) (outcome : Outcome) → ReportsErrorText wrong e old 2 new outcome → ⊥
text_else (Some wrong) e old new outcome h = wrong_else wrong h.0.0
text_else None e old new outcome h = entry_else e.rtype e.kind (sym (room_alone (refusal_of_entry e.rtype e.kind) h.told_is))

pub error_else : (e : RecordError) (old new : List ℕ) (outcome : Outcome) → ReportsError e old 2 new outcome → ⊥
error_else e old new outcome h = text_else (syntax_of e.kind) e old new outcome h

data_else : (e : DataError) (old new : List ℕ) (outcome : Outcome) → ReportsDataError e old 2 new outcome → ⊥
data_else (e, false) old new outcome h = error_else e old new outcome h
data_else (e, true) old new outcome h = let told = h.told_is in cc

no_empty_name : (labels : List (List ℕ)) → MakesName [] (Ok labels) → ⊥
no_empty_name labels h = elim h [
  | inl long ↦ let no = long.1 in cc
  | inr made ↦ (let none = ap length made.1.2.spelled ∙ length-append (wire made.1.0) made.1.1 in let one = ap length made.1.3.0 in absurd (omega (arith, none, one)))
]

pub origin_once : (origin : List ℕ) (a b : Option (List (List ℕ))) → IsOriginOf origin a → IsOriginOf origin b → a ≡ b
origin_once origin None None h k = refl
origin_once origin None (Some m) h k = absurd (no_empty_name m (subst (λ o. MakesName o (Ok m)) h k))
origin_once origin (Some l) None h k = absurd (no_empty_name l (subst (λ o. MakesName o (Ok l)) k h))
origin_once origin (Some l) (Some m) h k = let same : Ok l ≡ Ok m = name_same origin (Ok l) (Ok m) h k in cc

module _ (rtype : RecordType) (text origin : List ℕ) where
  abbrev IsRead : List ℕ → Type 0
  IsRead octets = (known : Option (List (List ℕ))) × IsOriginOf origin known × ReadsDataText (exactly 65535) rtype known text (Ok octets)

  read_once : (a b : List ℕ) → IsRead a → IsRead b → a ≡ b
  read_once a b h k =
      let same = origin_once origin h.0 k.0 h.1 k.1 in
      spelled_once rtype k.0 text a b (text_spells rtype k.0 text a (subst (λ o. ReadsDataText (exactly 65535) rtype o text (Ok a)) same h.2)) (text_spells rtype k.0 text b k.2)

  read_copied : (old new : List ℕ) (outcome : Outcome) (known : Option (List (List ℕ))) (answer : DataAnswer) → IsOriginOf origin known → ReadsDataText (exactly 65535) rtype known text answer → ReportsData answer old 2 new outcome
      → (x : List ℕ) × IsRead x × CopiesWhole x old 2 new outcome
  read_copied old new outcome known (Ok octets) is r c = (octets, (known, is, r), c)
  read_copied old new outcome known (Err e) is r c = absurd (data_else e old new outcome c)

  data_copied : (old new : List ℕ) (outcome : Outcome) → ReportsReadData rtype text origin old 2 new outcome → (x : List ℕ) × IsRead x × CopiesWhole x old 2 new outcome
  data_copied old new outcome (inl h) = read_copied old new outcome h.0 h.2.0 h.1 h.2.1 h.2.2
  data_copied old new outcome (inr h) = absurd (name_else h.0 h.3.0)

  pub data_read : FillsOrKeeps (ReportsReadData rtype text origin)
  data_read = fills (ReportsReadData rtype text origin) IsRead read_once data_copied

-- ---- an entry of a directive

module _ (directive : List ℕ) (index : ℕ) where
  abbrev IsEntryOf : Result Generating GenerateError → List ℕ → Type 0
  IsEntryOf (Ok g) x = (n : ℕ) × (number_at g.range index ≡ Some n) × (x ≡ entry_text n g)
  IsEntryOf (Err e) x = ⊥

  abbrev IsEntry : List ℕ → Type 0
  IsEntry x = (tokens : List TokenSeen) × FindsDirective directive (Ok tokens) × IsEntryOf (found_directive (Ok tokens)) x

  entry_of_once : (found : Result Generating GenerateError) (a b : List ℕ) → IsEntryOf found a → IsEntryOf found b → a ≡ b
  entry_of_once (Ok g) a b h k =
      let both : Some h.0 ≡ Some k.0 = sym h.1 ∙ k.1 in
      let same : h.0 ≡ k.0 = cc in
      h.2 ∙ ap (λ n. entry_text n g) same ∙ sym k.2
  entry_of_once (Err e) a b h k = absurd h

  entry_once : (a b : List ℕ) → IsEntry a → IsEntry b → a ≡ b
  entry_once a b h k =
      let seen = seen_once directive h.1.1.0 k.1.1.0 h.1.1.1 k.1.1.1 in
      let tokens : h.0 ≡ k.0 = h.1.1.2 ∙ ap (λ s. take 8 (entry_tokens s)) seen ∙ sym k.1.1.2 in
      entry_of_once (found_directive (Ok k.0)) a b (subst (λ t. IsEntryOf (found_directive (Ok t)) a) tokens h.2) k.2

  module _ (was is : ℕ) (old new : List ℕ) (outcome : Outcome) where
    abbrev lacking : EntryCall
    lacking = record { old_number = was; number = is; old = old; text = new; status = 2; outcome = outcome }

    number_copied : (n : ℕ) (g : Generating) → WritesNumber n g lacking → CopiesWhole (entry_text n g) old 2 new outcome
    number_copied n g h = elim (cases_lt 65535 (length (entry_text n g))) [
      | inl long ↦ let no : 2 ≡ 7 = (h.long long).0.0 in absurd (omega (arith, no))
      | inr short ↦ (h.short short).copies
    ]

    index_copied : (number : Option ℕ) (g : Generating) → number_at g.range index ≡ number → WritesNumberIf number g lacking → (x : List ℕ) × IsEntryOf (Ok g) x × CopiesWhole x old 2 new outcome
    index_copied (Some n) g at h = (entry_text n g, (n, at, refl), number_copied n g h)
    index_copied None g at h = let no : 2 ≡ 1 = h.0 in absurd (omega (arith, no))

    written_copied : (found : Result Generating GenerateError) → WritesIndex found index lacking → (x : List ℕ) × IsEntryOf found x × CopiesWhole x old 2 new outcome
    written_copied (Ok g) h = index_copied (number_at g.range index) g refl h
    written_copied (Err e) h = let no : 2 ≡ 37 = h.0 in absurd (omega (arith, no))

    found_copied : (found : Result (List TokenSeen) GenerateError) → FindsDirective directive found → WritesIndex (found_directive found) index lacking → (x : List ℕ) × IsEntry x × CopiesWhole x old 2 new outcome
    found_copied (Ok tokens) f h = let w = written_copied (found_directive (Ok tokens)) h in (w.0, (tokens, f, w.1), w.2)
    found_copied (Err e) f h = let no : 2 ≡ 37 = h.0 in absurd (omega (arith, no))

  pub entry_generated : FillsOrKeeps (GenerateCalls directive index)
  entry_generated = fills (GenerateCalls directive index) IsEntry entry_once (λ old new outcome h. found_copied h.0 h.1 old new outcome h.2.0 h.2.1 h.2.2)
