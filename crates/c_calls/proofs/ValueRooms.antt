-- A word spells one name, and a record has one text: so these calls need one length.
use Rattle.std.proofs.Common.{ℕ, ◌≡◌, ◌^◌, Bool, true, false, List, [], ◌∷◌, take, refl, sym, ap, subst, ◌∙◌, arith, inl, inr, Option, Some, Result, Ok, Err}
use Rattle.std.proofs.lemmas.Bool.{cases_lt}
use Rattle.dns_lexer.specs.declared.pieces.Fault.{Fault as TextFault}
use Rattle.dns_lexer.specs.declared.pieces.Piece.{Piece}
use Rattle.dns_lexer.specs.declared.pieces.Piece.TheVariants.{Word, Quote, Comment, End}
use Rattle.dns_lexer.specs.declared.pieces.Wrong.{Wrong}
use Rattle.dns_lexer.specs.declared.pieces.Wrong.TheVariants.{BadEscape as NoEscape}
use Rattle.dns_wire.proofs.OneAnswer.{name_same}
use Rattle.rdata_tokens.specs.NameSpelling.{SpellsName}
use Rattle.rdata_tokens.proofs.NameReadings.{name_once}
use Rattle.rdata_values.specs.declared.error.ErrorKind.{ErrorKind}
use Rattle.rdata_values.specs.declared.error.ErrorKind.TheVariants.{BadEscape as KindEscape, EmptyLabel as KindEmpty, LongLabel as KindLong, LongName, NoOrigin as KindOrigin}
use Rattle.zone_reader.specs.declared.known.NameState.TheVariants.{Name}
use Rattle.zone_record.specs.Records.{record_document}
use Rattle.c_calls.specs.DataText.{ReportsText, line_text}
use Rattle.c_calls.specs.EnoughRoom.{FillsOrKeeps}
use Rattle.c_calls.specs.Kept.{HoldsName, IsOriginOf}
use Rattle.c_calls.specs.NameWords.{ReadsNameWord, ReportsWord, ReportsWordName, escape_answer, refusal_of_word, whole_answer, word_answer}
use Rattle.c_calls.specs.RecordPrinting.{OwnerOf, PrintsNamed, PrintsOwned, PrintsRecord, WhyNoWire, record_named}
use Rattle.c_calls.specs.Reports.{CopiesWhole, number_of}
use Rattle.c_calls.specs.declared.outcome.Outcome.{Outcome}
use Rattle.c_calls.specs.declared.outcome.Refusal.{Refusal}
use Rattle.c_calls.specs.declared.outcome.Refusal.TheVariants.{NoRoom}
use Rattle.c_calls.specs.declared.records.Record.{Record}
use Rattle.c_calls.proofs.DataRoom.{name_else, origin_once}
use Rattle.c_calls.proofs.RoomSaid.{fills, room_alone, wire_else}

-- ---- words

escape_else : (wrong : Wrong) → Err NoRoom ≡ escape_answer wrong → ⊥
escape_else NoEscape h = cc
escape_else _ h = cc

whole_else : (b : Bool) → Err NoRoom ≡ whole_answer b → ⊥
whole_else true h = cc
whole_else false h = cc

first_else : (n : ℕ) (given : List (Result Piece TextFault)) → Err NoRoom ≡ word_answer n given → ⊥
first_else n [] h = cc
first_else n (Ok (Word w) ∷ given) h = whole_else _ h
first_else n (Ok (Quote q) ∷ given) h = cc
first_else n (Ok (Comment c) ∷ given) h = cc
first_else n (Ok (End e) ∷ given) h = cc
first_else n (Err f ∷ given) h = escape_else f.wrong h

kind_else : (kind : ErrorKind) → NoRoom ≡ refusal_of_word kind → ⊥
kind_else KindEscape h = cc
kind_else KindEmpty h = cc
kind_else KindLong h = cc
kind_else LongName h = cc
kind_else KindOrigin h = cc
kind_else _ h = cc

module _ (text origin : List ℕ) where
  abbrev IsWordName : List ℕ → Type 0
  IsWordName x = (known : Option (List (List ℕ))) × IsOriginOf origin known × SpellsName known text x

  word_once : (a b : List ℕ) → IsWordName a → IsWordName b → a ≡ b
  word_once a b h k = name_once k.0 text a b (subst (λ o. SpellsName o text a) (origin_once origin h.0 k.0 h.1 k.1) h.2) k.2

  word_reported : (old new : List ℕ) (outcome : Outcome) (known : Option (List (List ℕ))) (answer : Result (List ℕ) Refusal) → IsOriginOf origin known → ReadsNameWord known text answer → ReportsWord answer old 2 new outcome
      → (x : List ℕ) × IsWordName x × CopiesWhole x old 2 new outcome
  word_reported old new outcome known (Ok octets) is r c = (octets, (known, is, r.1), c)
  word_reported old new outcome known (Err e) is r c =
      let none : e ≡ NoRoom = room_alone e c.0.0 in
      elim r [
        | inl word ↦ absurd (first_else _ word.0 (sym (ap Err none) ∙ word.2))
        | inr kind ↦ absurd (kind_else kind.1 (sym none ∙ kind.3))
      ]

  word_copied : (old new : List ℕ) (outcome : Outcome) → ReportsWordName text origin old 2 new outcome → (x : List ℕ) × IsWordName x × CopiesWhole x old 2 new outcome
  word_copied old new outcome (inl h) = word_reported old new outcome h.0 h.2.0 h.1 h.2.1 h.2.2
  word_copied old new outcome (inr h) = absurd (name_else h.0 h.3.0)

  pub word_read : FillsOrKeeps (ReportsWordName text origin)
  word_read = fills (ReportsWordName text origin) IsWordName word_once word_copied

-- ---- records

module _ (found : Record) (octets : List ℕ) where
  abbrev IsRecordText : List ℕ → Type 0
  IsRecordText x = (labels : List (List ℕ)) × HoldsName found.name (Some (Name labels)) × (x ≡ line_text (record_document (record_named labels found octets)))

  record_once : (a b : List ℕ) → IsRecordText a → IsRecordText b → a ≡ b
  record_once a b h k =
      let one = name_same (take found.name.length found.name.octets) (Ok h.0) (Ok k.0) h.1.2.1 k.1.2.1 in
      let same : h.0 ≡ k.0 = cc in
      h.2 ∙ ap (λ l. line_text (record_document (record_named l found octets))) same ∙ sym k.2

  wire_why_else : (r : Refusal) → r ≡ NoRoom → WhyNoWire found.name r → ⊥
  wire_why_else r none (inl h) = let no = sym none ∙ h.1 in cc
  wire_why_else r none (inr h) = name_else h.0 (ap number_of (sym none ∙ h.2))

  owner_else : (r : Refusal) → r ≡ NoRoom → OwnerOf found.name (Err r) → ⊥
  owner_else r none (inl h) = let no = sym none ∙ h.1 in cc
  owner_else r none (inr (inl h)) = let no = sym none ∙ h.1 in cc
  owner_else r none (inr (inr h)) = wire_why_else r none h.2

  line_copied : (old new : List ℕ) (outcome : Outcome) (line : List ℕ) → ReportsText line old 2 new outcome → CopiesWhole line old 2 new outcome
  line_copied old new outcome line (inl h) = h
  line_copied old new outcome line (inr h) = let no : 2 ≡ 7 = h.0.0 in absurd (omega (arith, no))

  named_copied : (old new : List ℕ) (outcome : Outcome) (labels : List (List ℕ)) → HoldsName found.name (Some (Name labels)) → PrintsNamed labels found octets old 2 new outcome → (x : List ℕ) × IsRecordText x × CopiesWhole x old 2 new outcome
  named_copied old new outcome labels is (inl h) = (line_text (record_document (record_named labels found octets)), (labels, is, refl), line_copied old new outcome _ h.1)
  named_copied old new outcome labels is (inr h) = absurd (wire_else h.0 h.2.0)

  owned_copied : (old new : List ℕ) (outcome : Outcome) (owner : Result (List (List ℕ)) Refusal) → OwnerOf found.name owner → PrintsOwned owner found octets old 2 new outcome → (x : List ℕ) × IsRecordText x × CopiesWhole x old 2 new outcome
  owned_copied old new outcome (Ok labels) is h = elim (cases_lt found.ttl (2 ^ 31)) [
    | inl short ↦ named_copied old new outcome labels is (h.short short)
    | inr long ↦ let no : 2 ≡ 23 = (h.long long).0.0 in absurd (omega (arith, no))
  ]
  owned_copied old new outcome (Err r) is h = absurd (owner_else r (room_alone r h.0.0) is)

  pub record_printed : FillsOrKeeps (PrintsRecord found octets)
  record_printed = fills (PrintsRecord found octets) IsRecordText record_once (λ old new outcome h. owned_copied old new outcome h.0 h.1 h.2)
