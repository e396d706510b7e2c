-- A text of records has an entry for each record, with the tokens of the printed record.
use Rattle.std.proofs.Common.{◌≡◌, ℕ, ◌<◌, ◌^◌, Bool, true, false, List, [], ◌∷◌, ◌++◌, length, drop, take, refl, sym, ap, ◌∙◌, subst, arith, inl, append_assoc, append-nil, length-append}
use Rattle.std.specs.Prelude.{⊤, if◌then◌else◌, map, None, Ok, Err}
use Rattle.std.specs.List.{AllByRecursion, filter}
use Rattle.std.proofs.Math.Seq.{take-append_seam}
use Rattle.std.proofs.lemmas.List.{map-append}
use Rattle.dns_lexer.specs.declared.pieces.EndOfEntry.{EndOfEntry}
use Rattle.dns_lexer.specs.EntryTokens.{IsSeen, TokenSeen, seen_from, spelled}
use Rattle.dns_lexer.specs.Pieces.{AreOctets, AreItemsOf, IsPieces, begins_blank, pieces}
use Rattle.dns_lexer.specs.Token.{IsQuote, IsWord}
use Rattle.dns_lexer.specs.Splitting.{Entries, Splits, with_token}
use Rattle.dns_lexer.proofs.EntryLaws.{seen_once, text_entries}
use Rattle.dns_lexer.proofs.OctetFaults.{given_alike}
use Rattle.dns_lexer.proofs.OctetOpeners.{splits_utf8}
use Rattle.dns_zone.specs.Documents.{IsProper, IsWellFormed}
use Rattle.dns_zone.specs.Layout.{Step, begin, end, newline}
use Rattle.dns_zone.specs.Nesting.{lines_of}
use Rattle.dns_zone.specs.Forming.{nested_lines}
use Rattle.dns_zone.specs.declared.zonefile_fmt.DisplayKind.{DisplayKind}
use Rattle.dns_laws.specs.Entries.{document_entries}
use Rattle.dns_laws.proofs.DocumentLayouts.{laid_splits, printed_laid}
use Rattle.rdata.specs.Printing.{token_bytes}
use Rattle.zone_record.specs.RdataPrinting.{token_steps}
use Rattle.rdata.specs.Rests.{ArePrinted, PrintedToken}
use Rattle.zone_record.specs.DataTokens.{data_document, data_tokens}
use Rattle.zone_record.specs.RecordLaws.{AreRecordValues}
use Rattle.zone_record.specs.Records.{data_of, head_tokens, record_document, record_nests, record_tokens}
use Rattle.zone_record.specs.declared.record.Record.{Record}
use Rattle.zone_reader.specs.TextEntries.{TextEntry, entry_counts, parts_of_entries, spelled_tokens}
use Rattle.zone_reader.proofs.SeenParts.{Parts}
use Rattle.zone_stream.specs.PrintedTexts.{records_text}
use Rattle.zone_stream.proofs.LaidTokens.{IsSound, all_sound, not_both}
use Rattle.zone_stream.proofs.RecordWords.{IsWell, data_is_well, head_is_well, well_token}
use Rattle.zone_stream.proofs.SeenEntries.{IsApart, IsSoundEntry, counted_again, regrouped, regrouped_spelled, sound_entries}

-- ---- a token that is spelled as a printed one

snoc_cancel : (xs ys : List ℕ) (z : ℕ) → xs ++ z ∷ [] ≡ ys ++ z ∷ [] → xs ≡ ys
snoc_cancel xs ys z e =
    let long : length xs ≡ length ys = omega (arith, ap length e, length-append xs (z ∷ []), length-append ys (z ∷ [])) in
    sym (take-append_seam xs (z ∷ [])) ∙ ap (take (length xs)) e ∙ ap (λ n. take n (ys ++ z ∷ [])) long ∙ take-append_seam ys (z ∷ [])

module _ (p : PrintedToken) (t : TokenSeen) (well : IsWell p) (apart : IsApart t) (same : spelled t ≡ token_bytes p) where
  abbrev bytes_if : Bool → List ℕ → List ℕ
  bytes_if quoted text = if quoted then 34 ∷ (text ++ 34 ∷ []) else text

  spelled_by : (q : Bool) → t.is_quoted ≡ q → spelled t ≡ bytes_if q t.text
  spelled_by q is = ap (λ b. bytes_if b t.text) is

  printed_by : (q : Bool) → p.is_quoted ≡ q → token_bytes p ≡ bytes_if q p.text
  printed_by q is = ap (λ b. bytes_if b p.text) is

  same_token : (q b : Bool) → t.is_quoted ≡ q → p.is_quoted ≡ b → (t.is_quoted ≡ p.is_quoted) × (t.text ≡ p.text)
  same_token true true is and_is = (is ∙ sym and_is, snoc_cancel t.text p.text 34 (ap (drop 1) (sym (spelled_by true is) ∙ same ∙ printed_by true and_is)))
  same_token false false is and_is = (is ∙ sym and_is, sym (spelled_by false is) ∙ same ∙ printed_by false and_is)
  same_token true false is and_is = absurd (not_both (token_bytes p) (well.1 and_is) (subst IsQuote same (apart.1.1 is)))
  same_token false true is and_is = absurd (not_both (token_bytes p) (subst IsWord same (apart.1.0 is)) (well.0 and_is))

are_printed : (ps : List PrintedToken) (ts : List TokenSeen) → AllByRecursion IsWell ps → AllByRecursion IsApart ts → map spelled ts ≡ map token_bytes ps → ArePrinted ps ts
are_printed [] [] well apart same = tt
are_printed [] (t ∷ ts) well apart same = cc
are_printed (p ∷ ps) [] well apart same = cc
are_printed (p ∷ ps) (t ∷ ts) well apart same =
    let first : spelled t ≡ token_bytes p = cc in
    let rest : map spelled ts ≡ map token_bytes ps = cc in
    let is = same_token p t well.0 apart.0 first t.is_quoted p.is_quoted refl refl in
    (is.0, is.1, apart.0.0, are_printed ps ts well.1 apart.1 rest)

-- ---- the entries of records

abbrev pub bytes_of : {N O : Type 0} → Record N O → List (List ℕ)
bytes_of r = map token_bytes (record_tokens r)

steps_before : (tokens : List PrintedToken) (rest : List Step) (e : List (List ℕ)) (es : Entries) → document_entries rest ≡ e ∷ es → document_entries (token_steps tokens ++ rest) ≡ (map token_bytes tokens ++ e) ∷ es
steps_before [] rest e es is = is
steps_before (t ∷ ts) rest e es is = ap (with_token (token_bytes t)) (steps_before ts rest e es is)

all_of : {X : Type 0} (P : X → Type 0) (xs ys : List X) → AllByRecursion P xs → AllByRecursion P ys → AllByRecursion P (xs ++ ys)
all_of P [] ys h k = k
all_of P (x ∷ xs) ys h k = (h.0, all_of P xs ys h.1 k)

proper_steps : (tokens : List PrintedToken) → AllByRecursion IsWell tokens → AllByRecursion IsProper (token_steps tokens)
proper_steps [] h = tt
proper_steps (t ∷ ts) h = (well_token t h.0, proper_steps ts h.1)

module _ {N O : Type 0} (r : Record N O) where
  abbrev heads : List Step
  heads = token_steps (head_tokens r)

  abbrev datas : List Step
  datas = data_document (data_of r)

  line_is : (rest : List Step) → (record_document r ++ newline ∷ []) ++ rest ≡ heads ++ begin ∷ (datas ++ end ∷ newline ∷ rest)
  line_is rest =
      append_assoc (record_document r) (newline ∷ []) rest ∙ append_assoc heads (begin ∷ (datas ++ end ∷ [])) (newline ∷ rest)
      ∙ ap (λ l. heads ++ begin ∷ l) (append_assoc datas (end ∷ []) (newline ∷ rest))

  line_entry : (rest : List Step) → document_entries ((record_document r ++ newline ∷ []) ++ rest) ≡ bytes_of r ∷ document_entries rest
  line_entry rest =
      let others : List PrintedToken = data_tokens (data_of r).rtype (data_of r).octets in
      ap document_entries (line_is rest)
      ∙ steps_before (head_tokens r) (begin ∷ (datas ++ end ∷ newline ∷ rest)) (map token_bytes others ++ []) (document_entries rest) (steps_before others (end ∷ newline ∷ rest) [] (document_entries rest) refl)
      ∙ ap (λ l. l ∷ document_entries rest) (ap (λ l. map token_bytes (head_tokens r) ++ l) (append-nil (map token_bytes others)) ∙ sym (map-append token_bytes (head_tokens r) others))

  -- the values of a record, and its TTL
  abbrev pub IsShown : Type 0
  IsShown = AreRecordValues r × (r.ttl < 2 ^ 31)

  record_is_well : IsShown → AllByRecursion IsWell (record_tokens r)
  record_is_well h = all_of IsWell (head_tokens r) (data_tokens (data_of r).rtype (data_of r).octets) (head_is_well r h.0 h.1) (data_is_well (data_of r).rtype (data_of r).octets h.0.typed)

  line_is_proper : IsShown → AllByRecursion IsProper (record_document r ++ newline ∷ [])
  line_is_proper h =
      let of_data = all_of IsProper datas (end ∷ []) (proper_steps (data_tokens (data_of r).rtype (data_of r).octets) (data_is_well (data_of r).rtype (data_of r).octets h.0.typed)) (tt, tt) in
      all_of IsProper (record_document r) (newline ∷ []) (all_of IsProper heads (begin ∷ (datas ++ end ∷ [])) (proper_steps (head_tokens r) (head_is_well r h.0 h.1)) (tt, of_data)) (tt, tt)

module _ {N O : Type 0} where
  lines_entries : (records : List (Record N O)) → document_entries (lines_of record_document records) ≡ map bytes_of records ++ [] ∷ []
  lines_entries [] = refl
  lines_entries (r ∷ records) = line_entry r (lines_of record_document records) ∙ ap (λ l. bytes_of r ∷ l) (lines_entries records)

  lines_proper : (records : List (Record N O)) → AllByRecursion IsShown records → AllByRecursion IsProper (lines_of record_document records)
  lines_proper [] h = tt
  lines_proper (r ∷ records) h = all_of IsProper (record_document r ++ newline ∷ []) (lines_of record_document records) (line_is_proper r h.0) (lines_proper records h.1)

  lines_formed : (records : List (Record N O)) → AllByRecursion IsShown records → IsWellFormed (lines_of record_document records)
  lines_formed records h = (nested_lines record_document record_nests records, lines_proper records h)

-- ---- one entry for each record

pub record IsEntryOf {N O : Type 0} (r : Record N O) (e : TextEntry) : Type 0 where
  pub blank : e.begins_blank ≡ false
  pub tokens : ArePrinted (record_tokens r) e.tokens
  pub end : EndOfEntry
  pub ends : e.end ≡ Ok end

abbrev pub AreEntriesOf : {N O : Type 0} → List (Record N O) → List TextEntry → Type 0
AreEntriesOf [] [] = ⊤
AreEntriesOf [] (e ∷ entries) = ⊥
AreEntriesOf (r ∷ records) [] = ⊥
AreEntriesOf (r ∷ records) (e ∷ entries) = IsEntryOf r e × AreEntriesOf records entries

-- an entry without tokens doesn't count
none_counts : (e : TextEntry) → IsSoundEntry e → spelled_tokens e ≡ [] → filter entry_counts (e ∷ []) ≡ []
none_counts e s none = by e.begins_blank e.tokens e.end s.ends none
  where
    by : (b : Bool) (tokens : List TokenSeen) (stop : _) → stop ≡ Ok s.end → map spelled tokens ≡ [] → filter entry_counts (record { begins_blank = b; tokens = tokens; end = stop } ∷ []) ≡ []
    by b [] (Ok x) is h = refl
    by b [] (Err f) is h = cc
    by b (t ∷ ts) stop is h = cc

-- and one with tokens does
some_counts : (e : TextEntry) (entries : List TextEntry) (first : List ℕ) (rest : List (List ℕ)) → spelled_tokens e ≡ first ∷ rest → filter entry_counts (e ∷ entries) ≡ e ∷ filter entry_counts entries
some_counts e entries first rest is = by e.begins_blank e.tokens e.end is
  where
    by : (b : Bool) (tokens : List TokenSeen) (stop : _) → map spelled tokens ≡ first ∷ rest
        → filter entry_counts (record { begins_blank = b; tokens = tokens; end = stop } ∷ entries) ≡ record { begins_blank = b; tokens = tokens; end = stop } ∷ filter entry_counts entries
    by b [] stop h = cc
    by b (t ∷ ts) stop h = refl

module _ {N O : Type 0} where
  entries_of : (records : List (Record N O)) (entries : List TextEntry) → AllByRecursion IsShown records → AllByRecursion IsSoundEntry entries → map spelled_tokens entries ≡ map bytes_of records ++ [] ∷ []
      → AreEntriesOf records (filter entry_counts entries)
  entries_of [] [] h s is = cc
  entries_of [] (e ∷ []) h s is = let none : spelled_tokens e ≡ [] = cc in subst (AreEntriesOf {N = N} {O = O} []) (sym (none_counts e s.0 none)) tt
  entries_of [] (e ∷ f ∷ entries) h s is = cc
  entries_of (r ∷ records) [] h s is = cc
  entries_of (r ∷ records) (e ∷ entries) h s is =
      let first : spelled_tokens e ≡ bytes_of r = cc in
      let rest : map spelled_tokens entries ≡ map bytes_of records ++ [] ∷ [] = cc in
      let own : IsEntryOf r e = record { blank = s.0.blank; tokens = are_printed (record_tokens r) e.tokens (record_is_well r h.0) s.0.tokens first; end = s.0.end; ends = s.0.ends } in
      subst (AreEntriesOf (r ∷ records)) (sym (some_counts e entries _ _ first)) (own, entries_of records entries h.1 s.1 rest)

  pub text_splits : (kind : DisplayKind) (records : List (Record N O)) → AllByRecursion IsShown records → Splits (records_text kind records) (document_entries (lines_of record_document records))
  text_splits kind records shown = laid_splits _ _ (printed_laid kind (lines_of record_document records) (lines_formed records shown)).0

  -- the entries with tokens, of a text of records that is seen
  pub entries_of_text : (kind : DisplayKind) (records : List (Record N O)) (entries : List TextEntry) → AllByRecursion IsShown records → AreOctets (records_text kind records) → IsSeen (records_text kind records) (parts_of_entries entries)
      → AreEntriesOf records (filter entry_counts entries)
  entries_of_text kind records entries shown are seen =
      let text : List ℕ = records_text kind records in
      let laid = printed_laid kind (lines_of record_document records) (lines_formed records shown) in
      let found = pieces 0 0 (begins_blank laid.0.ls) laid.0.ls in
      let splits = text_splits kind records shown in
      let placed : IsPieces text found = record { lexemes = laid.0.ls; spelled = laid.0.spelled; valid = laid.0.valid; nested = laid.0.nested; placed = refl } in
      let given : AreItemsOf text (map Ok found) = (given_alike text (splits_utf8 text _ splits) are (map Ok found)).0 (inl (record { found = found; is = refl; placed = placed })) in
      let parts : Parts = seen_from text 0 None (map Ok found) in
      let same : parts ≡ parts_of_entries entries = seen_once text parts (parts_of_entries entries) (map Ok found, given, refl) seen in
      let sound : AllByRecursion IsSound (parts_of_entries entries) = subst (AllByRecursion IsSound) same (all_sound text laid.0.ls laid.0.spelled laid.0.valid laid.0.nested laid.2 laid.3) in
      let all : List TextEntry = regrouped (parts_of_entries entries) in
      let is : map spelled_tokens all ≡ map bytes_of records ++ [] ∷ [] = regrouped_spelled (parts_of_entries entries) sound ∙ text_entries text _ (parts_of_entries entries) are splits seen ∙ lines_entries records in
      subst (AreEntriesOf records) (counted_again entries sound) (entries_of records all shown (sound_entries (parts_of_entries entries) sound) is)
