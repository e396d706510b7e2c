-- Calls for the entries of a text, one after another.
use Rattle.std.specs.Prelude.{◌≡◌, ◌≢◌, ℕ, ◌<◌, List, [], ◌∷◌, length, map, take, Result, Ok, Err, encode_utf8_all}
use Rattle.dns_octets.specs.Octets.{greatest_length}
use Rattle.dns_lexer.specs.Unclosed.{IsOpener}
use Rattle.dns_lexer.specs.Pieces.{AreOctets, AreItemsOf, between, place_of}
use Rattle.dns_lexer.specs.Splitting.{Entries, Splits}
use Rattle.dns_lexer.specs.declared.pieces.Piece.{Piece}
use Rattle.dns_lexer.specs.declared.pieces.Piece.TheVariants.{Word as WordAt, Quote as QuoteAt, Comment as CommentAt, End as EndAt}
use Rattle.dns_lexer.specs.declared.pieces.Fault.{Fault as TextFault}
use Rattle.c_calls.specs.Entries.{NextEntry, refusal_of_wrong, token_between}
use Rattle.c_calls.specs.Reports.{number_of}
use Rattle.c_calls.specs.declared.outcome.Outcome.{Outcome}
use Rattle.c_calls.specs.declared.outcome.Refusal.TheVariants.{OpenParenthesis}
use Rattle.c_calls.specs.declared.tokens.Token.{Token as TokenAt}
use Rattle.c_calls.specs.declared.tokens.Cursor.{Cursor}

-- what a call returns for an entry: its tokens, a status, and the offset of a syntax error
pub record EntryReport : Type 0 where
  pub tokens : List TokenAt
  pub status : ℕ
  pub place : ℕ

abbrev pub entry_report : List TokenAt → ℕ → ℕ → EntryReport
entry_report ts s p = record { tokens = ts; status = s; place = p }

-- a token before those of the first entry
abbrev pub with_token_before : TokenAt → List EntryReport → List EntryReport
with_token_before t [] = entry_report (t ∷ []) 0 0 ∷ []
with_token_before t (e ∷ es) = entry_report (t ∷ e.tokens) e.status e.place ∷ es

-- the words and quoted texts of a text, cut where entries end; the last entry has the syntax error, if there is one
abbrev pub reported_entries : List (Result Piece TextFault) → List EntryReport
reported_entries [] = []
reported_entries (Ok (WordAt p) ∷ given) = with_token_before (token_between p.start p.end 0) (reported_entries given)
reported_entries (Ok (QuoteAt p) ∷ given) = with_token_before (token_between p.start p.end 1) (reported_entries given)
reported_entries (Ok (CommentAt p) ∷ given) = reported_entries given
reported_entries (Ok (EndAt e) ∷ given) = entry_report [] 0 0 ∷ reported_entries given
reported_entries (Err f ∷ given) = entry_report [] (number_of (refusal_of_wrong f.wrong)) f.at ∷ []

-- a call that found an entry, and on an error had capacity for one token more than it returned; and what it returned
pub record CallReports (text : List ℕ) (old new : Cursor) (entry : EntryReport) : Type 0 where
  pub before : List TokenAt
  pub after : List TokenAt
  pub outcome : Outcome
  pub answers : NextEntry text old new before after entry.status outcome
  pub some : entry.status ≢ 1
  pub slice : length before < greatest_length
  pub fits : entry.status ≢ 0 → outcome.length < length before
  pub tokens : entry.tokens ≡ take outcome.length after
  pub place : entry.place ≡ outcome.place

-- such calls one after another, each from the cursor that the one before left, until the text is done; and the cursor after them
abbrev pub Calls : List ℕ → Cursor → List EntryReport → Cursor → Type 0
Calls text cursor [] last = (cursor.is_done ≢ 0) × (cursor ≡ last)
Calls text cursor (entry ∷ more) last = (new : Cursor) × CallReports text cursor new entry × Calls text new more last

-- the status of the last call
abbrev pub last_status : List EntryReport → ℕ
last_status [] = 0
last_status (entry ∷ []) = entry.status
last_status (entry ∷ next ∷ more) = last_status (next ∷ more)

-- the octets of each token of an entry
abbrev pub token_octets : List ℕ → EntryReport → List (List ℕ)
token_octets text entry = map (λ t. between text t.start t.end) entry.tokens

-- calls from the start of a text on, until it is done, return its entries, or its syntax error
abbrev pub CallsReportEntries : Type 0
CallsReportEntries = (text : List ℕ) (given : List (Result Piece TextFault)) (first last : Cursor) (entries : List EntryReport) → AreOctets text → AreItemsOf text given → first.at ≡ 0
    → first.is_done ≡ 0 → Calls text first entries last → entries ≡ reported_entries given

-- for a text that splits they return the octets of its entries
abbrev pub CallsReportTokens : Type 0
CallsReportTokens = (text : List ℕ) (found : Entries) (first last : Cursor) (entries : List EntryReport) → AreOctets text → Splits text found → first.at ≡ 0
    → first.is_done ≡ 0 → Calls text first entries last → map (token_octets text) entries ≡ found

-- for a text that leaves a parenthesis open they return the offset where the outermost one was opened
abbrev pub CallsReportOpener : Type 0
CallsReportOpener = (text : List ℕ) (first last : Cursor) (entries : List EntryReport) → AreOctets text → first.at ≡ 0 → first.is_done ≡ 0 → Calls text first entries last
    → last_status entries ≡ number_of OpenParenthesis → IsOpener (encode_utf8_all text) (place_of text last.opened)
