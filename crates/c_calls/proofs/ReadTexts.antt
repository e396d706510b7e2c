-- The result of parsing a text of data, by what comes after its tokens.
use Rattle.std.proofs.Common.{ℕ, ◌≡◌, true, false, List, [], ◌∷◌, ◌++◌, refl, sym, ap, ◌∙◌, Option, Some, None, Result, Ok, Err}
use Rattle.std.specs.Prelude.{map}
use Rattle.rdata_fields.specs.Source.{next_place}
use Rattle.rdata_fields.specs.RecordErrors.{error_of_fault}
use Rattle.rdata_fields.specs.declared.record_error.RecordError.{RecordError}
use Rattle.rdata_values.specs.declared.types.RecordType.{RecordType}
use Rattle.dns_lexer.specs.EntryTokens.{BeginsToken, EndIs, TokenIs}
use Rattle.dns_lexer.specs.declared.pieces.EndOfEntry.{EndOfEntry}
use Rattle.dns_lexer.specs.declared.pieces.Fault.{Fault}
use Rattle.zone_reader.specs.Source.{BeginsEntry, FinishesEntry, SourceSeen, parts_after_unread, entry_end, unread_entry_tokens, tokens_first}
use Rattle.zone_reader.specs.declared.source.StartOfEntry.{StartOfEntry}
use Rattle.zone_reader.proofs.Kept.{rest_kept}
use Rattle.zone_reader.proofs.SeenParts.{Parts}
use Rattle.zone_reader.proofs.StepsSeen.{open_left}
use Rattle.zone_reader.proofs.TextParts.{closed_left}
use Rattle.c_calls.specs.DataText.{answer_before, answered, data_answer, in_data, on_next_line, trailing_token}

before_ends : (rtype : RecordType) (octets : List ℕ) (ends : List EndOfEntry) (parts : Parts) → answer_before rtype octets (map (λ e. Ok (EndIs e)) ends ++ parts) ≡ answer_before rtype octets parts
before_ends rtype octets [] parts = refl
before_ends rtype octets (e ∷ ends) parts = before_ends rtype octets ends parts

module _ (rtype : RecordType) (octets : List ℕ) (old new : SourceSeen) (closed : old.is_open ≡ false) where
  behind : (result : Result (Option StartOfEntry) Fault) → BeginsEntry old result new → answer_before rtype octets old.parts ≡ answer_before rtype octets new.parts
  behind result b = ap (answer_before rtype octets) (sym (closed_left old closed) ∙ b.passed) ∙ before_ends rtype octets b.ends new.parts

  -- nothing comes after the entry; or a syntax error does; or a token
  pub behind_none : BeginsEntry old (Ok None) new → Ok octets ≡ answer_before rtype octets old.parts
  behind_none b = sym (behind (Ok None) b ∙ ap (answer_before rtype octets) b.start.1)

  pub behind_fault : (f : Fault) → BeginsEntry old (Err f) new → Err (in_data (error_of_fault f)) ≡ answer_before rtype octets old.parts
  behind_fault f b = sym (behind (Err f) b ∙ ap (answer_before rtype octets) b.start.1)

  first_token : (parts : Parts) (end : ℕ) → BeginsToken parts → answer_before rtype octets parts ≡ Err (on_next_line (trailing_token rtype (next_place (tokens_first parts) end)))
  first_token [] end b = absurd b
  first_token (Ok (TokenIs t b) ∷ parts) end h = refl
  first_token (Ok (EndIs e) ∷ parts) end h = absurd h
  first_token (Err f ∷ parts) end h = absurd h

  pub behind_token : (start : StartOfEntry) (at : ℕ) → BeginsEntry old (Ok (Some start)) new → at ≡ next_place (unread_entry_tokens new) (entry_end new).at
      → Err (on_next_line (trailing_token rtype at)) ≡ answer_before rtype octets old.parts
  behind_token start at b place =
      let here : at ≡ next_place (tokens_first new.parts) (entry_end new).at = place ∙ ap (λ l. next_place l (entry_end new).at) (open_left new b.start.0).0 in
      ap (λ n. Err (on_next_line (trailing_token rtype n))) here ∙ sym (first_token new.parts (entry_end new).at b.start.3) ∙ sym (behind (Ok (Some start)) b)

module _ (rtype : RecordType) (read : Result (Unit {0}) RecordError) (octets : List ℕ) (begun middle : SourceSeen) (opened : begun.is_open ≡ true) (ends : entry_end middle ≡ entry_end begun) where
  -- an entry that is open has an end
  pub no_end : (after : SourceSeen) → FinishesEntry middle (Ok None) after → ⊥
  no_end after h = let no : true ≡ false = sym (rest_kept begun middle ends opened).0 ∙ h.0 in cc

  pub ended : (end : EndOfEntry) (after : SourceSeen) → FinishesEntry middle (Ok (Some end)) after → parts_after_unread begun ≡ Ok (EndIs end) ∷ after.parts
  ended end after h = sym (rest_kept begun middle ends opened).1 ∙ h.1

-- a syntax error that cuts off the entry is returned, whether or not its data is rejected
pub faulted : (rtype : RecordType) (read : Result (Unit {0}) RecordError) (octets : List ℕ) (begun middle after : SourceSeen) → begun.is_open ≡ true → entry_end middle ≡ entry_end begun → (f : Fault) → FinishesEntry middle (Err f) after
    → (e : RecordError) → e ≡ error_of_fault f → Err (in_data e) ≡ data_answer rtype read octets (parts_after_unread begun)
faulted rtype (Ok u) octets begun middle after opened ends f h e is = ap (λ x. Err (in_data x)) is ∙ sym (ap (data_answer rtype (Ok u) octets) (sym (rest_kept begun middle ends opened).1 ∙ h.1))
faulted rtype (Err r) octets begun middle after opened ends f h e is = ap (λ x. Err (in_data x)) is ∙ sym (ap (data_answer rtype (Err r) octets) (sym (rest_kept begun middle ends opened).1 ∙ h.1))

-- after an entry that ended, the result is that of what comes after it
pub read_ended : (rtype : RecordType) (u : Unit {0}) (octets : List ℕ) (begun middle after : SourceSeen) → begun.is_open ≡ true → entry_end middle ≡ entry_end begun → (x : Option EndOfEntry) → FinishesEntry middle (Ok x) after
    → answer_before rtype octets after.parts ≡ data_answer rtype (Ok u) octets (parts_after_unread begun)
read_ended rtype u octets begun middle after opened ends None h = absurd (no_end rtype (Ok u) octets begun middle opened ends after h)
read_ended rtype u octets begun middle after opened ends (Some end) h = sym (ap (data_answer rtype (Ok u) octets) (ended rtype (Ok u) octets begun middle opened ends end after h))

-- without an entry, nothing comes after it
pub nothing_after : (rtype : RecordType) (read : Result (Unit {0}) RecordError) (octets : List ℕ) (parts : Parts) → parts ≡ [] → answered read octets ≡ data_answer rtype read octets parts
nothing_after rtype (Ok u) octets parts none = sym (ap (data_answer rtype (Ok u) octets) none)
nothing_after rtype (Err e) octets parts none = sym (ap (data_answer rtype (Err e) octets) none)

-- if data is rejected, what comes after an entry that ended doesn't matter
pub refused_ended : (rtype : RecordType) (e : RecordError) (octets : List ℕ) (begun middle after : SourceSeen) → begun.is_open ≡ true → entry_end middle ≡ entry_end begun → (x : Option EndOfEntry)
    → FinishesEntry middle (Ok x) after → Err (in_data e) ≡ data_answer rtype (Err e) octets (parts_after_unread begun)
refused_ended rtype e octets begun middle after opened ends None h = absurd (no_end rtype (Err e) octets begun middle opened ends after h)
refused_ended rtype e octets begun middle after opened ends (Some end) h = sym (ap (data_answer rtype (Err e) octets) (ended rtype (Err e) octets begun middle opened ends end after h))
