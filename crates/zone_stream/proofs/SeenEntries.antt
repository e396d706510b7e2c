-- The entries of parts that are seen, and which of them have tokens.
use Rattle.std.proofs.Common.{◌≡◌, Bool, false, List, [], ◌∷◌, ◌++◌, refl, ap, ◌∙◌}
use Rattle.std.specs.Prelude.{map, Result, Ok, Err}
use Rattle.std.specs.List.{AllByRecursion, filter}
use Rattle.dns_lexer.specs.declared.pieces.EndOfEntry.{EndOfEntry}
use Rattle.dns_lexer.specs.declared.pieces.Fault.{Fault}
use Rattle.dns_lexer.specs.EntryTokens.{EndIs, TokenIs, TokenSeen, entries_seen, spelled}
use Rattle.dns_lexer.specs.Splitting.{with_token}
use Rattle.zone_reader.specs.TextEntries.{TextEntry, end_seen, entry_counts, parts_of_entries, spelled_tokens}
use Rattle.zone_reader.proofs.SeenParts.{Parts}
use Rattle.zone_stream.proofs.LaidTokens.{IsSound, IsSpelledSo}

abbrev entry_with : Bool → List TokenSeen → Result EndOfEntry Fault → TextEntry
entry_with blank tokens end = record { begins_blank = blank; tokens = tokens; end = end }

-- a token that comes before those of the first entry
abbrev with_first : TokenSeen → Bool → List TextEntry → List TextEntry
with_first t b [] = entry_with b (t ∷ []) (Ok (record { at = t.at; begins_blank = b })) ∷ []
with_first t b (e ∷ entries) = entry_with b (t ∷ e.tokens) e.end ∷ entries

abbrev pub regrouped : Parts → List TextEntry
regrouped [] = []
regrouped (Ok (TokenIs t b) ∷ parts) = with_first t b (regrouped parts)
regrouped (Ok (EndIs e) ∷ parts) = entry_with false [] (Ok e) ∷ regrouped parts
regrouped (Err f ∷ parts) = entry_with false [] (Err f) ∷ regrouped parts

-- ---- entries with tokens stay as they were

abbrev blank_if : List TokenSeen → Bool → Bool
blank_if [] b = false
blank_if (t ∷ ts) b = b

one_entry : (b : Bool) (tokens : List TokenSeen) (end : Result EndOfEntry Fault) (rest : Parts)
    → regrouped ((map (λ t. Ok (TokenIs t b)) tokens ++ end_seen end ∷ []) ++ rest) ≡ entry_with (blank_if tokens b) tokens end ∷ regrouped rest
one_entry b [] (Ok e) rest = refl
one_entry b [] (Err f) rest = refl
one_entry b (t ∷ tokens) end rest = ap (with_first t b) (one_entry b tokens end rest)

behind_entry : (front rest : Parts) → AllByRecursion IsSound (front ++ rest) → AllByRecursion IsSound rest
behind_entry [] rest h = h
behind_entry (x ∷ front) rest h = behind_entry front rest h.1

same_counted : (b : Bool) (tokens : List TokenSeen) (end : Result EndOfEntry Fault) (entries others : List TextEntry) (rest : Parts)
    → AllByRecursion IsSound ((map (λ t. Ok (TokenIs t b)) tokens ++ end_seen end ∷ []) ++ rest) → filter entry_counts entries ≡ filter entry_counts others
    → filter entry_counts (entry_with (blank_if tokens b) tokens end ∷ entries) ≡ filter entry_counts (entry_with b tokens end ∷ others)
same_counted b [] (Ok e) entries others rest h same = same
same_counted b [] (Err f) entries others rest h same = absurd h.0
same_counted b (t ∷ tokens) end entries others rest h same = ap (λ l. entry_with b (t ∷ tokens) end ∷ l) same

pub counted_again : (entries : List TextEntry) → AllByRecursion IsSound (parts_of_entries entries) → filter entry_counts (regrouped (parts_of_entries entries)) ≡ filter entry_counts entries
counted_again [] h = refl
counted_again (e ∷ entries) h =
    let rest : Parts = parts_of_entries entries in
    let tokens : Parts = map (λ t. Ok (TokenIs t e.begins_blank)) e.tokens ++ end_seen e.end ∷ [] in
    ap (filter entry_counts) (one_entry e.begins_blank e.tokens e.end rest)
    ∙ same_counted e.begins_blank e.tokens e.end (regrouped rest) entries rest h (counted_again entries (behind_entry tokens rest h))

-- ---- the spellings of their tokens

with_first_spelled : (t : TokenSeen) (b : Bool) (entries : List TextEntry) → map spelled_tokens (with_first t b entries) ≡ with_token (spelled t) (map spelled_tokens entries)
with_first_spelled t b [] = refl
with_first_spelled t b (e ∷ entries) = refl

pub regrouped_spelled : (parts : Parts) → AllByRecursion IsSound parts → map spelled_tokens (regrouped parts) ≡ entries_seen parts
regrouped_spelled [] h = refl
regrouped_spelled (Ok (TokenIs t b) ∷ parts) h = with_first_spelled t b (regrouped parts) ∙ ap (with_token (spelled t)) (regrouped_spelled parts h.1)
regrouped_spelled (Ok (EndIs e) ∷ parts) h = ap (λ l. [] ∷ l) (regrouped_spelled parts h.1)
regrouped_spelled (Err f ∷ parts) h = absurd h.0

-- ---- which entries these are

-- a token that is not adjacent, and is a word or quoted text
abbrev pub IsApart : TokenSeen → Type 0
IsApart t = (t.is_adjacent ≡ false) × IsSpelledSo t

-- an entry that doesn't begin with a blank and has an end, and whose tokens are not adjacent
pub record IsSoundEntry (e : TextEntry) : Type 0 where
  pub blank : e.begins_blank ≡ false
  pub tokens : AllByRecursion IsApart e.tokens
  pub end : EndOfEntry
  pub ends : e.end ≡ Ok end

sound_first : (t : TokenSeen) (b : Bool) (entries : List TextEntry) → (b ≡ false) × (t.is_adjacent ≡ false) × IsSpelledSo t → AllByRecursion IsSoundEntry entries → AllByRecursion IsSoundEntry (with_first t b entries)
sound_first t b [] h s = (record { blank = h.0; tokens = ((h.1, h.2), tt); end = record { at = t.at; begins_blank = b }; ends = refl }, tt)
sound_first t b (e ∷ entries) h s = (record { blank = h.0; tokens = ((h.1, h.2), s.0.tokens); end = s.0.end; ends = s.0.ends }, s.1)

pub sound_entries : (parts : Parts) → AllByRecursion IsSound parts → AllByRecursion IsSoundEntry (regrouped parts)
sound_entries [] h = tt
sound_entries (Ok (TokenIs t b) ∷ parts) h = sound_first t b (regrouped parts) h.0 (sound_entries parts h.1)
sound_entries (Ok (EndIs e) ∷ parts) h = (record { blank = refl; tokens = tt; end = e; ends = refl }, sound_entries parts h.1)
sound_entries (Err f ∷ parts) h = absurd h.0
