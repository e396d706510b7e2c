-- What is seen of the entries of a text, part by part.
use Rattle.std.proofs.Common.{ℕ, ◌≡◌, Bool, true, false, List, [], ◌∷◌, ◌++◌, refl, sym, ap, ◌∙◌, subst, append_assoc, append-nil, Result, Ok, Err}
use Rattle.std.specs.Prelude.{map}
use Rattle.std.specs.List.{filter}
use Rattle.dns_lexer.specs.declared.pieces.EndOfEntry.{EndOfEntry}
use Rattle.dns_lexer.specs.declared.pieces.Fault.{Fault}
use Rattle.dns_lexer.specs.EntryTokens.{BeginsToken, EndIs, IsOpen, IsSeen, IsSeenFrom, TokenIs}
use Rattle.dns_lexer.specs.Pieces.{AreOctets}
use Rattle.dns_lexer.proofs.Standings.{entry_left, given_left}
use Rattle.zone_reader.specs.Source.{SourceSeen, StartsAfterLine, parts_after_unread, parts_after_tokens, tokens_first}
use Rattle.zone_reader.specs.TextEntries.{IsSeenPastFaults, TextEntry, at_start, behind_fault, counts_with, entry_counts, parts_of_entries}
use Rattle.zone_reader.proofs.SeenParts.{Parts}
use Rattle.zone_reader.proofs.Passing.{ends_of}

-- ---- entries without tokens

abbrev pub empty_entry : EndOfEntry → TextEntry
empty_entry e = record { begins_blank = e.begins_blank; tokens = []; end = Ok e }

pub empty_parts : (ends : List EndOfEntry) → parts_of_entries (map empty_entry ends) ≡ ends_of ends
empty_parts [] = refl
empty_parts (e ∷ ends) = ap (λ l. Ok (EndIs e) ∷ l) (empty_parts ends)

pub empty_pass : (ends : List EndOfEntry) → filter entry_counts (map empty_entry ends) ≡ []
empty_pass [] = refl
empty_pass (e ∷ ends) = empty_pass ends

-- ---- the tokens of an entry

pub open_parts : (blank : Bool) (parts : Parts) → IsOpen blank parts → parts ≡ map (λ t. Ok (TokenIs t blank)) (tokens_first parts) ++ parts_after_tokens parts
open_parts blank [] o = absurd o
open_parts blank (Ok (TokenIs t b) ∷ parts) o = ap (λ c. Ok (TokenIs t c) ∷ parts) o.0 ∙ ap (λ l. Ok (TokenIs t blank) ∷ l) (open_parts blank parts o.1)
open_parts blank (Ok (EndIs e) ∷ parts) o = refl
open_parts blank (Err f ∷ parts) o = refl

pub tokens_count : (parts : Parts) (end : Result EndOfEntry Fault) → BeginsToken parts → counts_with (tokens_first parts) end ≡ true
tokens_count [] end h = absurd h
tokens_count (Ok (TokenIs t b) ∷ parts) end h = refl
tokens_count (Ok (EndIs e) ∷ parts) end h = absurd h
tokens_count (Err f ∷ parts) end h = absurd h

pub closed_left : (s : SourceSeen) → s.is_open ≡ false → parts_after_unread s ≡ s.parts
closed_left s = go s.is_open
  where
    go : (b : Bool) → b ≡ false → parts_after_unread (record { began = s.began; is_open = b; taken = s.taken; parts = s.parts }) ≡ s.parts
    go false e = refl
    go true e = cc

-- ---- what is seen past syntax errors

pub seen_from_start : (octets : List ℕ) (parts : Parts) → AreOctets octets → IsSeen octets parts → IsSeenFrom octets 0 parts
seen_from_start octets parts o s = (s.0, entry_left octets 0 o s.0 (given_left octets s.0 o s.1), s.2)

pub seen_at_start : (octets : List ℕ) (parts : Parts) → AreOctets octets → IsSeen octets parts → IsSeenPastFaults octets [] parts
seen_at_start octets parts o s = record {
  passed = [];
  front = [];
  at = 0;
  goes_on = at_start;
  from = seen_from_start octets parts o s;
  seen_are = refl;
}

pub seen_more : (octets : List ℕ) (seen more left : Parts) → IsSeenPastFaults octets seen (more ++ left) → IsSeenPastFaults octets (seen ++ more) left
seen_more octets seen more left s = record {
  passed = s.passed;
  front = s.front ++ more;
  at = s.at;
  goes_on = s.goes_on;
  from = subst (IsSeenFrom octets s.at) (sym (append_assoc s.front more left)) s.from;
  seen_are = ap (λ l. l ++ more) s.seen_are ∙ append_assoc s.passed s.front more;
}

-- reading continues after the line of a syntax error
pub seen_past : (octets : List ℕ) (seen more : Parts) (fault : Fault) (s : SourceSeen) → IsSeenPastFaults octets seen (more ++ Err fault ∷ []) → StartsAfterLine octets fault.at s
    → IsSeenPastFaults octets (seen ++ (more ++ Err fault ∷ [])) s.parts
seen_past octets seen more fault s old behind =
    let front : Parts = old.front ++ more in
    let cut : old.front ++ (more ++ Err fault ∷ []) ≡ front ++ Err fault ∷ [] = sym (append_assoc old.front more (Err fault ∷ [])) in
    record {
      passed = old.passed ++ (front ++ Err fault ∷ []);
      front = [];
      at = s.began;
      goes_on = behind_fault old.passed front old.at s.began fault old.goes_on (subst (IsSeenFrom octets old.at) cut old.from) (record { within = behind.within; behind = behind.behind });
      from = behind.parts;
      seen_are = ap (λ l. l ++ (more ++ Err fault ∷ [])) old.seen_are ∙ append_assoc old.passed old.front (more ++ Err fault ∷ []) ∙ ap (λ l. old.passed ++ l) cut
          ∙ sym (append-nil (old.passed ++ (front ++ Err fault ∷ [])));
    }
