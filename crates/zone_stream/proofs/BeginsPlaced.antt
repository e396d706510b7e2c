-- The first entry of octets is begun.
use Rattle.std.proofs.Common.{◌≡◌, ℕ, ◌+◌, ◌<◌, ◌≤◌, ◌^◌, Bool, true, false, List, [], ◌∷◌, ◌++◌, length, refl, sym, ap, ◌∙◌, subst, arith}
use Rattle.std.specs.Prelude.{⊤, if◌then◌else◌, map, Option, Some, None, Result, Ok, Err}
use Rattle.dns_lexer.specs.declared.pieces.EndOfEntry.{EndOfEntry}
use Rattle.dns_lexer.specs.declared.pieces.Fault.{Fault}
use Rattle.dns_lexer.specs.declared.pieces.Piece.{Piece}
use Rattle.dns_lexer.specs.declared.pieces.Piece.TheVariants.{Word as WordAt, Quote as QuoteAt, Comment as CommentAt, End as EndAt}
use Rattle.dns_lexer.specs.EntryTokens.{BeginsToken, EndIs, IsSeen, PartSeen, TokenIs, TokenSeen, seen_from}
use Rattle.dns_lexer.specs.Pieces.{EachWithin}
use Rattle.dns_lexer.specs.CursorStates.{blank_at}
use Rattle.dns_lexer.proofs.OctetsOnce.{given_once}
use Rattle.zone_reader.specs.declared.source.StartOfEntry.{StartOfEntry}
use Rattle.zone_reader.specs.Source.{BeginsEntry, IsAtStart, SourceSeen, parts_after_tokens, end_first, unread_entry_tokens, last_end, stop_place, tokens_first}
use Rattle.zone_reader.specs.FirstEntry.{StopsFirst, piece_tokens, stop_offset}
use Rattle.zone_reader.specs.TapeSource.{tokens_after}
use Rattle.zone_stream.specs.First.{parts_of}
use Rattle.zone_stream.specs.Placed.{BeginsPlaced, EachFitsFrom, FitsFrom, NothingRemains, placed_after}
use Rattle.zone_stream.proofs.Stops.{seen_end, seen_fault}

abbrev Parts : Type 0
Parts = List (Result PartSeen Fault)

abbrev ends_of : List EndOfEntry → Parts
ends_of ends = map (λ e. Ok (EndIs e)) ends

-- ---- offsets are within the octets

abbrev PartsWithin : ℕ → Parts → Type 0
PartsWithin n [] = ⊤
PartsWithin n (Ok (TokenIs t b) ∷ parts) = (t.at ≤ n) × PartsWithin n parts
PartsWithin n (Ok (EndIs e) ∷ parts) = (e.at ≤ n) × PartsWithin n parts
PartsWithin n (Err f ∷ parts) = (f.at ≤ n) × PartsWithin n parts

seen_within : (n : ℕ) (octets : List ℕ) (began : ℕ) (ended : Option ℕ) (given : List (Result Piece Fault)) → EachWithin n given → PartsWithin n (seen_from octets began ended given)
seen_within n octets began ended [] w = tt
seen_within n octets began ended (Ok (WordAt p) ∷ given) w = (omega (arith, w.0.0, w.0.1), seen_within n octets began (Some p.end) given w.1)
seen_within n octets began ended (Ok (QuoteAt p) ∷ given) w = (omega (arith, w.0.0, w.0.1), seen_within n octets began (Some p.end) given w.1)
seen_within n octets began ended (Ok (CommentAt p) ∷ given) w = seen_within n octets began ended given w.1
seen_within n octets began ended (Ok (EndAt e) ∷ given) w = (w.0, seen_within n octets e.at None given w.1)
seen_within n octets began ended (Err f ∷ given) w = (w.0, seen_within n octets began ended given w.1)

behind_ends : (n began : ℕ) (ends : List EndOfEntry) (parts : Parts) → began ≤ n → PartsWithin n (ends_of ends ++ parts) → (last_end began ends ≤ n) × PartsWithin n parts
behind_ends n began [] parts b w = (b, w)
behind_ends n began (e ∷ ends) parts b w = behind_ends n e.at ends parts w.0 w.1

fits_tokens : (base n : ℕ) (parts : Parts) → base + n < 2 ^ 64 → PartsWithin n parts → EachFitsFrom base (tokens_first parts)
fits_tokens base n [] room w = tt
fits_tokens base n (Ok (TokenIs t b) ∷ parts) room w = (omega (arith, room, w.0), fits_tokens base n parts room w.1)
fits_tokens base n (Ok (EndIs e) ∷ parts) room w = tt
fits_tokens base n (Err f ∷ parts) room w = tt

fits_end : (n began : ℕ) (parts : Parts) → began ≤ n → PartsWithin n parts → end_first began (parts_after_tokens parts) ≤ n
fits_end n began [] b w = b
fits_end n began (Ok (TokenIs t c) ∷ parts) b w = fits_end n began parts b w.1
fits_end n began (Ok (EndIs e) ∷ parts) b w = w.0
fits_end n began (Err f ∷ parts) b w = w.0

abbrev source_of : ℕ → Bool → Parts → SourceSeen
source_of began is_open parts = record { began = began; is_open = is_open; taken = None; parts = parts }

fits_source : (base n began : ℕ) (is_open : Bool) (parts : Parts) → base + n < 2 ^ 64 → began ≤ n → PartsWithin n parts → FitsFrom base (source_of began is_open parts)
fits_source base n began true parts room b w = record { tokens = fits_tokens base n parts room w; end = omega (arith, room, fits_end n began parts b w) }
fits_source base n began false parts room b w = record { tokens = tt; end = omega (arith, room, b) }

-- ---- the tokens, and the parts after them

first_tokens : (b : Bool) (tokens : List TokenSeen) (behind : Parts) → tokens_first behind ≡ [] → tokens_first (parts_of b tokens ++ behind) ≡ tokens
first_tokens b [] behind h = h
first_tokens b (t ∷ tokens) behind h = ap (λ l. t ∷ l) (first_tokens b tokens behind h)

behind_first : (b : Bool) (tokens : List TokenSeen) (behind : Parts) → parts_after_tokens (parts_of b tokens ++ behind) ≡ parts_after_tokens behind
behind_first b [] behind = refl
behind_first b (t ∷ tokens) behind = behind_first b tokens behind

abbrev HasSeen : SourceSeen → List TokenSeen → ℕ → Type 0
HasSeen s tokens at = (unread_entry_tokens s ≡ tokens) × (stop_place s ≡ at)

open_seen : (began : ℕ) (is_open : Bool) (parts behind : Parts) (b : Bool) (tokens : List TokenSeen) (at : ℕ) → is_open ≡ true → parts ≡ parts_of b tokens ++ behind → tokens_first behind ≡ []
    → end_first began (parts_after_tokens behind) ≡ at → HasSeen (source_of began is_open parts) tokens at
open_seen began true parts behind b tokens at o e none h = (ap tokens_first e ∙ first_tokens b tokens behind none, ap (λ l. end_first began (parts_after_tokens l)) e ∙ ap (end_first began) (behind_first b tokens behind) ∙ h)
open_seen began false parts behind b tokens at o e none h = cc

closed_seen : (began : ℕ) (is_open : Bool) (parts : Parts) (at : ℕ) → is_open ≡ false → began ≡ at → HasSeen (source_of began is_open parts) [] at
closed_seen began false parts at o h = (refl, h)
closed_seen began true parts at o h = cc

abbrev Started : Type 0
Started = Result (Option StartOfEntry) Fault

started : (r : Started) (s : SourceSeen) → IsAtStart r s → IsAtStart r (source_of s.began s.is_open s.parts)
started (Ok (Some start)) s h = (h.0, h.1, h.2, h.3, refl)
started (Ok None) s h = h
started (Err f) s h = h

-- if a token comes first, no end was skipped before it
token_begun : (began first : ℕ) (is_open : Bool) (parts behind : Parts) (ends : List EndOfEntry) (b : Bool) (t : TokenSeen) (tokens : List TokenSeen) (at : ℕ) (r : Started)
    → Ok (TokenIs t b) ∷ (parts_of b tokens ++ behind) ≡ ends_of ends ++ parts → IsAtStart r (source_of began is_open parts) → tokens_first behind ≡ []
    → end_first began (parts_after_tokens behind) ≡ at → HasSeen (source_of began is_open parts) (t ∷ tokens) at
token_begun began first is_open parts behind (e ∷ ends) b t tokens at r eq h none k = cc
token_begun began first is_open parts behind [] b t tokens at (Ok (Some start)) eq h none k = open_seen began is_open parts behind b (t ∷ tokens) at h.0 (sym eq) none k
token_begun began first is_open parts behind [] b t tokens at (Ok None) eq h none k = let no : Ok (TokenIs t b) ∷ (parts_of b tokens ++ behind) ≡ [] = eq ∙ h.1 in cc
token_begun began first is_open parts behind [] b t tokens at (Err f) eq h none k = let no : Ok (TokenIs t b) ∷ (parts_of b tokens ++ behind) ≡ Err f ∷ [] = eq ∙ h.1 in cc

-- a syntax error comes first
fault_begun : (began : ℕ) (is_open : Bool) (parts : Parts) (ends : List EndOfEntry) (f : Fault) (r : Started)
    → Err f ∷ [] ≡ ends_of ends ++ parts → IsAtStart r (source_of began is_open parts) → HasSeen (source_of began is_open parts) [] f.at
fault_begun began is_open parts (e ∷ ends) f r eq h = cc
fault_begun began is_open parts [] f (Ok (Some start)) eq h = elim (subst BeginsToken (sym eq) h.3) [ ]
fault_begun began is_open parts [] f (Ok None) eq h = let no : Err f ∷ [] ≡ [] = eq ∙ h.1 in cc
fault_begun began is_open parts [] f (Err g) eq h = open_seen began is_open parts (Err f ∷ []) false [] f.at h.0 (sym eq) refl refl

-- an end comes first, and nothing after it, or the end of an entry without octets
nothing_begun : (began : ℕ) (is_open : Bool) (parts : Parts) (at : ℕ) (r : Started) → [] ≡ parts → began ≡ at → IsAtStart r (source_of began is_open parts) → HasSeen (source_of began is_open parts) [] at
nothing_begun began is_open parts at (Ok (Some start)) eq k h = elim (subst BeginsToken (sym eq) h.3) [ ]
nothing_begun began is_open parts at (Ok None) eq k h = closed_seen began is_open parts at h.0 k
nothing_begun began is_open parts at (Err g) eq k h = let no : [] ≡ Err g ∷ [] = eq ∙ h.1 in cc

end_not_first : (began : ℕ) (is_open : Bool) (parts left : Parts) (e : EndOfEntry) (r : Started) → Ok (EndIs e) ∷ left ≡ parts → IsAtStart r (source_of began is_open parts) → ⊥
end_not_first began is_open parts left e (Ok (Some start)) eq h = elim (subst BeginsToken (sym eq) h.3) [ ]
end_not_first began is_open parts left e (Ok None) eq h = let no : Ok (EndIs e) ∷ left ≡ [] = eq ∙ h.1 in cc
end_not_first began is_open parts left e (Err g) eq h = let no : Ok (EndIs e) ∷ left ≡ Err g ∷ [] = eq ∙ h.1 in cc

last_begun : (began first : ℕ) (is_open : Bool) (parts : Parts) (ends : List EndOfEntry) (end : EndOfEntry) (r : Started)
    → Ok (EndIs end) ∷ [] ≡ ends_of ends ++ parts → began ≡ last_end first ends → IsAtStart r (source_of began is_open parts) → HasSeen (source_of began is_open parts) [] end.at
last_begun began first is_open parts [] end r eq k h = absurd (end_not_first began is_open parts [] end r eq h)
last_begun began first is_open parts (e ∷ []) end r eq k h =
    let same : e ≡ end = cc in
    let none : [] ≡ parts = cc in
    nothing_begun began is_open parts end.at r none (k ∙ ap (λ (x : EndOfEntry). x.at) same) h
last_begun began first is_open parts (e ∷ g ∷ ends) end r eq k h = cc

end_begun : (began first : ℕ) (is_open : Bool) (parts : Parts) (ends : List EndOfEntry) (end other : EndOfEntry) (r : Started)
    → Ok (EndIs end) ∷ Ok (EndIs other) ∷ [] ≡ ends_of ends ++ parts → began ≡ last_end first ends → IsAtStart r (source_of began is_open parts) → HasSeen (source_of began is_open parts) [] other.at
end_begun began first is_open parts [] end other r eq k h = absurd (end_not_first began is_open parts (Ok (EndIs other) ∷ []) end r eq h)
end_begun began first is_open parts (e ∷ ends) end other r eq k h =
    let left : Ok (EndIs other) ∷ [] ≡ ends_of ends ++ parts = cc in
    last_begun began e.at is_open parts ends other r left k h

abbrev behind_stop : List ℕ → Result EndOfEntry Fault → List (Result Piece Fault) → Parts
behind_stop octets (Ok end) left = Ok (EndIs end) ∷ seen_from octets end.at None left
behind_stop octets (Err f) left = Err f ∷ []

-- once an entry is begun: the part of it that is left, up to its end or a syntax error
begun : (octets : List ℕ) (began first n : ℕ) (is_open : Bool) (parts : Parts) (ends : List EndOfEntry) (b : Bool) (tokens : List TokenSeen) (r : Started) (stop : Result EndOfEntry Fault) (left : List (Result Piece Fault))
    → parts_of b tokens ++ behind_stop octets stop left ≡ ends_of ends ++ parts → began ≡ last_end first ends → IsAtStart r (source_of began is_open parts) → NothingRemains n stop left
    → HasSeen (source_of began is_open parts) tokens (stop_offset stop)
begun octets began first n is_open parts ends b (t ∷ tokens) r (Ok end) left eq k h a = token_begun began first is_open parts (Ok (EndIs end) ∷ seen_from octets end.at None left) ends b t tokens end.at r eq h refl refl
begun octets began first n is_open parts ends b (t ∷ tokens) r (Err f) left eq k h a = token_begun began first is_open parts (Err f ∷ []) ends b t tokens f.at r eq h refl refl
begun octets began first n is_open parts ends b [] r (Err f) left eq k h a = fault_begun began is_open parts ends f r eq h
begun octets began first n is_open parts ends b [] r (Ok end) [] eq k h a = last_begun began first is_open parts ends end r eq k h
begun octets began first n is_open parts ends b [] r (Ok end) (x ∷ left) eq k h a =
    let seen : seen_from octets end.at None (x ∷ left) ≡ Ok (EndIs (record { at = n; begins_blank = false })) ∷ [] = ap (seen_from octets end.at None) a.1 in
    let s = end_begun began first is_open parts ends end (record { at = n; begins_blank = false }) r (ap (λ l. Ok (EndIs end) ∷ l) (sym seen) ∙ eq) k h in
    (s.0, s.1 ∙ sym a.0)

module _ (octets : List ℕ) (base : ℕ) (s : SourceSeen) (r : Started) (t : SourceSeen) (seen : IsSeen octets s.parts) (closed : s.is_open ≡ false) (from : s.began ≡ 0) (begins : BeginsEntry s r t) where
  passed : s.parts ≡ ends_of begins.ends ++ t.parts
  passed = sym (ap (λ o. if o then parts_after_tokens s.parts else s.parts) closed) ∙ begins.passed

  pub fits_begun : base + length octets < 2 ^ 64 → FitsFrom base t
  fits_begun room =
      let all = subst (PartsWithin (length octets)) (sym seen.2 ∙ passed) (seen_within (length octets) octets 0 None seen.0 seen.1.1) in
      let low : s.began ≤ length octets = omega (arith, from) in
      let w = behind_ends (length octets) s.began begins.ends t.parts low all in
      let at : t.began ≤ length octets = omega (arith, begins.began, w.0) in
      let f = fits_source base (length octets) t.began t.is_open t.parts room at w.1 in
      record { tokens = f.tokens; end = f.end }

  pub begins_placed : BeginsPlaced octets base (placed_after base t)
  begins_placed stop left x a =
      let shape = behind stop left x a in
      let b = begun octets t.began s.began (length octets) t.is_open t.parts begins.ends (blank_at octets 0) (piece_tokens octets None x.found) r stop left (shape ∙ passed) begins.began (started r t begins.start) a in
      (ap (tokens_after base) b.0, ap (λ n. base + n) b.1)
    where
      behind : (stop : Result EndOfEntry Fault) (left : List (Result Piece Fault)) (x : StopsFirst octets stop left) → NothingRemains (length octets) stop left
          → parts_of (blank_at octets 0) (piece_tokens octets None x.found) ++ behind_stop octets stop left ≡ s.parts
      behind (Ok end) left x a = sym (seen_end octets 0 None x.found end left x.is_open) ∙ ap (seen_from octets 0 None) (given_once octets _ seen.0 x.given seen.1) ∙ sym seen.2
      behind (Err f) left x a =
          sym (seen_fault octets 0 None x.found f x.is_open) ∙ ap (λ l. seen_from octets 0 None (map Ok x.found ++ Err f ∷ l)) (sym a)
          ∙ ap (seen_from octets 0 None) (given_once octets _ seen.0 x.given seen.1) ∙ sym seen.2
