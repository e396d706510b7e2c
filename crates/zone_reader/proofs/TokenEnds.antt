-- Tokens that are seen of octets end within these.
use Rattle.std.proofs.Common.{◌≡◌, ℕ, ◌+◌, ◌-◌, ◌<◌, ◌≤◌, ◌^◌, Bool, true, false, List, [], ◌∷◌, ◌++◌, length, drop, sym, ap, ◌∙◌, subst, arith, length-append}
use Rattle.std.specs.Prelude.{⊤, if◌then◌else◌, map, Option, Some, None, Result, Ok, Err}
use Rattle.std.specs.List.{AllByRecursion}
use Rattle.std.specs.Iterator.{YieldsFirstBy}
use Rattle.std.proofs.lemmas.List.{length-drop, length-take}
use Rattle.dns_lexer.specs.declared.pieces.Fault.{Fault}
use Rattle.dns_lexer.specs.declared.pieces.Piece.{Piece}
use Rattle.dns_lexer.specs.declared.pieces.Piece.TheVariants.{Word as WordAt, Quote as QuoteAt, Comment as CommentAt, End as EndAt}
use Rattle.dns_lexer.specs.declared.entry_tokens.EntryPart.TheVariants.{Token as TokenOf, End as EndOf}
use Rattle.dns_lexer.specs.declared.entry_tokens.EntryToken.{EntryToken}
use Rattle.dns_lexer.specs.EntryTokens.{EndIs, IsInEntries, IsSeen, IsSeenFrom, IsAsSpelled, TokenIs, TokenSeen, answer_seen, seen_from, spelled, token_seen}
use Rattle.dns_lexer.specs.Pieces.{EachWithin, between}
use Rattle.dns_lexer.proofs.EntryLaws.{seen_stand}
use Rattle.zone_reader.specs.Source.{IsSourceOf, TokensEnd, token_end}
use Rattle.zone_reader.specs.TextPieces.{seen_later}
use Rattle.zone_reader.proofs.SeenParts.{Next, Parts, looked_at, opens_after, opens_before, with_next}
use Rattle.zone_reader.proofs.RestsSeen.{seen_alone}

abbrev EndsWithin : ℕ → Parts → Type 0
EndsWithin n [] = ⊤
EndsWithin n (Ok (TokenIs t b) ∷ parts) = (token_end t ≤ n) × EndsWithin n parts
EndsWithin n (Ok (EndIs e) ∷ parts) = EndsWithin n parts
EndsWithin n (Err f ∷ parts) = EndsWithin n parts

abbrev BeginsWithin : ℕ → Parts → Type 0
BeginsWithin n [] = ⊤
BeginsWithin n (Ok (TokenIs t b) ∷ parts) = (t.at ≤ n) × BeginsWithin n parts
BeginsWithin n (Ok (EndIs e) ∷ parts) = BeginsWithin n parts
BeginsWithin n (Err f ∷ parts) = BeginsWithin n parts

seen_begin : (n : ℕ) (octets : List ℕ) (began : ℕ) (ended : Option ℕ) (given : List (Result Piece Fault)) → EachWithin n given → BeginsWithin n (seen_from octets began ended given)
seen_begin n octets began ended [] w = tt
seen_begin n octets began ended (Ok (WordAt p) ∷ given) w = (omega (arith, w.0.0, w.0.1), seen_begin n octets began (Some p.end) given w.1)
seen_begin n octets began ended (Ok (QuoteAt p) ∷ given) w = (omega (arith, w.0.0, w.0.1), seen_begin n octets began (Some p.end) given w.1)
seen_begin n octets began ended (Ok (CommentAt p) ∷ given) w = seen_begin n octets began ended given w.1
seen_begin n octets began ended (Ok (EndAt e) ∷ given) w = seen_begin n octets e.at None given w.1
seen_begin n octets began ended (Err f ∷ given) w = seen_begin n octets began ended given w.1

-- the spelling of a token is contained in the octets, so it ends within them
one_ends : (octets : List ℕ) (t : TokenSeen) → t.at ≤ length octets → between octets t.at (token_end t) ≡ spelled t → token_end t ≤ length octets
one_ends octets t within stands =
    let n : ℕ = length (spelled t) in
    let long : length (between octets t.at (t.at + n)) ≡ n = ap length stands in
    let most : length (between octets t.at (t.at + n)) ≤ length octets - t.at = omega (arith, length-take (t.at + n - t.at) (drop t.at octets), length-drop t.at octets) in
    omega (arith, long, most, within)

each_ends : (octets : List ℕ) (parts : Parts) → BeginsWithin (length octets) parts → AllByRecursion (IsAsSpelled octets) parts → EndsWithin (length octets) parts
each_ends octets [] w h = tt
each_ends octets (Ok (TokenIs t b) ∷ parts) w h = (one_ends octets t w.0 h.0, each_ends octets parts w.1 h.1)
each_ends octets (Ok (EndIs e) ∷ parts) w h = each_ends octets parts w h.1
each_ends octets (Err f ∷ parts) w h = each_ends octets parts w h.1

seen_within : (octets : List ℕ) (parts : Parts) → IsSeen octets parts → EndsWithin (length octets) parts
seen_within octets parts s = each_ends octets parts (subst (BeginsWithin (length octets)) (sym s.2) (seen_begin (length octets) octets 0 None s.0 s.1.1)) (seen_stand octets parts s)

-- this number of octets later
later_within : (n at : ℕ) (parts : Parts) → EndsWithin n parts → EndsWithin (at + n) (map (seen_later at) parts)
later_within n at [] w = tt
later_within n at (Ok (TokenIs t b) ∷ parts) w = (omega (arith, w.0), later_within n at parts w.1)
later_within n at (Ok (EndIs e) ∷ parts) w = later_within n at parts w
later_within n at (Err f ∷ parts) w = later_within n at parts w

fits_within : (n : ℕ) (parts : Parts) → n < 2 ^ 64 → EndsWithin n parts → TokensEnd parts
fits_within n [] h w = tt
fits_within n (Ok (TokenIs t b) ∷ parts) h w = (omega (arith, h, w.0), fits_within n parts h w.1)
fits_within n (Ok (EndIs e) ∷ parts) h w = fits_within n parts h w
fits_within n (Err f ∷ parts) h w = fits_within n parts h w

-- the tokens of octets, and those from an offset on
pub seen_end : (octets : List ℕ) (parts : Parts) → length octets < 2 ^ 64 → IsSeen octets parts → TokensEnd parts
seen_end octets parts few s = fits_within (length octets) parts few (seen_within octets parts s)

pub seen_from_end : (octets : List ℕ) (at : ℕ) (parts : Parts) → length octets < 2 ^ 64 → at ≤ length octets → IsSeenFrom octets at parts → TokensEnd parts
seen_from_end octets at parts few within s =
    let a = seen_alone octets at parts s in
    let rest : ℕ = length (drop at octets) in
    let all : EndsWithin (at + rest) parts = subst (EndsWithin (at + rest)) (sym a.2) (later_within rest at a.0 (seen_within (drop at octets) a.0 a.1)) in
    fits_within (at + rest) parts (omega (arith, few, within, length-drop at octets)) all

-- a token's text has the length of its spelling, but for double quotes
long_spelled : (b : Bool) (text : List ℕ) → length (if b then 34 ∷ (text ++ 34 ∷ []) else text) ≡ length text + (if b then 2 else 0)
long_spelled true text = omega (arith, length-append text (34 ∷ []))
long_spelled false text = omega arith

pub quoted_end : (t : TokenSeen) → t.is_quoted ≡ true → token_end t ≡ t.at + length t.text + 2
quoted_end t q = omega (arith, long_spelled t.is_quoted t.text ∙ ap (λ b. length t.text + (if b then 2 else 0)) q)

pub word_end : (t : TokenSeen) → t.is_quoted ≡ false → token_end t ≡ t.at + length t.text
word_end t q = omega (arith, long_spelled t.is_quoted t.text ∙ ap (λ b. length t.text + (if b then 2 else 0)) q)

pub text_before_end : (t : TokenSeen) → t.at + length t.text ≤ token_end t
text_before_end t = omega (arith, long_spelled t.is_quoted t.text)

-- a source of what is left
pub source_starts : (parts : Parts) → TokensEnd parts → IsSourceOf None parts
source_starts parts h = record { opens = tt; ends = h }

module _ (old new : Parts) (next : Next) (looks : YieldsFirstBy answer_seen (λ (left : Parts). left) old next new) where
  -- a part that was read ahead comes first
  pub ends_before : TokensEnd old → TokensEnd (with_next next new)
  ends_before = subst TokensEnd (looked_at old new next looks)

  pub source_goes_on : TokensEnd old → IsInEntries old → IsSourceOf next new
  source_goes_on h i = record { opens = opens_before old new next looks i; ends = ends_before h }

-- the parts after the next one
pub ends_behind : (next : Next) (parts : Parts) → TokensEnd (with_next next parts) → TokensEnd parts
ends_behind None parts h = h
ends_behind (Some (Ok (TokenOf token b))) parts h = h.1
ends_behind (Some (Ok (EndOf e))) parts h = h
ends_behind (Some (Err f)) parts h = h

-- a token that comes next
module _ (now : Next) (token : EntryToken) (b : Bool) (is : now ≡ Some (Ok (TokenOf token b))) (old : Parts) (h : IsSourceOf now old) where
  here : IsSourceOf (Some (Ok (TokenOf token b))) old
  here = subst (λ n. IsSourceOf n old) is h

  pub token_fits : token_end (token_seen token) < 2 ^ 64
  token_fits = here.ends.0

  pub source_after : (new : Parts) (next : Next) → YieldsFirstBy answer_seen (λ (left : Parts). left) old next new → IsSourceOf next new
  source_after new next looks = record { opens = opens_after old new next looks token b here.opens; ends = ends_before old new next looks here.ends.1 }
