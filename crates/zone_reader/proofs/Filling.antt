-- A tape that is filled span by span: the tokens of the pieces so far, and the pieces that are left.
use Rattle.std.proofs.Common.{◌≡◌, ℕ, ◌<◌, ◌≤◌, List, [], ◌∷◌, ◌++◌, length, refl, sym, ap, ◌∙◌, subst, append-nil, append_assoc}
use Rattle.std.specs.Prelude.{map, Option, Some, None, Result, Ok}
use Rattle.std.specs.List.{AllByRecursion}
use Rattle.std.proofs.lemmas.List.{map-append}
use Rattle.dns_lexer.specs.EntryTokens.{IsWide, quote_seen, word_seen}
use Rattle.dns_lexer.specs.PassedLine.{HasNoEnd}
use Rattle.dns_lexer.specs.declared.pieces.EndOfEntry.{EndOfEntry}
use Rattle.dns_lexer.specs.declared.pieces.Fault.{Fault}
use Rattle.dns_lexer.specs.declared.pieces.Piece.{Piece}
use Rattle.dns_lexer.specs.declared.pieces.Piece.TheVariants.{Word as WordAt, Quote as QuoteAt, Comment as CommentAt, End as EndAt}
use Rattle.dns_lexer.specs.Pieces.{EachWithin, AreItemsOf, IsWithin}
use Rattle.dns_lexer.proofs.EntrySpans.{IsQuotedAt, given_quoted, quoted_wide}
use Rattle.zone_reader.specs.FirstEntry.{last_ended, piece_tokens}
use Rattle.zone_reader.specs.Tape.{FillsLine, FillsWith, IsSpanIn, span_token}
use Rattle.zone_reader.specs.declared.tape.TokenSpan.{TokenSpan}

more_tokens : (octets : List ℕ) (ended : Option ℕ) (found : List Piece) (p : Piece) → piece_tokens octets ended (found ++ p ∷ []) ≡ piece_tokens octets ended found ++ piece_tokens octets (last_ended ended found) (p ∷ [])
more_tokens octets ended [] p = refl
more_tokens octets ended (WordAt x ∷ found) p = ap (λ l. word_seen octets ended x ∷ l) (more_tokens octets (Some x.end) found p)
more_tokens octets ended (QuoteAt x ∷ found) p = ap (λ l. quote_seen octets ended x ∷ l) (more_tokens octets (Some x.end) found p)
more_tokens octets ended (CommentAt x ∷ found) p = more_tokens octets ended found p
more_tokens octets ended (EndAt x ∷ found) p = more_tokens octets None found p

more_ended : (ended : Option ℕ) (found : List Piece) (p : Piece) → last_ended ended (found ++ p ∷ []) ≡ last_ended (last_ended ended found) (p ∷ [])
more_ended ended [] p = refl
more_ended ended (WordAt x ∷ found) p = more_ended (Some x.end) found p
more_ended ended (QuoteAt x ∷ found) p = more_ended (Some x.end) found p
more_ended ended (CommentAt x ∷ found) p = more_ended ended found p
more_ended ended (EndAt x ∷ found) p = more_ended None found p

one_more : (found : List Piece) (p : Piece) → HasNoEnd found → HasNoEnd (p ∷ []) → HasNoEnd (found ++ p ∷ [])
one_more [] p h k = k
one_more (WordAt x ∷ found) p h k = one_more found p h k
one_more (QuoteAt x ∷ found) p h k = one_more found p h k
one_more (CommentAt x ∷ found) p h k = one_more found p h k
one_more (EndAt x ∷ found) p h k = elim h [ ]

all_more : (octets : List ℕ) (spans : List TokenSpan) (s : TokenSpan) → AllByRecursion (IsSpanIn octets) spans → IsSpanIn octets s → AllByRecursion (IsSpanIn octets) (spans ++ s ∷ [])
all_more octets [] s h k = (k, tt)
all_more octets (x ∷ spans) s h k = (h.0, all_more octets spans s h.1 k)

-- the pieces of the entry that are found so far, and the spans of their tokens
pub record Filling (octets : List ℕ) (given left : List (Result Piece Fault)) (ended : Option ℕ) (spans : List TokenSpan) : Type 0 where
  pub found : List Piece
  pub is_open : HasNoEnd found
  pub is : given ≡ map Ok found ++ left
  pub ended_is : ended ≡ last_ended None found
  pub tokens : map (span_token octets) spans ≡ piece_tokens octets None found
  pub within : AllByRecursion (IsSpanIn octets) spans

pub begins : (octets : List ℕ) (given : List (Result Piece Fault)) (spans : List TokenSpan) → spans ≡ [] → Filling octets given given None spans
begins octets given [] e = record { found = []; is_open = tt; is = refl; ended_is = refl; tokens = refl; within = tt }
begins octets given (s ∷ spans) e = cc

module _ (octets : List ℕ) (given left now : List (Result Piece Fault)) (ended : Option ℕ) (spans : List TokenSpan) (x : Filling octets given now ended spans) where
  next : (p : Piece) → now ≡ Ok p ∷ left → given ≡ map Ok (x.found ++ p ∷ []) ++ left
  next p e = x.is ∙ ap (λ l. map Ok x.found ++ l) e ∙ sym (append_assoc (map Ok x.found) (Ok p ∷ []) left) ∙ ap (λ l. l ++ left) (sym (map-append Ok x.found (p ∷ [])))

  pub word : (p : Piece) (s : TokenSpan) (new : List TokenSpan) (after : Option ℕ) → now ≡ Ok p ∷ left → HasNoEnd (p ∷ []) → piece_tokens octets ended (p ∷ []) ≡ span_token octets s ∷ [] → IsSpanIn octets s → new ≡ spans ++ s ∷ []
      → after ≡ last_ended ended (p ∷ []) → Filling octets given left after new
  word p s new after e k t w is a = record {
    found = x.found ++ p ∷ [];
    is_open = one_more x.found p x.is_open k;
    is = next p e;
    ended_is = a ∙ ap (λ o. last_ended o (p ∷ [])) x.ended_is ∙ sym (more_ended None x.found p);
    tokens = ap (map (span_token octets)) is ∙ map-append (span_token octets) spans (s ∷ []) ∙ ap (λ l. map (span_token octets) spans ++ l) (sym t) ∙ ap (λ l. l ++ piece_tokens octets ended (p ∷ [])) x.tokens
        ∙ ap (λ o. piece_tokens octets None x.found ++ piece_tokens octets o (p ∷ [])) x.ended_is ∙ sym (more_tokens octets None x.found p);
    within = subst (AllByRecursion (IsSpanIn octets)) (sym is) (all_more octets spans s x.within w);
  }

  pub comment : (p : Piece) → now ≡ Ok p ∷ left → HasNoEnd (p ∷ []) → piece_tokens octets ended (p ∷ []) ≡ [] → ended ≡ last_ended ended (p ∷ []) → Filling octets given left ended spans
  comment p e k t a = record {
    found = x.found ++ p ∷ [];
    is_open = one_more x.found p x.is_open k;
    is = next p e;
    ended_is = a ∙ ap (λ o. last_ended o (p ∷ [])) x.ended_is ∙ sym (more_ended None x.found p);
    tokens = x.tokens ∙ sym (append-nil (piece_tokens octets None x.found)) ∙ ap (λ l. piece_tokens octets None x.found ++ l) (sym t)
        ∙ ap (λ o. piece_tokens octets None x.found ++ piece_tokens octets o (p ∷ [])) x.ended_is ∙ sym (more_tokens octets None x.found p);
    within = x.within;
  }

  pub ends : (end : EndOfEntry) → now ≡ Ok (EndAt end) ∷ left → AreItemsOf octets given → FillsWith octets spans end.at
  ends end e g = record {
    stop = end;
    left = left;
    first = record { found = x.found; is_open = x.is_open; given = subst (AreItemsOf octets) (x.is ∙ ap (λ l. map Ok x.found ++ l) e) g };
    ends = refl;
    tokens = x.tokens;
    within = x.within;
  }

  pub ends_line : (end : EndOfEntry) → now ≡ Ok (EndAt end) ∷ left → AreItemsOf octets given → 0 < length left → FillsLine octets spans end.at
  unfolding ends
  ends_line end e g some = (ends end e g, some)

-- a span among the pieces that are left is within the octets
behind : (n : ℕ) (found : List Piece) (rest : List (Result Piece Fault)) → EachWithin n (map Ok found ++ rest) → EachWithin n rest
behind n [] rest w = w
behind n (p ∷ found) rest w = behind n found rest w.1

pub first_within : (octets : List ℕ) (given left now : List (Result Piece Fault)) (ended : Option ℕ) (spans : List TokenSpan) (p : Result Piece Fault) → Filling octets given now ended spans → now ≡ p ∷ left → EachWithin (length octets) given → IsWithin (length octets) p
first_within octets given left now ended spans p x e w = (behind (length octets) x.found (p ∷ left) (subst (EachWithin (length octets)) (x.is ∙ ap (λ l. map Ok x.found ++ l) e) w)).0

-- a quoted string is long enough for its double quotes
after_all : (P : Result Piece Fault → Type 0) (found : List Piece) (rest : List (Result Piece Fault)) → AllByRecursion P (map Ok found ++ rest) → AllByRecursion P rest
after_all P [] rest a = a
after_all P (p ∷ found) rest a = after_all P found rest a.1

pub first_wide : (octets : List ℕ) (given left now : List (Result Piece Fault)) (ended : Option ℕ) (spans : List TokenSpan) (p : Result Piece Fault) → Filling octets given now ended spans → now ≡ p ∷ left → AreItemsOf octets given → IsWide p
first_wide octets given left now ended spans p x e g =
    quoted_wide octets p (after_all (IsQuotedAt octets) x.found (p ∷ left) (subst (AllByRecursion (IsQuotedAt octets)) (x.is ∙ ap (λ l. map Ok x.found ++ l) e) (given_quoted octets given g))).0

pub end_within : (octets : List ℕ) (spans : List TokenSpan) (at : ℕ) → FillsWith octets spans at → at ≤ length octets
end_within octets spans at f = subst (λ n. n ≤ length octets) f.ends (behind (length octets) f.first.found (Ok (EndAt f.stop) ∷ f.left) f.first.given.1).0
