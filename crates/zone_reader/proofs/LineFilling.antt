-- A tape that is filled token by token, from where no token and no comment is open.
use Rattle.std.proofs.Common.{◌≡◌, ℕ, ◌+◌, ◌<◌, ◌≤◌, List, [], ◌∷◌, ◌++◌, length, drop, refl, sym, ap, subst, arith, get_or, Fits, w8, inl, inr}
use Rattle.std.specs.Prelude.{Ok, Option, Some, Result}
use Rattle.dns_lexer.specs.declared.pieces.Fault.{Fault}
use Rattle.dns_lexer.specs.declared.pieces.Piece.{Piece}
use Rattle.dns_lexer.specs.Pieces.{AreItemsOf, comment_at, end_at, quote_at, word_at}
use Rattle.dns_lexer.specs.Run.{first_blank}
use Rattle.dns_lexer.proofs.Agree.{small_scalars}
use Rattle.dns_lexer.proofs.PieceMoved.{reads_octets}
use Rattle.dns_lexer.proofs.PieceParts.{each_within}
use Rattle.zone_reader.specs.Parts.{IsAfterBlank, IsAfterReturn, IsCommentTo, IsQuoteTo, IsWordTo}
use Rattle.zone_reader.specs.Tape.{FillsLine, IsSpanIn, quote_span, span_token, word_span}
use Rattle.zone_reader.specs.declared.tape.TokenSpan.{TokenSpan}
use Rattle.zone_reader.proofs.Filling.{Filling, comment, ends_line, word}
use Rattle.zone_reader.proofs.Outside.{blank_left, comment_left, feed_left, left_run, left_some, quote_left, return_left, return_passed, word_left}

-- the pieces of all octets, and those from an offset on
abbrev pub all_left : List ℕ → List (Result Piece Fault)
all_left octets = left_run octets 0 0 (first_blank octets)

abbrev pub rest_left : List ℕ → ℕ → ℕ → List (Result Piece Fault)
rest_left octets d at = left_run octets d at (first_blank octets)

abbrev pub FillingAt : List ℕ → ℕ → ℕ → Option ℕ → List TokenSpan → Type 0
FillingAt octets d at ended spans = Filling octets (all_left octets) (rest_left octets d at) ended spans

pub all_given : (octets : List ℕ) → ((n : ℕ) → Fits w8 (get_or octets n 0)) → AreItemsOf octets (all_left octets)
all_given octets fits = (reads_octets octets (small_scalars octets (λ n. (fits n).fits)), each_within octets (first_blank octets))

module _ (octets : List ℕ) (d at : ℕ) (ended : Option ℕ) (spans : List TokenSpan) (x : FillingAt octets d at ended spans) where
  pub word_filled : (e : ℕ) (s : TokenSpan) (new : List TokenSpan) → IsWordTo octets d at e → s ≡ word_span (record { start = at; end = e }) ended → new ≡ spans ++ s ∷ [] → FillingAt octets d e (Some e) new
  word_filled e s new w same pushed =
      word octets (all_left octets) (rest_left octets d e) (rest_left octets d at) ended spans x (word_at at e) s new (Some e) (word_left octets d at e (first_blank octets) w) tt
      (ap (λ s. span_token octets s ∷ []) (sym same)) (subst (IsSpanIn octets) (sym same) (omega arith, omega (arith, w.some), omega (arith, w.within))) pushed refl

  pub quote_filled : (e : ℕ) (s : TokenSpan) (new : List TokenSpan) → get_or octets at 0 ≡ 34 → IsQuoteTo octets at e → s ≡ quote_span (record { start = at; end = e }) ended → new ≡ spans ++ s ∷ [] → FillingAt octets d e (Some e) new
  quote_filled e s new opens w same pushed =
      word octets (all_left octets) (rest_left octets d e) (rest_left octets d at) ended spans x (quote_at at e) s new (Some e) (quote_left octets d at e (first_blank octets) opens w) tt
      (ap (λ s. span_token octets s ∷ []) (sym same)) (subst (IsSpanIn octets) (sym same) (omega arith, omega (arith, w.some), omega (arith, w.within))) pushed refl

  pub comment_filled : (e : ℕ) → get_or octets at 0 ≡ 59 → IsCommentTo octets at e → FillingAt octets d e ended spans
  comment_filled e opens w =
      comment octets (all_left octets) (rest_left octets d e) (rest_left octets d at) ended spans x (comment_at at e) (comment_left octets d at e (first_blank octets) opens w) tt refl refl

  moved : (n next : ℕ) → rest_left octets d at ≡ rest_left octets n next → FillingAt octets n next ended spans
  moved n next same = subst (λ l. Filling octets (all_left octets) l ended spans) same x

  pub blank_filled : (after : ℕ) → at < length octets → IsAfterBlank octets at after → FillingAt octets d after ended spans
  blank_filled after w h = moved d after (blank_left octets d at after (first_blank octets) w h)

  pub return_filled : (after : ℕ) → get_or octets at 0 ≡ 13 → IsAfterReturn octets at after → 0 < d → FillingAt octets d after ended spans
  return_filled after is h some = moved d after (return_passed octets d at after (first_blank octets) is h some)

pub after_within : (octets : List ℕ) (at after : ℕ) → at < length octets → IsAfterBlank octets at after → (at ≤ after) × (after ≤ length octets)
after_within octets at after w (inl same) = (omega (arith, same), omega (arith, w, same))
after_within octets at after w (inr x) = (omega (arith, x.0), omega (arith, w, x.0))

-- the entry ends
module _ (octets : List ℕ) (d at : ℕ) (ended : Option ℕ) (spans : List TokenSpan) (fits : (n : ℕ) → Fits w8 (get_or octets n 0)) (x : FillingAt octets d at ended spans) (none : d ≡ 0) where
  line_filled : (after : ℕ) → (rest_left octets 0 at ≡ Ok (end_at after (first_blank octets)) ∷ left_run octets 0 after (first_blank (drop after octets))) → FillsLine octets spans after
  line_filled after same =
      let b = first_blank (drop after octets) in
      ends_line octets (all_left octets) (left_run octets 0 after b) (rest_left octets 0 at) ended spans (subst (λ n. FillingAt octets n at ended spans) none x) (record { at = after; begins_blank = first_blank octets })
      same (all_given octets fits) (left_some octets 0 after b)

  pub feed_filled : at < length octets → get_or octets at 0 ≡ 10 → FillsLine octets spans (at + 1)
  feed_filled w is = line_filled (at + 1) (feed_left octets at (first_blank octets) w is)

  pub return_ended : (after : ℕ) → get_or octets at 0 ≡ 13 → IsAfterReturn octets at after → FillsLine octets spans after
  return_ended after is h = line_filled after (return_left octets at after (first_blank octets) is h)
