-- The octets between tokens, one after another, and tokens, one after another.
use Rattle.std.proofs.Common.{ℕ, zero, suc, ◌≡◌, ◌<◌, ◌+◌, Bool, true, false, cond, not, ◌||◌, List, [], ◌∷◌, ◌++◌, length, drop, get_or, refl, sym, ap, subst, ◌∙◌, arith}
use Rattle.std.proofs.lemmas.List.{append_assoc, drop_more}
use Rattle.dns_lexer.specs.Pieces.{between}
use Rattle.dns_lexer.specs.declared.pieces.Span.{Span}
use Rattle.zone_edit.specs.Tokens.{AreAfterTokens, IsAfterToken, comment_continues, is_space, kept_len, kept_with, removed_spans}

-- the rest of a list begins with the element that is next
rest_of : {X : Type 0} (xs : List X) (i : ℕ) (x d : X) → i < length xs → x ≡ get_or xs i d → drop i xs ≡ x ∷ drop (i + 1) xs
rest_of xs i x d lt is = drop_more xs i d lt ∙ ap (λ y. y ∷ drop (i + 1) xs) (sym is)

-- the number of kept octets, if `kept` are up to an offset, and some more after it
abbrev pub kept_after : ℕ → ℕ → ℕ → ℕ
kept_after kept at zero = kept
kept_after kept at (suc more) = at + suc more

stays : (kept at more : ℕ) (b : Bool) → kept_after kept at (kept_with b more) ≡ kept_after (cond b (at + 1) kept) (at + 1) more
stays kept at zero true = refl
stays kept at zero false = refl
stays kept at (suc more) true = omega arith
stays kept at (suc more) false = omega arith

-- an octet more was looked at
pub kept_next : (gap : List ℕ) (i octet : ℕ) (is_comment : Bool) (kept at : ℕ) → i < length gap → octet ≡ get_or gap i 0
    → kept_after kept at (kept_len is_comment (drop i gap))
    ≡ kept_after (cond (is_comment || not (is_space octet)) (at + 1) kept) (at + 1) (kept_len (comment_continues is_comment octet) (drop (i + 1) gap))
kept_next gap i octet is_comment kept at lt is =
    ap (λ l. kept_after kept at (kept_len is_comment l)) (rest_of gap i octet 0 lt is)
    ∙ stays kept at (kept_len (comment_continues is_comment octet) (drop (i + 1) gap)) (is_comment || not (is_space octet))

module _ (octets : List ℕ) (tokens : List Span) (i : ℕ) (t d : Span) (at : ℕ) (lt : i < length tokens) (is : t ≡ get_or tokens i d) where
  -- one more token was removed
  pub taken_next : (old made : List Span) (n : ℕ) → made ≡ old ++ record { start = at + n; end = t.end } ∷ [] → n ≡ kept_len false (between octets at t.start)
      → made ++ removed_spans octets t.end (drop (i + 1) tokens) ≡ old ++ removed_spans octets at (drop i tokens)
  taken_next old made n e kept =
      ap (λ l. l ++ removed_spans octets t.end (drop (i + 1) tokens)) (e ∙ ap (λ k. old ++ record { start = at + k; end = t.end } ∷ []) kept)
      ∙ append_assoc old (record { start = at + kept_len false (between octets at t.start); end = t.end } ∷ []) (removed_spans octets t.end (drop (i + 1) tokens))
      ∙ ap (λ l. old ++ removed_spans octets at l) (sym (rest_of tokens i t d lt is))

  pub after_gives : (count : ℕ) → AreAfterTokens count at (drop i tokens) → AreAfterTokens count at (t ∷ drop (i + 1) tokens)
  after_gives count = subst (AreAfterTokens count at) (rest_of tokens i t d lt is)

  pub after_back : (count : ℕ) → IsAfterToken count at t → AreAfterTokens count t.end (drop (i + 1) tokens) → AreAfterTokens count at (drop i tokens)
  after_back count own h = subst (AreAfterTokens count at) (sym (rest_of tokens i t d lt is)) (own, h)
