-- Tokens of an entry by their indexes.
use Rattle.std.proofs.Common.{◌≡◌, ℕ, zero, suc, ◌+◌, ◌-◌, ◌≤◌, ◌<◌, Bool, List, [], ◌∷◌, Some, None, map, length, get_or, slice_get, drop, take, refl, sym, ap, ◌∙◌, subst, arith, drop_of_length-le, length-drop, take_all}
use Rattle.std.proofs.lemmas.List.{length-map}
use Rattle.dns_lexer.specs.EntryTokens.{token_seen}
use Rattle.dns_lexer.specs.declared.entry_tokens.EntryToken.{EntryToken}
use Rattle.finding_codes.specs.declared.code.Code.TheVariants.{OtherClass, Ttl}
use Rattle.zone_check.specs.declared.entry_words.WordKind.TheVariants.{ClassWord, LongTtl, TypeWord}
use Rattle.zone_check.specs.declared.finding.About.TheVariants.{Entry, Token}
use Rattle.zone_check.specs.declared.finding.EntryFinding.{EntryFinding}
use Rattle.zone_check.specs.EntryWords.{AreDataTokens, IsFirstWord, after_owner}
use Rattle.zone_check.specs.FindingSpans.{finding_at, finding_of_any, finding_of_token}
use Rattle.zone_check.specs.ValueFindings.{IsClassFinding, IsFirstLongTtl, class_finding_of}

pub seen_at : (tokens : List EntryToken) (i : ℕ) (d : EntryToken) → i < length tokens → slice_get (map token_seen tokens) i ≡ Some (token_seen (get_or tokens i d))
seen_at [] i d lt = absurd (omega (arith, lt))
seen_at (t ∷ tokens) zero d lt = refl
seen_at (t ∷ tokens) (suc i) d lt = seen_at tokens i d (omega (arith, lt))

pub seen_none : (tokens : List EntryToken) (i : ℕ) → length tokens ≤ i → slice_get (map token_seen tokens) i ≡ None
seen_none [] i end = refl
seen_none (t ∷ tokens) zero end = absurd (omega (arith, end))
seen_none (t ∷ tokens) (suc i) end = seen_none tokens i (omega (arith, end))

pub seen_last : (tokens : List EntryToken) (d : EntryToken) → 0 < length tokens → slice_get (map token_seen tokens) (length (map token_seen tokens) - 1) ≡ Some (token_seen (get_or tokens (length tokens - 1) d))
seen_last tokens d lt = ap (λ n. slice_get (map token_seen tokens) (n - 1)) (length-map tokens token_seen) ∙ seen_at tokens (length tokens - 1) d (omega arith)

-- ---- the tokens after the owner, and those after the type

-- the rest of a list from an index on, as the code slices it
rest_of : (xs : List EntryToken) (i : ℕ) → take (length xs - i) (drop i xs) ≡ drop i xs
rest_of xs i = take_all (length xs - i) (drop i xs) (omega (arith, length-drop i xs))

module _ (b : Bool) (tokens words : List EntryToken) (place : ℕ) (same : words ≡ after_owner b tokens) where
  pub data_after : IsFirstWord TypeWord (map token_seen words) place → AreDataTokens b tokens (take (length words - (place + 1)) (drop (place + 1) words))
  data_after first = (place, subst (λ w. IsFirstWord TypeWord (map token_seen w) place) same first, rest_of words (place + 1) ∙ ap (drop (place + 1)) same)

  pub data_at_end : place ≡ length words → IsFirstWord TypeWord (map token_seen words) place → AreDataTokens b tokens (take (length words - place) (drop place words))
  data_at_end end first =
      let here : length words ≤ place = omega (arith, end) in
      let later : length words ≤ place + 1 = omega (arith, end) in (
        place,
        subst (λ w. IsFirstWord TypeWord (map token_seen w) place) same first,
        rest_of words place ∙ drop_of_length-le words here ∙ sym (drop_of_length-le words later) ∙ ap (drop (place + 1)) same,
      )

-- ---- the first word of a kind as a finding

pub first_long_none : (tokens : List EntryToken) (place : ℕ) → IsFirstWord LongTtl (map token_seen tokens) place → place ≡ length tokens → IsFirstLongTtl tokens None
first_long_none tokens place first end = (place, first, sym (ap (finding_of_any Ttl Token) (seen_none tokens place (omega (arith, end)))))

pub first_long_some : (tokens : List EntryToken) (place : ℕ) (d : EntryToken) (f : EntryFinding) → IsFirstWord LongTtl (map token_seen tokens) place → place < length tokens
    → f ≡ finding_of_token Ttl Token (token_seen (get_or tokens place d)) → IsFirstLongTtl tokens (Some f)
first_long_some tokens place d f first lt is = (place, first, ap Some is ∙ sym (ap (finding_of_any Ttl Token) (seen_at tokens place d lt)))

module _ (b : Bool) (tokens words : List EntryToken) (place : ℕ) (f : EntryFinding) (same : words ≡ after_owner b tokens) (first : IsFirstWord ClassWord (map token_seen words) place) where
  class_by : f ≡ class_finding_of (slice_get (map token_seen words) place) → IsClassFinding b tokens f
  class_by is = subst (λ w. (n : ℕ) × IsFirstWord ClassWord (map token_seen w) n × (f ≡ class_finding_of (slice_get (map token_seen w) n))) same (place, first, is)

  pub class_none : place ≡ length words → f ≡ finding_at OtherClass 0 1 Entry → IsClassFinding b tokens f
  class_none end is = class_by (is ∙ sym (ap class_finding_of (seen_none words place (omega (arith, end)))))

  pub class_some : (d : EntryToken) → place < length words → f ≡ finding_of_token OtherClass Token (token_seen (get_or words place d)) → IsClassFinding b tokens f
  class_some d lt is = class_by (is ∙ sym (ap class_finding_of (seen_at words place d lt)))
