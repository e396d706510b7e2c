-- The spans that are replaced are those of the tokens.
use Rattle.std.proofs.Common.{ℕ, zero, suc, ◌≡◌, ◌≤◌, ◌+◌, ◌-◌, Bool, true, false, not, ◌||◌, List, [], ◌∷◌, ◌++◌, length, take, drop, refl, sym, ap, subst, ◌∙◌, arith}
use Rattle.std.proofs.lemmas.List.{drop-drop, drop-take, length-drop, length-take-le}
use Rattle.dns_lexer.specs.Pieces.{between}
use Rattle.dns_lexer.specs.declared.pieces.Span.{Span}
use Rattle.zone_edit.specs.Changes.{AreSpaces, AreTokenSpans, Change, HaveTokensInOrder, change_spans, changed_tokens}
use Rattle.zone_edit.specs.Tokens.{AreAfterTokens, comment_continues, is_space, kept_len, kept_with, removed_spans, stretches}

-- an octet that isn't kept for its own sake is a space
space_of : (is_comment b : Bool) → (is_comment || not b) ≡ false → b ≡ true
space_of true true e = refl
space_of false true e = refl
space_of true false e = sym e
space_of false false e = sym e

-- what isn't kept of an octet and those after it
rest_with : (octet more : ℕ) (gap : List ℕ) (b : Bool) → (b ≡ false → is_space octet ≡ true) → AreSpaces (drop more gap) → AreSpaces (drop (kept_with b more) (octet ∷ gap))
rest_with octet more gap true space rest = rest
rest_with octet zero gap false space rest = (space refl, rest)
rest_with octet (suc more) gap false space rest = rest

-- the octets that aren't kept are spaces
rest_spaces : (is_comment : Bool) (gap : List ℕ) → AreSpaces (drop (kept_len is_comment gap) gap)
rest_spaces is_comment [] = tt
rest_spaces is_comment (octet ∷ gap) =
    rest_with octet (kept_len (comment_continues is_comment octet) gap) gap (is_comment || not (is_space octet)) (space_of is_comment (is_space octet))
    (rest_spaces (comment_continues is_comment octet) gap)

kept_more : (b : Bool) (more count : ℕ) → more ≤ count → kept_with b more ≤ suc count
kept_more true more count le = omega (arith, le)
kept_more false zero count le = omega arith
kept_more false (suc more) count le = omega (arith, le)

-- no more octets are kept than there are
kept_within : (is_comment : Bool) (gap : List ℕ) → kept_len is_comment gap ≤ length gap
kept_within is_comment [] = omega arith
kept_within is_comment (octet ∷ gap) =
    kept_more (is_comment || not (is_space octet)) (kept_len (comment_continues is_comment octet) gap) (length gap) (kept_within (comment_continues is_comment octet) gap)

-- the octets from an offset between two others on
between_rest : (octets : List ℕ) (at kept end : ℕ) → at + kept ≤ end → drop kept (between octets at end) ≡ between octets (at + kept) end
between_rest octets at kept end le =
    let count : end - at ≡ kept + (end - (at + kept)) = omega (arith, le) in
    ap (λ n. drop kept (take n (drop at octets))) count
    ∙ drop-take kept (end - (at + kept)) (drop at octets)
    ∙ ap (take (end - (at + kept))) (drop-drop kept at octets)

between_len : (octets : List ℕ) (at end : ℕ) → at ≤ end → end ≤ length octets → length (between octets at end) ≡ end - at
between_len octets at end le within =
    let room : end - at ≤ length (drop at octets) = omega (arith, le, within, length-drop at octets) in
    length-take-le (end - at) (drop at octets) room

-- tokens that are removed
removed_are : (octets : List ℕ) (at : ℕ) (tokens : List Span) → AreAfterTokens (length octets) at tokens → AreTokenSpans octets tokens (removed_spans octets at tokens)
removed_are octets at [] h = tt
removed_are octets at (t ∷ tokens) h =
    let gap = between octets at t.start in
    let kept = kept_len false gap in
    let within : t.start ≤ length octets = omega (arith, h.0.1, h.0.2) in
    let counted : kept ≤ t.start - at = subst (λ n. kept ≤ n) (between_len octets at t.start h.0.0 within) (kept_within false gap) in
    let starts : at + kept ≤ t.start = omega (arith, counted, h.0.0) in
    ((refl, starts, subst AreSpaces (between_rest octets at kept t.start starts) (rest_spaces false gap)), removed_are octets t.end tokens h.1)

none_before : (octets : List ℕ) (at : ℕ) → AreSpaces (between octets at at)
none_before octets at =
    let zeroth : 0 ≡ at - at = omega arith in
    let nothing : AreSpaces (take 0 (drop at octets)) = tt in
    subst (λ n. AreSpaces (take n (drop at octets))) zeroth nothing

-- tokens of which the first stays a token
stretches_are : (octets : List ℕ) (tokens : List Span) → AreAfterTokens (length octets) 0 tokens → AreTokenSpans octets tokens (stretches octets tokens)
stretches_are octets [] h = tt
stretches_are octets (t ∷ tokens) h =
    let same : t.start ≤ t.start = omega arith in
    ((refl, same, none_before octets t.start), removed_are octets t.end tokens h.1)

joined_are : (octets : List ℕ) (first second : List Span) (spans more : List Span) → AreTokenSpans octets first spans → AreTokenSpans octets second more
    → AreTokenSpans octets (first ++ second) (spans ++ more)
joined_are octets [] second [] more p q = q
joined_are octets [] second (s ∷ spans) more p q = absurd p
joined_are octets (t ∷ first) second [] more p q = absurd p
joined_are octets (t ∷ first) second (s ∷ spans) more p q = (p.0, joined_are octets first second spans more p.1 q)

-- the tokens of changes
pub changes_are : (octets : List ℕ) (changes : List Change) → HaveTokensInOrder (length octets) changes → AreTokenSpans octets (changed_tokens changes) (change_spans octets changes)
changes_are octets [] h = tt
changes_are octets (c ∷ changes) h =
    joined_are octets c.tokens (changed_tokens changes) (stretches octets c.tokens) (change_spans octets changes) (stretches_are octets c.tokens h.0) (changes_are octets changes h.1)
