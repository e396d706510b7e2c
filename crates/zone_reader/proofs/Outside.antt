-- The pieces from an offset where no token and no comment is open, as the reader by octets finds them.
use Rattle.std.proofs.Common.{◌≡◌, ℕ, zero, suc, ◌+◌, ◌-◌, ◌<◌, arith, Bool, true, false, ◌==◌, List, [], ◌∷◌, length, drop, refl, sym, subst, ap, ◌∙◌, get_or, inl, inr, ◌⊎◌}
use Rattle.std.specs.Prelude.{◌≢◌, if◌then◌else◌, Some, None, Result, Ok}
use Rattle.std.proofs.lemmas.Bool.{cond-false, cond-true, eq-eqb}
use Rattle.std.proofs.lemmas.Bool.Decides.{nat_tests}
use Rattle.dns_lexer.specs.declared.pieces.Fault.{Fault}
use Rattle.dns_lexer.specs.declared.pieces.Piece.{Piece}
use Rattle.dns_lexer.specs.Pieces.{comment_at, end_at, quote_at, word_at}
use Rattle.dns_lexer.specs.Run.{Still, first_blank, run}
use Rattle.dns_lexer.proofs.PassedLines.{run_some}
use Rattle.dns_lexer.proofs.PieceSteps.{turn_closed, turn_finished, turn_on}
use Rattle.dns_lexer.proofs.Skips.{comment_given, note_still, quote_given, quote_still, still_between, word_still}
use Rattle.dns_lexer.specs.declared.runs.OctetClass.TheVariants.{Word, Quote, Comment}
use Rattle.dns_lexer.specs.Skip.{is_in}
use Rattle.zone_reader.specs.Parts.{EndsWordBefore, IsAfterBlank, IsAfterReturn, IsCommentTo, IsQuoteTo, IsWordTo}

-- the mode that a lemma is about
module _ {M : Type 0} {m : M} where
  abbrev mode_in : (A : M → Type 0) → A m → M
  mode_in A a = m

-- from an offset on, in parentheses of a depth, with the offset where the open token began
abbrev pub open_run : List ℕ → ℕ → ℕ → ℕ → Bool → List (Result Piece Fault)
open_run octets d s at b = run (mode_in (λ m. (c : ℕ) → is_in Word c ≡ true → Still m c) word_still) d s at b (drop at octets)

abbrev pub left_run : List ℕ → ℕ → ℕ → Bool → List (Result Piece Fault)
left_run octets d at b = open_run octets d at at b

word_open : (s at : ℕ) → s < at → (if s == at then None else Some (word_at s at)) ≡ Some (word_at s at)
word_open s at less = let other : (s == at) ≡ false = grind (arith, nat_tests) in cond-false _ _ _ other

self_same : (at : ℕ) → (if at == at then None else Some (word_at at at)) ≡ None
self_same at = cond-true _ _ _ (eq-eqb at at refl)

-- the octet ends the word that is open
abbrev EndsOpen : ℕ → ℕ → Type 0
EndsOpen d c = (octets : List ℕ) (s at : ℕ) (b : Bool) → at < length octets → s < at → get_or octets at 0 ≡ c → open_run octets d s at b ≡ Ok (word_at s at) ∷ left_run octets d at b

plain_ends : (d : ℕ) → EndsOpen d 32 × EndsOpen d 9 × EndsOpen d 34 × EndsOpen d 40 × EndsOpen d 59 × EndsOpen d 13
plain_ends d = (
  λ octets s at b w less is. turn_closed octets _ d s at b 32 (word_at s at) _ w (sym is) refl (word_open s at less),
  λ octets s at b w less is. turn_closed octets _ d s at b 9 (word_at s at) _ w (sym is) refl (word_open s at less),
  λ octets s at b w less is. turn_closed octets _ d s at b 34 (word_at s at) _ w (sym is) refl (word_open s at less),
  λ octets s at b w less is. turn_closed octets _ d s at b 40 (word_at s at) _ w (sym is) refl (word_open s at less),
  λ octets s at b w less is. turn_closed octets _ d s at b 59 (word_at s at) _ w (sym is) refl (word_open s at less),
  λ octets s at b w less is. turn_closed octets _ d s at b 13 (word_at s at) _ w (sym is) refl (word_open s at less),
)

feed_ends : (d : ℕ) → EndsOpen d 10
feed_ends zero octets s at b w less is = turn_closed octets _ zero s at b 10 (word_at s at) _ w (sym is) refl (word_open s at less)
feed_ends (suc d) octets s at b w less is = turn_closed octets _ (suc d) s at b 10 (word_at s at) _ w (sym is) refl (word_open s at less)

close_ends : (d : ℕ) → 0 < d → EndsOpen d 41
close_ends zero some = absurd (omega (arith, some))
close_ends (suc d) some = λ octets s at b w less is. turn_closed octets _ (suc d) s at b 41 (word_at s at) _ w (sym is) refl (word_open s at less)

ends_open : (d c : ℕ) → EndsWordBefore d c → EndsOpen d c
ends_open d c (inl is) = subst (EndsOpen d) (sym is) (plain_ends d).0
ends_open d c (inr (inl is)) = subst (EndsOpen d) (sym is) (plain_ends d).1
ends_open d c (inr (inr (inl is))) = subst (EndsOpen d) (sym is) (feed_ends d)
ends_open d c (inr (inr (inr (inl is)))) = subst (EndsOpen d) (sym is) (plain_ends d).5
ends_open d c (inr (inr (inr (inr (inl is))))) = subst (EndsOpen d) (sym is) (plain_ends d).2
ends_open d c (inr (inr (inr (inr (inr (inl is)))))) = subst (EndsOpen d) (sym is) (plain_ends d).3
ends_open d c (inr (inr (inr (inr (inr (inr (inl is))))))) = subst (EndsOpen d) (sym is) (plain_ends d).4
ends_open d c (inr (inr (inr (inr (inr (inr (inr is))))))) = subst (EndsOpen d) (sym is.0) (close_ends d is.1)

-- a word, a quoted string and a comment
pub word_left : (octets : List ℕ) (d at e : ℕ) (b : Bool) → IsWordTo octets d at e → left_run octets d at b ≡ Ok (word_at at e) ∷ left_run octets d e b
word_left octets d at e b x = still_between _ Word word_still octets at e (omega (arith, x.some)) (omega (arith, x.within)) x.inside d at b
    ∙ ends_open d (get_or octets e 0) x.ends octets at e b x.within x.some refl

pub quote_left : (octets : List ℕ) (d at e : ℕ) (b : Bool) → get_or octets at 0 ≡ 34 → IsQuoteTo octets at e → left_run octets d at b ≡ Ok (quote_at at e) ∷ left_run octets d e b
quote_left octets d at e b opens x =
    let last : ℕ = e - 1 in
    let same : last + 1 ≡ e = omega (arith, x.some) in
    subst (λ n. left_run octets d at b ≡ Ok (quote_at at n) ∷ left_run octets d n b) same
    (quote_given octets (record { depth = d; at = at }) b last (omega (arith, x.some, x.within)) opens (omega (arith, x.some)) (omega (arith, x.some, x.within))
    (still_between _ Quote quote_still octets (at + 1) last (omega (arith, x.some)) (omega (arith, x.within)) x.inside) x.closes).same

comment_ends : (octets : List ℕ) (d e : ℕ) → e < length octets → (get_or octets e 0 ≡ 10) ⊎ (get_or octets e 0 ≡ 13) → (s : ℕ) (b : Bool)
    → run (mode_in (λ m. (c : ℕ) → is_in Comment c ≡ true → Still m c) note_still) d s e b (drop e octets) ≡ Ok (comment_at s e) ∷ left_run octets d e b
comment_ends octets d e w (inl is) s b = turn_closed octets _ d s e b 10 (comment_at s e) _ w (sym is) refl refl
comment_ends octets d e w (inr is) s b = turn_closed octets _ d s e b 13 (comment_at s e) _ w (sym is) refl refl

pub comment_left : (octets : List ℕ) (d at e : ℕ) (b : Bool) → get_or octets at 0 ≡ 59 → IsCommentTo octets at e → left_run octets d at b ≡ Ok (comment_at at e) ∷ left_run octets d e b
comment_left octets d at e b opens x =
    (comment_given octets (record { depth = d; at = at }) b e (omega (arith, x.some, x.within)) opens (omega (arith, x.some)) (omega (arith, x.within)) x.inside (comment_ends octets d e x.within x.ends)).same

-- a blank that is skipped, or no blank
turn_blank : (octets : List ℕ) (d at : ℕ) (b : Bool) → at < length octets → (get_or octets at 0 ≡ 9) ⊎ (get_or octets at 0 ≡ 32) → left_run octets d at b ≡ left_run octets d (at + 1) b
turn_blank octets d at b w (inl is) = turn_on octets _ d at at b 9 _ w (sym is) refl (self_same at) refl
turn_blank octets d at b w (inr is) = turn_on octets _ d at at b 32 _ w (sym is) refl (self_same at) refl

pub blank_left : (octets : List ℕ) (d at after : ℕ) (b : Bool) → at < length octets → IsAfterBlank octets at after → left_run octets d at b ≡ left_run octets d after b
blank_left octets d at after b w (inl same) = ap (λ n. left_run octets d n b) (sym same)
blank_left octets d at after b w (inr x) =
    turn_blank octets d at b w x.1 ∙ ap (λ n. left_run octets d n b) (sym x.0)

-- a carriage return and its line feed: outside parentheses, and inside
pub return_left : (octets : List ℕ) (at after : ℕ) (b : Bool) → get_or octets at 0 ≡ 13 → IsAfterReturn octets at after
    → left_run octets 0 at b ≡ Ok (end_at after b) ∷ left_run octets 0 after (first_blank (drop after octets))
return_left octets at after b is x =
    let there : at + 1 + 1 ≡ after = omega (arith, x.2) in
    turn_on octets _ 0 at at b 13 _ (omega (arith, x.0)) (sym is) refl (self_same at) refl
    ∙ turn_finished octets _ 0 (at + 1) (at + 1) b 10 (end_at (at + 1 + 1) b) _ x.0 (sym x.1) refl (self_same (at + 1)) refl
    ∙ ap (λ n. Ok (end_at n b) ∷ left_run octets 0 n (first_blank (drop n octets))) there

pub return_passed : (octets : List ℕ) (d at after : ℕ) (b : Bool) → get_or octets at 0 ≡ 13 → IsAfterReturn octets at after → 0 < d → left_run octets d at b ≡ left_run octets d after b
return_passed octets zero at after b is x some = absurd (omega (arith, some))
return_passed octets (suc d) at after b is x some =
    let there : at + 1 + 1 ≡ after = omega (arith, x.2) in
    turn_on octets _ (suc d) at at b 13 _ (omega (arith, x.0)) (sym is) refl (self_same at) refl
    ∙ turn_on octets _ (suc d) (at + 1) (at + 1) b 10 _ x.0 (sym x.1) refl (self_same (at + 1)) refl
    ∙ ap (λ n. left_run octets (suc d) n b) there

-- a line feed outside parentheses
pub feed_left : (octets : List ℕ) (at : ℕ) (b : Bool) → at < length octets → get_or octets at 0 ≡ 10
    → left_run octets 0 at b ≡ Ok (end_at (at + 1) b) ∷ left_run octets 0 (at + 1) (first_blank (drop (at + 1) octets))
feed_left octets at b w is =
    turn_finished octets _ 0 at at b 10 (end_at (at + 1) b) _ w (sym is) refl (self_same at) refl

more_than_none : (l : List (Result Piece Fault)) → l ≢ [] → 0 < length l
more_than_none [] h = absurd (h refl)
more_than_none (x ∷ l) h = omega arith

pub left_some : (octets : List ℕ) (d at : ℕ) (b : Bool) → 0 < length (left_run octets d at b)
left_some octets d at b = more_than_none (left_run octets d at b) (run_some _ d at at b (drop at octets))
