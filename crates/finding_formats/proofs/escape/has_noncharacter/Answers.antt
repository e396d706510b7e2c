use Rattle.std.proofs.Common.{◌≡◌, ℕ, suc, ◌-◌, ◌<◌, ◌||◌, List, length, take, drop, arith, refl, sym, ap, ◌∙◌, subst}
use Rattle.std.proofs.Math.Seq.{drop-cons}
use Rattle.std.proofs.lemmas.List.{length-drop, take_all}
use Rattle.finding_formats.specs.Escape.{begins_noncharacter, has_noncharacter}
use Rattle.finding_formats.proofs.escape.has_noncharacter.Goals as goal

one_more : (xs : List ℕ) (i : ℕ) → i < length xs → has_noncharacter (drop i xs) ≡ (has_noncharacter (drop (suc i) xs) || begins_noncharacter (drop i xs))
one_more xs i h = subst (λ l. has_noncharacter l ≡ (has_noncharacter (drop (suc i) xs) || begins_noncharacter l)) (sym (drop-cons xs i 0 h)) refl

before : (xs : List ℕ) (i j : ℕ) → j ≡ suc i → i < length xs → has_noncharacter (drop i xs) ≡ (has_noncharacter (drop j xs) || begins_noncharacter (drop i xs))
before xs i j e h = one_more xs i h ∙ ap (λ k. has_noncharacter (drop k xs) || begins_noncharacter (drop i xs)) (sym e)

rest_is : (xs : List ℕ) (i : ℕ) → take (length xs - i) (drop i xs) ≡ drop i xs
rest_is xs i = take_all (length xs - i) (drop i xs) (omega (arith, length-drop i xs))

pub loop-at-preserved-then-has_noncharacter : goal.loop-at-preserved-then-has_noncharacter
loop-at-preserved-then-has_noncharacter c =
    let xs = c.args.octets.now in
    let at = c.loop-at.at in
    let inv = c.loop-at.invariant in
    record {
      within = omega (arith, inv.within);
      has = c.if-has_noncharacter.true ∙ sym (before xs (at - 1) at (omega (arith, c.loop-at-test.true)) (omega (arith, inv.within, c.loop-at-test.true))
          ∙ ap (λ b. b || begins_noncharacter (drop (at - 1) xs)) (sym inv.has ∙ c.if-has_noncharacter.true));
    }

pub loop-at-preserved : goal.loop-at-preserved
loop-at-preserved c =
    let xs = c.args.octets.now in
    let at = c.loop-at.at in
    let inv = c.loop-at.invariant in
    record {
      within = omega (arith, inv.within);
      has = c.begins_noncharacter-has_noncharacter.ensures ∙ ap begins_noncharacter (rest_is xs (at - 1)) ∙ sym (before xs (at - 1) at (omega (arith, c.loop-at-test.true)) (omega (arith, inv.within, c.loop-at-test.true))
          ∙ ap (λ b. b || begins_noncharacter (drop (at - 1) xs)) (sym inv.has ∙ c.if-has_noncharacter.false));
    }
