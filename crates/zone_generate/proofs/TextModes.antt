-- Texts that are read octet by octet, to find a parenthesis.
use Rattle.std.proofs.Common.{ℕ, ◌≡◌, ◌<◌, ◌≤◌, ◌+◌, Bool, true, false, List, ◌∷◌, length, ap, ◌∙◌, get_or, drop}
use Rattle.std.specs.Prelude.{cond, Option, Some, None}
use Rattle.std.proofs.lemmas.List.{drop_more, drop_all}
use Rattle.zone_generate.specs.Tokens.{is_parenthesis, mode_after, parenthesis_from}
use Rattle.zone_generate.specs.declared.tokens.TextMode.{TextMode}
use Rattle.zone_generate.specs.declared.tokens.TextMode.TheVariants.{Plain}

module _ (text : List ℕ) (mode : TextMode) (i : ℕ) (so : parenthesis_from Plain 0 text ≡ parenthesis_from mode i (drop i text)) where
  pub no_parenthesis : i < length text → is_parenthesis mode (get_or text i 0) ≡ false → parenthesis_from Plain 0 text ≡ parenthesis_from (mode_after mode (get_or text i 0)) (i + 1) (drop (i + 1) text)
  no_parenthesis lt is =
      let c = get_or text i 0 in
      so ∙ ap (parenthesis_from mode i) (drop_more text i 0 lt) ∙ ap (λ b. cond b (Some i) (parenthesis_from (mode_after mode c) (i + 1) (drop (i + 1) text))) is

  pub parenthesis_found : i < length text → is_parenthesis mode (get_or text i 0) ≡ true → parenthesis_from Plain 0 text ≡ Some i
  parenthesis_found lt is =
      let c = get_or text i 0 in
      so ∙ ap (parenthesis_from mode i) (drop_more text i 0 lt) ∙ ap (λ b. cond b (Some i) (parenthesis_from (mode_after mode c) (i + 1) (drop (i + 1) text))) is

  pub parentheses_ended : length text ≤ i → parenthesis_from Plain 0 text ≡ None
  parentheses_ended le = so ∙ ap (parenthesis_from mode i) (drop_all i text le)
