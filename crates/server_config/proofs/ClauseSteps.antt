-- The tokens of a clause up to its end.
use Rattle.std.proofs.Common.{ℕ, zero, suc, ◌≡◌, ◌<◌, ◌≤◌, ◌+◌, List, length, refl, sym, ap, ◌∙◌, arith, drop}
use Rattle.std.specs.Prelude.{Option, None, Some, Result, Ok, Err}
use Rattle.std.proofs.lemmas.List.{drop_all}
use Rattle.server_config.specs.Clauses.{MovesOn, clause_among, clause_by, clause_end_of, clause_with, last_clause, next_clause}
use Rattle.server_config.specs.Tokens.{next_token, token_among}
use Rattle.server_config.specs.declared.clause.ClauseEnd.{ClauseEnd}
use Rattle.server_config.specs.declared.clause.ClauseEnd.TheVariants.{Closes, Ends, Last, Opens}
use Rattle.server_config.specs.declared.error.ConfigError.{ConfigError}
use Rattle.server_config.specs.declared.lexeme.ConfigSyntax.TheVariants.{Named}
use Rattle.server_config.specs.declared.token.ConfigToken.{ConfigToken}

-- after some words, the clause is that which begins at an earlier offset
pub record ClauseLeft (text : List ℕ) (from words at : ℕ) : Type 0 where
  pub most : ℕ
  pub bound : length text ≤ at + most
  pub same : clause_among most text from words at ≡ next_clause text from

pub clause_begins : (text : List ℕ) (from : ℕ) → ClauseLeft text from 0 from
clause_begins text from = record { most = length text; bound = omega arith; same = refl }

module _ (text : List ℕ) (from words at : ℕ) (lt : at < length text) where
  clause_first : (most : ℕ) (r : Result (Option ConfigToken) ConfigError) → next_token text at ≡ r
      → clause_among (suc most) text from words at ≡ clause_by (length text) from words r (λ end. clause_among most text from (words + 1) end)
  clause_first most r is = ap (λ r. clause_by (length text) from words r (λ end. clause_among most text from (words + 1) end)) is

  word_by : (t : ConfigToken) → at < t.end → clause_end_of t.kind ≡ None → next_token text at ≡ Ok (Some t) → (most : ℕ) → length text ≤ at + most
      → clause_among most text from words at ≡ next_clause text from → ClauseLeft text from (words + 1) t.end
  word_by t some none is zero bound same = absurd (omega (arith, bound, lt))
  word_by t some none is (suc most) bound same = record {
    most = most;
    bound = omega (arith, bound, some);
    same = sym (clause_first most (Ok (Some t)) is ∙ ap (λ e. clause_with from words t e (λ end. clause_among most text from (words + 1) end)) none) ∙ same;
  }

  pub word_passed : (t : ConfigToken) → at < t.end → clause_end_of t.kind ≡ None → next_token text at ≡ Ok (Some t) → ClauseLeft text from words at → ClauseLeft text from (words + 1) t.end
  word_passed t some none is h = word_by t some none is h.most h.bound h.same

  end_by : (t : ConfigToken) (e : ClauseEnd) → clause_end_of t.kind ≡ Some e → next_token text at ≡ Ok (Some t) → (most : ℕ) → length text ≤ at + most
      → clause_among most text from words at ≡ next_clause text from → Ok (record { from = from; words = words; end = e; at = t.at; next = t.end }) ≡ next_clause text from
  end_by t e ends is zero bound same = absurd (omega (arith, bound, lt))
  end_by t e ends is (suc most) bound same =
      sym (clause_first most (Ok (Some t)) is ∙ ap (λ e. clause_with from words t e (λ end. clause_among most text from (words + 1) end)) ends) ∙ same

  pub clause_ended : (t : ConfigToken) (e : ClauseEnd) → clause_end_of t.kind ≡ Some e → next_token text at ≡ Ok (Some t) → ClauseLeft text from words at
      → Ok (record { from = from; words = words; end = e; at = t.at; next = t.end }) ≡ next_clause text from
  clause_ended t e ends is h = end_by t e ends is h.most h.bound h.same

  none_by : next_token text at ≡ Ok None → (most : ℕ) → length text ≤ at + most → clause_among most text from words at ≡ next_clause text from
      → Ok (last_clause from words (length text)) ≡ next_clause text from
  none_by is zero bound same = absurd (omega (arith, bound, lt))
  none_by is (suc most) bound same = sym (clause_first most (Ok None) is) ∙ same

  pub text_ended : next_token text at ≡ Ok None → ClauseLeft text from words at → Ok (last_clause from words (length text)) ≡ next_clause text from
  text_ended is h = none_by is h.most h.bound h.same

  error_by : (e : ConfigError) → next_token text at ≡ Err e → (most : ℕ) → length text ≤ at + most → clause_among most text from words at ≡ next_clause text from → Err e ≡ next_clause text from
  error_by e is zero bound same = absurd (omega (arith, bound, lt))
  error_by e is (suc most) bound same = sym (clause_first most (Err e) is) ∙ same

  pub token_rejected : (e : ConfigError) → next_token text at ≡ Err e → ClauseLeft text from words at → Err e ≡ next_clause text from
  token_rejected e is h = error_by e is h.most h.bound h.same

no_lexemes : (text : List ℕ) (at most : ℕ) → length text ≤ at → token_among Named most at (drop at text) ≡ Ok None
no_lexemes text at zero le = refl
no_lexemes text at (suc most) le = ap (token_among Named (suc most) at) (drop_all at text le)

at_end : (text : List ℕ) (from words at : ℕ) → length text ≤ at → (most : ℕ) → clause_among most text from words at ≡ next_clause text from
    → Ok (last_clause from words (length text)) ≡ next_clause text from
at_end text from words at le zero same = same
at_end text from words at le (suc most) same =
    sym (ap (λ r. clause_by (length text) from words r (λ end. clause_among most text from (words + 1) end)) (no_lexemes text at (length text) le)) ∙ same

-- at the end of the text
pub nothing_left : (text : List ℕ) (from words at : ℕ) → length text ≤ at → ClauseLeft text from words at → Ok (last_clause from words (length text)) ≡ next_clause text from
nothing_left text from words at le h = at_end text from words at le h.most h.same

-- a token that ends the clause comes after its begin
pub moves_on : (from next : ℕ) (e : ClauseEnd) → from < next → MovesOn from e next
moves_on from next Ends lt = lt
moves_on from next Opens lt = lt
moves_on from next Closes lt = lt
moves_on from next Last lt = tt
