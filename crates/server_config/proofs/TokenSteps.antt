-- The lexemes of a text up to a token.
use Rattle.std.proofs.Common.{ℕ, zero, suc, ◌-◌, ◌≡◌, ◌<◌, ◌≤◌, ◌+◌, List, [], ◌∷◌, length, refl, sym, ap, ◌∙◌, arith, take, drop, length-drop}
use Rattle.std.specs.Prelude.{None, Some, Result, Ok, Err}
use Rattle.std.proofs.lemmas.List.{drop-drop, drop_all, take_rest}
use Rattle.server_config.specs.Lexemes.{error_between}
use Rattle.server_config.specs.NsdLexemes.{lexeme_in}
use Rattle.server_config.specs.Tokens.{token_among, token_by, token_in, token_or_next}
use Rattle.server_config.specs.declared.error.ConfigErrorKind.{ConfigErrorKind}
use Rattle.server_config.specs.declared.lexeme.ConfigSyntax.{ConfigSyntax}
use Rattle.server_config.specs.declared.lexeme.Lexeme.{Lexeme}
use Rattle.server_config.specs.declared.lexeme.LexemeKind.TheVariants.{Gap, Token}
use Rattle.server_config.specs.declared.token.TokenKind.{TokenKind}

-- what a slice of the text has
pub lexeme_read : (syn : ConfigSyntax) (text : List ℕ) (at : ℕ) (r s : Result Lexeme ConfigErrorKind) → r ≡ lexeme_in syn (take (length text - at) (drop at text)) → r ≡ s → lexeme_in syn (drop at text) ≡ s
lexeme_read syn text at r s value is = sym (ap (lexeme_in syn) (take_rest text at)) ∙ sym value ∙ is

pub lexeme_within : (text : List ℕ) (at len : ℕ) → at ≤ length text → len ≤ length (take (length text - at) (drop at text)) → at + len ≤ length text
lexeme_within text at len le h = let whole : length (take (length text - at) (drop at text)) ≡ length (drop at text) = ap length (take_rest text at) in omega (arith, le, h, whole, length-drop at text)

-- the first token of the text from an offset on is the first from an earlier one
pub record TokenLeft (syn : ConfigSyntax) (text : List ℕ) (from at : ℕ) : Type 0 where
  pub most : ℕ
  pub bound : length (drop at text) ≤ most
  pub same : token_among syn most at (drop at text) ≡ token_in syn text from

pub token_begins : (syn : ConfigSyntax) (text : List ℕ) (from : ℕ) → TokenLeft syn text from from
token_begins syn text from = record { most = length text; bound = omega (arith, length-drop from text); same = refl }

token_first : (syn : ConfigSyntax) (most at : ℕ) (text : List ℕ) (r : Result Lexeme ConfigErrorKind) → 0 < length text → lexeme_in syn text ≡ r
    → token_among syn (suc most) at text ≡ token_by at r (λ n. token_among syn most (at + n) (drop n text))
token_first syn most at [] r some is = absurd (omega (arith, some))
token_first syn most at (c ∷ text) r some is = ap (λ r. token_by at r (λ n. token_among syn most (at + n) (drop n (c ∷ text)))) is

some_left : (text : List ℕ) (at : ℕ) → at < length text → 0 < length (drop at text)
some_left text at lt = omega (arith, lt, length-drop at text)

module _ (syn : ConfigSyntax) (text : List ℕ) (from at : ℕ) (lt : at < length text) where
  gap_by : (l : Lexeme) → 0 < l.len → l.kind ≡ Gap → lexeme_in syn (drop at text) ≡ Ok l → (most : ℕ) → length (drop at text) ≤ most
      → token_among syn most at (drop at text) ≡ token_in syn text from → TokenLeft syn text from (at + l.len)
  gap_by l some gap_lexeme is zero bound same = absurd (omega (arith, bound, some_left text at lt))
  gap_by l some gap_lexeme is (suc most) bound same =
      let rest = drop at text in
      let next : drop l.len rest ≡ drop (at + l.len) text = drop-drop l.len at text in
      let first : token_among syn (suc most) at rest ≡ token_among syn most (at + l.len) (drop (at + l.len) text) =
      token_first syn most at rest (Ok l) (some_left text at lt) is ∙ ap (λ k. token_or_next at k l.len (λ n. token_among syn most (at + n) (drop n rest))) gap_lexeme ∙ ap (token_among syn most (at + l.len)) next in
      record {
        most = most;
        bound = omega (arith, bound, some, length-drop at text, length-drop (at + l.len) text);
        same = sym first ∙ same;
      }

  pub gap_passed : (l : Lexeme) → 0 < l.len → l.kind ≡ Gap → lexeme_in syn (drop at text) ≡ Ok l → TokenLeft syn text from at → TokenLeft syn text from (at + l.len)
  gap_passed l some gap_lexeme is h = gap_by l some gap_lexeme is h.most h.bound h.same

  token_found_by : (l : Lexeme) (k : TokenKind) → l.kind ≡ Token k → lexeme_in syn (drop at text) ≡ Ok l → (most : ℕ) → length (drop at text) ≤ most
      → token_among syn most at (drop at text) ≡ token_in syn text from → Ok (Some (record { kind = k; at = at; end = at + l.len })) ≡ token_in syn text from
  token_found_by l k token is zero bound same = absurd (omega (arith, bound, some_left text at lt))
  token_found_by l k token is (suc most) bound same =
      let rest = drop at text in
      let first : token_among syn (suc most) at rest ≡ Ok (Some (record { kind = k; at = at; end = at + l.len })) =
      token_first syn most at rest (Ok l) (some_left text at lt) is ∙ ap (λ k. token_or_next at k l.len (λ n. token_among syn most (at + n) (drop n rest))) token in
      sym first ∙ same

  pub token_found : (l : Lexeme) (k : TokenKind) → l.kind ≡ Token k → lexeme_in syn (drop at text) ≡ Ok l → TokenLeft syn text from at
      → Ok (Some (record { kind = k; at = at; end = at + l.len })) ≡ token_in syn text from
  token_found l k token is h = token_found_by l k token is h.most h.bound h.same

  lexeme_rejected_by : (k : ConfigErrorKind) → lexeme_in syn (drop at text) ≡ Err k → (most : ℕ) → length (drop at text) ≤ most
      → token_among syn most at (drop at text) ≡ token_in syn text from → Err (error_between at (at + 1) k) ≡ token_in syn text from
  lexeme_rejected_by k is zero bound same = absurd (omega (arith, bound, some_left text at lt))
  lexeme_rejected_by k is (suc most) bound same = sym (token_first syn most at (drop at text) (Err k) (some_left text at lt) is) ∙ same

  pub lexeme_rejected : (k : ConfigErrorKind) → lexeme_in syn (drop at text) ≡ Err k → TokenLeft syn text from at → Err (error_between at (at + 1) k) ≡ token_in syn text from
  lexeme_rejected k is h = lexeme_rejected_by k is h.most h.bound h.same

tokens_ended : (syn : ConfigSyntax) (most at : ℕ) → token_among syn most at [] ≡ Ok None
tokens_ended syn zero at = refl
tokens_ended syn (suc most) at = refl

pub none_left : (syn : ConfigSyntax) (text : List ℕ) (from at : ℕ) → length text ≤ at → TokenLeft syn text from at → Ok None ≡ token_in syn text from
none_left syn text from at le h = sym (tokens_ended syn h.most at) ∙ sym (ap (token_among syn h.most at) (drop_all at text le)) ∙ h.same
