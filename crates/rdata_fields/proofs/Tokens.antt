-- The next token of a source.
use Rattle.std.proofs.Common.{◌≡◌, List, [], ◌∷◌, drop, ap, sym, refl, false, true≢false, Option, Some, None}
use Rattle.std.proofs.lemmas.Option.{none-some}
use Rattle.std.specs.Prelude.{slice_get, unwrap_or, option_map, is_some}
use Rattle.dns_lexer.specs.EntryTokens.{TokenSeen, token_seen}
use Rattle.dns_lexer.specs.declared.entry_tokens.EntryToken.{EntryToken}

pub first_taken : (t : TokenSeen) (tokens : List TokenSeen) → Some t ≡ slice_get tokens 0 → tokens ≡ t ∷ drop 1 tokens
first_taken t [] h = absurd (none-some t (sym h))
first_taken t (u ∷ tokens) h = ap (λ o. unwrap_or o t ∷ tokens) (sym h)

pub none_left : (o : Option EntryToken) (left : List TokenSeen) → option_map token_seen o ≡ slice_get left 0 → is_some o ≡ false → left ≡ []
none_left o [] h none = refl
none_left None (u ∷ left) h none = absurd (none-some u h)
none_left (Some t) (u ∷ left) h none = absurd (true≢false none)
