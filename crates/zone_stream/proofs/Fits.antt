-- The next token of an entry, with its offset among all octets.
use Rattle.std.proofs.Common.{◌≡◌, ℕ, ◌+◌, ◌<◌, ◌^◌, List, [], ◌∷◌, sym, ap, ◌∙◌, subst}
use Rattle.std.specs.Prelude.{Option, Some, option_map, slice_get}
use Rattle.std.proofs.lemmas.Option.{slice_get-map}
use Rattle.dns_lexer.specs.declared.entry_tokens.EntryToken.{EntryToken}
use Rattle.dns_lexer.specs.EntryTokens.{TokenSeen, token_seen}
use Rattle.zone_reader.specs.TapeSource.{token_after, tokens_after}
use Rattle.zone_stream.specs.Placed.{EachFitsFrom}

module _ (base : ℕ) (left : List TokenSeen) where
  pub first_fits : (t : EntryToken) → option_map token_seen (Some t) ≡ slice_get left 0 → EachFitsFrom base left → base + t.at < 2 ^ 64
  first_fits t e f = go left e f
    where
      go : (left : List TokenSeen) → option_map token_seen (Some t) ≡ slice_get left 0 → EachFitsFrom base left → base + t.at < 2 ^ 64
      go [] e f = cc
      go (u ∷ us) e f =
          let same : u ≡ token_seen t = cc in
          subst (λ (x : TokenSeen). base + x.at < 2 ^ 64) same f.0

  pub first_after : (t : Option EntryToken) → option_map token_seen t ≡ slice_get left 0 → option_map (token_after base) (option_map token_seen t) ≡ slice_get (tokens_after base left) 0
  first_after t e = ap (option_map (token_after base)) e ∙ sym (slice_get-map (token_after base) left 0)
