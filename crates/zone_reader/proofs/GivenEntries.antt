-- What is read of the entries that a list was filled with.
use Rattle.std.proofs.Common.{◌≡◌, Bool, List, [], ◌∷◌, ◌++◌, refl, ap, ◌∙◌, append-nil, Some}
use Rattle.std.specs.Prelude.{map, Ok, Err}
use Rattle.dns_lexer.specs.declared.pieces.EndOfEntry.{EndOfEntry}
use Rattle.dns_lexer.specs.declared.pieces.Fault.{Fault}
use Rattle.dns_lexer.specs.declared.entry_tokens.EntryToken.{EntryToken}
use Rattle.dns_lexer.specs.declared.entry_tokens.NextEntryError.TheVariants.{BadText}
use Rattle.dns_lexer.specs.EntryTokens.{EndIs, ReturnsEntry, token_seen, tokens_seen}
use Rattle.zone_reader.specs.Source.{parts_after_tokens, tokens_first}
use Rattle.zone_reader.proofs.SeenParts.{Parts}

first_given : (blank : Bool) (tokens : List EntryToken) (rest : Parts) → tokens_first (tokens_seen blank tokens ++ rest) ≡ map token_seen tokens ++ tokens_first rest
first_given blank [] rest = refl
first_given blank (t ∷ tokens) rest = ap (λ l. token_seen t ∷ l) (first_given blank tokens rest)

behind_given : (blank : Bool) (tokens : List EntryToken) (rest : Parts) → parts_after_tokens (tokens_seen blank tokens ++ rest) ≡ parts_after_tokens rest
behind_given blank [] rest = refl
behind_given blank (t ∷ tokens) rest = behind_given blank tokens rest

pub entry_given : (old new : Parts) (tokens : List EntryToken) (end : EndOfEntry) → ReturnsEntry old tokens (Ok (Some end)) new
    → (tokens_first old ≡ map token_seen tokens) × (parts_after_tokens old ≡ Ok (EndIs end) ∷ new)
entry_given old new tokens end g = (
  ap tokens_first g ∙ first_given end.begins_blank tokens (Ok (EndIs end) ∷ new) ∙ append-nil (map token_seen tokens),
  ap parts_after_tokens g ∙ behind_given end.begins_blank tokens (Ok (EndIs end) ∷ new),
)

pub fault_given : (old new : Parts) (tokens : List EntryToken) (fault : Fault) → ReturnsEntry old tokens (Err (BadText fault)) new
    → (tokens_first old ≡ map token_seen tokens) × (parts_after_tokens old ≡ Err fault ∷ [])
fault_given old new tokens fault g = (
  ap tokens_first g.1 ∙ first_given g.0 tokens (Err fault ∷ new) ∙ append-nil (map token_seen tokens),
  ap parts_after_tokens g.1 ∙ behind_given g.0 tokens (Err fault ∷ new) ∙ ap (λ l. Err fault ∷ l) g.2,
)
