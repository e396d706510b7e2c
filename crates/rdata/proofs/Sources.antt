-- The unread tokens of a source.
use Rattle.std.proofs.Common.{◌≡◌, ◌≢◌, List, [], ◌∷◌, sym, true, true≢false, Option, Some, None}
use Rattle.std.proofs.lemmas.Option.{none-some}
use Rattle.std.specs.Prelude.{slice_get, option_map, is_some}
use Rattle.dns_lexer.specs.EntryTokens.{TokenSeen, token_seen}
use Rattle.dns_lexer.specs.declared.entry_tokens.EntryToken.{EntryToken}

pub some_left : (o : Option EntryToken) (left : List TokenSeen) → option_map token_seen o ≡ slice_get left 0 → is_some o ≡ true → left ≢ []
some_left None left h some = absurd (true≢false (sym some))
some_left (Some t) [] h some = absurd (none-some (token_seen t) (sym h))
some_left (Some t) (u ∷ left) h some = λ is. cc is
