use Rattle.std.proofs.Common.{sym, subst}
use Rattle.dns_lexer.specs.Splitting.{Splits}
use Rattle.dns_lexer.proofs.Complete.{one_way}
use Rattle.dns_lexer.proofs.Entries.{splits_into_tokens, entries_of_tokens}
use Rattle.dns_lexer.proofs.splitting.split.Goals as goal

pub returns-clause-only : goal.returns-clause-only
returns-clause-only g c =
    let is = c.in-Ok.ensures in
    λ e. (λ s. one_way c.args.text.now _ _ s is, λ same. subst (Splits c.args.text.now) (sym same) is)

pub returns-clause-tokens : goal.returns-clause-tokens
returns-clause-tokens g c = entries_of_tokens _ (splits_into_tokens c.args.text.now _ c.in-Ok.ensures)
