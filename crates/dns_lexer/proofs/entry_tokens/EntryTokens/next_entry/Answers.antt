use Rattle.std.proofs.Common.{◌≡◌, ◌∷◌, ap, ◌∙◌}
use Rattle.std.specs.Prelude.{Ok}
use Rattle.dns_lexer.specs.EntryTokens.{TokenIs, answer_seen, token_seen}
use Rattle.dns_lexer.proofs.Gathering.{gives_room}
use Rattle.dns_lexer.proofs.entry_tokens.EntryTokens.next_entry.Goals as goal

pub returns-then-is_err : goal.returns-then-is_err
returns-then-is_err g c =
    let given = c.in-Some-Ok-Token in
    let left = c.next_token.new.self in
    let is : c.tokens.self ≡ Ok (TokenIs (token_seen given.token) given.field-0-0-1) ∷ left
    = given.ensures.takes ∙ ap (λ x. answer_seen x ∷ left) (given.field-0-is ∙ ap Ok given.field-0-0-is) in (
      c.clear-then-is_err.ensures.items,
      c.again-begun.ensures.same,
      gives_room c.args.self.now c.tokens.self left c.tokens.tokens.items c.tokens.invariant.gathers given.token given.field-0-0-1 is,
    )
