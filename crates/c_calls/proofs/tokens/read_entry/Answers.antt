use Rattle.std.proofs.Common.{◌++◌, ◌∷◌, [], ap, sym, ◌∙◌}
use Rattle.c_calls.proofs.LeftOpen.{leaves_open}
use Rattle.c_calls.proofs.Written.{one_more, put_more, count_more}
use Rattle.c_calls.specs.Entries.{tokens_of}
use Rattle.c_calls.proofs.tokens.read_entry.Goals as goal

pub loop-token-preserved-in-Token : goal.loop-token-preserved-in-Token
loop-token-preserved-in-Token c =
    let i = c.loop-token.invariant in
    let t = c.in-Token.token in
    let s = rw c.in-Token.is at c.next_step.ensures in (
      i.0 ++ t ∷ [],
      i.1 ∙ ap (λ l. i.0 ++ l) s.0 ∙ one_more i.0 (tokens_of c.next_step.new.pieces) t,
      i.2 ∙ s.1,
      count_more i.0 c.loop-token.count c.saturating_add-count.result t i.3 c.saturating_add-count.ensures,
      c.put_token.ensures.put ∙ put_more i.0 c.args.tokens.now c.loop-token.tokens c.loop-token.count t i.4 i.3 c.put_token.ensures.few,
    )

pub returns-in-EntryEnd-clause-open : goal.returns-in-EntryEnd-clause-open
returns-in-EntryEnd-clause-open c =
    let s = rw c.in-EntryEnd.is at c.next_step.ensures in
    leaves_open c.args.text.now c.args.at _ c.in-EntryEnd.stop c.of_octets_starting_at-pieces.ensures.reads (sym s.1 ∙ sym c.loop-token.invariant.2)
