use Rattle.std.proofs.Common.{◌∙◌, ap, Some}
use Rattle.std.specs.Prelude.{Ok}
use Rattle.zone_reader.proofs.Passing.{begins_fault, begins_none, begins_token, passes_end}
use Rattle.zone_reader.proofs.source.EntrySource.begin.Goals as goal

pub returns-in-Some-Ok-Token : goal.returns-in-Some-Ok-Token
returns-in-Some-Ok-Token c =
    let me = c.self.inside in
    let some = c.in-Some-Ok-Token.is in
    let ok = rw some at c.in-Some-Ok-Token.field-0-is in
    let token = rw ok at (rw some at c.in-Some-Ok-Token.field-0-0-is) in
    begins_token _ c.entries.self c.finish.new.self c.in_ok-finish.field-0 me.began me.taken me.next c.next_token-self-inside.result me.tokens c.next_token-self-inside.new.self
    c.entries.invariant c.in_ok-finish.ensures c.self.view_is c.next_token-self-inside.ensures.takes c.next_token-self-inside.ensures.entries
    c.in-Some-Ok-Token.field-0-0-0 c.in-Some-Ok-Token.begins_blank (some ∙ ap Some (ok ∙ ap Ok token))

pub entries-preserved : goal.entries-preserved
entries-preserved c =
    let me = c.self.inside in
    let some = c.in-Some-Ok-End.is in
    let ok = rw some at c.in-Some-Ok-End.field-0-is in
    let end = rw ok at (rw some at c.in-Some-Ok-End.field-0-0-is) in
    passes_end _ c.entries.self c.finish.new.self c.in_ok-finish.field-0 me.began me.taken me.next c.next_token-self-inside.result me.tokens c.next_token-self-inside.new.self
    c.entries.invariant c.in_ok-finish.ensures c.self.view_is c.next_token-self-inside.ensures.takes c.next_token-self-inside.ensures.entries
    c.in-Some-Ok-End.field-0-0-0 (some ∙ ap Some (ok ∙ ap Ok end))

pub returns-in-Some-Err : goal.returns-in-Some-Err
returns-in-Some-Err c =
    let me = c.self.inside in
    begins_fault _ c.entries.self c.finish.new.self c.in_ok-finish.field-0 me.began me.taken me.next c.next_token-self-inside.result me.tokens c.next_token-self-inside.new.self
    c.entries.invariant c.in_ok-finish.ensures c.self.view_is c.next_token-self-inside.ensures.takes c.next_token-self-inside.ensures.entries
    c.in-Some-Err.fault (c.in-Some-Err.is ∙ ap Some (rw c.in-Some-Err.is at c.in-Some-Err.field-0-is))

pub returns-in-None : goal.returns-in-None
returns-in-None c =
    let me = c.self.inside in
    begins_none _ c.entries.self c.finish.new.self c.in_ok-finish.field-0 me.began me.taken me.next c.next_token-self-inside.result me.tokens c.next_token-self-inside.new.self
    c.entries.invariant c.in_ok-finish.ensures c.self.view_is c.next_token-self-inside.ensures.takes c.next_token-self-inside.ensures.entries
    c.in-None.is
