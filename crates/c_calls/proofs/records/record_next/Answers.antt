use Rattle.std.proofs.Common.{◌∙◌, subst}
use Rattle.c_calls.specs.Records.{NextRecord, memory}
use Rattle.c_calls.proofs.records.record_next.Goals as goal

pub returns-in-Some-next_of_any : goal.returns-in-Some-next_of_any
returns-in-Some-next_of_any c =
    let next = c.next_of_any in
    subst (λ before. NextRecord c.args.text.now (record { before = before; after = memory next.new.zone next.new.found next.new.octets; status = c.in-Some-next_of_any.status; outcome = next.new.outcome }))
    (c.in_default.ensures 0) c.in-Some-next_of_any.ensures

pub returns : goal.returns
returns c =
    let next = c.next_with_all_room in
    subst (λ before. NextRecord c.args.text.now (record { before = before; after = memory next.new.zone next.new.found next.new.octets; status = next.result; outcome = next.new.outcome }))
    (c.in_default-next_of_any.ensures 0 ∙ c.in_default.ensures 0) next.ensures
