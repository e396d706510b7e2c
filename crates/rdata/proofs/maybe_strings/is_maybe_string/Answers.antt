use Rattle.std.proofs.Common.{◌∙◌, length, sym}
use Rattle.std.proofs.lemmas.Bool.{eqb-false}
use Rattle.std.proofs.lemmas.List.{get_or_default}
use Rattle.rdata.proofs.MaybeStringLaws.{string_test}
use Rattle.rdata.proofs.maybe_strings.is_maybe_string.Goals as goal

pub returns : goal.returns
returns c =
    let octets = c.args.octets.now in
    let some = eqb-false (length octets) 0 (sym c.is_empty.ensures ∙ c.if-is_empty.false) in
    string_test c.from.result octets (λ k d h. rw (get_or_default octets k d 0 h) (c.type_inv.octets k).fits) some c.from.ensures
