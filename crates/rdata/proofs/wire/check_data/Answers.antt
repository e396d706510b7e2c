use Rattle.std.proofs.Common.{◌∙◌, sym, subst, true≢false}
use Rattle.rdata.specs.RestKinds.{IsRestOf}
use Rattle.rdata.proofs.FieldFronts.{fields_begin_once}
use Rattle.rdata.proofs.wire.check_data.Goals as goal

pub returns-else-is_any_rest : goal.returns-else-is_any_rest
returns-else-is_any_rest c =
    let shape = c.args.shape.now in
    let rest = c.in-Some.rest.now in (
      λ is. absurd (true≢false (sym is ∙ c.if-is_any_rest.false)),
      λ h. c.is_any_rest.ensures.1 (subst (IsRestOf shape.rest) (fields_begin_once shape.fields.now c.args.octets.now h.back rest h.fields c.in-Some.ensures) h.rest),
    )
