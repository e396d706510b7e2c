use Rattle.std.proofs.Common.{true≢false, sym, ◌∙◌}
use Rattle.zone_record.proofs.CanonicalForms.{fields_kept}
use Rattle.zone_record.proofs.canonical.lowered_fields.Goals as goal

pub returns-then-not-lowers_names : goal.returns-then-not-lowers_names
returns-then-not-lowers_names c = fields_kept c.args.rtype c.args.octets.now (λ h. true≢false (sym (c.lowers_names.ensures.1 h) ∙ c.if-not-lowers_names.true))
