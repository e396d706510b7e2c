use Rattle.std.proofs.Common.{rules, string_bytes}
use Rattle.std.proofs.lemmas.Result.{IfOk-weaker}
use Rattle.dns_laws.proofs.DocumentLayouts.{text_only, text_tight}
use Rattle.dns_laws.proofs.layouts.values_split.Goals as goal

pub returns-clause-text : goal.returns-clause-text
returns-clause-text g c = search rules

pub returns-clause-meaning : goal.returns-clause-meaning
returns-clause-meaning g c = IfOk-weaker c.to_string.result _ _ (λ s is w e. text_only c.args.kind (g.T.ZonefileFmt.document c.args.value.now) (string_bytes s) is e w) (returns-clause-text g c)

pub returns-clause-tight : goal.returns-clause-tight
returns-clause-tight g c = IfOk-weaker c.to_string.result _ _ (λ s is w. text_tight c.args.kind (g.T.ZonefileFmt.document c.args.value.now) (string_bytes s) is w) (returns-clause-text g c)
