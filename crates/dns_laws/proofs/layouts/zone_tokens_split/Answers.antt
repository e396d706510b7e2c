use Rattle.std.proofs.lemmas.Result.{IfOk-weaker}
use Rattle.dns_laws.proofs.layouts.zone_tokens_split.Goals as goal

pub returns-clause-meaning : goal.returns-clause-meaning
returns-clause-meaning g c =
    IfOk-weaker c.values_split.result _ _ (λ s splits. splits (g.met.T.ZoneTokens.formed c.args.value.now c.known.ensures)) c.values_split.ensures.meaning

pub returns-clause-tight : goal.returns-clause-tight
returns-clause-tight g c =
    IfOk-weaker c.values_split.result _ _ (λ s tight. tight (g.met.T.ZoneTokens.formed c.args.value.now c.known.ensures)) c.values_split.ensures.tight
