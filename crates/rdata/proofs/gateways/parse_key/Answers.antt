use Rattle.rdata.proofs.GatewayLaws.{any_key, own_key}
use Rattle.rdata.proofs.gateways.parse_key.Goals as goal

pub returns-then-algorithm-eq0-clause-takes : goal.returns-then-algorithm-eq0-clause-takes
returns-then-algorithm-eq0-clause-takes g c = any_key g.B.OctetsBuilder.room c.args.algorithm _ _ _ c.if-algorithm-eq0.true c.parse_digits.result _ _ c.parse_digits.ensures.takes

pub returns-else-algorithm-eq0-clause-takes : goal.returns-else-algorithm-eq0-clause-takes
returns-else-algorithm-eq0-clause-takes g c = own_key g.B.OctetsBuilder.room c.args.algorithm _ _ _ c.if-algorithm-eq0.false c.parse_some_digits.result _ _ c.parse_some_digits.ensures.takes
