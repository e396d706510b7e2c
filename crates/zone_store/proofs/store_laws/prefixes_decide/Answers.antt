use Rattle.zone_store.proofs.KeyPrefixes.{prefixes_decide, rests_decide}
use Rattle.zone_store.proofs.store_laws.prefixes_decide.Goals as goal

pub returns-clause-whole : goal.returns-clause-whole
returns-clause-whole c = prefixes_decide

pub returns-clause-rest : goal.returns-clause-rest
returns-clause-rest c n a b h k = rests_decide n a b h k
