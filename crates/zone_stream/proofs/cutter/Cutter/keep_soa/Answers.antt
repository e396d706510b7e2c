use Rattle.std.proofs.Common.{rules}
use Rattle.std.proofs.lemmas.Bool.{iff_false}
use Rattle.zone_stream.proofs.RepeatedSoa.{passed, stored}
use Rattle.zone_stream.proofs.cutter.Cutter.keep_soa.Goals as goal

pub returns-in-Some-clause-keeps : goal.returns-in-Some-clause-keeps
returns-in-Some-clause-keeps g c = search (rules, stored)

pub returns-else-must_store-clause-keeps : goal.returns-else-must_store-clause-keeps
returns-else-must_store-clause-keeps g c before h =
    passed before c.args.given.now c.args.self.now.repeats_soa c.args.self.now.soa (iff_false c.must_store.ensures c.if-must_store.false) h
