use Rattle.std.proofs.Common.{◌∙◌, ap}
use Rattle.std.specs.Prelude.{not}
use Rattle.zone_reader.specs.HeaderWords.{TokenIsTtl, TokenIsClass}
use Rattle.zone_reader.proofs.HeadLemmas.{ttl_first, class_first}
use Rattle.zone_reader.proofs.header.parse_ttl_and_class.Goals as goal

pub returns-in-Some-clause-takes : goal.returns-in-Some-clause-takes
returns-in-Some-clause-takes g c =
    let left = g.S.TokenSource.left in
    ttl_first TokenIsTtl TokenIsClass c.in-Some.ttl (left c.args.source.now) (left c.parse_ttl.new.source) (left c.parse_class-class.new.source) c.parse_class-class.result c.in-Some.ensures.takes c.parse_class-class.ensures.takes

pub returns-clause-takes : goal.returns-clause-takes
returns-clause-takes g c =
    let left = g.S.TokenSource.left in
    class_first TokenIsTtl TokenIsClass (left c.args.source.now) (left c.parse_ttl.new.source) (left c.parse_class-class-2.new.source) (left c.parse_ttl-ttl.new.source) c.parse_ttl-ttl.result c.parse_class-class-2.result
    c.in_default.ensures.takes (c.is_none.ensures ∙ ap not c.if-is_none.false) c.parse_class-class-2.ensures.takes c.parse_ttl-ttl.ensures.takes
