use Rattle.rdata_svcb.proofs.ParamRefusals.{settled_ok, settled_err}
use Rattle.rdata_svcb.proofs.parsing.parse_value.Goals as goal

pub returns-clause-ok : goal.returns-clause-ok
returns-clause-ok g c =
    let octets = g.B.AsOctets.octets in let ok = c.in_ok-append_value.ensures.ok in
    settled_ok c.args.start c.args.at ok.0 (octets c.args.target.now) (octets c.append_value.new.target) (octets c.settle.new.target) ok.2 c.args.kind c.args.text.now _ ok.1 c.settle.ensures.settled

pub returns-clause-err : goal.returns-clause-err
returns-clause-err g c =
    let octets = g.B.AsOctets.octets in let ok = c.in_ok-append_value.ensures.ok in
    settled_err c.args.start c.args.at ok.0 (octets c.args.target.now) (octets c.append_value.new.target) (octets c.settle.new.target) ok.2 g.B.OctetsBuilder.room c.args.kind c.args.text.now _ ok.1
    c.settle.ensures.settled
