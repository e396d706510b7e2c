use Rattle.rdata_svcb.proofs.ValueRefusals.{digits_refused, octets_refused}
use Rattle.rdata_svcb.proofs.values.append_value.Goals as goal

pub returns-in-Digits-clause-err : goal.returns-in-Digits-clause-err
returns-in-Digits-clause-err g c = rw c.in-Digits.is (digits_refused _ g.B.OctetsBuilder.room c.args.text.now (g.B.AsOctets.octets c.args.target.now) c.append_base64.ensures.err)

pub returns-in-Ipv6-clause-err : goal.returns-in-Ipv6-clause-err
returns-in-Ipv6-clause-err g c = rw c.in-Ipv6.is c.append_each-in-Ipv6.ensures.err

pub returns-in-Octets-clause-err : goal.returns-in-Octets-clause-err
returns-in-Octets-clause-err g c = rw c.in-Octets.is (octets_refused _ g.B.OctetsBuilder.room c.args.text.now (g.B.AsOctets.octets c.args.target.now) c.append_spelled.ensures.err)
