use Rattle.std.proofs.Common.{◌≡◌, ◌+◌, ◌*◌, ◌-◌, arith, refl}
use Rattle.dns_codec.proofs.Groups.{group_step, group_without}
use Rattle.dns_codec.proofs.read.read_group.Goals as goal

pub returns-in_default-clause-without : goal.returns-in_default-clause-without
returns-in_default-clause-without g c = λ no all.
    let from = c.args.count * g.K.Encoding.CHARS in
    let same : from + g.K.Encoding.CHARS - from ≡ g.K.Encoding.CHARS = omega arith in
    absurd (group_without g.K.Encoding.BITS from g.K.Encoding.CHARS _ g.K.Encoding.table c.args.text.now same (rw c.CHARS-size.ensures at c.in_default.ensures.none) all)

pub returns-clause-values : goal.returns-clause-values
returns-clause-values g c = λ yes.
    let from = c.args.count * g.K.Encoding.CHARS in
    let same : from + g.K.Encoding.CHARS - from ≡ g.K.Encoding.CHARS = omega arith in
    (group_step g.K.Encoding.BITS g.K.Encoding.CHARS g.K.Encoding.OCTETS c.args.count from (c.args.count * g.K.Encoding.OCTETS) _ c.in-Some.number g.K.Encoding.table c.args.text.now
    c.args.octets.now c.put_octets.new.octets g.met.K.Encoding.shape.even refl c.requires.text same (rw c.CHARS-size.ensures at c.in-Some.ensures.number) c.requires.values c.requires.octets
    (rw c.OCTETS-group.ensures at c.put_octets.ensures)).0

pub returns-clause-octets : goal.returns-clause-octets
returns-clause-octets g c = λ yes.
    let from = c.args.count * g.K.Encoding.CHARS in
    let same : from + g.K.Encoding.CHARS - from ≡ g.K.Encoding.CHARS = omega arith in
    (group_step g.K.Encoding.BITS g.K.Encoding.CHARS g.K.Encoding.OCTETS c.args.count from (c.args.count * g.K.Encoding.OCTETS) _ c.in-Some.number g.K.Encoding.table c.args.text.now
    c.args.octets.now c.put_octets.new.octets g.met.K.Encoding.shape.even refl c.requires.text same (rw c.CHARS-size.ensures at c.in-Some.ensures.number) c.requires.values c.requires.octets
    (rw c.OCTETS-group.ensures at c.put_octets.ensures)).1
