use Rattle.std.proofs.Common.{ap, ◌∙◌}
use Rattle.std.specs.Net.Addr.{octets_of, segments_of}
use Rattle.rdata_fields.specs.WordLaws.{segments_back}
use Rattle.rdata_fields.proofs.words.Ipv6ShownWord.from_wire.Goals as goal

pub returns-clause-wire : goal.returns-clause-wire
returns-clause-wire c = ap octets_of (c.from_octets.ensures ∙ ap segments_of c.array_of.ensures) ∙ segments_back 8 c.args.octets.now c.requires
