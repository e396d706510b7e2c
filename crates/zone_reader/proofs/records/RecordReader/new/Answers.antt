use Rattle.std.proofs.Common.{refl}
use Rattle.dns_lexer.proofs.OctetsOnce.{are_octets}
use Rattle.zone_reader.proofs.records.RecordReader.new.Goals as goal

pub returns : goal.returns
returns c = record {
  are_octets = are_octets c.args.octets.now (λ k. (c.type_inv.octets k).fits);
  octets_is = refl;
  parts = c.of_octets-source.ensures.parts;
  closed = c.of_octets-source.ensures.closed;
  began = c.of_octets-source.ensures.began;
  taken = c.of_octets-source.ensures.taken;
  state_is = refl;
}
