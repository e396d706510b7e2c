use Rattle.rdata_tokens.proofs.GroupLemmas.{hex_read}
use Rattle.std.proofs.Common.{length}
use Rattle.rdata_tokens.proofs.groups.read_hex.Goals as goal

pub returns : goal.returns
returns c = hex_read c.args.text.now c.decode_slice.new.octets (length c.args.octets.now) c.decode_slice.result c.requires c.decode_slice.ensures.read c.decode_slice.ensures.refused
