use Rattle.std.proofs.Common.{◌≡◌, ◌*◌, ◌/◌, length, take}
use Rattle.std.proofs.lemmas.List.{length-take-le}
use Rattle.rdata_tokens.proofs.GroupLemmas.{block_spells}
use Rattle.rdata_tokens.proofs.groups.read_base64_block.Goals as goal

pub returns-then-count-text : goal.returns-then-count-text
returns-then-count-text c =
    let read = c.in_ok-count.ensures.read in
    let len = length-take-le c.in_ok-count.count c.decode_slice.new.octets read.1 in
    let fills : length (take c.in_ok-count.count c.decode_slice.new.octets) / 3 * 4 ≡ length c.args.text.now = rw len c.if-count-text.true in
    let spells = block_spells c.args.text.now (take c.in_ok-count.count c.decode_slice.new.octets) read.0 fills in
    (spells.0, read.1, spells.1)
