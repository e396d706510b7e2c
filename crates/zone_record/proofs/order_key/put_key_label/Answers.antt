use Rattle.std.proofs.Common.{length, take, ap, arith, length-append}
use Rattle.std.specs.List.{flat_map}
use Rattle.dns_octets.specs.Lowered.{lowered}
use Rattle.zone_record.specs.Keys.{key_octets}
use Rattle.zone_record.proofs.KeyRooms.{octet_room}
use Rattle.zone_record.proofs.order_key.put_key_label.Goals as goal

pub put_key_octet-requires : goal.put_key_octet-requires
put_key_octet-requires c =
    let label = c.args.label.now in
    let i = c.loop-octet.octet-index in
    omega (
      arith,
      c.requires,
      octet_room label i 0 c.loop-octet-test.true,
      ap length c.loop-octet.invariant,
      length-append c.args.key.now.items (flat_map key_octets (lowered (take i label))),
      ap (λ o. length (key_octets o)) c.to_ascii_lowercase.ensures.value,
    )
