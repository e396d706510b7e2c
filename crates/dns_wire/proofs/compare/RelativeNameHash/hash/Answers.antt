use Rattle.std.proofs.Common.{◌∙◌, ap, fold}
use Rattle.std.specs.List.{flat_map}
use Rattle.std.specs.Hash as fed
use Rattle.dns_octets.specs.Lowered.{lowered}
use Rattle.dns_wire.proofs.Comparing.{lowered_wire_is}
use Rattle.dns_wire.proofs.compare.RelativeNameHash.hash.Goals as goal

pub returns : goal.returns
returns g c =
    c.hash_lowered.ensures
    ∙ ap (λ x. fold g.H.Hasher.write c.args.state.now (flat_map fed.u8 x))
    (ap lowered c.as_slice.ensures.value ∙ lowered_wire_is c.args.self.now c.as_slice.ensures.is_name.short)
