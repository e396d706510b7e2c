use Rattle.std.proofs.Common.{◌∙◌, ap, refl, ◌++◌, arith}
use Rattle.rdata.proofs.HostWire.{put_count}
use Rattle.rdata.proofs.host_identities.set_count.Goals as goal

pub returns : goal.returns
returns g c = λ front back a b is at.
    let old = g.B.AsOctets.octets c.args.target.now in
    let slice = c.as_slice_mut-octets.result.now in
    g.met.B.AsOctetsMut.octets_with c.args.target.now _
    ∙ put_count old slice front back c.copy_from_slice.new.self a b c.args.at c.as_slice_mut-octets.ensures.value is at (omega (arith, c.copy_from_slice.ensures.len))
    ∙ ap (λ new. front ++ (new ++ back)) (c.copy_from_slice.ensures.after ∙ c.to_be_bytes.ensures)
