use Rattle.std.proofs.Common.{◌≡◌, ◌∙◌, ◌++◌, ap, arith, take, length}
use Rattle.std.specs.Str.{chars}
use Rattle.dns_codec.proofs.Short.{chars_decodes, wants_room}
use Rattle.dns_codec.proofs.decoder.decode_short.Goals as goal

pub returns-in-Ok : goal.returns-in-Ok
returns-in-Ok g c =
    let value : g.B.Octets.AsOctets.octets c.freeze.result ≡ take c.in_ok-count.count c.decode_slice.new.octets =
    c.freeze.ensures ∙ (c.in-Ok.ensures.ok ∙ ap (λ xs. xs ++ take c.in_ok-count.count c.decode_slice.new.octets) c.with_room-builder.ensures) in
    let decodes = rw c.as_bytes.ensures.value at c.in_ok-count.ensures.read.0 in
    rw value (chars_decodes g.K.Encoding.base g.met.K.Encoding.known c.args.s.now _ decodes)

pub returns-in-Err : goal.returns-in-Err
returns-in-Err g c =
    let b = g.K.Encoding.base in
    let known = g.met.K.Encoding.known in
    let octets = take c.in_ok-count.count c.decode_slice.new.octets in
    let decodes = rw c.as_bytes.ensures.value at c.in_ok-count.ensures.read.0 in
    wants_room b known g.B.OctetsBuilder.room (chars c.args.s.now) octets (chars_decodes b known c.args.s.now octets decodes)
    (λ fits. let none = ap length c.with_room-builder.ensures in let ok = c.in-Err.ensures.fits (omega (arith, none, fits)) in cc ok)
