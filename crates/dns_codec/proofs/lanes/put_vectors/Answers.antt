use Rattle.std.proofs.Common.{◌≡◌, ◌*◌, ◌<◌, refl, arith}
use Rattle.dns_codec.proofs.Encoding.{digits-nil}
use Rattle.dns_codec.proofs.lanes.put_vectors.Goals as goal

pub returns-in_default-clause-text : goal.returns-in_default-clause-text
returns-in_default-clause-text g c =
    let e : 0 * g.K.Encoding.CHARS ≡ 0 = omega arith in
    let f : 0 * g.K.Encoding.OCTETS ≡ 0 = omega arith in
    let some : 0 < g.K.Encoding.BITS = let n = g.met.K.Encoding.shape.low in omega arith in
    rw (e, f, digits-nil g.K.Encoding.BITS some) refl

pub returns-in_default-2-clause-text : goal.returns-in_default-2-clause-text
returns-in_default-2-clause-text g c =
    let e : 0 * g.K.Encoding.CHARS ≡ 0 = omega arith in
    let f : 0 * g.K.Encoding.OCTETS ≡ 0 = omega arith in
    let some : 0 < g.K.Encoding.BITS = let n = g.met.K.Encoding.shape.low in omega arith in
    rw (e, f, digits-nil g.K.Encoding.BITS some) refl
