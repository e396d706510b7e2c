use Rattle.std.proofs.Common.{◌==◌, ap, ◌∙◌, arith, w8}
use lib.Count.{ones}
use lib.Lanes.{chunk}
use Rattle.std.proofs.lemmas.Simd.{bitmask_splat, length-chunk, ones-mask_l}
use Rattle.zone_format.proofs.place.feeds_in.Goals as goal

pub returns : goal.returns
returns c =
    let load = chunk c.args.at 16 c.args.octets.now in
    ap ones (bitmask_splat w8 (λ a b. a == b) load 16 10 (length-chunk c.args.at 16 c.args.octets.now c.requires) (omega arith)) ∙ ones-mask_l (λ x. x == 10) load
