use Rattle.dns_codec.specs.Base.{base16}
use Rattle.dns_codec.proofs.Vectors.{may_look_up, looked_up}
use Rattle.dns_codec.proofs.lanes16.characters.Goals as goal

pub swizzle : goal.swizzle
swizzle c = may_look_up c.args.digits c.fits-digits.0 c.requires

pub returns : goal.returns
returns c = looked_up base16.alphabet c.args.digits c.fits-digits.0 c.requires
