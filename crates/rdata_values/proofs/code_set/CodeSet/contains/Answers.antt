use Rattle.std.proofs.Common.{◌∙◌, ap, arith}
use Rattle.rdata_values.specs.Bitmap.{has, bit_in}
use Rattle.rdata_values.proofs.Sets.{bit_of}
use Rattle.rdata_values.proofs.code_set.CodeSet.contains.Goals as goal

pub returns : goal.returns
returns c =
    bit_of c.is_set.result c.self.inside.octets c.args.code (omega (arith, c.ranges.code.fits)) (c.is_set.ensures ∙ ap (bit_in c.self.inside.octets) c.from.ensures)
    ∙ ap (λ ts. has ts c.args.code) c.self.view_is
