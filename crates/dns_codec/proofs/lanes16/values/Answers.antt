use Rattle.std.proofs.Common.{refl}
use Rattle.std.proofs.lemmas.Simd.{splat_is_map, zip2_of_maps, zip2_splat}
use Rattle.dns_codec.specs.declared.read.TheConstants.{VALUES16}
use Rattle.dns_codec.proofs.Vectors.{by_table, octets_fit, sel_of_maps}
use Rattle.dns_codec.proofs.lanes16.values.Goals as goal

pub returns : goal.returns
returns c =
    let v = c.args.text in
    let long = c.fits-text.0 in
    let digit = zip2_splat _ v 16 48 long in
    by_table 256 VALUES16 v _ _ (octets_fit v c.fits-text.1) (sel_of_maps _ _ _ v (zip2_of_maps _ _ _ v digit (splat_is_map v 16 10 long)) digit
    (sel_of_maps _ _ _ v (zip2_of_maps _ _ _ v (zip2_of_maps _ _ _ v (zip2_splat _ v 16 32 long) (splat_is_map v 16 97 long)) (splat_is_map v 16 6 long))
    (zip2_of_maps _ _ _ v (zip2_of_maps _ _ _ v (zip2_splat _ v 16 32 long) (splat_is_map v 16 97 long)) (splat_is_map v 16 10 long)) (splat_is_map v 16 255 long))) refl
