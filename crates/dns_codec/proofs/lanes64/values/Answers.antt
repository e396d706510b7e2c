use Rattle.std.proofs.Common.{refl}
use Rattle.std.proofs.lemmas.Simd.{splat_is_map, zip2_of_maps, zip2_splat}
use Rattle.dns_codec.specs.declared.read.TheConstants.{VALUES64}
use Rattle.dns_codec.proofs.Vectors.{by_table, octets_fit, sel_of_maps}
use Rattle.dns_codec.proofs.lanes64.values.Goals as goal

pub returns : goal.returns
returns c =
    let v = c.args.text in
    let long = c.fits-text.0 in
    let capital = zip2_splat _ v 16 65 long in
    let small = zip2_splat _ v 16 97 long in
    let decimal = zip2_splat _ v 16 48 long in
    by_table 256 VALUES64 v _ _ (octets_fit v c.fits-text.1)
    (sel_of_maps _ _ _ v (zip2_of_maps _ _ _ v capital (splat_is_map v 16 26 long)) capital
    (sel_of_maps _ _ _ v (zip2_of_maps _ _ _ v small (splat_is_map v 16 26 long)) (zip2_of_maps _ _ _ v small (splat_is_map v 16 26 long))
    (sel_of_maps _ _ _ v (zip2_of_maps _ _ _ v decimal (splat_is_map v 16 10 long)) (zip2_of_maps _ _ _ v decimal (splat_is_map v 16 52 long))
    (sel_of_maps _ _ _ v (zip2_splat _ v 16 43 long) (splat_is_map v 16 62 long)
    (sel_of_maps _ _ _ v (zip2_splat _ v 16 47 long) (splat_is_map v 16 63 long) (splat_is_map v 16 255 long)))))) refl
