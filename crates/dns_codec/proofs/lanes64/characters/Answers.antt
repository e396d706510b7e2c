use Rattle.std.proofs.Common.{refl, sym}
use Rattle.std.proofs.lemmas.List.{map-id}
use Rattle.std.proofs.lemmas.Simd.{splat_is_map, zip2_of_maps, zip2_splat}
use Rattle.dns_codec.specs.Base.{base64}
use Rattle.dns_codec.specs.declared.lanes64.TheConstants.{SHIFTS}
use Rattle.dns_codec.proofs.Vectors.{by_table, looked_up_by, may_look_up_by, sel_of_maps}
use Rattle.dns_codec.proofs.lanes64.characters.Goals as goal

pub swizzle : goal.swizzle
swizzle c =
    let v = c.args.digits in
    let long = c.fits-digits.0 in
    may_look_up_by 64 v _ _ long c.requires
    (zip2_of_maps _ _ _ v (zip2_of_maps _ _ _ v (sel_of_maps _ _ _ v (zip2_splat _ v 16 51 long) (splat_is_map v 16 51 long) (sym (map-id v))) (splat_is_map v 16 51 long))
    (sel_of_maps _ _ _ v (zip2_splat _ v 16 26 long) (splat_is_map v 16 13 long) (splat_is_map v 16 0 long))) refl

pub returns : goal.returns
returns c =
    let v = c.args.digits in
    let long = c.fits-digits.0 in
    by_table 64 base64.alphabet v _ _ c.requires (zip2_of_maps _ _ _ v (sym (map-id v)) (looked_up_by 64 SHIFTS v _ _ long c.requires
    (zip2_of_maps _ _ _ v (zip2_of_maps _ _ _ v (sel_of_maps _ _ _ v (zip2_splat _ v 16 51 long) (splat_is_map v 16 51 long) (sym (map-id v))) (splat_is_map v 16 51 long))
    (sel_of_maps _ _ _ v (zip2_splat _ v 16 26 long) (splat_is_map v 16 13 long) (splat_is_map v 16 0 long))) refl)) refl
