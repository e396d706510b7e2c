use Rattle.zone_dnssec.proofs.HashLabels.{label_length, fits_label, is_label}
use Rattle.zone_dnssec.proofs.nsec3_hash.hash_label.Goals as goal

pub unwrap-requires : goal.unwrap-requires
unwrap-requires c = fits_label _ _ _ _ c.encode_slice_hex.ensures (label_length c.args.hash.now c.requires)

pub returns : goal.returns
returns c = is_label _ _ _ _ c.encode_slice_hex.ensures (label_length c.args.hash.now c.requires)
