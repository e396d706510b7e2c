use Rattle.std.proofs.Common.{subst, None}
use Rattle.rdata_fields.specs.Fields.{field_form}
use Rattle.rdata_fields.proofs.field.write_field.Goals as goal

pub write_string-requires : goal.write_string-requires
write_string-requires g c = subst (λ f. (field_form None f).is_wire c.args.octets.now) c.in-String.is c.requires

pub write_psdn_address-requires : goal.write_psdn_address-requires
write_psdn_address-requires g c = subst (λ f. (field_form None f).is_wire c.args.octets.now) c.in-PsdnAddress.is c.requires

pub write_tag-requires : goal.write_tag-requires
write_tag-requires g c = subst (λ f. (field_form None f).is_wire c.args.octets.now) c.in-Tag.is c.requires

pub write_salt-requires : goal.write_salt-requires
write_salt-requires g c = subst (λ f. (field_form None f).is_wire c.args.octets.now) c.in-Salt.is c.requires

pub write_hash-requires : goal.write_hash-requires
write_hash-requires g c = subst (λ f. (field_form None f).is_wire c.args.octets.now) c.in-Hash.is c.requires
