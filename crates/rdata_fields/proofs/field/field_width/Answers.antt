use Rattle.rdata_fields.proofs.field.field_width.Goals as goal

pub returns-in-String : goal.returns-in-String
returns-in-String c = rw c.in-String.is c.string_width.ensures

pub returns-in-PsdnAddress : goal.returns-in-PsdnAddress
returns-in-PsdnAddress c = rw c.in-PsdnAddress.is c.psdn_address_width.ensures

pub returns-in-Tag : goal.returns-in-Tag
returns-in-Tag c = rw c.in-Tag.is c.tag_width.ensures

pub returns-in-Salt : goal.returns-in-Salt
returns-in-Salt c = rw c.in-Salt.is c.string_width-in-Salt.ensures

pub returns-in-Hash : goal.returns-in-Hash
returns-in-Hash c = rw c.in-Hash.is c.hash_field_width.ensures

pub returns-in-Name : goal.returns-in-Name
returns-in-Name c = rw c.in-Name.is c.name_width.ensures
