use Rattle.std.proofs.Common.{refl}
use Rattle.std.specs.Option.{option_copied}
use Rattle.rdata.proofs.TypeLaws.{generic_read}
use Rattle.rdata.proofs.by_type.parse_data.Goals as goal

pub returns-then-begins_generic-clause-takes : goal.returns-then-begins_generic-clause-takes
returns-then-begins_generic-clause-takes g c =
    generic_read (option_copied c.args.origin) g.B.OctetsBuilder.room c.args.rtype _ _ _ (option_copied c.type_row-row.result) c.read_generic.result _ _ c.type_row-row.ensures (c.if-not-is_data_type.ensures.0 refl) c.if-begins_generic.ensures
    c.read_generic.ensures.reads
