use Rattle.std.proofs.Common.{◌≡◌, subst, sym, true}
use Rattle.dns_zone.specs.Nesting.{has_line}
use Rattle.zone_stream.specs.Heads.{repeated_document}
use Rattle.zone_parts.proofs.HeadSteps.{record_has_line}
use Rattle.zone_parts.proofs.head.write_last.Goals as goal

pub write_line-requires : goal.write_line-requires
write_line-requires g c = c.requires (subst (λ o. has_line (repeated_document o) ≡ true) (sym c.in-Some.is) (record_has_line c.in-Some.one))
