-- The names of the display types.
use Rattle.dns_wire.specs.declared.display.DisplayWithDot.{DisplayWithDot}
use Rattle.dns_wire.specs.declared.display.DisplayWithoutDot.{DisplayWithoutDot}
use Rattle.dns_wire.specs.declared.display.ZoneName.{ZoneName}

-- the name of each of them
abbrev pub dotted_name : {N : Type 0} → DisplayWithDot N → N
dotted_name d = d.name.now

abbrev pub undotted_name : {N : Type 0} → DisplayWithoutDot N → N
undotted_name d = d.name.now

abbrev pub zone_name : {N : Type 0} → ZoneName N → N
zone_name d = d.name.now
