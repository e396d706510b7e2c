-- A value to be printed, and the layout.
use Rattle.dns_zone.specs.declared.zonefile_fmt.DisplayKind.{DisplayKind}
use Rattle.dns_zone.specs.declared.zonefile_fmt.ZoneFileDisplay.{ZoneFileDisplay}

-- the value that is printed
abbrev pub displayed_value : {T : Type 0} → ZoneFileDisplay T → T
displayed_value d = d.value.now

-- the layout that it is printed in
abbrev pub displayed_kind : {T : Type 0} → ZoneFileDisplay T → DisplayKind
displayed_kind d = d.kind
