use Rattle.std.proofs.Common.{◌≡◌, drop}
use Rattle.std.specs.List.{list_all}
use Rattle.server_config.specs.ZoneNames.{is_digit_or_dot}
use Rattle.server_config.proofs.zone_name.are_digits_and_dots.Given as goal

abbrev pub invariant-loop-octet : goal.invariant-loop-octet
invariant-loop-octet l = list_all is_digit_or_dot (drop l.octet-index l.zone) ≡ list_all is_digit_or_dot l.zone
