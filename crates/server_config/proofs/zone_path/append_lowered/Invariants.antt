use Rattle.std.proofs.Common.{◌≡◌, ◌++◌, drop}
use Rattle.dns_octets.specs.Appending.{Extends}
use Rattle.dns_octets.specs.Lowered.{lowered}
use Rattle.server_config.proofs.zone_path.append_lowered.Given as goal

abbrev pub invariant-loop-octet : goal.invariant-loop-octet
invariant-loop-octet g l = record {
  made : l.out.items ++ lowered (drop l.octet-index l.text) ≡ l.initial.out.items ++ lowered l.text;
  extends : Extends l.initial.out.items l.out.items;
}
