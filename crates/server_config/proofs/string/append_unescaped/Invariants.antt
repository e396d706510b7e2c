use Rattle.std.proofs.Common.{◌-◌, ◌≡◌, ◌++◌, length, drop}
use Rattle.dns_octets.specs.Appending.{Extends}
use Rattle.server_config.specs.Strings.{unescaped}
use Rattle.server_config.proofs.string.append_unescaped.Given as goal

abbrev pub invariant-loop-at : goal.invariant-loop-at
invariant-loop-at g l = record {
  made : l.out.items ++ unescaped (drop l.at l.text) ≡ l.initial.out.items ++ unescaped l.text;
  extends : Extends l.initial.out.items l.out.items;
}

abbrev pub decreases-loop-at : goal.decreases-loop-at
decreases-loop-at g l = length l.text - l.at
