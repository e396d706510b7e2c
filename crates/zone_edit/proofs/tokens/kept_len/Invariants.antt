use Rattle.std.proofs.Common.{◌≡◌, ◌≤◌, false, drop}
use Rattle.zone_edit.specs.Tokens.{kept_len}
use Rattle.zone_edit.proofs.Gaps.{kept_after}
use Rattle.zone_edit.proofs.tokens.kept_len.Given as goal

abbrev pub invariant-loop-octet : goal.invariant-loop-octet
invariant-loop-octet l = record {
  counted : l.at ≡ l.octet-index;
  within : l.kept ≤ l.at;
  kept : kept_len false l.gap ≡ kept_after l.kept l.at (kept_len l.is_comment (drop l.octet-index l.gap));
}
