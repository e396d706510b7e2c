use Rattle.std.proofs.Common.{◌≡◌, ◌≤◌, ◌++◌, length, drop}
use Rattle.zone_edit.specs.Tokens.{AreAfterTokens, removed_spans}
use Rattle.zone_edit.proofs.tokens.append_removed.Given as goal

abbrev pub invariant-loop-token : goal.invariant-loop-token
invariant-loop-token g l = record {
  made : l.out.items ++ removed_spans l.octets l.at (drop l.token-index l.tokens) ≡ l.initial.out.items ++ removed_spans l.octets l.after l.tokens;
  within : l.at ≤ length l.octets;
  found : AreAfterTokens (length l.octets) l.at (drop l.token-index l.tokens) → AreAfterTokens (length l.octets) l.after l.tokens;
  wanted : AreAfterTokens (length l.octets) l.after l.tokens → AreAfterTokens (length l.octets) l.at (drop l.token-index l.tokens);
}
