use Rattle.std.proofs.Common.{◌≡◌, ◌<◌, ℕ, get_or}
use Rattle.dns_codec.specs.Base.{capital}
use Rattle.rdata_tokens.proofs.groups.is_folded.Given as goal

abbrev pub invariant-loop-index : goal.invariant-loop-index
invariant-loop-index l = (k : ℕ) → k < l.index → capital (get_or l.text k 0) ≡ get_or l.digits k 0
