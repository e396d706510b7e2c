use Rattle.std.proofs.Common.{◌≡◌, List, length}
use Rattle.dns_symbol.specs.declared.symbol.Symbol.{Symbol}
use Rattle.rdata_tokens.specs.NameSpelling.{OpensLabel}
use Rattle.rdata_tokens.proofs.names.spelled_label.Given as goal

abbrev pub invariant-loop-rest : goal.invariant-loop-rest
invariant-loop-rest l = (part : List Symbol) × OpensLabel l.text l.room part l.rest × (l.count ≡ length part)

abbrev pub decreases-loop-rest : goal.decreases-loop-rest
decreases-loop-rest l = length l.rest
