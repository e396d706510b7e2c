use Rattle.std.proofs.Common.{◌≡◌, true}
use Rattle.std.specs.List.{AllWithin}
use Rattle.zone_store.specs.Entries.{is_before_key}
use Rattle.zone_store.proofs.lookups.count_near.Given as goal

abbrev pub invariant-loop-index : goal.invariant-loop-index
invariant-loop-index l = AllWithin (λ e. is_before_key l.octets l.prefix l.key e ≡ true) l.entries l.place l.index
