use Rattle.std.proofs.Common.{◌≡◌, length}
use Rattle.zone_check.specs.Data.{after_labels}
use Rattle.zone_check.proofs.data.after_name.Given as goal

abbrev pub invariant-loop-most : goal.invariant-loop-most
invariant-loop-most l = after_labels l.most l.rest ≡ after_labels (length l.octets) l.octets

abbrev pub decreases-loop-most : goal.decreases-loop-most
decreases-loop-most l = l.most
