use Rattle.std.proofs.Common.{length}
use Rattle.zone_record.proofs.key_names.+push_key_name.Given as goal

abbrev pub decreases-push_key_name : goal.decreases-push_key_name
decreases-push_key_name l = length l.key.now
