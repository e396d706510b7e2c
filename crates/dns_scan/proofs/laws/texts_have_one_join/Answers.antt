use Rattle.dns_scan.proofs.Joined.{some_join, one_join, whole_join}
use Rattle.dns_scan.proofs.laws.texts_have_one_join.Goals as goal

pub returns : goal.returns
returns c = record { some = some_join; one = one_join; whole = whole_join }
