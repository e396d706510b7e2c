use Rattle.zone_record.proofs.RecordBack.{owner_word}
use Rattle.zone_record.proofs.laws.printed_owners_are_owners.Goals as goal

pub returns : goal.returns
returns c = owner_word
