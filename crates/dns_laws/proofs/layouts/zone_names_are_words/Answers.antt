use Rattle.dns_laws.proofs.ZoneNames.{zone_word}
use Rattle.dns_laws.proofs.layouts.zone_names_are_words.Goals as goal

pub returns : goal.returns
returns c = zone_word
