use Rattle.std.proofs.Common.{rules, tests}
use Rattle.std.proofs.lemmas.Iterator.{YieldsList-from_slice}
use Rattle.std.proofs.lemmas.Iterator.Search.{all_from_yields_List}
use Rattle.zone_dnssec.specs.DenialRecords.{is_hash_digit}
use Rattle.zone_dnssec.proofs.denial.are_digits.Goals as goal

pub returns : goal.returns
returns c =
    all_from_yields_List is_hash_digit _ _ c.all.result c.all.ensures.ran (YieldsList-from_slice c.args.octets.now cc) (λ x b q k. search (rules, tests))
