use Rattle.rdata_values.proofs.LocatorLaws.{locators_are_kind}
use Rattle.rdata_values.proofs.locator.locators_are_read_back.Goals as goal

pub returns : goal.returns
returns c = locators_are_kind
