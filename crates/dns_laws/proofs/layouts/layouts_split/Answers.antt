use Rattle.dns_laws.proofs.DocumentLayouts.{printed_only}
use Rattle.dns_laws.proofs.layouts.layouts_split.Goals as goal

pub returns : goal.returns
returns c = λ kind steps w e. printed_only kind steps e w
