use Rattle.dns_laws.proofs.DocumentLayouts.{printed_tight}
use Rattle.dns_laws.proofs.layouts.layouts_begin_no_blank.Goals as goal

pub returns : goal.returns
returns c = printed_tight
