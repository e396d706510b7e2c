use Rattle.std.proofs.Common.{refl}
use Rattle.dns_laws.proofs.LineTokens.{line_only}
use Rattle.dns_laws.proofs.lines.line_layouts_split.Goals as goal

pub returns : goal.returns
returns c = λ kind fields are line e. line_only kind fields _ are line refl e
