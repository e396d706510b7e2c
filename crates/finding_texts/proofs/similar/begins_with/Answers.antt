use Rattle.std.proofs.lemmas.Str.Pattern.{starts_text}
use Rattle.finding_texts.proofs.similar.begins_with.Goals as goal

pub returns : goal.returns
returns c = starts_text c.starts_with.result c.args.short.now c.args.long.now c.starts_with.ensures.cases
