use Rattle.std.proofs.Common.{◌∙◌, ap, drop}
use Rattle.rdata_tokens.proofs.Pieces.{rest_of}
use Rattle.rdata.proofs.prefixes.after_item.Goals as goal

pub returns-clause-rest : goal.returns-clause-rest
returns-clause-rest c = rest_of c.item_size.result c.args.octets.now ∙ ap (λ n. drop n c.args.octets.now) c.item_size.ensures.size
