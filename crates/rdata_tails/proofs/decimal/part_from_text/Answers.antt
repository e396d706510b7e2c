use Rattle.std.proofs.Common.{sym, subst}
use Rattle.rdata_tails.specs.Decimals.{FindsPart}
use Rattle.rdata_tails.proofs.DecimalLemmas.{part_small}
use Rattle.rdata_tails.proofs.decimal.part_from_text.Goals as goal

pub returns-in_err-part-clause-part : goal.returns-in_err-part-clause-part
returns-in_err-part-clause-part c =
    subst (FindsPart c.args.places c.args.text.now) (sym c.from_residual.ensures) (λ part few own. c.in_err-part.ensures part (part_small c.args.text.now c.args.places part c.requires few own) own)
