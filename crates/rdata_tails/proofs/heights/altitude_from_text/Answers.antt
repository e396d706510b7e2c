use Rattle.std.proofs.Common.{rules}
use Rattle.rdata_tails.proofs.HeightLemmas.{behind_sign, with_plus, with_minus, without_sign}
use Rattle.rdata_tails.proofs.heights.altitude_from_text.Goals as goal

pub returns-in-43 : goal.returns-in-43
returns-in-43 c = with_plus c.args.text.now _ _ (behind_sign 43 c.args.text.now (search rules) c.in-43.is) c.height_from_text.ensures

pub returns-in-45 : goal.returns-in-45
returns-in-45 c = with_minus c.args.text.now _ _ (behind_sign 45 c.args.text.now (search rules) c.in-45.is) c.depth_from_text.ensures

pub returns-in_default : goal.returns-in_default
returns-in_default c = without_sign c.args.text.now _ (search rules) (search rules) c.height_from_text-in_default.ensures
