use Rattle.std.proofs.Common.{◌≡◌}
use Rattle.std.specs.Prelude.{Contains}
use Rattle.std.specs.Bool.{Decides}
use Rattle.std.proofs.lemmas.Bool.{both_ways}
use Rattle.std.proofs.lemmas.List.Elements.{contains_decides, Decides-contains}
use denote.Enum.Bare.{sameb, same_true, true_same}
use Rattle.finding_codes.specs.declared.code.Code.{Code}
use Rattle.finding_codes.specs.contracts.code.Code.{the_type}
use Rattle.finding_codes.proofs.policy.lists.Goals as goal

same_codes : (a b : Code) → Decides (sameb the_type a b) (a ≡ b)
same_codes a b = (same_true the_type tt a b, true_same the_type a b)

decided : (c : goal.After-contains) → Decides c.contains.result (Contains c.args.codes.now c.args.code)
decided c = Decides-contains c.args.codes.now c.args.code c.contains.result (contains_decides (sameb the_type) same_codes c.args.codes.now c.args.code c.contains.result c.contains.ensures.cases)

pub returns-clause-listed : goal.returns-clause-listed
returns-clause-listed c = (decided c).0

pub returns-clause-unlisted : goal.returns-clause-unlisted
returns-clause-unlisted c = λ e h. both_ways c.contains.result e ((decided c).1 h)
