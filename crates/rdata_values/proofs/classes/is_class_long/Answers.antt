use Rattle.std.proofs.Common.{arith, length, ◌<◌}
use Rattle.std.proofs.lemmas.Bool.Decides.{nat_tests}
use Rattle.rdata_values.proofs.CodeLaws.{class_long}
use Rattle.rdata_values.proofs.classes.is_class_long.Goals as goal

pub returns-else-text-eq2 : goal.returns-else-text-eq2
returns-else-text-eq2 c = λ short class spelled.
    let long : 5 < length c.args.text.now = class_long c.args.text.now class spelled c.if-text-eq2.false in
    Prim.grind (arith, nat_tests)
