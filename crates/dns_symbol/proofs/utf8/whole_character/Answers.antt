use Rattle.std.proofs.Common.{arith}
use Rattle.std.proofs.lemmas.Bool.Decides.{nat_tests}
use Rattle.dns_symbol.proofs.Wide.{two_begins, three_begins, four_begins, high_none}
use Rattle.dns_symbol.proofs.utf8.whole_character.Goals as goal

pub returns-in-192-to-223 : goal.returns-in-192-to-223
returns-in-192-to-223 c = two_begins c.args.text.now (omega arith) (grind (arith, nat_tests)) (omega arith) (omega arith) _ c.character_of_two.ensures

pub returns-in-224-to-239 : goal.returns-in-224-to-239
returns-in-224-to-239 c = three_begins c.args.text.now (omega arith) (grind (arith, nat_tests)) (omega arith) (omega arith) _ c.character_of_three.ensures

pub returns-in-240-to-247 : goal.returns-in-240-to-247
returns-in-240-to-247 c = four_begins c.args.text.now (omega arith) (grind (arith, nat_tests)) (omega arith) (omega arith) _ c.character_of_four.ensures

pub returns-in_default-2 : goal.returns-in_default-2
returns-in_default-2 c = high_none c.args.text.now (omega arith) (omega arith)
