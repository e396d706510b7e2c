use Rattle.std.proofs.Common.{arith, rules}
use Rattle.std.proofs.lemmas.Grind.{common_steps}
use Rattle.std.specs.Net.Reader.{read_ipv4}
use Rattle.rdata_fields.proofs.addresses.read_ipv4.Goals as goal

pub returns-in_err-a : goal.returns-in_err-a
unfolding read_ipv4
returns-in_err-a c = first_of (search rules, grind (arith, common_steps))

pub returns-in_err-after_byte : goal.returns-in_err-after_byte
unfolding read_ipv4
returns-in_err-after_byte c = first_of (search rules, grind (arith, common_steps))

pub returns-in_err-b : goal.returns-in_err-b
unfolding read_ipv4
returns-in_err-b c = first_of (search rules, grind (arith, common_steps))

pub returns-in_err-after_byte-2 : goal.returns-in_err-after_byte-2
unfolding read_ipv4
returns-in_err-after_byte-2 c = first_of (search rules, grind (arith, common_steps))

pub returns-in_err-c : goal.returns-in_err-c
unfolding read_ipv4
returns-in_err-c c = first_of (search rules, grind (arith, common_steps))

pub returns-in_err-after_byte-3 : goal.returns-in_err-after_byte-3
unfolding read_ipv4
returns-in_err-after_byte-3 c = first_of (search rules, grind (arith, common_steps))

pub returns-in_err-d : goal.returns-in_err-d
unfolding read_ipv4
returns-in_err-d c = first_of (search rules, grind (arith, common_steps))

pub returns : goal.returns
unfolding read_ipv4
returns c = first_of (search rules, grind (arith, common_steps))
