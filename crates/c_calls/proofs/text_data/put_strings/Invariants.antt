use Rattle.std.proofs.Common.{length}
use Rattle.c_calls.proofs.TextStrings.{CopiesStrings}
use Rattle.c_calls.proofs.text_data.put_strings.Given as goal

abbrev pub invariant-strings : goal.invariant-strings
invariant-strings l = CopiesStrings l.octets l.rest l.at l.fn.data l.data

abbrev pub decreases-strings : goal.decreases-strings
decreases-strings l = length l.rest
