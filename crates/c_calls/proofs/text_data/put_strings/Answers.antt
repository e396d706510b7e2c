use Rattle.std.proofs.Common.{◌+◌, refl, arith}
use Rattle.c_calls.proofs.TextStrings.{after_smaller, first_room, first_short, strings_end, strings_more}
use Rattle.c_calls.proofs.text_data.put_strings.Goals as goal

pub put_string-requires-clause-string : goal.put_string-requires-clause-string
put_string-requires-clause-string c = first_short c.strings.rest.now c.first_string.result.now (omega (arith, c.strings-test.true)) c.first_string.ensures

pub put_string-requires-clause-room : goal.put_string-requires-clause-room
put_string-requires-clause-room c =
    first_room c.args.octets.now c.strings.rest.now c.strings.at c.args.data.now c.strings.data c.strings.invariant c.first_string.result.now (omega (arith, c.strings-test.true)) c.first_string.ensures

pub strings-preserved : goal.strings-preserved
strings-preserved c =
    strings_more c.args.octets.now c.strings.rest.now c.strings.at c.args.data.now c.strings.data c.strings.invariant c.first_string.result.now c.after_first-rest.result.now c.put_string.new.data (c.strings.at + 256)
    (omega (arith, c.strings-test.true)) c.first_string.ensures c.after_first-rest.ensures refl c.put_string.ensures

pub returns : goal.returns
returns c = strings_end c.args.octets.now c.strings.rest.now c.strings.at c.args.data.now c.strings.data c.strings.invariant c.put_string-2.new.data (omega (arith, c.strings-test.false)) c.put_string-2.ensures

pub strings-smaller : goal.strings-smaller
strings-smaller c = after_smaller c.strings.rest.now c.after_first-rest.result.now (omega (arith, c.strings-test.true)) c.after_first-rest.ensures
