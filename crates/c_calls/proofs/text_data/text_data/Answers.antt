use Rattle.std.proofs.Common.{ap}
use Rattle.c_calls.proofs.TextStrings.{strings_copied}
use Rattle.c_calls.proofs.text_data.text_data.Goals as goal

pub returns-clause-fits : goal.returns-clause-fits
returns-clause-fits c = λ few room.
    strings_copied c.args.octets.now c.args.data.now c.put_strings.new.data (record { length = c.strings_len-length.result; place = 0 }) (ap (λ n. record { length = n; place = 0 }) c.strings_len-length.ensures) room c.put_strings.ensures
