use Rattle.std.proofs.Common.{◌-◌, drop, length, arith, take_all}
use Rattle.std.proofs.lemmas.List.{length-drop}
use Rattle.c_calls.proofs.text_data.after_first.Goals as goal

pub returns : goal.returns
returns c = take_all (length c.args.octets.now - 255) (drop 255 c.args.octets.now) (omega (arith, length-drop 255 c.args.octets.now))
