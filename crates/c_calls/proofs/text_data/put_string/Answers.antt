use Rattle.std.proofs.Common.{[], ◌∷◌, length}
use Rattle.c_calls.proofs.PutTexts.{puts_both}
use Rattle.c_calls.proofs.text_data.put_string.Goals as goal

pub returns : goal.returns
returns c = puts_both (length c.args.octets.now ∷ []) c.args.octets.now c.args.at c.args.data.now c.put_from.new.over c.put_from-2.new.over c.put_from.ensures c.put_from-2.ensures
