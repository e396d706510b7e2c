use Rattle.std.proofs.lemmas.List.{get_or_default}
use Rattle.dns_charstr.proofs.ReadBack.{is_a_word}
use Rattle.dns_charstr.proofs.laws.unquoted_text_is_a_word.Goals as goal

pub returns : goal.returns
returns c = λ some. is_a_word c.args.octets.now some (λ k d h. rw (get_or_default c.args.octets.now k d 0 h) (c.type_inv.octets k).fits)
