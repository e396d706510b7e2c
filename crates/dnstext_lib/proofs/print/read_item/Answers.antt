use Rattle.std.proofs.Common.{rules, ◌≡◌}
use Rattle.dns_zone.specs.Layout.{token, comment}
use Rattle.dnstext_lib.specs.Print.{item_word}
use Rattle.dnstext_lib.proofs.InTurn.{when_err}
use Rattle.dnstext_lib.proofs.print.read_item.Goals as goal

pub returns-in_err-from_str-in_default : goal.returns-in_err-from_str-in_default
returns-in_err-from_str-in_default g c =
    let is : c.args.word.now ≡ item_word (token c.in-Some.text.now) = search rules in
    when_err _ _ c.from_residual.result c.from_residual.ensures.0 (λ e. (token c.in-Some.text.now, is))

pub returns-in_err-from_str-in_default-2 : goal.returns-in_err-from_str-in_default-2
returns-in_err-from_str-in_default-2 g c =
    let is : c.args.word.now ≡ item_word (comment c.in-Some-strip_prefix.text.now) = search rules in
    when_err _ _ c.from_residual-in_err-from_str-in_default-2.result c.from_residual-in_err-from_str-in_default-2.ensures.0 (λ e. (comment c.in-Some-strip_prefix.text.now, is))
