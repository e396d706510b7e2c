use Rattle.std.proofs.Common.{rules, tests, ◌≡◌, ◌∙◌, sym}
use Rattle.std.proofs.lemmas.Iterator.{YieldsList-from_chars}
use Rattle.std.proofs.lemmas.Iterator.Search.{all_from_yields_List}
use Rattle.std.specs.List.{list_all}
use Rattle.std.specs.Str.{chars}
use Rattle.dns_zone.proofs.Comments.{is_in_line, comment_has}
use Rattle.dns_zone.proofs.document.is_comment.Goals as goal

pub returns : goal.returns
returns c =
    let same : c.all.result ≡ list_all is_in_line (chars c.args.text.now) =
    all_from_yields_List is_in_line _ _ c.all.result c.all.ensures.ran (YieldsList-from_chars c.args.text.now c.utf8.text cc) (λ x b q k. search (rules, tests)) in
    let k = comment_has c.args.text.now c.utf8.text in
    (λ t. k.0 (sym same ∙ t), λ p. same ∙ k.1 p)
