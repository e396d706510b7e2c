use Rattle.std.proofs.Common.{◌≡◌, ◌+◌, length, sym, ap, subst, ◌∙◌, arith}
use Rattle.zone_edit.specs.Changes.{AreTokenSpans, changed_tokens}
use Rattle.zone_edit.specs.Edits.{EndWithin}
use Rattle.zone_edit.specs.Outside.{outside}
use Rattle.zone_edit.proofs.Outside.{outside_same}
use Rattle.zone_edit.proofs.TokenSpans.{changes_are}
use Rattle.zone_edit.proofs.laws.only_tokens_change.Goals as goal

pub returns : goal.returns
returns g c = λ octets changes ordered within pushed.
    let same : length octets ≡ 0 + length octets = omega arith in (
      subst (AreTokenSpans octets (changed_tokens changes)) (sym pushed.spans) (changes_are octets changes pushed.ordered),
      outside_same 0 0 c.args.edits.now octets ordered (subst (λ n. EndWithin n c.args.edits.now) same within) ∙ ap (λ l. outside l octets) pushed.spans,
    )
