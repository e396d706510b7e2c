use Rattle.std.proofs.Common.{◌≡◌, ◌+◌, length, subst, arith}
use Rattle.zone_edit.specs.Edits.{EndWithin}
use Rattle.zone_edit.proofs.Outside.{inside_texts}
use Rattle.zone_edit.proofs.laws.replacements_are_inside.Goals as goal

pub returns : goal.returns
returns g c = λ octets ordered within.
    let same : length octets ≡ 0 + length octets = omega arith in
    inside_texts 0 0 c.args.edits.now octets ordered (subst (λ n. EndWithin n c.args.edits.now) same within)
