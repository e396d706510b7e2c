use Rattle.std.proofs.Common.{◌≡◌, ◌+◌, length, subst, arith}
use Rattle.zone_edit.specs.Edits.{EndWithin}
use Rattle.zone_edit.proofs.Outside.{outside_same}
use Rattle.zone_edit.proofs.laws.outside_stays.Goals as goal

pub returns : goal.returns
returns g c = λ octets ordered within.
    let same : length octets ≡ 0 + length octets = omega arith in
    outside_same 0 0 c.args.edits.now octets ordered (subst (λ n. EndWithin n c.args.edits.now) same within)
