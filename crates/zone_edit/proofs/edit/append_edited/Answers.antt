use Rattle.std.proofs.Common.{◌≡◌, length, take, ap, ◌∙◌, arith}
use Rattle.zone_edit.proofs.Whole.{cut_back}
use Rattle.zone_edit.proofs.edit.append_edited.Goals as goal

pub returns-in-Err-clause-unchanged : goal.returns-in-Err-clause-unchanged
returns-in-Err-clause-unchanged g c =
    let before = c.len-before.result in
    let front = c.args.out.now.items in
    let is : before ≡ length front = omega (arith, c.len-before.ensures, c.args.out.now.ok.0) in
    c.truncate.ensures.items ∙ ap (take before) c.in-Err.ensures.unchanged ∙ cut_back front c.add.new.out.items before c.in_ok-add.ensures.applied.extends is
