use Rattle.std.proofs.Common.{◌≡◌, ℕ, ◌<◌, false, get_or}
use Rattle.rdata_svcb.specs.Template.{is_modifier_mark}
use Rattle.rdata_svcb.proofs.template.name_width.Given as goal

abbrev pub invariant-loop-place : goal.invariant-loop-place
invariant-loop-place l = (k : ℕ) → k < l.place → is_modifier_mark (get_or l.text k 0) ≡ false
