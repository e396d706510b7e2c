use Rattle.std.proofs.Common.{length, sym, ◌∙◌}
use Rattle.std.specs.Cmp.Lexicographic.{same_text, other_text}
use Rattle.rdata_tokens.proofs.GroupLemmas.{group_none, group_long, group_spells, prints_same}
use Rattle.rdata_tokens.proofs.groups.read_base64_group.Goals as goal

pub returns-in_err-count : goal.returns-in_err-count
returns-in_err-count c = rw c.from_residual.ensures (λ v s. group_none c.args.group.now v (length c.args.octets.now) c.requires.group c.requires.room s c.in_err-count.ensures.refused)

pub returns-in_default : goal.returns-in_default
returns-in_default c = λ v s. group_long c.args.group.now _ v c.requires.group c.in_ok-count.ensures.read.0 s c.in_default.ensures.0

pub returns-then-eq : goal.returns-then-eq
returns-then-eq c = (
  group_spells c.args.group.now _ c.in_ok-count.ensures.read.0 (sym (same_text _ _ c.if-eq.ensures) ∙ c.in-Ok.ensures.1),
  c.in_ok-count.ensures.read.1,
)

pub returns-else-eq : goal.returns-else-eq
returns-else-eq c = λ v s. other_text _ _ c.if-eq.ensures (c.in-Ok.ensures.1 ∙ sym (prints_same c.args.group.now _ v c.in_ok-count.ensures.read.0 s))
