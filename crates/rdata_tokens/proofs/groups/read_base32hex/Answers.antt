use Rattle.std.proofs.Common.{◌∙◌, sym, length}
use Rattle.rdata_tokens.proofs.GroupLemmas.{hash_none, hash_fits, hash_spells, hash_other}
use Rattle.rdata_tokens.proofs.groups.read_base32hex.Goals as goal

pub returns-in_err-count : goal.returns-in_err-count
returns-in_err-count c = rw c.from_residual.ensures (λ v s. hash_none c.args.text.now v (length c.args.octets.now) c.requires s c.in_err-count.ensures.refused)

pub returns-in_default : goal.returns-in_default
returns-in_default c = λ v s. absurd (hash_fits c.decode_slice_hex.new.octets c.in_ok-count.count (c.decode_slice_hex.auto.octets ∙ c.requires) c.in_ok-count.ensures.read.1 c.in_default.ensures.0)

pub returns-then-is_folded : goal.returns-then-is_folded
returns-then-is_folded c = (hash_spells c.args.text.now _ c.in_ok-count.ensures.read.0 (c.if-is_folded.ensures ∙ c.in-Ok.ensures.1), c.in_ok-count.ensures.read.1)

pub returns-else-is_folded : goal.returns-else-is_folded
returns-else-is_folded c = λ v s. absurd (c.if-is_folded.ensures (hash_other c.args.text.now _ v c.in_ok-count.ensures.read.0 s ∙ sym c.in-Ok.ensures.1))
