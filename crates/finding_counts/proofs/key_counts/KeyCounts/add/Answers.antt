use Rattle.std.proofs.Common.{◌∙◌, ◌+◌, ap, bytes_eq, if◌then◌else◌, min}
use Rattle.finding_counts.proofs.KeyMaps.{number-updated}
use Rattle.finding_counts.specs.KeyNumbers.{key_number}
use Rattle.finding_counts.proofs.key_counts.KeyCounts.add.Goals as goal

pub returns : goal.returns
returns c = λ other.
    number-updated (λ k. k.items) c.args.key.items c.args.self.now.counts c.insert.new.self c.saturating_add-sum.result c.in_ok-insert.ensures.updates other
    ∙ ap (λ n. if bytes_eq c.args.key.items other then n else key_number c.args.self.now other)
    (c.saturating_add-sum.ensures ∙ ap (λ n. min (n + c.args.number) 18446744073709551615) (c.number.ensures ∙ ap (key_number c.args.self.now) c.as_slice.ensures.value))
