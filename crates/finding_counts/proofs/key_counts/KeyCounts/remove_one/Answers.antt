use Rattle.std.proofs.Common.{◌∙◌, ◌-◌, ap, bytes_eq, if◌then◌else◌, rules, sym, unwrap_or}
use Rattle.std.specs.Option.{option_copied_mut}
use Rattle.finding_counts.proofs.KeyMaps.{number-updated}
use Rattle.finding_counts.specs.KeyNumbers.{key_number}
use Rattle.finding_counts.proofs.key_counts.KeyCounts.remove_one.Goals as goal

pub returns-in-Some-clause-rest : goal.returns-in-Some-clause-rest
returns-in-Some-clause-rest c = λ other.
    number-updated (λ k. k.items) c.args.key.now c.args.self.now.counts (c.get_mut.follows.lender c.saturating_sub.result) c.saturating_sub.result
    ((c.get_mut.follows.holds c.saturating_sub.result).3 (search rules)) other
    ∙ ap (λ n. if bytes_eq c.args.key.now other then n else key_number c.args.self.now other)
    (c.saturating_sub.ensures ∙ ap (λ n. n - 1) (ap (λ o. unwrap_or o 0) (sym (ap option_copied_mut c.in-Some.is) ∙ c.get_mut.ensures.value)))
