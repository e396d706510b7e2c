use Rattle.std.proofs.Common.{◌∙◌, ap, is_some, subst, sym}
use Rattle.std.specs.BTreeMap.{get}
use Rattle.finding_counts.proofs.Ranks.{IsChangedAt, held_once, none_from_test}
use Rattle.finding_counts.specs.WordRanks.{word_cmp}
use Rattle.finding_counts.proofs.word_ranks.WordRanks.hold.Goals as goal

pub returns-clause-held : goal.returns-clause-held
returns-clause-held c = λ other.
    held_once c.args.self.now (record { ranks = c.args.self.now.ranks; held = c.insert.new.self }) c.args.word c.in-Some.rank c.args.index (sym c.rank_of.ensures ∙ c.in-Some.is)
    (subst (λ k. IsChangedAt k c.args.index c.args.self.now.held c.insert.new.self) c.key_of-key.ensures c.in_ok-insert.ensures.updates.0)
    (none_from_test _ (ap is_some (ap (get word_cmp c.args.self.now.held) (sym c.key_of-key.ensures)) ∙ sym c.contains_key.ensures ∙ c.if-contains_key.false))
    other
