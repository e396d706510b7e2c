use Rattle.std.proofs.Common.{◌∙◌, ap, subst, sym}
use Rattle.std.specs.BTreeMap.{get}
use Rattle.finding_counts.proofs.Ranks.{IsChangedAt, beaten_after}
use Rattle.finding_counts.specs.WordRanks.{least_rank, word_cmp}
use Rattle.finding_counts.proofs.word_ranks.WordRanks.add.Goals as goal

pub returns-clause-ranks : goal.returns-clause-ranks
returns-clause-ranks c = λ other.
    beaten_after c.args.self.now (record { ranks = c.insert.new.self; held = c.args.self.now.held }) c.args.word c.in-Some.rank c.least_rank.result (sym c.rank_of.ensures ∙ c.in-Some.is)
    (subst (λ k. IsChangedAt k c.least_rank.result c.args.self.now.ranks c.insert.new.self) c.key_of-key.ensures c.in_ok-insert.ensures.updates.0)
    (c.least_rank.ensures ∙ ap (λ o. least_rank o c.in-Some.rank.rank) (c.copied-found.ensures ∙ c.get.ensures.value ∙ ap (get word_cmp c.args.self.now.ranks) c.key_of-key.ensures))
    other
