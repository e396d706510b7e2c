use Rattle.std.proofs.Common.{◌∙◌, None, Some, ap, option_copied, sym}
use Rattle.finding_counts.proofs.Ranks.{beaten_with}
use Rattle.finding_counts.proofs.word_ranks.WordRanks.is_beaten.Goals as goal

pub returns-in-Some-get : goal.returns-in-Some-get
returns-in-Some-get c =
    sym (beaten_with c.args.self.now c.args.word c.in-Some.rank c.key_of.result (Some c.in-Some-get.least.now) (sym c.rank_of.ensures ∙ c.in-Some.is)
    c.key_of.ensures (sym c.get.ensures.value ∙ ap option_copied c.in-Some-get.is))

pub returns-in-None : goal.returns-in-None
returns-in-None c =
    sym (beaten_with c.args.self.now c.args.word c.in-Some.rank c.key_of.result None (sym c.rank_of.ensures ∙ c.in-Some.is)
    c.key_of.ensures (sym c.get.ensures.value ∙ ap option_copied c.in-None.is))
