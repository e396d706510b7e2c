use Rattle.std.proofs.Common.{[], ◌∷◌, ◌++◌, option_to_list, sym, ap, subst, ◌∙◌}
use Rattle.std.specs.Option.{IfSome}
use Rattle.std.proofs.lemmas.Slice.Zip.{all_zipped_more}
use Rattle.findings.specs.Collected.{IsLast, ShowAlike, counted_after, number_after}
use Rattle.findings.specs.FindingOrder.{findings_of}
use Rattle.findings.specs.Shown.{IsSeverity, counted_severities}
use Rattle.findings.proofs.CollectedSteps.{judged_more, number_more, tallied_more}
use Rattle.findings.proofs.collector.FindingCollector.judge.Goals as goal

pub returns-clause-added : goal.returns-clause-added
returns-clause-added g c found h =
    let self = c.args.self.now in
    let kept = findings_of self.kept.items in
    let s = c.severity_of-severity.result in
    let f = c.args.finding in
    record {
      severities = h.severities ++ s ∷ [];
      judged = all_zipped_more (λ g t. IsSeverity self.policy g.code g.is_refused g.is_excepted t) found h.severities f s h.judged c.severity_of-severity.ensures;
      kept = subst (λ m. ShowAlike m (counted_after 0 (found ++ f ∷ []) (h.severities ++ s ∷ [])) (kept ++ option_to_list c.unless_last.result)) (sym c.decide.ensures.most)
          (judged_more found self f s c.kept_if-judged.result c.unless_last.result h c.kept_if-judged.ensures (c.unless_last.ensures.alike self.tally.most kept h.last));
      number = c.number_after-self.ensures ∙ ap (λ n. number_after n (s ∷ [])) h.number ∙ sym (number_more 0 h.severities s);
      tallied = tallied_more h.severities s c.decide.new.tally (c.decide.ensures.counts (counted_severities h.severities) h.tallied);
      last = subst (λ m. IfSome self.last (IsLast m kept)) (sym c.decide.ensures.most) h.last;
    }
