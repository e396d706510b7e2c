use Rattle.std.proofs.Common.{◌∙◌, sym, eq-eqb, eqb-true}
use Rattle.std.proofs.lemmas.Bool.{both_ways}
use Rattle.std.proofs.lemmas.Result.{on_ok_weaker}
use Rattle.zone_check.proofs.record_findings.find_in_record.Goals as goal

pub returns-then-eq : goal.returns-then-eq
returns-then-eq c =
    on_ok_weaker c.find_in_same_class.result
    (λ same. record {
      named = c.find_in_names.new.found.items;
      names = (c.data_tokens-words.result.now, c.data_tokens-words.ensures, c.in_ok-find_in_names.ensures);
      same_class = λ _. same;
      other_class = λ other. absurd (other (eqb-true _ _ (sym c.eq.ensures ∙ c.if-eq.true)));
    })
    c.find_in_same_class.ensures

pub returns : goal.returns
returns c = record {
  named = c.find_in_names.new.found.items;
  names = (c.data_tokens-words.result.now, c.data_tokens-words.ensures, c.in_ok-find_in_names.ensures);
  same_class = λ e. absurd (both_ways _ (sym c.eq.ensures ∙ c.if-eq.false) (eq-eqb _ _ e));
  other_class = λ _. (c.class_finding.result, c.class_finding.ensures, c.in_ok-push.ensures.items);
}
