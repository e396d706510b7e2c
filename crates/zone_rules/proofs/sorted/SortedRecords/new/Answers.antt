use Rattle.std.proofs.Common.{◌≡◌, refl, sym, rules, tests}
use Rattle.std.specs.Prelude.{◌==◌}
use Rattle.std.specs.Ordering.{is_le}
use Rattle.std.proofs.lemmas.Bool.{false≢true}
use Rattle.std.proofs.lemmas.Iterator.{YieldsList-from_slice}
use Rattle.std.proofs.lemmas.Iterator.Search.{any_from_yields_List}
use Rattle.std.proofs.lemmas.List.Sorted.{answers_always}
use Rattle.rdata_values.specs.Rtype as Rtype
use Rattle.zone_record.specs.CanonicalRecords.{record_order}
use Rattle.zone_record.specs.CanonicalData.{record_key}
use Rattle.zone_rules.specs.Above.{is_wildcard}
use Rattle.zone_rules.specs.Zones.{type_of}
use Rattle.zone_rules.proofs.Lookups.{not_in_order}
use Rattle.zone_rules.proofs.sorted.SortedRecords.new.Goals as goal

pub invariant_of-result : goal.invariant_of-result
invariant_of-result g c = record {
  in_order = λ k d lt. sym (c.if-not-is_sorted_by.ensures.cases (λ a b. is_le (record_order (record_key a) (record_key b)))
      (answers_always _ (λ a r. r ≡ is_le (record_order (record_key a.0.now) (record_key a.1.0.now))) _ (λ f a r q k. search rules)) k d lt);
  dname = any_from_yields_List (λ r. type_of r == Rtype.dname) _ _ c.any-has_dname.result c.any-has_dname.ensures.ran (YieldsList-from_slice c.args.records.now cc) (λ x b q k. search (rules, tests));
  wildcard = any_from_yields_List (λ r. is_wildcard r.owner) _ _ c.any-has_wildcard.result c.any-has_wildcard.ensures.ran (YieldsList-from_slice c.args.records.now cc) (λ x b q k. search (rules, tests));
  one_class = c.are_of_one_class.ensures;
}

pub returns-clause-accepts : goal.returns-clause-accepts
returns-clause-accepts g c = (λ _. (invariant_of-result g c).in_order, λ _. refl)

pub returns-then-not-is_sorted_by-clause-accepts : goal.returns-then-not-is_sorted_by-clause-accepts
returns-then-not-is_sorted_by-clause-accepts g c = (
  λ e. absurd (false≢true e),
  not_in_order c.args.records.now
      (c.if-not-is_sorted_by.ensures.cases (λ a b. is_le (record_order (record_key a) (record_key b)))
      (answers_always _ (λ a r. r ≡ is_le (record_order (record_key a.0.now) (record_key a.1.0.now))) _ (λ f a r q k. search rules))),
)
