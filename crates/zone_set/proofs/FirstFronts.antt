-- A front that is not less than any other comes first.
use Rattle.std.proofs.Common.{◌≡◌, false, inl, inr, List, [], ◌∷◌, refl, sym, ap, ◌∙◌, arith}
use Rattle.std.specs.Prelude.{All}
use Rattle.std.specs.List.{AllByRecursion}
use Rattle.std.specs.Ordering.{is_lt, nat_cmp, ordering_reverse, ordering_then}
use Rattle.std.specs.declared.cmp.Ordering.{Ordering}
use Rattle.std.specs.declared.cmp.Ordering.TheVariants.{Less, Equal, Greater}
use Rattle.std.proofs.lemmas.Cmp.{ranked, tied_back}
use Rattle.std.proofs.lemmas.List.Elements.{All-from_recursion}
use Rattle.zone_set.specs.MergeHeads.{ComesBefore, merge_head_order}
use Rattle.zone_contents.specs.Lookups.{canonical_order}
use Rattle.zone_set.specs.declared.merge_heads.MergeHead.{MergeHead}
use Rattle.zone_contents.proofs.Passing.{order_total}

module _ {N O : Type 0} where
  by_order : (f g : MergeHead N O) (c d : Ordering) → c ≡ canonical_order g.record f.record → d ≡ nat_cmp g.run f.run → is_lt (ordering_then c d) ≡ false → ComesBefore f g
  by_order f g Less d e n h = cc
  by_order f g Greater d e n h = inl (order_total.antisymm f.record g.record ∙ sym (ap ordering_reverse e))
  by_order f g Equal Less e n h = cc
  by_order f g Equal Equal e n h = inr (tied_back order_total g.record f.record (sym e), omega (arith, ranked g.run f.run Equal n))
  by_order f g Equal Greater e n h = inr (tied_back order_total g.record f.record (sym e), omega (arith, ranked g.run f.run Greater n))

  comes_before : (f g : MergeHead N O) → is_lt (merge_head_order f g) ≡ false → ComesBefore f g
  comes_before f g h = by_order f g (canonical_order g.record f.record) (nat_cmp g.run f.run) refl refl h

  each_before : (f : MergeHead N O) (others : List (MergeHead N O)) → AllByRecursion (λ g. is_lt (merge_head_order f g) ≡ false) others → AllByRecursion (ComesBefore f) others
  each_before f [] all = tt
  each_before f (g ∷ others) all = (comes_before f g all.0, each_before f others all.1)

  pub all_before : (f : MergeHead N O) (others : List (MergeHead N O)) → AllByRecursion (λ g. is_lt (merge_head_order f g) ≡ false) others → All (ComesBefore f) others
  all_before f others all = All-from_recursion (ComesBefore f) others (each_before f others all)
