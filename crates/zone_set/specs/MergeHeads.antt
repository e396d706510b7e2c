-- The order of the first records of runs.
use Rattle.std.specs.Prelude.{◌≡◌, ◌≤◌, ◌⊎◌, Bool}
use Rattle.std.specs.Ordering.{eq_by_cmp, flip_args, nat_cmp, on, then_cmp}
use Rattle.std.specs.declared.cmp.Ordering.{Ordering}
use Rattle.std.specs.declared.cmp.Ordering.TheVariants.{Less, Equal}
use Rattle.zone_contents.specs.Lookups.{canonical_order}
use Rattle.zone_set.specs.declared.merge_heads.MergeHead.{MergeHead}

-- a front comes before another: by its record, or by its run if both records have one key
abbrev pub ComesBefore : {N O : Type 0} → MergeHead N O → MergeHead N O → Type 0
ComesBefore f g = (canonical_order f.record g.record ≡ Less) ⊎ ((canonical_order f.record g.record ≡ Equal) × (f.run ≤ g.run))

-- the later one is less
abbrev pub merge_head_order : {N O : Type 0} → MergeHead N O → MergeHead N O → Ordering
merge_head_order = flip_args (then_cmp (on (λ f. f.record) canonical_order) (on (λ f. f.run) nat_cmp))

abbrev pub same_merge_head : {N O : Type 0} → MergeHead N O → MergeHead N O → Bool
same_merge_head f g = eq_by_cmp merge_head_order f g
