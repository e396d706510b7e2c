-- The number of duplicates, by the records from one index on.
use Rattle.std.proofs.Common.{ℕ, suc, ◌≡◌, ◌<◌, ◌≤◌, ◌+◌, length, refl, sym, ap, ◌∙◌, arith}
use Rattle.std.proofs.lemmas.List.{length-append}
use Rattle.zone_contents.specs.Contents.{AreSortedRecords, ZoneValue}
use Rattle.zone_contents.specs.Digests.{distinct_records, first_at}
use Rattle.zone_contents.proofs.Distinct.{rest_from, rest_none, rest_step}

module _ (z : ZoneValue) where
  -- the duplicates before an index are counted, and the other records from there on are left
  pub record Counting (place count : ℕ) : Type 0 where
    pub are : length (distinct_records z) + count ≡ place + length (rest_from z place)
    pub few : count ≤ place
    pub bound : place ≤ length z.records

  pub counting_none : Counting 0 0
  counting_none = let same : length (rest_from z 0) ≡ length (distinct_records z) = refl in record { are = omega (arith, same); few = omega arith; bound = omega arith }

  pub counting_more : AreSortedRecords z.apex z.records → (place next count one : ℕ) → place < length z.records → next ≡ suc place → length (first_at z place) + one ≡ 1
      → Counting place count → Counting next (count + one)
  counting_more sorted place next count one lt e h w =
      let step : length (rest_from z place) ≡ length (first_at z place) + length (rest_from z next) =
      ap length (rest_step z.apex z.records sorted place lt) ∙ length-append (first_at z place) (rest_from z (suc place)) ∙ ap (λ n. length (first_at z place) + length (rest_from z n)) (sym e) in
      record { are = omega (arith, w.are, step, h, e); few = omega (arith, w.few, h, e); bound = omega (arith, lt, e) }

  pub counting_all : (place count : ℕ) → length z.records ≤ place → Counting place count → length (distinct_records z) + count ≡ length z.records
  counting_all place count low w =
      let none : length (rest_from z place) ≡ 0 = ap length (rest_none z.apex z.records place low) in omega (arith, w.are, none, low, w.bound)
