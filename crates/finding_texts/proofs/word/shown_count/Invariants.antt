use Rattle.std.proofs.Common.{◌≡◌, ◌∷◌, [], drop}
use Rattle.std.specs.Prelude.{find, slice_index}
use Rattle.zone_format.specs.Place.{begins_character}
use Rattle.finding_texts.proofs.word.shown_count.Given as goal

abbrev pub invariant-loop-count : goal.invariant-loop-count
invariant-loop-count l = find (λ n. begins_character (slice_index l.octets n)) (drop l.count-index l.count-items)
    ≡ find (λ n. begins_character (slice_index l.octets n)) (40 ∷ 39 ∷ 38 ∷ 37 ∷ [])
