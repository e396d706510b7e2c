-- Places in a pattern of a path and in a name, of the functions that compare them.
use Rattle.std.specs.Prelude.{ℕ, suc, ◌≡◌, ◌≤◌, ◌<◌, ◌⊎◌, List, [], ◌∷◌, length, drop, slice_index}
use Rattle.server_config.specs.PathPatterns.{path_fits, pattern_items, PatternItem}
use Rattle.server_config.specs.PathPatterns.PatternItem.{Star}

-- the number of items before the first star
abbrev pub count_before_star : List PatternItem → ℕ
count_before_star [] = 0
count_before_star (Star ∷ items) = 0
count_before_star (item ∷ items) = suc (count_before_star items)

-- the items from the first star on
abbrev pub from_star : List PatternItem → List PatternItem
from_star items = drop (count_before_star items) items

-- an index of a pattern is its end, or that of a star
abbrev pub IsStarOrEnd : List ℕ → ℕ → Type 0
IsStarOrEnd pattern index = (index ≤ length pattern) × (index < length pattern → slice_index pattern index ≡ 42)

-- the ends of what comes before the first star: a name fits if the rest of it fits the rest
pub record IsAfterItems (pattern name : List ℕ) (r : ℕ × ℕ) : Type 0 where
  pub star : IsStarOrEnd pattern r.0
  pub within : r.1 ≤ length name
  pub items : pattern_items (drop r.0 pattern) ≡ from_star (pattern_items pattern)
  pub count : r.1 ≡ count_before_star (pattern_items pattern)
  pub rest : path_fits (pattern_items pattern) name ≡ path_fits (pattern_items (drop r.0 pattern)) (drop r.1 name)

-- these ends, where a star follows, or where the name ends too
pub record EndsHere (pattern name : List ℕ) (r : ℕ × ℕ) : Type 0 where
  pub after : IsAfterItems pattern name r
  pub ends : (r.0 < length pattern) ⊎ (r.1 ≡ length name)

-- the ends of what a star and the items up to the next star fit
pub record IsAfterStar (pattern name : List ℕ) (r : ℕ × ℕ) : Type 0 where
  pub star : IsStarOrEnd pattern r.0
  pub within : r.1 ≤ length name
  pub rest : path_fits (Star ∷ pattern_items pattern) name ≡ path_fits (pattern_items (drop r.0 pattern)) (drop r.1 name)
