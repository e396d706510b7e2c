-- The number of findings with each key, and those that a baseline leaves out.
use Rattle.std.specs.Prelude.{◌≡◌, ◌+◌, ◌-◌, ◌^◌, ◌<◌, ◌++◌, ◌∷◌, ◌↔◌, [], Bool, IsTrue, List, bytes_eq, count_by, flat_map, if◌then◌else◌, map, min, unwrap_or, ℕ}
use Rattle.std.specs.BTreeMap.{get_by}
use Rattle.std.specs.Cmp.Lexicographic.{slice_cmp}
use Rattle.std.specs.Ordering.{nat_cmp}
use Rattle.finding_counts.specs.Baselines.{baseline_text}
use Rattle.finding_counts.specs.declared.key_counts.Baseline.{Baseline}
use Rattle.finding_counts.specs.declared.key_counts.KeyCounts.{KeyCounts}

-- the number of findings with a key
abbrev pub key_number : KeyCounts → List ℕ → ℕ
key_number keys key = unwrap_or (get_by (λ k. slice_cmp nat_cmp key k.items) keys.counts) 0

-- a number was added to that of one key, up to the greatest number
abbrev pub AddsNumber : (key : List ℕ) (number : ℕ) (old new : KeyCounts) → Type 0
AddsNumber key number old new = (other : List ℕ) → key_number new other ≡ (if bytes_eq key other then min (key_number old key + number) (2 ^ 64 - 1) else key_number old other)

-- one finding with a key was removed
abbrev pub RemovesOne : (key : List ℕ) (old new : KeyCounts) → Type 0
RemovesOne key old new = (other : List ℕ) → key_number new other ≡ (if bytes_eq key other then key_number old key - 1 else key_number old other)

-- the keys and their numbers
abbrev pub numbered_keys : KeyCounts → List (List ℕ × ℕ)
numbered_keys keys = map (λ e. (e.0.items, e.1)) keys.counts.entries

-- a line for each key
abbrev pub text_of_keys : List (List ℕ × ℕ) → List ℕ
text_of_keys keys = flat_map (λ e. baseline_text e.0 e.1) keys

-- how often a key is among those of findings
abbrev pub times_among : List ℕ → List (List ℕ) → ℕ
times_among key found = count_by (bytes_eq key) found

-- a baseline that knew a number of findings with each key, after findings with some keys were found, one after another
pub record HasFound (numbers : List ℕ → ℕ) (found : List (List ℕ)) (b : Baseline) : Type 0 where
  pub rest : (key : List ℕ) → key_number b.rest key ≡ numbers key - times_among key found

-- a finding with a key is known if fewer with that key were found than the baseline knew
abbrev pub IsAmongKnown : (key : List ℕ) → Baseline → Bool → Type 0
IsAmongKnown key b is_known = (numbers : List ℕ → ℕ) (found : List (List ℕ)) → HasFound numbers found b → IsTrue is_known ↔ (times_among key found < numbers key)

-- one more finding with a key was found
abbrev pub FindsOne : (key : List ℕ) (old new : Baseline) → Type 0
FindsOne key old new = (numbers : List ℕ → ℕ) (found : List (List ℕ)) → HasFound numbers found old → HasFound numbers (found ++ key ∷ []) new

-- the number of those that were left out, after one more was or wasn't
abbrev pub known_after : (known : ℕ) (is_known : Bool) → ℕ
known_after known is_known = if is_known then min (known + 1) (2 ^ 64 - 1) else known
