-- Texts separated by commas.
use Rattle.std.specs.Prelude.{◌≡◌, ◌≢◌, ℕ, ◌<◌, List, [], ◌∷◌, ◌++◌, length, All, slice_index, Option, Some, None, MatchOption}
use Rattle.std.specs.List.{flat_map, AllZip}

-- a text has no such mark
abbrev pub IsWithout : ℕ → List ℕ → Type 0
IsWithout mark text = (k : ℕ) → k < length text → slice_index text k ≢ mark

-- a text is all before a mark, if it has no mark; or it is what is before the mark and after it
abbrev pub SplitsAt : ℕ → List ℕ → List ℕ → Option (List ℕ) → Type 0
SplitsAt mark text before rest = MatchOption rest (text ≡ before) (λ behind. text ≡ before ++ mark ∷ behind)

-- each text with a comma after it
abbrev pub with_commas : List (List ℕ) → List ℕ
with_commas = flat_map (λ item. item ++ 44 ∷ [])

-- a text, and a comma after it, are texts without commas, each with a comma after it; each of them
-- spells one of the values
pub record SpellsApart {V : Type 0} (spells : List ℕ → V → Type 0) (text : List ℕ) (values : List V) : Type 0 where
  pub texts : List (List ℕ)
  pub apart : All (IsWithout 44) texts
  pub whole : text ++ 44 ∷ [] ≡ with_commas texts
  pub each : AllZip spells texts values

-- a text begins with texts that spell values, each before a comma; then comes an item, up to a comma or the end
pub record BeginsApart {V : Type 0} (spells : List ℕ → V → Type 0) (text : List ℕ) (values : List V) (item : List ℕ) : Type 0 where
  pub texts : List (List ℕ)
  pub rest : List ℕ
  pub apart : All (IsWithout 44) texts
  pub next : IsWithout 44 item
  pub whole : text ++ 44 ∷ [] ≡ with_commas texts ++ ((item ++ 44 ∷ []) ++ rest)
  pub each : AllZip spells texts values

-- the unread rest of a text, with a comma after it
abbrev pub unread_text : Option (List ℕ) → List ℕ
unread_text None = []
unread_text (Some rest) = rest ++ 44 ∷ []
