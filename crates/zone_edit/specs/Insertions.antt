-- Entries that are inserted.
use Rattle.std.specs.Prelude.{⊤, ◌<◌, ℕ}
use Rattle.zone_edit.specs.declared.tokens.TokenError.{TokenError}
use Rattle.zone_edit.specs.declared.tokens.TokenError.TheVariants.{OutOfMemory, OutOfOrder, TooFew}

-- why nothing can be inserted at an offset of a text of this length
abbrev pub IsInsertError : ℕ → ℕ → TokenError → Type 0
IsInsertError count at OutOfMemory = ⊤
IsInsertError count at OutOfOrder = count < at
IsInsertError count at TooFew = ⊥
