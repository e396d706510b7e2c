-- Octets that are appended after others.
use Rattle.std.proofs.Common.{◌≡◌, ℕ, List, ◌++◌, ap, ◌∙◌, append_assoc}
use Rattle.dns_octets.specs.Appending.{Extends}

-- what extends old octets and more extends the old ones
pub extends_before : (old more middle new : List ℕ) → middle ≡ old ++ more → Extends middle new → Extends old new
extends_before old more middle new h e = (more ++ e.0, e.1 ∙ ap (λ l. l ++ e.0) h ∙ append_assoc old more e.0)
