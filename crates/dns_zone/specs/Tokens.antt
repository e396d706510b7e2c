-- Values that print as one token each.
use Rattle.std.specs.Prelude.{ℕ, List, map}
use Rattle.dns_zone.specs.Layout.{Step, token}

-- the document of values in a row: a token for each, by its text
abbrev pub one_each : {T : Type 0} → (T → List ℕ) → List T → List Step
one_each text values = map (λ x. token (text x)) values
