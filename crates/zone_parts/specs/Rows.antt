-- Worked examples: parts of a file, whether a TTL is known, and what keeps a file from being read in parts.
use Rattle.std.specs.Prelude.{◌≡◌, true, false, [], ◌∷◌, Some, Ok, Err, refl}
use Rattle.std.proofs.Common.{arith}
use Rattle.zone_reader.specs.Past.{nothing_declared}
use Rattle.zone_reader.specs.declared.entry.ParsedEntry.TheVariants.{Empty, Generate, Include}
use Rattle.zone_parts.specs.PartSpans.{AreWholeFile}
use Rattle.zone_parts.specs.Passing.{knows_ttl, outcome}
use Rattle.zone_parts.specs.declared.pass_error.PassError.TheVariants.{Generate as OfGenerate, Include as OfInclude}

-- 31 octets in two parts
whole_row : AreWholeFile (record { at = 0; len = 17 } ∷ record { at = 17; len = 14 } ∷ []) 31
whole_row = (refl, (refl, refl))

-- the same file, where an octet is in no part
gap_row : AreWholeFile (record { at = 0; len = 17 } ∷ record { at = 18; len = 13 } ∷ []) 31 → ⊥
gap_row h = omega (arith, h.1.0)

ttl_row : (knows_ttl (nothing_declared 1) ≡ false) × (knows_ttl (record (nothing_declared 1) { last_ttl = Some 0 }) ≡ true) × (knows_ttl (record (nothing_declared 1) { default_ttl = Some 5 }) ≡ true)
ttl_row = (refl, refl, refl)

outcome_row : (outcome false (Ok Empty) ≡ Ok tt) × (outcome true (Ok (Generate 3 9)) ≡ Err (OfGenerate 3)) × (outcome true (Ok (Include 3 9 4 false)) ≡ Err (OfInclude 3))
outcome_row = (refl, refl, refl)
