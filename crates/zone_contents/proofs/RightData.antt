-- The ZONEMD data that is right for a zone.
use Rattle.std.proofs.Common.{ℕ, ◌≡◌, ◌⊎◌, inl, inr, List, [], ◌∷◌, ◌++◌, refl, ap, ◌∙◌, append_assoc, arith}
use Rattle.std.specs.Int.{to_be_bytes, w32}
use Rattle.zone_record.specs.declared.record.Record.{Record}
use Rattle.zone_contents.specs.Checks.{HasSerial}
use Rattle.zone_contents.specs.Computed.{AppendsDigest, IsRightData}
use Rattle.zone_contents.specs.Verdicts.{IsDigest}

known_of : (hash : ℕ) (octets digest : List ℕ) → IsDigest hash octets digest → (hash ≡ 1) ⊎ (hash ≡ 2)
known_of hash octets digest (inl is) = inl is.0
known_of hash octets digest (inr is) = inr is.0

-- a digest after the fields before it
pub right_made : {N O : Type 0} (apex : List (List ℕ)) (records : List (Record N O)) (serial hash : ℕ) (front made : List ℕ) → HasSerial apex records serial
    → front ≡ to_be_bytes w32 serial ++ 1 ∷ hash ∷ [] → AppendsDigest apex records hash front made → IsRightData apex records hash made
right_made apex records serial hash front made has is behind = (
  serial,
  has,
  record { serial = serial; scheme = 1; hash = hash; digest = record { ref_ptr = (0, 0); now = behind.0 } },
  (refl, behind.2 ∙ ap (λ l. l ++ behind.0) is ∙ append_assoc (to_be_bytes w32 serial) (1 ∷ hash ∷ []) behind.0),
  refl,
  (record { serial_is = refl; scheme_is = refl; hash_is = known_of hash _ behind.0 behind.1; single = omega arith }, behind.1),
)
