-- Octets of a name are made one.
use Rattle.std.proofs.Common.{ℕ, ◌≡◌, List, [], ◌∷◌, ◌++◌, length, get_or, refl, ap, ◌∙◌, arith, inr, Ok, Err}
use Rattle.dns_wire.specs.FromOctets.{SplitsIntoLabels, MakesName}
use Rattle.dns_wire.specs.Wire.{wire, wire_label, IsPlain}
use Rattle.dns_wire.specs.declared.error.NameError.{NameError}
use Rattle.dns_wire.proofs.OneAnswer.{name_same}
use Rattle.dns_wire.proofs.Wires.{length_wire}
use Rattle.rdata_tokens.specs.NameSpelling.{IsWireName}
use Rattle.rdata_tokens.proofs.LabelParts.{wire_push}
use Rattle.rdata_tokens.proofs.NameFronts.{name_front_plain}

root_ends : (label more : List ℕ) → IsPlain label → 0 ∷ [] ≡ wire_label label ++ more → ⊥
root_ends label more plain e = let some = plain.0 in omega (arith, some, ap (λ r. get_or r 0 0) e)

splits : (octets : List ℕ) → (h : IsWireName octets) → SplitsIntoLabels octets h.absolute.0 (0 ∷ [])
splits octets h = record {
  spelled = h.whole ∙ ap wire h.absolute.1 ∙ wire_push h.absolute.0 [];
  plain = name_front_plain h.labels h.absolute.0 h.is_name h.absolute.1;
  ends = root_ends;
}

makes : (octets : List ℕ) → (h : IsWireName octets) → MakesName octets (Ok h.labels)
makes octets h =
    inr (
      omega (arith, h.is_name.fits, length_wire h.labels, ap length h.whole),
      (h.absolute.0, 0 ∷ [], splits octets h, (refl, h.absolute.1)),
    )

-- octets of a name are not rejected
pub never_refused : (octets : List ℕ) (e : NameError) → IsWireName octets → MakesName octets (Err e) → ⊥
never_refused octets e h r = let same = name_same octets (Err e) (Ok h.labels) r (makes octets h) in cc
