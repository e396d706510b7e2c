-- The wire format that was passed over.
use Rattle.std.proofs.Common.{◌≡◌, ℕ, suc, ◌+◌, ◌≤◌, List, ◌∷◌, ◌++◌, length, take, drop, refl, sym, ap, ◌∙◌, arith, Result, Ok, Err}
use Rattle.std.specs.Prelude.{IsOk, OnOk, is_ok, if◌then◌else◌}
use Rattle.std.proofs.lemmas.List.{length-take-le, drop-drop, take-append-drop}
use Rattle.dns_octets.specs.Parsing.{Parsing, rest, advanced_by}
use Rattle.dns_octets.specs.declared.error.ParseError.{ParseError}
use Rattle.dns_charstr.specs.Wire.{wire_of}

-- after a length octet and the number of octets that it states
pub passed : (old mid new : Parsing) (len : ℕ) (r : Result (Unit {0}) ParseError) → rest old ≡ len ∷ rest mid → mid ≡ advanced_by 1 old
    → (IsOk r → len ≤ length (rest mid)) → new ≡ (if is_ok r then advanced_by len mid else mid)
    → OnOk r ((s : List ℕ) × (rest old ≡ wire_of s ++ rest new) × (new ≡ advanced_by (length (wire_of s)) old))
passed old mid new len (Ok u) value one within moved =
    let counted : length (take len (rest mid)) ≡ len = length-take-le len (rest mid) (within refl) in
    let left : drop len (rest mid) ≡ rest new = drop-drop len mid.place mid.octets ∙ ap rest (sym moved) in
    let parts : rest mid ≡ take len (rest mid) ++ rest new = sym (take-append-drop len (rest mid)) ∙ ap (λ t. take len (rest mid) ++ t) left in
    let place : old.place + 1 + len ≡ old.place + suc len = omega arith in (
      take len (rest mid),
      value ∙ (λ i. sym counted i ∷ parts i),
      moved ∙ ap (advanced_by len) one ∙ (λ i. record { octets = old.octets; place = place i }) ∙ ap (λ n. advanced_by (suc n) old) (sym counted),
    )
passed old mid new len (Err e) value one within moved = tt
