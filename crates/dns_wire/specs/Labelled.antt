-- Octets are the octets of labels in one way.
use Rattle.std.specs.Prelude.{◌≡◌, ℕ, List, [], ◌∷◌, ◌++◌, length}
use Rattle.std.specs.Coded.{Coded-set, coded_list, coded_ℕ}
use Rattle.std.proofs.Common.{sym, ◌∙◌, arith}
use mathlib.Core.HLevel.{Σ_prop_path}
use Rattle.dns_wire.specs.Wire.{wire, wire_label}

-- the labels whose octets these are
abbrev pub Labelled : List ℕ → Type 0
Labelled octets = (labels : List (List ℕ)) × (octets ≡ wire labels)

pub append_same : (a b x y : List ℕ) → length a ≡ length b → a ++ x ≡ b ++ y → (a ≡ b) × (x ≡ y)
append_same [] [] x y n h = (cc, h)
append_same [] (d ∷ b) x y n h = absurd (Prim.omega arith)
append_same (c ∷ a) [] x y n h = absurd (Prim.omega arith)
append_same (c ∷ a) (d ∷ b) x y n h =
    let t : a ++ x ≡ b ++ y = Prim.cc in
    let e : c ≡ d = Prim.cc in
    let p = append_same a b x y (Prim.omega arith) t in
    ((let q = p.0 in Prim.cc), p.1)

-- two readings of one label agree
pub label_same : (a b x y : List ℕ) → wire_label a ++ x ≡ wire_label b ++ y → (a ≡ b) × (x ≡ y)
label_same a b x y h =
    let n : length a ≡ length b = Prim.cc in
    let t : a ++ x ≡ b ++ y = Prim.cc in
    append_same a b x y n t

pub wire_same : (x y : List (List ℕ)) → wire x ≡ wire y → x ≡ y
wire_same [] [] h = Prim.cc
wire_same [] (b ∷ y) h = Prim.cc
wire_same (a ∷ x) [] h = Prim.cc
wire_same (a ∷ x) (b ∷ y) h =
    let p = label_same a b (wire x) (wire y) h in
    let e = p.0 in
    let t = wire_same x y p.1 in
    Prim.cc

pub Labelled-prop : (octets : List ℕ) (p q : Labelled octets) → p ≡ q
Labelled-prop octets p q =
    Σ_prop_path (λ labels. Coded-set (coded_list coded_ℕ) octets (wire labels)) (wire_same p.0 q.0 (sym p.1 ∙ q.1))
