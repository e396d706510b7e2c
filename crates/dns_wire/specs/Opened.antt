-- The octets of a name in a builder determine its finished labels and the open one.
use Rattle.std.specs.Prelude.{◌≡◌, ℕ, List, [], ◌∷◌, ◌++◌, length}
use Rattle.std.specs.Coded.{Coded-set, coded_list, coded_ℕ, ×_prop}
use Rattle.std.proofs.Common.{sym, ◌∙◌, ap, arith, length-append, append-nil}
use mathlib.Core.HLevel.{Σ_prop_path}
use Rattle.dns_wire.specs.Wire.{wire}
use Rattle.dns_wire.specs.Building.{closed}
use Rattle.dns_wire.specs.Labelled.{wire_same}

-- the finished labels and the open one, whose octets these are
abbrev pub Opened : List ℕ → ℕ → Type 0
Opened octets count = (s : List (List ℕ) × List ℕ) × ((octets ≡ wire (s.0 ++ closed s.1)) × (length s.1 ≡ count))

pub snoc_same : (a b : List (List ℕ)) (x y : List ℕ) → a ++ x ∷ [] ≡ b ++ y ∷ [] → (a ≡ b) × (x ≡ y)
snoc_same [] [] x y h = (Prim.cc, Prim.cc)
snoc_same [] (b ∷ bs) x y h =
    let t : [] ≡ bs ++ y ∷ [] = Prim.cc in absurd (Prim.omega (arith, ap length t, length-append bs (y ∷ [])))
snoc_same (a ∷ as1) [] x y h =
    let t : as1 ++ x ∷ [] ≡ [] = Prim.cc in absurd (Prim.omega (arith, ap length t, length-append as1 (x ∷ [])))
snoc_same (a ∷ as1) (b ∷ bs) x y h =
    let t : as1 ++ x ∷ [] ≡ bs ++ y ∷ [] = Prim.cc in
    let e : a ≡ b = Prim.cc in
    let p = snoc_same as1 bs x y t in
    ((let q = p.0 in Prim.cc), p.1)

closed_same : (a b : List (List ℕ)) (x y : List ℕ) → length x ≡ length y → a ++ closed x ≡ b ++ closed y → (a ≡ b) × (x ≡ y)
closed_same a b [] [] n h = (sym (append-nil a) ∙ h ∙ append-nil b, Prim.cc)
closed_same a b [] (d ∷ y) n h = absurd (Prim.omega arith)
closed_same a b (c ∷ x) [] n h = absurd (Prim.omega arith)
closed_same a b (c ∷ x) (d ∷ y) n h = snoc_same a b (c ∷ x) (d ∷ y) h

pub opened_same : (octets : List ℕ) (count : ℕ) (p q : Opened octets count) → p.0 ≡ q.0
opened_same octets count p q =
    let e = closed_same p.0.0 q.0.0 p.0.1 q.0.1 (p.1.1 ∙ sym q.1.1) (wire_same _ _ (sym p.1.0 ∙ q.1.0)) in
    λ i. (e.0 i, e.1 i)

pub Opened-prop : (octets : List ℕ) (count : ℕ) (p q : Opened octets count) → p ≡ q
Opened-prop octets count p q =
    Σ_prop_path (λ s. ×_prop (Coded-set (coded_list coded_ℕ) octets (wire (s.0 ++ closed s.1))) (Coded-set coded_ℕ (length s.1) count)) (opened_same octets count p q)
