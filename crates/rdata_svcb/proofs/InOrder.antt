-- Parameters in any order, and those in order with the same wire format.
use Rattle.std.proofs.Common.{◌≡◌, ℕ, ◌+◌, ◌<◌, ◌≤◌, List, [], ◌∷◌, ◌++◌, length, All, Option, None, Some, refl, sym, ap, ◌∙◌, arith, subst, zero, suc}
use Rattle.std.specs.List.{flat_map, range_with_len}
use Rattle.std.proofs.lemmas.List.Elements.{All-nil, All-cons, All-weaker}
use Rattle.rdata_svcb.specs.Params.{param, param_if, params_from, params_wire, value_at, params_of, HasAscendingKeys, HasFittingValues, IsParams}
use Rattle.rdata_svcb.proofs.Entries.{entries_none, entries_first}
use Rattle.rdata_svcb.proofs.Reading.{fits_at, in_order, same_values}
use Rattle.rdata_svcb.proofs.Settling.{Fits}
use Rattle.rdata_svcb.proofs.ParamLists.{read_back}

abbrev entry_if : ℕ → Option (List ℕ) → List (ℕ × List ℕ)
entry_if key None = []
entry_if key (Some value) = (key, value) ∷ []

-- the keys with a value, of `n` keys from the first on
unfoldable listed : (ℕ → Option (List ℕ)) → ℕ → ℕ → List (ℕ × List ℕ)
listed f w n = flat_map (λ k. entry_if k (f k)) (range_with_len w n)

listed_none : (f : ℕ → Option (List ℕ)) (w : ℕ) → listed f w 0 ≡ []
unfolding listed
listed_none f w = refl

listed_first : (f : ℕ → Option (List ℕ)) (w n : ℕ) → listed f w (suc n) ≡ entry_if w (f w) ++ listed f (w + 1) n
unfolding listed
listed_first f w n = refl

record IsListed (f : ℕ → Option (List ℕ)) (w n : ℕ) (ps : List (ℕ × List ℕ)) : Type 0 where
  pub within : All (λ p. (w ≤ p.0) × (p.0 < w + n) × (length p.1 < 65536)) ps
  pub ascending : HasAscendingKeys ps
  pub wire : flat_map (λ p. param p.0 p.1) ps ≡ params_from f w n

cons_keys : (p : ℕ × List ℕ) (ps : List (ℕ × List ℕ)) → All (λ q. p.0 < q.0) ps → HasAscendingKeys ps → HasAscendingKeys (p ∷ ps)
cons_keys p ps low up zero zero d l m = absurd (omega arith)
cons_keys p ps low up zero (suc j) d l m = low j d (omega arith)
cons_keys p ps low up (suc i) zero d l m = absurd (omega arith)
cons_keys p ps low up (suc i) (suc j) d l m = up i j d (omega arith) (omega arith)

wider : (w n : ℕ) (ps : List (ℕ × List ℕ)) → All (λ p. (w + 1 ≤ p.0) × (p.0 < w + 1 + n) × (length p.1 < 65536)) ps
    → All (λ p. (w ≤ p.0) × (p.0 < w + suc n) × (length p.1 < 65536)) ps
wider w n ps h = All-weaker (λ p. (w + 1 ≤ p.0) × (p.0 < w + 1 + n) × (length p.1 < 65536)) (λ p. (w ≤ p.0) × (p.0 < w + suc n) × (length p.1 < 65536))
    (λ p b. (omega (arith, b.0), omega (arith, b.1), b.2)) ps h

listed_by : (f : ℕ → Option (List ℕ)) (w n : ℕ) (o : Option (List ℕ)) → f w ≡ o → Fits f → IsListed f (w + 1) n (listed f (w + 1) n)
    → IsListed f w (suc n) (entry_if w o ++ listed f (w + 1) n)
listed_by f w n None e fit h = record {
  within = wider w n (listed f (w + 1) n) h.within;
  ascending = h.ascending;
  wire = h.wire ∙ sym (entries_first f w n ∙ ap (λ o. param_if w o ++ params_from f (w + 1) n) e);
}
listed_by f w n (Some v) e fit h = record {
  within = All-cons (λ p. (w ≤ p.0) × (p.0 < w + suc n) × (length p.1 < 65536)) (w, v) (listed f (w + 1) n) (omega arith, omega arith, fit w v e) (wider w n (listed f (w + 1) n) h.within);
  ascending = cons_keys (w, v) (listed f (w + 1) n)
      (All-weaker (λ p. (w + 1 ≤ p.0) × (p.0 < w + 1 + n) × (length p.1 < 65536)) (λ p. w < p.0) (λ p b. omega (arith, b.0)) (listed f (w + 1) n) h.within) h.ascending;
  wire = ap (λ x. param w v ++ x) h.wire ∙ sym (entries_first f w n ∙ ap (λ o. param_if w o ++ params_from f (w + 1) n) e);
}

is_listed : (f : ℕ → Option (List ℕ)) (w n : ℕ) → Fits f → IsListed f w n (listed f w n)
is_listed f w zero fit =
    let P : List (ℕ × List ℕ) → Type 0 = IsListed f w zero in
    subst P (sym (listed_none f w)) (record {
      within = All-nil (λ p. (w ≤ p.0) × (p.0 < w + zero) × (length p.1 < 65536));
      ascending = λ i j d l m. absurd (omega arith);
      wire = sym (entries_none f w);
    })
is_listed f w (suc n) fit =
    let P : List (ℕ × List ℕ) → Type 0 = IsListed f w (suc n) in
    subst P (sym (listed_first f w n)) (listed_by f w n (f w) refl fit (is_listed f (w + 1) n fit))

-- a wire format of parameters is that of ascending ones
pub are_in_order : (ps : List (ℕ × List ℕ)) → HasFittingValues ps → IsParams (params_wire ps)
are_in_order ps fit =
    let f = value_at ps in
    let h = is_listed f 0 65536 (λ k v e. fits_at ps k v fit e) in
    let fits = All-weaker (λ p. (0 ≤ p.0) × (p.0 < 0 + 65536) × (length p.1 < 65536)) (λ p. length p.1 < 65536) (λ p b. b.2) (listed f 0 65536) h.within in
    let small = All-weaker (λ p. (0 ≤ p.0) × (p.0 < 0 + 65536) × (length p.1 < 65536)) (λ p. p.0 < 65536) (λ p b. omega (arith, b.1)) (listed f 0 65536) h.within in
    (listed f 0 65536, h.ascending, fits, small, in_order (listed f 0 65536) h.ascending small fits ∙ h.wire)

-- and has the same values
pub values_read_back : (ps : List (ℕ × List ℕ)) (key : ℕ) → HasFittingValues ps → key < 65536 → value_at (params_of (params_wire ps)) key ≡ value_at ps key
values_read_back ps key fit l =
    let h = read_back (params_wire ps) (are_in_order ps fit) in same_values (params_of (params_wire ps)) ps key h.fitting fit h.wire l
