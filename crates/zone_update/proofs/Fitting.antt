-- The longest part within a limit.
use Rattle.std.proofs.Common.{ℕ, ◌≡◌, ◌<◌, ◌≤◌, ◌+◌, ◌-◌, ◌⊎◌, inl, inr, List, length, take, subst, arith}
use Rattle.std.proofs.lemmas.Bool.{cases_lt}
use Rattle.std.proofs.lemmas.List.{take-take}
use Rattle.std.proofs.lemmas.List.Sums.{sum_by-take-le}
use Rattle.zone_update.specs.Parts.{wire_size, wire_sizes}
use Rattle.zone_update.specs.declared.operation.Operation.{Operation}

module _ (P : ℕ → Type 0) (longest at : ℕ) (none : (n : ℕ) → longest < n → n ≤ at → ¬ P n) where
  pub none_more : ¬ P (at + 1) → (n : ℕ) → longest < n → n ≤ at + 1 → ¬ P n
  none_more here n lt le p = elim (cases_lt at n) [
    | inl h ↦ here (subst P (omega (arith, h, le)) p)
    | inr h ↦ none n lt h p
  ]

  pub none_longer : {N O : Type 0} (ops : List (Operation N O)) (limit used : ℕ) → used ≡ wire_sizes (take at ops) → used ≤ limit
      → (length ops ≤ at) ⊎ (wire_sizes (take at ops) + (limit - used) < wire_sizes (take (at + 1) ops)) → (n : ℕ) → longest < n → n ≤ length ops → P n → limit < wire_sizes (take n ops)
  none_longer ops limit used is room stops n lt le p = elim (cases_lt at n) [
    | inl h ↦ elim stops [
      | inl short ↦ absurd (omega (arith, short, h, le))
      | inr big ↦
          let reach : at + 1 ≤ n = omega (arith, h) in
          let more : wire_sizes (take (at + 1) ops) ≤ wire_sizes (take n ops) =
          subst (λ l. wire_sizes l ≤ wire_sizes (take n ops)) (take-take (at + 1) n ops reach) (sum_by-take-le wire_size (take n ops) (at + 1)) in
          omega (arith, is, room, big, more)
    ]
    | inr h ↦ absurd (none n lt h p)
  ]
