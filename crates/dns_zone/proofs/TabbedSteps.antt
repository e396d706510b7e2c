-- The tabbed writer's steps.
use Rattle.std.proofs.Common.{◌≡◌, ℕ, ◌<◌, ◌==◌, ◌||◌, List, [], ◌∷◌, Bool, false, cond, zero, suc, refl, ap, ◌∙◌, arith}
use Rattle.std.specs.Fmt.{WritesInCalls}
use Rattle.std.proofs.Output.{writes_in_calls_append}
use Rattle.dns_symbol.specs.Characters.{space, tab}
use Rattle.dns_zone.specs.Layout.{token, tabbed_gap}
use Rattle.dns_zone.specs.Tabbed.{TabbedStep}
use Rattle.dns_zone.specs.declared.zonefile_fmt.tabbed.TabbedWriter.{TabbedWriter}

-- the text before a token, by the state of the writer
abbrev pub held_gap : {W : Type 0} → TabbedWriter W → List ℕ
held_gap s = cond s.first [] (cond (s.blocks.count == 0 || s.first_block) (tab ∷ []) (space ∷ []))

-- t is s after the gap before a token
pub record GapWritten {W : Type 0} (took : W → List ℕ → W → Type 0) (s t : TabbedWriter W) : Type 0 where
  pub blocks : t.blocks ≡ s.blocks
  pub wrote : WritesInCalls took s.writer (held_gap s) t.writer

-- only inside a block does it matter whether that block has a token
same_gap : (d : ℕ) (a b : Bool) → (0 < d → a ≡ b) → (d == 0 || a) ≡ (d == 0 || b)
same_gap zero a b h = refl
same_gap (suc d) a b h = rw (h (omega arith)) refl

gap_is : (f g : Bool) (n d : ℕ) (a b : Bool) → f ≡ g → n ≡ d → (0 < d → a ≡ b)
    → cond {A = List ℕ} f [] (cond (n == 0 || a) (tab ∷ []) (space ∷ [])) ≡ cond {A = List ℕ} g [] (cond (d == 0 || b) (tab ∷ []) (space ∷ []))
gap_is f g n d a b e i h = rw (e, i, same_gap d a b h) refl

module _ {W : Type 0} (took : W → List ℕ → W → Type 0) where
  pub tabbed_token : (s t : TabbedWriter W) (v : W) (bs : List ℕ) → GapWritten took s t → WritesInCalls took t.writer bs v
      → TabbedStep took s (token bs) (record { first = false; first_block = false; blocks = t.blocks; writer = v })
  tabbed_token s t v bs p q past h = record {
    next = record { first = refl; blocks = ap (λ b. b.count) p.blocks ∙ h.blocks; first_block = λ _. refl };
    wrote =
        let e : held_gap s ≡ tabbed_gap past = gap_is _ _ _ _ _ _ h.first h.blocks h.first_block in
        rw (← e) (writes_in_calls_append took _ _ t.writer _ v p.wrote q);
  }
