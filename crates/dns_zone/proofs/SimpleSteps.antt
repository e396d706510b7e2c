-- The simple writer's steps.
use Rattle.std.proofs.Common.{◌≡◌, ℕ, List, [], ◌∷◌, false, cond, refl, ap, ◌∙◌}
use Rattle.std.specs.Fmt.{WritesInCalls}
use Rattle.std.proofs.Output.{writes_in_calls_append}
use Rattle.dns_symbol.specs.Characters.{space}
use Rattle.dns_zone.specs.Layout.{token}
use Rattle.dns_zone.specs.Simple.{SimpleStep}
use Rattle.dns_zone.specs.declared.zonefile_fmt.simple.SimpleWriter.{SimpleWriter}

-- t is s after the space before a token
pub record SpaceWritten {W : Type 0} (took : W → List ℕ → W → Type 0) (s t : SimpleWriter W) : Type 0 where
  pub blocks : t.blocks ≡ s.blocks
  pub wrote : WritesInCalls took s.writer (cond s.first [] (space ∷ [])) t.writer

module _ {W : Type 0} (took : W → List ℕ → W → Type 0) where
  pub simple_token : (s t : SimpleWriter W) (v : W) (bs : List ℕ) → SpaceWritten took s t → WritesInCalls took t.writer bs v
      → SimpleStep took s (token bs) (record { first = false; blocks = t.blocks; writer = v })
  simple_token s t v bs p q past h = record {
    next = record { first = refl; blocks = ap (λ b. b.count) p.blocks ∙ h.blocks };
    wrote = rw (← h.first) (writes_in_calls_append took _ _ t.writer _ v p.wrote q);
  }
