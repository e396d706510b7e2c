-- Steps and runs in a row.
use Rattle.std.proofs.Common.{◌≡◌, ℕ, List, [], ◌∷◌, ◌++◌, refl, sym, subst, ◌∙◌, arith}
use Rattle.std.specs.List.{FoldsTo}
use Rattle.dns_zone.specs.Layout.{Step, begin, end}
use Rattle.dns_zone.specs.Writers.{WritesStep, WritesSteps, opened}

module _ {F : Type 0} (gives : F → Step → F → Type 0) where
  pub folds_append : (w : F) (xs : List Step) (v : F) (ys : List Step) (u : F) → FoldsTo gives w xs v → FoldsTo gives v ys u → FoldsTo gives w (xs ++ ys) u
  folds_append w [] v ys u p q = subst (λ (x : F). FoldsTo gives x ys u) (sym p) q
  folds_append w (x ∷ xs) v ys u p q = (p.0, p.1, folds_append p.0 xs v ys u p.2 q)

module _ {F : Type 0} (blocks : F → ℕ) (gives : F → Step → F → Type 0) where
  pub runs_none : (w : F) → WritesSteps blocks gives w [] w
  runs_none w = record { level = refl; steps = refl }

  pub runs_append : (w : F) (xs : List Step) (v : F) (ys : List Step) (u : F) → WritesSteps blocks gives w xs v → WritesSteps blocks gives v ys u → WritesSteps blocks gives w (xs ++ ys) u
  runs_append w xs v ys u p q = record { level = q.level ∙ p.level; steps = folds_append gives w xs v ys u p.steps q.steps }

  pub runs_step : (w : F) (x : Step) (v : F) → blocks v ≡ blocks w → gives w x v → WritesSteps blocks gives w (x ∷ []) v
  runs_step w x v e p = record { level = e; steps = (v, p, refl) }

  pub runs_block : (w a b v : F) (xs : List Step) → WritesStep blocks gives w begin a → WritesSteps blocks gives a xs b → WritesStep blocks gives b end v → WritesSteps blocks gives w (begin ∷ (xs ++ end ∷ [])) v
  runs_block w a b v xs p q r = record {
    level = omega (arith, p.opens, q.level, r.opens);
    steps = (a, p.gives, folds_append gives a xs b (end ∷ []) v q.steps (v, r.gives, refl));
  }

  pub runs_then_step : (w : F) (xs : List Step) (v : F) (x : Step) (u : F) → WritesSteps blocks gives w xs v → WritesStep blocks gives v x u → opened x (blocks v) ≡ blocks v
      → WritesSteps blocks gives w (xs ++ x ∷ []) u
  runs_then_step w xs v x u p q e = record {
    level = q.opens ∙ (e ∙ p.level);
    steps = folds_append gives w xs v (x ∷ []) u p.steps (u, q.gives, refl);
  }
