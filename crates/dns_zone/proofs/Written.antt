-- The loop that writes the items of a document.
use Rattle.std.proofs.Common.{◌≡◌, ℕ, ◌+◌, ◌<◌, true, List, [], ◌∷◌, ◌++◌, refl, ap, ◌∙◌, arith}
use Rattle.std.proofs.lemmas.Fn.{FoldsTo-push}
use Rattle.std.specs.List.{FoldsTo}
use Rattle.dns_zone.specs.Layout.{Step, token, begin, end, comment, newline}
use Rattle.dns_zone.specs.Nesting.{is_nested, IsNested, has_line, Fits}
use Rattle.dns_zone.specs.Forming.{from_none_test}
use Rattle.dns_zone.proofs.Nested.{nested_rest, nested_end, nested_newline}
use Rattle.dns_zone.specs.Writers.{WritesStep, WritesSteps, opened}

-- the writing of a document has come to `rest`, with `inner` blocks of its own open
pub record Written {F : Type 0} (blocks : F → ℕ) (gives : F → Step → F → Type 0) (w : F) (front rest : List Step) (v : F) : Type 0 where
  pub inner : ℕ
  pub opens : blocks v ≡ blocks w + inner
  pub nested : is_nested inner rest ≡ true
  pub lines : has_line rest ≡ true → blocks w ≡ 0
  pub steps : FoldsTo gives w front v

has_line_more : (x : Step) (xs : List Step) → has_line xs ≡ true → has_line (x ∷ xs) ≡ true
has_line_more (token bs) xs h = h
has_line_more begin xs h = h
has_line_more end xs h = h
has_line_more (comment bs) xs h = h
has_line_more newline xs h = refl

opened_from : (x : Step) (n d : ℕ) → (x ≡ end → 0 < d) → opened x (n + d) ≡ n + opened x d
opened_from (token bs) n d h = refl
opened_from begin n d h = omega arith
opened_from end n d h = let k : 0 < d = h refl in omega arith
opened_from (comment bs) n d h = refl
opened_from newline n d h = refl

module _ {F : Type 0} (blocks : F → ℕ) (gives : F → Step → F → Type 0) (w : F) where
  pub written_none : (xs : List Step) → IsNested xs → Fits xs (blocks w) → Written blocks gives w [] xs w
  written_none xs p q = record { inner = 0; opens = omega arith; nested = p; lines = q; steps = refl }

  pub written_end : (front rest : List Step) (x : Step) (v : F) → Written blocks gives w front (x ∷ rest) v → x ≡ end → 0 < blocks v
  written_end front rest x v s e =
      let k = nested_end s.inner x rest s.nested e in
      omega (arith, s.opens)

  pub written_newline : (front rest : List Step) (x : Step) (v : F) → Written blocks gives w front (x ∷ rest) v → x ≡ newline → blocks v ≡ 0
  written_newline front rest x v s e =
      let k = nested_newline s.inner x rest s.nested e in
      let z = s.lines (ap (λ (y : Step). has_line (y ∷ rest)) e) in
      omega (arith, s.opens)

  pub written_more : (front rest : List Step) (x : Step) (v u : F) → Written blocks gives w front (x ∷ rest) v → WritesStep blocks gives v x u
      → Written blocks gives w (front ++ x ∷ []) rest u
  written_more front rest x v u s p = record {
    inner = opened x s.inner;
    opens = p.opens ∙ (ap (opened x) s.opens ∙ opened_from x (blocks w) s.inner (nested_end s.inner x rest s.nested));
    nested = nested_rest s.inner x rest s.nested;
    lines = λ h. s.lines (has_line_more x rest h);
    steps = FoldsTo-push gives w front v x u s.steps p.gives;
  }

  pub written_all : (front : List Step) (v : F) → Written blocks gives w front [] v → WritesSteps blocks gives w front v
  written_all front v s =
      let d : s.inner ≡ 0 = from_none_test s.inner s.nested in
      record { level = omega (arith, s.opens); steps = s.steps }
