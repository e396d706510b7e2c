-- One more octet before a position.
use Rattle.std.proofs.Common.{◌≡◌, ℕ, ◌+◌, Bool, true, ◌==◌, not, List, [], ◌∷◌, ◌++◌, refl, sym, ap, ◌∙◌, arith, append_assoc, append-nil, length-append}
use Rattle.std.specs.List.{flat_map, list_all}
use Rattle.std.proofs.lemmas.Grind.{flat_map-append}
use Rattle.std.proofs.lemmas.Bool.{and_parts, and_from, ne_eqb, not_from_false}
use Rattle.dns_lexer.specs.Position.{IsPosition, no_feed}

pub none_before : IsPosition [] 1 1
none_before = record { lines = []; last = []; is = refl; fed = refl; unfed = refl; counted = refl; along = refl }

all_more : {A : Type 0} (p : A → Bool) (xs : List A) (x : A) → list_all p xs ≡ true → p x ≡ true → list_all p (xs ++ x ∷ []) ≡ true
all_more p [] x h k = and_from (p x) true k refl
all_more p (y ∷ ys) x h k = let q = and_parts (p y) (list_all p ys) h in and_from (p y) (list_all p (ys ++ x ∷ [])) q.0 (all_more p ys x q.1 k)

pub feed_more : (before : List ℕ) (c line column : ℕ) → c ≡ 10 → IsPosition before line column → IsPosition (before ++ c ∷ []) (line + 1) 1
feed_more before c line column e p = record {
  lines = p.lines ++ p.last ∷ [];
  last = [];
  is = ap (λ c. before ++ c ∷ []) e ∙ ap (λ l. l ++ 10 ∷ []) p.is ∙ append_assoc (flat_map (λ l. l ++ 10 ∷ []) p.lines) p.last (10 ∷ [])
      ∙ sym (append-nil _ ∙ flat_map-append (λ l. l ++ 10 ∷ []) p.lines (p.last ∷ []) ∙ ap (λ l. flat_map (λ l. l ++ 10 ∷ []) p.lines ++ l) (append-nil (p.last ++ 10 ∷ [])));
  fed = all_more no_feed p.lines p.last p.fed p.unfed;
  unfed = refl;
  counted = omega (arith, p.counted, length-append p.lines (p.last ∷ []));
  along = refl;
}

pub other_more : (before : List ℕ) (c line column : ℕ) → (c ≡ 10 → ⊥) → IsPosition before line column → IsPosition (before ++ c ∷ []) line (column + 1)
other_more before c line column e p = record {
  lines = p.lines;
  last = p.last ++ c ∷ [];
  is = ap (λ l. l ++ c ∷ []) p.is ∙ append_assoc (flat_map (λ l. l ++ 10 ∷ []) p.lines) p.last (c ∷ []);
  fed = p.fed;
  unfed = all_more (λ c. not (c == 10)) p.last c p.unfed (not_from_false _ (ne_eqb c 10 e));
  counted = p.counted;
  along = omega (arith, p.along, length-append p.last (c ∷ []));
}
