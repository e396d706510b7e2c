-- Positions that advance.
use Rattle.std.proofs.Common.{◌≡◌, ◌≢◌, ◌≤◌, ◌<◌, ◌+◌, ◌-◌, ℕ, Bool, true, List, [], ◌∷◌, ◌++◌, length, take, drop, refl, sym, ap, subst, ◌∙◌, arith, append_assoc, length-append}
use Rattle.std.specs.Prelude.{min}
use Rattle.std.specs.List.{flat_map, list_all}
use Rattle.std.proofs.lemmas.Bool.{and_parts, and_from}
use Rattle.std.proofs.lemmas.Grind.{flat_map-append}
use Rattle.std.proofs.lemmas.List.{length-drop, length-take-le, take_all}
use Rattle.std.proofs.Math.Seq.{take-add}
use Rattle.dns_octets.specs.Octets.{greatest_length}
use Rattle.dns_lexer.specs.Position.{IsPosition, no_feed}

-- a line with its LF
abbrev line_of : List ℕ → List ℕ
line_of l = l ++ 10 ∷ []

all_join : {A : Type 0} (p : A → Bool) (xs ys : List A) → list_all p xs ≡ true → list_all p ys ≡ true → list_all p (xs ++ ys) ≡ true
all_join p [] ys h k = k
all_join p (x ∷ xs) ys h k = let q = and_parts (p x) (list_all p xs) h in and_from (p x) (list_all p (xs ++ ys)) q.0 (all_join p xs ys q.1 k)

lines_few : (lines : List (List ℕ)) → length lines ≤ length (flat_map line_of lines)
lines_few [] = omega arith
lines_few (l ∷ lines) = omega (arith, lines_few lines, length-append (line_of l) (flat_map line_of lines), length-append l (10 ∷ []))

-- no line and no column exceeds the number of octets before it
small : (before : List ℕ) (line column : ℕ) → IsPosition before line column → (line ≤ length before + 1) × (column ≤ length before + 1)
small before line column p =
    let all = ap length p.is ∙ length-append (flat_map line_of p.lines) p.last in
    (omega (arith, p.counted, lines_few p.lines, all), omega (arith, p.along, all))

-- octets without an LF after others
same_line : (a b : List ℕ) (l c m d : ℕ) (p : IsPosition a l c) (q : IsPosition b m d) → q.lines ≡ [] → IsPosition (a ++ b) l (c + (d - 1))
same_line a b l c m d p q none = record {
  lines = p.lines;
  last = p.last ++ q.last;
  is = ap (λ x. x ++ b) p.is ∙ ap (λ y. (flat_map line_of p.lines ++ p.last) ++ y) (q.is ∙ ap (λ ls. flat_map line_of ls ++ q.last) none)
      ∙ append_assoc (flat_map line_of p.lines) p.last q.last;
  fed = p.fed;
  unfed = all_join _ p.last q.last p.unfed q.unfed;
  counted = p.counted;
  along = omega (arith, p.along, q.along, length-append p.last q.last);
}

-- two ways to write the same octets
regrouped : (f l x n m q : List ℕ) → (f ++ l) ++ (((x ++ n) ++ m) ++ q) ≡ (f ++ (((l ++ x) ++ n) ++ m)) ++ q
regrouped f l x n m q =
    append_assoc f l (((x ++ n) ++ m) ++ q) ∙ ap (λ t. f ++ (l ++ t)) (append_assoc (x ++ n) m q ∙ append_assoc x n (m ++ q))
    ∙ sym (append_assoc f (((l ++ x) ++ n) ++ m) q
    ∙ ap (λ t. f ++ t) (append_assoc ((l ++ x) ++ n) m q ∙ append_assoc (l ++ x) n (m ++ q) ∙ append_assoc l x (n ++ (m ++ q))))

-- octets with an LF after others
next_lines : (a b : List ℕ) (l c m d : ℕ) (p : IsPosition a l c) (q : IsPosition b m d) (first : List ℕ) (more : List (List ℕ)) → q.lines ≡ first ∷ more
    → IsPosition (a ++ b) (l + (m - 1)) d
next_lines a b l c m d p q first more are =
    let fed = and_parts (no_feed first) (list_all no_feed more) (ap (list_all no_feed) (sym are) ∙ q.fed) in
    record {
      lines = p.lines ++ (p.last ++ first) ∷ more;
      last = q.last;
      is = ap (λ x. x ++ b) p.is ∙ ap (λ y. (flat_map line_of p.lines ++ p.last) ++ y) (q.is ∙ ap (λ ls. flat_map line_of ls ++ q.last) are)
          ∙ regrouped (flat_map line_of p.lines) p.last first (10 ∷ []) (flat_map line_of more) q.last
          ∙ ap (λ t. t ++ q.last) (sym (flat_map-append line_of p.lines ((p.last ++ first) ∷ more)));
      fed = all_join no_feed p.lines ((p.last ++ first) ∷ more) p.fed (and_from (no_feed (p.last ++ first)) (list_all no_feed more) (all_join _ p.last first p.unfed fed.0) fed.1);
      unfed = q.unfed;
      counted = omega (arith, p.counted, q.counted, ap length are, length-append p.lines ((p.last ++ first) ∷ more));
      along = q.along;
    }

-- the position after both
joined : (a b : List ℕ) (l c m d line column : ℕ) → IsPosition a l c → IsPosition b m d → length (a ++ b) < greatest_length → line ≡ min (l + (m - 1)) greatest_length
    → (m ≡ 1 → column ≡ min (c + (d - 1)) greatest_length) → (m ≢ 1 → column ≡ d) → IsPosition (a ++ b) line column
joined a b l c m d line column p q few is same next = go q.lines refl
  where
    go : (lines : List (List ℕ)) → q.lines ≡ lines → IsPosition (a ++ b) line column
    go [] none =
        let one : m ≡ 1 = omega (arith, q.counted, ap length none) in
        let there = same_line a b l c m d p q none in
        let fits = small (a ++ b) l (c + (d - 1)) there in
        let first : line ≡ l = omega (arith, is, one, fits.0, few) in
        let second : column ≡ c + (d - 1) = omega (arith, same one, fits.1, few) in
        subst (λ n. IsPosition (a ++ b) n column) (sym first) (subst (IsPosition (a ++ b) l) (sym second) there)
    go (x ∷ more) are =
        let there = next_lines a b l c m d p q x more are in
        let fits = small (a ++ b) (l + (m - 1)) d there in
        let first : line ≡ l + (m - 1) = omega (arith, is, fits.0, few) in
        let second : column ≡ d = next (λ one. omega (arith, one, q.counted, ap length are)) in
        subst (λ n. IsPosition (a ++ b) n column) (sym first) (subst (IsPosition (a ++ b) (l + (m - 1))) (sym second) there)

-- a position advances by the position of the octets between
pub moved : (text : List ℕ) (from offset l c m d line column : ℕ) → from ≤ offset → offset ≤ length text → length text < greatest_length
    → IsPosition (take (offset - from) (take (length text - from) (drop from text))) m d → line ≡ min (l + (m - 1)) greatest_length → (m ≡ 1 → column ≡ min (c + (d - 1)) greatest_length)
    → (m ≢ 1 → column ≡ d) → IsPosition (take from text) l c → IsPosition (take offset text) line column
moved text from offset l c m d line column ahead within few q is same next p =
    let rest : take (length text - from) (drop from text) ≡ drop from text = take_all (length text - from) (drop from text) (omega (arith, length-drop from text)) in
    let behind = subst (λ t. IsPosition (take (offset - from) t) m d) rest q in
    let sum : offset ≡ from + (offset - from) = omega (arith, ahead) in
    let whole : take offset text ≡ take from text ++ take (offset - from) (drop from text) = ap (λ n. take n text) sum ∙ take-add from (offset - from) text in
    let short : length (take from text ++ take (offset - from) (drop from text)) < greatest_length = omega (arith, ap length whole, length-take-le offset text within, within, few) in
    subst (λ t. IsPosition t line column) (sym whole) (joined (take from text) (take (offset - from) (drop from text)) l c m d line column p behind short is same next)
