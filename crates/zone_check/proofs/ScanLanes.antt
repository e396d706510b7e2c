-- From the lanes of a load to the octets of a kind.
use Rattle.std.proofs.Common.{◌≡◌, ℕ, ◌+◌, ◌-◌, ◌*◌, ◌%◌, ◌^◌, ◌≤◌, ◌<◌, ◌==◌, ◌||◌, Bool, true, false, not, cond, List, [], ◌∷◌, map, length, get_or, take, drop, replicate, Fits, w8, refl, sym, ap, ◌∙◌, subst, arith, inl, inr, eq-eqb, ne_eqb, take-append-drop, take-add, take_all, length-drop}
use Rattle.std.specs.List.{list_any}
use Rattle.std.proofs.lemmas.Bool.{agree_below, agree_below_at, cases_eq, or_from, or_left, or_right, or_parts}
use Rattle.std.proofs.lemmas.List.{length-map}
use Rattle.std.proofs.lemmas.List.Folds.{list_any-append}
use Rattle.std.proofs.lemmas.Simd.{map-map, mask_l-mod, chunk-fits, zip2_splat_left}
use lib.Lanes.{Each1, chunk, mask_l, top, zip2}
use Rattle.zone_check.specs.declared.scan.OctetKind.{OctetKind}
use Rattle.zone_check.specs.declared.scan.OctetKind.TheVariants.{Marked}
use Rattle.zone_check.specs.declared.scan.OctetScan.{OctetScan}
use Rattle.zone_check.specs.Scan.{MarksKind, is_kind, is_unusual, scan_of}

-- the bits of lanes by a function of the octet, where a run over all octets shows that it marks those of the kind
pub marks_by : (k j : OctetKind) (v z : List ℕ) (f : ℕ → ℕ) → length v ≡ 16 → j ≡ k → z ≡ map f v → agree_below (is_kind k) (λ c. top 7 (f c)) 256 ≡ true
    → MarksKind j v (mask_l (map (top 7) z) % 2 ^ 64)
marks_by k j v z f long same lanes all =
    let few : length (map (λ c. top 7 (f c)) v) ≤ 64 = omega (arith, length-map v (λ c. top 7 (f c)), long) in
    subst (λ i. MarksKind i v (mask_l (map (top 7) z) % 2 ^ 64)) (sym same) (record {
      marked = λ c. top 7 (f c);
      is = ap (λ l. mask_l l % 2 ^ 64) (ap (map (top 7)) lanes ∙ map-map (top 7) f v) ∙ mask_l-mod (map (λ c. top 7 (f c)) v) 64 few;
      exact = λ c small. agree_below_at (is_kind k) (λ c. top 7 (f c)) 256 c all small;
    })

-- `simd_gt` has its sides changed
pub splat_before : (h : ℕ → ℕ → ℕ) (v : List ℕ) (n y : ℕ) → length v ≡ n → zip2 h (replicate n y) v ≡ map (λ x. h y x) v
splat_before h v n y long = zip2_splat_left h y n v long

twice : (m : ℕ) → ((0 + 2 * m) == 0) ≡ (m == 0)
twice m = elim (cases_eq m 0) [ inl e ↦ eq-eqb (0 + 2 * m) 0 (omega (arith, e)) ∙ sym (eq-eqb m 0 e) | inr n ↦ ne_eqb (0 + 2 * m) 0 (λ e. n (omega (arith, e))) ∙ sym (ne_eqb m 0 n) ]

one_more_bit : (b any : Bool) (m : ℕ) → (m == 0) ≡ not any → ((cond b 1 0 + 2 * m) == 0) ≡ not (b || any)
one_more_bit true any m h = ne_eqb (1 + 2 * m) 0 (λ e. omega (arith, e))
one_more_bit false any m h = twice m ∙ h

-- no bit is set where no lane is marked
any_of_mask : (p : ℕ → Bool) (xs : List ℕ) → (mask_l (map p xs) == 0) ≡ not (list_any p xs)
any_of_mask p [] = refl
any_of_mask p (x ∷ xs) = one_more_bit (p x) (list_any p xs) (mask_l (map p xs)) (any_of_mask p xs)

any_same : (p q : ℕ → Bool) (xs : List ℕ) → Each1 (Fits w8) xs → ((c : ℕ) → c < 256 → p c ≡ q c) → list_any p xs ≡ list_any q xs
any_same p q [] fits same = refl
any_same p q (x ∷ xs) fits same = ap (λ b. b || list_any p xs) (same x fits.0.fits) ∙ ap (λ b. q x || b) (any_same p q xs fits.1 same)

not_not : (b : Bool) → not (not b) ≡ b
not_not true = refl
not_not false = refl

pub load_has : (k : OctetKind) (text : List ℕ) (i bits : ℕ) → ((n : ℕ) → Fits w8 (get_or text n 0)) → MarksKind k (chunk i 16 text) bits
    → not (bits == 0) ≡ list_any (is_kind k) (take 16 (drop i text))
load_has k text i bits fits m =
    let lanes : List ℕ = chunk i 16 text in
    ap (λ n. not (n == 0)) m.is ∙ ap not (any_of_mask m.marked lanes) ∙ not_not (list_any m.marked lanes)
    ∙ sym (any_same (is_kind k) m.marked lanes (chunk-fits w8 i 16 text fits) m.exact)

-- ---- one load after another

module _ (p : ℕ → Bool) (xs : List ℕ) where
  pub none_on : (i : ℕ) → list_any p (take i xs) ≡ false → list_any p (take 16 (drop i xs)) ≡ false → list_any p (take (i + 16) xs) ≡ false
  none_on i before here =
      ap (list_any p) (take-add i 16 xs) ∙ list_any-append p (take i xs) (take 16 (drop i xs)) ∙ or_from (list_any p (take i xs)) (list_any p (take 16 (drop i xs))) before here

  pub some_here : (i : ℕ) → list_any p (take 16 (drop i xs)) ≡ true → list_any p xs ≡ true
  some_here i here =
      let rest : List ℕ = drop i xs in
      let later : list_any p rest ≡ true =
      sym (ap (list_any p) (take-append-drop 16 rest)) ∙ list_any-append p (take 16 rest) (drop 16 rest) ∙ or_left (list_any p (take 16 rest)) (list_any p (drop 16 rest)) here in
      sym (ap (list_any p) (take-append-drop i xs)) ∙ list_any-append p (take i xs) rest ∙ or_right (list_any p (take i xs)) (list_any p rest) later

  none_first : (i j : ℕ) → list_any p (take (i + j) xs) ≡ false → list_any p (take i xs) ≡ false
  none_first i j none =
      (or_parts (list_any p (take i xs)) (list_any p (take j (drop i xs))) (sym (list_any-append p (take i xs) (take j (drop i xs))) ∙ sym (ap (list_any p) (take-add i j xs)) ∙ none)).0

  or_none : (a b : Bool) → a ≡ false → (a || b) ≡ b
  or_none a b e = ap (λ x. x || b) e

  -- the last load, where the octets before another offset in it have none
  pub last_load : (i last : ℕ) → last ≤ i → length xs ≡ last + 16 → list_any p (take i xs) ≡ false → list_any p (take 16 (drop last xs)) ≡ list_any p xs
  last_load i last within long none =
      let rest : List ℕ = drop last xs in
      let same : i ≡ last + (i - last) = omega arith in
      let before : list_any p (take last xs) ≡ false = none_first last (i - last) (sym (ap (λ n. list_any p (take n xs)) same) ∙ none) in
      let short : length rest ≤ 16 = omega (arith, length-drop last xs, long) in
      ap (list_any p) (take_all 16 rest short)
      ∙ sym (or_none (list_any p (take last xs)) (list_any p rest) before) ∙ sym (list_any-append p (take last xs) rest) ∙ ap (list_any p) (take-append-drop last xs)

-- ---- octets of one kind among those of several

pub none_of : (p q : ℕ → Bool) (xs : List ℕ) → ((c : ℕ) → q c ≡ false → p c ≡ false) → list_any q xs ≡ false → list_any p xs ≡ false
none_of p q [] each h = refl
none_of p q (x ∷ xs) each h =
    let parts = or_parts (q x) (list_any q xs) h in
    or_from (p x) (list_any p xs) (each x parts.0) (none_of p q xs each parts.1)

module _ (c : ℕ) (h : is_kind Marked c ≡ false) where
  abbrev encloses : Bool
  encloses = c == 40 || c == 34

  abbrev ends : Bool
  ends = c == 92 || c == 59

  others : (encloses || ends) ≡ false
  others = (or_parts (is_unusual c) (encloses || ends) h).1

  no_unusual : is_unusual c ≡ false
  no_unusual = (or_parts (is_unusual c) (encloses || ends) h).0

  no_encloses : encloses ≡ false
  no_encloses = (or_parts encloses ends others).0

  no_ends : ends ≡ false
  no_ends = (or_parts encloses ends others).1

  no_parenthesis : (c == 40) ≡ false
  no_parenthesis = (or_parts (c == 40) (c == 34) no_encloses).0

  no_quote : (c == 34) ≡ false
  no_quote = (or_parts (c == 40) (c == 34) no_encloses).1

  no_backslash : (c == 92) ≡ false
  no_backslash = (or_parts (c == 92) (c == 59) no_ends).0

  no_semicolon : (c == 59) ≡ false
  no_semicolon = (or_parts (c == 92) (c == 59) no_ends).1

abbrev scan_by : (u p q b s : Bool) → OctetScan
scan_by u p q b s = record { is_plain = not u; has_parenthesis = p; has_quote = q; has_backslash = b; has_semicolon = s }

scans_alike : (u p q b s : Bool) → u ≡ false → p ≡ false → q ≡ false → b ≡ false → s ≡ false → scan_by u p q b s ≡ scan_by false false false false false
scans_alike u p q b s hu hp hq hb hs =
    ap (λ x. scan_by x p q b s) hu ∙ ap (λ x. scan_by false x q b s) hp ∙ ap (λ x. scan_by false false x b s) hq ∙ ap (λ x. scan_by false false false x s) hb ∙ ap (λ x. scan_by false false false false x) hs

-- octets of no kind
pub nothing_marked : (xs : List ℕ) → list_any (is_kind Marked) xs ≡ false → scan_by false false false false false ≡ scan_of xs
nothing_marked xs h =
    sym (scans_alike (list_any is_unusual xs) (list_any (λ c. c == 40) xs) (list_any (λ c. c == 34) xs) (list_any (λ c. c == 92) xs) (list_any (λ c. c == 59) xs)
    (none_of is_unusual (is_kind Marked) xs no_unusual h)
    (none_of (λ c. c == 40) (is_kind Marked) xs no_parenthesis h)
    (none_of (λ c. c == 34) (is_kind Marked) xs no_quote h)
    (none_of (λ c. c == 92) (is_kind Marked) xs no_backslash h)
    (none_of (λ c. c == 59) (is_kind Marked) xs no_semicolon h))
