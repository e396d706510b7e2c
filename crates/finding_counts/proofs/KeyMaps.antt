-- Maps whose keys are read as octets: what a change at some octets leaves at others. Baselines, after one more finding.
use Rattle.std.proofs.Common.{◌≡◌, ◌∙◌, ◌+◌, ◌-◌, ◌++◌, ◌∷◌, [], BTreeMap, Bool, List, Option, Some, ap, arith, bytes_eq, cond, false, if◌then◌else◌, is_eq, nat_cmp, refl, subst, sym, true, unwrap_or, ⊎_elim, ℕ}
use Rattle.std.proofs.lemmas.Bool.{cases_Bool, cond-false, cond-true}
use Rattle.std.proofs.lemmas.Cmp.{eq_by_cmp_equiv, nat_list_cmp_total, nat_list_eq_equiv}
use Rattle.std.proofs.lemmas.Map.Text.{is_eq-slice_cmp}
use Rattle.std.proofs.lemmas.Slice.Eq.{bytes_eq-Decides}
use Rattle.std.proofs.lemmas.List.Sums.{sum_by_push}
use Rattle.std.specs.BTreeMap.{UpdatesBy, get_by}
use Rattle.std.specs.Cmp.Lexicographic.{slice_cmp}
use Rattle.std.specs.Map.{AreApart, IsKeyTest, KeepsOthers, lookup}
use Rattle.finding_counts.specs.KeyNumbers.{HasFound, key_number, times_among}
use Rattle.finding_counts.specs.declared.key_counts.Baseline.{Baseline}

apart : (bs cs ks : List ℕ) → bytes_eq bs cs ≡ false → bytes_eq bs ks ≡ true → bytes_eq cs ks ≡ false
apart bs cs ks n y = nat_list_eq_equiv.symm cs ks ∙ sym (nat_list_eq_equiv.congr bs ks cs y) ∙ n

apart_in_order : (bs cs ks : List ℕ) → bytes_eq bs cs ≡ false → is_eq (slice_cmp nat_cmp bs ks) ≡ true → is_eq (slice_cmp nat_cmp cs ks) ≡ false
apart_in_order bs cs ks n y = is_eq-slice_cmp cs ks ∙ apart bs cs ks n (sym (is_eq-slice_cmp bs ks) ∙ y)

other_entries : {K X : Type 0} (eq : K → K → Bool) (test : K → Bool) (old new : List (K × X)) → KeepsOthers eq test old new
    → (other : K → Bool) → IsKeyTest eq other → AreApart test other → lookup other new ≡ lookup other old
unfolding KeepsOthers
other_entries eq test old new h = h

-- g is w at bs, and f at other octets
by_octets : {W : Type 0} (f g : List ℕ → W) (bs : List ℕ) (w : W) → g bs ≡ w → ((cs : List ℕ) → bytes_eq bs cs ≡ false → g cs ≡ f cs)
    → (cs : List ℕ) → g cs ≡ cond (bytes_eq bs cs) w (f cs)
by_octets f g bs w here other cs =
    ⊎_elim
    (λ y. subst (λ l. g l ≡ w) ((bytes_eq-Decides bs cs).0 y) here ∙ sym (cond-true (bytes_eq bs cs) w (f cs) y))
    (λ n. other cs n ∙ sym (cond-false (bytes_eq bs cs) w (f cs) n))
    (cases_Bool (bytes_eq bs cs))

-- what a map has at some octets, where `octets` reads its keys
abbrev pub at_octets : {K X : Type 0} → (K → List ℕ) → BTreeMap K X → List ℕ → Option X
at_octets octets m cs = get_by (λ k. slice_cmp nat_cmp cs (octets k)) m

pub at_octets-updated : {K X : Type 0} (octets : K → List ℕ) (bs : List ℕ) (m n : BTreeMap K X) (w : Option X)
    → UpdatesBy (λ x y. slice_cmp nat_cmp (octets x) (octets y)) (λ k. slice_cmp nat_cmp bs (octets k)) m n w
    → (cs : List ℕ) → at_octets octets n cs ≡ cond (bytes_eq bs cs) w (at_octets octets m cs)
at_octets-updated octets bs m n w h =
    by_octets (at_octets octets m) (at_octets octets n) bs w h.1
    (λ cs e. other_entries _ _ _ _ h.3 _ (λ x y. (eq_by_cmp_equiv nat_list_cmp_total).congr cs (octets x) (octets y)) (λ k. apart_in_order bs cs (octets k) e))

unwrap_or-cond : (b : Bool) (v : ℕ) (o : Option ℕ) → unwrap_or (cond b (Some v) o) 0 ≡ (if b then v else unwrap_or o 0)
unwrap_or-cond true v o = refl
unwrap_or-cond false v o = refl

-- the number at some octets after a change
pub number-updated : {K : Type 0} (octets : K → List ℕ) (bs : List ℕ) (m n : BTreeMap K ℕ) (v : ℕ)
    → UpdatesBy (λ x y. slice_cmp nat_cmp (octets x) (octets y)) (λ k. slice_cmp nat_cmp bs (octets k)) m n (Some v)
    → (cs : List ℕ) → unwrap_or (at_octets octets n cs) 0 ≡ (if bytes_eq bs cs then v else unwrap_or (at_octets octets m cs) 0)
number-updated octets bs m n v h cs =
    ap (λ o. unwrap_or o 0) (at_octets-updated octets bs m n (Some v) h cs) ∙ unwrap_or-cond (bytes_eq bs cs) v (at_octets octets m cs)

times_more : (other key : List ℕ) (found : List (List ℕ)) → times_among other (found ++ key ∷ []) ≡ times_among other found + cond (bytes_eq other key) 1 0
times_more other key found =
    sum_by_push (λ k. cond (bytes_eq other k) 1 0) found key

fewer_by_one : (n t a m : ℕ) → a ≡ n - t → m ≡ t + 1 → a - 1 ≡ n - m
fewer_by_one n t a m p q = omega arith

not_fewer : (n t b m : ℕ) → b ≡ n - t → m ≡ t + 0 → b ≡ n - m
not_fewer n t b m p q = omega arith

one_more : (numbers : List ℕ → ℕ) (found : List (List ℕ)) (key other : List ℕ) (a b : ℕ) → a ≡ numbers key - times_among key found
    → b ≡ numbers other - times_among other found
    → (if bytes_eq key other then a - 1 else b) ≡ numbers other - times_among other (found ++ key ∷ [])
one_more numbers found key other a b p q =
    ⊎_elim
    (λ y.
    let same : key ≡ other = (bytes_eq-Decides key other).0 y in
    let more : times_among other (found ++ key ∷ []) ≡ times_among other found + 1 = times_more other key found ∙ ap (λ c. times_among other found + cond c 1 0) (nat_list_eq_equiv.symm other key ∙ y) in
    cond-true (bytes_eq key other) (a - 1) b y
    ∙ fewer_by_one (numbers other) (times_among other found) a _ (p ∙ ap (λ k. numbers k - times_among k found) same) more)
    (λ n.
    let more : times_among other (found ++ key ∷ []) ≡ times_among other found + 0 = times_more other key found ∙ ap (λ c. times_among other found + cond c 1 0) (nat_list_eq_equiv.symm other key ∙ n) in
    cond-false (bytes_eq key other) (a - 1) b n ∙ not_fewer (numbers other) (times_among other found) b _ q more)
    (cases_Bool (bytes_eq key other))

-- a finding with a key was found: one less is left with that key
pub found_next : (numbers : List ℕ → ℕ) (found : List (List ℕ)) (key : List ℕ) (old new : Baseline) → HasFound numbers found old
    → ((other : List ℕ) → key_number new.rest other ≡ (if bytes_eq key other then key_number old.rest key - 1 else key_number old.rest other))
    → HasFound numbers (found ++ key ∷ []) new
found_next numbers found key old new h step = record {
  rest = λ other. step other ∙ one_more numbers found key other (key_number old.rest key) (key_number old.rest other) (h.rest key) (h.rest other);
}
