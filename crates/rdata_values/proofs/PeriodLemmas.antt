-- The periods that are unread.
use Rattle.std.proofs.Common.{ℕ, lit<, ◌≡◌, ◌<◌, ◌≤◌, ◌+◌, ◌*◌, ◌^◌, List, ◌∷◌, length, refl, sym, subst, arith, inl, inr, Option, Some, None, get_or, drop, ap, ◌∙◌}
use Rattle.std.specs.Prelude.{IfSome, unwrap_or}
use Rattle.std.specs.Char.{digit_value}
use Rattle.std.proofs.lemmas.List.{drop_more, drop_all}
use Rattle.rdata_values.specs.Ttl.{unit_seconds, IsPeriods, ReadsPeriods}
use Rattle.rdata_values.proofs.Periods.{After, after_periods, periods_of, after_ge}

-- the periods read so far are `total` seconds, the number `count` has begun, and `rest` is unread
pub record Totals (text : List ℕ) (total : ℕ) (count : Option ℕ) (rest : List ℕ) : Type 0 where
  pub small : total < 2 ^ 32
  pub fits : IfSome count (λ k. k < 2 ^ 32)
  pub on : (n : ℕ) → After None text n → (m : ℕ) × (n ≡ total + m) × After count rest m
  pub back : (m : ℕ) → After count rest m → After None text (total + m)

pub begins : (text : List ℕ) → Totals text 0 None text
begins text = record { small = lit< tt; fits = tt; on = λ n h. (n, omega arith, h); back = λ m h. subst (After None text) (omega arith) h }

-- a unit follows the number
pub unit_goes_on : (text : List ℕ) (total k u c : ℕ) (cs : List ℕ) → unit_seconds c ≡ Some u → total + k * u < 2 ^ 32 → Totals text total (Some k) (c ∷ cs) → Totals text (total + k * u) None cs
unit_goes_on text total k u c cs unit fits h = record {
  small = fits;
  fits = tt;
  on = λ n is. by n (h.on n is);
  back = λ m is. subst (After None text) (omega arith) (h.back (k * u + m) (inl (u, m, unit, refl, is)));
}
  where
    by : (n : ℕ) → (m : ℕ) × (n ≡ total + m) × After (Some k) (c ∷ cs) m → (m : ℕ) × (n ≡ (total + k * u) + m) × After None cs m
    by n (m, e, inl w) = let same : w.0 ≡ u = cc (w.2, unit) in let is : m ≡ k * u + w.1 = cc (w.3, same) in (w.1, omega (arith, e, is), w.4)
    by n (m, e, inr w) = cc (w.0, unit)

-- a digit more
pub digit_goes_on : (text : List ℕ) (total : ℕ) (count : Option ℕ) (c : ℕ) (cs : List ℕ) → unit_seconds c ≡ None → digit_value c < 10 → unwrap_or count 0 * 10 + digit_value c < 2 ^ 32
    → Totals text total count (c ∷ cs) → Totals text total (Some (unwrap_or count 0 * 10 + digit_value c)) cs
digit_goes_on text total None c cs unit digit fits h = record {
  small = h.small;
  fits = fits;
  on = λ n is. let w = h.on n is in (w.0, w.1, w.2.2);
  back = λ m is. h.back m (unit, digit, is);
}
digit_goes_on text total (Some k) c cs unit digit fits h = record {
  small = h.small;
  fits = fits;
  on = λ n is. by n (h.on n is);
  back = λ m is. h.back m (inr (unit, digit, is));
}
  where
    by : (n : ℕ) → (m : ℕ) × (n ≡ total + m) × After (Some k) (c ∷ cs) m → (m : ℕ) × (n ≡ total + m) × After (Some (k * 10 + digit_value c)) cs m
    by n (m, e, inl w) = cc (w.2, unit)
    by n (m, e, inr w) = (m, e, w.2)

no_number : (total c u : ℕ) (cs : List ℕ) → unit_seconds c ≡ Some u → (m : ℕ) → After None (c ∷ cs) m → total + m < 2 ^ 32 → ⊥
no_number total c u cs unit m h small = cc (h.0, unit)

too_much : (total k c u : ℕ) (cs : List ℕ) → unit_seconds c ≡ Some u → (total + k * u < 2 ^ 32 → ⊥) → (m : ℕ) → After (Some k) (c ∷ cs) m → total + m < 2 ^ 32 → ⊥
too_much total k c u cs unit no_room m (inl w) small =
    let same : k * w.0 ≡ k * u = ap (λ x. k * x) (cc (w.2, unit)) in
    no_room (omega (arith, w.3, same, small))
too_much total k c u cs unit no_room m (inr w) small = cc (w.0, unit)

no_digit : (total : ℕ) (count : Option ℕ) (c : ℕ) (cs : List ℕ) → unit_seconds c ≡ None → ((digit_value c < 10) × (unwrap_or count 0 * 10 + digit_value c < 2 ^ 32) → ⊥)
    → (m : ℕ) → After count (c ∷ cs) m → total + m < 2 ^ 32 → ⊥
no_digit total None c cs unit none m h small = none (h.1, let most = after_ge (0 * 10 + digit_value c) cs m h.2 in omega (arith, most))
no_digit total (Some k) c cs unit none m (inl w) small = cc (w.2, unit)
no_digit total (Some k) c cs unit none m (inr w) small = none (w.1, let most = after_ge (k * 10 + digit_value c) cs m w.2 in omega (arith, most))

module _ (text : List ℕ) (total i : ℕ) where
  module _ (here : i < length text) where
    now : (count : Option ℕ) → Totals text total count (drop i text) → Totals text total count (get_or text i 0 ∷ drop (i + 1) text)
    now count h = subst (Totals text total count) (drop_more text i 0 here) h

    -- if no continuation has few enough seconds, the text is not such periods
    refused : (count : Option ℕ) (r : Option ℕ) → ((m : ℕ) → After count (get_or text i 0 ∷ drop (i + 1) text) m → total + m < 2 ^ 32 → ⊥) → Totals text total count (drop i text) → r ≡ None → ReadsPeriods text r
    refused count r none h e =
        subst (ReadsPeriods text) (sym e) (λ n small is. let w = (now count h).on n (after_periods text n is) in none w.0 w.2 (omega (arith, w.1, small)))

    pub stops_at_unit : (count r : Option ℕ) (u : ℕ) → Some u ≡ unit_seconds (get_or text i 0) → count ≡ None → Totals text total count (drop i text) → r ≡ None → ReadsPeriods text r
    stops_at_unit None r u unit e h = refused None r (no_number total (get_or text i 0) u (drop (i + 1) text) (sym unit)) h
    stops_at_unit (Some k) r u unit e h = cc e

    pub stops_at_sum : (count r : Option ℕ) (k u : ℕ) → Some u ≡ unit_seconds (get_or text i 0) → count ≡ Some k → (total + k * u < 2 ^ 32 → ⊥) → Totals text total count (drop i text) → r ≡ None → ReadsPeriods text r
    stops_at_sum count r k u unit e no_room h =
        refused (Some k) r (too_much total k (get_or text i 0) u (drop (i + 1) text) (sym unit) no_room) (subst (λ o. Totals text total o (drop i text)) e h)

    pub stops_at_digit : (count r : Option ℕ) (k : ℕ) → None ≡ unit_seconds (get_or text i 0) → k ≡ unwrap_or count 0 → ((digit_value (get_or text i 0) < 10) × (k * 10 + digit_value (get_or text i 0) < 2 ^ 32) → ⊥)
        → Totals text total count (drop i text) → r ≡ None → ReadsPeriods text r
    stops_at_digit count r k unit e none h = refused count r (no_digit total count (get_or text i 0) (drop (i + 1) text) (sym unit) (λ w. none (rw e w))) h

    pub goes_on_at_unit : (count : Option ℕ) (k u t : ℕ) (o : Option ℕ) → Some u ≡ unit_seconds (get_or text i 0) → count ≡ Some k → t < 2 ^ 32 → t ≡ total + k * u → o ≡ None → Totals text total count (drop i text)
        → Totals text t o (drop (i + 1) text)
    goes_on_at_unit count k u t o unit e fits is none h =
        let small : total + k * u < 2 ^ 32 = omega (arith, fits, is) in
        let next = unit_goes_on text total k u (get_or text i 0) (drop (i + 1) text) (sym unit) small (now (Some k) (subst (λ o. Totals text total o (drop i text)) e h)) in
        subst (λ o. Totals text t o (drop (i + 1) text)) (sym none) (subst (λ t. Totals text t None (drop (i + 1) text)) (sym is) next)

    pub goes_on_at_digit : (count : Option ℕ) (k t d : ℕ) (o : Option ℕ) → None ≡ unit_seconds (get_or text i 0) → k ≡ unwrap_or count 0
        → ((digit_value (get_or text i 0) < 10) × (k * 10 + digit_value (get_or text i 0) < 2 ^ 32)) × (d ≡ k * 10 + digit_value (get_or text i 0))
        → t ≡ total → o ≡ Some d → Totals text total count (drop i text) → Totals text t o (drop (i + 1) text)
    goes_on_at_digit count k t d o unit e is same more h =
        let next = digit_goes_on text total count (get_or text i 0) (drop (i + 1) text) (sym unit) is.0.0 (subst (λ k. k * 10 + digit_value (get_or text i 0) < 2 ^ 32) e is.0.1) (now count h) in
        let count_is : o ≡ Some (unwrap_or count 0 * 10 + digit_value (get_or text i 0)) = more ∙ ap Some (is.1 ∙ ap (λ k. k * 10 + digit_value (get_or text i 0)) e) in
        subst (λ o. Totals text t o (drop (i + 1) text)) (sym count_is) (subst (λ t. Totals text t (Some (unwrap_or count 0 * 10 + digit_value (get_or text i 0))) (drop (i + 1) text)) (sym same) next)

  module _ (end : length text ≤ i) where
    pub ends : (count : Option ℕ) → count ≡ None → Totals text total count (drop i text) → (total < 2 ^ 32) × IsPeriods text total
    ends None e h = (h.small, periods_of text total (subst (After None text) (omega arith) ((subst (Totals text total None) (drop_all i text end) h).back 0 refl)))
    ends (Some k) e h = cc e

    pub ends_in_number : (count : Option ℕ) (k : ℕ) → count ≡ Some k → Totals text total count (drop i text) → (n : ℕ) → n < 2 ^ 32 → IsPeriods text n → ⊥
    ends_in_number None k e h n small is = cc e
    ends_in_number (Some v) k e h n small is = ((subst (Totals text total (Some v)) (drop_all i text end) h).on n (after_periods text n is)).2
