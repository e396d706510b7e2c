-- Parameters that are parsed from octets, one by one.
use Rattle.std.proofs.Common.{◌≡◌, ◌≢◌, ℕ, ◌+◌, ◌-◌, ◌<◌, ◌≤◌, ◌⊎◌, ◌==◌, Bool, true, false, cond, List, [], ◌∷◌, ◌++◌, length, take, drop, get_or, All, Option, None, Some, refl, sym, ap, ◌∙◌, arith, zero, suc, inl, inr, append_assoc, append-nil}
use Rattle.std.specs.Int.{w16, to_be_bytes, from_be_bytes}
use Rattle.std.specs.List.{flat_map}
use Rattle.std.proofs.lemmas.List.{take_at, drop_at, take-append-drop, take_rest, length-take-le, length-append}
use Rattle.std.proofs.lemmas.List.Elements.{All-weaker, All-head, All-tail, All-push}
use Rattle.std.proofs.lemmas.List.Quantifiers.{all_pairs_push}
use Rattle.std.proofs.lemmas.Bool.{cases_eq, ne_eqb}
use Rattle.std.proofs.lemmas.Nat.{be_bytes_2, from_be_bytes-to_be_bytes_2}
use Rattle.rdata_svcb.specs.Params.{param, param_if, params_from, params_wire, value_at, HasAscendingKeys, HasFittingValues}
use Rattle.rdata_svcb.proofs.Entries.{entries_none, entries_first, entries_same, entries_more, keys_skipped, value_new}

same_front : (xs ys us vs : List ℕ) → length xs ≡ length ys → xs ++ us ≡ ys ++ vs → (xs ≡ ys) × (us ≡ vs)
same_front xs ys us vs l e = (
  sym (take_at xs us (length xs) refl) ∙ ap (take (length xs)) e ∙ take_at ys vs (length xs) (sym l),
  sym (drop_at xs us (length xs) refl) ∙ ap (drop (length xs)) e ∙ drop_at ys vs (length xs) (sym l),
)

same_number : (m n : ℕ) → m < 65536 → n < 65536 → to_be_bytes w16 m ≡ to_be_bytes w16 n → m ≡ n
same_number m n l k e = sym (from_be_bytes-to_be_bytes_2 m l) ∙ ap (from_be_bytes w16) e ∙ from_be_bytes-to_be_bytes_2 n k

regrouped : (k v r : List ℕ) (l : List ℕ) → ((k ++ l) ++ v) ++ r ≡ k ++ (l ++ (v ++ r))
regrouped k v r l = append_assoc (k ++ l) v r ∙ append_assoc k l (v ++ r)

-- octets begin with one parameter
pub same_param : (k j : ℕ) (v u r s : List ℕ) → k < 65536 → j < 65536 → length v < 65536 → length u < 65536
    → param k v ++ r ≡ param j u ++ s → (k ≡ j) × (v ≡ u) × (r ≡ s)
unfolding param
same_param k j v u r s lk lj lv lu e =
    let one = same_front (to_be_bytes w16 k) (to_be_bytes w16 j) (to_be_bytes w16 (length v) ++ (v ++ r)) (to_be_bytes w16 (length u) ++ (u ++ s)) refl
    (sym (regrouped (to_be_bytes w16 k) v r (to_be_bytes w16 (length v))) ∙ e ∙ regrouped (to_be_bytes w16 j) u s (to_be_bytes w16 (length u))) in
    let two = same_front (to_be_bytes w16 (length v)) (to_be_bytes w16 (length u)) (v ++ r) (u ++ s) refl one.1 in
    let three = same_front v u r s (same_number (length v) (length u) lv lu two.0) two.1 in
    (same_number k j lk lj one.0, three.0, three.1)

pub param_some : (k : ℕ) (v r : List ℕ) → param k v ++ r ≢ []
unfolding param
param_some k v r e = let l = ap length e in absurd (omega arith)

-- the first of the parameters
pub record KeyBegins (f : ℕ → Option (List ℕ)) (w n : ℕ) (octets : List ℕ) : Type 0 where
  pub key : ℕ
  pub value : List ℕ
  pub low : w ≤ key
  pub high : key < w + n
  pub is : f key ≡ Some value
  pub octets_are : octets ≡ param key value ++ params_from f (key + 1) (w + n - (key + 1))

abbrev pub BeginsWithKey : (ℕ → Option (List ℕ)) → ℕ → ℕ → List ℕ → Type 0
BeginsWithKey f w n octets = (octets ≡ []) ⊎ KeyBegins f w n octets

key_by : (f : ℕ → Option (List ℕ)) (w n : ℕ) (o : Option (List ℕ)) → f w ≡ o → BeginsWithKey f (w + 1) n (params_from f (w + 1) n)
    → BeginsWithKey f w (suc n) (params_from f w (suc n))
key_by f w n None e (inl none) = inl (entries_first f w n ∙ ap (λ x. param_if w x ++ params_from f (w + 1) n) e ∙ none)
key_by f w n None e (inr b) = inr (record {
  key = b.key;
  value = b.value;
  low = omega (arith, b.low);
  high = omega (arith, b.high);
  is = b.is;
  octets_are = entries_first f w n ∙ ap (λ x. param_if w x ++ params_from f (w + 1) n) e ∙ b.octets_are
      ∙ ap (λ m. param b.key b.value ++ params_from f (b.key + 1) m) (omega arith);
})
key_by f w n (Some v) e rest = inr (record {
  key = w;
  value = v;
  low = omega arith;
  high = omega arith;
  is = e;
  octets_are = entries_first f w n ∙ ap (λ x. param_if w x ++ params_from f (w + 1) n) e
      ∙ ap (λ m. param w v ++ params_from f (w + 1) m) (omega arith);
})

pub key_begins : (f : ℕ → Option (List ℕ)) (w n : ℕ) → BeginsWithKey f w n (params_from f w n)
key_begins f w zero = inl (entries_none f w)
key_begins f w (suc n) = key_by f w n (f w) refl (key_begins f (w + 1) n)

fits_by : (p : ℕ × List ℕ) (ps : List (ℕ × List ℕ)) (key : ℕ) (v : List ℕ) (b : Bool) → length p.1 < 65536 → (value_at ps key ≡ Some v → length v < 65536)
    → cond b (Some p.1) (value_at ps key) ≡ Some v → length v < 65536
fits_by p ps key v true l h e = let same : p.1 ≡ v = cc in let long = ap length same in omega arith
fits_by p ps key v false l h e = h e

pub fits_at : (ps : List (ℕ × List ℕ)) (key : ℕ) (v : List ℕ) → HasFittingValues ps → value_at ps key ≡ Some v → length v < 65536
fits_at [] key v h e = absurd cc
fits_at (p ∷ ps) key v h e =
    fits_by p ps key v (p.0 == key) (All-head (λ q. length q.1 < 65536) p ps h) (fits_at ps key v (All-tail (λ q. length q.1 < 65536) p ps h)) e

pub record KeyFollows (f : ℕ → Option (List ℕ)) (w n a : ℕ) (v after : List ℕ) : Type 0 where
  pub low : w ≤ a
  pub here : f a ≡ Some v
  pub later : params_from f (a + 1) (w + n - (a + 1)) ≡ after

key_follows_from : (f : ℕ → Option (List ℕ)) (w n a : ℕ) (v after octets : List ℕ) → ((key : ℕ) (value : List ℕ) → f key ≡ Some value → length value < 65536)
    → w + n ≤ 65536 → a < 65536 → length v < 65536 → BeginsWithKey f w n octets → octets ≡ param a v ++ after → KeyFollows f w n a v after
key_follows_from f w n a v after octets fit l la lv (inl none) e = absurd (param_some a v after (sym e ∙ none))
key_follows_from f w n a v after octets fit l la lv (inr b) e =
    let same = same_param b.key a b.value v (params_from f (b.key + 1) (w + n - (b.key + 1))) after (omega (arith, b.high)) la (fit b.key b.value b.is) lv (sym b.octets_are ∙ e) in
    record {
      low = omega (arith, b.low, same.0);
      here = ap f (sym same.0) ∙ b.is ∙ ap Some same.1;
      later = ap (λ c. params_from f (c + 1) (w + n - (c + 1))) (sym same.0) ∙ same.2;
    }

-- octets of parameters begin with a parameter in one way
pub key_follows : (f : ℕ → Option (List ℕ)) (w n a : ℕ) (v after : List ℕ) → ((key : ℕ) (value : List ℕ) → f key ≡ Some value → length value < 65536)
    → w + n ≤ 65536 → a < 65536 → length v < 65536 → params_from f w n ≡ param a v ++ after → KeyFollows f w n a v after
key_follows f w n a v after fit l la lv e = key_follows_from f w n a v after (params_from f w n) fit l la lv (key_begins f w n) e

pub value_other : (ps : List (ℕ × List ℕ)) (p : ℕ × List ℕ) (key : ℕ) → p.0 ≢ key → value_at (ps ++ p ∷ []) key ≡ value_at ps key
value_other [] p key n = ap (λ b. cond b (Some p.1) None) (ne_eqb p.0 key n)
value_other (q ∷ qs) p key n = ap (λ x. cond (q.0 == key) (Some q.1) x) (value_other qs p key n)

-- the parameters below a key are read, and no others have other octets there
pub record ReadsParams (octets : List ℕ) (params : List (ℕ × List ℕ)) (rest : List ℕ) (next : ℕ) : Type 0 where
  pub high : next ≤ 65536
  pub below : All (λ p. p.0 < next) params
  pub ascending : HasAscendingKeys params
  pub fitting : HasFittingValues params
  pub taken : octets ≡ params_from (value_at params) 0 next ++ rest
  pub only : (others : List (ℕ × List ℕ)) → HasFittingValues others → params_wire others ≡ octets → params_from (value_at others) next (65536 - next) ≡ rest

pub params_none : (octets : List ℕ) (params : List (ℕ × List ℕ)) → params ≡ [] → ReadsParams octets params octets 0
params_none octets [] e = record {
  high = omega arith;
  below = λ k d l. absurd (omega arith);
  ascending = λ i j d l m. absurd (omega arith);
  fitting = λ k d l. absurd (omega arith);
  taken = ap (λ b. b ++ octets) (sym (entries_none (value_at []) 0));
  only = λ others fit h. h;
}
params_none octets (p ∷ params) e = absurd cc

pub params_more : (octets rest after value : List ℕ) (old : List (ℕ × List ℕ)) (next key : ℕ) → ReadsParams octets old rest next → next ≤ key → key < 65536
    → length value < 65536 → rest ≡ param key value ++ after → ReadsParams octets (old ++ (key, value) ∷ []) after (key + 1)
params_more octets rest after value old next key h l high fit split =
    let new : List (ℕ × List ℕ) = old ++ (key, value) ∷ [] in
    let front : params_from (value_at new) 0 key ≡ params_from (value_at old) 0 next =
    entries_same (value_at new) (value_at old) 0 key (λ v low small. value_other old (key, value) v (λ e. omega arith))
    ∙ keys_skipped old next key l (All-weaker (λ p. p.0 < next) (λ p. (p.0 < next) ⊎ (key ≤ p.0)) (λ p b. inl b) old h.below) in
    let here : value_at new key ≡ Some value = value_new old (key, value) (All-weaker (λ p. p.0 < next) (λ p. p.0 ≢ key) (λ p b e. omega arith) old h.below) in
    let with_param : params_from (value_at new) 0 (key + 1) ≡ params_from (value_at old) 0 next ++ param key value =
    sym (entries_more (value_at new) key value here) ∙ ap (λ x. x ++ param key value) front in
    record {
      high = omega arith;
      below = All-push (λ p. p.0 < key + 1) old (key, value) (All-weaker (λ p. p.0 < next) (λ p. p.0 < key + 1) (λ p b. omega arith) old h.below) (omega arith);
      ascending = all_pairs_push (λ p q. p.0 < q.0) old (key, value) h.ascending (λ k d inside. let b = h.below k d inside in omega arith);
      fitting = All-push (λ p. length p.1 < 65536) old (key, value) h.fitting fit;
      taken = h.taken ∙ ap (λ r. params_from (value_at old) 0 next ++ r) split ∙ sym (append_assoc (params_from (value_at old) 0 next) (param key value) after)
          ∙ ap (λ x. x ++ after) (sym with_param);
      only = λ others fitting is.
          let later = key_follows (value_at others) next (65536 - next) key value after (λ k v e. fits_at others k v fitting e) (omega (arith, h.high)) high fit (h.only others fitting is ∙ split) in
          let range : next + (65536 - next) - (key + 1) ≡ 65536 - (key + 1) = omega (arith, h.high) in
          ap (params_from (value_at others) (key + 1)) (sym range) ∙ later.later;
    }

pub params_all : (octets : List ℕ) (params : List (ℕ × List ℕ)) (rest : List ℕ) (next : ℕ) → ReadsParams octets params rest next → rest ≡ [] → params_wire params ≡ octets
params_all octets params rest next h e =
    keys_skipped params next 65536 h.high (All-weaker (λ p. p.0 < next) (λ p. (p.0 < next) ⊎ (65536 ≤ p.0)) (λ p b. inl b) params h.below)
    ∙ sym (append-nil (params_from (value_at params) 0 next)) ∙ ap (λ r. params_from (value_at params) 0 next ++ r) (sym e) ∙ sym h.taken

pub no_key_order : (octets rest value after : List ℕ) (params others : List (ℕ × List ℕ)) (next key : ℕ) → ReadsParams octets params rest next → key < next
    → key < 65536 → length value < 65536 → rest ≡ param key value ++ after → HasFittingValues others → params_wire others ≢ octets
no_key_order octets rest value after params others next key h l high fit split fitting is =
    let later = key_follows (value_at others) next (65536 - next) key value after (λ k v e. fits_at others k v fitting e) (omega (arith, h.high)) high fit (h.only others fitting is ∙ split) in
    omega (arith, later.low)

no_param_from : (others : List (ℕ × List ℕ)) (next n : ℕ) (rest : List ℕ) → HasFittingValues others → BeginsWithKey (value_at others) next n rest → rest ≢ []
    → ((key : ℕ) (value after : List ℕ) → length value < 65536 → rest ≢ param key value ++ after) → ⊥
no_param_from others next n rest fitting (inl none) some h = some none
no_param_from others next n rest fitting (inr b) some h =
    h b.key b.value (params_from (value_at others) (b.key + 1) (next + n - (b.key + 1))) (fits_at others b.key b.value fitting b.is) b.octets_are

-- octets with a rest that does not begin with a parameter are not a wire format
pub no_param : (octets rest : List ℕ) (params others : List (ℕ × List ℕ)) (next : ℕ) → ReadsParams octets params rest next → rest ≢ []
    → ((key : ℕ) (value after : List ℕ) → length value < 65536 → rest ≢ param key value ++ after) → HasFittingValues others → params_wire others ≢ octets
no_param octets rest params others next h some none fitting is =
    let e = h.only others fitting is in
    no_param_from others next (65536 - next) (params_from (value_at others) next (65536 - next)) fitting (key_begins (value_at others) next (65536 - next))
    (λ z. some (sym e ∙ z)) (λ key value after l s. none key value after l (sym e ∙ s))

pub param_length : (k : ℕ) (v r : List ℕ) → length (param k v ++ r) ≡ 4 + length v + length r
unfolding param
param_length k v r = omega (arith, length-append v r)

param_number : (k : ℕ) (v r : List ℕ) → length v < 65536
    → from_be_bytes w16 (get_or (param k v ++ r) 2 0 ∷ get_or (param k v ++ r) 3 0 ∷ []) ≡ length v
unfolding param
param_number k v r l = from_be_bytes-to_be_bytes_2 (length v) l

-- a truncated parameter is not a parameter
pub no_param_short : (xs : List ℕ) (k : ℕ) (v r : List ℕ) → xs ≡ param k v ++ r → 4 ≤ length xs
no_param_short xs k v r e = let l = ap length e ∙ param_length k v r in omega arith

pub no_param_cut : (xs : List ℕ) (n k : ℕ) (v r : List ℕ) → n ≡ from_be_bytes w16 (get_or xs 2 0 ∷ get_or xs 3 0 ∷ []) → length v < 65536
    → xs ≡ param k v ++ r → 4 + n ≤ length xs
no_param_cut xs n k v r is fit e =
    let l = ap length e ∙ param_length k v r in
    let m : n ≡ length v = is ∙ ap (λ ys. from_be_bytes w16 (get_or ys 2 0 ∷ get_or ys 3 0 ∷ [])) e ∙ param_number k v r fit in omega arith

two_small : (a b i : ℕ) → a < 256 → b < 256 → get_or (a ∷ b ∷ []) i 0 < 256
two_small a b zero l m = l
two_small a b (suc zero) l m = m
two_small a b (suc (suc i)) l m = omega arith

-- a parameter is split off
pub split_param : (xs : List ℕ) (key n m k : ℕ) → ((i : ℕ) → get_or xs i 0 < 256) → m ≡ n → k ≡ suc (suc (suc (suc n))) → k ≤ length xs
    → key ≡ from_be_bytes w16 (get_or xs 0 0 ∷ get_or xs 1 0 ∷ []) → n ≡ from_be_bytes w16 (get_or xs 2 0 ∷ get_or xs 3 0 ∷ [])
    → xs ≡ param key (take m (drop 4 xs)) ++ take (length xs - k) (drop k xs)
unfolding param
split_param [] key n m k small em ek l a b = absurd (omega arith)
split_param (a ∷ []) key n m k small em ek l ea eb = absurd (omega arith)
split_param (a ∷ b ∷ []) key n m k small em ek l ea eb = absurd (omega arith)
split_param (a ∷ b ∷ c ∷ []) key n m k small em ek l ea eb = absurd (omega arith)
split_param (a ∷ b ∷ c ∷ d ∷ rest) key n m k small em ek l ea eb =
    let xs : List ℕ = a ∷ b ∷ c ∷ d ∷ rest in
    let tail : take (length xs - k) (drop k xs) ≡ drop n rest = take_rest xs k ∙ ap (λ j. drop j xs) ek in
    let long : length (take m rest) ≡ n = ap (λ j. length (take j rest)) em ∙ length-take-le n rest (omega arith) in
    let key_is : to_be_bytes w16 key ≡ a ∷ b ∷ [] = be_bytes_2 (a ∷ b ∷ []) key refl (λ i. two_small a b i (small 0) (small 1)) ea in
    let long_is : to_be_bytes w16 (length (take m rest)) ≡ c ∷ d ∷ [] = ap (to_be_bytes w16) long ∙ be_bytes_2 (c ∷ d ∷ []) n refl (λ i. two_small c d i (small 2) (small 3)) eb in
    sym (ap (λ x. ((x ++ to_be_bytes w16 (length (take m rest))) ++ take m rest) ++ take (length xs - k) (drop k xs)) key_is
    ∙ ap (λ x. (((a ∷ b ∷ []) ++ x) ++ take m rest) ++ take (length xs - k) (drop k xs)) long_is
    ∙ ap (λ x. a ∷ b ∷ c ∷ d ∷ (take m rest ++ x)) tail
    ∙ ap (λ j. a ∷ b ∷ c ∷ d ∷ (take j rest ++ drop n rest)) em
    ∙ ap (λ x. a ∷ b ∷ c ∷ d ∷ x) (take-append-drop n rest))

pub no_rest : (xs : List ℕ) → length xs ≡ 0 → xs ≡ []
no_rest [] l = refl
no_rest (x ∷ xs) l = absurd (omega arith)

tell_first : (f g : ℕ → Option (List ℕ)) (w n : ℕ) (x : List ℕ) → ((key : ℕ) (value : List ℕ) → f key ≡ Some value → length value < 65536)
    → ((key : ℕ) (value : List ℕ) → g key ≡ Some value → length value < 65536) → w + suc n ≤ 65536
    → f w ≡ Some x → params_from f w (suc n) ≡ params_from g w (suc n) → (f w ≡ g w) × (params_from f (w + 1) n ≡ params_from g (w + 1) n)
tell_first f g w n x fit git l is e =
    let front : params_from f w (suc n) ≡ param w x ++ params_from f (w + 1) n = entries_first f w n ∙ ap (λ o. param_if w o ++ params_from f (w + 1) n) is in
    let later = key_follows g w (suc n) w x (params_from f (w + 1) n) git l (omega arith) (fit w x is) (sym e ∙ front) in
    (is ∙ sym later.here, sym later.later ∙ ap (params_from g (w + 1)) (omega arith))

tell_by : (f g : ℕ → Option (List ℕ)) (w n : ℕ) (o q : Option (List ℕ)) → ((key : ℕ) (value : List ℕ) → f key ≡ Some value → length value < 65536)
    → ((key : ℕ) (value : List ℕ) → g key ≡ Some value → length value < 65536) → w + suc n ≤ 65536
    → f w ≡ o → g w ≡ q → params_from f w (suc n) ≡ params_from g w (suc n) → (f w ≡ g w) × (params_from f (w + 1) n ≡ params_from g (w + 1) n)
tell_by f g w n (Some x) q fit git l ef eg e = tell_first f g w n x fit git l ef e
tell_by f g w n None (Some y) fit git l ef eg e = let r = tell_first g f w n y git fit l eg (sym e) in (sym r.0, sym r.1)
tell_by f g w n None None fit git l ef eg e =
    (ef ∙ sym eg, sym (entries_first f w n ∙ ap (λ o. param_if w o ++ params_from f (w + 1) n) ef) ∙ e ∙ entries_first g w n ∙ ap (λ o. param_if w o ++ params_from g (w + 1) n) eg)

entries_tell : (f g : ℕ → Option (List ℕ)) (w n v : ℕ) → ((key : ℕ) (value : List ℕ) → f key ≡ Some value → length value < 65536)
    → ((key : ℕ) (value : List ℕ) → g key ≡ Some value → length value < 65536) → w + n ≤ 65536
    → params_from f w n ≡ params_from g w n → w ≤ v → v < w + n → f v ≡ g v
entries_tell f g w zero v fit git l e low high = absurd (omega arith)
entries_tell f g w (suc n) v fit git l e low high =
    let first = tell_by f g w n (f w) (g w) fit git l refl refl e in
    elim (cases_eq v w) [
      | inl here ↦ ap f here ∙ first.0 ∙ ap g (sym here)
      | inr later ↦ entries_tell f g (w + 1) n v fit git (omega arith) first.1 (omega arith) (omega arith)
    ]

-- the wire format determines the value of each key
pub same_values : (a b : List (ℕ × List ℕ)) (key : ℕ) → HasFittingValues a → HasFittingValues b → params_wire a ≡ params_wire b → key < 65536 → value_at a key ≡ value_at b key
same_values a b key fa fb e l = entries_tell (value_at a) (value_at b) 0 65536 key (λ k v s. fits_at a k v fa s) (λ k v s. fits_at b k v fb s) (omega arith) e (omega arith) (omega arith)

first_key : (p : ℕ × List ℕ) (ps : List (ℕ × List ℕ)) → HasAscendingKeys (p ∷ ps) → All (λ q. p.0 + 1 ≤ q.0) ps
first_key p ps up k d l = let h = up zero (suc k) d (omega arith) (omega arith) in omega arith

later_keys : (p : ℕ × List ℕ) (ps : List (ℕ × List ℕ)) → HasAscendingKeys (p ∷ ps) → HasAscendingKeys ps
later_keys p ps up i j d l m = up (suc i) (suc j) d (omega arith) (omega arith)

read_all : (octets : List ℕ) (done todo : List (ℕ × List ℕ)) (next : ℕ) → ReadsParams octets done (flat_map (λ p. param p.0 p.1) todo) next
    → All (λ p. next ≤ p.0) todo → HasAscendingKeys todo → All (λ p. p.0 < 65536) todo → HasFittingValues todo → params_wire (done ++ todo) ≡ octets
read_all octets done [] next h low up high fit = ap params_wire (append-nil done) ∙ params_all octets done [] next h refl
read_all octets done (p ∷ ps) next h low up high fit =
    ap params_wire (sym (append_assoc done (p ∷ []) ps))
    ∙ read_all octets (done ++ p ∷ []) ps (p.0 + 1)
    (params_more octets (param p.0 p.1 ++ flat_map (λ q. param q.0 q.1) ps) (flat_map (λ q. param q.0 q.1) ps) p.1 done next p.0 h
    (All-head (λ q. next ≤ q.0) p ps low) (All-head (λ q. q.0 < 65536) p ps high) (All-head (λ q. length q.1 < 65536) p ps fit) refl)
    (first_key p ps up) (later_keys p ps up) (All-tail (λ q. q.0 < 65536) p ps high) (All-tail (λ q. length q.1 < 65536) p ps fit)

-- the wire format of ascending parameters is theirs, one after another
pub in_order : (ps : List (ℕ × List ℕ)) → HasAscendingKeys ps → All (λ p. p.0 < 65536) ps → HasFittingValues ps → params_wire ps ≡ flat_map (λ p. param p.0 p.1) ps
in_order ps up high fit =
    read_all (flat_map (λ p. param p.0 p.1) ps) [] ps 0 (params_none (flat_map (λ p. param p.0 p.1) ps) [] refl) (λ k d l. omega arith) up high fit
