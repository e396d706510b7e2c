-- A parameter that is moved to its offset.
use Rattle.std.proofs.Common.{◌≡◌, ℕ, ◌+◌, ◌-◌, ◌<◌, ◌≤◌, ◌==◌, Bool, true, false, cond, List, [], ◌∷◌, ◌++◌, length, take, drop, get_or, set, Option, None, Some, IsSome, refl, sym, ap, ◌∙◌, arith, subst, zero, suc, inl, inr, append_assoc, append-nil}
use Rattle.std.specs.Int.{w16, to_be_bytes, from_be_bytes}
use Rattle.std.proofs.lemmas.List.{take_at, drop_at, set_at, get_or-append-add, take-append-drop, take_all, drop_all, length-append, length-drop, length-take-le}
use borrow.Rule.Slice.PartMut.{put_mid}
use Rattle.std.proofs.lemmas.Nat.{from_be_bytes-to_be_bytes_2}
use Rattle.std.proofs.lemmas.Bool.{cases_eq, eq-eqb}
use Rattle.rdata_svcb.specs.Params.{param, param_if, params_from, params_wire, value_at, BeginsNoParam, HasFittingValues}
use Rattle.rdata_svcb.proofs.Entries.{entries_none, entries_first, entries_split, entries_same, entries_empty, entries_more}
use Rattle.rdata_svcb.proofs.Reading.{same_param, param_some, key_begins, BeginsWithKey, key_follows, fits_at, value_other}

-- each value is short enough for a length of two octets
abbrev pub Fits : (ℕ → Option (List ℕ)) → Type 0
Fits f = (key : ℕ) (value : List ℕ) → f key ≡ Some value → length value < 65536

none_by : (f : ℕ → Option (List ℕ)) (w n a u : ℕ) (v after : List ℕ) (o : Option (List ℕ)) → f w ≡ o → Fits f → w + suc n ≤ 65536 → a < 65536 → length v < 65536
    → params_from f w (suc n) ≡ param a v ++ after → w ≤ u → u < a
    → (params_from f (w + 1) n ≡ param a v ++ after → w + 1 ≤ u → f u ≡ None) → f u ≡ None
none_by f w n a u v after (Some x) e fit l la lv is low high later =
    let front : params_from f w (suc n) ≡ param w x ++ params_from f (w + 1) n = entries_first f w n ∙ ap (λ o. param_if w o ++ params_from f (w + 1) n) e in
    let same = same_param w a x v (params_from f (w + 1) n) after (omega arith) la (fit w x e) lv (sym front ∙ is) in absurd (omega (arith, same.0))
none_by f w n a u v after None e fit l la lv is low high later =
    let front : params_from f w (suc n) ≡ params_from f (w + 1) n = entries_first f w n ∙ ap (λ o. param_if w o ++ params_from f (w + 1) n) e in
    elim (cases_eq u w) [
      | inl here ↦ ap f here ∙ e
      | inr other ↦ later (sym front ∙ is) (omega arith)
    ]

-- no key is below the first
pub none_before : (f : ℕ → Option (List ℕ)) (w n a u : ℕ) (v after : List ℕ) → Fits f → w + n ≤ 65536 → a < 65536 → length v < 65536
    → params_from f w n ≡ param a v ++ after → w ≤ u → u < a → f u ≡ None
none_before f w zero a u v after fit l la lv is low high = absurd (param_some a v after (sym is ∙ entries_none f w))
none_before f w (suc n) a u v after fit l la lv is low high =
    none_by f w n a u v after (f w) refl fit l la lv is low high
    (λ e later. none_before f (w + 1) n a u v after fit (omega arith) la lv e later high)

empty_by : (f : ℕ → Option (List ℕ)) (w n u : ℕ) (o : Option (List ℕ)) → f w ≡ o → params_from f w (suc n) ≡ [] → w ≤ u
    → (params_from f (w + 1) n ≡ [] → w + 1 ≤ u → f u ≡ None) → f u ≡ None
empty_by f w n u (Some x) e is low later =
    absurd (param_some w x (params_from f (w + 1) n) (sym (entries_first f w n ∙ ap (λ o. param_if w o ++ params_from f (w + 1) n) e) ∙ is))
empty_by f w n u None e is low later =
    let front : params_from f w (suc n) ≡ params_from f (w + 1) n = entries_first f w n ∙ ap (λ o. param_if w o ++ params_from f (w + 1) n) e in
    elim (cases_eq u w) [
      | inl here ↦ ap f here ∙ e
      | inr other ↦ later (sym front ∙ is) (omega arith)
    ]

-- without octets there is no key
pub none_of_empty : (f : ℕ → Option (List ℕ)) (w n u : ℕ) → params_from f w n ≡ [] → w ≤ u → u < w + n → f u ≡ None
none_of_empty f w zero u is low high = absurd (omega arith)
none_of_empty f w (suc n) u is low high = empty_by f w n u (f w) refl is low (λ e later. none_of_empty f (w + 1) n u e later (omega arith))

-- the offset is after the parameters with keys below some key, which is not above the one that is looked for
pub record StandsAt (params : List (ℕ × List ℕ)) (key place : ℕ) : Type 0 where
  pub next : ℕ
  pub low : next ≤ key
  pub is : place ≡ length (params_from (value_at params) 0 next)

pub at_start : (params : List (ℕ × List ℕ)) (key : ℕ) → StandsAt params key 0
at_start params key = record { next = 0; low = omega arith; is = sym (ap length (entries_none (value_at params) 0)) }

two_parts : (params : List (ℕ × List ℕ)) (next : ℕ) → next ≤ 65536 → params_wire params ≡ params_from (value_at params) 0 next ++ params_from (value_at params) next (65536 - next)
two_parts params next l =
    let f = value_at params in
    ap (params_from f 0) (omega arith) ∙ entries_split f 0 next (65536 - next) ∙ ap (λ w. params_from f 0 next ++ params_from f w (65536 - next)) (omega arith)

pub behind : (params : List (ℕ × List ℕ)) (key place : ℕ) (octets : List ℕ) (h : StandsAt params key place) → key < 65536 → octets ≡ params_wire params
    → drop place octets ≡ params_from (value_at params) h.next (65536 - h.next)
behind params key place octets h l e =
    let low = h.low in
    ap (drop place) (e ∙ two_parts params h.next (omega arith)) ∙ drop_at (params_from (value_at params) 0 h.next) (params_from (value_at params) h.next (65536 - h.next)) place (sym h.is)

in_front_of : (params : List (ℕ × List ℕ)) (key place : ℕ) (octets : List ℕ) (h : StandsAt params key place) → key < 65536 → octets ≡ params_wire params
    → take place octets ≡ params_from (value_at params) 0 h.next
in_front_of params key place octets h l e =
    let low = h.low in
    ap (take place) (e ∙ two_parts params h.next (omega arith)) ∙ take_at (params_from (value_at params) 0 h.next) (params_from (value_at params) h.next (65536 - h.next)) place (sym h.is)

fits_of : (params : List (ℕ × List ℕ)) → HasFittingValues params → Fits (value_at params)
fits_of params fit k v e = fits_at params k v fit e

-- past a parameter whose key is below
pub stands_later : (params : List (ℕ × List ℕ)) (key place now k : ℕ) (octets v after : List ℕ) → StandsAt params key place → HasFittingValues params → key < 65536
    → octets ≡ params_wire params → drop place octets ≡ param k v ++ after → length v < 65536 → k < key → now ≡ length octets - length after → StandsAt params key now
stands_later params key place now k octets v after h fit l e split lv less is =
    let f = value_at params in
    let low = h.low in
    let found = key_follows f h.next (65536 - h.next) k v after (fits_of params fit) (omega arith) (omega arith) lv (sym (behind params key place octets h l e) ∙ split) in
    let count : h.next + (65536 - h.next) - (k + 1) ≡ 65536 - (k + 1) = omega arith in
    let rest : params_from f (k + 1) (65536 - (k + 1)) ≡ after = ap (params_from f (k + 1)) (sym count) ∙ found.later in
    let all = ap length e ∙ ap length (two_parts params (k + 1) (omega arith)) ∙ length-append (params_from f 0 (k + 1)) (params_from f (k + 1) (65536 - (k + 1))) in
    let size = ap length rest in
    record { next = k + 1; low = omega arith; is = omega arith }

pub record Placed (params : List (ℕ × List ℕ)) (key place : ℕ) (octets : List ℕ) : Type 0 where
  pub none : value_at params key ≡ None
  pub front : take place octets ≡ params_from (value_at params) 0 key
  pub back : drop place octets ≡ params_from (value_at params) (key + 1) (65536 - (key + 1))

placed : (params : List (ℕ × List ℕ)) (key place : ℕ) (octets : List ℕ) (h : StandsAt params key place) → key < 65536 → octets ≡ params_wire params
    → ((u : ℕ) → h.next ≤ u → u ≤ key → value_at params u ≡ None) → Placed params key place octets
placed params key place octets h l e none =
    let f = value_at params in
    let low = h.low in
    let front : params_from f 0 key ≡ params_from f 0 h.next =
    ap (params_from f 0) (omega arith) ∙ entries_split f 0 h.next (key - h.next)
    ∙ ap (λ x. params_from f 0 h.next ++ x) (entries_empty f (0 + h.next) (key - h.next) (λ u a b. none u (omega arith) (omega arith))) ∙ append-nil (params_from f 0 h.next) in
    let back : params_from f h.next (65536 - h.next) ≡ params_from f (key + 1) (65536 - (key + 1)) =
    ap (params_from f h.next) (omega arith) ∙ entries_split f h.next (key + 1 - h.next) (65536 - (key + 1))
    ∙ ap (λ x. x ++ params_from f (h.next + (key + 1 - h.next)) (65536 - (key + 1))) (entries_empty f h.next (key + 1 - h.next) (λ u a b. none u a (omega arith)))
    ∙ ap (λ w. params_from f w (65536 - (key + 1))) (omega arith) in
    record {
      none = none key low (omega arith);
      front = in_front_of params key place octets h l e ∙ sym front;
      back = behind params key place octets h l e ∙ back;
    }

-- the offset is before a parameter whose key is above
pub placed_before : (params : List (ℕ × List ℕ)) (key place k : ℕ) (octets v after : List ℕ) → StandsAt params key place → HasFittingValues params → key < 65536
    → octets ≡ params_wire params → drop place octets ≡ param k v ++ after → k < 65536 → length v < 65536 → key < k → Placed params key place octets
placed_before params key place k octets v after h fit l e split lk lv less =
    let low = h.low in
    placed params key place octets h l e (λ u a b. none_before (value_at params) h.next (65536 - h.next) k u v after (fits_of params fit) (omega arith) lk lv
    (sym (behind params key place octets h l e) ∙ split) a (omega arith))

nothing_by : (params : List (ℕ × List ℕ)) (w n : ℕ) (octets : List ℕ) → Fits (value_at params) → BeginsWithKey (value_at params) w n octets → BeginsNoParam octets → octets ≡ []
nothing_by params w n octets fit (inl e) none = e
nothing_by params w n octets fit (inr b) none = absurd (none b.key b.value (params_from (value_at params) (b.key + 1) (w + n - (b.key + 1))) (fit b.key b.value b.is) b.octets_are)

-- the offset is after all parameters
pub placed_last : (params : List (ℕ × List ℕ)) (key place : ℕ) (octets : List ℕ) → StandsAt params key place → HasFittingValues params → key < 65536
    → octets ≡ params_wire params → BeginsNoParam (drop place octets) → Placed params key place octets
placed_last params key place octets h fit l e none =
    let low = h.low in
    let f = value_at params in
    let P : List ℕ → Type 0 = BeginsNoParam in
    let ends = nothing_by params h.next (65536 - h.next) (params_from f h.next (65536 - h.next)) (fits_of params fit) (key_begins f h.next (65536 - h.next))
    (subst P (behind params key place octets h l e) none) in
    placed params key place octets h l e (λ u a b. none_of_empty f h.next (65536 - h.next) u ends a (omega arith))

some_of : (o : Option (List ℕ)) (v : List ℕ) → o ≡ Some v → IsSome o
some_of o v e = let P : Option (List ℕ) → Type 0 = IsSome in subst P (sym e) refl

pub stands_already : (params : List (ℕ × List ℕ)) (key place k : ℕ) (octets v after : List ℕ) → StandsAt params key place → HasFittingValues params → key < 65536
    → octets ≡ params_wire params → drop place octets ≡ param k v ++ after → length v < 65536 → key ≡ k → IsSome (value_at params key)
stands_already params key place k octets v after h fit l e split lv same =
    let low = h.low in
    let found = key_follows (value_at params) h.next (65536 - h.next) k v after (fits_of params fit) (omega arith) (omega arith) lv (sym (behind params key place octets h l e) ∙ split) in
    some_of (value_at params key) v (ap (value_at params) same ∙ found.here)

new_by : (q : ℕ × List ℕ) (qs : List (ℕ × List ℕ)) (key : ℕ) (v : List ℕ) (b : Bool) → (value_at qs key ≡ None → value_at (qs ++ (key, v) ∷ []) key ≡ Some v)
    → cond b (Some q.1) (value_at qs key) ≡ None → cond b (Some q.1) (value_at (qs ++ (key, v) ∷ []) key) ≡ Some v
new_by q qs key v true h e = absurd cc
new_by q qs key v false h e = h e

-- the value of a key that had none
now_has_value : (ps : List (ℕ × List ℕ)) (key : ℕ) (v : List ℕ) → value_at ps key ≡ None → value_at (ps ++ (key, v) ∷ []) key ≡ Some v
now_has_value [] key v e = ap (λ b. cond b (Some v) None) (eq-eqb key key refl)
now_has_value (q ∷ qs) key v e = new_by q qs key v (q.0 == key) (now_has_value qs key v) e

-- the wire format with one more parameter
wire_with : (params : List (ℕ × List ℕ)) (key : ℕ) (v : List ℕ) → key < 65536 → value_at params key ≡ None
    → params_wire (params ++ (key, v) ∷ []) ≡ params_from (value_at params) 0 key ++ (param key v ++ params_from (value_at params) (key + 1) (65536 - (key + 1)))
wire_with params key v l none =
    let new : List (ℕ × List ℕ) = params ++ (key, v) ∷ [] in
    let f = value_at params in let g = value_at new in
    two_parts new (key + 1) (omega arith)
    ∙ ap (λ x. x ++ params_from g (key + 1) (65536 - (key + 1))) (sym (entries_more g key v (now_has_value params key v none)))
    ∙ ap (λ x. (x ++ param key v) ++ params_from g (key + 1) (65536 - (key + 1))) (entries_same g f 0 key (λ u a b. value_other params (key, v) u (λ e. omega arith)))
    ∙ ap (λ x. (params_from f 0 key ++ param key v) ++ x) (entries_same g f (key + 1) (65536 - (key + 1)) (λ u a b. value_other params (key, v) u (λ e. omega arith)))
    ∙ append_assoc (params_from f 0 key) (param key v) (params_from f (key + 1) (65536 - (key + 1)))

set_two : (w v : List ℕ) (k1 k0 s0 s1 b0 b1 n : ℕ) → length w ≡ n → set (set (w ++ (k1 ∷ k0 ∷ s0 ∷ s1 ∷ v)) (n + 2) b0) (n + 3) b1 ≡ w ++ (k1 ∷ k0 ∷ b0 ∷ b1 ∷ v)
set_two w v k1 k0 s0 s1 b0 b1 n l =
    ap (λ x. set (set x (n + 2) b0) (n + 3) b1) (sym (append_assoc w (k1 ∷ k0 ∷ []) (s0 ∷ s1 ∷ v)))
    ∙ ap (λ x. set x (n + 3) b1) (set_at (w ++ k1 ∷ k0 ∷ []) s0 (s1 ∷ v) b0 (n + 2) (omega (arith, length-append w (k1 ∷ k0 ∷ []))))
    ∙ ap (λ x. set x (n + 3) b1) (append_assoc w (k1 ∷ k0 ∷ []) (b0 ∷ s1 ∷ v) ∙ sym (append_assoc w (k1 ∷ k0 ∷ b0 ∷ []) (s1 ∷ v)))
    ∙ set_at (w ++ k1 ∷ k0 ∷ b0 ∷ []) s1 v b1 (n + 3) (omega (arith, length-append w (k1 ∷ k0 ∷ b0 ∷ [])))
    ∙ append_assoc w (k1 ∷ k0 ∷ b0 ∷ []) (b1 ∷ v)

-- the length is set
pub size_set : (octets size value : List ℕ) (params : List (ℕ × List ℕ)) (key at : ℕ) → length size ≡ 2 → octets ≡ params_wire params ++ (to_be_bytes w16 key ++ (size ++ value))
    → at ≡ length (params_wire params) → (bytes : List ℕ) → bytes ≡ to_be_bytes w16 (length value)
    → set (set octets (at + 2) (get_or bytes 0 0)) (at + 3) (get_or bytes 1 0) ≡ params_wire params ++ param key value
unfolding param
size_set octets [] value params key at l e ea bytes eb = absurd (omega arith)
size_set octets (a ∷ []) value params key at l e ea bytes eb = absurd (omega arith)
size_set octets (a ∷ b ∷ c ∷ d) value params key at l e ea bytes eb = absurd (omega arith)
size_set octets (a ∷ b ∷ []) value params key at l e ea bytes eb =
    ap (λ x. set (set x (at + 2) (get_or bytes 0 0)) (at + 3) (get_or bytes 1 0)) e
    ∙ ap (λ y. set (set (params_wire params ++ (to_be_bytes w16 key ++ (a ∷ b ∷ value))) (at + 2) (get_or y 0 0)) (at + 3) (get_or y 1 0)) eb
    ∙ set_two (params_wire params) value (get_or (to_be_bytes w16 key) 0 0) (get_or (to_be_bytes w16 key) 1 0) a b (get_or (to_be_bytes w16 (length value)) 0 0) (get_or (to_be_bytes w16 (length value)) 1 0) at (sym ea)

-- the key after the parameters
pub key_behind : (octets size value : List ℕ) (params : List (ℕ × List ℕ)) (key at : ℕ) → key < 65536 → octets ≡ params_wire params ++ (to_be_bytes w16 key ++ (size ++ value))
    → at ≡ length (params_wire params) → from_be_bytes w16 (get_or octets at 0 ∷ get_or octets (at + 1) 0 ∷ []) ≡ key
key_behind octets size value params key at l e ea =
    let rest : List ℕ = to_be_bytes w16 key ++ (size ++ value) in
    let zero_at : at ≡ length (params_wire params) + 0 = omega arith in
    let one_at : at + 1 ≡ length (params_wire params) + 1 = omega arith in
    ap (λ x. from_be_bytes w16 (get_or x at 0 ∷ get_or x (at + 1) 0 ∷ [])) e
    ∙ ap (λ i. from_be_bytes w16 (get_or (params_wire params ++ rest) i 0 ∷ get_or (params_wire params ++ rest) (at + 1) 0 ∷ [])) zero_at
    ∙ ap (λ x. from_be_bytes w16 (x ∷ get_or (params_wire params ++ rest) (at + 1) 0 ∷ [])) (get_or-append-add (params_wire params) rest 0 0)
    ∙ ap (λ i. from_be_bytes w16 (get_or rest 0 0 ∷ get_or (params_wire params ++ rest) i 0 ∷ [])) one_at
    ∙ ap (λ x. from_be_bytes w16 (get_or rest 0 0 ∷ x ∷ [])) (get_or-append-add (params_wire params) rest 1 0)
    ∙ from_be_bytes-to_be_bytes_2 key l

pub sizes : (octets size value : List ℕ) (params : List (ℕ × List ℕ)) (key at : ℕ) → length size ≡ 2 → octets ≡ params_wire params ++ (to_be_bytes w16 key ++ (size ++ value))
    → at ≡ length (params_wire params) → length octets ≡ at + 4 + length value
sizes octets size value params key at l e ea =
    let all = ap length e ∙ length-append (params_wire params) (to_be_bytes w16 key ++ (size ++ value)) in
    let tail = length-append size value in omega arith

pub others_of : (octets size value : List ℕ) (params : List (ℕ × List ℕ)) (key at : ℕ) → octets ≡ params_wire params ++ (to_be_bytes w16 key ++ (size ++ value))
    → at ≡ length (params_wire params) → take at octets ≡ params_wire params
others_of octets size value params key at e ea = ap (take at) e ∙ take_at (params_wire params) (to_be_bytes w16 key ++ (size ++ value)) at (sym ea)

turn : (f l p s : List ℕ) (a b : ℕ) → s ≡ f ++ (l ++ p) → length f ≡ a → length l ≡ b → take a s ++ (drop b (drop a s) ++ take b (drop a s)) ≡ f ++ (p ++ l)
turn f l p s a b e la lb =
    let back : drop a s ≡ l ++ p = ap (drop a) e ∙ drop_at f (l ++ p) a la in
    ap (λ x. take a x ++ (drop b (drop a s) ++ take b (drop a s))) e
    ∙ ap (λ x. x ++ (drop b (drop a s) ++ take b (drop a s))) (take_at f (l ++ p) a la)
    ∙ ap (λ x. f ++ (drop b x ++ take b x)) back
    ∙ ap (λ x. f ++ (x ++ take b (l ++ p))) (drop_at l p b lb)
    ∙ ap (λ x. f ++ (p ++ x)) (take_at l p b lb)

-- after the rotation, the parameter is at its offset
pub turned : (params : List (ℕ × List ℕ)) (key place at : ℕ) (value sized : List ℕ) → key < 65536 → at ≡ length (params_wire params) → place ≤ at
    → value_at params key ≡ None → take place (params_wire params) ≡ params_from (value_at params) 0 key
    → drop place (params_wire params) ≡ params_from (value_at params) (key + 1) (65536 - (key + 1)) → sized ≡ params_wire params ++ param key value
    → take place sized ++ (drop (at - place) (drop place sized) ++ take (at - place) (drop place sized)) ≡ params_wire (params ++ (key, value) ∷ [])
turned params key place at value sized l ea lp none front back e =
    let f = params_from (value_at params) 0 key in
    let g = params_from (value_at params) (key + 1) (65536 - (key + 1)) in
    let wire : params_wire params ≡ f ++ g = sym (take-append-drop place (params_wire params)) ∙ ap (λ x. x ++ drop place (params_wire params)) front ∙ ap (λ x. f ++ x) back in
    let first : length f ≡ place = ap length (sym front) ∙ length-take-le place (params_wire params) (omega arith) in
    let second : length g ≡ at - place = ap length (sym back) ∙ length-drop place (params_wire params) ∙ ap (λ n. n - place) (sym ea) in
    turn f g (param key value) sized place (at - place) (e ∙ ap (λ x. x ++ param key value) wire ∙ append_assoc f g (param key value)) first second
    ∙ sym (wire_with params key value l none)

-- a write through the end of a slice
put_end : (a k : ℕ) (xs ys : List ℕ) → length xs ≤ a + k → put_mid a k xs ys ≡ take a xs ++ ys
put_end a k xs ys l = ap (λ r. take a xs ++ (ys ++ r)) (drop_all k (drop a xs) (omega (arith, length-drop a xs))) ∙ ap (λ x. take a xs ++ x) (append-nil ys)

-- the part after an offset is rotated, so the parameter is at its offset
pub turned_at : (params : List (ℕ × List ℕ)) (key place at k : ℕ) (value sized moved : List ℕ) → key < 65536 → at ≡ length (params_wire params) → place ≤ at
    → value_at params key ≡ None → take place (params_wire params) ≡ params_from (value_at params) 0 key
    → drop place (params_wire params) ≡ params_from (value_at params) (key + 1) (65536 - (key + 1)) → sized ≡ params_wire params ++ param key value
    → k ≡ length sized - place → moved ≡ drop (at - place) (take k (drop place sized)) ++ take (at - place) (take k (drop place sized))
    → put_mid place k sized moved ≡ params_wire (params ++ (key, value) ∷ [])
turned_at params key place at k value sized moved l ea lp none front back e ek em =
    let whole : take k (drop place sized) ≡ drop place sized = take_all k (drop place sized) (omega (arith, length-drop place sized)) in
    put_end place k sized moved (omega arith) ∙ ap (λ x. take place sized ++ x) em
    ∙ ap (λ x. take place sized ++ (drop (at - place) x ++ take (at - place) x)) whole
    ∙ turned params key place at value sized l ea lp none front back e
