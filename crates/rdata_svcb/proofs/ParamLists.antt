-- The parameters that octets are.
use Rattle.std.proofs.Common.{◌≡◌, ◌≢◌, ℕ, ◌+◌, ◌-◌, ◌<◌, ◌≤◌, ◌⊎◌, true, false, cond, List, [], ◌∷◌, ◌++◌, length, take, drop, get_or, All, Some, refl, sym, ap, ◌∙◌, arith, subst, zero, suc, inl, inr, append_assoc, append-nil}
use Rattle.std.specs.Int.{w16, to_be_bytes, from_be_bytes}
use Rattle.std.specs.List.{flat_map, Any}
use Rattle.std.specs.Option.{is_some}
use Rattle.std.proofs.lemmas.List.{take_at, drop_at, length-drop, length-take-le, length-append, get_or-append-add}
use Rattle.std.proofs.lemmas.List.Elements.{All-weaker, All-head, All-tail, All-push, All-same}
use Rattle.std.proofs.lemmas.List.Quantifiers.{Any-push}
use Rattle.std.proofs.lemmas.Bool.{cases_lt, le-ltb, lt-ltb, eq-eqb, ne_eqb}
use Rattle.std.proofs.lemmas.Nat.{from_be_bytes-to_be_bytes_2}
use Rattle.rdata_svcb.specs.Params.{param, params_wire, value_at, param_first, param_list, params_of, BeginsNoParam, HasAscendingKeys, HasFittingValues, IsParams, IsNoParams, IsCutOff, IsOutOfOrder}
use Rattle.rdata_svcb.specs.Values.{IsParamValue}
use Rattle.rdata_svcb.specs.ParamsFaults.{IsRight, IsFirstWrongParam}
use Rattle.rdata_svcb.proofs.Entries.{keys_skipped}
use Rattle.rdata_svcb.proofs.Reading.{ReadsParams, params_none, params_more, params_all, no_key_order, no_param, param_length, split_param, in_order}

first_whole : (key size : ℕ) (octets : List ℕ) (later : List (ℕ × List ℕ)) → size ≤ length octets → param_first key size octets later ≡ (key, take size octets) ∷ later
first_whole key size octets later l = ap (λ b. cond b [] ((key, take size octets) ∷ later)) (le-ltb (length octets) size l)

first_cut : (key size : ℕ) (octets : List ℕ) (later : List (ℕ × List ℕ)) → length octets < size → param_first key size octets later ≡ []
first_cut key size octets later l = ap (λ b. cond b [] ((key, take size octets) ∷ later)) (lt-ltb (length octets) size l)

list_step : (n a b c d : ℕ) (octets : List ℕ) → param_list (suc n) (a ∷ b ∷ c ∷ d ∷ octets)
    ≡ param_first (from_be_bytes w16 (a ∷ b ∷ [])) (from_be_bytes w16 (c ∷ d ∷ [])) octets (param_list n (drop (from_be_bytes w16 (c ∷ d ∷ [])) octets))
unfolding param_list
list_step n a b c d octets = refl

pub short_list : (n : ℕ) (xs : List ℕ) → length xs < 4 → param_list n xs ≡ []
unfolding param_list
short_list zero xs l = refl
short_list (suc n) [] l = refl
short_list (suc n) (a ∷ []) l = refl
short_list (suc n) (a ∷ b ∷ []) l = refl
short_list (suc n) (a ∷ b ∷ c ∷ []) l = refl
short_list (suc n) (a ∷ b ∷ c ∷ d ∷ xs) l = absurd (omega arith)

list_first : (n k : ℕ) (v r : List ℕ) → k < 65536 → length v < 65536 → param_list (suc n) (param k v ++ r) ≡ (k, v) ∷ param_list n r
unfolding param param_list
list_first n k v r lk lv =
    ap (λ x. param_first x (from_be_bytes w16 (to_be_bytes w16 (length v))) (v ++ r) (param_list n (drop (from_be_bytes w16 (to_be_bytes w16 (length v))) (v ++ r)))) (from_be_bytes-to_be_bytes_2 k lk)
    ∙ ap (λ m. param_first k m (v ++ r) (param_list n (drop m (v ++ r)))) (from_be_bytes-to_be_bytes_2 (length v) lv)
    ∙ first_whole k (length v) (v ++ r) (param_list n (drop (length v) (v ++ r))) (omega (arith, length-append v r))
    ∙ ap (λ x. (k, x) ∷ param_list n (drop (length v) (v ++ r))) (take_at v r (length v) refl)
    ∙ ap (λ x. (k, v) ∷ param_list n x) (drop_at v r (length v) refl)

enough_params : (n m : ℕ) (xs : List ℕ) → length xs ≤ n → length xs ≤ m → param_list n xs ≡ param_list m xs
enough_params n m [] l h = short_list n [] (omega arith) ∙ sym (short_list m [] (omega arith))
enough_params n m (a ∷ []) l h = short_list n (a ∷ []) (omega arith) ∙ sym (short_list m (a ∷ []) (omega arith))
enough_params n m (a ∷ b ∷ []) l h = short_list n (a ∷ b ∷ []) (omega arith) ∙ sym (short_list m (a ∷ b ∷ []) (omega arith))
enough_params n m (a ∷ b ∷ c ∷ []) l h = short_list n (a ∷ b ∷ c ∷ []) (omega arith) ∙ sym (short_list m (a ∷ b ∷ c ∷ []) (omega arith))
enough_params zero m (a ∷ b ∷ c ∷ d ∷ xs) l h = absurd (omega arith)
enough_params (suc n) zero (a ∷ b ∷ c ∷ d ∷ xs) l h = absurd (omega arith)
enough_params (suc n) (suc m) (a ∷ b ∷ c ∷ d ∷ xs) l h =
    let size = from_be_bytes w16 (c ∷ d ∷ []) in
    let shorter : length (drop size xs) ≤ length xs = omega (arith, length-drop size xs) in
    list_step n a b c d xs
    ∙ ap (param_first (from_be_bytes w16 (a ∷ b ∷ [])) size xs) (enough_params n m (drop size xs) (omega arith) (omega arith))
    ∙ sym (list_step m a b c d xs)

zero_list : (xs : List ℕ) → param_list zero xs ≡ []
unfolding param_list
zero_list xs = refl

-- the parameters of a parameter and octets after it
pub params_next : (k : ℕ) (v r : List ℕ) → k < 65536 → length v < 65536 → params_of (param k v ++ r) ≡ (k, v) ∷ params_of r
params_next k v r lk lv =
    let size = param_length k v r in
    let is : length (param k v ++ r) ≡ suc (3 + length v + length r) = omega arith in
    ap (λ n. param_list n (param k v ++ r)) is ∙ list_first (3 + length v + length r) k v r lk lv
    ∙ ap (λ ps. (k, v) ∷ ps) (enough_params (3 + length v + length r) (length r) r (omega arith) (omega arith))

no_list_by : (n a b c d : ℕ) (ys : List ℕ) → ((i : ℕ) → get_or (a ∷ b ∷ c ∷ d ∷ ys) i 0 < 256) → BeginsNoParam (a ∷ b ∷ c ∷ d ∷ ys) → param_list (suc n) (a ∷ b ∷ c ∷ d ∷ ys) ≡ []
no_list_by n a b c d ys small none =
    let xs : List ℕ = a ∷ b ∷ c ∷ d ∷ ys in
    let key = from_be_bytes w16 (a ∷ b ∷ []) in let size = from_be_bytes w16 (c ∷ d ∷ []) in
    list_step n a b c d ys ∙ (elim (cases_lt (length ys) size) [
      | inl l ↦ first_cut key size ys (param_list n (drop size ys)) l
      | inr l ↦ (let third = small 2 in let fourth = small 3 in
          let split = split_param xs key size size (suc (suc (suc (suc size)))) small refl refl (omega arith) refl refl in
          absurd (none key (take size ys) (take (length xs - suc (suc (suc (suc size)))) (drop (suc (suc (suc (suc size)))) xs)) (omega (arith, length-take-le size ys l)) split))
    ])

-- octets that don't begin with a parameter have none
pub no_list : (n : ℕ) (xs : List ℕ) → ((i : ℕ) → get_or xs i 0 < 256) → BeginsNoParam xs → param_list n xs ≡ []
no_list n [] small none = short_list n [] (omega arith)
no_list n (a ∷ []) small none = short_list n (a ∷ []) (omega arith)
no_list n (a ∷ b ∷ []) small none = short_list n (a ∷ b ∷ []) (omega arith)
no_list n (a ∷ b ∷ c ∷ []) small none = short_list n (a ∷ b ∷ c ∷ []) (omega arith)
no_list zero (a ∷ b ∷ c ∷ d ∷ ys) small none = zero_list (a ∷ b ∷ c ∷ d ∷ ys)
no_list (suc n) (a ∷ b ∷ c ∷ d ∷ ys) small none = no_list_by n a b c d ys small none

list_all : (ps : List (ℕ × List ℕ)) → All (λ p. p.0 < 65536) ps → HasFittingValues ps → params_of (flat_map (λ p. param p.0 p.1) ps) ≡ ps
list_all [] small fit = short_list 0 [] (omega arith)
list_all (p ∷ ps) small fit =
    params_next p.0 p.1 (flat_map (λ q. param q.0 q.1) ps) (All-head (λ q. q.0 < 65536) p ps small) (All-head (λ q. length q.1 < 65536) p ps fit)
    ∙ ap (λ qs. p ∷ qs) (list_all ps (All-tail (λ q. q.0 < 65536) p ps small) (All-tail (λ q. length q.1 < 65536) p ps fit))

-- what parses from the wire format of ascending parameters is these
pub params_of_wire : (ps : List (ℕ × List ℕ)) → HasAscendingKeys ps → All (λ p. p.0 < 65536) ps → HasFittingValues ps → params_of (params_wire ps) ≡ ps
params_of_wire ps up small fit = ap params_of (in_order ps up small fit) ∙ list_all ps small fit

-- the parameters of a wire format
pub record ReadBack (octets : List ℕ) : Type 0 where
  pub ascending : HasAscendingKeys (params_of octets)
  pub fitting : HasFittingValues (params_of octets)
  pub small : All (λ p. p.0 < 65536) (params_of octets)
  pub wire : params_wire (params_of octets) ≡ octets

pub read_back : (octets : List ℕ) → IsParams octets → ReadBack octets
read_back octets (ps, up, fit, small, e) =
    let is : ps ≡ params_of octets = sym (params_of_wire ps up small fit) ∙ ap params_of e in
    let P : List (ℕ × List ℕ) → Type 0 = λ qs. HasAscendingKeys qs × HasFittingValues qs × All (λ p. p.0 < 65536) qs × (params_wire qs ≡ octets) in
    let h = subst P is (up, fit, small, e) in record { ascending = h.0; fitting = h.1; small = h.2; wire = h.3 }

-- the parameters before the rest, and that the last of them is just below the next key
pub record ChecksParams (octets rest : List ℕ) (next : ℕ) : Type 0 where
  pub params : List (ℕ × List ℕ)
  pub reads : ReadsParams octets params rest next
  pub last : (next ≡ 0) ⊎ Any (λ p. next ≤ p.0 + 1) params

pub checks_no_params : (octets : List ℕ) → ChecksParams octets octets 0
checks_no_params octets = record { params = []; reads = params_none octets [] refl; last = inl refl }

pub checks_param : (octets rest after value : List ℕ) (next key : ℕ) → ChecksParams octets rest next → next ≤ key → key < 65536
    → length value < 65536 → rest ≡ param key value ++ after → ChecksParams octets after (key + 1)
checks_param octets rest after value next key h l small fit split = record {
  params = h.params ++ (key, value) ∷ [];
  reads = params_more octets rest after value h.params next key h.reads l small fit split;
  last = inr (Any-push (λ p. key + 1 ≤ p.0 + 1) h.params (key, value) (omega arith));
}

params_before : (octets rest : List ℕ) (params : List (ℕ × List ℕ)) (next : ℕ) → ReadsParams octets params rest next → octets ≡ params_wire params ++ rest
params_before octets rest params next h =
    h.taken ∙ ap (λ b. b ++ rest) (sym (keys_skipped params next 65536 h.high (All-weaker (λ p. p.0 < next) (λ p. (p.0 < next) ⊎ (65536 ≤ p.0)) (λ p l. inl l) params h.below)))

pub are_params : (octets rest : List ℕ) (next : ℕ) → ChecksParams octets rest next → rest ≡ [] → IsParams octets
are_params octets rest next h e =
    let high = h.reads.high in (
      h.params,
      h.reads.ascending,
      h.reads.fitting,
      All-weaker (λ p. p.0 < next) (λ p. p.0 < 65536) (λ p l. omega arith) h.params h.reads.below,
      params_all octets h.params rest next h.reads e,
    )

pub cut_off : (octets rest : List ℕ) (next : ℕ) → ChecksParams octets rest next → rest ≢ [] → BeginsNoParam rest → IsNoParams octets × IsCutOff octets
cut_off octets rest next h some none = (
  λ others fitting. no_param octets rest h.params others next h.reads some none fitting,
  (h.params, rest, h.reads.fitting, params_before octets rest h.params next h.reads, some, none),
)

some_above : (params : List (ℕ × List ℕ)) (next key : ℕ) → (next ≡ 0) ⊎ Any (λ p. next ≤ p.0 + 1) params → key < next → Any (λ p. key ≤ p.0) params
some_above params next key (inl e) l = absurd (omega arith)
some_above params next key (inr (k, p, inside, at, h)) l = (k, p, inside, at, omega arith)

pub out_of_order : (octets rest value after : List ℕ) (next key : ℕ) → ChecksParams octets rest next → key < next → key < 65536
    → length value < 65536 → rest ≡ param key value ++ after → IsNoParams octets × IsOutOfOrder key octets
out_of_order octets rest value after next key h l small fit split = (
  λ others fitting. no_key_order octets rest value after h.params others next key h.reads l small fit split fitting,
  (h.params, value, after, h.reads.fitting, params_before octets rest h.params next h.reads ∙ ap (λ r. params_wire h.params ++ r) split, some_above h.params next key h.last l),
)

pub shorter_param : (rest after v : List ℕ) (k : ℕ) → rest ≡ param k v ++ after → length after < length rest
shorter_param rest after v k e = let l = ap length e ∙ param_length k v after in omega arith

pub next_is : (rest after v : List ℕ) (k : ℕ) → rest ≡ param k v ++ after → k < 65536 → length v < 65536 → params_of rest ≡ (k, v) ∷ params_of after
next_is rest after v k e lk lv = ap params_of e ∙ params_next k v after lk lv

pub value_later : (rest after v : List ℕ) (k key : ℕ) → rest ≡ param k v ++ after → k < 65536 → length v < 65536 → k ≢ key
    → is_some (value_at (params_of rest) key) ≡ is_some (value_at (params_of after) key)
value_later rest after v k key e lk lv n =
    ap (λ ps. is_some (value_at ps key)) (next_is rest after v k e lk lv) ∙ ap (λ b. is_some (cond b (Some v) (value_at (params_of after) key))) (ne_eqb k key n)

pub value_here : (rest after v : List ℕ) (k key : ℕ) → rest ≡ param k v ++ after → k < 65536 → length v < 65536 → k ≡ key → is_some (value_at (params_of rest) key) ≡ true
value_here rest after v k key e lk lv same =
    ap (λ ps. is_some (value_at ps key)) (next_is rest after v k e lk lv) ∙ ap (λ b. is_some (cond b (Some v) (value_at (params_of after) key))) (eq-eqb k key same)

pub none_of : (rest : List ℕ) → ((i : ℕ) → get_or rest i 0 < 256) → BeginsNoParam rest → params_of rest ≡ []
none_of rest small none = no_list (length rest) rest small none

pub value_nowhere : (rest : List ℕ) (key : ℕ) → params_of rest ≡ [] → is_some (value_at (params_of rest) key) ≡ false
value_nowhere rest key none = ap (λ ps. is_some (value_at ps key)) none

-- the parameters before the rest are right
abbrev pub RightSoFar : List (ℕ × List ℕ) → List (ℕ × List ℕ) → List ℕ → Type 0
RightSoFar all params rest = (front : List (ℕ × List ℕ)) × All (IsRight all) front × (params ≡ front ++ params_of rest)

pub right_more : (all params : List (ℕ × List ℕ)) (rest after v : List ℕ) (k : ℕ) → RightSoFar all params rest → rest ≡ param k v ++ after → k < 65536 → length v < 65536
    → IsParamValue all k v → RightSoFar all params after
right_more all params rest after v k (front, each, is) e lk lv right = (
  front ++ (k, v) ∷ [],
  All-push (IsRight all) front (k, v) each right,
  is ∙ ap (λ ps. front ++ ps) (next_is rest after v k e lk lv) ∙ sym (append_assoc front ((k, v) ∷ []) (params_of after)),
)

pub wrong_here : (params : List (ℕ × List ℕ)) (rest after v : List ℕ) (k : ℕ) → RightSoFar params params rest → rest ≡ param k v ++ after → k < 65536 → length v < 65536
    → (IsParamValue params k v → ⊥) → IsFirstWrongParam k v params
wrong_here params rest after v k (front, each, is) e lk lv wrong = (front, params_of after, is ∙ ap (λ ps. front ++ ps) (next_is rest after v k e lk lv), each, wrong)

pub all_right : (all params : List (ℕ × List ℕ)) (rest : List ℕ) → RightSoFar all params rest → params_of rest ≡ [] → All (IsRight all) params
all_right all params rest (front, each, is) e = All-same (IsRight all) params front (is ∙ ap (λ ps. front ++ ps) e ∙ append-nil front) each

pub not_right : (key : ℕ) (value : List ℕ) (params : List (ℕ × List ℕ)) → IsFirstWrongParam key value params → All (IsRight params) params → ⊥
not_right key value params (front, back, is, each, wrong) right =
    let P : List (ℕ × List ℕ) → Type 0 = λ ps. All (IsRight params) ps in
    let there = subst P is right in
    wrong (All-head (IsRight params) (key, value) back (λ k d l.
    let at = there (length front + k) d (omega (arith, length-append front ((key, value) ∷ back))) in
    let Q : ℕ × List ℕ → Type 0 = IsRight params in subst Q (get_or-append-add front ((key, value) ∷ back) k d) at))
