-- How many octets parameters have.
use Rattle.std.proofs.Common.{ℕ, zero, suc, ◌≡◌, ◌≢◌, ◌<◌, ◌≤◌, ◌+◌, ◌==◌, Bool, true, false, cond, List, [], ◌∷◌, ◌++◌, length, get_or, refl, sym, ap, ◌∙◌, arith, Option, Some, None, inl, inr}
use Rattle.std.specs.Prelude.{MatchOption}
use Rattle.std.specs.List.{AllByRecursion}
use Rattle.std.specs.Str.{bytes_eq}
use Rattle.std.proofs.lemmas.Bool.{cases_eq, eq-eqb}
use Rattle.std.proofs.lemmas.List.{length-append}
use Rattle.rdata_svcb.specs.Params.{param, param_if, params_wire, params_from, value_at}
use Rattle.rdata_svcb.proofs.Entries.{entries_none, entries_first}
use Rattle.rdata_svcb.specs.Keys.{KeyRow, named_row, key_rows, NamesKey, IsNumberedKey}
use Rattle.rdata_svcb.specs.declared.keys.ValueKind.{ValueKind}
use Rattle.rdata_svcb.specs.declared.keys.ValueKind.TheVariants.{Octets}

pub param_size : (key : ℕ) (value : List ℕ) → length (param key value) ≡ 4 + length value
unfolding param
param_size key value = omega arith

-- keys of one have their values in the other
abbrev pub HasAll : (ℕ → Option (List ℕ)) → (ℕ → Option (List ℕ)) → Type 0
HasAll f g = (key : ℕ) (value : List ℕ) → f key ≡ Some value → g key ≡ Some value

no_less_by : (w : ℕ) (a b : Option (List ℕ)) → ((x : List ℕ) → a ≡ Some x → b ≡ Some x) → length (param_if w a) ≤ length (param_if w b)
no_less_by w None b h = omega arith
no_less_by w (Some x) b h = omega (arith, ap (λ o. length (param_if w o)) (h x refl))

pub no_less : (f g : ℕ → Option (List ℕ)) (w n : ℕ) → HasAll f g → length (params_from f w n) ≤ length (params_from g w n)
no_less f g w zero h = omega (arith, ap length (entries_none f w))
no_less f g w (suc n) h =
    omega (
      arith,
      no_less_by w (f w) (g w) (h w),
      no_less f g (w + 1) n h,
      ap length (entries_first f w n),
      ap length (entries_first g w n),
      length-append (param_if w (f w)) (params_from f (w + 1) n),
      length-append (param_if w (g w)) (params_from g (w + 1) n),
    )

-- and one more is there
pub one_more : (f g : ℕ → Option (List ℕ)) (w n key : ℕ) (value : List ℕ) → HasAll f g → w ≤ key → key < w + n → f key ≡ None → g key ≡ Some value
    → length (params_from f w n) + (4 + length value) ≤ length (params_from g w n)
one_more f g w zero key value h low high none is = absurd (omega (arith, low, high))
one_more f g w (suc n) key value h low high none is =
    let a = ap length (entries_first f w n) in let b = ap length (entries_first g w n) in
    let c = length-append (param_if w (f w)) (params_from f (w + 1) n) in let d = length-append (param_if w (g w)) (params_from g (w + 1) n) in
    elim (cases_eq key w) [
      | inl here ↦ omega (arith, a, b, c, d, no_less f g (w + 1) n h, ap (λ o. length (param_if w o)) (sym (ap f here) ∙ none), ap (λ o. length (param_if w o)) (sym (ap g here) ∙ is), param_size w value)
      | inr other ↦ omega (arith, a, b, c, d, no_less_by w (f w) (g w) (h w), one_more f g (w + 1) n key value h (omega (arith, low, other)) (omega (arith, high)) none is)
    ]

has_by : (q : ℕ × List ℕ) (b : Bool) (x y : Option (List ℕ)) (v : List ℕ) → (x ≡ Some v → y ≡ Some v) → cond b (Some q.1) x ≡ Some v → cond b (Some q.1) y ≡ Some v
has_by q true x y v h e = e
has_by q false x y v h e = h e

has_more : (ps more : List (ℕ × List ℕ)) → HasAll (value_at ps) (value_at (ps ++ more))
has_more [] more key value h = absurd cc
has_more (q ∷ ps) more key value h = has_by q (q.0 == key) (value_at ps key) (value_at (ps ++ more) key) value (has_more ps more key value) h

new_by : (q : ℕ × List ℕ) (b : Bool) (x y : Option (List ℕ)) (v : List ℕ) → (x ≡ None → y ≡ Some v) → cond b (Some q.1) x ≡ None → cond b (Some q.1) y ≡ Some v
new_by q true x y v h e = absurd cc
new_by q false x y v h e = h e

has_new : (ps more : List (ℕ × List ℕ)) (p : ℕ × List ℕ) → value_at ps p.0 ≡ None → value_at (ps ++ p ∷ more) p.0 ≡ Some p.1
has_new [] more p none = ap (λ b. cond b (Some p.1) (value_at more p.0)) (eq-eqb p.0 p.0 refl)
has_new (q ∷ ps) more p none = new_by q (q.0 == p.0) (value_at ps p.0) (value_at (ps ++ p ∷ more) p.0) p.1 (has_new ps more p) none

-- parameters have the octets of some of them, and of one more
pub wire_longer : (ps more : List (ℕ × List ℕ)) (p : ℕ × List ℕ) → p.0 < 65536 → value_at ps p.0 ≡ None → length (params_wire ps) + (4 + length p.1) ≤ length (params_wire (ps ++ p ∷ more))
wire_longer ps more p small none = one_more (value_at ps) (value_at (ps ++ p ∷ more)) 0 65536 p.0 p.1 (has_more ps (p ∷ more)) (omega arith) (omega (arith, small)) none (has_new ps more p none)

-- keys that are named are small
abbrev IsSmallRow : KeyRow → Type 0
IsSmallRow r = r.code < 65536

row_by : (b : Bool) (r : KeyRow) (rest : Option KeyRow) → IsSmallRow r → MatchOption rest (Unit {0}) IsSmallRow → MatchOption (cond b (Some r) rest) (Unit {0}) IsSmallRow
row_by true r rest h k = h
row_by false r rest h k = k

small_row : (rows : List KeyRow) (text : List ℕ) → AllByRecursion IsSmallRow rows → MatchOption (named_row rows text) (Unit {0}) IsSmallRow
small_row [] text h = tt
small_row (r ∷ rows) text h = row_by (bytes_eq r.name text) r (named_row rows text) h.0 (small_row rows text h.1)

small_by : (row : Option KeyRow) (text : List ℕ) (code : ℕ) (kind : ValueKind) → MatchOption row (Unit {0}) IsSmallRow → MatchOption row (IsNumberedKey text code × (kind ≡ Octets)) (λ r. (code ≡ r.code) × (kind ≡ r.kind)) → code < 65536
small_by None text code kind h k = omega (arith, k.0.0)
small_by (Some r) text code kind h k = omega (arith, h, k.0)

pub small_key : (text : List ℕ) (code : ℕ) (kind : ValueKind) → NamesKey text code kind → code < 65536
small_key text code kind h =
    small_by (named_row key_rows text) text code kind
    (small_row key_rows text (omega arith, (omega arith, (omega arith, (omega arith, (omega arith, (omega arith, (omega arith, (omega arith, (omega arith, tt)))))))))) h
