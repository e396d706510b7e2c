-- Keys that a text names.
use Rattle.std.proofs.Common.{ℕ, zero, suc, ◌≡◌, ◌≢◌, ◌<◌, ◌≤◌, ◌+◌, ◌-◌, ◌^◌, ◌⊎◌, Bool, true, false, List, [], ◌∷◌, length, drop, get_or, decimal, refl, sym, subst, arith, ap, ◌∙◌, Option, Some, None, inl, inr}
use Rattle.std.specs.Prelude.{MatchOption, cond}
use Rattle.std.specs.Str.{bytes_eq}
use Rattle.std.specs.Str.Parse.{IsNumeral, AllDigits, digits_value}
use Rattle.std.proofs.lemmas.Fmt.{decimal_is_IsNumeral, decimal_digit, first_decimal, decimal-digits_value}
use Rattle.std.proofs.lemmas.Str.Parse.{IsNumeralModel}
use Rattle.std.proofs.lemmas.List.{drop_more, drop_all}
use Rattle.rdata_values.specs.Numbers.{SpellsNumber}
use Rattle.rdata_svcb.specs.declared.keys.NamedKey.{NamedKey}
use Rattle.rdata_svcb.specs.declared.keys.SpelledKey.{SpelledKey}
use Rattle.rdata_values.specs.declared.error.ErrorKind.{ErrorKind}
use Rattle.rdata_values.specs.declared.error.ErrorKind.TheVariants.{ExpectedNumber, NumberOverflow}
use Rattle.rdata_svcb.specs.declared.keys.ValueKind.TheVariants.{Octets}
use Rattle.rdata_svcb.specs.Keys.{KeyRow, rows_of, named_row, HasZeros, IsNumberedKey, NamesKeyOf, FindsKey}

digits : IsNumeralModel (AllDigits 10) (digits_value 10)
digits = record { to = λ ds h. h; from = λ ds h. h; same = λ ds h. refl }

pub with_zeros : (text : List ℕ) (n : ℕ) → HasZeros text → n < 2 ^ 16 → text ≢ decimal n
with_zeros text n zeros small e = by n small e
  where
    by : (n : ℕ) → n < 2 ^ 16 → text ≢ decimal n
    by n small e = elim (low n) [
      | inl z ↦ (let one = ap length (e ∙ ap decimal z ∙ decimal_digit 0 (omega arith)) in omega (arith, zeros.0, one))
      | inr more ↦ (let high = first_decimal n more (omega (arith, small)) in let first = ap (λ t. get_or t 0 0) e in omega (arith, high, first, zeros.1))
    ]
      where
        low : (n : ℕ) → (n ≡ 0) ⊎ (0 < n)
        low zero = inl refl
        low (suc n) = inr (omega arith)

pub is_decimal : (text : List ℕ) (n : ℕ) → ¬ HasZeros text → SpellsNumber text n → n < 2 ^ 16 → text ≡ decimal n
is_decimal text n plain h small =
    let value = h.1 in
    sym (decimal-digits_value digits text h.0.1 h.0.0 (λ e. one text h.0.0 plain e) (omega (arith, value, small))) ∙ ap decimal (sym h.1)
  where
    one : (text : List ℕ) → 0 < length text → ¬ HasZeros text → get_or text 0 0 ≡ 48 → length text ≡ 1
    one [] some plain e = absurd (omega (arith, some))
    one (x ∷ []) some plain e = refl
    one (x ∷ y ∷ text) some plain e = absurd (plain (omega arith, e))

-- a text that does not parse as a number is not a number in decimal
pub none_decimal : (text : List ℕ) (n : ℕ) (e : ErrorKind)
    → ((e ≡ ExpectedNumber) × (IsNumeral 10 text → ⊥)) ⊎ ((e ≡ NumberOverflow (2 ^ 16 - 1)) × IsNumeral 10 text × (2 ^ 16 ≤ digits_value 10 text)) → n < 2 ^ 16 → text ≢ decimal n
none_decimal text n e why small is =
    let d = decimal_is_IsNumeral n (omega (arith, small)) in
    let numeral : IsNumeral 10 text = subst (IsNumeral 10) (sym is) d.0 in
    let value : digits_value 10 text ≡ n = ap (digits_value 10) is ∙ d.1 in
    elim why [ inl h ↦ h.1 numeral | inr h ↦ (let large = h.2 in omega (arith, large, value, small)) ]

-- the row at an index of a table
module _ (table : List NamedKey) (text name : List ℕ) (i : ℕ) (d : NamedKey) (here : i < length table) (is : name ≡ (get_or table i d).1.now) (from : named_row (rows_of table) text ≡ named_row (rows_of (drop i table)) text) where
  next : (b : Bool) → bytes_eq name text ≡ b → named_row (rows_of table) text ≡ cond b (Some (record { code = (get_or table i d).0; name = (get_or table i d).1.now; kind = (get_or table i d).2 })) (named_row (rows_of (drop (i + 1) table)) text)
  next b e =
      from ∙ ap (λ t. named_row (rows_of t) text) (drop_more table i d here)
      ∙ ap (λ c. cond c (Some (record { code = (get_or table i d).0; name = (get_or table i d).1.now; kind = (get_or table i d).2 })) (named_row (rows_of (drop (i + 1) table)) text)) (ap (λ n. bytes_eq n text) (sym is) ∙ e)

  pub found_row : bytes_eq name text ≡ true → NamesKeyOf (rows_of table) text (get_or table i d).0 (get_or table i d).2
  found_row same =
      subst (λ (o : Option KeyRow). MatchOption o (IsNumberedKey text (get_or table i d).0 × ((get_or table i d).2 ≡ Octets)) (λ r. ((get_or table i d).0 ≡ r.code) × ((get_or table i d).2 ≡ r.kind)))
      (sym (next true same)) (refl, refl)

  pub passed_row : bytes_eq name text ≡ false → named_row (rows_of table) text ≡ named_row (rows_of (drop (i + 1) table)) text
  passed_row differ = next false differ

pub no_rows : (table : List NamedKey) (text : List ℕ) (i : ℕ) → length table ≤ i → named_row (rows_of table) text ≡ named_row (rows_of (drop i table)) text → named_row (rows_of table) text ≡ None
no_rows table text i end from = from ∙ ap (λ t. named_row (rows_of t) text) (drop_all i table end)

-- without a row, the key is numbered
pub numbered_only : (rows : List KeyRow) (text : List ℕ) (r : Option SpelledKey) → named_row rows text ≡ None
    → FindsKey (λ code kind. IsNumberedKey text code × (kind ≡ Octets)) r → FindsKey (NamesKeyOf rows text) r
numbered_only rows text None e h = λ code kind names. h code kind (subst (λ (o : Option KeyRow). MatchOption o (IsNumberedKey text code × (kind ≡ Octets)) (λ r. (code ≡ r.code) × (kind ≡ r.kind))) e names)
numbered_only rows text (Some k) e h =
    (subst (λ (o : Option KeyRow). MatchOption o (IsNumberedKey text k.code × (k.kind ≡ Octets)) (λ r. (k.code ≡ r.code) × (k.kind ≡ r.kind))) (sym e) h.0, h.1)
