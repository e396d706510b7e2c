-- What is printed parses to the same value; numbers.
use Rattle.std.proofs.Common.{ℕ, ◌≡◌, List, ap, arith, ◌∙◌, inl, inr, Result, Ok, Err, decimal}
use Rattle.std.proofs.lemmas.Fmt.{decimal_is_IsNumeral}
use Rattle.rdata_values.specs.Kind.{ReadsKind, IsKind}
use Rattle.rdata_values.specs.Numbers.{ReadsDecimal, NumbersReadBack}
use Rattle.rdata_values.specs.declared.error.ErrorKind.{ErrorKind}

pub is_kind : {V : Type 0} (Valid : V → Type 0) (Spells : List ℕ → V → Type 0) (printed : V → List ℕ) → ((v : V) → Valid v → Spells (printed v) v)
    → ((text : List ℕ) (v w : V) → Spells text v → Spells text w → v ≡ w) → IsKind Valid Spells printed
is_kind {V} Valid Spells printed spelled once = record { spelled = spelled; once = once; back = λ v why r valid read. by v why r (spelled v valid) read }
  where
    by : (v : V) (why : ErrorKind) (r : Result V ErrorKind) → Spells (printed v) v → ReadsKind Spells why (printed v) r → r ≡ Ok v
    by v why (Ok w) own read = ap Ok (once (printed v) w v read own)
    by v why (Err e) own read = absurd (read.1 v own)

pub numbers_back : NumbersReadBack
numbers_back limit n r small wide = by r
  where
    by : (r : Result ℕ ErrorKind) → ReadsDecimal limit (decimal n) r → r ≡ Ok n
    by (Ok m) h = let d = decimal_is_IsNumeral n (omega (arith, small, wide)) in ap Ok (h.0.1 ∙ d.1)
    by (Err e) (inl k) = let d = decimal_is_IsNumeral n (omega (arith, small, wide)) in absurd (k.1 d.0)
    by (Err e) (inr k) = let d = decimal_is_IsNumeral n (omega (arith, small, wide)) in absurd (omega (arith, k.2, d.1, small))
