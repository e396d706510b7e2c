-- Octets that are appended piece by piece.
use Rattle.std.proofs.Common.{append-nil, ℕ, ◌-◌, ◌≡◌, ◌<◌, ◌≤◌, ◌+◌, ◌⊎◌, inl, inr, false, List, [], ◌++◌, length, sym, ap, ◌∙◌, arith, append_assoc}
use Rattle.std.specs.Prelude.{IsTrue, Result, Ok, Err, IsOk, OnErr, OnOk}
use Rattle.std.proofs.lemmas.Bool.{cases_lt}
use Rattle.std.proofs.lemmas.List.{length-append}
use Rattle.dns_octets.specs.Appending.{Extends}

-- more octets are appended
pub extends_on : (old middle new more : List ℕ) → Extends old middle → new ≡ middle ++ more → Extends old new
extends_on old middle new more e is = (e.0 ++ more, is ∙ ap (λ l. l ++ more) e.1 ∙ append_assoc old e.0 more)

pub extends_all : (old middle new : List ℕ) → Extends old middle → Extends middle new → Extends old new
extends_all old middle new e f = extends_on old middle new f.0 e f.1

pub extends_none : (old : List ℕ) → Extends old old
extends_none old = ([], sym (append-nil old))

-- what holds of a result
pub on_ok : {T E : Type 0} (r : Result T E) (P Q : Type 0) → (P → Q) → OnOk r P → OnOk r Q
on_ok (Ok x) P Q f h = f h
on_ok (Err e) P Q f h = h

pub when_err : {T E : Type 0} (P : Type 0) (r : Result T E) → P → OnErr r P
when_err P (Ok x) p = tt
when_err P (Err e) p = p

-- octets that were not appended were not sure to fit
pub short_of : (fits len more : ℕ) → (more ≤ fits - len → IsTrue false) → fits < len + more
short_of fits len more h = let g : more ≤ fits - len → ⊥ = (λ p. let e = h p in cc) in omega arith

pub on_lack : {T E : Type 0} (r : Result T E) (n fits old : ℕ) (Q : Type 0) → (n ≤ fits - old → IsOk r) → (fits < old + n → Q) → OnErr r Q
on_lack (Ok x) n fits old Q h f = tt
on_lack (Err e) n fits old Q h f = elim (cases_lt fits (old + n)) [
  | inl l ↦ f l
  | inr l ↦ (let ok = h (omega arith) in absurd cc)
]

-- and then the whole text isn't
pub lacks : (fits : ℕ) (old text middle piece more : List ℕ) → middle ++ (piece ++ more) ≡ old ++ text → fits < length middle + length piece → fits < length old + length text
lacks fits old text middle piece more is h =
    let n = ap length is in
    omega (arith, h, n, length-append middle (piece ++ more), length-append piece more, length-append old text)
