-- What is appended one after another.
use Rattle.std.proofs.Common.{◌≡◌, List, ◌++◌, ap, ◌∙◌, append_assoc, cond}
use Rattle.std.specs.Prelude.{Result, Ok, Err, OnOk, is_ok}

-- more was appended
pub append_more : {X : Type 0} (o x t y u : List X) → t ≡ o ++ x → u ≡ t ++ y → u ≡ o ++ (x ++ y)
append_more o x t y u e f = f ∙ ap (λ l. l ++ y) e ∙ append_assoc o x y

pub append_last : {X T E : Type 0} (r : Result T E) (o x t y u : List X) → t ≡ o ++ x → OnOk r (u ≡ t ++ y) → OnOk r (u ≡ o ++ (x ++ y))
append_last (Ok v) o x t y u e f = append_more o x t y u e f
append_last (Err v) o x t y u e f = tt

-- two parts at once
pub regroup : {X T E : Type 0} (r : Result T E) (t a b c : List X) → OnOk r (t ≡ (a ++ b) ++ c) → OnOk r (t ≡ a ++ (b ++ c))
regroup (Ok v) t a b c e = e ∙ append_assoc a b c
regroup (Err v) t a b c e = tt

-- a property of both results
pub on_ok : {X T E : Type 0} (r : Result T E) (t x y : List X) → t ≡ cond (is_ok r) x y → OnOk r (t ≡ x)
on_ok (Ok v) t x y e = e
on_ok (Err v) t x y e = tt
