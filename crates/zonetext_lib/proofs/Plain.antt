-- What is appended of a row of JSON.
use Rattle.std.proofs.Common.{◌≡◌, ℕ, List, ◌++◌, ap, ◌∙◌, append_assoc, Bool}
use Rattle.std.specs.Prelude.{Result, Ok, Err, OnOk, codes}
use Rattle.std.specs.Fmt.{decimal}
use Rattle.zonetext_lib.specs.declared.tokens.Form.TheVariants.{Json}
use Rattle.zonetext_lib.specs.Tokens.{form_head, glued_member}

-- what was appended one after another
joined : (t s o a y r : List ℕ) → t ≡ s ++ r → s ≡ (o ++ a) ++ y → t ≡ o ++ (a ++ (y ++ r))
joined t s o a y r e f = e ∙ ap (λ l. l ++ r) f ∙ append_assoc (o ++ a) y r ∙ append_assoc o a (y ++ r)

pub json_joined : {T E : Type 0} (r : Result T E) (o one two three t : List ℕ) (line column : ℕ) (kind : List ℕ) (g : Bool) → one ≡ (o ++ codes "{\"line\":") ++ decimal line
    → two ≡ (one ++ codes ",\"column\":") ++ decimal column → three ≡ (two ++ codes ",\"kind\":\"") ++ kind → OnOk r (t ≡ three ++ glued_member g)
    → OnOk r (t ≡ o ++ form_head Json line column kind g)
json_joined (Err h) o one two three t line column kind g a b c d = tt
json_joined (Ok u) o one two three t line column kind g a b c d =
    let last : List ℕ = glued_member g in
    let kinds : List ℕ = codes ",\"kind\":\"" ++ (kind ++ last) in
    let columns : List ℕ = codes ",\"column\":" ++ (decimal column ++ kinds) in
    joined t one o (codes "{\"line\":") (decimal line) columns
    (joined t two one (codes ",\"column\":") (decimal column) kinds (joined t three two (codes ",\"kind\":\"") kind last d c) b) a
