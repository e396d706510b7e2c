-- Octets that a function writes one by one, and those that it writes unchanged.
use Rattle.std.proofs.Common.{◌≡◌, ℕ, ◌+◌, ◌-◌, ◌<◌, ◌≤◌, List, [], ◌∷◌, ◌++◌, length, take, drop, get_or, sym, ap, ◌∙◌, arith, append-nil, append_assoc}
use Rattle.std.specs.List.{flat_map}
use Rattle.std.proofs.lemmas.Grind.{flat_map-append}
use Rattle.std.proofs.lemmas.List.{take_more, take-append-drop, length-drop, length-take-le, get_or-drop}
use Rattle.std.proofs.lemmas.List.Concat.{flat_map-cons}
use Rattle.std.proofs.Math.Seq.{take-append-add}
use Rattle.dns_lexer.specs.Pieces.{between}

between_more : (xs : List ℕ) (s e : ℕ) → s ≤ e → e < length xs → between xs s (e + 1) ≡ between xs s e ++ get_or xs e 0 ∷ []
between_more xs s e h k =
    let n : e + 1 - s ≡ e - s + 1 = omega (arith, h) in
    let at : s + (e - s) ≡ e = omega (arith, h) in
    ap (λ m. take m (drop s xs)) n ∙ take_more (drop s xs) (e - s) 0 (omega (arith, length-drop s xs, h, k))
    ∙ ap (λ x. take (e - s) (drop s xs) ++ x ∷ []) (get_or-drop s xs (e - s) 0 ∙ ap (λ m. get_or xs m 0) at)

-- the octets before an index are those before an earlier one and those between
taken : (xs : List ℕ) (i j : ℕ) → i ≤ j → j ≤ length xs → take j xs ≡ take i xs ++ between xs i j
taken xs i j h k =
    let short : length (take i xs) ≡ i = length-take-le i xs (omega arith) in
    let n : j ≡ length (take i xs) + (j - i) = omega (arith, short, h) in
    ap (take j) (sym (take-append-drop i xs)) ∙ ap (λ m. take m (take i xs ++ drop i xs)) n ∙ take-append-add (take i xs) (drop i xs) (j - i)

one_written : (f : ℕ → List ℕ) (xs : List ℕ) (x : ℕ) → flat_map f (xs ++ x ∷ []) ≡ flat_map f xs ++ f x
one_written f xs x = flat_map-append f xs (x ∷ []) ∙ ap (λ l. flat_map f xs ++ l) (flat_map-cons f x [] ∙ append-nil (f x))

pub plain_more : (f : ℕ → List ℕ) (xs : List ℕ) (s e : ℕ) → s ≤ e → e < length xs → f (get_or xs e 0) ≡ get_or xs e 0 ∷ [] → flat_map f (between xs s e) ≡ between xs s e
    → flat_map f (between xs s (e + 1)) ≡ between xs s (e + 1)
plain_more f xs s e h k one p =
    let more = between_more xs s e h k in
    ap (flat_map f) more ∙ one_written f (between xs s e) (get_or xs e 0) ∙ ap (λ l. l ++ f (get_or xs e 0)) p ∙ ap (λ l. between xs s e ++ l) one ∙ sym more

-- a run of unchanged octets
pub run_written : (f : ℕ → List ℕ) (xs old out new : List ℕ) (s e : ℕ) → s ≤ e → e ≤ length xs → flat_map f (between xs s e) ≡ between xs s e → out ≡ old ++ flat_map f (take s xs)
    → new ≡ out ++ between xs s e → new ≡ old ++ flat_map f (take e xs)
run_written f xs old out new s e h k p o n =
    n ∙ ap (λ l. l ++ between xs s e) o ∙ append_assoc old (flat_map f (take s xs)) (between xs s e)
    ∙ ap (λ l. old ++ (flat_map f (take s xs) ++ l)) (sym p)
    ∙ ap (λ l. old ++ l) (sym (ap (flat_map f) (taken xs s e h k) ∙ flat_map-append f (take s xs) (between xs s e)))

-- one more octet
pub octet_written : (f : ℕ → List ℕ) (xs old out new : List ℕ) (e : ℕ) → e < length xs → out ≡ old ++ flat_map f (take e xs) → new ≡ out ++ f (get_or xs e 0)
    → new ≡ old ++ flat_map f (take (e + 1) xs)
octet_written f xs old out new e k o n =
    n ∙ ap (λ l. l ++ f (get_or xs e 0)) o ∙ append_assoc old (flat_map f (take e xs)) (f (get_or xs e 0))
    ∙ ap (λ l. old ++ l) (sym (ap (flat_map f) (take_more xs e 0 k) ∙ one_written f (take e xs) (get_or xs e 0)))
