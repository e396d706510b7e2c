-- Texts that are cut to their first characters.
use Rattle.std.proofs.Common.{◌≡◌, ℕ, ◌+◌, ◌≤◌, List, ◌++◌, length, take, sym, ap, ◌∙◌, arith, ⊎_elim, length-append}
use Rattle.std.proofs.lemmas.Bool.{cases_lt}
use Rattle.std.proofs.lemmas.List.{append_assoc, length-take-le, take-append-le, take_all}
use Rattle.std.proofs.Math.Seq.{take-append-add}

-- appending to a cut text and cutting again is appending to the text and cutting
pub cut_append : (n : ℕ) (a b : List ℕ) → take n (take n a ++ b) ≡ take n (a ++ b)
cut_append n a b =
    ⊎_elim
    (λ less. ap (λ t. take n (t ++ b)) (take_all n a (omega (arith, less))))
    (λ more.
    let long : length (take n a) ≡ n = length-take-le n a more in
    take-append-le n (take n a) b (omega (arith, long)) ∙ take_all n (take n a) (omega (arith, long)) ∙ sym (take-append-le n a b more))
    (cases_lt (length a) n)

-- two texts are appended, one after the other
pub cut_two : (n : ℕ) (old a b first next : List ℕ) → first ≡ take n (old ++ a) → next ≡ take n (first ++ b) → next ≡ take n (old ++ (a ++ b))
cut_two n old a b first next is more = more ∙ ap (λ t. take n (t ++ b)) is ∙ cut_append n (old ++ a) b ∙ ap (take n) (append_assoc old a b)

-- the number of characters that fit
pub cut_room : (n room : ℕ) (old text : List ℕ) → room + length old ≡ n → old ++ take room text ≡ take n (old ++ text)
cut_room n room old text is =
    let same : length old + room ≡ n = omega (arith, is) in sym (take-append-add old text room) ∙ ap (λ k. take k (old ++ text)) same

pub cut_none : (n : ℕ) (old text : List ℕ) → length old + length text ≤ n → old ++ text ≡ take n (old ++ text)
cut_none n old text few = sym (take_all n (old ++ text) (omega (arith, few, length-append old text)))

-- three texts are appended, one after the other
pub cut_three : (n : ℕ) (old a b c first second next : List ℕ) → first ≡ take n (old ++ a) → second ≡ take n (first ++ b) → next ≡ take n (second ++ c) → next ≡ take n (old ++ (a ++ (b ++ c)))
cut_three n old a b c first second next is more last = cut_two n old a (b ++ c) first next is (cut_two n first b c second next more last)
