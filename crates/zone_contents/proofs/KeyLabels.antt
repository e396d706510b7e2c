-- The first label of a key, up to an octet 0 or 1.
use Rattle.std.proofs.Common.{ℕ, zero, suc, ◌≡◌, ◌+◌, ◌<◌, List, ◌∷◌, [], ◌++◌, length, take, drop, refl, sym, ap, ◌∙◌, append_assoc, arith}
use Rattle.std.specs.Prelude.{All, get_or}
use Rattle.std.proofs.lemmas.List.Elements.{All-head, All-tail}
use Rattle.std.proofs.lemmas.List.{drop_more, take_more}
use Rattle.zone_record.specs.KeyNames.{first_in_key, after_in_key}
use Rattle.zone_record.proofs.KeyNames.{split_single, after_split_single}

-- an octet above 1 is one of the first label
pub first_more : (key : List ℕ) (i d : ℕ) → i < length key → 1 < get_or key i d → first_in_key key ≡ take i key ++ first_in_key (drop i key) → first_in_key key ≡ take (i + 1) key ++ first_in_key (drop (i + 1) key)
first_more key i d within plain h =
    h ∙ ap (λ l. take i key ++ l) (split_single (drop i key) (get_or key i d) (drop (i + 1) key) (drop_more key i d within) plain)
    ∙ sym (append_assoc (take i key) (get_or key i d ∷ []) (first_in_key (drop (i + 1) key)))
    ∙ ap (λ l. l ++ first_in_key (drop (i + 1) key)) (sym (take_more key i d within))

pub after_more : (key : List ℕ) (i d : ℕ) → i < length key → 1 < get_or key i d → after_in_key key ≡ after_in_key (drop i key) → after_in_key key ≡ after_in_key (drop (i + 1) key)
after_more key i d within plain h = h ∙ after_split_single (drop i key) (get_or key i d) (drop (i + 1) key) (drop_more key i d within) plain

abbrev IsPlain : ℕ → Type 0
IsPlain o = 1 < o

-- octets above 1 are of the first label
pub plain_first : (front rest : List ℕ) → All IsPlain front → first_in_key (front ++ rest) ≡ front ++ first_in_key rest
plain_first [] rest h = refl
plain_first (zero ∷ front) rest h = absurd (omega (arith, All-head IsPlain zero front h))
plain_first (suc zero ∷ front) rest h = absurd (omega (arith, All-head IsPlain 1 front h))
plain_first (suc (suc n) ∷ front) rest h = ap (λ l. suc (suc n) ∷ l) (plain_first front rest (All-tail IsPlain (suc (suc n)) front h))

pub plain_after : (front rest : List ℕ) → All IsPlain front → after_in_key (front ++ rest) ≡ after_in_key rest
plain_after [] rest h = refl
plain_after (zero ∷ front) rest h = absurd (omega (arith, All-head IsPlain zero front h))
plain_after (suc zero ∷ front) rest h = absurd (omega (arith, All-head IsPlain 1 front h))
plain_after (suc (suc n) ∷ front) rest h = plain_after front rest (All-tail IsPlain (suc (suc n)) front h)
