-- The two characters of an octet in base 16, side by side.
use Rattle.std.proofs.Common.{◌≡◌, ℕ, ◌+◌, ◌*◌, ◌/◌, ◌%◌, ◌<◌, ◌==◌, ◌&&◌, inl, inr, List, [], ◌∷◌, ◌++◌}
use Rattle.std.proofs.Common.{length, take, drop, map, get_or, refl, sym, ap, ◌∙◌, arith, append_assoc, slice_index, slice_set}
use Rattle.std.proofs.lemmas.Bool.{and_parts, eqb-true}
use Rattle.std.proofs.lemmas.List.{take_more, take_more_set, map-append, drop-set-lt, length-set, take-append-drop}
use Rattle.dns_codec.specs.Bits.{low_digits, digits}
use Rattle.dns_codec.specs.Base.{Base, base16, IsEncoding}
use Rattle.dns_codec.specs.Pairs.{IsPairs}
use Rattle.dns_codec.proofs.Alphabets.{all_below_at}
use Rattle.dns_codec.proofs.Encoding.{digits-append}
use Rattle.dns_codec.proofs.Fitting.{drop_on, whole_digits}
use Rattle.dns_codec.proofs.Putting.{digits_by, front_below}

-- characters of 4 bits are those of base 16
pub is_base16 : (b : Base) → IsEncoding b → b.width ≡ 4 → b ≡ base16
is_base16 b (inl is) narrow = is
is_base16 b (inr (inl is)) narrow = absurd (let five : b.width ≡ 5 = ap (λ (x : Base). x.width) is in omega arith)
is_base16 b (inr (inr is)) narrow = absurd (let six : b.width ≡ 6 = ap (λ (x : Base). x.width) is in omega arith)

-- an octet has two digits
pub pieces_of_octet : (o : ℕ) → o < 256 → digits 4 (o ∷ []) ≡ o / 16 ∷ o % 16 ∷ []
unfolding low_digits
pieces_of_octet o low =
    let same : o % 256 ≡ o = omega arith in
    let all : low_digits 8 1 o ≡ o ∷ [] = rw same refl in
    let high : o * 1 / 16 % 16 ≡ o / 16 = omega arith in
    let last : o * 1 % 16 ≡ o % 16 = omega arith in
    digits_by 4 1 o 2 0 (o ∷ []) all refl (omega arith) ∙ rw (high, last) refl

pair_at : (pairs : List ℕ) (o : ℕ) → IsPairs pairs → o < 256
    → (slice_index pairs (2 * o) ≡ slice_index base16.alphabet (o / 16)) × (slice_index pairs (2 * o + 1) ≡ slice_index base16.alphabet (o % 16))
unfolding IsPairs
pair_at pairs o all low =
    let test = all_below_at (λ x. (slice_index pairs (2 * x) == slice_index base16.alphabet (x / 16)) && (slice_index pairs (2 * x + 1) == slice_index base16.alphabet (x % 16))) 256 o all low in
    let both = and_parts _ _ test in
    (eqb-true _ _ both.0, eqb-true _ _ both.1)

pub pair_step : (at place : ℕ) (pairs octets first text : List ℕ) → IsPairs pairs → ((k : ℕ) → get_or octets k 0 < 256) → place < length octets → at + 2 * place + 1 < length text
    → take (at + 2 * place) text ≡ take at first ++ map (slice_index base16.alphabet) (digits 4 (take place octets))
    → take (at + 2 * (place + 1)) (slice_set (slice_set text (at + 2 * place) (slice_index pairs (2 * slice_index octets place))) (at + 2 * place + 1)
    (slice_index pairs (2 * slice_index octets place + 1)))
    ≡ take at first ++ map (slice_index base16.alphabet) (digits 4 (take (place + 1) octets))
pair_step at place pairs octets first text table bytes inside room before =
    let o : ℕ = slice_index octets place in
    let end : ℕ = at + 2 * place in
    let a : ℕ = slice_index pairs (2 * o) in
    let b : ℕ = slice_index pairs (2 * o + 1) in
    let low : o < 256 = bytes place in
    let characters = pair_at pairs o table low in
    let next : at + 2 * (place + 1) ≡ end + 1 + 1 = omega arith in
    let size : length (slice_set text end a) ≡ length text = length-set text end a in
    let two = take_more_set (slice_set text end a) (end + 1) b (omega arith) in
    let one = take_more_set text end a (omega arith) in
    let done : List ℕ = take place octets in
    let more : take (place + 1) octets ≡ done ++ o ∷ [] = take_more octets place 0 inside in
    let parts : octets ≡ done ++ drop place octets = sym (take-append-drop place octets) in
    let below : (k : ℕ) → get_or done k 0 < 256 = front_below octets done (drop place octets) bytes parts in
    let whole : length done * 8 % 4 ≡ 0 = omega arith in
    let both = digits-append 4 done (o ∷ []) (omega arith) below whole in
    let text : take (end + 1 + 1) (slice_set (slice_set text end a) (end + 1) b) ≡ (take end text ++ a ∷ []) ++ b ∷ [] = two ∙ ap (λ xs. xs ++ b ∷ []) one in
    rw (next, more, both, pieces_of_octet o low, map-append) (text ∙ rw (before, characters.0, characters.1, append_assoc, append_assoc) refl)

pub pair_rest : (at place v u : ℕ) (first text : List ℕ) → drop (at + 2 * place) text ≡ drop (at + 2 * place) first
    → drop (at + 2 * (place + 1)) (slice_set (slice_set text (at + 2 * place) v) (at + 2 * place + 1) u) ≡ drop (at + 2 * (place + 1)) first
pair_rest at place v u first text before =
    let next : ℕ = at + 2 * (place + 1) in
    drop-set-lt next (slice_set text (at + 2 * place) v) (at + 2 * place + 1) u (omega arith)
    ∙ drop-set-lt next text (at + 2 * place) v (omega arith)
    ∙ drop_on (at + 2 * place) next text first (omega arith) before

-- two digits for each octet
pub two_each : (octets : List ℕ) → length (digits 4 octets) ≡ 2 * length octets
two_each octets =
    let even : length octets * 8 % 4 ≡ 0 = omega arith in
    let all = whole_digits 4 octets (omega arith) even in
    omega arith
