-- Characters of a text, one after another.
use Rattle.std.proofs.Common.{◌≡◌, ℕ, suc, ◌<◌, ◌≤◌, List, [], ◌∷◌, ◌++◌, length, take, drop, map, get_or, refl, sym, ap, ◌∙◌, arith, Option, Some, None, drop-cons, Result, Ok, Err, IsOk, IfOk}
use Rattle.std.proofs.Common.{IfErr, MatchResult}
use Rattle.std.proofs.lemmas.List.{take-append-drop}
use Rattle.dns_octets.specs.Room.{Room}
use Rattle.dns_codec.specs.Base.{Base}
use Rattle.dns_codec.specs.Grammar.{Decodes}
use Rattle.dns_codec.specs.Outcome.{IsRefusedBy}
use Rattle.dns_codec.specs.declared.error.DecodeError.{DecodeError}

pub map-same : (xs : List ℕ) → map (λ c. c) xs ≡ xs
map-same [] = refl
map-same (x ∷ xs) = ap (λ ys. x ∷ ys) (map-same xs)

-- the text is what was yielded, this character, and a rest
pub text_here : (all before : List ℕ) (c : ℕ) → map (λ c. c) before ≡ take (length before) all → (length before < length all) × (c ≡ get_or all (length before) c)
    → all ≡ before ++ c ∷ drop (suc (length before)) all
text_here all before c so_far at =
    let n : ℕ = length before in
    let inside : n < length all = at.0 in
    let front : before ≡ take n all = sym (map-same before) ∙ so_far in
    let back : drop n all ≡ c ∷ drop (suc n) all = drop-cons all n c inside ∙ ap (λ x. x ∷ drop (suc n) all) (sym at.1) in
    sym (take-append-drop n all) ∙ (ap (λ xs. xs ++ drop n all) (sym front) ∙ ap (λ xs. before ++ xs) back)

-- what `decode` answers: the value of a text of the grammar, or the text's error
abbrev pub Decoded : Base → (ℕ → List ℕ → Option DecodeError) → Room → List ℕ → Result (List ℕ) DecodeError → Type 0
Decoded b refusal room text (Ok octets) = Decodes b text octets
Decoded b refusal room text (Err e) = IsRefusedBy refusal room text e

-- a text that is decoded if it fits isn't rejected
pub never_refused : (refusal : ℕ → List ℕ → Option DecodeError) (room : Room) (text octets : List ℕ) (e : DecodeError)
    → ((limit : ℕ) → length octets ≤ limit → refusal limit text ≡ None) → length octets ≤ room.fits → IsRefusedBy refusal room text e → ⊥
never_refused refusal room text octets e reads le by =
    let low = by.is_limit.surely in
    let none = reads by.limit (omega arith) in
    let bad : None ≡ Some e = sym none ∙ by.refused in
    cc bad

-- the clauses of `decode`, from what its result is
pub clauses : (b : Base) (refusal : ℕ → List ℕ → Option DecodeError) (room : Room) (text : List ℕ) {T : Type 0} (shown : T → List ℕ) (r : Result T DecodeError)
    → ((octets : List ℕ) (limit : ℕ) → Decodes b text octets → length octets ≤ limit → refusal limit text ≡ None)
    → MatchResult r (λ o. Decoded b refusal room text (Ok (shown o))) (λ e. Decoded b refusal room text (Err e))
    → IfOk r (λ o. Decodes b text (shown o)) × ((octets : List ℕ) → Decodes b text octets → length octets ≤ room.fits → IsOk r) × IfErr r (λ e. IsRefusedBy refusal room text e)
clauses b refusal room text shown (Ok o) reads is = (is, λ octets d le. refl, tt)
clauses b refusal room text shown (Err e) reads is =
    (tt, λ octets d le. absurd (never_refused refusal room text octets e (λ limit. reads octets limit d) le is), is)

-- what the result is, from what it is of lists
pub finished : (b : Base) (refusal : ℕ → List ℕ → Option DecodeError) (room : Room) (text : List ℕ) {T : Type 0} (shown : T → List ℕ) (r : Result T DecodeError) (P : Result (List ℕ) DecodeError
    → Type 0)
    → ((s : Result (List ℕ) DecodeError) → P s → Decoded b refusal room text s)
    → MatchResult r (λ o. P (Ok (shown o))) (λ e. P (Err e))
    → MatchResult r (λ o. Decoded b refusal room text (Ok (shown o))) (λ e. Decoded b refusal room text (Err e))
finished b refusal room text shown (Ok o) P by end = by (Ok (shown o)) end
finished b refusal room text shown (Err e) P by end = by (Err e) end
