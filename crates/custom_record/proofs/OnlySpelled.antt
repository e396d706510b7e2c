-- The tokens that a call consumed spell the fields of its value.
use Rattle.std.proofs.Common.{ℕ, ◌≡◌, ◌<◌, ◌≤◌, List, [], ◌∷◌, length, refl, sym, ap, subst, arith, append-nil, ◌⊎◌, ⊎_elim, Option, Result, Ok, Err, Vec}
use Rattle.std.specs.Prelude.{All, IsOkAnd}
use Rattle.std.specs.List.{AllZip}
use Rattle.std.proofs.lemmas.List.Elements.{All-head, All-tail}
use Rattle.dns_octets.specs.Room.{Room}
use Rattle.dns_symbol.specs.Cause.{Cause, IsCause, end_of_entry}
use Rattle.dns_charstr.specs.Reading.{HasOctets}
use Rattle.dns_codec.specs.Base.{base16, base64, encoded, padded, digit_char}
use Rattle.dns_codec.specs.Bits.{bits, joined, digits_from_bits, filled, digits}
use Rattle.dns_scan.specs.Join.{LeavesOf}
use Rattle.dns_scan.specs.Numbers.{by_cause}
use Rattle.dns_scan.specs.Unread.{HasTokens}
use Rattle.dns_scan.specs.Tokens.{Token}
use Rattle.custom_record.specs.Several.{strings_of}
use Rattle.custom_record.specs.Spellings.{IsSpellingOf, AreSpellingsOf, ConsumesSpellings}
use Rattle.custom_record.specs.Values.{Value}

-- no octets have no text
pub no_hex : [] ≡ encoded base16 []
unfolding encoded padded digits digits_from_bits filled joined bits digit_char
no_hex = refl

pub no_base64 : [] ≡ encoded base64 []
unfolding encoded padded digits digits_from_bits filled joined bits digit_char
no_base64 = refl

-- there is always room for no octets
pub none_made : (room : Room) (xs : List ℕ) → (xs ≡ []) ⊎ (⊥ × (room.fits < 0)) → length xs ≡ 0
none_made room xs gives = ⊎_elim (λ is. ap length is) (λ lack. absurd lack.0) gives

pub none_lacks : {P : Type 0} (room : Room) → ⊥ ⊎ (P × (room.fits < 0)) → ⊥
none_lacks room gives = ⊎_elim (λ no. no) (λ lack. absurd (omega (arith, lack.1))) gives

module _ {S E : Type 0} (next : S → Option Token → S → Type 0) (cause : E → Cause) (tokens : List Token) (new : S) where
  pub scanned_only : {T : Type 0} (values : T → List Value) (reads : List Token → Result T Cause → List Token → Type 0)
      → ((x : T) (tokens rest : List Token) → reads tokens (Ok x) rest → AreSpellingsOf (values x) tokens rest)
      → (rest : List Token) (r : Result T E) → reads tokens (by_cause cause r) rest → HasTokens next new rest → ConsumesSpellings next values tokens r new
  scanned_only values reads only rest (Ok x) h stands = (rest, only x tokens rest h, stands)
  scanned_only values reads only rest (Err e) h stands = tt

  -- of the value of octets if there is one, and else rejected
  made_same : {V : Type 0} (xs : List V) (s : List V) → (0 < length xs → IsOkAnd {E = E} (Ok s) (λ l. l ≡ xs)) → (length xs ≡ 0 → IsCause cause (Ok s) end_of_entry) → s ≡ xs
  made_same [] s made none = absurd (none refl)
  made_same (x ∷ xs) s made none = made (omega arith)

  pub rest_only : {O : Type 0} (value : O → List ℕ) (make : List ℕ → Value) (o : O) (r : Result (List ℕ) E) → IsSpellingOf (make (value o)) tokens → LeavesOf {V = O} {E = E} next tokens (Ok o) new
      → (0 < length (value o) → IsOkAnd r (λ s. s ≡ value o)) → (length (value o) ≡ 0 → IsCause cause r end_of_entry) → ConsumesSpellings next (λ s. make s ∷ []) tokens r new
  rest_only value make o (Err e) spelled leaves made none = tt
  rest_only value make o (Ok s) spelled leaves made none = (
    [],
    (tokens, [], sym (append-nil tokens), subst (λ (l : List ℕ). IsSpellingOf (make l) tokens) (sym (made_same (value o) s made none)) spelled, refl),
    subst (HasTokens next new) (leaves.3 refl) leaves.4,
  )

  -- each token is one string of a list
  strings_spelled : (ts : List Token) (strings : List (List ℕ)) → AllZip HasOctets ts strings → All (λ s. length s ≤ 255) strings → AreSpellingsOf (strings_of strings) ts []
  strings_spelled [] [] zip short = refl
  strings_spelled [] (s ∷ ss) zip short = absurd zip
  strings_spelled (t ∷ ts) [] zip short = absurd zip
  strings_spelled (t ∷ ts) (s ∷ ss) zip short =
      (t ∷ [], ts, refl, (t, refl, (zip.0, All-head (λ s. length s ≤ 255) s ss short)), strings_spelled ts ss zip.1 (All-tail (λ s. length s ≤ 255) s ss short))

  pub strings_only : {A : Type 0} (v : Vec (List ℕ) A) (r : Result (List (List ℕ)) E) → AllZip HasOctets tokens v.items → All (λ s. length s ≤ 255) v.items
      → LeavesOf {V = Vec (List ℕ) A} {E = E} next tokens (Ok v) new
      → (0 < length v.items → IsOkAnd r (λ s. s ≡ v.items)) → (length v.items ≡ 0 → IsCause cause r end_of_entry) → ConsumesSpellings next strings_of tokens r new
  strings_only v (Err e) zip short leaves made none = tt
  strings_only v (Ok s) zip short leaves made none = (
    [],
    subst (λ (l : List (List ℕ)). AreSpellingsOf (strings_of l) tokens []) (sym (made_same v.items s made none)) (strings_spelled tokens v.items zip short),
    subst (HasTokens next new) (leaves.3 refl) leaves.4,
  )
