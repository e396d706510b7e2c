-- The first word of a kind, token by token.
use Rattle.std.proofs.Common.{◌≡◌, ◌↔◌, ℕ, suc, ◌+◌, ◌≤◌, ◌<◌, true, false, nat_le, List, [], ◌∷◌, map, length, drop, get_or, refl, sym, subst, arith, leb-true, le-leb, zero-add, add-zero, drop_of_length-le}
use Rattle.std.proofs.lemmas.Bool.{false≢true}
use Rattle.std.proofs.lemmas.List.{drop_more}
use Rattle.dns_lexer.specs.EntryTokens.{TokenSeen, token_seen}
use Rattle.dns_lexer.specs.declared.entry_tokens.EntryToken.{EntryToken}
use Rattle.rdata_values.specs.Ttl.{IntervalsAreKind, SpellsInterval}
use Rattle.zone_check.specs.declared.entry_words.WordKind.{WordKind}
use Rattle.zone_check.specs.EntryWords.{IsFirstWord, IsLongTtl, HasWordKind}

pub is_found : {P : Type 0} → P → (true ≡ true) ↔ P
is_found p = (λ _. p, λ _. refl)

pub is_not_found : {P : Type 0} → (P → ⊥) → (false ≡ true) ↔ P
is_not_found other = (λ e. absurd (false≢true e), λ p. absurd (other p))

-- a text writes one number of seconds
pub long_decided : (t : TokenSeen) (seconds : ℕ) → t.is_quoted ≡ false → SpellsInterval t.text seconds → IntervalsAreKind → (nat_le 2147483648 seconds ≡ true) ↔ IsLongTtl t
long_decided t seconds plain spelled kind = (
  λ e. (plain, (seconds, spelled, leb-true 2147483648 seconds e)),
  λ p. le-leb 2147483648 seconds (subst (λ n. 2147483648 ≤ n) (kind.once t.text p.1.0 seconds p.1.1 spelled) p.1.2),
)

module _ (kind : WordKind) (tokens : List EntryToken) where
  -- no token before an offset is of the kind
  abbrev pub NoneBefore : ℕ → Type 0
  NoneBefore i = (place : ℕ) → IsFirstWord kind (map token_seen (drop i tokens)) place → IsFirstWord kind (map token_seen tokens) (i + place)

  pub before_first : NoneBefore 0
  before_first place h = subst (IsFirstWord kind (map token_seen tokens)) (sym (zero-add place)) h

  pub before_next : (i : ℕ) (d : EntryToken) → i < length tokens → (HasWordKind kind (token_seen (get_or tokens i d)) → ⊥) → NoneBefore i → NoneBefore (i + 1)
  before_next i d lt other before place h =
      let step : drop i tokens ≡ get_or tokens i d ∷ drop (i + 1) tokens = drop_more tokens i d lt in
      let here : IsFirstWord kind (map token_seen (drop i tokens)) (suc place) = subst (λ l. IsFirstWord kind (map token_seen l) (suc place)) (sym step) (other, h) in
      let same : i + suc place ≡ i + 1 + place = omega arith in
      subst (IsFirstWord kind (map token_seen tokens)) same (before (suc place) here)

  pub first_here : (i : ℕ) (d : EntryToken) → i < length tokens → HasWordKind kind (token_seen (get_or tokens i d)) → NoneBefore i → IsFirstWord kind (map token_seen tokens) i
  first_here i d lt is before =
      let step : drop i tokens ≡ get_or tokens i d ∷ drop (i + 1) tokens = drop_more tokens i d lt in
      let here : IsFirstWord kind (map token_seen (drop i tokens)) 0 = subst (λ l. IsFirstWord kind (map token_seen l) 0) (sym step) is in
      subst (IsFirstWord kind (map token_seen tokens)) (add-zero i) (before 0 here)

  pub first_at_end : (i : ℕ) → length tokens ≤ i → NoneBefore i → IsFirstWord kind (map token_seen tokens) i
  first_at_end i end before =
      let none : drop i tokens ≡ [] = drop_of_length-le tokens end in
      let here : IsFirstWord kind (map token_seen (drop i tokens)) 0 = subst (λ l. IsFirstWord kind (map token_seen l) 0) (sym none) refl in
      subst (IsFirstWord kind (map token_seen tokens)) (add-zero i) (before 0 here)
