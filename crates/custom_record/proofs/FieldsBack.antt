-- The result of a list of tokens, as the result of a scanner.
use Rattle.std.proofs.Common.{ℕ, ◌≡◌, ◌<◌, List, [], ◌∷◌, ◌++◌, length, refl, append-nil, arith, ◌⊎◌, inl, inr, ⊎_elim, subst, ap, ◌∙◌, Option, Result, Ok, Err}
use Rattle.std.specs.Prelude.{IsOkAnd}
use Rattle.dns_octets.specs.Room.{Room}
use Rattle.dns_symbol.specs.Cause.{Cause}
use Rattle.dns_scan.specs.Numbers.{by_cause}
use Rattle.dns_scan.specs.Unread.{HasTokens}
use Rattle.dns_scan.specs.Tokens.{Token}
use Rattle.custom_record.specs.FieldLaws.{may_after}
use Rattle.custom_record.specs.ReadsBack.{FieldBack, ReadsBack}
use Rattle.std.specs.List.{concat}
use Rattle.dns_codec.specs.Base.{base16, base64, encoded}
use Rattle.dns_scan.specs.Join.{LeavesOf}
use Rattle.dns_scan.specs.Octets.{ReturnsWhere}
use Rattle.custom_record.specs.Values.{Value, hex, base64_octets, IsText, AreTexts, MayLack, SomeMayLack}

module _ {S T E : Type 0} (next : S → Option Token → S → Type 0) (cause : E → Cause) (room : Room) (values : T → List Value) (wanted : List Value) (others rest : List Token) (new : S) where
  -- if these are some of all fields
  pub scanned_back : (all : List Value) → (SomeMayLack room wanted → SomeMayLack room all) → (r : Result T E) → FieldBack room values wanted others (by_cause cause r) rest → HasTokens next new rest
      → ReadsBack next cause room values wanted all others r new
  scanned_back all among (Ok x) (inl h) stands = inl (h.0, subst (HasTokens next new) h.1 stands)
  scanned_back all among (Ok x) (inr h) stands = absurd (⊎_elim (λ e. e) (λ e. e) h.0)
  scanned_back all among (Err e) (inl h) stands = absurd h.0
  scanned_back all among (Err e) (inr h) stands = inr (h.0, among h.1)

-- ---- octets that are all remaining tokens

one_text : (v : Value) (text : Token) → ((t : Token) → IsText v t → t ≡ text) → (tokens : List Token) → AreTexts (v ∷ []) tokens [] → tokens ≡ text ∷ []
one_text v text only [] texts = absurd texts
one_text v text only (t ∷ ts) texts = λ i. only t texts.0 i ∷ texts.1 i

pub hex_text : (octets : List ℕ) (tokens : List Token) → AreTexts (hex octets ∷ []) tokens [] → concat tokens ≡ encoded base16 octets
hex_text octets tokens texts = ap concat (one_text (hex octets) (encoded base16 octets) (λ t e. e) tokens texts) ∙ append-nil (encoded base16 octets)

pub base64_text : (octets : List ℕ) (tokens : List Token) → AreTexts (base64_octets octets ∷ []) tokens [] → concat tokens ≡ encoded base64 octets
base64_text octets tokens texts = ap concat (one_text (base64_octets octets) (encoded base64 octets) (λ t e. e) tokens texts) ∙ append-nil (encoded base64 octets)

module _ {S O E : Type 0} (next : S → Option Token → S → Type 0) (cause : E → Cause) (value : O → List ℕ) (room : Room) (make : List ℕ → Value)
    (octets : List ℕ) (past : List Value) (tokens : List Token) (new : S) where
  pub some_rest : (o : O) (r : Result (List ℕ) E) → 0 < length octets → ReturnsWhere cause value room octets (Ok o) → LeavesOf {V = O} {E = E} next tokens (Ok o) new
      → (0 < length (value o) → IsOkAnd r (λ s. s ≡ value o)) → ReadsBack next cause room (λ s. make s ∷ []) (make octets ∷ []) (past ++ make octets ∷ []) [] r new
  some_rest o r some gives leaves made =
      let is : value o ≡ octets = ⊎_elim (λ e. e) (λ e. absurd e.0) gives in
      inl (by r is (made (omega (arith, some, ap length is))), subst (HasTokens next new) (leaves.3 refl) leaves.4)
    where
      by : (r : Result (List ℕ) E) → value o ≡ octets → IsOkAnd r (λ s. s ≡ value o) → IsOkAnd r (λ s. make s ∷ [] ≡ make octets ∷ [])
      by (Ok s) is e = ap (λ l. make l ∷ []) (e ∙ is)
      by (Err x) is e = e

  -- if such a field may lack capacity for its octets
  pub no_rest : {T : Type 0} (values : T → List Value) (wanted : List Value) (e : E) → (room.fits < length octets → MayLack room (make octets)) → ReturnsWhere cause value room octets (Err e)
      → ReadsBack {T = T} next cause room values wanted (past ++ make octets ∷ []) [] (Err e) new
  no_rest values wanted e may gives = ⊎_elim (λ is. absurd is) (λ lack. inr (inl lack.0, may_after room past (make octets ∷ []) (inl (may lack.1)))) gives

-- ---- fields, and then the last of them

-- what succeeded lacked nothing
pub went : {A M : Type 0} → A ⊎ ((⊥ ⊎ ⊥) × M) → A
went (inl a) = a
went (inr n) = ⊎_elim (λ e. absurd e) (λ e. absurd e) n.0

-- and what failed lacks the same, whatever was to remain
pub lacked : {A B L : Type 0} → (⊥ × A) ⊎ L → (⊥ × B) ⊎ L
lacked (inl n) = absurd n.0
lacked (inr l) = inr l
