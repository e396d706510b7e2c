-- Parts of key records of DKIM.
use Rattle.std.proofs.Common.{ℕ, ◌≡◌, ◌+◌, ◌<◌, Bool, true, false, cond, List, [], ◌∷◌, length, refl, ap, ◌∙◌, arith}
use Rattle.std.specs.Prelude.{◌/◌, ◌%◌, ◌*◌, ◌==◌, ◌&&◌, ◌||◌, not}
use Rattle.std.specs.List.{filter, list_all, list_any}
use Rattle.std.specs.Option.{option_map_or}
use Rattle.mail_texts.specs.Dkim.{is_base64, is_der_length, is_digit64, is_padding, is_whole_sequence, octets_of64, value64, without_fws}
use Rattle.mail_texts.specs.Parts.{IsSplitAt, IsUnsplit}
use Rattle.mail_texts.specs.Tags.{is_fws, is_not_fws}
use Rattle.mail_texts.proofs.Splits.{and_true}

pub base64_split : (octets before after : List ℕ) → IsSplitAt 61 octets before after → is_base64 octets ≡ (list_all is_digit64 before && is_padding after)
base64_split octets before after h = λ i. list_all is_digit64 (h.is_before i) && option_map_or is_padding (h.is_after i) true

pub base64_unsplit : (octets : List ℕ) → IsUnsplit 61 octets → is_base64 octets ≡ list_all is_digit64 octets
base64_unsplit octets h = (λ i. list_all is_digit64 (h.is_before i) && option_map_or is_padding (h.is_after i) true) ∙ and_true (list_all is_digit64 octets)

-- ---- sequences of DER

pub sequence_long : (a b c d e f : ℕ) (digits : List ℕ) →
    is_whole_sequence (octets_of64 (a ∷ b ∷ c ∷ d ∷ e ∷ f ∷ digits))
    ≡ ((value64 a * 4 + value64 b / 16 == 48)
    && is_der_length ((value64 b % 16) * 16 + value64 c / 4) ((value64 c % 4) * 64 + value64 d) (value64 e * 4 + value64 f / 16) (length (octets_of64 (a ∷ b ∷ c ∷ d ∷ e ∷ f ∷ digits))))
sequence_long a b c d e f [] = refl
sequence_long a b c d e f (g ∷ []) = refl
sequence_long a b c d e f (g ∷ h ∷ digits) = refl

pub sequence_short : (digits : List ℕ) → length digits < 6 → is_whole_sequence (octets_of64 digits) ≡ false
sequence_short [] lt = refl
sequence_short (a ∷ []) lt = refl
sequence_short (a ∷ b ∷ []) lt = refl
sequence_short (a ∷ b ∷ c ∷ []) lt = refl
sequence_short (a ∷ b ∷ c ∷ d ∷ []) lt = refl
sequence_short (a ∷ b ∷ c ∷ d ∷ e ∷ []) lt = refl
sequence_short (a ∷ b ∷ c ∷ d ∷ e ∷ f ∷ digits) lt = absurd (omega (arith, lt))

-- ---- FWS

bare_step : (b more : Bool) (o : ℕ) (octets bare : List ℕ) → (b || more) ≡ false → (more ≡ false → bare ≡ octets) → cond (not b) (o ∷ bare) bare ≡ o ∷ octets
bare_step true more o octets bare e h = cc
bare_step false more o octets bare e h = ap (λ l. o ∷ l) (h e)

pub bare_is : (octets : List ℕ) → list_any is_fws octets ≡ false → without_fws octets ≡ octets
bare_is [] e = refl
bare_is (o ∷ octets) e = bare_step (is_fws o) (list_any is_fws octets) o octets (filter is_not_fws octets) e (bare_is octets)
