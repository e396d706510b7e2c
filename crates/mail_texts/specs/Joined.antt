-- Character strings that are joined (RFC 7208 section 3.3, RFC 6376 section 3.6.2.2, RFC 7489 section 6.1).
use Rattle.std.specs.Prelude.{◌≡◌, ◌<◌, ℕ, zero, suc, ◌+◌, ◌-◌, ◌==◌, ◌&&◌, ◌||◌, not, if◌then◌else◌, Bool, false, Option, Some, None, List, [], ◌∷◌, ◌++◌, length, take, slice_get, codes}
use Rattle.std.specs.Option.{option_map_or}
use Rattle.dns_octets.specs.Lowered.{same_lowered}
use Rattle.mail_texts.specs.Macros.{has_no_octets}
use Rattle.mail_texts.specs.Parts.{is_pair, octets_before, passes_beyond}
use Rattle.mail_texts.specs.SpfTerms.{beyond_qualifier, is_mechanism_name}

-- the text of character strings, and the number of octets that are left of the first
abbrev pub joined_after : ℕ → List ℕ → List ℕ
joined_after count [] = []
joined_after zero (length ∷ octets) = joined_after length octets
joined_after (suc count) (octet ∷ octets) = octet ∷ joined_after count octets

abbrev pub text_of_strings : List ℕ → List ℕ
text_of_strings strings = joined_after 0 strings

-- ---- strings that are joined without a blank (RFC 7208 section 3.3)

abbrev pub ends_in_space : List ℕ → Bool
ends_in_space octets = option_map_or (λ o. o == 32) (slice_get octets (length octets - 1)) false

abbrev pub has_octets : List ℕ → Bool
has_octets octets = not (has_no_octets octets)

-- mechanism and ":"
abbrev pub is_mechanism_with_value : List ℕ → Bool
is_mechanism_with_value word = is_pair 58 is_mechanism_name has_octets (beyond_qualifier word)

-- a qualifier and all
abbrev pub is_signed_all : List ℕ → Bool
is_signed_all word = same_lowered (beyond_qualifier word) (codes "all") && not (same_lowered word (codes "all"))

-- redirect or exp and "="
abbrev pub is_modifier_with_value : List ℕ → Bool
is_modifier_with_value word = passes_beyond (codes "redirect=") has_octets word || passes_beyond (codes "exp=") has_octets word

-- a word that surely begins a term
abbrev pub begins_term : List ℕ → Bool
begins_term word = is_mechanism_with_value word || (is_signed_all word || is_modifier_with_value word)

-- a string that is not empty and does not end with a space, and one that begins with a term
abbrev pub is_joint : (first second : List ℕ) → Bool
is_joint first second = has_octets first && (not (ends_in_space first) && begins_term (octets_before 32 second))

-- the index of the first string that is such a second one, after a string and a number of octets that are left of it
abbrev pub joint_after : (index count : ℕ) → (before octets : List ℕ) → Option ℕ
joint_after index count before [] = None
joint_after index zero before (length ∷ octets) =
    if is_joint before (take length octets) then Some index else joint_after (suc index) length (take length octets) octets
joint_after index (suc count) before (octet ∷ octets) = joint_after index count before octets

abbrev pub joint_index : List ℕ → Option ℕ
joint_index strings = joint_after 0 0 [] strings

-- a first string, and the others
pub record IsStringBefore (strings first others : List ℕ) : Type 0 where
  pub text : text_of_strings strings ≡ first ++ text_of_strings others
  pub joint : (index : ℕ) (before : List ℕ) → joint_after index 0 before strings ≡ (if is_joint before first then Some index else joint_after (suc index) 0 first others)
  pub fewer : length first + length others < length strings
