-- TXT records for mail: DMARC (RFC 7489 section 6.1), and keys of DKIM (RFC 6376 section 3.6.2).
use Rattle.std.specs.Prelude.{ℕ, ◌&&◌, ◌||◌, not, nat_le, Bool, true, false, List, [], ◌∷◌, length, codes}
use Rattle.std.specs.List.{list_any}
use Rattle.dns_octets.specs.Lowered.{same_lowered}
use Rattle.mail_texts.specs.Dkim.{has_any_bad_dkim, has_bad_dkim}
use Rattle.mail_texts.specs.Dmarc.{has_bad_dmarc}
use Rattle.mail_texts.specs.Joined.{text_of_strings}
use Rattle.record_rules.specs.Labels.{is_key_zone}

-- the first label is _dmarc
abbrev pub is_policy_owner : List (List ℕ) → Bool
is_policy_owner [] = false
is_policy_owner (label ∷ labels) = same_lowered label (codes "_dmarc")

-- a label is _domainkey, and the first is that of a key
abbrev pub is_no_selector : List ℕ → Bool
is_no_selector label = is_key_zone label || (same_lowered label (codes "_adsp") || (same_lowered label (codes "_report") || same_lowered label (codes "_dmarc")))

abbrev pub is_key_owner : List (List ℕ) → Bool
is_key_owner [] = false
is_key_owner (label ∷ labels) = not (is_no_selector label) && list_any is_key_zone (label ∷ labels)

-- strings of at most 2,048 octets, which are joined; longer ones are not looked at
abbrev pub is_short_text : List ℕ → Bool
is_short_text octets = nat_le (length octets) 2048

abbrev pub has_bad_policy : (way : ℕ) → List ℕ → Bool
has_bad_policy way octets = is_short_text octets && has_bad_dmarc way (text_of_strings octets)

abbrev pub has_bad_key : (way : ℕ) → List ℕ → Bool
has_bad_key way octets = is_short_text octets && has_bad_dkim way (text_of_strings octets)

abbrev pub has_any_bad_key : List ℕ → Bool
has_any_bad_key octets = is_short_text octets && has_any_bad_dkim (text_of_strings octets)
