-- Worked examples of the rules of TXT records for mail, each computed.
use Rattle.std.specs.Prelude.{◌≡◌, ℕ, Bool, true, false, Option, Some, None, List, [], ◌∷◌, ◌++◌, length, codes, refl}
use Rattle.dns_wire.specs.Wire.{wire}
use Rattle.finding_codes.specs.Rule.{coded_rule}
use Rattle.finding_codes.specs.declared.code.Code.TheVariants.{CommentInData, Dkim, Dmarc, TxtWords}
use Rattle.rdata_fields.specs.declared.record_ref.RecordRef.{RecordRef}
use Rattle.rdata_values.specs.Rtype as Rtype
use Rattle.rdata_values.specs.declared.types.RecordType.{RecordType}
use Rattle.record_rules.specs.FoundAlone.{found_alone}
use Rattle.record_rules.specs.Labels.{name_labels}
use Rattle.record_rules.specs.LoneRules.{breaks_alone}
use Rattle.record_rules.specs.MailTexts.{is_key_owner, is_policy_owner}
use Rattle.record_rules.specs.declared.written.Written.{Written}

-- a character string
abbrev string : List ℕ → List ℕ
string octets = length octets ∷ octets

-- a TXT with an owner, how it is written, and its strings
abbrev txt_of : List (List ℕ) → List ℕ → RecordRef
txt_of owner octets = record {
  owner = record { ref_ptr = (0, 0); now = wire owner };
  ttl = 60;
  class = 1;
  rtype = Rtype.txt;
  «data» = record { ref_ptr = (0, 0); now = octets };
}

abbrev policy_name : List (List ℕ)
policy_name = codes "_DMARC" ∷ codes "example" ∷ [] ∷ []

abbrev key_name : List (List ℕ)
key_name = codes "s" ∷ codes "_domainkey" ∷ codes "example" ∷ [] ∷ []

-- ---- owners

policy_owner_row : is_policy_owner (codes "_DMARC" ∷ codes "example" ∷ []) ≡ true
policy_owner_row = refl

below_policy_row : is_policy_owner (codes "a" ∷ codes "_dmarc" ∷ []) ≡ false
below_policy_row = refl

key_owner_row : is_key_owner (codes "s" ∷ codes "_DomainKey" ∷ codes "example" ∷ []) ≡ true
key_owner_row = refl

long_selector_row : is_key_owner (codes "a" ∷ codes "b" ∷ codes "_domainkey" ∷ []) ≡ true
long_selector_row = refl

key_zone_row : is_key_owner (codes "_domainkey" ∷ codes "example" ∷ []) ≡ false
key_zone_row = refl

signing_practices_row : is_key_owner (codes "_adsp" ∷ codes "_domainkey" ∷ []) ≡ false
signing_practices_row = refl

no_key_zone_row : is_key_owner (codes "s" ∷ codes "example" ∷ []) ≡ false
no_key_zone_row = refl

-- ---- records

policy_row : breaks_alone Dmarc 3 (wire policy_name) Rtype.txt (string (codes "v=DMARC1; p=rejct")) None ≡ true
unfolding name_labels
policy_row = refl

joined_policy_row : breaks_alone Dmarc 3 (wire policy_name) Rtype.txt (string (codes "v=DMARC1; p=re") ++ string (codes "ject")) None ≡ false
unfolding name_labels
joined_policy_row = refl

other_policy_owner_row : breaks_alone Dmarc 3 (wire key_name) Rtype.txt (string (codes "v=DMARC1; p=rejct")) None ≡ false
unfolding name_labels
other_policy_owner_row = refl

key_row : breaks_alone Dkim 1 (wire key_name) Rtype.txt (string (codes "v=DKIM1; k=rsa")) None ≡ true
unfolding name_labels
key_row = refl

other_key_owner_row : breaks_alone Dkim 1 (wire policy_name) Rtype.txt (string (codes "v=DKIM1; k=rsa")) None ≡ false
unfolding name_labels
other_key_owner_row = refl

-- ---- all rules

abbrev written : Bool → List ℕ → Option Written
written quotes last = Some (record { has_quotes = quotes; last = record { ref_ptr = (0, 0); now = last } })

policy_found_row : found_alone (txt_of policy_name (string (codes "v=DMARC1; sp=x"))) (written true (codes "\"v=DMARC1; sp=x\"\n")) ≡ coded_rule Dmarc 3 ∷ coded_rule Dmarc 5 ∷ []
unfolding name_labels
policy_found_row = refl

key_found_row : found_alone (txt_of key_name (string (codes "p=MAMC; v=DKIM1"))) (written true (codes "\"p=MAMC; v=DKIM1\"\n")) ≡ coded_rule Dkim 0 ∷ coded_rule Dkim 4 ∷ []
unfolding name_labels
key_found_row = refl

-- `_dmarc TXT v=DMARC1; p=none` without quotes
policy_comment_row : found_alone (txt_of policy_name (string (codes "v=DMARC1"))) (written false (codes "v=DMARC1; p=none\n")) ≡ coded_rule CommentInData 0 ∷ []
unfolding name_labels
policy_comment_row = refl

-- `_dmarc TXT v=DMARC1 p=none` without quotes
policy_words_row : found_alone (txt_of policy_name (string (codes "v=DMARC1") ++ string (codes "p=none"))) (written false (codes "p=none\n")) ≡ coded_rule TxtWords 0 ∷ []
unfolding name_labels
policy_words_row = refl
