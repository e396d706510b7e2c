-- Owners of records for mail, by their labels.
use Rattle.std.proofs.Common.{ℕ, ◌≡◌, Bool, true, false, List, [], ◌∷◌, refl, sym, ap, ◌∙◌}
use Rattle.std.specs.Prelude.{◌&&◌, not, codes}
use Rattle.std.specs.List.{list_any}
use Rattle.dns_octets.specs.Lowered.{same_lowered}
use Rattle.record_rules.specs.Labels.{is_key_zone, name_labels, HasFirstLabel}
use Rattle.record_rules.specs.MailTexts.{is_key_owner, is_no_selector, is_policy_owner}

pub policy_label : (name label rest : List ℕ) → HasFirstLabel name label rest → is_policy_owner (name_labels name) ≡ same_lowered label (codes "_dmarc")
policy_label name label rest h = ap is_policy_owner h.labels

pub policy_none : (name : List ℕ) → name_labels name ≡ [] → is_policy_owner (name_labels name) ≡ false
policy_none name e = ap is_policy_owner e

pub key_label : (name label rest : List ℕ) → HasFirstLabel name label rest → is_key_owner (name_labels name) ≡ (not (is_no_selector label) && list_any is_key_zone (name_labels name))
key_label name label rest h = ap is_key_owner h.labels ∙ ap (λ labels. not (is_no_selector label) && list_any is_key_zone labels) (sym h.labels)

pub key_none : (name : List ℕ) → name_labels name ≡ [] → is_key_owner (name_labels name) ≡ false
key_none name e = ap is_key_owner e
