-- The rules that a TXT may break, by its owner.
use Rattle.std.proofs.Common.{ℕ, zero, suc, ◌≡◌, Bool, true, false, cond, Option, List, [], ◌∷◌, ◌++◌, refl, sym, ap, subst, ◌∙◌}
use Rattle.std.proofs.Math.Dec.{eqb-suc-zero, eqb-zero-suc}
use Rattle.std.specs.Prelude.{◌==◌, ◌&&◌, ◌||◌, not, codes}
use Rattle.std.specs.List.{filter, list_any}
use Rattle.dns_octets.specs.Lowered.{same_lowered}
use Rattle.std.proofs.lemmas.List.Elements.{filter-append}
use Rattle.finding_codes.specs.Rule.{coded_rule}
use Rattle.finding_codes.specs.declared.code.Code.{Code}
use Rattle.finding_codes.specs.declared.code.Code.TheVariants.{Dkim, Dmarc, Spf, SpfUnused}
use Rattle.finding_codes.specs.declared.rule.Rule.{Rule}
use Rattle.mail_texts.specs.Dkim.{has_bad_version, is_key_record, key_fault}
use Rattle.mail_texts.specs.Joined.{text_of_strings}
use Rattle.mail_texts.specs.Tags.{tag_parts}
use Rattle.rdata_fields.specs.declared.record_ref.RecordRef.{RecordRef}
use Rattle.rdata_values.specs.Rtype as Rtype
use Rattle.rdata_values.specs.declared.types.RecordType.{RecordType}
use Rattle.record_rules.specs.FoundAlone.{dkim_rules, dmarc_rules, first_rules, found_alone, key_rules, lone_rules, plain_rules, policy_rules, rules_of_text, spf_rules, text_rules, ListsRulesOf}
use Rattle.record_rules.specs.Labels.{is_key_zone, name_labels}
use Rattle.record_rules.specs.LoneRules.{begins_spf, breaks_alone, breaks_record_rule, has_bad_spf, has_unused_spf, is_cut_text}
use Rattle.record_rules.specs.MailTexts.{has_any_bad_key, has_bad_key, has_bad_policy, is_key_owner, is_policy_owner, is_short_text}
use Rattle.record_rules.specs.declared.written.Written.{Written}

-- ---- rules that are not broken

not_both : (a b : Bool) → a ≡ false → (a && b) ≡ false
not_both a b e = ap (λ c. c && b) e

not_second : (a b : Bool) → b ≡ false → (a && b) ≡ false
not_second true b e = e
not_second false b e = refl

no_fault : (is_record version : Bool) (fault : ℕ) → (is_record && (version || not (fault == 0))) ≡ false → (way : ℕ) → (is_record && cond (way == 0) version (fault == way)) ≡ false
no_fault false version fault e way = refl
no_fault true true fault e way = cc
no_fault true false zero e zero = refl
no_fault true false zero e (suc way) = ap (cond (suc way == 0) false) (eqb-zero-suc way) ∙ same_ends (suc way == 0)
  where
    same_ends : (b : Bool) → cond b false false ≡ false
    same_ends true = refl
    same_ends false = refl
no_fault true false (suc fault) e way = absurd_bool (sym (ap not (eqb-suc-zero fault)) ∙ e) (cond (way == 0) false (suc fault == way))
  where
    absurd_bool : true ≡ false → (b : Bool) → b ≡ false
    absurd_bool f true = f
    absurd_bool f false = refl

short_no_fault : (short is_record version : Bool) (fault : ℕ) → (short && (is_record && (version || not (fault == 0)))) ≡ false → (way : ℕ) → (short && (is_record && cond (way == 0) version (fault == way))) ≡ false
short_no_fault false is_record version fault e way = refl
short_no_fault true is_record version fault e way = no_fault is_record version fault e way

no_bad_key : (octets : List ℕ) → has_any_bad_key octets ≡ false → (way : ℕ) → has_bad_key way octets ≡ false
no_bad_key octets e way =
    short_no_fault (is_short_text octets) (is_key_record (tag_parts (text_of_strings octets))) (has_bad_version (text_of_strings octets)) (key_fault (tag_parts (text_of_strings octets))) e way

skip : (p : Rule → Bool) (x : Rule) (xs : List Rule) → p x ≡ false → filter p xs ≡ [] → filter p (x ∷ xs) ≡ []
skip p x xs e h = ap (λ b. cond b (x ∷ filter p xs) (filter p xs)) e ∙ h

none_of : (p : Rule → Bool) (code : Code) → ((way : ℕ) → p (coded_rule code way) ≡ false)
    → filter p (coded_rule code 0 ∷ coded_rule code 1 ∷ coded_rule code 2 ∷ coded_rule code 3 ∷ coded_rule code 4 ∷ coded_rule code 5 ∷ []) ≡ []
none_of p code e =
    skip p (coded_rule code 0) (coded_rule code 1 ∷ coded_rule code 2 ∷ coded_rule code 3 ∷ coded_rule code 4 ∷ coded_rule code 5 ∷ []) (e 0)
    (skip p (coded_rule code 1) (coded_rule code 2 ∷ coded_rule code 3 ∷ coded_rule code 4 ∷ coded_rule code 5 ∷ []) (e 1)
    (skip p (coded_rule code 2) (coded_rule code 3 ∷ coded_rule code 4 ∷ coded_rule code 5 ∷ []) (e 2)
    (skip p (coded_rule code 3) (coded_rule code 4 ∷ coded_rule code 5 ∷ []) (e 3)
    (skip p (coded_rule code 4) (coded_rule code 5 ∷ []) (e 4)
    (skip p (coded_rule code 5) [] (e 5) refl)))))

-- ---- lists

nil_end : {X : Type 0} (xs : List X) → xs ++ [] ≡ xs
nil_end [] = refl
nil_end (x ∷ xs) = ap (λ l. x ∷ l) (nil_end xs)

-- what a TXT breaks
abbrev breaks : List ℕ → List ℕ → Option Written → Rule → Bool
breaks owner octets text rule = breaks_alone rule.code rule.way owner Rtype.txt octets text

parts : (p : Rule → Bool) → filter p lone_rules ≡ filter p first_rules ++ (filter p dmarc_rules ++ filter p dkim_rules)
parts p = filter-append p first_rules (dmarc_rules ++ dkim_rules) ∙ ap (λ l. filter p first_rules ++ l) (filter-append p dmarc_rules dkim_rules)

no_policy : (owner octets : List ℕ) (text : Option Written) → is_policy_owner (name_labels owner) ≡ false → filter (breaks owner octets text) dmarc_rules ≡ []
no_policy owner octets text e = none_of (breaks owner octets text) Dmarc (λ way. not_both (is_policy_owner (name_labels owner)) (not (is_cut_text octets text) && has_bad_policy way octets) e)

no_key : (owner octets : List ℕ) (text : Option Written) → is_key_owner (name_labels owner) ≡ false → filter (breaks owner octets text) dkim_rules ≡ []
no_key owner octets text e = none_of (breaks owner octets text) Dkim (λ way. not_both (is_key_owner (name_labels owner)) (not (is_cut_text octets text) && has_bad_key way octets) e)

no_fault_key : (owner octets : List ℕ) (text : Option Written) → has_any_bad_key octets ≡ false → filter (breaks owner octets text) dkim_rules ≡ []
no_fault_key owner octets text e =
    none_of (breaks owner octets text) Dkim
    (λ way. not_second (is_key_owner (name_labels owner)) (not (is_cut_text octets text) && has_bad_key way octets) (not_second (not (is_cut_text octets text)) (has_bad_key way octets) (no_bad_key octets e way)))

no_spf : (owner octets : List ℕ) (text : Option Written) → begins_spf octets ≡ false → filter (breaks owner octets text) spf_rules ≡ []
no_spf owner octets text e =
    skip (breaks owner octets text) (coded_rule Spf 0) (coded_rule Spf 1 ∷ coded_rule Spf 2 ∷ coded_rule SpfUnused 0 ∷ coded_rule SpfUnused 1 ∷ []) (not_both (begins_spf octets) (not (is_cut_text octets text) && has_bad_spf 0 octets) e)
    (skip (breaks owner octets text) (coded_rule Spf 1) (coded_rule Spf 2 ∷ coded_rule SpfUnused 0 ∷ coded_rule SpfUnused 1 ∷ []) (not_both (begins_spf octets) (not (is_cut_text octets text) && has_bad_spf 1 octets) e)
    (skip (breaks owner octets text) (coded_rule Spf 2) (coded_rule SpfUnused 0 ∷ coded_rule SpfUnused 1 ∷ []) (not_both (begins_spf octets) (not (is_cut_text octets text) && has_bad_spf 2 octets) e)
    (skip (breaks owner octets text) (coded_rule SpfUnused 0) (coded_rule SpfUnused 1 ∷ []) (not_both (begins_spf octets) (not (is_cut_text octets text) && has_unused_spf 0 octets) e)
    (skip (breaks owner octets text) (coded_rule SpfUnused 1) [] (not_both (begins_spf octets) (not (is_cut_text octets text) && has_unused_spf 1 octets) e) refl))))

plain : (owner octets : List ℕ) (text : Option Written) (is_spf : Bool) → begins_spf octets ≡ is_spf
    → filter (breaks owner octets text) first_rules ≡ filter (breaks owner octets text) (cond is_spf text_rules plain_rules)
plain owner octets text true e = refl
plain owner octets text false e =
    filter-append (breaks owner octets text) plain_rules spf_rules ∙ ap (λ l. filter (breaks owner octets text) plain_rules ++ l) (no_spf owner octets text e) ∙ nil_end (filter (breaks owner octets text) plain_rules)

neither : (a b c d : List Rule) → b ≡ [] → c ≡ [] → a ≡ d → a ++ (b ++ c) ≡ d
neither a b c d eb ec e = ap (λ l. a ++ (l ++ c)) eb ∙ ap (λ l. a ++ l) ec ∙ nil_end a ∙ e

by_owner : (owner octets : List ℕ) (text : Option Written) (is_policy is_key is_bad is_spf : Bool) → is_policy_owner (name_labels owner) ≡ is_policy → is_key_owner (name_labels owner) ≡ is_key → has_any_bad_key octets ≡ is_bad → begins_spf octets ≡ is_spf
    → (is_policy ≡ true → is_key ≡ false)
    → filter (breaks owner octets text) first_rules ++ (filter (breaks owner octets text) dmarc_rules ++ filter (breaks owner octets text) dkim_rules)
    ≡ filter (breaks owner octets text) (cond is_policy policy_rules (cond (is_key && is_bad) key_rules (cond is_spf text_rules plain_rules)))
by_owner owner octets text true is_key is_bad is_spf policy key bad spf other =
    ap (λ l. filter (breaks owner octets text) first_rules ++ (filter (breaks owner octets text) dmarc_rules ++ l)) (no_key owner octets text (key ∙ other refl))
    ∙ ap (λ l. filter (breaks owner octets text) first_rules ++ l) (nil_end (filter (breaks owner octets text) dmarc_rules))
    ∙ sym (filter-append (breaks owner octets text) text_rules dmarc_rules)
by_owner owner octets text false true true is_spf policy key bad spf other =
    ap (λ l. filter (breaks owner octets text) first_rules ++ (l ++ filter (breaks owner octets text) dkim_rules)) (no_policy owner octets text policy) ∙ sym (filter-append (breaks owner octets text) text_rules dkim_rules)
by_owner owner octets text false true false is_spf policy key bad spf other =
    neither (filter (breaks owner octets text) first_rules) (filter (breaks owner octets text) dmarc_rules) (filter (breaks owner octets text) dkim_rules) (filter (breaks owner octets text) (cond is_spf text_rules plain_rules)) (no_policy owner octets text policy) (no_fault_key owner octets text bad) (plain owner octets text is_spf spf)
by_owner owner octets text false false is_bad is_spf policy key bad spf other =
    neither (filter (breaks owner octets text) first_rules) (filter (breaks owner octets text) dmarc_rules) (filter (breaks owner octets text) dkim_rules) (filter (breaks owner octets text) (cond is_spf text_rules plain_rules)) (no_policy owner octets text policy) (no_key owner octets text key) (plain owner octets text is_spf spf)

no_selector : (a b c d more : Bool) → d ≡ true → (not (a || (b || (c || d))) && more) ≡ false
no_selector true b c d more e = refl
no_selector false true c d more e = refl
no_selector false false true d more e = refl
no_selector false false false true more e = refl
no_selector false false false false more e = cc

policy_is_no_key : (labels : List (List ℕ)) → is_policy_owner labels ≡ true → is_key_owner labels ≡ false
policy_is_no_key [] e = cc
policy_is_no_key (label ∷ labels) e =
    no_selector (is_key_zone label) (same_lowered label (codes "_adsp")) (same_lowered label (codes "_report")) (same_lowered label (codes "_dmarc")) (list_any is_key_zone (label ∷ labels)) e

pub text_lists : (r : RecordRef) → r.rtype ≡ Rtype.txt → ListsRulesOf r (rules_of_text r.owner.now r.data.now)
text_lists r e =
    λ text. subst (λ rtype. filter (λ rule. breaks_alone rule.code rule.way r.owner.now rtype r.data.now text) (rules_of_text r.owner.now r.data.now) ≡ filter (λ rule. breaks_alone rule.code rule.way r.owner.now rtype r.data.now text) lone_rules) (sym e)
    (sym (parts (breaks r.owner.now r.data.now text) ∙ by_owner r.owner.now r.data.now text (is_policy_owner (name_labels r.owner.now)) (is_key_owner (name_labels r.owner.now)) (has_any_bad_key r.data.now) (begins_spf r.data.now) refl refl refl refl (policy_is_no_key (name_labels r.owner.now))))
