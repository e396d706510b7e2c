-- Findings of a record, part by part.
use Rattle.std.proofs.Common.{◌≡◌, ℕ, zero, suc, ◌-◌, ◌==◌, ◌≤◌, ◌<◌, Bool, true, false, List, [], ◌∷◌, ◌++◌, Option, Some, None, map, length, get_or, slice_get, if◌then◌else◌, Result, refl, sym, ap, ◌∙◌, subst, arith, eqb-true}
use Rattle.dns_lexer.specs.EntryTokens.{TokenSeen, token_seen}
use Rattle.dns_lexer.specs.declared.entry_tokens.EntryToken.{EntryToken}
use Rattle.rdata_values.specs.declared.error.ErrorKind.{ErrorKind}
use Rattle.zone_reader.specs.Directives.{directive_of}
use Rattle.zone_reader.specs.declared.directive.Directive.{Directive}
use Rattle.finding_codes.specs.declared.rule.Rule.{Rule}
use Rattle.finding_codes.specs.declared.code.Code.TheVariants.{RelativeOrigin}
use Rattle.zone_check.specs.declared.finding.About.TheVariants.{RuleAtToken, RuleOfRecord, Token}
use Rattle.zone_check.specs.declared.finding.EntryFinding.{EntryFinding}
use Rattle.zone_check.specs.DirectiveFindings.{IsDirectiveFinding, IsFindingOfWord, directive_named_by, relative_name_finding, relative_origin_finding}
use Rattle.zone_check.specs.FindingSpans.{finding_of_entry, finding_of_token}
use Rattle.zone_check.specs.NameFindings.{is_generic_token, own_owner}
use Rattle.zone_check.specs.Names.{ends_in_dot}
use Rattle.zone_check.specs.RuleFindings.{finding_at_rule, has_no_fields, last_offset, token_offset, token_with_index}
use Rattle.zone_check.proofs.TokenLists.{seen_at, seen_last, seen_none}

-- ---- the owner

pub some_tokens : (n : ℕ) → (n == 0) ≡ false → 0 < n
some_tokens zero h = absurd (let e : true ≡ false = h in cc)
some_tokens (suc n) h = omega arith

pub none_if_blank : (b : Bool) (tokens : List EntryToken) → b ≡ true → own_owner b (map token_seen tokens) ≡ None
none_if_blank true tokens h = refl
none_if_blank false tokens h = cc

pub none_if_empty : (b : Bool) (tokens : List EntryToken) → (length tokens == 0) ≡ true → own_owner b (map token_seen tokens) ≡ None
none_if_empty true tokens h = refl
none_if_empty false [] h = refl
none_if_empty false (t ∷ tokens) h = absurd (let e = eqb-true (length (t ∷ tokens)) 0 h in omega (arith, e))

pub its_owner : (b : Bool) (tokens : List EntryToken) (d : EntryToken) → b ≡ false → (length tokens == 0) ≡ false → own_owner b (map token_seen tokens) ≡ Some (token_seen (get_or tokens 0 d))
its_owner true tokens d h some = cc
its_owner false [] d h some = absurd (let e : true ≡ false = some in cc)
its_owner false (t ∷ tokens) d h some = refl

-- ---- the fields of RDATA

pub no_fields : (words : List EntryToken) → (length words == 0) ≡ true → has_no_fields (map token_seen words) ≡ true
no_fields [] h = refl
no_fields (t ∷ words) h = absurd (let e = eqb-true (length (t ∷ words)) 0 h in omega (arith, e))

none_either : (b : Bool) (o : Option TokenSeen) → o ≡ None → (if b then None else o) ≡ None
none_either true o h = refl
none_either false o h = h

pub has_fields : (words : List EntryToken) (d : EntryToken) → 0 < length words → has_no_fields (map token_seen words) ≡ is_generic_token (token_seen (get_or words 0 d))
has_fields [] d lt = absurd (omega (arith, lt))
has_fields (t ∷ words) d lt = refl

pub last_offset_of : (words : List EntryToken) (d : EntryToken) → 0 < length words → last_offset (map token_seen words) ≡ (get_or words (length words - 1) d).at
last_offset_of words d lt = ap token_offset (seen_last words d lt)

pub beyond_fields : (words : List EntryToken) (i : ℕ) → length words ≤ i → token_with_index (map token_seen words) i ≡ None
beyond_fields words i end = none_either (has_no_fields (map token_seen words)) (slice_get (map token_seen words) i) (seen_none words i end)

pub without_fields : (words : List EntryToken) (i : ℕ) → has_no_fields (map token_seen words) ≡ true → token_with_index (map token_seen words) i ≡ None
without_fields words i h = ap (λ b. if b then None else slice_get (map token_seen words) i) h

pub with_field : (words : List EntryToken) (i : ℕ) (d : EntryToken) → has_no_fields (map token_seen words) ≡ false → i < length words → token_with_index (map token_seen words) i ≡ Some (token_seen (get_or words i d))
with_field words i d h lt = ap (λ b. if b then None else slice_get (map token_seen words) i) h ∙ seen_at words i d lt

-- ---- where a rule is broken

module _ (rule : Rule) (tokens words : List EntryToken) where
  pub at_record : (f : EntryFinding) (o : Option TokenSeen) → f ≡ finding_of_entry rule.code (RuleOfRecord rule) (map token_seen tokens) → o ≡ None → f ≡ finding_at_rule rule (map token_seen tokens) o
  at_record f o is none = is ∙ sym (ap (finding_at_rule rule (map token_seen tokens)) none)

  at_token : (f : EntryFinding) (t : TokenSeen) (o : Option TokenSeen) → f ≡ finding_of_token rule.code (RuleAtToken rule) t → o ≡ Some t → f ≡ finding_at_rule rule (map token_seen tokens) o
  at_token f t o is some = is ∙ sym (ap (finding_at_rule rule (map token_seen tokens)) some)

  pub at_owner : (f : EntryFinding) (d : EntryToken) (b : Bool) → f ≡ finding_of_token rule.code (RuleAtToken rule) (token_seen (get_or tokens 0 d)) → b ≡ false → (length tokens == 0) ≡ false
      → f ≡ finding_at_rule rule (map token_seen tokens) (own_owner b (map token_seen tokens))
  at_owner f d b is own some = at_token f (token_seen (get_or tokens 0 d)) (own_owner b (map token_seen tokens)) is (its_owner b tokens d own some)

  pub at_field : (f : EntryFinding) (i : ℕ) (d e : EntryToken) → f ≡ finding_of_token rule.code (RuleAtToken rule) (token_seen (get_or words i d)) → i < length words → is_generic_token (token_seen (get_or words 0 e)) ≡ false
      → f ≡ finding_at_rule rule (map token_seen tokens) (token_with_index (map token_seen words) i)
  at_field f i d e is lt plain =
      at_token f (token_seen (get_or words i d)) (token_with_index (map token_seen words) i) is (with_field words i d (has_fields words e (omega (arith, lt)) ∙ plain) lt)

-- ---- directives

module _ (tokens : List EntryToken) (i : ℕ) (d : EntryToken) (lt : i < length tokens) (b : Bool) (dotted : b ≡ ends_in_dot (get_or tokens i d).text.now) where
  relative_by : relative_origin_finding (map token_seen tokens) i ≡ (if b then None else Some (finding_of_token RelativeOrigin Token (token_seen (get_or tokens i d))))
  relative_by = ap relative_name_finding (seen_at tokens i d lt) ∙ ap (λ x. if x then None else Some (finding_of_token RelativeOrigin Token (token_seen (get_or tokens i d)))) (sym dotted)

  pub absolute_origin : b ≡ true → None ≡ relative_origin_finding (map token_seen tokens) i
  absolute_origin e = sym (relative_by ∙ ap (λ x. if x then None else Some (finding_of_token RelativeOrigin Token (token_seen (get_or tokens i d)))) e)

  pub relative_origin : (f : EntryFinding) → b ≡ false → f ≡ finding_of_token RelativeOrigin Token (token_seen (get_or tokens i d)) → Some f ≡ relative_origin_finding (map token_seen tokens) i
  relative_origin f e is = ap Some is ∙ sym (relative_by ∙ ap (λ x. if x then None else Some (finding_of_token RelativeOrigin Token (token_seen (get_or tokens i d)))) e)

pub no_origin_token : (tokens : List EntryToken) (i : ℕ) → length tokens ≤ i → None ≡ relative_origin_finding (map token_seen tokens) i
no_origin_token tokens i end = sym (ap relative_name_finding (seen_none tokens i end))

pub no_directive : (tokens : List EntryToken) → (length tokens == 0) ≡ true → IsDirectiveFinding tokens None
no_directive [] h = refl
no_directive (t ∷ tokens) h = absurd (let e = eqb-true (length (t ∷ tokens)) 0 h in omega (arith, e))

pub directive_by : (tokens : List EntryToken) (d : EntryToken) (x : Option (Result Directive ErrorKind)) (r : Option EntryFinding) → (length tokens == 0) ≡ false → x ≡ directive_of (token_seen (get_or tokens 0 d))
    → IsFindingOfWord x tokens r → IsDirectiveFinding tokens r
directive_by tokens d x r some is h = subst (λ y. IsFindingOfWord y tokens r) (is ∙ sym (ap directive_named_by (seen_at tokens 0 d (some_tokens (length tokens) some)))) h

-- ---- lists that are appended one after another

pub four_appended : {X : Type 0} (x0 x1 x2 x3 x4 a b c d : List X) → x1 ≡ x0 ++ a → x2 ≡ x1 ++ b → x3 ≡ x2 ++ c → x4 ≡ x3 ++ d → x4 ≡ x0 ++ a ++ b ++ c ++ d
four_appended x0 x1 x2 x3 x4 a b c d e1 e2 e3 e4 = e4 ∙ ap (λ l. l ++ d) (e3 ∙ ap (λ l. l ++ c) (e2 ∙ ap (λ l. l ++ b) e1))
