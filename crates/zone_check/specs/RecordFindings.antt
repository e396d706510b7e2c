-- What looks like a slip in a record.
use Rattle.std.specs.Prelude.{ℕ, ◌≡◌, List, [], ◌∷◌, ◌++◌, map}
use Rattle.dns_lexer.specs.EntryTokens.{token_seen}
use Rattle.dns_lexer.specs.declared.entry_tokens.EntryToken.{EntryToken}
use Rattle.rdata_fields.specs.declared.record_ref.RecordRef.{RecordRef}
use Rattle.zone_check.specs.declared.finding.EntryFinding.{EntryFinding}
use Rattle.zone_check.specs.declared.record_findings.RecordContext.{RecordContext}
use Rattle.zone_check.specs.declared.rule_findings.RuleContext.{RuleContext}
use Rattle.zone_check.specs.declared.value_findings.RecordValues.{RecordValues}
use Rattle.zone_check.specs.EntryWords.{AreDataTokens}
use Rattle.zone_check.specs.NameFindings.{name_findings, own_owner, record_names}
use Rattle.zone_check.specs.RuleFindings.{AreRuleFindings}
use Rattle.zone_check.specs.ValueFindings.{AreValueFindings, IsClassFinding}

-- its names
abbrev pub AreNameFindings : RecordRef → (origin : List ℕ) → RecordContext → List EntryToken → (before after : List EntryFinding) → Type 0
AreNameFindings r origin c tokens before after =
    (words : List EntryToken) × AreDataTokens c.begins_blank tokens words
    × (after ≡ before ++ name_findings origin c.origin.assumes_root c.origin.is_reported (record_names r.rtype (own_owner c.begins_blank (map token_seen tokens)) (map token_seen words)))

abbrev pub record_values : RecordRef → RecordContext → RecordValues
record_values r c = record { ttl = c.ttl; rtype = r.rtype; max_ttl = c.max_ttl; begins_blank = c.begins_blank }

abbrev pub rule_context : RecordContext → RuleContext
rule_context c = record { begins_blank = c.begins_blank; is_below_root = c.is_below_root }

-- of the zone's class: its TTL and its RDATA, and then the rules that it alone breaks
abbrev pub AreSameClassFindings : RecordRef → List ℕ → RecordContext → List EntryToken → (before after : List EntryFinding) → Type 0
AreSameClassFindings r octets c tokens before after =
    (valued : List EntryFinding) × AreValueFindings (record_values r c) r.data.now tokens before valued × AreRuleFindings r octets (rule_context c) tokens valued after

-- of another class: that alone
abbrev pub AreOtherClassFindings : RecordContext → List EntryToken → (before after : List EntryFinding) → Type 0
AreOtherClassFindings c tokens before after = (f : EntryFinding) × IsClassFinding c.begins_blank tokens f × (after ≡ before ++ f ∷ [])

-- the names come first
pub record AreRecordFindings (r : RecordRef) (octets origin : List ℕ) (c : RecordContext) (tokens : List EntryToken) (before after : List EntryFinding) : Type 0 where
  pub named : List EntryFinding
  pub names : AreNameFindings r origin c tokens before named
  pub same_class : r.class ≡ c.class → AreSameClassFindings r octets c tokens named after
  pub other_class : (r.class ≡ c.class → ⊥) → AreOtherClassFindings c tokens named after
