-- Facts about the last name.
use Rattle.std.proofs.Common.{◌≡◌, Option, Some, None, List, ℕ, sym, subst, ◌∙◌}
use Rattle.dns_wire.specs.Labelled.{wire_same}
use Rattle.dns_wire.specs.Wire.{wire}
use Rattle.zone_record.specs.declared.record.Record.{Record}
use Rattle.zone_dnssec.specs.Subjects.{AreFactsOf, AreOwnerFacts, IsKnown, IsLastFact}
use Rattle.zone_dnssec.specs.declared.sets.KnownOwner.{KnownOwner}
use Rattle.zone_dnssec.specs.declared.subject.OwnerFacts.{OwnerFacts}

module _ {N O : Type 0} (origin : List (List ℕ)) (records : List (Record N O)) where
  pub last_facts : (last : Option KnownOwner) (octets : List ℕ) (facts : OwnerFacts) (name : List (List ℕ)) → IsKnown origin records last → IsLastFact last octets facts → octets ≡ wire name
      → AreOwnerFacts origin records name facts
  last_facts None octets facts name k h e = absurd h
  last_facts (Some known) octets facts name k h e = subst (AreOwnerFacts origin records name) h.1 (k name (h.0 ∙ e))

  pub facts_of_copy : (copy octets : List ℕ) (name : List (List ℕ)) (facts : OwnerFacts) → copy ≡ octets → octets ≡ wire name → AreOwnerFacts origin records name facts → AreFactsOf origin records copy facts
  facts_of_copy copy octets name facts c e h other f = subst (λ n. AreOwnerFacts origin records n facts) (wire_same name other (sym e ∙ sym c ∙ f)) h
