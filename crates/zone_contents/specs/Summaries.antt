-- What the records of a zone have in common.
use Rattle.std.specs.Prelude.{◌≡◌, ◌==◌, ◌||◌, not, true, false, All, List, length}
use Rattle.std.specs.List.{list_any}
use Rattle.rdata_values.specs.Classes.{internet}
use Rattle.rdata_values.specs.Rtype as Rtype
use Rattle.zone_record.specs.declared.record.Record.{Record}
use Rattle.zone_contents.specs.declared.summary.Summary.{Summary}
use Rattle.zone_rules.specs.Above.{is_wildcard}
use Rattle.zone_rules.specs.Zones.{has_type_among, type_of}

-- of no records
abbrev pub no_summary : Summary
no_summary = record { has_dname = false; has_wildcard = false; is_empty = true; has_classes = false; class = internet }

-- of one more record
abbrev pub summary_with : {N O : Type 0} → Summary → Record N O → Summary
summary_with s r = record {
  has_dname = s.has_dname || type_of r == Rtype.dname;
  has_wildcard = s.has_wildcard || is_wildcard r.owner;
  is_empty = false;
  has_classes = s.has_classes || not (s.is_empty || s.class == r.class);
  class = r.class;
}

-- whether one is a DNAME, whether one is at a wildcard, whether there is none, and the class of all unless they are of several
pub record IsSummary {N O : Type 0} (records : List (Record N O)) (s : Summary) : Type 0 where
  pub dname : s.has_dname ≡ has_type_among Rtype.dname records
  pub wildcard : s.has_wildcard ≡ list_any (λ r. is_wildcard r.owner) records
  pub empty : s.is_empty ≡ true → length records ≡ 0
  pub classes : s.has_classes ≡ false → All (λ r. r.class ≡ s.class) records
