-- The state that a record leaves after it is read.
use Rattle.std.proofs.Common.{◌≡◌, ℕ, Bool, List, [], ◌++◌, Option, Some, None, Result, Ok, Err, refl, subst, ap, ◌∙◌}
use Rattle.std.specs.Prelude.{⊤}
use Rattle.dns_octets.specs.Room.{Room}
use Rattle.dns_lexer.specs.EntryTokens.{TokenSeen}
use Rattle.zone_reader.specs.Directives.{first_directive}
use Rattle.rdata_values.specs.declared.classes.Class.{Class}
use Rattle.rdata_values.specs.declared.error.ErrorKind.{ErrorKind}
use Rattle.rdata_values.specs.declared.types.RecordType.{RecordType}
use Rattle.zone_reader.specs.EntryMeanings.{EntryMeaning, says_nothing, says_origin, says_default_ttl, says_include, says_generate, says_record, says_refused}
use Rattle.zone_reader.specs.declared.directive.Directive.{Directive}
use Rattle.zone_reader.specs.declared.header.RecordHeader.{RecordHeader}
use Rattle.zone_reader.specs.declared.header.HeaderError.{HeaderError}
use Rattle.rdata_fields.specs.declared.record_error.RecordError.{RecordError}
use Rattle.rdata_fields.specs.Source.{next_place}
use Rattle.zone_reader.specs.EntryReading.{ReadsDataAfterHeader, ReadsMeaning, ReadsAfterHeader, ReadsZoneEntry, minimum_of_ttl, explicit_ttl_of, owner_of_record, record_with, declared_by_entry}
use Rattle.zone_reader.specs.Learning.{chosen_ttl}
use Rattle.zone_reader.specs.Past.{Declared, origin_declared, default_ttl_declared, ttl_declared, NoneDeclared, IsOriginAfter, no_origin_said, origin_said_last, StateAfter}
use Rattle.zone_reader.specs.declared.entry.ParsedEntry.{ParsedEntry}
use Rattle.zone_reader.specs.declared.entry.ParsedEntry.TheVariants.{Record}
use Rattle.zone_reader.specs.declared.known.NameState.{NameState}
use Rattle.zone_reader.specs.declared.state.State.{State}
use Rattle.zone_reader.specs.declared.ttl.RecordTtl.{RecordTtl}
use Rattle.zone_reader.specs.declared.ttl.RecordTtl.TheVariants.{Explicit, Default, Last, Minimum}
use Rattle.zone_reader.proofs.PastStates.{starts}
use Rattle.zone_reader.proofs.Pasts.{newer, not_both, silent_both, ttl_after, ttl_is}

-- the TTLs after a record, by where its own comes from
abbrev pub LeavesTtls : RecordTtl → State → State → Type 0
LeavesTtls (Explicit ttl) before after = (after.default_ttl ≡ before.default_ttl) × (after.last_ttl ≡ Some ttl)
LeavesTtls (Default ttl) before after = after.default_ttl ≡ Some ttl
LeavesTtls (Last ttl) before after = after.last_ttl ≡ Some ttl
LeavesTtls (Minimum ttl) before after = after.default_ttl ≡ Some ttl

pub record RecordLeaves (before : State) (ttl : RecordTtl) (after : State) : Type 0 where
  pub origin : after.origin ≡ before.origin
  pub class : after.class ≡ before.class
  pub ttls : LeavesTtls ttl before after

-- ---- where a TTL comes from

abbrev IsFrom : RecordTtl → Option ℕ → Option ℕ → Option ℕ → Type 0
IsFrom (Explicit ttl) own default last = own ≡ Some ttl
IsFrom (Default ttl) own default last = default ≡ Some ttl
IsFrom (Last ttl) own default last = (own ≡ None) × (last ≡ Some ttl)
IsFrom (Minimum ttl) own default last = ⊤

abbrev AreFrom : Option RecordTtl → Option ℕ → Option ℕ → Option ℕ → Type 0
AreFrom None own default last = ⊤
AreFrom (Some ttl) own default last = IsFrom ttl own default last

from_chosen : (own default last minimum : Option ℕ) → AreFrom (chosen_ttl own default last minimum) own default last
from_chosen (Some ttl) default last minimum = refl
from_chosen None (Some ttl) last minimum = refl
from_chosen None None (Some ttl) minimum = (refl, refl)
from_chosen None None None (Some ttl) = tt
from_chosen None None None None = tt

-- ---- what later entries inherit from a record

abbrev said_by : Option TokenSeen → Option ℕ → RecordTtl → List Declared
said_by token own ttl = owner_of_record token ++ (explicit_ttl_of own ++ minimum_of_ttl ttl)

quiet_owner : (token : Option TokenSeen) → NoneDeclared origin_declared (owner_of_record token)
quiet_owner None = tt
quiet_owner (Some t) = (refl, tt)

quiet_own : (own : Option ℕ) → NoneDeclared origin_declared (explicit_ttl_of own)
quiet_own None = tt
quiet_own (Some ttl) = (refl, tt)

quiet_minimum : (ttl : RecordTtl) → NoneDeclared origin_declared (minimum_of_ttl ttl)
quiet_minimum (Explicit n) = tt
quiet_minimum (Default n) = tt
quiet_minimum (Last n) = tt
quiet_minimum (Minimum n) = (refl, tt)

quiet : (token : Option TokenSeen) (own : Option ℕ) (ttl : RecordTtl) → NoneDeclared origin_declared (said_by token own ttl)
quiet token own ttl =
    silent_both origin_declared (owner_of_record token) (explicit_ttl_of own ++ minimum_of_ttl ttl) (quiet_owner token) (silent_both origin_declared (explicit_ttl_of own) (minimum_of_ttl ttl) (quiet_own own) (quiet_minimum ttl))

last_stays : (ttl : RecordTtl) (first : Option ℕ) → ttl_after ttl_declared first (minimum_of_ttl ttl) ≡ first
last_stays (Explicit n) first = refl
last_stays (Default n) first = refl
last_stays (Last n) first = refl
last_stays (Minimum n) first = refl

last_is : (token : Option TokenSeen) (own : Option ℕ) (ttl : RecordTtl) (first : Option ℕ) → ttl_after ttl_declared first (said_by token own ttl) ≡ newer own first
last_is None None ttl first = last_stays ttl first
last_is None (Some n) ttl first = last_stays ttl (Some n)
last_is (Some t) None ttl first = last_stays ttl first
last_is (Some t) (Some n) ttl first = last_stays ttl (Some n)

default_is : (token : Option TokenSeen) (own : Option ℕ) (ttl : RecordTtl) (first : Option ℕ) → ttl_after default_ttl_declared first (said_by token own ttl) ≡ ttl_after default_ttl_declared first (minimum_of_ttl ttl)
default_is None None ttl first = refl
default_is None (Some n) ttl first = refl
default_is (Some t) None ttl first = refl
default_is (Some t) (Some n) ttl first = refl

origin_kept : (start : State) (past : List Declared) (o : NameState) → IsOriginAfter start past o → NoneDeclared origin_declared past → o ≡ start.origin
origin_kept start past o (no_origin_said p q quiet is) still = is
origin_kept start past o (origin_said_last p q token last before was named) still = absurd (not_both origin_declared past token still last)

module _ (before after : State) (token : Option TokenSeen) (own : Option ℕ) where
  abbrev Defaults : RecordTtl → Type 0
  Defaults ttl = after.default_ttl ≡ ttl_after default_ttl_declared before.default_ttl (minimum_of_ttl ttl)

  ttls_left : (ttl : RecordTtl) → Defaults ttl → after.last_ttl ≡ newer own before.last_ttl → IsFrom ttl own before.default_ttl before.last_ttl → LeavesTtls ttl before after
  ttls_left (Explicit ttl) d l from = (d, l ∙ ap (λ o. newer o before.last_ttl) from)
  ttls_left (Default ttl) d l from = d ∙ from
  ttls_left (Last ttl) d l from = l ∙ ap (λ o. newer o before.last_ttl) from.0 ∙ from.1
  ttls_left (Minimum ttl) d l from = d

  leaves : (ttl : RecordTtl) → StateAfter before (said_by token own ttl) after → IsFrom ttl own before.default_ttl before.last_ttl → RecordLeaves before ttl after
  leaves ttl h from =
      let said : List Declared = said_by token own ttl in
      record {
        origin = origin_kept before said after.origin h.origin (quiet token own ttl);
        class = h.class;
        ttls = ttls_left ttl (ttl_is default_ttl_declared before.default_ttl said after.default_ttl h.default_ttl ∙ default_is token own ttl before.default_ttl)
            (ttl_is ttl_declared before.last_ttl said after.last_ttl h.last_ttl ∙ last_is token own ttl before.last_ttl) from;
      }

-- ---- a record that is read

module _ (room : Room) (blank : Bool) (end : ℕ) (tokens : List TokenSeen) (before after : State) (old new : List ℕ) (at data_at last : ℕ) (ttl : RecordTtl) (class : Class) (rtype : RecordType) where
  abbrev read : Result ParsedEntry RecordError
  read = Ok (Record at data_at last ttl class rtype)

  found_ttl : (place data_place end_place : ℕ) (w : RecordHeader) (c : Option RecordTtl) → read ≡ record_with before place data_place end_place w c → c ≡ Some ttl
  found_ttl place data_place end_place w None e = cc
  found_ttl place data_place end_place w (Some t) e = let same : t ≡ ttl = cc in ap Some same

  by_data : (place data_place : ℕ) (token : Option TokenSeen) (w : RecordHeader) (r : Result (Unit {0}) RecordError) → ReadsDataAfterHeader before place data_place end w old r new read → StateAfter before (said_by token w.ttl ttl) after → RecordLeaves before ttl after
  by_data place data_place token w (Err r) h known = cc
  by_data place data_place token w (Ok u) h known =
      let found = found_ttl place data_place end w (chosen_ttl w.ttl before.default_ttl before.last_ttl h.2.0) h.2.2 in
      leaves before after token w.ttl ttl known (subst (λ c. AreFrom c w.ttl before.default_ttl before.last_ttl) found (from_chosen w.ttl before.default_ttl before.last_ttl h.2.0))

  by_words : (place : ℕ) (token : Option TokenSeen) (first : Result (Unit {0}) RecordError) (words : Result RecordHeader HeaderError) (left : List TokenSeen) (d : Option (Result Directive ErrorKind)) → ReadsAfterHeader before room place end first words left old read new
      → StateAfter before (declared_by_entry d (says_record token words left) read) after → RecordLeaves before ttl after
  by_words place token (Err r) words left d h known = let no = h.0 in cc
  by_words place token (Ok u) (Err r) left d h known = let no = h.0 in cc
  by_words place token (Ok u) (Ok w) left d h known = by_data place (next_place left end) token w h.0 h.3 known

  by_meaning : (m : EntryMeaning) (d : Option (Result Directive ErrorKind)) (owner : NameState) → ReadsMeaning before room end tokens m old read owner new → StateAfter before (declared_by_entry d m read) after → RecordLeaves before ttl after
  by_meaning says_nothing d owner h known = let no = h.0 in cc
  by_meaning (says_origin t) d owner h known = let no = h.0.0 in cc
  by_meaning (says_default_ttl (Ok n)) d owner h known = let no = h.0 in cc
  by_meaning (says_default_ttl (Err r)) d owner h known = let no = h.0 in cc
  by_meaning (says_include file token) d owner h known = let no = h.1 in cc
  by_meaning says_generate d owner h known = let no = h.0 in cc
  by_meaning (says_record token words left) d owner h known = by_words _ token h.0 words left d h.2 known
  by_meaning (says_refused r) d owner h known = cc

  pub record_leaves : ReadsZoneEntry room blank end tokens before old read after new → RecordLeaves before ttl after
  record_leaves h = by_meaning h.meaning (first_directive blank tokens) after.owner h.reads (h.learns before [] (starts before))
