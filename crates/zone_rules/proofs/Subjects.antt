-- Records that a zone lends, with their octets in other types, and the rules of their hosts.
use Rattle.std.proofs.Common.{ℕ, zero, suc, ◌≡◌, ◌+◌, ◌-◌, ◌<◌, ◌≤◌, ◌⊎◌, inl, inr, Bool, true, false, Option, Some, None, List, [], ◌∷◌, length, get_or, refl, sym, ap, ◌∙◌, arith}
use Rattle.std.specs.Prelude.{◌==◌, ◌&&◌, not, option_and_then, slice_get}
use Rattle.std.specs.List.{AllWithin, list_any}
use Rattle.std.specs.Option.{option_map, option_map_or}
use Rattle.std.proofs.lemmas.Bool.{cases_lt, false≢true, or_left, or_right}
use Rattle.std.proofs.lemmas.Option.{slice_get-get_or}
use Rattle.finding_codes.specs.declared.code.Code.{Code}
use Rattle.finding_codes.specs.declared.code.Code.TheVariants.{Outside, TwoSoas, NsAddress, Cname, BelowDname, WildcardNs, SoaNotApex, NsBesideDname, KeyBesideCname, HostName, DsWithoutNs, NotAtApex, KeyProtocol, KeyAlgorithm, CnameTargetMissing, CnameLoop, TwoSpf, WeakDigest, SingleNs, TtlDiffers, Duplicate, Dname, DsApex, Nsec3Wildcard, Glue, TargetCname, TargetMissing, Cds, CdsDelete, NullMx, ZonemdSerial, TlsaHost, SvcbAlias}
use Rattle.finding_codes.specs.declared.rule.Rule.{Rule}
use Rattle.rdata_values.specs.Classes.{internet}
use Rattle.rdata_values.specs.Rtype as Rtype
use Rattle.zone_record.specs.declared.record.Record.{Record}
use Rattle.dns_wire.specs.Order.{same_name}
use Rattle.zone_rules.specs.Above.{is_below, is_within}
use Rattle.zone_rules.specs.Findings.{breaks_at}
use Rattle.zone_rules.specs.Present.{has_address_in}
use Rattle.zone_rules.specs.Rules.{algorithm_of, are_one_octet, breaks, breaks_in_way, has_serial_of, is_alias, is_alias_mode, is_below_own_dname, is_beside_aliases, is_delete_request, is_for_parent, is_missing, is_of_sha1, are_of_one_key, is_record_at_apex, is_without_glue, lacks_address, names_host}
use Rattle.zone_rules.specs.Searches.{AreOwnedFrom}
use Rattle.zone_rules.specs.Spf.{is_spf}
use Rattle.zone_rules.specs.Subjects.{alike, is_apex_server, is_server_above, relates, wants_host, AreHostFaults, IsSubject}
use Rattle.zone_rules.specs.Zones.{as_listed, comes_before, host_of, is_equal_record, record_before, type_of}
use Rattle.zone_rules.specs.declared.beside.Relation.{Relation}
use Rattle.zone_rules.specs.declared.beside.Relation.TheVariants.{Alias, Spf, Digest, Sha1, SameType, OtherSerial, Service, KeyRequest, KeyOfAlgorithm}
use Rattle.zone_rules.specs.declared.refused.RrsetName.{RrsetName}
use Rattle.zone_rules.specs.declared.subject.HostFaults.{HostFaults}
use Rattle.zone_rules.specs.declared.subject.Subject.{Subject}
use Rattle.zone_rules.proofs.ByType.{breaks_alike}
use Rattle.zone_rules.proofs.Searches.{none_passes}

pub some_same : {X : Type 0} (x y : X) → Some x ≡ Some y → x ≡ y
some_same x y h = cc

-- ---- a record breaks the rules that it breaks in the list

listed_in_way : {N O : Type 0} (R S : Type 0) (code : Code) (way : ℕ) (origin : List (List ℕ)) (records : List (Record N O)) (refused : List RrsetName) (before : Option (Record N O)) (r : Record N O)
    → breaks_in_way {M = R} {P = S} code way origin records refused (option_map as_listed before) (as_listed r) ≡ breaks_in_way code way origin records refused before r
listed_in_way R S Outside way origin records refused before r = refl
listed_in_way R S TwoSoas way origin records refused None r = refl
listed_in_way R S TwoSoas way origin records refused (Some b) r = refl
listed_in_way R S NsAddress way origin records refused before r = refl
listed_in_way R S Cname way origin records refused before r = refl
listed_in_way R S Dname way origin records refused None r = refl
listed_in_way R S Dname way origin records refused (Some b) r = refl
listed_in_way R S BelowDname way origin records refused before r = refl
listed_in_way R S DsApex way origin records refused before r = refl
listed_in_way R S WildcardNs way origin records refused before r = refl
listed_in_way R S SoaNotApex way origin records refused before r = refl
listed_in_way R S NsBesideDname way origin records refused before r = refl
listed_in_way R S KeyBesideCname way origin records refused before r = refl
listed_in_way R S Nsec3Wildcard way origin records refused before r = refl
listed_in_way R S Glue way origin records refused before r = refl
listed_in_way R S TargetCname way origin records refused before r = refl
listed_in_way R S TargetMissing way origin records refused before r = refl
listed_in_way R S HostName way origin records refused before r = refl
listed_in_way R S Cds way origin records refused before r = refl
listed_in_way R S CdsDelete way origin records refused before r = refl
listed_in_way R S DsWithoutNs way origin records refused before r = refl
listed_in_way R S NotAtApex way origin records refused before r = refl
listed_in_way R S KeyProtocol way origin records refused before r = refl
listed_in_way R S KeyAlgorithm way origin records refused before r = refl
listed_in_way R S CnameTargetMissing way origin records refused before r = refl
listed_in_way R S CnameLoop way origin records refused before r = refl
listed_in_way R S TwoSpf way origin records refused before r = refl
listed_in_way R S WeakDigest way origin records refused before r = refl
listed_in_way R S SingleNs way origin records refused before r = refl
listed_in_way R S NullMx way origin records refused before r = refl
listed_in_way R S ZonemdSerial way origin records refused before r = refl
listed_in_way R S TlsaHost way origin records refused before r = refl
listed_in_way R S SvcbAlias way origin records refused before r = refl
listed_in_way R S TtlDiffers way origin records refused None r = refl
listed_in_way R S TtlDiffers way origin records refused (Some b) r = refl
listed_in_way R S Duplicate way origin records refused None r = refl
listed_in_way R S Duplicate way origin records refused (Some b) r = refl
listed_in_way R S _ way origin records refused before r = refl

breaks_listed : {N O : Type 0} (R S : Type 0) (rule : Rule) (origin : List (List ℕ)) (records : List (Record N O)) (refused : List RrsetName) (before : Option (Record N O)) (r : Record N O)
    → breaks {M = R} {P = S} rule origin records refused (option_map as_listed before) (as_listed r) ≡ breaks rule origin records refused before r
breaks_listed R S rule origin records refused before r = listed_in_way R S rule.code rule.way origin records refused before r

broken_in : {N O R S : Type 0} (rule : Rule) (origin : List (List ℕ)) (records : List (Record N O)) (refused : List RrsetName) (before : Option (Record R S)) (found : Record R S) (place : ℕ) (o : Option (Record N O))
    → Some found ≡ option_map as_listed o → before ≡ option_map as_listed (option_and_then (λ r. option_and_then (alike r) (record_before records place)) o)
    → breaks rule origin records refused before found ≡ option_map_or (breaks rule origin records refused (record_before records place)) o false
broken_in rule origin records refused before found place None e f = cc
broken_in rule origin records refused before found place (Some r) e f =
    let is : found ≡ as_listed r = some_same found (as_listed r) e in
    (λ i. breaks rule origin records refused (f i) (is i)) ∙ breaks_listed _ _ rule origin records refused (option_and_then (alike r) (record_before records place)) r
    ∙ breaks_alike rule origin records refused (record_before records place) r

pub broken_at : {N O : Type 0} (rule : Rule) (origin : List (List ℕ)) (records : List (Record N O)) (refused : List RrsetName) (s : Subject) → IsSubject origin records refused s
    → breaks rule origin records refused s.before s.found ≡ breaks_at origin records refused s.place rule
broken_at rule origin records refused s h = broken_in rule origin records refused s.before s.found s.place (slice_get records s.place) h.found h.before

-- ---- other records at a record's owner

listed_related : {N O M P : Type 0} (R S : Type 0) (relation : Relation) (one : Record M P) (o : Option (Record N O))
    → option_map_or (relates {N = R} {O = S} relation one) (option_map as_listed o) false ≡ option_map_or (relates relation one) o false
listed_related R S relation one None = refl
listed_related R S Alias one (Some r) = refl
listed_related R S Spf one (Some r) = refl
listed_related R S Digest one (Some r) = refl
listed_related R S Sha1 one (Some r) = refl
listed_related R S SameType one (Some r) = refl
listed_related R S OtherSerial one (Some r) = refl
listed_related R S Service one (Some r) = refl
listed_related R S KeyRequest one (Some r) = refl
listed_related R S KeyOfAlgorithm one (Some r) = refl

pub related_listed : {N O M P R S : Type 0} (relation : Relation) (one : Record M P) (o : Option (Record N O)) (got : Option (Record R S)) → got ≡ option_map as_listed o
    → option_map_or (relates relation one) got false ≡ option_map_or (relates relation one) o false
related_listed relation one o got e = ap (λ g. option_map_or (relates relation one) g false) e ∙ listed_related _ _ relation one o

-- one element more that does not pass a test
pub one_more : {X : Type 0} (p : X → Bool) (xs : List X) (first place : ℕ) → place < length xs → AllWithin (λ x. p x ≡ false) xs first place → option_map_or p (slice_get xs place) false ≡ false
    → AllWithin (λ x. p x ≡ false) xs first (place + 1)
one_more p xs first place lt h e i d low less = by (cases_lt i place)
  where
    at : p (get_or xs place d) ≡ false
    at = ap (λ o. option_map_or p o false) (sym (slice_get-get_or xs place d lt)) ∙ e

    by : (i < place) ⊎ (place ≤ i) → p (get_or xs i d) ≡ false
    by (inl before) = h i d low before
    by (inr more) = let same : i ≡ place = omega (arith, less, more) in ap (λ j. p (get_or xs j d)) same ∙ at

-- one element more before them
pub one_before : {X : Type 0} (p : X → Bool) (xs : List X) (from place : ℕ) → 0 < from → from ≤ length xs → AllWithin (λ x. p x ≡ false) xs from place → option_map_or p (slice_get xs (from - 1)) false ≡ false
    → AllWithin (λ x. p x ≡ false) xs (from - 1) place
one_before p xs from place some bound h e i d low less = by (cases_lt i from)
  where
    at : p (get_or xs (from - 1) d) ≡ false
    at = ap (λ o. option_map_or p o false) (sym (slice_get-get_or xs (from - 1) d (omega (arith, some, bound)))) ∙ e

    by : (i < from) ⊎ (from ≤ i) → p (get_or xs i d) ≡ false
    by (inl under) = let same : i ≡ from - 1 = omega (arith, low, under) in ap (λ j. p (get_or xs j d)) same ∙ at
    by (inr above) = h i d above less

-- some element passes a test if the one at an index does
pub any_found : {X : Type 0} (p : X → Bool) (xs : List X) (k : ℕ) → option_map_or p (slice_get xs k) false ≡ true → list_any p xs ≡ true
any_found p [] k h = absurd (false≢true h)
any_found p (x ∷ xs) zero h = or_left (p x) (list_any p xs) h
any_found p (x ∷ xs) (suc k) h = or_right (p x) (list_any p xs) (any_found p xs k h)

related_owned : {N O M P : Type 0} (relation : Relation) (one : Record M P) (r : Record N O) → same_name r.owner one.owner ≡ false → relates relation one r ≡ false
related_owned Alias one r h = ap (λ b. b && (not (is_beside_aliases (type_of r)) && not (is_equal_record one r))) h
related_owned Spf one r h = ap (λ b. b && (is_spf r && comes_before r one)) h
related_owned Digest one r h = ap (λ b. (b && (r.class == one.class && (type_of r == Rtype.ds && are_of_one_key one r))) && not (is_of_sha1 r)) h
related_owned Sha1 one r h = ap (λ b. (b && (r.class == one.class && (type_of r == Rtype.ds && are_of_one_key one r))) && is_of_sha1 r) h
related_owned SameType one r h = ap (λ b. b && (type_of r == type_of one && not (is_equal_record one r))) h
related_owned OtherSerial one r h = ap (λ b. b && (type_of r == Rtype.soa && not (has_serial_of one r))) h
related_owned KeyRequest one r h = ap (λ b. b && (is_for_parent r && not (is_delete_request r))) h
related_owned KeyOfAlgorithm one r h = ap (λ b. b && (type_of r == Rtype.dnskey && are_one_octet (algorithm_of one) (algorithm_of r))) h
related_owned Service one r h = ap (λ b. (b && (type_of r == type_of one && not (is_equal_record one r))) && not (is_alias_mode r)) h

-- no record passes a test that is of an owner if none of those at this owner does
module _ {N O : Type 0} (p : Record N O → Bool) (name : List (List ℕ)) (records : List (Record N O)) (first past : ℕ) (owned : AreOwnedFrom name records first past)
    (others : (r : Record N O) → same_name r.owner name ≡ false → p r ≡ false) (none : AllWithin (λ r. p r ≡ false) records first past) where
  fails_later : (i : ℕ) (d : Record N O) → i < length records → first ≤ i → (i < past) ⊎ (past ≤ i) → p (get_or records i d) ≡ false
  fails_later i d lt low (inl less) = none i d low less
  fails_later i d lt low (inr more) = others (get_or records i d) (owned.after i d more lt)

  fails_at : (i : ℕ) (d : Record N O) → i < length records → (i < first) ⊎ (first ≤ i) → p (get_or records i d) ≡ false
  fails_at i d lt (inl less) = others (get_or records i d) (owned.before i d (omega arith) less)
  fails_at i d lt (inr low) = fails_later i d lt low (cases_lt i past)

  pub none_owned : list_any p records ≡ false
  none_owned = none_passes p records (λ i d lt. fails_at i d lt (cases_lt i first))

pub none_related : {N O M P : Type 0} (relation : Relation) (one : Record M P) (records : List (Record N O)) (first past : ℕ) → AreOwnedFrom one.owner records first past
    → AllWithin (λ r. relates relation one r ≡ false) records first past → list_any (relates relation one) records ≡ false
none_related relation one records first past owned none = none_owned (relates relation one) one.owner records first past owned (λ r h. related_owned relation one r h) none

-- ---- the rules of a host

and_two : (a b c : Bool) → ((a && b) && c) ≡ (a && (b && c))
and_two true b c = refl
and_two false b c = refl

and_four : (a b c d e : Bool) → ((a && (b && (c && d))) && e) ≡ (a && (b && (c && (d && e))))
and_four true true true d e = refl
and_four true true false d e = refl
and_four true false c d e = refl
and_four false b c d e = refl

and_none : (a b : Bool) → false ≡ (a && (b && false))
and_none true true = refl
and_none true false = refl
and_none false b = refl

and_none_more : (a b c : Bool) → false ≡ (a && (b && (c && false)))
and_none_more true b c = and_none b c
and_none_more false b c = refl

named : {M P : Type 0} (r : Record M P) (name : List (List ℕ)) → host_of r ≡ Some name → (test : List (List ℕ) → Bool) → names_host test r ≡ test name
named r name is test = ap (λ o. option_map_or test o false) is

unnamed : {M P : Type 0} (r : Record M P) → host_of r ≡ None → (test : List (List ℕ) → Bool) → names_host test r ≡ false
unnamed r is test = ap (λ o. option_map_or test o false) is

pub faults_are : {N O M P : Type 0} (origin : List (List ℕ)) (records : List (Record N O)) (refused : List RrsetName) (r : Record M P) (name : List (List ℕ)) (f : HostFaults) → host_of r ≡ Some name
    → f.lacks_address ≡ (is_apex_server origin r && lacks_address origin records refused name)
    → f.lacks_glue ≡ (is_server_above origin r name && not (has_address_in name records refused))
    → f.is_alias ≡ is_alias origin records refused name
    → f.is_renamed ≡ is_below_own_dname origin records refused name
    → f.is_missing ≡ (wants_host origin r && is_missing origin records refused name)
    → AreHostFaults origin records refused r f
faults_are origin records refused r name f is a b c d e =
    let apex = is_record_at_apex Rtype.ns origin r in
    let internal = r.class == internet in
    record {
      address = a ∙ and_two apex internal (lacks_address origin records refused name) ∙ sym (ap (λ t. apex && (internal && t)) (named r name is (lacks_address origin records refused)));
      glue =
          b ∙ and_four (type_of r == Rtype.ns) (is_below r.owner origin) internal (is_within name r.owner) (not (has_address_in name records refused))
          ∙ sym (ap (λ t. type_of r == Rtype.ns && (is_below r.owner origin && (internal && t))) (named r name is (is_without_glue r.owner records refused)));
      alias = c ∙ sym (named r name is (is_alias origin records refused));
      renamed = d ∙ sym (named r name is (is_below_own_dname origin records refused));
      missing = e ∙ and_two (not apex) internal (is_missing origin records refused name) ∙ sym (ap (λ t. not apex && (internal && t)) (named r name is (is_missing origin records refused)));
    }

pub no_faults : {N O M P : Type 0} (origin : List (List ℕ)) (records : List (Record N O)) (refused : List RrsetName) (r : Record M P) (f : HostFaults) → host_of r ≡ None
    → f.lacks_address ≡ false → f.lacks_glue ≡ false → f.is_alias ≡ false → f.is_renamed ≡ false → f.is_missing ≡ false → AreHostFaults origin records refused r f
no_faults origin records refused r f is a b c d e =
    let apex = is_record_at_apex Rtype.ns origin r in
    let internal = r.class == internet in
    record {
      address = a ∙ and_none apex internal ∙ sym (ap (λ t. apex && (internal && t)) (unnamed r is (lacks_address origin records refused)));
      glue =
          b ∙ and_none_more (type_of r == Rtype.ns) (is_below r.owner origin) internal
          ∙ sym (ap (λ t. type_of r == Rtype.ns && (is_below r.owner origin && (internal && t))) (unnamed r is (is_without_glue r.owner records refused)));
      alias = c ∙ sym (unnamed r is (is_alias origin records refused));
      renamed = d ∙ sym (unnamed r is (is_below_own_dname origin records refused));
      missing = e ∙ and_none (not apex) internal ∙ sym (ap (λ t. not apex && (internal && t)) (unnamed r is (is_missing origin records refused)));
    }
