-- Records that a zone lends, with their octets in other types, and what they are in its list.
use Rattle.std.proofs.Common.{ℕ, ◌≡◌, Bool, true, false, Option, Some, None, List, [], ◌∷◌, refl, sym, ap}
use Rattle.std.specs.Prelude.{◌==◌, ◌&&◌, ◌||◌, if◌then◌else◌, option_and_then}
use Rattle.std.specs.Option.{option_map, option_map_or}
use Rattle.rdata_values.specs.Rtype as Rtype
use Rattle.rdata_values.specs.declared.types.RecordType.{RecordType}
use Rattle.zone_record.specs.Records.{data_of}
use Rattle.zone_record.specs.TypeData.{TypeData}
use Rattle.zone_record.specs.declared.record.Record.{Record}
use Rattle.zone_rules.specs.Above.{is_below, parent_of}
use Rattle.zone_rules.specs.Rules.{is_below_zone_cut, is_zone_cut}
use Rattle.zone_rules.specs.Zones.{as_listed, host_in, type_of}
use Rattle.zone_delegations.specs.Hidden.{delegation_of, is_delegating, server_in, server_of}

same_some : {X : Type 0} (x y : X) → Some x ≡ Some y → x ≡ y
same_some x y h = cc

module _ {N O R S : Type 0} where
  pub listed_owner : (o : Option (Record N O)) (r : Record R S) → Some r ≡ option_map as_listed o → Some r.owner ≡ option_map (λ x. x.owner) o
  listed_owner None r e = cc
  listed_owner (Some x) r e = ap (λ z. Some z.owner) (same_some r (as_listed x) e)

  pub listed_delegating : (origin : List (List ℕ)) (o : Option (Record N O)) (r : Record R S) → Some r ≡ option_map as_listed o → is_delegating origin r ≡ option_map_or (is_delegating origin) o false
  listed_delegating origin None r e = cc
  listed_delegating origin (Some x) r e = ap (is_delegating origin) (same_some r (as_listed x) e)

  pub listed_delegation : (origin : List (List ℕ)) (o : Option (Record N O)) (r : Record R S) → Some r ≡ option_map as_listed o → delegation_of origin r ≡ option_and_then (delegation_of origin) o
  listed_delegation origin None r e = cc
  listed_delegation origin (Some x) r e = ap (delegation_of origin) (same_some r (as_listed x) e)

pub listed_server : {N O : Type 0} (origin : List (List ℕ)) (o : Option (Record N O)) (d : TypeData) → Some d ≡ option_map data_of o → server_in origin d ≡ option_and_then (server_of origin) o
listed_server origin None d e = cc
listed_server origin (Some x) d e = ap (server_in origin) (same_some d (data_of x) e)

pub some_type : {N O : Type 0} (o : Option (Record N O)) (t : RecordType) → Some t ≡ option_map type_of o → t ≡ option_map_or type_of o 0
some_type None t e = cc
some_type (Some x) t e = same_some t (type_of x) e

-- ---- a record of another type than NS

module _ {N O : Type 0} (origin : List (List ℕ)) where
  pub other_delegating : (o : Option (Record N O)) → (option_map_or type_of o 0 == Rtype.ns) ≡ false → false ≡ option_map_or (is_delegating origin) o false
  other_delegating None h = refl
  other_delegating (Some x) h = sym (ap (λ b. b && is_below x.owner origin) h)

  pub other_delegation : (o : Option (Record N O)) → (option_map_or type_of o 0 == Rtype.ns) ≡ false → option_and_then (delegation_of origin) o ≡ None
  other_delegation None h = refl
  other_delegation (Some x) h = ap (λ b. if b && is_below x.owner origin then Some x.owner else None) h

  pub other_server : (o : Option (Record N O)) → (option_map_or type_of o 0 == Rtype.ns) ≡ false → option_and_then (server_of origin) o ≡ None
  other_server None h = refl
  other_server (Some x) h = ap (λ b. if b then option_and_then (λ host. if is_below host origin then Some host else None) (host_in (data_of x)) else None) h

-- ---- an NS below the apex has its owner as its name

pub delegation_is : {N O : Type 0} (origin : List (List ℕ)) (r : Record N O) (name : List (List ℕ)) → delegation_of origin r ≡ Some name → name ≡ r.owner
delegation_is origin r name e = by (is_delegating origin r) e
  where
    by : (b : Bool) → (if b then Some r.owner else None) ≡ Some name → name ≡ r.owner
    by true h = sym (same_some r.owner name h)
    by false h = cc

-- ---- delegations above a name

module _ {N O : Type 0} (records : List (Record N O)) (origin : List (List ℕ)) where
  pub parent_cuts : (name above : List (List ℕ)) → parent_of name ≡ Some above → is_below_zone_cut origin records name ≡ (is_zone_cut origin records above || is_below_zone_cut origin records above)
  parent_cuts [] above e = cc
  parent_cuts (l ∷ []) above e = cc
  parent_cuts (l ∷ n ∷ o) above e =
      let is : n ∷ o ≡ above = same_some (n ∷ o) above e in
      λ i. is_zone_cut origin records (is i) || is_below_zone_cut origin records (is i)

  pub parent_none : (name : List (List ℕ)) → parent_of name ≡ None → is_below_zone_cut origin records name ≡ false
  parent_none [] e = refl
  parent_none (l ∷ []) e = refl
  parent_none (l ∷ n ∷ o) e = cc
