-- The octets that are hashed, and the records at the apex, from one index on.
use Rattle.std.proofs.Common.{ℕ, zero, suc, ◌≡◌, ◌≢◌, ◌<◌, ◌≤◌, ◌+◌, ◌-◌, ◌⊎◌, inl, inr, ◌&&◌, not, cond, Bool, true, false, Option, None, List, [], ◌∷◌, ◌++◌, length, map, take, get_or, refl, sym, ap, subst, ◌∙◌, arith, append_assoc, append-nil}
use Rattle.std.specs.Prelude.{All, filter, if◌then◌else◌, ◌==◌}
use Rattle.std.specs.List.{flat_map}
use Rattle.std.proofs.lemmas.Bool.{cases_lt, eqb-true}
use Rattle.std.proofs.lemmas.Grind.{flat_map-append}
use Rattle.std.proofs.lemmas.List.{length-map, map-append, map_more}
use Rattle.std.proofs.lemmas.List.Elements.{filter-append, All-append, All-cons, All-get_or, All-nil}
use Rattle.dns_wire.specs.Order.{same_name}
use Rattle.dns_wire.specs.Wire.{wire, IsName}
use Rattle.dns_wire.proofs.Comparing.{same_octets}
use Rattle.rdata_values.specs.Rtype as Rtype
use Rattle.rdata_values.specs.declared.types.RecordType.{RecordType}
use Rattle.zone_record.specs.CanonicalData.{canonical_record}
use Rattle.zone_record.specs.Records.{data_of}
use Rattle.zone_record.specs.TypeData.{TypeData}
use Rattle.zone_record.specs.declared.record.Record.{Record}
use Rattle.zone_contents.specs.Changes.{contents_at}
use Rattle.zone_contents.specs.Contents.{contents, AreSortedRecords, ZoneValue}
use Rattle.zone_contents.specs.Digests.{chosen_at, data_at, distinct_records, first_at, is_chosen, zone_apex_data, zone_octets, AreApexPlaces, FindsSerial}
use Rattle.zone_contents.proofs.AtApex.{count-push, serial_absent, serial_found, verdicts_push}
use Rattle.zone_contents.proofs.Distinct.{rest_from, rest_none, rest_step}
use Rattle.zone_contents.proofs.Listings.{listed_at, listed_length, valid_at}
use Rattle.zone_contents.proofs.ZoneNames.{is_name_of, owner_wire}
use Rattle.zone_rules.specs.Searches.{AreOwnedFrom}
use Rattle.zone_contents.specs.Checks.{alike_count, apex_data, is_alike, is_at_apex, HasVerdict, HaveVerdicts}
use Rattle.zone_store.specs.Duplicates.{is_duplicate_at}
use Rattle.zone_contents.specs.Hashed.{hashed_octets, is_apex, is_hashed}
use Rattle.zone_serial.specs.Serials.{soa_serial}
use Rattle.zone_store.specs.Stored.{record_at}
use Rattle.zone_contents.specs.declared.verdict.Verdict.{Verdict}
use Rattle.zone_contents.specs.declared.zonemd.Zonemd.{Zonemd}

abbrev Listed : Type 0
Listed = Record (Unit {0}) (Unit {0})

-- ---- octets that are hashed

hashed_append : (apex : List (List ℕ)) (rs ss : List Listed) → hashed_octets apex (rs ++ ss) ≡ hashed_octets apex rs ++ hashed_octets apex ss
hashed_append apex rs ss =
    ap (flat_map canonical_record) (filter-append (is_hashed apex) rs ss) ∙ flat_map-append canonical_record (filter (is_hashed apex) rs) (filter (is_hashed apex) ss)

-- a record that is hashed has its canonical form, and any other one no octets
hashed_by : (r : Listed) (b : Bool) → b ≡ true → flat_map canonical_record (cond b (r ∷ []) []) ≡ canonical_record r
hashed_by r true h = append-nil (canonical_record r)
hashed_by r false h = cc

unhashed_by : (r : Listed) (d b : Bool) → b ≡ false → flat_map canonical_record (if d then [] else cond b (r ∷ []) []) ≡ []
unhashed_by r true b h = refl
unhashed_by r false true h = cc
unhashed_by r false false h = refl

-- a test of one record or of none
filter_first : (p : Listed → Bool) (r : Listed) (d : Bool) → filter p (if d then [] else r ∷ []) ≡ (if d then [] else cond (p r) (r ∷ []) [])
filter_first p r true = refl
filter_first p r false = refl

module _ (apex : List (List ℕ)) (z : ZoneValue) (place : ℕ) where
  pub hashed_first : is_duplicate_at z.records place ≡ false → is_hashed apex (contents_at z place) ≡ true → hashed_octets apex (first_at z place) ≡ canonical_record (contents_at z place)
  hashed_first single fits =
      let r = contents_at z place in
      ap (λ d. hashed_octets apex (if d then [] else r ∷ [])) single ∙ hashed_by r (is_hashed apex r) fits

  pub hashed_none : is_hashed apex (contents_at z place) ≡ false → hashed_octets apex (first_at z place) ≡ []
  hashed_none fails =
      let r = contents_at z place in
      let d = is_duplicate_at z.records place in
      ap (flat_map canonical_record) (filter_first (is_hashed apex) r d) ∙ unhashed_by r d (is_hashed apex r) fails

module _ (apex : List (List ℕ)) (z : ZoneValue) where
  -- octets were hashed, and those of the records from an index on are left
  pub record Hashing (place : ℕ) (fed : List ℕ) : Type 0 where
    pub are : zone_octets apex z ≡ fed ++ hashed_octets apex (rest_from z place)

  pub hashing_more : AreSortedRecords z.apex z.records → (place next : ℕ) (fed : List ℕ) → place < length z.records → next ≡ suc place → Hashing place fed
      → Hashing next (fed ++ hashed_octets apex (first_at z place))
  hashing_more sorted place next fed lt e h = record {
    are = h.are
        ∙ ap (λ l. fed ++ l) (ap (hashed_octets apex) (rest_step z.apex z.records sorted place lt ∙ ap (λ n. first_at z place ++ rest_from z n) (sym e)) ∙ hashed_append apex (first_at z place) (rest_from z next))
        ∙ sym (append_assoc fed (hashed_octets apex (first_at z place)) (hashed_octets apex (rest_from z next)));
  }

  pub hashing_all : (place : ℕ) (fed : List ℕ) → length z.records ≤ place → Hashing place fed → fed ≡ zone_octets apex z
  hashing_all place fed low h = sym (h.are ∙ ap (λ l. fed ++ hashed_octets apex l) (rest_none z.apex z.records place low) ∙ append-nil fed)

-- ---- records at the apex

apex_append : (rtype : RecordType) (apex : List (List ℕ)) (rs ss : List Listed) → apex_data rtype apex (rs ++ ss) ≡ apex_data rtype apex rs ++ apex_data rtype apex ss
apex_append rtype apex rs ss =
    ap (map data_of) (filter-append (is_at_apex rtype apex) rs ss) ∙ map-append data_of (filter (is_at_apex rtype apex) rs) (filter (is_at_apex rtype apex) ss)

chosen_all : (P : ℕ → Type 0) (b : Bool) (x : ℕ) → (b ≡ true → P x) → All P (if b then x ∷ [] else [])
chosen_all P true x h = All-cons P x [] (h refl) (All-nil P)
chosen_all P false x h = All-nil P

filled : {X Y : Type 0} (f : X → Y) (xs : List X) (x : X) (ys : List Y) → map f (xs ++ x ∷ []) ++ ys ≡ [] → ⊥
filled f [] x ys h = cc
filled f (w ∷ xs) x ys h = cc

chosen_by : (z : ZoneValue) (place : ℕ) (a d : Bool) → map (data_at z) (if a && not d then place ∷ [] else []) ≡ map data_of (if d then [] else cond a (contents_at z place ∷ []) [])
chosen_by z place true true = refl
chosen_by z place true false = refl
chosen_by z place false true = refl
chosen_by z place false false = refl

first_holds : (p q : Bool) → p && q ≡ true → p ≡ true
first_holds true q h = refl
first_holds false q h = cc

-- the records of a type at the apex, up to an index, are at these indexes
pub record Collects (rtype : RecordType) (apex : List (List ℕ)) (z : ZoneValue) (place : ℕ) (places : List ℕ) : Type 0 where
  pub inside : All (λ p. p < length z.records) places
  pub types : All (λ p. (data_at z p).rtype ≡ rtype) places
  pub are : zone_apex_data rtype apex z ≡ map (data_at z) places ++ apex_data rtype apex (rest_from z place)

module _ (rtype : RecordType) (apex : List (List ℕ)) (z : ZoneValue) where
  pub collects_none : Collects rtype apex z 0 []
  collects_none = record { inside = All-nil _; types = All-nil _; are = refl }

  chosen_data : (place : ℕ) → map (data_at z) (chosen_at rtype apex z place) ≡ apex_data rtype apex (first_at z place)
  chosen_data place =
      let r = contents_at z place in
      let d = is_duplicate_at z.records place in
      chosen_by z place (is_at_apex rtype apex r) d ∙ ap (map data_of) (sym (filter_first (is_at_apex rtype apex) r d))

  chosen_type : (place : ℕ) → is_chosen rtype apex z place ≡ true → (data_at z place).rtype ≡ rtype
  chosen_type place h =
      let d = data_at z place in
      eqb-true d.rtype rtype (first_holds (d.rtype == rtype) _ (first_holds (is_at_apex rtype apex (contents_at z place)) _ h))

  pub collects_more : AreSortedRecords z.apex z.records → (place next : ℕ) (places : List ℕ) → place < length z.records → next ≡ suc place → Collects rtype apex z place places
      → Collects rtype apex z next (places ++ chosen_at rtype apex z place)
  collects_more sorted place next places lt e c =
      let b = is_chosen rtype apex z place in
      let more = chosen_at rtype apex z place in
      let rest = apex_data rtype apex (rest_from z next) in record {
        inside = All-append (λ p. p < length z.records) places more c.inside (chosen_all (λ p. p < length z.records) b place (λ _. lt));
        types = All-append (λ p. (data_at z p).rtype ≡ rtype) places more c.types (chosen_all (λ p. (data_at z p).rtype ≡ rtype) b place (chosen_type place));
        are = c.are
            ∙ ap (λ l. map (data_at z) places ++ l) (ap (apex_data rtype apex) (rest_step z.apex z.records sorted place lt ∙ ap (λ n. first_at z place ++ rest_from z n) (sym e))
            ∙ apex_append rtype apex (first_at z place) (rest_from z next) ∙ ap (λ l. l ++ rest) (sym (chosen_data place)))
            ∙ sym (append_assoc (map (data_at z) places) (map (data_at z) more) rest)
            ∙ ap (λ l. l ++ rest) (sym (map-append (data_at z) places more));
      }

  pub some_chosen : AreSortedRecords z.apex z.records → (place : ℕ) (places : List ℕ) → place < length z.records → is_chosen rtype apex z place ≡ true → Collects rtype apex z place places
      → zone_apex_data rtype apex z ≢ []
  some_chosen sorted place places lt h c e =
      let rest = apex_data rtype apex (rest_from z (suc place)) in
      filled (data_at z) places place rest
      (ap (λ b. map (data_at z) (places ++ (if b then place ∷ [] else [])) ++ rest) (sym h) ∙ sym (collects_more sorted place (suc place) places lt refl c).are ∙ e)

  pub collects_all : (place : ℕ) (places : List ℕ) → length z.records ≤ place → Collects rtype apex z place places → AreApexPlaces rtype apex z places
  collects_all place places low c = record {
    inside = c.inside;
    types = c.types;
    are = sym (c.are ∙ ap (λ l. map (data_at z) places ++ apex_data rtype apex l) (rest_none z.apex z.records place low) ∙ append-nil (map (data_at z) places));
  }

-- ---- records that are not at the apex

unchosen : (a b c : Bool) → b ≡ false → (a && b) && c ≡ false
unchosen true b c h = ap (λ t. t && c) h
unchosen false b c h = refl

none_added : {X : Type 0} (xs : List X) (x : X) (b : Bool) → b ≡ false → xs ++ (if b then x ∷ [] else []) ≡ xs
none_added xs x b h = ap (λ t. xs ++ (if t then x ∷ [] else [])) h ∙ append-nil xs

module _ (rtype : RecordType) (apex : List (List ℕ)) (z : ZoneValue) (sorted : AreSortedRecords z.apex z.records) where
  -- records with other owners are not at the apex
  not_owned : IsName apex → (place : ℕ) → place < length z.records → same_name (contents_at z place).owner apex ≡ false → is_chosen rtype apex z place ≡ false
  not_owned name place lt other =
      let key = (record_at z.records place).key in
      let owner = (contents_at z place).owner in
      let is = is_name_of owner (owner_wire z.apex key (valid_at z.apex z.records sorted.are place lt).owner) in
      let same : is_apex apex owner ≡ same_name owner apex = same_octets owner apex (wire owner) (wire apex) (is_apex apex owner) is.short name.short refl refl refl in
      unchosen ((data_at z place).rtype == rtype) (is_apex apex owner) (not (is_duplicate_at z.records place)) (same ∙ other)

  -- such records add nothing
  collects_past : (place count : ℕ) (places : List ℕ) → place + count ≤ length z.records → ((p : ℕ) → place ≤ p → p < place + count → is_chosen rtype apex z p ≡ false)
      → Collects rtype apex z place places → Collects rtype apex z (place + count) places
  collects_past place zero places fits none c = subst (λ n. Collects rtype apex z n places) (omega arith) c
  collects_past place (suc count) places fits none c =
      let last = place + count in
      subst (Collects rtype apex z (place + suc count)) (none_added places last (is_chosen rtype apex z last) (none last (omega arith) (omega arith)))
      (collects_more rtype apex z sorted last (place + suc count) places (omega (arith, fits)) (omega arith)
      (collects_past place count places (omega (arith, fits)) (λ p low lt. none p low (omega (arith, lt))) c))

  module _ (name : IsName apex) (first past : ℕ) (from : first ≤ past) (owned : AreOwnedFrom apex (contents z) first past) where
    other : (place : ℕ) → place < length z.records → ((d : Listed) → same_name (get_or (contents z) place d).owner apex ≡ false) → is_chosen rtype apex z place ≡ false
    other place lt h =
        not_owned name place lt (sym (ap (λ r. same_name r.owner apex) (listed_at z.apex z.records place (contents_at z place) lt)) ∙ h (contents_at z place))

    pub owned_past : past ≤ length z.records
    owned_past = omega (arith, owned.bound, listed_length z.apex z.records)

    first_fits : first ≤ length z.records
    first_fits = omega (arith, from, owned_past)

    pub collects_from : Collects rtype apex z first []
    collects_from =
        subst (λ n. Collects rtype apex z n []) (omega arith)
        (collects_past 0 first [] (omega (arith, first_fits)) (λ p low lt. other p (omega (arith, lt, first_fits)) (λ d. owned.before p d low (omega (arith, lt)))) (collects_none rtype apex z))

    pub collects_upto : (place : ℕ) (places : List ℕ) → past ≤ place → Collects rtype apex z place places → AreApexPlaces rtype apex z places
    collects_upto place places low c = by (cases_lt place (length z.records))
      where
        by : (place < length z.records) ⊎ (length z.records ≤ place) → AreApexPlaces rtype apex z places
        by (inr more) = collects_all rtype apex z place places more c
        by (inl less) =
            let count = length z.records - place in
            let long = listed_length z.apex z.records in
            collects_all rtype apex z (place + count) places (omega arith)
            (collects_past place count places (omega (arith, less)) (λ p beyond lt. other p (omega (arith, lt, less)) (λ d. owned.after p d (omega (arith, beyond, low)) (omega (arith, lt, less, long)))) c)

-- ---- the SOA at the apex

module _ (apex : List (List ℕ)) (z : ZoneValue) (places : List ℕ) (are : AreApexPlaces Rtype.soa apex z places) where
  pub finds_single : (place : ℕ) (found : Option ℕ) → places ≡ place ∷ [] → found ≡ soa_serial (data_at z place) → FindsSerial apex z found
  finds_single place found one is = serial_found apex (distinct_records z) (data_at z place) found (sym are.are ∙ ap (map (data_at z)) one) is

  pub finds_none : length places ≢ 1 → FindsSerial apex z None
  finds_none other = serial_absent apex (distinct_records z) (λ e. other (sym (length-map places (data_at z)) ∙ ap length are.are ∙ e))

-- ---- ZONEMD at the apex, one after another

module _ (z : ZoneValue) (places : List ℕ) (i p : ℕ) (lt : i < length places) (at : p ≡ get_or places i p) where
  -- what holds of all holds of one
  pub holds_at : (P : ℕ → Type 0) → All P places → P p
  holds_at P all = subst P (sym at) (All-get_or P places i p lt all)

  data_next : map (data_at z) (take (i + 1) places) ≡ map (data_at z) (take i places) ++ data_at z p ∷ []
  data_next = map_more (data_at z) places i p lt ∙ ap (λ q. map (data_at z) (take i places) ++ data_at z q ∷ []) (sym at)

  pub alike_next : (one : Zonemd) (b : Bool) → b ≡ is_alike one (data_at z p)
      → alike_count one (map (data_at z) (take (i + 1) places)) ≡ alike_count one (map (data_at z) (take i places)) + cond b 1 0
  alike_next one b h =
      ap (alike_count one) data_next ∙ count-push (is_alike one) (map (data_at z) (take i places)) (data_at z p)
      ∙ ap (λ t. alike_count one (map (data_at z) (take i places)) + cond t 1 0) (sym h)

  pub verdict_next : (serial : ℕ) (octets : List ℕ) (all : List TypeData) (vs : List Verdict) (v : Verdict) → HaveVerdicts serial octets all (map (data_at z) (take i places)) vs
      → HasVerdict serial octets all (data_at z p) v → HaveVerdicts serial octets all (map (data_at z) (take (i + 1) places)) (vs ++ v ∷ [])
  verdict_next serial octets all vs v h k =
      subst (λ ds. HaveVerdicts serial octets all ds (vs ++ v ∷ [])) (sym data_next) (verdicts_push serial octets all (map (data_at z) (take i places)) vs (data_at z p) v h k)
