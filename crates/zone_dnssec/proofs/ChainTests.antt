-- The faults of chains at the records of a zone.
use Rattle.std.proofs.Common.{ℕ, zero, suc, ◌≡◌, ◌+◌, ◌<◌, ◌≤◌, ◌⊎◌, inl, inr, Bool, true, false, Option, Some, None, List, [], ◌∷◌, ◌++◌, length, take, get_or, refl, sym, ap, ◌∙◌, arith, length-append}
use Rattle.std.specs.Prelude.{not, ◌==◌, ◌&&◌, ◌||◌, slice_get, is_some}
use Rattle.std.specs.List.{AllWithin, list_any}
use Rattle.std.specs.Option.{option_map, option_map_or}
use Rattle.std.proofs.lemmas.Bool.{cases_lt, false≢true}
use Rattle.std.proofs.lemmas.List.{get_or_append_left}
use Rattle.std.proofs.Math.Seq.{get_or-append_seam}
use Rattle.std.proofs.lemmas.Option.{get_or_from_slice_get}
use Rattle.dns_wire.specs.Order.{same_name}
use Rattle.rdata_values.specs.Rtype as Rtype
use Rattle.zone_record.specs.declared.record.Record.{Record}
use Rattle.zone_rules.specs.Zones.{as_listed, record_before, type_of}
use Rattle.zone_rules.proofs.Searches.{none_passes}
use Rattle.zone_dnssec.specs.ChainFaults.{chain_faults, either_faults, fails_beside, fails_first, faults_among, faults_of_chains, faults_with, is_lone_flag_in, is_unmatched_in, late_faults, link_faults, misorders, names_failing_chain, AddsChain, AddsFaults, AreFaults, AreFaultsBefore, AreNoFaults, IsAtApex}
use Rattle.zone_dnssec.specs.HashedLinks.{chain_fails, fails_chain, is_bounded, names_other_hash, points_to_next}
use Rattle.zone_dnssec.specs.Nsec3Chain.{is_link, is_same_field, opts_out}
use Rattle.zone_dnssec.specs.NsecChain.{are_at_one_name}
use Rattle.zone_dnssec.specs.OptOutFlags.{has_own_flag, is_flag_lone}
use Rattle.zone_dnssec.specs.Parameters.{names_chain}
use Rattle.zone_dnssec.specs.SignedSets.{starts}
use Rattle.zone_dnssec.specs.UnmatchedLinks.{matches_no_name, shows_hashed}
use Rattle.zone_dnssec.specs.ZoneViews.{ZoneView}
use Rattle.zone_dnssec.specs.declared.hashed.LinkFault.{LinkFault}
use Rattle.zone_dnssec.specs.declared.hashed.LinkFault.TheVariants.{Missing, DifferentTypes}
use Rattle.zone_dnssec.specs.declared.subject.ChainFaults.{ChainFaults}
use Rattle.zone_dnssec.proofs.ChainLinks.{get_some}
use Rattle.zone_dnssec.proofs.ChainSearch.{any_more, or_false}

some_is : {X : Type 0} {x y : X} → Some x ≡ Some y → x ≡ y
some_is f = cc

pub there_is_one : {X : Type 0} (xs : List X) (k : ℕ) → k < length xs → false ≡ option_map_or (λ x. false) (slice_get xs k) true
there_is_one {X = X} xs k lt = by (slice_get xs k) (get_some xs k lt)
  where
    by : (o : Option X) → is_some o ≡ true → false ≡ option_map_or (λ x. false) o true
    by None h = absurd (false≢true h)
    by (Some x) h = refl

-- ---- a record of a list, with its octets in other types

beside_listed : {N O M P : Type 0} (R S : Type 0) (fault : LinkFault) (zone : ZoneView N O) (chain : Record M P) (before : Option (Record N O)) (r : Record N O)
    → fails_beside {R = R} {S = S} fault zone (option_map as_listed before) (as_listed r) chain ≡ fails_beside fault zone before r chain
beside_listed R S fault zone chain None r = refl
beside_listed R S fault zone chain (Some b) r = refl

pub beside_is : {N O M P R S : Type 0} (fault : LinkFault) (zone : ZoneView N O) (chain : Record M P) (place : ℕ) (before : Option (Record R S)) (found : Record R S)
    → before ≡ option_map as_listed (record_before zone.records place) → Some found ≡ option_map as_listed (slice_get zone.records place)
    → fails_beside fault zone before found chain ≡ fails_first fault zone place chain
beside_is fault zone chain place before found e f = by (slice_get zone.records place) f
  where
    by : (o : Option (Record _ _)) → Some found ≡ option_map as_listed o → fails_beside fault zone before found chain ≡ option_map_or (λ r. fails_beside fault zone (record_before zone.records place) r chain) o false
    by None h = cc
    by (Some r) h = (λ i. fails_beside fault zone (e i) (some_is h i) chain) ∙ beside_listed _ _ fault zone chain (record_before zone.records place) r

first_listed : {N O : Type 0} (R S : Type 0) (fault : LinkFault) (zone : ZoneView N O) (place : ℕ) (x : Record N O) → fails_first {M = R} {P = S} fault zone place (as_listed x) ≡ fails_first fault zone place x
first_listed R S Missing zone place x = refl
first_listed R S DifferentTypes zone place x = refl

misorders_listed : {N O : Type 0} (R S : Type 0) (zone : ZoneView N O) (place : ℕ) (x : Record N O) → misorders {M = R} {P = S} zone place (as_listed x) ≡ misorders zone place x
misorders_listed R S zone place x = refl

unmatched_listed : {N O : Type 0} (R S : Type 0) (zone : ZoneView N O) (place : ℕ) (x : Record N O) → is_unmatched_in {M = R} {P = S} zone place (as_listed x) ≡ is_unmatched_in zone place x
unmatched_listed R S zone place x = refl

flag_listed : {N O : Type 0} (R S : Type 0) (zone : ZoneView N O) (place : ℕ) (x : Record N O) → is_lone_flag_in {M = R} {P = S} zone place (as_listed x) ≡ is_lone_flag_in zone place x
flag_listed R S zone place x = refl

-- ---- tests among the first records

module _ {X : Type 0} (test : X → Bool) where
  none_taken : (xs : List X) (n : ℕ) → AllWithin (λ x. test x ≡ false) xs 0 n → list_any test (take n xs) ≡ false
  none_taken xs zero h = refl
  none_taken [] (suc n) h = refl
  none_taken (x ∷ xs) (suc n) h = ap (λ b. b || list_any test (take n xs)) (h 0 x (omega arith) (omega arith)) ∙ none_taken xs n (λ i d low lt. h (suc i) d (omega arith) (omega arith))

  any_taken : (xs : List X) (n : ℕ) → AllWithin (λ x. test x ≡ false) xs n (length xs) → list_any test (take n xs) ≡ list_any test xs
  any_taken xs zero h = sym (none_passes test xs (λ i d lt. h i d (omega arith) lt))
  any_taken [] (suc n) h = refl
  any_taken (x ∷ xs) (suc n) h = ap (λ b. test x || b) (any_taken xs n (λ i d low lt. h (suc i) d (omega (arith, low)) (omega (arith, lt))))

-- ---- lists of faults

pub nothing_pushed : (n : ℕ) (old new : List ChainFaults) (x : ChainFaults) → AreNoFaults n old → x ≡ faults_with false false false false false → new ≡ old ++ x ∷ [] → AreNoFaults (n + 1) new
nothing_pushed n old new x h is e = record {
  size = omega (arith, ap length e, length-append old (x ∷ []), h.size);
  each = λ i d lt. by i d lt (cases_lt i n);
}
  where
    by : (i : ℕ) (d : ChainFaults) → i < n + 1 → (i < n) ⊎ (n ≤ i) → get_or new i d ≡ faults_with false false false false false
    by i d lt (inl less) = ap (λ l. get_or l i d) e ∙ get_or_append_left old (x ∷ []) d i (omega (arith, less, h.size)) ∙ h.each i d less
    by i d lt (inr more) =
        let same : i ≡ length old = omega (arith, lt, more, h.size) in
        (λ j. get_or (e j) (same j) d) ∙ get_or-append_seam old x [] d ∙ is

module _ (f : ℕ → ChainFaults) (others : List ChainFaults) where
  pub faults_pushed : (old new : List ChainFaults) (n : ℕ) (other here : ChainFaults) → AddsFaults f others n old → Some other ≡ slice_get others n → here ≡ f n → new ≡ old ++ either_faults other here ∷ []
      → AddsFaults f others (n + 1) new
  faults_pushed old new n other here h o is e = record {
    size = omega (arith, ap length e, length-append old (either_faults other here ∷ []), h.size);
    each = λ i d lt. by i d lt (cases_lt i n);
  }
    where
      by : (i : ℕ) (d : ChainFaults) → i < n + 1 → (i < n) ⊎ (n ≤ i) → get_or new i d ≡ either_faults (get_or others i d) (f i)
      by i d lt (inl less) = ap (λ l. get_or l i d) e ∙ get_or_append_left old (either_faults other here ∷ []) d i (omega (arith, less, h.size)) ∙ h.each i d less
      by i d lt (inr more) =
          let same : i ≡ length old = omega (arith, lt, more, h.size) in
          let at : i ≡ n = omega (arith, lt, more) in
          (λ j. get_or (e j) (same j) d) ∙ get_or-append_seam old (either_faults other here) [] d
          ∙ (λ j. either_faults (sym (ap (λ m. get_or others m d) at ∙ get_or_from_slice_get others n other d (sym o)) j) ((is ∙ ap f (sym at)) j))

-- ---- the faults of a chain, in two parts

-- faults that are known at once, and later ones
both_parts : (o : ChainFaults) (a b c d e : Bool) → either_faults (either_faults o (faults_with a b c false false)) (faults_with false false false d e) ≡ either_faults o (faults_with a b c d e)
both_parts o a b c d e =
    λ j. faults_with (or_false (o.is_missing || a) j) (or_false (o.has_other_types || b) j) (or_false (o.has_other_next || c) j) (or_false o.is_unmatched j || d) (or_false o.has_lone_flag j || e)

pub parts_added : {N O M P : Type 0} (zone : ZoneView N O) (chain : Record M P) (others mid new : List ChainFaults) (n m : ℕ) → m ≡ n → AddsFaults (link_faults zone chain) others n mid
    → AddsFaults (late_faults zone chain) mid m new → AddsChain zone chain others n new
parts_added zone chain others mid new n m same h k = record {
  size = k.size ∙ same;
  each = λ i d lt.
      k.each i d (omega (arith, lt, same))
      ∙ ap (λ o. either_faults o (late_faults zone chain i)) (h.each i d lt)
      ∙ both_parts (get_or others i d) (fails_first Missing zone i chain) (fails_first DifferentTypes zone i chain) (misorders zone i chain) (is_unmatched_in zone i chain) (is_lone_flag_in zone i chain);
}

module _ {N O : Type 0} (zone : ZoneView N O) where
  failing : (test : Record N O → Bool) (r : Record N O) → same_name r.owner zone.origin ≡ false → names_failing_chain test zone.origin r ≡ false
  failing test r h = ap (λ b. b && (names_chain r && test r)) h

  -- before the records at the apex
  pub before_apex : (first : ℕ) (faults : List ChainFaults) → AllWithin (λ r. same_name r.owner zone.origin ≡ false) zone.records 0 first → AreNoFaults (length zone.records) faults
      → AreFaultsBefore zone first faults
  before_apex first faults h none = record {
    size = none.size;
    each = λ i d lt. none.each i d lt ∙ (λ j. faults_with (sym (nothing (fails_first Missing zone i)) j) (sym (nothing (fails_first DifferentTypes zone i)) j) (sym (nothing (misorders zone i)) j)
        (sym (nothing (is_unmatched_in zone i)) j) (sym (nothing (is_lone_flag_in zone i)) j));
  }
    where
      nothing : (test : Record N O → Bool) → list_any (names_failing_chain test zone.origin) (take first zone.records) ≡ false
      nothing test = none_taken (names_failing_chain test zone.origin) zone.records first (λ i d low lt. failing test (get_or zone.records i d) (h i d low lt))

  -- after them
  pub after_apex : (past : ℕ) (faults : List ChainFaults) → AllWithin (λ r. same_name r.owner zone.origin ≡ false) zone.records past (length zone.records) → AreFaultsBefore zone past faults
      → AreFaults zone zone.records faults
  after_apex past faults h f = record {
    size = f.size;
    each = λ i d lt. f.each i d lt ∙ (λ j. faults_with (others (fails_first Missing zone i) j) (others (fails_first DifferentTypes zone i) j) (others (misorders zone i) j)
        (others (is_unmatched_in zone i) j) (others (is_lone_flag_in zone i) j));
  }
    where
      others : (test : Record N O → Bool) → list_any (names_failing_chain test zone.origin) (take past zone.records) ≡ list_any (names_failing_chain test zone.origin) zone.records
      others test = any_taken (names_failing_chain test zone.origin) zone.records past (λ i d low lt. failing test (get_or zone.records i d) (h i d low lt))

  -- one record more at the apex
  module _ (place : ℕ) (lt : place < length zone.records) (apex : IsAtApex zone place) where
    more : (test : Record N O → Bool) (x : Record N O) → get_or zone.records place x ≡ x
        → list_any (names_failing_chain test zone.origin) (take (place + 1) zone.records) ≡ (list_any (names_failing_chain test zone.origin) (take place zone.records) || (names_chain x && test x))
    more test x is =
        any_more (names_failing_chain test zone.origin) zone.records place x lt
        ∙ ap (λ b. list_any (names_failing_chain test zone.origin) (take place zone.records) || b)
        (ap (λ b. b && (names_chain (get_or zone.records place x) && test (get_or zone.records place x))) (apex x) ∙ ap (λ r. names_chain r && test r) is)

    pub no_chain : {R S : Type 0} (found : Record R S) (faults : List ChainFaults) → Some found ≡ option_map as_listed (slice_get zone.records place) → names_chain found ≡ false
        → AreFaultsBefore zone place faults → AreFaultsBefore zone (place + 1) faults
    no_chain found faults e h f = by (slice_get zone.records place) refl e
      where
        by : (o : Option (Record N O)) → slice_get zone.records place ≡ o → Some found ≡ option_map as_listed o → AreFaultsBefore zone (place + 1) faults
        by None q k = cc
        by (Some x) q k = record {
          size = f.size;
          each = λ i d less. f.each i d less ∙ (λ j. faults_with (sym (same (fails_first Missing zone i)) j) (sym (same (fails_first DifferentTypes zone i)) j) (sym (same (misorders zone i)) j)
              (sym (same (is_unmatched_in zone i)) j) (sym (same (is_lone_flag_in zone i)) j));
        }
          where
            unnamed : names_chain x ≡ false
            unnamed = sym (ap names_chain (some_is k)) ∙ h

            same : (test : Record N O → Bool) → list_any (names_failing_chain test zone.origin) (take (place + 1) zone.records) ≡ list_any (names_failing_chain test zone.origin) (take place zone.records)
            same test =
                more test x (get_or_from_slice_get zone.records place x x q)
                ∙ ap (λ b. list_any (names_failing_chain test zone.origin) (take place zone.records) || (b && test x)) unnamed
                ∙ or_false (list_any (names_failing_chain test zone.origin) (take place zone.records))

    pub one_chain : {R S : Type 0} (found : Record R S) (old new : List ChainFaults) → Some found ≡ option_map as_listed (slice_get zone.records place) → names_chain found ≡ true
        → AreFaultsBefore zone place old → AddsChain zone found old (length old) new → AreFaultsBefore zone (place + 1) new
    one_chain {R = R} {S = S} found old new e h f a = by (slice_get zone.records place) refl e
      where
        by : (o : Option (Record N O)) → slice_get zone.records place ≡ o → Some found ≡ option_map as_listed o → AreFaultsBefore zone (place + 1) new
        by None q k = cc
        by (Some x) q k = record {
          size = a.size ∙ f.size;
          each = λ i d less.
              a.each i d (omega (arith, less, f.size)) ∙ ap (λ o. either_faults o (chain_faults zone found i)) (f.each i d less)
              ∙ (λ j. faults_with (sym (added (fails_first Missing zone i) (fails_first Missing zone i found) (missing i)) j)
              (sym (added (fails_first DifferentTypes zone i) (fails_first DifferentTypes zone i found) (types i)) j) (sym (added (misorders zone i) (misorders zone i found) (next i)) j)
              (sym (added (is_unmatched_in zone i) (is_unmatched_in zone i found) (unmatched i)) j) (sym (added (is_lone_flag_in zone i) (is_lone_flag_in zone i found) (flag i)) j));
        }
          where
            is : found ≡ as_listed x
            is = some_is k

            named : names_chain x ≡ true
            named = sym (ap names_chain is) ∙ h

            missing : (i : ℕ) → fails_first Missing zone i found ≡ fails_first Missing zone i x
            missing i = ap (fails_first Missing zone i) is ∙ first_listed R S Missing zone i x

            types : (i : ℕ) → fails_first DifferentTypes zone i found ≡ fails_first DifferentTypes zone i x
            types i = ap (fails_first DifferentTypes zone i) is ∙ first_listed R S DifferentTypes zone i x

            next : (i : ℕ) → misorders zone i found ≡ misorders zone i x
            next i = ap (misorders zone i) is ∙ misorders_listed R S zone i x

            unmatched : (i : ℕ) → is_unmatched_in zone i found ≡ is_unmatched_in zone i x
            unmatched i = ap (is_unmatched_in zone i) is ∙ unmatched_listed R S zone i x

            flag : (i : ℕ) → is_lone_flag_in zone i found ≡ is_lone_flag_in zone i x
            flag i = ap (is_lone_flag_in zone i) is ∙ flag_listed R S zone i x

            added : (test : Record N O → Bool) (here : Bool) → here ≡ test x
                → list_any (names_failing_chain test zone.origin) (take (place + 1) zone.records) ≡ (list_any (names_failing_chain test zone.origin) (take place zone.records) || here)
            added test here t =
                more test x (get_or_from_slice_get zone.records place x x q)
                ∙ (λ j. list_any (names_failing_chain test zone.origin) (take place zone.records) || (named j && sym t j))

-- ---- the rules by the faults of all chains

module _ {X : Type 0} (p q : X → Bool) where
  -- a test that doesn't depend on the item
  pub any_also : (s : X → Bool) (b : Bool) (xs : List X) → list_any (λ x. p x && (q x && (b && s x))) xs ≡ (b && list_any (λ x. p x && (q x && s x)) xs)
  any_also s true xs = refl
  any_also s false xs = none xs
    where
      nothing : (x : X) → (p x && (q x && false)) ≡ false
      nothing x = by (p x) (q x)
        where
          by : (u v : Bool) → (u && (v && false)) ≡ false
          by true true = refl
          by true false = refl
          by false v = refl

      none : (xs : List X) → list_any (λ x. p x && (q x && false)) xs ≡ false
      none [] = refl
      none (x ∷ xs) = ap (λ b. b || list_any (λ x. p x && (q x && false)) xs) (nothing x) ∙ none xs

  -- a test that the item's test begins with
  pub any_begun : (l n : X → Bool) (b : Bool) (xs : List X) → list_any (λ x. p x && (q x && ((b && l x) && n x))) xs ≡ (b && list_any (λ x. p x && (q x && ((b && l x) && n x))) xs)
  any_begun l n true xs = refl
  any_begun l n false xs = none xs
    where
      nothing : (x : X) → (p x && (q x && false)) ≡ false
      nothing x = by (p x) (q x)
        where
          by : (u v : Bool) → (u && (v && false)) ≡ false
          by true true = refl
          by true false = refl
          by false v = refl

      none : (xs : List X) → list_any (λ x. p x && (q x && false)) xs ≡ false
      none [] = refl
      none (x ∷ xs) = ap (λ b. b || list_any (λ x. p x && (q x && false)) xs) (nothing x) ∙ none xs

chain_listed : {N O : Type 0} (R S : Type 0) (fault : LinkFault) (zone : ZoneView N O) (before : Option (Record N O)) (r : Record N O)
    → fails_chain {M = R} {P = S} fault zone (option_map as_listed before) (as_listed r) ≡ fails_chain fault zone before r
chain_listed R S fault zone None r = refl
chain_listed R S fault zone (Some b) r = refl

other_listed : {N O : Type 0} (R S : Type 0) (zone : ZoneView N O) (r : Record N O) → names_other_hash {M = R} {P = S} zone (as_listed r) ≡ names_other_hash zone r
other_listed R S zone r = refl

no_name_listed : {N O : Type 0} (R S : Type 0) (zone : ZoneView N O) (r : Record N O) → matches_no_name {M = R} {P = S} zone (as_listed r) ≡ matches_no_name zone r
no_name_listed R S zone r = refl

own_flag_listed : {N O : Type 0} (R S : Type 0) (zone : ZoneView N O) (r : Record N O) → has_own_flag {M = R} {P = S} zone (as_listed r) ≡ has_own_flag zone r
own_flag_listed R S zone r = refl

module _ {N O R S : Type 0} (zone : ZoneView N O) (place : ℕ) (before : Option (Record R S)) (found : Record R S) (e : before ≡ option_map as_listed (record_before zone.records place))
    (f : Some found ≡ option_map as_listed (slice_get zone.records place)) where
  pub fails_is : (fault : LinkFault) → list_any (names_failing_chain (fails_first fault zone place) zone.origin) zone.records ≡ fails_chain fault zone before found
  fails_is fault = by (slice_get zone.records place) refl f
    where
      by : (o : Option (Record N O)) → slice_get zone.records place ≡ o → Some found ≡ option_map as_listed o
          → list_any (names_failing_chain (fails_first fault zone place) zone.origin) zone.records ≡ fails_chain fault zone before found
      by None q k = cc
      by (Some r) q k =
          ap (λ o. list_any (names_failing_chain (λ x. option_map_or (λ y. fails_beside fault zone (record_before zone.records place) y x) o false) zone.origin) zone.records) q
          ∙ any_also (λ x. same_name x.owner zone.origin) names_chain (chain_fails fault zone r.owner) (starts are_at_one_name (record_before zone.records place) r) zone.records
          ∙ sym ((λ i. fails_chain fault zone (e i) (some_is k i)) ∙ chain_listed R S fault zone (record_before zone.records place) r)

  -- a rule of NSEC3 records of some chain
  link_is : (n : Record N O → Record N O → Bool) (whole : Bool)
      → ((r : Record N O) → found ≡ as_listed r → whole ≡ (type_of r == Rtype.nsec3 && list_any (λ x. same_name x.owner zone.origin && (names_chain x && (is_link x r && n x r))) zone.records))
      → list_any (names_failing_chain (λ x. option_map_or (λ y. is_link x y && n x y) (slice_get zone.records place) false) zone.origin) zone.records ≡ whole
  link_is n whole h = by (slice_get zone.records place) refl f
    where
      by : (o : Option (Record N O)) → slice_get zone.records place ≡ o → Some found ≡ option_map as_listed o
          → list_any (names_failing_chain (λ x. option_map_or (λ y. is_link x y && n x y) (slice_get zone.records place) false) zone.origin) zone.records ≡ whole
      by None q k = cc
      by (Some r) q k =
          ap (λ o. list_any (names_failing_chain (λ x. option_map_or (λ y. is_link x y && n x y) o false) zone.origin) zone.records) q
          ∙ any_begun (λ x. same_name x.owner zone.origin) names_chain (λ x. is_same_field 0 x r && (is_same_field 2 x r && is_same_field 3 x r)) (λ x. n x r) (type_of r == Rtype.nsec3) zone.records
          ∙ sym (h r (some_is k))

  pub other_is : list_any (names_failing_chain (misorders zone place) zone.origin) zone.records ≡ names_other_hash zone found
  other_is = link_is (λ x y. not (points_to_next zone x y)) (names_other_hash zone found) (λ r e. ap (names_other_hash zone) e ∙ other_listed R S zone r)

  pub unmatched_is : list_any (names_failing_chain (is_unmatched_in zone place) zone.origin) zone.records ≡ matches_no_name zone found
  unmatched_is =
      link_is (λ x y. is_bounded x && not (list_any (shows_hashed zone x y.owner) zone.records)) (matches_no_name zone found) (λ r e. ap (matches_no_name zone) e ∙ no_name_listed R S zone r)

  pub flag_is : list_any (names_failing_chain (is_lone_flag_in zone place) zone.origin) zone.records ≡ has_own_flag zone found
  flag_is = link_is (λ x y. is_bounded x && is_flag_lone x (opts_out y) zone.records) (has_own_flag zone found) (λ r e. ap (has_own_flag zone) e ∙ own_flag_listed R S zone r)
