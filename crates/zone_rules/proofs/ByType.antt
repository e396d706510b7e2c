-- What a record can't break by its type, alone or with the record before it.
use Rattle.std.proofs.Common.{ℕ, ◌≡◌, Bool, true, false, Option, Some, None, List, [], ◌∷◌, ◌++◌, refl, sym, ap, subst, ◌∙◌, arith}
use Rattle.std.specs.Prelude.{◌==◌, ◌&&◌, ◌||◌, not, if◌then◌else◌, filter, option_and_then, slice_get}
use Rattle.std.specs.List.{flat_map}
use Rattle.std.specs.Option.{option_map, option_map_or}
use Rattle.std.proofs.lemmas.Bool.Decides.{nat_tests}
use Rattle.dns_wire.specs.Order.{same_name}
use Rattle.finding_codes.specs.Rule.{coded_rule}
use Rattle.finding_codes.specs.declared.code.Code.{Code}
use Rattle.finding_codes.specs.declared.code.Code.TheVariants.{Outside, TwoSoas, NsAddress, Cname, BelowDname, WildcardNs, SoaNotApex, NsBesideDname, KeyBesideCname, HostName, DsWithoutNs, NotAtApex, KeyProtocol, KeyAlgorithm, CnameTargetMissing, CnameLoop, TwoSpf, WeakDigest, SingleNs, TtlDiffers, Duplicate, Dname, DsApex, Nsec3Wildcard, Glue, TargetCname, TargetMissing, Cds, CdsDelete, NullMx, ZonemdSerial, TlsaHost, SvcbAlias}
use Rattle.finding_codes.specs.declared.rule.Rule.{Rule}
use Rattle.rdata_values.specs.Rtype as Rtype
use Rattle.rdata_values.specs.declared.types.RecordType.{RecordType}
use Rattle.rdata_tokens.specs.PrintedNames.{labels_in_octets}
use Rattle.zone_record.specs.Parts.{data_part}
use Rattle.zone_record.specs.Records.{data_of}
use Rattle.zone_record.specs.declared.record.Record.{Record}
use Rattle.zone_rules.specs.Above.{is_below, is_wildcard}
use Rattle.zone_rules.specs.Findings.{found_at, found_if, found_of, record_rules}
use Rattle.zone_rules.specs.Rules.{breaks, breaks_in_way, is_apex_type, is_service_type}
use Rattle.zone_rules.specs.RulesByType.{has_host_field, may_break, may_break_code, HasRulesOf}
use Rattle.zone_rules.specs.Subjects.{alike}
use Rattle.zone_rules.specs.Zones.{as_listed, but_root, host_field, host_of, is_equal_record, record_before, type_of}
use Rattle.zone_rules.specs.declared.refused.RrsetName.{RrsetName}
use Rattle.zone_rules.proofs.PairTests.{other_owner, other_type}

-- ---- a record and one of another owner or type

never : (p q : Bool) → (p && (q && false)) ≡ false
never true true = refl
never true false = refl
never false q = refl

not_both : (m n k : ℕ) (s x : Bool) → ((m == n) && s) ≡ false → ((m == k) && ((n == k) && (s && x))) ≡ false
not_both m n k false x h = never (m == k) (n == k)
not_both m n k true x h = Prim.grind (arith, nat_tests, h)

not_one_set : (s c t q u : Bool) → (t && s) ≡ false → ((s && (c && (t && q))) && u) ≡ false
not_one_set false c t q u h = refl
not_one_set true false t q u h = refl
not_one_set true true false q u h = refl
not_one_set true true true q u h = cc

not_equal : {N O M P : Type 0} (a : Record N O) (b : Record M P) (t s : Bool) → (type_of a == type_of b) ≡ t → same_name a.owner b.owner ≡ s → (t && s) ≡ false → is_equal_record a b ≡ false
not_equal a b false s e f h = other_type a b e
not_equal a b true false e f h = other_owner a b f
not_equal a b true true e f h = cc

other_in_way : {N O M P : Type 0} (code : Code) (way : ℕ) (origin : List (List ℕ)) (records : List (Record N O)) (refused : List RrsetName) (b r : Record M P) → (type_of b == type_of r && same_name b.owner r.owner) ≡ false
    → breaks_in_way code way origin records refused None r ≡ breaks_in_way code way origin records refused (Some b) r
other_in_way Outside way origin records refused b r h = refl
other_in_way TwoSoas way origin records refused b r h = sym (not_both (type_of b) (type_of r) Rtype.soa (same_name b.owner r.owner) (not (is_equal_record b r)) h)
other_in_way NsAddress way origin records refused b r h = refl
other_in_way Cname way origin records refused b r h = refl
other_in_way Dname way origin records refused b r h = sym (not_both (type_of b) (type_of r) Rtype.dname (same_name b.owner r.owner) (not (is_equal_record b r)) h)
other_in_way BelowDname way origin records refused b r h = refl
other_in_way DsApex way origin records refused b r h = refl
other_in_way WildcardNs way origin records refused b r h = refl
other_in_way SoaNotApex way origin records refused b r h = refl
other_in_way NsBesideDname way origin records refused b r h = refl
other_in_way KeyBesideCname way origin records refused b r h = refl
other_in_way Nsec3Wildcard way origin records refused b r h = refl
other_in_way Glue way origin records refused b r h = refl
other_in_way TargetCname way origin records refused b r h = refl
other_in_way TargetMissing way origin records refused b r h = refl
other_in_way HostName way origin records refused b r h = refl
other_in_way Cds way origin records refused b r h = refl
other_in_way CdsDelete way origin records refused b r h = refl
other_in_way DsWithoutNs way origin records refused b r h = refl
other_in_way NotAtApex way origin records refused b r h = refl
other_in_way KeyProtocol way origin records refused b r h = refl
other_in_way KeyAlgorithm way origin records refused b r h = refl
other_in_way CnameTargetMissing way origin records refused b r h = refl
other_in_way CnameLoop way origin records refused b r h = refl
other_in_way TwoSpf way origin records refused b r h = refl
other_in_way WeakDigest way origin records refused b r h = refl
other_in_way SingleNs way origin records refused b r h = refl
other_in_way NullMx way origin records refused b r h = refl
other_in_way ZonemdSerial way origin records refused b r h = refl
other_in_way TlsaHost way origin records refused b r h = refl
other_in_way SvcbAlias way origin records refused b r h = refl
other_in_way TtlDiffers way origin records refused b r h = sym (not_one_set (same_name b.owner r.owner) (b.class == r.class) (type_of b == type_of r) _ _ h)
other_in_way Duplicate way origin records refused b r h = sym (not_equal b r (type_of b == type_of r) (same_name b.owner r.owner) refl refl h)
other_in_way _ way origin records refused b r h = refl

other_breaks : {N O M P : Type 0} (rule : Rule) (origin : List (List ℕ)) (records : List (Record N O)) (refused : List RrsetName) (b r : Record M P) → (type_of b == type_of r && same_name b.owner r.owner) ≡ false
    → breaks rule origin records refused None r ≡ breaks rule origin records refused (Some b) r
other_breaks rule origin records refused b r h = other_in_way rule.code rule.way origin records refused b r h

alike_if : {N O M P : Type 0} (rule : Rule) (origin : List (List ℕ)) (records : List (Record N O)) (refused : List RrsetName) (b r : Record M P) (t : Bool) → (type_of b == type_of r && same_name b.owner r.owner) ≡ t
    → breaks rule origin records refused (if t then Some b else None) r ≡ breaks rule origin records refused (Some b) r
alike_if rule origin records refused b r true h = refl
alike_if rule origin records refused b r false h = other_breaks rule origin records refused b r h

-- a record breaks the same rules if the one before it is left out because it has another owner or type
pub breaks_alike : {N O M P : Type 0} (rule : Rule) (origin : List (List ℕ)) (records : List (Record N O)) (refused : List RrsetName) (before : Option (Record M P)) (r : Record M P)
    → breaks rule origin records refused (option_and_then (alike r) before) r ≡ breaks rule origin records refused before r
breaks_alike rule origin records refused None r = refl
breaks_alike rule origin records refused (Some b) r = alike_if rule origin records refused b r (type_of b == type_of r && same_name b.owner r.owner) refl

-- ---- a record of a type that a rule does not ask for

first_false : (p q : Bool) → p ≡ false → (p && q) ≡ false
first_false true q h = cc
first_false false q h = refl

both_first : (p q s : Bool) → p ≡ false → ((p && q) && s) ≡ false
both_first true q s h = cc
both_first false q s h = refl

no_target : {T : Type 0} (test : T → Bool) (p : Bool) (x : Option T) → p ≡ false → option_map_or test (if p then x else None) false ≡ false
no_target test true x h = cc
no_target test false x h = refl

second_no : (p q : Bool) → q ≡ false → (p && q) ≡ false
second_no true q h = h
second_no false q h = refl

abbrev field_if : Bool → Bool → Bool → Option ℕ
field_if a b c = if a then Some 0 else (if b then Some 1 else (if c then Some 3 else None))

no_field_if : (a b c : Bool) → (a || (b || c)) ≡ false → field_if a b c ≡ None
no_field_if true b c e = cc
no_field_if false true c e = cc
no_field_if false false true e = cc
no_field_if false false false e = refl

no_field : (rtype : RecordType) → has_host_field rtype ≡ false → host_field rtype ≡ None
no_field rtype h = no_field_if (rtype == Rtype.ns) (rtype == Rtype.mx) (rtype == Rtype.srv) h

no_host : {N O : Type 0} (r : Record N O) → has_host_field (type_of r) ≡ false → host_of r ≡ None
no_host r h = ap (λ f. option_and_then but_root (option_map labels_in_octets (option_and_then (data_part (data_of r)) f))) (no_field (type_of r) h)

names_none : {N O : Type 0} (test : List (List ℕ) → Bool) (r : Record N O) → has_host_field (type_of r) ≡ false → option_map_or test (host_of r) false ≡ false
names_none test r h = ap (λ o. option_map_or test o false) (no_host r h)

first_no : (p q x y : Bool) → (p || q) ≡ false → ((p && x) || (q && y)) ≡ false
first_no true q x y h = cc
first_no false true x y h = cc
first_no false false x y h = refl

neither : (p q x y : Bool) → (p || q) ≡ false → ((p || (q && x)) && y) ≡ false
neither true q x y h = cc
neither false true x y h = cc
neither false false x y h = refl

either_way : (b x y : Bool) → x ≡ false → y ≡ false → (if b then x else y) ≡ false
either_way true x y h k = h
either_way false x y h k = k

neither_is : (p q : Bool) → (p || q) ≡ false → (p ≡ false) × (q ≡ false)
neither_is true q h = cc
neither_is false q h = (refl, h)

both_no : (p q : Bool) → p ≡ false → q ≡ false → (p || q) ≡ false
both_no true q h k = cc
both_no false q h k = k

none_in_way : {N O M P : Type 0} (code : Code) (way : ℕ) (origin : List (List ℕ)) (records : List (Record N O)) (refused : List RrsetName) (before : Option (Record M P)) (r : Record M P) → may_break_code (type_of r) code ≡ false
    → breaks_in_way code way origin records refused before r ≡ false
none_in_way Outside way origin records refused before r h = cc
none_in_way TwoSoas way origin records refused None r h = refl
none_in_way TwoSoas way origin records refused (Some b) r h = second_no (type_of b == Rtype.soa) _ (ap (λ t. t && (same_name b.owner r.owner && not (is_equal_record b r))) h)
none_in_way NsAddress way origin records refused before r h = both_first _ _ _ h
none_in_way Cname way origin records refused before r h = first_false _ _ h
none_in_way Dname way origin records refused None r h = refl
none_in_way Dname way origin records refused (Some b) r h = second_no (type_of b == Rtype.dname) _ (ap (λ t. t && (same_name b.owner r.owner && not (is_equal_record b r))) h)
none_in_way BelowDname way origin records refused before r h = cc
none_in_way DsApex way origin records refused before r h = ap (λ t. t && same_name r.owner origin) h
none_in_way WildcardNs way origin records refused before r h = ap (λ t. t && is_wildcard r.owner) h
none_in_way SoaNotApex way origin records refused before r h = ap (λ t. t && is_below r.owner origin) h
none_in_way NsBesideDname way origin records refused before r h = first_false _ _ h
none_in_way KeyBesideCname way origin records refused before r h = first_false _ _ h
none_in_way Nsec3Wildcard way origin records refused before r h = first_false _ _ h
none_in_way Glue way origin records refused before r h = first_false _ _ h
none_in_way TargetCname way origin records refused before r h = either_way (way == 0) _ _ (names_none _ r h) (names_none _ r h)
none_in_way TargetMissing way origin records refused before r h =
    let no = neither_is (has_host_field (type_of r)) (is_service_type (type_of r)) h in
    both_no _ _ (second_no _ _ (second_no (r.class == _) _ (names_none _ r no.0))) (no_target _ _ _ no.1)
none_in_way HostName way origin records refused before r h = cc
none_in_way Cds way origin records refused before r h = first_false _ _ h
none_in_way CdsDelete way origin records refused before r h = first_false _ _ h
none_in_way DsWithoutNs way origin records refused before r h = first_false _ _ h
none_in_way NotAtApex way origin records refused before r h = neither (is_apex_type (type_of r)) (type_of r == Rtype.dnskey) _ _ h
none_in_way KeyProtocol way origin records refused before r h = first_false _ _ h
none_in_way KeyAlgorithm way origin records refused before r h = first_no (type_of r == Rtype.dnskey) (type_of r == Rtype.ds) _ _ h
none_in_way CnameTargetMissing way origin records refused before r h = no_target _ _ _ h
none_in_way CnameLoop way origin records refused before r h = first_false _ _ h
none_in_way TwoSpf way origin records refused before r h = both_first _ _ _ h
none_in_way WeakDigest way origin records refused before r h = first_false _ _ h
none_in_way SingleNs way origin records refused before r h = first_false _ _ h
none_in_way NullMx way origin records refused before r h = both_first _ _ _ h
none_in_way ZonemdSerial way origin records refused before r h = both_first _ _ _ h
none_in_way TlsaHost way origin records refused before r h = second_no (r.class == _) _ (no_target _ _ _ h)
none_in_way SvcbAlias way origin records refused before r h = both_first _ _ _ h
none_in_way TtlDiffers way origin records refused before r h = cc
none_in_way Duplicate way origin records refused before r h = cc
none_in_way _ way origin records refused before r h = refl

none_breaks : {N O M P : Type 0} (rule : Rule) (origin : List (List ℕ)) (records : List (Record N O)) (refused : List RrsetName) (before : Option (Record M P)) (r : Record M P) → may_break (type_of r) rule ≡ false
    → breaks rule origin records refused before r ≡ false
none_breaks rule origin records refused before r h = none_in_way rule.code rule.way origin records refused before r h

-- ---- lists that have the rules of a type

pub is_code : (rtype code : ℕ) → (rtype == code) ≡ true → rtype ≡ code
is_code rtype code h = Prim.grind (arith, nat_tests, h)

pub has_rules : (rtype code : ℕ) (rules : List Rule) → rtype ≡ code → HasRulesOf code rules → HasRulesOf rtype rules
has_rules rtype code rules e h = subst (λ t. HasRulesOf t rules) (sym e) h

abbrev pub any_rules : List Rule
any_rules = coded_rule Outside 0 ∷ coded_rule BelowDname 0 ∷ coded_rule HostName 0 ∷ coded_rule TtlDiffers 0 ∷ coded_rule Duplicate 0 ∷ []

abbrev pub ns_rules : List Rule
ns_rules = coded_rule Outside 0 ∷ coded_rule NsAddress 0 ∷ coded_rule BelowDname 0 ∷ coded_rule WildcardNs 0 ∷ coded_rule Glue 0 ∷ coded_rule TargetCname 0 ∷ coded_rule TargetCname 1 ∷ coded_rule TargetMissing 0 ∷ coded_rule HostName 0 ∷ coded_rule SingleNs 0 ∷ coded_rule TtlDiffers 0 ∷ coded_rule Duplicate 0 ∷ []

abbrev pub mx_rules : List Rule
mx_rules = coded_rule Outside 0 ∷ coded_rule BelowDname 0 ∷ coded_rule TargetCname 0 ∷ coded_rule TargetCname 1 ∷ coded_rule TargetMissing 0 ∷ coded_rule HostName 0 ∷ coded_rule NullMx 0 ∷ coded_rule TtlDiffers 0 ∷ coded_rule Duplicate 0 ∷ []

abbrev pub srv_rules : List Rule
srv_rules = coded_rule Outside 0 ∷ coded_rule BelowDname 0 ∷ coded_rule TargetCname 0 ∷ coded_rule TargetCname 1 ∷ coded_rule TargetMissing 0 ∷ coded_rule HostName 0 ∷ coded_rule TtlDiffers 0 ∷ coded_rule Duplicate 0 ∷ []

abbrev pub cname_rules : List Rule
cname_rules = coded_rule Outside 0 ∷ coded_rule Cname 0 ∷ coded_rule BelowDname 0 ∷ coded_rule HostName 0 ∷ coded_rule CnameTargetMissing 0 ∷ coded_rule CnameLoop 0 ∷ coded_rule TtlDiffers 0 ∷ coded_rule Duplicate 0 ∷ []

abbrev pub txt_rules : List Rule
txt_rules = coded_rule Outside 0 ∷ coded_rule BelowDname 0 ∷ coded_rule HostName 0 ∷ coded_rule TwoSpf 0 ∷ coded_rule TtlDiffers 0 ∷ coded_rule Duplicate 0 ∷ []

abbrev pub ds_rules : List Rule
ds_rules = coded_rule Outside 0 ∷ coded_rule BelowDname 0 ∷ coded_rule DsApex 0 ∷ coded_rule HostName 0 ∷ coded_rule DsWithoutNs 0 ∷ coded_rule KeyAlgorithm 0 ∷ coded_rule WeakDigest 0 ∷ coded_rule TtlDiffers 0 ∷ coded_rule Duplicate 0 ∷ []

-- ---- the findings of a record, by the rules that it may break

filter_step : {A X : Type 0} (p : X → Bool) (f : X → List A) (x : X) (xs : List X) (b : Bool) → p x ≡ b → (p x ≡ false → f x ≡ []) → flat_map f (filter p xs) ≡ flat_map f xs
    → flat_map f (if b then x ∷ filter p xs else filter p xs) ≡ f x ++ flat_map f xs
filter_step p f x xs true e none rest = ap (λ l. f x ++ l) rest
filter_step p f x xs false e none rest = rest ∙ ap (λ l. l ++ flat_map f xs) (sym (none e))

flat_filter : {A X : Type 0} (p : X → Bool) (f : X → List A) → ((x : X) → p x ≡ false → f x ≡ []) → (xs : List X) → flat_map f (filter p xs) ≡ flat_map f xs
flat_filter p f none [] = refl
flat_filter p f none (x ∷ xs) = filter_step p f x xs (p x) refl (none x) (flat_filter p f none xs)

some_is : {X : Type 0} (x y : X) → Some x ≡ Some y → x ≡ y
some_is x y h = cc

nothing_of : {N O M P : Type 0} (origin : List (List ℕ)) (records : List (Record N O)) (refused : List RrsetName) (place : ℕ) (one : Record M P) (rule : Rule)
    → (o : Option (Record N O)) → Some one ≡ option_map as_listed o → may_break (type_of one) rule ≡ false
    → found_if (option_map_or (breaks rule origin records refused (record_before records place)) o false) rule (Some place) ≡ []
nothing_of origin records refused place one rule None e h = cc
nothing_of {N} {O} {M} {P} origin records refused place one rule (Some r) e h =
    let same : type_of one ≡ type_of r = ap (λ q. type_of q) (some_is one (as_listed r) e) in
    ap (λ b. found_if b rule (Some place)) (none_breaks rule origin records refused (record_before records place) r (ap (λ t. may_break t rule) (sym same) ∙ h))

-- the findings of a record are those of the rules that it may break
pub all_found : {N O M P : Type 0} (origin : List (List ℕ)) (records : List (Record N O)) (refused : List RrsetName) (place : ℕ) (one : Record M P) (rules : List Rule)
    → Some one ≡ option_map as_listed (slice_get records place) → HasRulesOf (type_of one) rules
    → flat_map (found_of origin records refused place) rules ≡ found_at origin records refused place
all_found origin records refused place one rules e has =
    sym (flat_filter (may_break (type_of one)) (found_of origin records refused place) (λ rule. nothing_of origin records refused place one rule (slice_get records place) e) rules)
    ∙ ap (flat_map (found_of origin records refused place)) has
    ∙ flat_filter (may_break (type_of one)) (found_of origin records refused place) (λ rule. nothing_of origin records refused place one rule (slice_get records place) e) record_rules
