-- Names that differ at most in the case of letters: they are below the same names, and are the same delegations.
use Rattle.std.proofs.Common.{ℕ, ◌≡◌, Bool, true, false, Option, Some, None, List, [], ◌∷◌, map, refl, sym, ap, ◌∙◌}
use Rattle.std.specs.Prelude.{◌==◌, ◌&&◌, ◌||◌, nat_eq, if◌then◌else◌}
use Rattle.std.specs.Cmp.Lexicographic.{bytes_decides, pointwise, pointwise_decides}
use Rattle.std.specs.List.{list_any}
use Rattle.std.specs.Option.{option_map, option_map_or}
use Rattle.std.specs.Ordering.{is_eq}
use Rattle.std.proofs.lemmas.Bool.{false≢true}
use Rattle.std.proofs.lemmas.Cmp.{tied_itself}
use Rattle.dns_octets.specs.Lowered.{lowered}
use Rattle.dns_wire.specs.Order.{same_name}
use Rattle.rdata_values.specs.Rtype as Rtype
use Rattle.zone_record.proofs.Orders.{names_total}
use Rattle.zone_record.specs.declared.record.Record.{Record}
use Rattle.zone_rules.specs.Above.{is_below, names_above}
use Rattle.zone_rules.specs.Rules.{is_below_zone_cut, is_zone_cut}
use Rattle.zone_rules.specs.Zones.{type_of}
use Rattle.zone_rules.proofs.Lookups.{same_is}
use Rattle.zone_delegations.specs.Hidden.{delegation_of, is_delegating, is_name_among}

abbrev alike : List (List ℕ) → List (List ℕ) → Bool
alike x y = pointwise (pointwise nat_eq) x y

lowered_same : (a b : List (List ℕ)) → same_name a b ≡ true → map lowered a ≡ map lowered b
lowered_same a b h = (pointwise_decides bytes_decides (map lowered a) (map lowered b)).0 h

pub same_itself : (a : List (List ℕ)) → same_name a a ≡ true
same_itself a = same_is a a ∙ ap is_eq (tied_itself names_total a)

same_turned : (a b : List (List ℕ)) → same_name a b ≡ true → same_name b a ≡ true
same_turned a b h = ap (λ l. alike (map lowered b) l) (lowered_same a b h) ∙ same_itself b

-- two names that are the same as a third
pub same_both : (a b other : List (List ℕ)) → same_name a other ≡ true → same_name b other ≡ true → same_name a b ≡ true
same_both a b other h k = ap (λ l. alike (map lowered a) l) (lowered_same b other k ∙ sym (lowered_same a other h)) ∙ same_itself a

same_sym : (a b : List (List ℕ)) → same_name a b ≡ same_name b a
same_sym a b = by (same_name a b) (same_name b a) refl refl
  where
    by : (x y : Bool) → same_name a b ≡ x → same_name b a ≡ y → x ≡ y
    by true true e f = refl
    by false false e f = refl
    by true false e f = absurd (false≢true (sym f ∙ same_turned a b e))
    by false true e f = absurd (false≢true (sym e ∙ same_turned b a f))

-- ---- names that they are below

abbrev below_lowered : List (List ℕ) → List (List ℕ) → Bool
below_lowered top labels = list_any (λ above. alike above (map lowered top)) (names_above labels)

below_is : (top a : List (List ℕ)) → is_below a top ≡ below_lowered top (map lowered a)
below_is top [] = refl
below_is top (l ∷ []) = refl
below_is top (l ∷ n ∷ o) = ap (λ b. same_name (n ∷ o) top || b) (below_is top (n ∷ o))

below_same : (top a b : List (List ℕ)) → same_name a b ≡ true → is_below a top ≡ is_below b top
below_same top a b h = below_is top a ∙ ap (below_lowered top) (lowered_same a b h) ∙ sym (below_is top b)

-- ---- tests of lists

any_same : {X : Type 0} (p q : X → Bool) → ((x : X) → p x ≡ q x) → (xs : List X) → list_any p xs ≡ list_any q xs
any_same p q h [] = refl
any_same p q h (x ∷ xs) = λ i. h x i || any_same p q h xs i

any_and : {X : Type 0} (b : Bool) (p : X → Bool) (xs : List X) → list_any (λ x. b && p x) xs ≡ (b && list_any p xs)
any_and true p xs = refl
any_and false p [] = refl
any_and false p (x ∷ xs) = any_and false p xs

pub any_off : {X : Type 0} (p : X → Bool) → ((x : X) → p x ≡ false) → (xs : List X) → list_any p xs ≡ false
any_off p h [] = refl
any_off p h (x ∷ xs) = λ i. h x i || any_off p h xs i

-- ---- names of records

-- the same name is one of the names of records
pub named_same : {N O : Type 0} (names : Record N O → Option (List (List ℕ))) (records : List (Record N O)) (a b : List (List ℕ)) → same_name a b ≡ true → is_name_among names records a ≡ is_name_among names records b
named_same names records a b h = ap (λ l. list_any (λ r. option_map_or (λ other. alike l (map lowered other)) (names r) false) records) (lowered_same a b h)

chosen : (p : List (List ℕ) → Bool) (owner : List (List ℕ)) (b : Bool) → option_map_or p (if b then Some owner else None) false ≡ (b && p owner)
chosen p owner true = refl
chosen p owner false = refl

turned : (t w : Bool) → ((t && w) && true) ≡ (w && (true && t))
turned true true = refl
turned true false = refl
turned false true = refl
turned false false = refl

both_off : (a b t : Bool) → (a && false) ≡ (b && (false && t))
both_off true true t = refl
both_off true false t = refl
both_off false true t = refl
both_off false false t = refl

arranged : (s other t w whole : Bool) → other ≡ s → (s ≡ true → w ≡ whole) → ((t && w) && other) ≡ (whole && (s && t))
arranged true other t w whole e h = (λ i. (t && h refl i) && e i) ∙ turned t whole
arranged false other t w whole e h = ap (λ b. (t && w) && b) e ∙ both_off (t && w) whole t

module _ {N O : Type 0} (origin : List (List ℕ)) (records : List (Record N O)) where
  -- a name is the owner of an NS below the apex if and only if it is a delegation
  pub cut_is : (name : List (List ℕ)) → is_name_among (delegation_of origin) records name ≡ is_zone_cut origin records name
  cut_is name =
      any_same (λ r. option_map_or (λ other. same_name name other) (delegation_of origin r) false) (λ r. is_below name origin && (same_name r.owner name && type_of r == Rtype.ns)) each records
      ∙ any_and (is_below name origin) (λ r. same_name r.owner name && type_of r == Rtype.ns) records
    where
      each : (r : Record N O) → option_map_or (λ other. same_name name other) (delegation_of origin r) false ≡ (is_below name origin && (same_name r.owner name && type_of r == Rtype.ns))
      each r =
          chosen (λ other. same_name name other) r.owner (is_delegating origin r)
          ∙ arranged (same_name r.owner name) (same_name name r.owner) (type_of r == Rtype.ns) (is_below r.owner origin) (is_below name origin) (same_sym name r.owner) (below_same origin r.owner name)

  -- of a name in lower case
  abbrev cut_lowered : List (List ℕ) → Bool
  cut_lowered name = list_any (λ r. option_map_or (λ other. alike name (map lowered other)) (delegation_of origin r) false) records

  below_cut_by : (name : List (List ℕ)) → is_below_zone_cut origin records name ≡ list_any cut_lowered (names_above (map lowered name))
  below_cut_by [] = refl
  below_cut_by (l ∷ []) = refl
  below_cut_by (l ∷ n ∷ o) = λ i. sym (cut_is (n ∷ o)) i || below_cut_by (n ∷ o) i

  below_cut_same : (a b : List (List ℕ)) → same_name a b ≡ true → is_below_zone_cut origin records a ≡ is_below_zone_cut origin records b
  below_cut_same a b h = below_cut_by a ∙ ap (λ l. list_any cut_lowered (names_above l)) (lowered_same a b h) ∙ sym (below_cut_by b)

  -- records of one owner are below the same delegations
  pub below_alike : (o p : Option (Record N O)) → option_map_or (λ a. option_map_or (λ b. same_name a.owner b.owner) p false) o false ≡ true
      → option_map_or (is_below_zone_cut origin records) (option_map (λ r. r.owner) o) false ≡ option_map_or (is_below_zone_cut origin records) (option_map (λ r. r.owner) p) false
  below_alike None p h = cc
  below_alike (Some x) None h = cc
  below_alike (Some x) (Some y) h = below_cut_same x.owner y.owner h

-- ---- a zone without delegations

first_off : (b c : Bool) → (b || c) ≡ false → b ≡ false
first_off true c h = absurd (false≢true (sym h))
first_off false c h = refl

second_off : (b c : Bool) → (b || c) ≡ false → c ≡ false
second_off true c h = absurd (false≢true (sym h))
second_off false c h = h

none_named : {N O : Type 0} (origin name : List (List ℕ)) (records : List (Record N O)) → list_any (is_delegating origin) records ≡ false → is_name_among (delegation_of origin) records name ≡ false
none_named origin name [] h = refl
none_named origin name (r ∷ rs) h =
    let off : is_delegating origin r ≡ false = first_off (is_delegating origin r) (list_any (is_delegating origin) rs) h in
    λ i. (chosen (λ other. same_name name other) r.owner (is_delegating origin r) ∙ ap (λ b. b && same_name name r.owner) off) i
    || none_named origin name rs (second_off (is_delegating origin r) (list_any (is_delegating origin) rs) h) i

pub no_cut : {N O : Type 0} (origin : List (List ℕ)) (records : List (Record N O)) → list_any (is_delegating origin) records ≡ false → (name : List (List ℕ)) → is_zone_cut origin records name ≡ false
no_cut origin records h name = sym (cut_is origin records name) ∙ none_named origin name records h
