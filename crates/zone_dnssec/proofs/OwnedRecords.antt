-- Searches among the records of a name.
use Rattle.std.proofs.Common.{ℕ, zero, suc, ◌≡◌, ◌+◌, ◌<◌, ◌≤◌, ◌⊎◌, inl, inr, Bool, true, false, cond, Option, Some, None, List, [], ◌∷◌, ◌++◌, length, take, get_or, refl, sym, ap, ◌∙◌, arith}
use Rattle.std.specs.Prelude.{◌==◌, ◌&&◌, ◌||◌, IfSome, filter, is_some, option_and_then, slice_get}
use Rattle.std.specs.List.{AllWithin, find, flat_map, list_any}
use Rattle.std.specs.Option.{option_map, option_map_or}
use Rattle.std.proofs.lemmas.Bool.{cases_lt, false≢true}
use Rattle.std.proofs.lemmas.List.{take_more}
use Rattle.std.proofs.lemmas.Option.{get_or_from_slice_get}
use Rattle.dns_wire.specs.Order.{same_name}
use Rattle.zone_record.specs.declared.record.Record.{Record}
use Rattle.zone_rules.specs.Searches.{AreOwnedFrom}
use Rattle.zone_rules.specs.Zones.{as_listed}
use Rattle.zone_rules.proofs.Steps.{flat_map_one}
use Rattle.zone_dnssec.specs.OwnedRecords.{find_owned, has_owned, is_owned_wanted, is_wanted_record, is_wanted_in, FindsWithin}
use Rattle.zone_dnssec.specs.declared.owned.Wanted.{Wanted}
use Rattle.zone_dnssec.specs.declared.owned.Wanted.TheVariants.{Soa, Signature, FittingSignature, Ttl, Unlisted, RequestOf, Request, RequestNamed, Chain, MoreThanHashes, ValidSignature, SignatureBy, KeyWith, ApexSignature, SigningNote, CurrentSignature}
use Rattle.zone_dnssec.proofs.ChainLinks.{get_some}

pub some_is : {X : Type 0} {x y : X} → Some x ≡ Some y → x ≡ y
some_is f = cc

-- ---- a record of a list, with its octets in other types

pub of_listed : {N O R S : Type 0} {A : Type 0} (f : Record R S → A) (g : Record N O → A) → ((r : Record N O) → f (as_listed r) ≡ g r) → (o : Option (Record N O)) (x : Record R S) (d : A)
    → Some x ≡ option_map as_listed o → f x ≡ option_map_or g o d
of_listed f g h None x d e = cc
of_listed f g h (Some r) x d e = let is : x ≡ as_listed r = some_is e in ap f is ∙ h r

pub some_of_listed : {N O R S : Type 0} {A : Type 0} (f : Record R S → A) (g : Record N O → A) → ((r : Record N O) → f (as_listed r) ≡ g r) → (o : Option (Record N O)) (x : Record R S)
    → Some x ≡ option_map as_listed o → Some (f x) ≡ option_map g o
some_of_listed f g h None x e = cc
some_of_listed f g h (Some r) x e = let is : x ≡ as_listed r = some_is e in ap Some (ap f is ∙ h r)

listed_wanted : {N O : Type 0} (R S : Type 0) (wanted : Wanted) (r : Record N O) → is_wanted_record {N = R} {O = S} wanted (as_listed r) ≡ is_wanted_record wanted r
listed_wanted R S Soa r = refl
listed_wanted R S (Signature rtype) r = refl
listed_wanted R S (FittingSignature keys rtype) r = refl
listed_wanted R S (Ttl rtype ttl) r = refl
listed_wanted R S (Unlisted bitmap is_cut) r = refl
listed_wanted R S (RequestOf keys rtype) r = refl
listed_wanted R S (Request rtype) r = refl
listed_wanted R S (RequestNamed name rtype) r = refl
listed_wanted R S Chain r = refl
listed_wanted R S MoreThanHashes r = refl
listed_wanted R S (ValidSignature keys rtype) r = refl
listed_wanted R S (SignatureBy keys rtype algorithm) r = refl
listed_wanted R S (KeyWith algorithm) r = refl
listed_wanted R S ApexSignature r = refl
listed_wanted R S SigningNote r = refl
listed_wanted R S (CurrentSignature keys rtype instant) r = refl

pub wanted_in : {N O R S : Type 0} (wanted : Wanted) (o : Option (Record N O)) (x : Record R S) → Some x ≡ option_map as_listed o → is_wanted_record wanted x ≡ option_map_or (is_wanted_record wanted) o false
wanted_in wanted o x e = of_listed (is_wanted_record wanted) (is_wanted_record wanted) (listed_wanted _ _ wanted) o x false e

-- ---- the first item that passes a test

module _ {X : Type 0} (p : X → Bool) where
  pub find_at : (xs : List X) (place : ℕ) → AllWithin (λ x. p x ≡ false) xs 0 place → option_map_or p (slice_get xs place) false ≡ true → find p xs ≡ slice_get xs place
  find_at [] place h k = absurd (false≢true k)
  find_at (x ∷ xs) zero h k = ap (λ b. cond b (Some x) (find p xs)) k
  find_at (x ∷ xs) (suc n) h k =
      ap (λ b. cond b (Some x) (find p xs)) (h 0 x (omega arith) (omega arith)) ∙ find_at xs n (λ i d low lt. h (suc i) d (omega arith) (omega arith)) k

  pub find_none : (xs : List X) → ((i : ℕ) (d : X) → i < length xs → p (get_or xs i d) ≡ false) → find p xs ≡ None
  find_none [] h = refl
  find_none (x ∷ xs) h = ap (λ b. cond b (Some x) (find p xs)) (h 0 x (omega arith)) ∙ find_none xs (λ i d lt. h (suc i) d (omega arith))

  any_is_found : (xs : List X) → is_some (find p xs) ≡ list_any p xs
  any_is_found [] = refl
  any_is_found (x ∷ xs) = by (p x) (any_is_found xs)
    where
      by : (b : Bool) → is_some (find p xs) ≡ list_any p xs → is_some (cond b (Some x) (find p xs)) ≡ (b || list_any p xs)
      by true h = refl
      by false h = h

-- ---- records of a name

module _ {N O : Type 0} (wanted : Wanted) (name : List (List ℕ)) (records : List (Record N O)) (first past : ℕ) (owned : AreOwnedFrom name records first past) where
  other_owner : (r : Record N O) → same_name r.owner name ≡ false → is_owned_wanted wanted name r ≡ false
  other_owner r h = ap (λ b. b && is_wanted_record wanted r) h

  other_kind : (r : Record N O) → is_wanted_record wanted r ≡ false → is_owned_wanted wanted name r ≡ false
  other_kind r h = ap (λ b. same_name r.owner name && b) h ∙ by (same_name r.owner name)
    where
      by : (b : Bool) → (b && false) ≡ false
      by true = refl
      by false = refl

  found_first : (place : ℕ) → first ≤ place → place < past → AllWithin (λ r. is_wanted_record wanted r ≡ false) records first place → option_map_or (is_wanted_record wanted) (slice_get records place) false ≡ true
      → slice_get records place ≡ find_owned wanted name records
  found_first place low lt none h = sym (find_at (is_owned_wanted wanted name) records place before (at (slice_get records place) refl))
    where
      before : AllWithin (λ r. is_owned_wanted wanted name r ≡ false) records 0 place
      before i d from less = by (cases_lt i first)
        where
          by : (i < first) ⊎ (first ≤ i) → is_owned_wanted wanted name (get_or records i d) ≡ false
          by (inl k) = other_owner (get_or records i d) (owned.before i d (omega arith) k)
          by (inr k) = other_kind (get_or records i d) (none i d k less)

      at : (o : Option (Record N O)) → slice_get records place ≡ o → option_map_or (is_owned_wanted wanted name) o false ≡ true
      at None e = absurd (false≢true (sym (ap (λ x. option_map_or (is_wanted_record wanted) x false) e) ∙ h))
      at (Some r) e =
          let is : get_or records place r ≡ r = get_or_from_slice_get records place r r e in
          let mine : same_name r.owner name ≡ true = ap (λ x. same_name x.owner name) (sym is) ∙ owned.owned place r low lt in
          ap (λ b. b && is_wanted_record wanted r) mine ∙ (sym (ap (λ x. option_map_or (is_wanted_record wanted) x false) e) ∙ h)

  found_none : AllWithin (λ r. is_wanted_record wanted r ≡ false) records first past → None ≡ find_owned wanted name records
  found_none none = sym (find_none (is_owned_wanted wanted name) records (λ i d lt. from i d lt (cases_lt i first)))
    where
      later : (i : ℕ) (d : Record N O) → i < length records → first ≤ i → (i < past) ⊎ (past ≤ i) → is_owned_wanted wanted name (get_or records i d) ≡ false
      later i d lt low (inl less) = other_kind (get_or records i d) (none i d low less)
      later i d lt low (inr more) = other_owner (get_or records i d) (owned.after i d more lt)

      from : (i : ℕ) (d : Record N O) → i < length records → (i < first) ⊎ (first ≤ i) → is_owned_wanted wanted name (get_or records i d) ≡ false
      from i d lt (inl less) = other_owner (get_or records i d) (owned.before i d (omega arith) less)
      from i d lt (inr low) = later i d lt low (cases_lt i past)

  pub find_is : (o : Option ℕ) → FindsWithin wanted records first past o → option_and_then (slice_get records) o ≡ find_owned wanted name records
  find_is None h = found_none h
  find_is (Some place) h = found_first place h.0 h.1 h.2 h.3

  pub find_bound : (o : Option ℕ) → FindsWithin wanted records first past o → IfSome o (λ place. place < length records)
  find_bound None h = tt
  find_bound (Some place) h = omega (arith, h.1, owned.bound)

  some_found : (o : Option ℕ) → FindsWithin wanted records first past o → is_some o ≡ is_some (option_and_then (slice_get records) o)
  some_found None h = refl
  some_found (Some place) h = sym (get_some records place (omega (arith, h.1, owned.bound)))

  pub has_is : (o : Option ℕ) → FindsWithin wanted records first past o → is_some o ≡ has_owned wanted name records
  has_is o h = some_found o h ∙ ap is_some (find_is o h) ∙ any_is_found (is_owned_wanted wanted name) records

-- ---- lists of the items of a name

module _ {X A : Type 0} (p : X → Bool) (f : X → List A) where
  step : (x : X) (xs : List X) (b : Bool) → flat_map f (filter p xs) ≡ flat_map (λ y. cond (p y) (f y) []) xs
      → flat_map f (cond b (x ∷ filter p xs) (filter p xs)) ≡ cond b (f x) [] ++ flat_map (λ y. cond (p y) (f y) []) xs
  step x xs true h = ap (λ l. f x ++ l) h
  step x xs false h = h

  pub listed_in_filter : (xs : List X) → flat_map f (filter p xs) ≡ flat_map (λ x. cond (p x) (f x) []) xs
  listed_in_filter [] = refl
  listed_in_filter (x ∷ xs) = step x xs (p x) (listed_in_filter xs)

  pub nothing_listed : (xs : List X) (n : ℕ) → AllWithin (λ x. p x ≡ false) xs 0 n → flat_map (λ x. cond (p x) (f x) []) (take n xs) ≡ []
  nothing_listed xs zero h = refl
  nothing_listed [] (suc n) h = refl
  nothing_listed (x ∷ xs) (suc n) h =
      ap (λ b. cond b (f x) [] ++ flat_map (λ y. cond (p y) (f y) []) (take n xs)) (h 0 x (omega arith) (omega arith)) ∙ nothing_listed xs n (λ i d low lt. h (suc i) d (omega arith) (omega arith))

  pub all_listed : (xs : List X) (n : ℕ) → AllWithin (λ x. p x ≡ false) xs n (length xs) → flat_map (λ x. cond (p x) (f x) []) (take n xs) ≡ flat_map (λ x. cond (p x) (f x) []) xs
  all_listed [] zero h = refl
  all_listed [] (suc n) h = refl
  all_listed (x ∷ xs) zero h =
      all_listed xs zero (λ i d low lt. h (suc i) d (omega arith) (omega arith))
      ∙ sym (ap (λ b. cond b (f x) [] ++ flat_map (λ y. cond (p y) (f y) []) xs) (h 0 x (omega arith) (omega arith)))
  all_listed (x ∷ xs) (suc n) h = ap (λ l. cond (p x) (f x) [] ++ l) (all_listed xs n (λ i d low lt. h (suc i) d (omega arith) (omega arith)))

  pub one_listed : (xs : List X) (i : ℕ) → i < length xs → ((d : X) → p (get_or xs i d) ≡ true)
      → flat_map (λ x. cond (p x) (f x) []) (take (i + 1) xs) ≡ flat_map (λ x. cond (p x) (f x) []) (take i xs) ++ option_map_or f (slice_get xs i) []
  one_listed xs i lt mine = by (slice_get xs i) refl
    where
      by : (o : Option X) → slice_get xs i ≡ o → flat_map (λ x. cond (p x) (f x) []) (take (i + 1) xs) ≡ flat_map (λ x. cond (p x) (f x) []) (take i xs) ++ option_map_or f o []
      by None e = absurd (false≢true (ap is_some (sym e) ∙ get_some xs i lt))
      by (Some x) e =
          ap (flat_map (λ y. cond (p y) (f y) [])) (take_more xs i x lt)
          ∙ flat_map_one (λ y. cond (p y) (f y) []) (take i xs) (get_or xs i x)
          ∙ ap (λ b. flat_map (λ y. cond (p y) (f y) []) (take i xs) ++ cond b (f (get_or xs i x)) []) (mine x)
          ∙ ap (λ y. flat_map (λ z. cond (p z) (f z) []) (take i xs) ++ f y) (get_or_from_slice_get xs i x x e)
