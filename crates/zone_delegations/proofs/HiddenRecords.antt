-- The records that are hidden.
use Rattle.std.proofs.Common.{ℕ, zero, suc, ◌≡◌, ◌<◌, Bool, true, false, Option, Some, None, List, [], ◌∷◌, ◌++◌, length, refl, sym, ap, ◌∙◌, arith, append-nil}
use Rattle.std.specs.Prelude.{◌==◌, ◌&&◌, ◌||◌, not, slice_get}
use Rattle.std.specs.List.{flat_map, list_any, range_with_len}
use Rattle.std.specs.Option.{option_map, option_map_or}
use Rattle.std.proofs.lemmas.Bool.{false≢true}
use Rattle.rdata_values.specs.Rtype as Rtype
use Rattle.rdata_values.specs.declared.types.RecordType.{RecordType}
use Rattle.zone_record.specs.declared.record.Record.{Record}
use Rattle.zone_rules.specs.Above.{names_above}
use Rattle.zone_rules.specs.Rules.{is_below_zone_cut, is_zone_cut}
use Rattle.zone_rules.specs.Zones.{type_of}
use Rattle.zone_rules.specs.declared.refused.RrsetName.{RrsetName}
use Rattle.zone_delegations.specs.Hidden.{delegation_of, hidden_if, hidden_places, is_delegating, is_glue_record, is_hidden_at, is_hidden_record, is_name_among, is_parent_type, server_of}
use Rattle.zone_delegations.specs.Owners.{hides, is_glue, is_of_child, owner_at, type_at}
use Rattle.zone_delegations.proofs.SameOwners.{any_off, cut_is, no_cut}

-- a list with an element that passes a test is not empty
pub any_some : {X : Type 0} (p : X → Bool) (xs : List X) → list_any p xs ≡ true → 0 < length xs
any_some p [] h = absurd (false≢true h)
any_some p (x ∷ xs) h = omega arith

pub any_found : {X : Type 0} (p : X → Bool) (xs : List X) (k : ℕ) → option_map_or p (slice_get xs k) false ≡ true → list_any p xs ≡ true
any_found p [] k h = absurd (false≢true h)
any_found p (x ∷ xs) zero h = ap (λ b. b || list_any p xs) h
any_found p (x ∷ xs) (suc k) h = by (p x) (any_found p xs k h)
  where
    by : (b : Bool) → list_any p xs ≡ true → (b || list_any p xs) ≡ true
    by true e = refl
    by false e = e

and_off : (b : Bool) → (b && false) ≡ false
and_off true = refl
and_off false = refl

-- no index is added for a record that is not hidden
pub none_added : (found : List ℕ) (place : ℕ) (is_hidden : Bool) → is_hidden ≡ false → found ≡ found ++ hidden_if is_hidden place
none_added found place is_hidden h = sym (append-nil found) ∙ ap (λ b. found ++ hidden_if b place) (sym h)

-- ---- a zone without delegations

none_at : {X : Type 0} (p : X → Bool) → ((x : X) → p x ≡ false) → (o : Option X) → option_map_or p o false ≡ false
none_at p h None = refl
none_at p h (Some x) = h x

none_flat : {X : Type 0} (f : ℕ → List X) → ((n : ℕ) → f n ≡ []) → (ns : List ℕ) → flat_map f ns ≡ []
none_flat f h [] = refl
none_flat f h (n ∷ ns) = λ i. h n i ++ none_flat f h ns i

module _ {N O : Type 0} (origin : List (List ℕ)) (records : List (Record N O)) (refused : List RrsetName) where
  pub nothing_hidden : list_any (is_delegating origin) records ≡ false → hidden_places origin records refused ≡ []
  nothing_hidden h =
      none_flat (λ place. hidden_if (is_hidden_at origin records refused place) place)
      (λ place. ap (λ b. hidden_if b place) (none_at (is_hidden_record origin records refused) each (slice_get records place))) (range_with_len 0 (length records))
    where
      each : (r : Record N O) → is_hidden_record origin records refused r ≡ false
      each r =
          λ i. (any_off (is_zone_cut origin records) (no_cut origin records h) (names_above r.owner) i || (no_cut origin records h r.owner i && not (is_parent_type (type_of r))))
          && not (is_glue_record origin records refused r)

  -- ---- by what is known of the owner

  pub hidden_is : (place : ℕ) (rtype : RecordType) (is_below is_cut may_be_server is_server : Bool)
      → rtype ≡ type_at records place
      → is_below ≡ option_map_or (is_below_zone_cut origin records) (owner_at records place) false
      → is_cut ≡ option_map_or (is_name_among (delegation_of origin) records) (owner_at records place) false
      → may_be_server ≡ list_any (λ s. s.rtype == Rtype.ns) refused
      → is_server ≡ option_map_or (is_name_among (server_of origin) records) (owner_at records place) false
      → hides rtype is_below is_cut may_be_server is_server ≡ is_hidden_at origin records refused place
  hidden_is place rtype is_below is_cut may_be_server is_server a b c d e =
      (λ i. hides (a i) (b i) (c i) (d i) (e i)) ∙ by (slice_get records place)
    where
      by : (o : Option (Record N O))
          → hides (option_map_or type_of o 0) (option_map_or (is_below_zone_cut origin records) (option_map (λ r. r.owner) o) false)
          (option_map_or (is_name_among (delegation_of origin) records) (option_map (λ r. r.owner) o) false) (list_any (λ s. s.rtype == Rtype.ns) refused)
          (option_map_or (is_name_among (server_of origin) records) (option_map (λ r. r.owner) o) false)
          ≡ option_map_or (is_hidden_record origin records refused) o false
      by None = refl
      by (Some r) =
          ap (λ cut. (is_below_zone_cut origin records r.owner || (cut && not (is_parent_type (type_of r)))) && not (is_glue_record origin records refused r)) (cut_is origin records r.owner)

  pub glue_is : (place : ℕ) (rtype : RecordType) (may_be_server is_server : Bool)
      → rtype ≡ type_at records place
      → may_be_server ≡ list_any (λ s. s.rtype == Rtype.ns) refused
      → is_server ≡ option_map_or (is_name_among (server_of origin) records) (owner_at records place) false
      → is_glue rtype may_be_server is_server ≡ true
      → is_hidden_at origin records refused place ≡ false
  glue_is place rtype may_be_server is_server a d e h =
      let below : Bool = option_map_or (is_below_zone_cut origin records) (owner_at records place) false in
      let cut : Bool = option_map_or (is_name_among (delegation_of origin) records) (owner_at records place) false in
      sym (hidden_is place rtype below cut may_be_server is_server a refl refl d e) ∙ ap (λ g. is_of_child rtype below cut && not g) h ∙ and_off (is_of_child rtype below cut)
