-- Records of a zone have one owner if and only if they have one key.
use Rattle.std.proofs.Common.{ℕ, ◌≡◌, ◌<◌, Bool, true, false, List, length, map, refl, sym, ap, ◌∙◌}
use Rattle.std.specs.Prelude.{All, reverse}
use Rattle.std.specs.Cmp.Lexicographic.{bytes_decides, pointwise_decides}
use Rattle.std.specs.List.{flat_map}
use Rattle.std.specs.Option.{option_map_or}
use Rattle.std.specs.Ordering.{is_eq}
use Rattle.std.proofs.lemmas.Bool.{false≢true}
use Rattle.std.proofs.lemmas.Cmp.{tied_itself}
use Rattle.dns_octets.specs.Lowered.{lowered}
use Rattle.dns_wire.specs.Order.{same_name}
use Rattle.zone_record.specs.Keys.{label_key, order_key}
use Rattle.zone_record.proofs.Orders.{names_total}
use Rattle.zone_rules.specs.Zones.{is_one_owner}
use Rattle.zone_rules.proofs.Lookups.{same_is}
use Rattle.zone_contents.specs.Contents.{listing, IsZoneRecord}
use Rattle.zone_contents.specs.Keys.{name_in_zone, zone_key, IsNameKey}
use Rattle.zone_contents.proofs.Listings.{listed_get, valid_at}
use Rattle.zone_contents.proofs.ZoneNames.{lower_key, owner_is}
use Rattle.zone_store.specs.Stored.{record_at, AddedRecord}

same_itself : (name : List (List ℕ)) → same_name name name ≡ true
same_itself name = same_is name name ∙ ap is_eq (tied_itself names_total name)

module _ (apex : List (List ℕ)) where
  -- a key is that of its name
  pub key_back : (key : List ℕ) → IsNameKey apex key → key ≡ zone_key (order_key apex) (order_key (name_in_zone apex key))
  key_back key k = k.is ∙ ap (zone_key (order_key apex)) (sym (lower_key k.name) ∙ ap order_key (sym (owner_is apex key k)))

  same_key : (a b : List (List ℕ)) → same_name a b ≡ true → order_key a ≡ order_key b
  same_key a b h = ap (λ l. flat_map label_key (reverse l)) ((pointwise_decides bytes_decides (map lowered a) (map lowered b)).0 h)

  one_key : (key other : List ℕ) → IsNameKey apex key → IsNameKey apex other → same_name (name_in_zone apex key) (name_in_zone apex other) ≡ true → key ≡ other
  one_key key other k l h = key_back key k ∙ ap (zone_key (order_key apex)) (same_key (name_in_zone apex key) (name_in_zone apex other) h) ∙ sym (key_back other l)

  module _ (records : List AddedRecord) (are : All (IsZoneRecord apex) records) (i j : ℕ) (lt : i < length records) (less : j < length records) where
    abbrev left : List (List ℕ)
    left = name_in_zone apex (record_at records i).key

    abbrev right : List (List ℕ)
    right = name_in_zone apex (record_at records j).key

    owner_is_one : is_one_owner (listing apex records) i j ≡ same_name left right
    owner_is_one = λ p. option_map_or (λ a. option_map_or (λ b. same_name a.owner b.owner) (listed_get apex records j less p) false) (listed_get apex records i lt p) false

    pub one_owner : (found : Bool) → (found ≡ true → (record_at records i).key ≡ (record_at records j).key) → (found ≡ false → (record_at records i).key ≡ (record_at records j).key → ⊥)
        → found ≡ is_one_owner (listing apex records) i j
    one_owner found have lack = by found (same_name left right) refl refl ∙ sym owner_is_one
      where
        by : (b c : Bool) → found ≡ b → same_name left right ≡ c → found ≡ same_name left right
        by true true e f = e ∙ sym f
        by false false e f = e ∙ sym f
        by true false e f = absurd (false≢true (sym f ∙ ap (λ k. same_name left (name_in_zone apex k)) (sym (have e)) ∙ same_itself left))
        by false true e f = absurd (lack e (one_key (record_at records i).key (record_at records j).key (valid_at apex records are i lt).owner (valid_at apex records are j less).owner f))
