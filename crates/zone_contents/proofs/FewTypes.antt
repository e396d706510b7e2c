-- Which types a name has, by the records that it owns.
use Rattle.std.proofs.Common.{ℕ, ◌≡◌, List, ◌∙◌, subst}
use Rattle.std.specs.Prelude.{All}
use Rattle.std.specs.List.Sorted.{IsSorted}
use Rattle.zone_contents.specs.Contents.{listing, IsZoneRecord}
use Rattle.zone_contents.specs.Keys.{key_in_zone}
use Rattle.zone_contents.specs.Searches.{has_type_within, EndsKey}
use Rattle.zone_contents.proofs.Listings.{owned_from, within_is}
use Rattle.zone_rules.specs.Zones.{has_type_at}
use Rattle.zone_store.specs.Stored.{AddedRecord, stored_order, CountsBeforeKey}

-- the types of the records with a key are those of the name
pub few_types : (apex name : List (List ℕ)) (records : List AddedRecord) (key front back : List ℕ) (first past code : ℕ) → All (IsZoneRecord apex) records → IsSorted stored_order records → key ≡ key_in_zone apex name → front ≡ key → back ≡ key
    → CountsBeforeKey front records first → EndsKey back records first past → has_type_within code records first past ≡ has_type_at code name (listing apex records)
few_types apex name records key front back first past code are sorted is f b point ends =
    let ends_is : EndsKey (key_in_zone apex name) records first past = subst (λ k. EndsKey k records first past) (b ∙ is) ends in
    within_is apex name records first past code ends_is.from (owned_from apex records are sorted name first past (subst (λ k. CountsBeforeKey k records first) (f ∙ is) point) ends_is)
