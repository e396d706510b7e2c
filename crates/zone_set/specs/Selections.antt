-- Which records are selected, by their types.
use Rattle.std.specs.Prelude.{◌≡◌, Bool, false, ◌==◌, ◌&&◌, ◌||◌, not, if◌then◌else◌, List, [], length}
use Rattle.std.specs.List.{list_any}
use Rattle.rdata_values.specs.Rtype as Rtype
use Rattle.rdata_values.specs.declared.types.RecordType.{RecordType}
use Rattle.zone_set.specs.DnssecTypes.{dnssec_types}
use Rattle.zone_set.specs.declared.selection.Selection.{Selection}

-- a type is listed, or the list is empty
abbrev pub is_wanted : List RecordType → RecordType → Bool
is_wanted types rtype = length types == 0 || list_any (λ t. t == rtype) types

-- SOAs may be left out
abbrev pub includes_soa : Selection → RecordType → Bool
includes_soa s rtype = not (s.without_soa && rtype == Rtype.soa)

-- and so may what signing adds, or all else
abbrev pub includes_signing : Selection → RecordType → Bool
includes_signing s rtype = if list_any (λ t. t == rtype) dnssec_types then not s.without_dnssec else not s.only_dnssec

abbrev pub is_selected : Selection → RecordType → Bool
is_selected s rtype = is_wanted s.types.now rtype && includes_soa s rtype && includes_signing s rtype

-- no types are listed, and none are left out
abbrev pub IsUnlimited : Selection → Type 0
IsUnlimited s = (s.types.now ≡ []) × (s.without_soa ≡ false) × (s.without_dnssec ≡ false) × (s.only_dnssec ≡ false)
