-- Searches among the records of a name: words for private functions.
use Rattle.std.specs.Prelude.{◌≡◌, ℕ, ◌<◌, ◌≤◌, ◌&&◌, Bool, true, false, Option, Some, None, List, slice_get}
use Rattle.std.specs.List.{AllWithin, find, list_any}
use Rattle.std.specs.Option.{option_map_or}
use Rattle.dns_wire.specs.Order.{same_name}
use Rattle.zone_record.specs.declared.record.Record.{Record}
use Rattle.zone_cuts.specs.Glue.{is_equal_data}
use Rattle.zone_cuts.specs.Servers.{is_other_server, is_server_with}
use Rattle.zone_cuts.specs.Signers.{is_fitting_ds, is_key_of_ds}
use Rattle.zone_cuts.specs.declared.owned.Sought.{Sought}
use Rattle.zone_cuts.specs.declared.owned.Sought.TheVariants.{Server, Equal, Key}

-- a record is sought
abbrev pub is_sought : {N O : Type 0} → Sought → Record N O → Bool
is_sought (Server host) r = is_server_with host.now r
is_sought (Equal rtype octets) r = is_equal_data rtype octets.now r
is_sought (Key owner ds) r = is_key_of_ds owner.now ds.now r

-- the record at an index passes a test
abbrev pub passes_at : {N O : Type 0} → (Record N O → Bool) → List (Record N O) → ℕ → Bool
passes_at test records place = option_map_or test (slice_get records place) false

-- a record of a name passes a test
abbrev pub is_owned_passing : {N O : Type 0} → (Record N O → Bool) → List (List ℕ) → Record N O → Bool
is_owned_passing test name r = same_name r.owner name && test r

abbrev pub has_passing : {N O : Type 0} → (Record N O → Bool) → List (List ℕ) → List (Record N O) → Bool
has_passing test name records = list_any (is_owned_passing test name) records

-- the first index from one up to another at which a record passes a test
abbrev pub FindsPassing : {N O : Type 0} → (Record N O → Bool) → List (Record N O) → ℕ → ℕ → Option ℕ → Type 0
FindsPassing test records first past None = AllWithin (λ r. test r ≡ false) records first past
FindsPassing test records first past (Some place) =
    (first ≤ place) × (place < past) × AllWithin (λ r. test r ≡ false) records first place × (passes_at test records place ≡ true)

-- the first index at which an NS has a host that no NS at a name has among others, and at which a DS fits a key of the child
abbrev pub FindsNs : {N O M P : Type 0} → List (List ℕ) → List (Record N O) → List (Record M P) → ℕ → ℕ → Option ℕ → Type 0
FindsNs name others records first past found = FindsPassing (is_other_server name others) records first past found

abbrev pub FindsDs : {N O M P : Type 0} → List (List ℕ) → List (Record N O) → List (Record M P) → ℕ → ℕ → Option ℕ → Type 0
FindsDs name child parent first past found = FindsPassing (is_fitting_ds name child) parent first past found
