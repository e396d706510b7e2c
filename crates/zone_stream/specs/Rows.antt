-- Worked examples: shares, owners, the SOA that parts repeat, and the lines of a head.
use Rattle.std.specs.Prelude.{◌≡◌, ℕ, true, false, [], ◌∷◌, codes, decimal, Some, None, refl}
use Rattle.std.proofs.Common.{arith}
use Rattle.rdata.specs.GatewayKeys.{plain_word}
use Rattle.rdata_fields.specs.declared.record_ref.RecordRef.{RecordRef}
use Rattle.rdata_values.specs.Rtype as Rtype
use Rattle.rdata_values.specs.declared.types.RecordType.{RecordType}
use Rattle.zone_reader.specs.Past.{nothing_declared}
use Rattle.zone_reader.specs.declared.known.NameState.TheVariants.{Unset, Name}
use Rattle.zone_stream.specs.Cutting.{owner_changes, soa_to_repeat}
use Rattle.zone_stream.specs.Heads.{directive_lines}
use Rattle.zone_stream.specs.Shares.{BeginsShare, MayBegin, SharesSeen, no_shares, share_of}

-- 100 octets in three shares of 33
shares_row : no_shares 100 3 ≡ record { count = 3; size = 33; last = None; begun = 0 }
shares_row = refl

one_row : no_shares 100 0 ≡ record { count = 1; size = 100; last = None; begun = 0 }
one_row = refl

share_row : (share_of (no_shares 100 3) 32 ≡ 0) × (share_of (no_shares 100 3) 33 ≡ 1) × (share_of (no_shares 100 3) 500 ≡ 2)
share_row = (refl, refl, refl)

abbrev begun : SharesSeen
begun = record { count = 3; size = 33; last = Some 1; begun = 1 }

begins_row : BeginsShare (no_shares 100 3) 50 begun
begins_row = refl

too_early_row : MayBegin begun 65 → ⊥
too_early_row h = omega (arith, h)

may_row : MayBegin begun 66
may_row = omega arith

-- `www.` and `WWW.`
owner_row : (owner_changes (Name (codes "www" ∷ [] ∷ [])) (Name (codes "WWW" ∷ [] ∷ [])) ≡ false) × (owner_changes (Name (codes "a" ∷ [] ∷ [])) (Name (codes "b" ∷ [] ∷ [])) ≡ true)
owner_row = (refl, refl)

first_row : owner_changes Unset (Name (codes "a" ∷ [] ∷ [])) ≡ true
first_row = refl

-- a record at the root without RDATA
abbrev of_type : RecordType → ℕ → RecordRef
of_type rtype ttl = record {
  owner = record { ref_ptr = (0, 0); now = 0 ∷ [] };
  ttl = ttl;
  class = 1;
  rtype = rtype;
  «data» = record { ref_ptr = (0, 0); now = [] };
}

-- the first SOA among the records, and none unless parts repeat it
soa_row : (soa_to_repeat true (of_type Rtype.ns 1 ∷ of_type Rtype.soa 2 ∷ of_type Rtype.soa 3 ∷ []) ≡ Some (of_type Rtype.soa 2)) × (soa_to_repeat false (of_type Rtype.soa 2 ∷ []) ≡ None)
soa_row = (refl, refl)

-- an empty state has no lines; and `$TTL 60`
ttl_row : directive_lines (record (nothing_declared 1) { default_ttl = Some 60; last_ttl = Some 5 }) ≡ (plain_word (codes "$TTL") ∷ plain_word (decimal 60) ∷ []) ∷ []
ttl_row = refl

no_lines_row : directive_lines (nothing_declared 1) ≡ []
no_lines_row = refl
