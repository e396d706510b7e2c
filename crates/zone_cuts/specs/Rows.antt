-- Worked examples of zone cuts, each computed.
use Rattle.std.specs.Prelude.{◌≡◌, ℕ, true, false, Some, None, List, [], ◌∷◌, codes, refl}
use Rattle.dns_wire.specs.Wire.{wire}
use Rattle.rdata_values.specs.Rtype as Rtype
use Rattle.rdata_values.specs.declared.types.RecordType.{RecordType}
use Rattle.zone_record.specs.declared.record.Record.{Record}
use Rattle.zone_cuts.specs.Digests.{ds_fits, is_tagged_key}
use Rattle.zone_cuts.specs.Glue.{is_at_served_cut, is_other_glue}
use Rattle.zone_cuts.specs.Servers.{have_other_servers}
use Rattle.zone_dnssec.specs.SignedApex.{has_apex_signature}
use Rattle.zone_cuts.specs.Signers.{lacks_fitting_ds}

-- `example.`, `sub.example.`, and names below it
abbrev top : List (List ℕ)
top = codes "example" ∷ [] ∷ []

abbrev sub : List (List ℕ)
sub = codes "sub" ∷ top

abbrev host : List (List ℕ)
host = codes "ns" ∷ sub

abbrev outside : List (List ℕ)
outside = codes "ns" ∷ codes "o" ∷ [] ∷ []

abbrev entry : List (List ℕ) → RecordType → List ℕ → Record ℕ ℕ
entry owner rtype octets = record { owner = owner; ttl = 60; class = 1; «data» = record { rtype = rtype; octets = octets } }

abbrev server : List (List ℕ) → List (List ℕ) → Record ℕ ℕ
server owner name = entry owner Rtype.ns (wire name)

abbrev address : List (List ℕ) → ℕ → Record ℕ ℕ
address owner last = entry owner Rtype.a (192 ∷ 0 ∷ 2 ∷ last ∷ [])

-- ---- name servers

same_row : have_other_servers sub (server sub host ∷ server sub outside ∷ []) (server sub outside ∷ server sub (codes "NS" ∷ sub) ∷ []) ≡ false
same_row = refl

child_row : have_other_servers sub (server sub host ∷ []) (server sub host ∷ server sub outside ∷ []) ≡ true
child_row = refl

parent_row : have_other_servers sub (server sub host ∷ server sub outside ∷ []) (server sub host ∷ []) ≡ true
parent_row = refl

-- one side has no NS there
no_delegation_row : have_other_servers sub (entry sub Rtype.txt (1 ∷ codes "x") ∷ server host outside ∷ []) (server sub host ∷ []) ≡ false
no_delegation_row = refl

-- ---- DS: of flags 257, protocol 3, algorithm 13 and a key of one octet, the key tag is 256 + 1 + 3 * 256 + 13

tag_row : is_tagged_key 1284 1 (1 ∷ 1 ∷ 3 ∷ 1 ∷ 4 ∷ []) ≡ false
tag_row = refl

sum_row : is_tagged_key 1038 13 (1 ∷ 1 ∷ 3 ∷ 13 ∷ 0 ∷ []) ≡ true
sum_row = refl

algorithm_row : is_tagged_key 1038 14 (1 ∷ 1 ∷ 3 ∷ 13 ∷ 0 ∷ []) ≡ false
algorithm_row = refl

-- a digest of an unknown type may be right: the key tag and the algorithm decide
unknown_row : ds_fits (wire sub) (4 ∷ 14 ∷ 13 ∷ 9 ∷ 0 ∷ []) (1 ∷ 1 ∷ 3 ∷ 13 ∷ 0 ∷ []) ≡ true
unknown_row = refl

short_row : ds_fits (wire sub) (4 ∷ 14 ∷ 13 ∷ []) (1 ∷ 1 ∷ 3 ∷ 13 ∷ 0 ∷ []) ≡ false
short_row = refl

-- an RRSIG that covers SOA (6), NS (2) or DNSKEY (48)
abbrev signature : ℕ → Record ℕ ℕ
signature covered = entry sub Rtype.rrsig (0 ∷ covered ∷ 13 ∷ 2 ∷ [])

signed_row : has_apex_signature sub (signature 48 ∷ signature 2 ∷ []) ≡ true
signed_row = refl

unsigned_row : has_apex_signature sub (signature 48 ∷ []) ≡ false
unsigned_row = refl

abbrev key : Record ℕ ℕ
key = entry sub Rtype.dnskey (1 ∷ 1 ∷ 3 ∷ 13 ∷ 0 ∷ [])

abbrev ds : ℕ → Record ℕ ℕ
ds low = entry sub Rtype.ds (4 ∷ low ∷ 13 ∷ 9 ∷ 0 ∷ [])

fitting_row : lacks_fitting_ds sub (server sub host ∷ ds 15 ∷ ds 14 ∷ []) (signature 6 ∷ key ∷ []) ≡ false
fitting_row = refl

lacking_row : lacks_fitting_ds sub (server sub host ∷ ds 15 ∷ []) (signature 6 ∷ key ∷ []) ≡ true
lacking_row = refl

inline_row : lacks_fitting_ds sub (server sub host ∷ ds 15 ∷ []) (key ∷ []) ≡ false
inline_row = refl

-- ---- glue

served_row : is_at_served_cut top (server sub host ∷ []) host ≡ true
served_row = refl

apex_row : is_at_served_cut top (server top host ∷ []) host ≡ false
apex_row = refl

-- below two delegations
never_row : is_at_served_cut top (server sub host ∷ server host outside ∷ []) host ≡ false
never_row = refl

equal_row : is_other_glue sub (address host 9 ∷ address host 8 ∷ []) [] (address host 8) ≡ false
equal_row = refl

other_row : is_other_glue sub (address host 9 ∷ []) [] (address host 8) ≡ true
other_row = refl

missing_row : is_other_glue sub (entry sub Rtype.txt (1 ∷ codes "x") ∷ []) [] (address host 8) ≡ true
missing_row = refl

wildcard_row : is_other_glue sub (address (codes "*" ∷ sub) 8 ∷ []) [] (address host 8) ≡ false
wildcard_row = refl

-- the name exists, so that the wildcard doesn't answer for it
existing_row : is_other_glue sub (address (codes "*" ∷ sub) 8 ∷ entry host Rtype.txt (1 ∷ codes "x") ∷ []) [] (address host 8) ≡ true
existing_row = refl

-- the child delegates the name
delegated_row : is_other_glue sub (server host outside ∷ []) [] (address host 8) ≡ false
delegated_row = refl

rejected_row : is_other_glue sub (address host 9 ∷ []) (record { owner = outside; rtype = Rtype.a } ∷ []) (address host 8) ≡ false
rejected_row = refl
