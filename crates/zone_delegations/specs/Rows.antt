-- Worked examples of hidden records, each computed.
use Rattle.std.specs.Prelude.{◌≡◌, ℕ, true, false, Some, None, List, [], ◌∷◌, codes, refl}
use Rattle.dns_wire.specs.Wire.{wire}
use Rattle.rdata.specs.Types.{type_shapes}
use Rattle.rdata_tokens.specs.PrintedNames.{labels_in_octets}
use Rattle.rdata_values.specs.Rtype as Rtype
use Rattle.rdata_values.specs.declared.types.RecordType.{RecordType}
use Rattle.zone_record.specs.declared.record.Record.{Record}
use Rattle.zone_delegations.specs.Hidden.{delegation_of, hidden_places, is_hidden_record, server_of}

-- `example.`, and names below it
abbrev apex : List (List ℕ)
apex = codes "example" ∷ [] ∷ []

abbrev under : List ℕ → List (List ℕ)
under label = label ∷ apex

abbrev two_under : List ℕ → List ℕ → List (List ℕ)
two_under label other = label ∷ under other

abbrev entry : List (List ℕ) → RecordType → List ℕ → Record ℕ ℕ
entry owner rtype octets = record { owner = owner; ttl = 60; class = 1; «data» = record { rtype = rtype; octets = octets } }

abbrev address : List ℕ
address = 192 ∷ 0 ∷ 2 ∷ 1 ∷ []

-- a delegation whose host is below it, and glue
abbrev server : Record ℕ ℕ
server = entry (under (codes "sub")) Rtype.ns (wire (two_under (codes "ns") (codes "sub")))

abbrev glue : Record ℕ ℕ
glue = entry (two_under (codes "NS") (codes "sub")) Rtype.a address

abbrev zone : List (Record ℕ ℕ)
zone = server ∷ glue ∷ []

-- ---- delegations and hosts

delegation_row : delegation_of apex server ≡ Some (under (codes "sub"))
delegation_row = refl

-- an NS at the apex makes no delegation, and one outside of the zone is not of it
apex_row : delegation_of apex (entry apex Rtype.ns (wire (under (codes "ns")))) ≡ None
apex_row = refl

outside_row : delegation_of apex (entry (codes "o" ∷ [] ∷ []) Rtype.ns (wire (under (codes "ns")))) ≡ None
outside_row = refl

host_row : server_of apex (entry apex Rtype.ns (wire (under (codes "ns")))) ≡ Some (under (codes "ns"))
unfolding type_shapes labels_in_octets
host_row = refl

other_host_row : server_of apex (entry apex Rtype.ns (wire (codes "ns" ∷ codes "o" ∷ [] ∷ []))) ≡ None
unfolding type_shapes labels_in_octets
other_host_row = refl

-- the host of an MX is not one of a name server
mail_row : server_of apex (entry apex Rtype.mx (0 ∷ 10 ∷ wire (under (codes "ns")))) ≡ None
mail_row = refl

-- ---- at a delegation: other types than NS, DS, NSEC and RRSIG

text_row : is_hidden_record apex zone [] (entry (under (codes "SUB")) Rtype.txt (1 ∷ codes "x")) ≡ true
unfolding type_shapes labels_in_octets
text_row = refl

server_row : is_hidden_record apex zone [] server ≡ false
unfolding type_shapes labels_in_octets
server_row = refl

digest_row : is_hidden_record apex zone [] (entry (under (codes "sub")) Rtype.ds (0 ∷ 1 ∷ 8 ∷ 2 ∷ 255 ∷ [])) ≡ false
unfolding type_shapes labels_in_octets
digest_row = refl

-- ---- below a delegation: all types but glue

below_row : is_hidden_record apex zone [] (entry (codes "x" ∷ two_under (codes "y") (codes "sub")) Rtype.ns (wire (under (codes "ns")))) ≡ true
unfolding type_shapes labels_in_octets
below_row = refl

glue_row : is_hidden_record apex zone [] glue ≡ false
unfolding type_shapes labels_in_octets
glue_row = refl

orphan_row : is_hidden_record apex zone [] (entry (two_under (codes "old") (codes "sub")) Rtype.aaaa address) ≡ true
unfolding type_shapes labels_in_octets
orphan_row = refl

-- the host of a rejected NS is unknown
refused_row : is_hidden_record apex zone (record { owner = under (codes "d"); rtype = Rtype.ns } ∷ []) (entry (two_under (codes "old") (codes "sub")) Rtype.aaaa address) ≡ false
unfolding type_shapes labels_in_octets
refused_row = refl

-- ---- records of the zone's own

own_row : is_hidden_record apex zone [] (entry (under (codes "xsub")) Rtype.txt (1 ∷ codes "x")) ≡ false
unfolding type_shapes labels_in_octets
own_row = refl

zone_row : hidden_places apex (server ∷ entry (under (codes "sub")) Rtype.txt (1 ∷ codes "x") ∷ glue ∷ entry (two_under (codes "old") (codes "sub")) Rtype.a address ∷ []) [] ≡ 1 ∷ 3 ∷ []
unfolding type_shapes labels_in_octets
zone_row = refl
