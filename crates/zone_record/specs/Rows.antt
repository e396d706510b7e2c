-- Worked rows of the definitions, each computed.
use Rattle.std.specs.Prelude.{◌≡◌, ℕ, true, is_some, List, [], ◌∷◌, ◌++◌, codes, refl}
use Rattle.std.specs.Fmt.{digits}
use Rattle.std.specs.List.{list_all}
use Rattle.std.specs.declared.cmp.Ordering.TheVariants.{Less, Equal, Greater}
use Rattle.dns_codec.specs.Base.{base16, encoded}
use Rattle.rdata_values.specs.Types.{type_rows, portable_types}
use Rattle.rdata_values.specs.Rtype as Rtype
use Rattle.rdata_values.specs.declared.types.RecordType.{RecordType}
use Rattle.rdata_tokens.specs.PrintedNames.{labels_in_octets}
use Rattle.dns_wire.specs.Wire.{wire}
use Rattle.dns_zone.specs.Layout.{layout, simple_piece, tabbed_piece, multiline_piece}
use Rattle.rdata.specs.ByType.{shape_of_code}
use Rattle.rdata.specs.GatewayKeys.{plain_word}
use Rattle.rdata.specs.Types.{type_shapes}
use Rattle.zone_record.specs.CanonicalData.{canonical_data, canonical_record, data_order}
use Rattle.zone_record.specs.DataTokens.{data_tokens}
use Rattle.zone_record.specs.Records.{record_document}
use Rattle.zone_record.specs.TypeData.{TypeData}
use Rattle.zone_record.specs.declared.record.Record.{Record}

-- names in wire format
abbrev below_example : List ℕ → List (List ℕ)
below_example label = label ∷ codes "example" ∷ [] ∷ []

-- a preference and a host (MX, RFC 1035 section 3.3.9)
mail_row : data_tokens Rtype.mx (0 ∷ 10 ∷ wire (below_example (codes "mail"))) ≡ plain_word (codes "10") ∷ plain_word (codes "mail.example.") ∷ []
unfolding type_shapes labels_in_octets digits
mail_row = refl

-- the examples of RFC 3597 section 5
generic_row : data_tokens 731 (0xab ∷ 0xcd ∷ 0xef ∷ 0x01 ∷ 0x23 ∷ 0x45 ∷ [])
    ≡ plain_word (codes "\\#") ∷ plain_word (codes "6") ∷ plain_word (encoded base16 (0xab ∷ 0xcd ∷ 0xef ∷ 0x01 ∷ 0x23 ∷ 0x45 ∷ [])) ∷ []
unfolding type_shapes digits
generic_row = refl

no_octets_row : data_tokens 62347 [] ≡ plain_word (codes "\\#") ∷ plain_word (codes "0") ∷ []
unfolding type_shapes digits
no_octets_row = refl

-- RDATA of MX in a record
abbrev mail_record : Record ℕ ℕ
mail_record = record { owner = below_example (codes "a"); ttl = 3600; class = 1; «data» = record { rtype = Rtype.mx; octets = 0 ∷ 10 ∷ wire (below_example (codes "mail")) } }

simple_row : layout simple_piece (record_document mail_record) ≡ codes "a.example. 3600 IN MX 10 mail.example."
unfolding type_shapes type_rows labels_in_octets digits
simple_row = refl

-- the type is WALLET, which has a text form; and before the generic form a number, as for CLA, which has none
abbrev other_record : RecordType → List ℕ → Record ℕ ℕ
other_record rtype octets = record { owner = below_example (codes "a"); ttl = 3600; class = 1; «data» = record { rtype = rtype; octets = octets } }

own_type_row : layout simple_piece (record_document (other_record Rtype.wallet (1 ∷ 65 ∷ []))) ≡ codes "a.example. 3600 IN WALLET \"A\""
unfolding type_shapes type_rows labels_in_octets digits
own_type_row = refl

numbered_row : layout simple_piece (record_document (other_record Rtype.cla [])) ≡ codes "a.example. 3600 IN TYPE263 \\# 0"
unfolding type_shapes type_rows labels_in_octets digits
numbered_row = refl

-- each type whose name is known to every reader has a text form
portable_row : list_all (λ rtype. is_some (shape_of_code rtype)) portable_types ≡ true
unfolding type_shapes
portable_row = refl

tabbed_row : layout tabbed_piece (record_document mail_record) ≡ codes "a.example.\t3600\tIN\tMX\t10 mail.example."
unfolding type_shapes type_rows labels_in_octets digits
tabbed_row = refl

multiline_row : layout multiline_piece (record_document mail_record) ≡ codes "a.example. 3600 IN MX ( 10 mail.example. )"
unfolding type_shapes type_rows labels_in_octets digits
multiline_row = refl

-- names in RDATA of NS are lowered, and those in RDATA of NSEC are not (RFC 6840 section 5.1)
lowered_row : canonical_data Rtype.ns (wire (below_example (codes "NS"))) ≡ wire (below_example (codes "ns"))
unfolding type_shapes
lowered_row = refl

kept_row : canonical_data Rtype.nsec (wire (below_example (codes "NS")) ++ 0 ∷ 1 ∷ 64 ∷ []) ≡ wire (below_example (codes "NS")) ++ 0 ∷ 1 ∷ 64 ∷ []
unfolding type_shapes
kept_row = refl

-- the numbers of NAPTR and its strings are unchanged, and its name is lowered
last_name_row : canonical_data Rtype.naptr (0 ∷ 65 ∷ 0 ∷ 66 ∷ 1 ∷ 85 ∷ 0 ∷ 0 ∷ wire (below_example (codes "SIP"))) ≡ 0 ∷ 65 ∷ 0 ∷ 66 ∷ 1 ∷ 85 ∷ 0 ∷ 0 ∷ wire (below_example (codes "sip"))
unfolding type_shapes
last_name_row = refl

-- owner, type, class, TTL, length and RDATA, as signatures cover them (RFC 4034 section 3.1.8.1)
abbrev server_record : Record ℕ ℕ
server_record = record { owner = below_example (codes "A"); ttl = 3600; class = 1; «data» = record { rtype = Rtype.ns; octets = wire (below_example (codes "NS")) } }

signed_row : canonical_record server_record
    ≡ wire (below_example (codes "a")) ++ 0 ∷ 2 ∷ 0 ∷ 1 ∷ 0 ∷ 0 ∷ 14 ∷ 16 ∷ 0 ∷ 12 ∷ wire (below_example (codes "ns"))
unfolding type_shapes
signed_row = refl

abbrev named_data : RecordType → List ℕ → TypeData
named_data rtype label = record { rtype = rtype; octets = wire (below_example label) }

-- the case of names counts in LP and not in NS, and the type decides first
alike_row : data_order (named_data Rtype.ns (codes "NS")) (named_data Rtype.ns (codes "ns")) ≡ Equal
unfolding type_shapes
alike_row = refl

abbrev preferred_data : List ℕ → TypeData
preferred_data label = record { rtype = Rtype.lp; octets = 0 ∷ 10 ∷ wire (below_example label) }

apart_row : data_order (preferred_data (codes "NS")) (preferred_data (codes "ns")) ≡ Less
unfolding type_shapes
apart_row = refl

type_row : data_order (named_data Rtype.cname (codes "a")) (named_data Rtype.ns (codes "b")) ≡ Greater
unfolding type_shapes
type_row = refl

-- the names of PX are lowered (RFC 2163 section 4), and what follows the name of NXT is unchanged
map_row : canonical_data Rtype.px (0 ∷ 10 ∷ (wire (below_example (codes "MAP")) ++ wire (below_example (codes "X4")))) ≡ 0 ∷ 10 ∷ (wire (below_example (codes "map")) ++ wire (below_example (codes "x4")))
unfolding type_shapes
map_row = refl

next_row : canonical_data Rtype.nxt (wire (below_example (codes "NXT")) ++ codes "@A") ≡ wire (below_example (codes "nxt")) ++ codes "@A"
unfolding type_shapes
next_row = refl

-- the address of A6 is unchanged, and the name of its prefix is lowered
prefix_row : canonical_data Rtype.a6 (120 ∷ 65 ∷ wire (below_example (codes "NET"))) ≡ 120 ∷ 65 ∷ wire (below_example (codes "net"))
unfolding type_shapes
prefix_row = refl

-- an A6 whose name is cut off is unchanged
cut_row : canonical_data Rtype.a6 (120 ∷ 65 ∷ 3 ∷ codes "NE") ≡ 120 ∷ 65 ∷ 3 ∷ codes "NE"
unfolding type_shapes
cut_row = refl

maps_row : data_order (record { rtype = Rtype.px; octets = 0 ∷ 10 ∷ (wire (below_example (codes "MAP")) ++ 0 ∷ []) }) (record { rtype = Rtype.px; octets = 0 ∷ 10 ∷ (wire (below_example (codes "map")) ++ 0 ∷ []) }) ≡ Equal
unfolding type_shapes
maps_row = refl
