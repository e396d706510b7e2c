-- Worked examples of the rules, each computed.
use Rattle.std.specs.Prelude.{◌≡◌, ℕ, true, false, Some, None, List, [], ◌∷◌, ◌++◌, codes, refl}
use Rattle.finding_codes.specs.Rule.{coded_rule}
use Rattle.finding_codes.specs.declared.code.Code.TheVariants.{NoSoa, NsAddress, SingleNs}
use Rattle.rdata_values.specs.Rtype as Rtype
use Rattle.rdata_values.specs.declared.types.RecordType.{RecordType}
use Rattle.rdata_tokens.specs.PrintedNames.{labels_in_octets}
use Rattle.dns_wire.specs.Wire.{wire}
use Rattle.rdata.specs.Types.{type_shapes}
use Rattle.zone_record.specs.declared.record.Record.{Record}
use Rattle.zone_rules.specs.Above.{names_above, is_below, is_within, is_wildcard}
use Rattle.zone_rules.specs.Base32Texts.{is_base32_text}
use Rattle.zone_rules.specs.Findings.{found_in_zone}
use Rattle.zone_rules.specs.HostNames.{is_bad_host_name, is_host_label, is_host_name, is_mailbox_name}
use Rattle.zone_rules.specs.Present.{closest_encloser, is_synthesized}
use Rattle.zone_rules.specs.Rules.{are_two_of, deletes_beside_keys, has_spf_before, have_other_ttls, has_no_algorithm, has_other_protocol, is_alias_in_company, is_alias_loop, is_below_dname, is_below_its_apex, is_dname_at_cut, is_key_at_alias, has_lost_host, has_other_serial, has_wrong_alias, is_lone_server, is_null_mx, is_null_mx_beside, is_soa_below_apex, is_unhashed_nsec3, is_weak_digest, lacks_glue, lacks_key, lacks_ns, lacks_ns_address, is_alias_mode, names_alias, names_missing, names_no_service, names_nothing, names_renamed, tlsa_host}
use Rattle.zone_rules.specs.Spf.{is_spf}
use Rattle.zone_rules.specs.Zones.{host_of, is_one_set, is_one_owner}
use Rattle.zone_rules.specs.declared.refused.RrsetName.{RrsetName}

-- `example.`, and names below it
abbrev apex : List (List ℕ)
apex = codes "example" ∷ [] ∷ []

abbrev under : List ℕ → List (List ℕ)
under label = label ∷ apex

abbrev two_under : List ℕ → List ℕ → List (List ℕ)
two_under label other = label ∷ under other

abbrev entry : List (List ℕ) → RecordType → List ℕ → Record ℕ ℕ
entry owner rtype octets = record { owner = owner; ttl = 60; class = 1; «data» = record { rtype = rtype; octets = octets } }

abbrev slow_entry : List (List ℕ) → RecordType → List ℕ → Record ℕ ℕ
slow_entry owner rtype octets = record { owner = owner; ttl = 3600; class = 1; «data» = record { rtype = rtype; octets = octets } }

abbrev no_records : List (Record ℕ ℕ)
no_records = []

abbrev address : List ℕ
address = 192 ∷ 0 ∷ 2 ∷ 1 ∷ []

-- ---- names

above_row : names_above (two_under (codes "a") (codes "b")) ≡ under (codes "b") ∷ apex ∷ ([] ∷ []) ∷ []
above_row = refl

case_row : is_within (under (codes "a")) (codes "EXAMPLE" ∷ [] ∷ []) ≡ true
case_row = refl

itself_row : is_below apex apex ≡ false
itself_row = refl

-- a name with the same last octets is not below another
ending_row : is_within (codes "myexample" ∷ [] ∷ []) apex ≡ false
ending_row = refl

wildcard_row : is_wildcard (under (codes "*")) ≡ true
wildcard_row = refl

no_wildcard_row : is_wildcard (two_under (codes "a") (codes "*")) ≡ false
no_wildcard_row = refl

-- ---- hosts: after a preference in MX, and after three numbers in SRV (RFC 2782)

mail_row : host_of (entry apex Rtype.mx (0 ∷ 10 ∷ wire (under (codes "mail")))) ≡ Some (under (codes "mail"))
unfolding type_shapes labels_in_octets
mail_row = refl

service_row : host_of (entry apex Rtype.srv (0 ∷ 1 ∷ 0 ∷ 2 ∷ 0 ∷ 53 ∷ wire (under (codes "ns")))) ≡ Some (under (codes "ns"))
unfolding type_shapes labels_in_octets
service_row = refl

no_mail_row : host_of (entry apex Rtype.mx (0 ∷ 0 ∷ 0 ∷ [])) ≡ None
unfolding type_shapes labels_in_octets
no_mail_row = refl

alias_host_row : host_of (entry apex Rtype.cname (wire (under (codes "ns")))) ≡ None
alias_host_row = refl

-- ---- rules

-- an NS at the apex whose host has an address, and one whose host has none
abbrev server : Record ℕ ℕ
server = entry apex Rtype.ns (wire (under (codes "ns")))

address_row : lacks_ns_address apex (server ∷ entry (under (codes "NS")) Rtype.aaaa address ∷ []) [] server ≡ false
unfolding type_shapes labels_in_octets
address_row = refl

no_address_row : lacks_ns_address apex (server ∷ entry (under (codes "ns")) Rtype.txt (0 ∷ []) ∷ []) [] server ≡ true
unfolding type_shapes labels_in_octets
no_address_row = refl

-- an address whose entry was rejected counts
abbrev named : List (List ℕ) → RecordType → RrsetName
named owner rtype = record { owner = owner; rtype = rtype }

refused_address_row : lacks_ns_address apex (server ∷ []) (named (under (codes "ns")) Rtype.a ∷ []) server ≡ false
unfolding type_shapes labels_in_octets
refused_address_row = refl

-- a wildcard has an address for a name, but not if the name or a closer one exists, and not for an alias
star_address_row : lacks_ns_address apex (server ∷ entry (under (codes "*")) Rtype.a address ∷ []) [] server ≡ false
unfolding type_shapes labels_in_octets
star_address_row = refl

own_text_row : lacks_ns_address apex (server ∷ entry (under (codes "*")) Rtype.a address ∷ entry (under (codes "ns")) Rtype.txt (0 ∷ []) ∷ []) [] server ≡ true
unfolding type_shapes labels_in_octets
own_text_row = refl

star_alias_row : lacks_ns_address apex (server ∷ entry (under (codes "*")) Rtype.cname (wire (under (codes "o"))) ∷ []) [] server ≡ true
unfolding type_shapes labels_in_octets
star_alias_row = refl

-- RFC 4592 section 2.2.2: `ns.b` exists since there are owners below it, so `*` is not the source of synthesis
abbrev below_b : List (Record ℕ ℕ)
below_b = entry (under (codes "*")) Rtype.a address ∷ entry (codes "x" ∷ two_under (codes "ns") (codes "b")) Rtype.a address ∷ []

encloser_row : closest_encloser (codes "a" ∷ two_under (codes "ns") (codes "b")) below_b [] ≡ Some (two_under (codes "ns") (codes "b"))
encloser_row = refl

closer_row : is_synthesized Rtype.a (two_under (codes "a") (codes "b")) below_b [] ≡ false
closer_row = refl

-- an RRSIG, a KEY and an equal alias may have the same owner as an alias, but not a TXT
abbrev alias : Record ℕ ℕ
alias = entry (under (codes "www")) Rtype.cname (wire (under (codes "a")))

signed_alias_row : is_alias_in_company (alias ∷ slow_entry (under (codes "WWW")) Rtype.cname (wire (under (codes "A"))) ∷ entry (under (codes "www")) Rtype.rrsig [] ∷ []) alias ≡ false
unfolding type_shapes
signed_alias_row = refl

key_alias_row : is_alias_in_company (alias ∷ entry (under (codes "www")) Rtype.key [] ∷ []) alias ≡ false
unfolding type_shapes
key_alias_row = refl

text_alias_row : is_alias_in_company (alias ∷ entry (under (codes "www")) Rtype.txt (0 ∷ []) ∷ []) alias ≡ true
unfolding type_shapes
text_alias_row = refl

two_alias_row : is_alias_in_company (alias ∷ entry (under (codes "www")) Rtype.cname (wire (under (codes "b"))) ∷ []) alias ≡ true
unfolding type_shapes
two_alias_row = refl

-- a DNAME is not below itself
abbrev renaming : Record ℕ ℕ
renaming = entry (under (codes "d")) Rtype.dname (wire (under (codes "e")))

dname_row : is_below_dname (renaming ∷ []) renaming ≡ false
dname_row = refl

-- NSEC3 and its RRSIGs may be below a DNAME at the apex; a TXT and its RRSIGs may not
abbrev apex_renaming : Record ℕ ℕ
apex_renaming = entry apex Rtype.dname (wire (codes "o" ∷ [] ∷ []))

hashed_below_row : is_below_dname (apex_renaming ∷ []) (entry (under (codes "0p9mhaveqvm6t7vbl5lop2u3t2rp3tom")) Rtype.nsec3 []) ≡ false
hashed_below_row = refl

signed_hashed_row : is_below_dname (apex_renaming ∷ []) (entry (under (codes "0p9mhaveqvm6t7vbl5lop2u3t2rp3tom")) Rtype.rrsig (0 ∷ 50 ∷ [])) ≡ false
signed_hashed_row = refl

signed_text_row : is_below_dname (apex_renaming ∷ []) (entry (under (codes "t")) Rtype.rrsig (0 ∷ 16 ∷ [])) ≡ true
signed_text_row = refl

text_row : is_below_dname (apex_renaming ∷ []) (entry (under (codes "t")) Rtype.txt (0 ∷ [])) ≡ true
text_row = refl

-- an SOA at the apex, below it, and outside of the zone
apex_soa_row : is_soa_below_apex apex (entry (codes "EXAMPLE" ∷ [] ∷ []) Rtype.soa []) ≡ false
apex_soa_row = refl

lower_soa_row : is_soa_below_apex apex (entry (under (codes "sub")) Rtype.soa []) ≡ true
lower_soa_row = refl

outer_soa_row : is_soa_below_apex apex (entry (codes "sub" ∷ codes "test" ∷ [] ∷ []) Rtype.soa []) ≡ false
outer_soa_row = refl

-- an NS at the same owner as a DNAME, at the apex and below it
apex_ns_row : is_dname_at_cut apex (apex_renaming ∷ server ∷ []) apex_renaming ≡ false
apex_ns_row = refl

lower_ns_row : is_dname_at_cut apex (renaming ∷ entry (under (codes "D")) Rtype.ns (wire (under (codes "ns"))) ∷ []) renaming ≡ true
lower_ns_row = refl

star_hash_row : is_unhashed_nsec3 (entry (under (codes "*")) Rtype.nsec3 []) ≡ true
star_hash_row = refl

-- RFC 5155 appendix A, and two digits of which the second has spare bits that are not zero
hash_row : is_base32_text (codes "0p9mhaveqvm6t7vbl5lop2u3t2rp3tom") ≡ true
hash_row = refl

spare_row : is_base32_text (codes "01") ≡ false
spare_row = refl

odd_row : is_base32_text (codes "000") ≡ false
odd_row = refl

below_dname_row : is_below_dname (renaming ∷ []) (entry (two_under (codes "a") (codes "D")) Rtype.a address) ≡ true
below_dname_row = refl

two_row : are_two_of Rtype.soa (entry apex Rtype.soa (0 ∷ [])) (slow_entry apex Rtype.soa (0 ∷ [])) ≡ false
unfolding type_shapes
two_row = refl

-- a delegation, its glue, and a host next to it
abbrev delegation : Record ℕ ℕ
delegation = entry (under (codes "sub")) Rtype.ns (wire (two_under (codes "ns") (codes "sub")))

glue_row : lacks_glue apex (delegation ∷ entry (two_under (codes "ns") (codes "sub")) Rtype.a address ∷ []) [] delegation ≡ false
unfolding type_shapes labels_in_octets
glue_row = refl

no_glue_row : lacks_glue apex (delegation ∷ []) [] delegation ≡ true
unfolding type_shapes labels_in_octets
no_glue_row = refl

beside_row : lacks_glue apex no_records [] (entry (under (codes "sub")) Rtype.ns (wire (under (codes "ns")))) ≡ false
unfolding type_shapes labels_in_octets
beside_row = refl

abbrev mail_to : List (List ℕ) → Record ℕ ℕ
mail_to host = entry apex Rtype.mx (0 ∷ 10 ∷ wire host)

delegated_row : names_missing apex (delegation ∷ []) [] (mail_to (two_under (codes "mx") (codes "sub"))) ≡ false
unfolding type_shapes labels_in_octets
delegated_row = refl

missing_row : names_missing apex (delegation ∷ []) [] (mail_to (under (codes "mx"))) ≡ true
unfolding type_shapes labels_in_octets
missing_row = refl

under_star_row : names_missing apex (entry (under (codes "*")) Rtype.a address ∷ []) [] (mail_to (under (codes "mx"))) ≡ false
unfolding type_shapes labels_in_octets
under_star_row = refl

-- a target that is the root needs no address, also in a zone that has all names
no_target_row : names_missing ([] ∷ []) no_records [] (entry apex Rtype.srv (0 ∷ 0 ∷ 0 ∷ 0 ∷ 0 ∷ 0 ∷ 0 ∷ [])) ≡ false
unfolding type_shapes labels_in_octets
no_target_row = refl

-- nothing is known of hosts outside of the zone
elsewhere_row : names_missing apex no_records [] (mail_to (codes "mx" ∷ [] ∷ [])) ≡ false
unfolding type_shapes labels_in_octets
elsewhere_row = refl

mail_alias_row : names_alias apex (alias ∷ []) [] (mail_to (under (codes "www"))) ≡ true
unfolding type_shapes labels_in_octets
mail_alias_row = refl

star_target_row : names_alias apex (entry (under (codes "*")) Rtype.cname (wire (under (codes "o"))) ∷ []) [] (mail_to (under (codes "mx"))) ≡ true
unfolding type_shapes labels_in_octets
star_target_row = refl

-- a host below a DNAME (RFC 6672 section 5.1) is not missing
renamed_row : names_renamed apex (renaming ∷ []) [] (mail_to (two_under (codes "x") (codes "d"))) ≡ true
unfolding type_shapes labels_in_octets
renamed_row = refl

renamed_found_row : names_missing apex (renaming ∷ []) [] (mail_to (two_under (codes "x") (codes "d"))) ≡ false
unfolding type_shapes labels_in_octets
renamed_found_row = refl

-- ---- host names (RFC 952, RFC 1123 section 2.1)

letters_row : is_host_label (codes "A--9") ≡ true
letters_row = refl

hyphen_row : is_host_label (codes "-a") ≡ false
hyphen_row = refl

last_hyphen_row : is_host_label (codes "a-") ≡ false
last_hyphen_row = refl

root_row : is_host_name ([] ∷ []) ≡ true
root_row = refl

mailbox_row : is_mailbox_name (codes "h_x" ∷ codes "o" ∷ [] ∷ []) ≡ true
mailbox_row = refl

other_mailbox_row : is_mailbox_name (codes "h" ∷ codes "_o" ∷ codes "o" ∷ [] ∷ []) ≡ false
other_mailbox_row = refl

mail_target_row : is_bad_host_name (mail_to (under (codes "a_b"))) ≡ true
unfolding type_shapes labels_in_octets
mail_target_row = refl

star_owner_row : is_bad_host_name (entry (under (codes "*")) Rtype.a address) ≡ false
unfolding type_shapes labels_in_octets
star_owner_row = refl

catalog_row : is_bad_host_name (entry (two_under (codes "GC") (codes "_msdcs")) Rtype.a address) ≡ false
unfolding type_shapes labels_in_octets
catalog_row = refl

service_owner_row : is_bad_host_name (entry (two_under (codes "_sip") (codes "_tcp")) Rtype.srv []) ≡ false
unfolding type_shapes labels_in_octets
service_owner_row = refl

host_owner_row : is_bad_host_name (entry (under (codes "a_b")) Rtype.aaaa []) ≡ true
unfolding type_shapes labels_in_octets
host_owner_row = refl

-- ---- keys

-- the one that asks to delete (RFC 8078 section 4), and another
deletion_row : lacks_key apex no_records [] (entry apex Rtype.cds (0 ∷ 0 ∷ 0 ∷ 0 ∷ 0 ∷ [])) ≡ false
deletion_row = refl

key_row : lacks_key apex no_records [] (entry apex Rtype.cdnskey (1 ∷ 1 ∷ 3 ∷ 8 ∷ 1 ∷ [])) ≡ true
key_row = refl

-- of a DNSKEY, and of another algorithm
own_key_row : lacks_key apex (entry apex Rtype.dnskey (1 ∷ 1 ∷ 3 ∷ 8 ∷ 1 ∷ []) ∷ []) [] (entry apex Rtype.cds (1 ∷ 1 ∷ 8 ∷ 2 ∷ 1 ∷ [])) ≡ false
own_key_row = refl

other_key_row : lacks_key apex (entry apex Rtype.dnskey (1 ∷ 1 ∷ 3 ∷ 13 ∷ 1 ∷ []) ∷ []) [] (entry apex Rtype.cds (1 ∷ 1 ∷ 8 ∷ 2 ∷ 1 ∷ [])) ≡ true
other_key_row = refl

-- below the apex
lower_cds_row : lacks_key apex no_records [] (entry (under (codes "d")) Rtype.cds (1 ∷ 1 ∷ 8 ∷ 2 ∷ 1 ∷ [])) ≡ false
lower_cds_row = refl

-- a delete request beside another CDS, and alone
both_row : deletes_beside_keys apex (entry apex Rtype.cds (1 ∷ 1 ∷ 8 ∷ 2 ∷ 1 ∷ []) ∷ []) (entry apex Rtype.cds (0 ∷ 0 ∷ 0 ∷ 0 ∷ 0 ∷ [])) ≡ true
both_row = refl

lone_deletion_row : deletes_beside_keys apex no_records (entry apex Rtype.cds (0 ∷ 0 ∷ 0 ∷ 0 ∷ 0 ∷ [])) ≡ false
lone_deletion_row = refl

-- a KEY beside a CNAME (RFC 4035 section 2.5), and alone
alias_key_row : is_key_at_alias (entry (under (codes "d")) Rtype.cname [] ∷ []) (entry (under (codes "d")) Rtype.key []) ≡ true
alias_key_row = refl

lone_key_row : is_key_at_alias no_records (entry (under (codes "d")) Rtype.key []) ≡ false
lone_key_row = refl

no_delegation_row : lacks_ns apex no_records [] (entry (under (codes "d")) Rtype.ds []) ≡ true
no_delegation_row = refl

key_at_cut_row : is_below_its_apex apex (entry (under (codes "d")) Rtype.ns [] ∷ []) [] (entry (under (codes "d")) Rtype.dnskey []) ≡ false
key_at_cut_row = refl

lower_key_row : is_below_its_apex apex no_records [] (entry (under (codes "d")) Rtype.dnskey []) ≡ true
lower_key_row = refl

protocol_row : has_other_protocol (entry apex Rtype.dnskey (1 ∷ 0 ∷ 2 ∷ 8 ∷ 1 ∷ [])) ≡ true
protocol_row = refl

algorithm_row : has_no_algorithm (entry apex Rtype.ds (0 ∷ 1 ∷ 0 ∷ 1 ∷ [])) ≡ true
algorithm_row = refl

-- ---- aliases

abbrev alias_to : List (List ℕ) → Record ℕ ℕ
alias_to target = entry (under (codes "www")) Rtype.cname (wire target)

nothing_row : names_nothing apex (alias_to (under (codes "a")) ∷ []) [] (alias_to (under (codes "a"))) ≡ true
unfolding type_shapes labels_in_octets
nothing_row = refl

-- records of any type are enough (`_domainkey`, `_acme-challenge`), and those of a wildcard
text_target_row : names_nothing apex (entry (under (codes "A")) Rtype.txt (0 ∷ []) ∷ []) [] (alias_to (under (codes "a"))) ≡ false
unfolding type_shapes labels_in_octets
text_target_row = refl

star_records_row : names_nothing apex (entry (under (codes "*")) Rtype.txt (0 ∷ []) ∷ []) [] (alias_to (under (codes "a"))) ≡ false
unfolding type_shapes labels_in_octets
star_records_row = refl

-- an empty non-terminal has no records, also below a wildcard's parent
empty_target_row : names_nothing apex (entry (under (codes "*")) Rtype.txt (0 ∷ []) ∷ entry (two_under (codes "b") (codes "a")) Rtype.a address ∷ []) [] (alias_to (under (codes "a"))) ≡ true
unfolding type_shapes labels_in_octets
empty_target_row = refl

-- RFC 2317: `1 CNAME 1.0/26` and `0/26 NS o.`
classless_row : names_nothing apex (entry (under (codes "0/26")) Rtype.ns (wire (codes "o" ∷ [] ∷ [])) ∷ []) [] (alias_to (two_under (codes "1") (codes "0/26"))) ≡ false
unfolding type_shapes labels_in_octets
classless_row = refl

renamed_target_row : names_nothing apex (renaming ∷ []) [] (alias_to (two_under (codes "x") (codes "d"))) ≡ false
unfolding type_shapes labels_in_octets
renamed_target_row = refl

outer_target_row : names_nothing apex no_records [] (alias_to (codes "o" ∷ [] ∷ [])) ≡ false
unfolding type_shapes labels_in_octets
outer_target_row = refl

-- `a CNAME b` and `b CNAME a`, `a CNAME a`, and `c CNAME a`, which is not in the loop
abbrev alias_of : List ℕ → List ℕ → Record ℕ ℕ
alias_of owner target = entry (under owner) Rtype.cname (wire (under target))

abbrev two_aliases : List (Record ℕ ℕ)
two_aliases = alias_of (codes "a") (codes "b") ∷ alias_of (codes "b") (codes "A") ∷ alias_of (codes "c") (codes "a") ∷ []

loop_row : is_alias_loop two_aliases (alias_of (codes "b") (codes "A")) ≡ true
unfolding type_shapes labels_in_octets
loop_row = refl

one_alias_row : is_alias_loop (alias_of (codes "a") (codes "a") ∷ []) (alias_of (codes "a") (codes "a")) ≡ true
unfolding type_shapes labels_in_octets
one_alias_row = refl

into_loop_row : is_alias_loop two_aliases (alias_of (codes "c") (codes "a")) ≡ false
unfolding type_shapes labels_in_octets
into_loop_row = refl

-- ---- SPF: the first word, in any letter case, of strings that are joined

abbrev text : List ℕ → Record ℕ ℕ
text octets = entry apex Rtype.txt octets

spf_row : is_spf (text (13 ∷ codes "V=SPF1 a -all")) ≡ true
spf_row = refl

spf_alone_row : is_spf (text (6 ∷ codes "v=spf1")) ≡ true
spf_alone_row = refl

spf_parts_row : is_spf (text (4 ∷ codes "v=sp" ++ 0 ∷ 7 ∷ codes "f1 -all")) ≡ true
spf_parts_row = refl

spf_ten_row : is_spf (text (12 ∷ codes "v=spf10 -all")) ≡ false
spf_ten_row = refl

-- the second in canonical order is reported
two_spf_row : has_spf_before (text (6 ∷ codes "v=spf1") ∷ text (11 ∷ codes "v=spf1 -all") ∷ []) (text (11 ∷ codes "v=spf1 -all")) ≡ true
unfolding type_shapes
two_spf_row = refl

first_spf_row : has_spf_before (text (6 ∷ codes "v=spf1") ∷ text (11 ∷ codes "v=spf1 -all") ∷ []) (text (6 ∷ codes "v=spf1")) ≡ false
unfolding type_shapes
first_spf_row = refl

-- ---- digests: of one key SHA-1 alone, and beside SHA-256

abbrev digest_of : ℕ → ℕ → Record ℕ ℕ
digest_of tag digest_type = entry (under (codes "d")) Rtype.ds (0 ∷ tag ∷ 8 ∷ digest_type ∷ 255 ∷ [])

weak_row : is_weak_digest (digest_of 1 1 ∷ digest_of 2 2 ∷ []) [] (digest_of 1 1) ≡ true
weak_row = refl

strong_row : is_weak_digest (digest_of 1 1 ∷ digest_of 1 2 ∷ []) [] (digest_of 1 1) ≡ false
strong_row = refl

-- a DS of another class is of another RRset
other_class_row : is_weak_digest (digest_of 1 1 ∷ record { owner = under (codes "d"); ttl = 60; class = 3; «data» = record { rtype = Rtype.ds; octets = 0 ∷ 1 ∷ 8 ∷ 2 ∷ 255 ∷ [] } } ∷ []) [] (digest_of 1 1) ≡ true
other_class_row = refl

-- a rejected DS may be the other digest
refused_digest_row : is_weak_digest (digest_of 1 1 ∷ []) (named (under (codes "d")) Rtype.ds ∷ []) (digest_of 1 1) ≡ false
refused_digest_row = refl

-- ---- name servers

lone_server_row : is_lone_server apex (server ∷ []) [] server ≡ true
unfolding type_shapes labels_in_octets
lone_server_row = refl

two_servers_row : is_lone_server apex (server ∷ entry apex Rtype.ns (wire (codes "o" ∷ [] ∷ [])) ∷ []) [] server ≡ false
unfolding type_shapes labels_in_octets
two_servers_row = refl

-- a catalog zone (RFC 9432), and a response policy
catalog_server_row : is_lone_server apex no_records [] (entry apex Rtype.ns (wire (codes "invalid" ∷ [] ∷ []))) ≡ false
unfolding type_shapes labels_in_octets
catalog_server_row = refl

policy_server_row : is_lone_server apex no_records [] (entry apex Rtype.ns (wire (codes "ns" ∷ codes "LOCALHOST" ∷ [] ∷ []))) ≡ false
unfolding type_shapes labels_in_octets
policy_server_row = refl

refused_server_row : is_lone_server apex (server ∷ []) (named apex Rtype.ns ∷ []) server ≡ false
unfolding type_shapes labels_in_octets
refused_server_row = refl

-- one of a delegation, and one outside of the zone
delegated_server_row : is_lone_server apex (server ∷ entry (under (codes "d")) Rtype.ns (wire (codes "o" ∷ [] ∷ [])) ∷ []) [] (entry (under (codes "d")) Rtype.ns (wire (codes "o" ∷ [] ∷ []))) ≡ false
unfolding type_shapes labels_in_octets
delegated_server_row = refl

outside_server_row : is_lone_server apex no_records [] (entry (codes "d" ∷ [] ∷ []) Rtype.ns (wire (codes "o" ∷ [] ∷ []))) ≡ false
unfolding type_shapes labels_in_octets
outside_server_row = refl

-- ---- services (RFC 9460): in AliasMode a target needs records, in ServiceMode an address

abbrev service_to : ℕ → List (List ℕ) → Record ℕ ℕ
service_to priority target = entry (under (codes "s")) Rtype.https (0 ∷ priority ∷ wire target)

alias_mode_row : is_alias_mode (service_to 0 (under (codes "x"))) ≡ true
unfolding type_shapes
alias_mode_row = refl

service_mode_row : is_alias_mode (service_to 1 (under (codes "x"))) ≡ false
unfolding type_shapes
service_mode_row = refl

no_alias_mode_row : is_alias_mode (entry apex Rtype.mx (0 ∷ 0 ∷ 0 ∷ [])) ≡ false
no_alias_mode_row = refl

alias_text_row : names_no_service apex (entry (under (codes "x")) Rtype.txt (0 ∷ []) ∷ []) [] (service_to 0 (under (codes "x"))) ≡ false
unfolding type_shapes labels_in_octets
alias_text_row = refl

service_text_row : names_no_service apex (entry (under (codes "x")) Rtype.txt (0 ∷ []) ∷ []) [] (service_to 1 (under (codes "x"))) ≡ true
unfolding type_shapes labels_in_octets
service_text_row = refl

service_address_row : names_no_service apex (entry (under (codes "X")) Rtype.aaaa address ∷ []) [] (service_to 1 (under (codes "x"))) ≡ false
unfolding type_shapes labels_in_octets
service_address_row = refl

service_alias_row : names_no_service apex (entry (under (codes "*")) Rtype.cname (wire (under (codes "o"))) ∷ []) [] (service_to 1 (under (codes "x"))) ≡ false
unfolding type_shapes labels_in_octets
service_alias_row = refl

lost_alias_row : names_no_service apex no_records [] (service_to 0 (under (codes "x"))) ≡ true
unfolding type_shapes labels_in_octets
lost_alias_row = refl

-- the root as a target (section 2.5), and a target outside of the zone
owner_service_row : names_no_service apex no_records [] (service_to 1 ([] ∷ [])) ≡ false
unfolding type_shapes labels_in_octets
owner_service_row = refl

outer_service_row : names_no_service apex no_records [] (service_to 1 (codes "o" ∷ [] ∷ [])) ≡ false
unfolding type_shapes labels_in_octets
outer_service_row = refl

delegated_service_row : names_no_service apex (entry (under (codes "s")) Rtype.ns (wire (codes "o" ∷ [] ∷ [])) ∷ []) [] (service_to 1 (under (codes "x"))) ≡ false
unfolding type_shapes labels_in_octets
delegated_service_row = refl

-- an alias with parameters (`port=53`), beside a record in ServiceMode, and beside another alias
abbrev alias_service : Record ℕ ℕ
alias_service = service_to 0 (under (codes "x"))

plain_alias_row : has_wrong_alias 0 apex (alias_service ∷ []) [] alias_service ≡ false
unfolding type_shapes
plain_alias_row = refl

parameter_row : has_wrong_alias 0 apex no_records [] (entry (under (codes "s")) Rtype.https (0 ∷ 0 ∷ wire (under (codes "x")) ++ 0 ∷ 3 ∷ 0 ∷ 2 ∷ 0 ∷ 53 ∷ [])) ≡ true
unfolding type_shapes
parameter_row = refl

service_beside_row : has_wrong_alias 1 apex (alias_service ∷ service_to 1 (under (codes "x")) ∷ []) [] alias_service ≡ true
unfolding type_shapes
service_beside_row = refl

alias_beside_row : has_wrong_alias 2 apex (alias_service ∷ service_to 0 (under (codes "y")) ∷ []) [] alias_service ≡ true
unfolding type_shapes
alias_beside_row = refl

-- of the other type, and the same record twice, with another TTL
other_type_row : has_wrong_alias 2 apex (alias_service ∷ entry (under (codes "s")) Rtype.svcb (0 ∷ 0 ∷ wire (under (codes "y"))) ∷ []) [] alias_service ≡ false
unfolding type_shapes
other_type_row = refl

equal_alias_row : has_wrong_alias 2 apex (alias_service ∷ slow_entry (under (codes "S")) Rtype.https (0 ∷ 0 ∷ wire (under (codes "x"))) ∷ []) [] alias_service ≡ false
unfolding type_shapes
equal_alias_row = refl

-- `s HTTPS 0 x`, `x HTTPS 0 s`: the loop is reported at its first name
abbrev back_service : Record ℕ ℕ
back_service = entry (under (codes "x")) Rtype.https (0 ∷ 0 ∷ wire (under (codes "S")))

service_loop_row : has_wrong_alias 3 apex (alias_service ∷ back_service ∷ []) [] alias_service ≡ true
unfolding type_shapes labels_in_octets
service_loop_row = refl

later_in_service_loop_row : has_wrong_alias 3 apex (alias_service ∷ back_service ∷ []) [] back_service ≡ false
unfolding type_shapes labels_in_octets
later_in_service_loop_row = refl

no_service_loop_row : has_wrong_alias 3 apex (alias_service ∷ []) [] alias_service ≡ false
unfolding type_shapes labels_in_octets
no_service_loop_row = refl

-- ---- mail exchanges: `@ MX 0 .` alone, beside another MX, and with another preference (RFC 7505 section 3)

abbrev null_mx : Record ℕ ℕ
null_mx = entry apex Rtype.mx (0 ∷ 0 ∷ 0 ∷ [])

null_mx_row : is_null_mx null_mx ≡ true
unfolding type_shapes labels_in_octets
null_mx_row = refl

host_mx_row : is_null_mx (mail_to (under (codes "mx"))) ≡ false
unfolding type_shapes labels_in_octets
host_mx_row = refl

lone_null_row : is_null_mx_beside apex (null_mx ∷ entry (under (codes "a")) Rtype.mx (0 ∷ 10 ∷ 0 ∷ []) ∷ []) [] null_mx ≡ false
unfolding type_shapes labels_in_octets
lone_null_row = refl

null_beside_row : is_null_mx_beside apex (null_mx ∷ mail_to (under (codes "mx")) ∷ []) [] null_mx ≡ true
unfolding type_shapes labels_in_octets
null_beside_row = refl

two_null_row : is_null_mx_beside apex (null_mx ∷ entry apex Rtype.mx (0 ∷ 10 ∷ 0 ∷ []) ∷ []) [] null_mx ≡ true
unfolding type_shapes labels_in_octets
two_null_row = refl

-- the target of an SRV may be the root beside others, and records at a delegation are not of the zone
null_service_row : is_null_mx (entry apex Rtype.srv (0 ∷ 0 ∷ 0 ∷ 0 ∷ 0 ∷ 0 ∷ 0 ∷ [])) ≡ false
unfolding type_shapes labels_in_octets
null_service_row = refl

delegated_null_row : is_null_mx_beside apex (delegation ∷ entry (under (codes "sub")) Rtype.mx (0 ∷ 10 ∷ 0 ∷ []) ∷ []) [] (entry (under (codes "sub")) Rtype.mx (0 ∷ 0 ∷ 0 ∷ [])) ≡ false
unfolding type_shapes labels_in_octets
delegated_null_row = refl

-- ---- digests of the zone: RFC 8976 appendix A.1 has the serial 2018031900

abbrev soa_of : List ℕ → Record ℕ ℕ
soa_of serial = entry apex Rtype.soa (wire (under (codes "ns1")) ++ wire (under (codes "admin")) ++ serial ++ 0 ∷ 0 ∷ 7 ∷ 8 ∷ 0 ∷ 0 ∷ 3 ∷ 132 ∷ 0 ∷ 9 ∷ 58 ∷ 128 ∷ 0 ∷ 1 ∷ 81 ∷ 128 ∷ [])

abbrev digest_owner : List (List ℕ) → Record ℕ ℕ
digest_owner owner = entry owner Rtype.zonemd (120 ∷ 72 ∷ 185 ∷ 28 ∷ 1 ∷ 240 ∷ 0 ∷ 0 ∷ 0 ∷ 0 ∷ 0 ∷ 0 ∷ 0 ∷ 0 ∷ 0 ∷ 0 ∷ 0 ∷ 0 ∷ [])

own_serial_row : has_other_serial apex (soa_of (120 ∷ 72 ∷ 185 ∷ 28 ∷ []) ∷ []) (digest_owner apex) ≡ false
unfolding type_shapes
own_serial_row = refl

next_serial_row : has_other_serial apex (soa_of (120 ∷ 72 ∷ 185 ∷ 29 ∷ []) ∷ []) (digest_owner apex) ≡ true
unfolding type_shapes
next_serial_row = refl

-- an SOA whose entry was rejected, and a ZONEMD below the apex
unread_soa_row : has_other_serial apex no_records (digest_owner apex) ≡ false
unfolding type_shapes
unread_soa_row = refl

lower_digest_row : has_other_serial apex (soa_of (120 ∷ 72 ∷ 185 ∷ 29 ∷ []) ∷ []) (digest_owner (under (codes "a"))) ≡ false
unfolding type_shapes
lower_digest_row = refl

-- ---- hosts of TLSA: RFC 6698 section 3 has `_443._tcp.www.example.com`

abbrev association : List (List ℕ) → Record ℕ ℕ
association owner = entry owner Rtype.tlsa (3 ∷ 1 ∷ 0 ∷ 0 ∷ [])

abbrev www_association : Record ℕ ℕ
www_association = association (codes "_443" ∷ codes "_TCP" ∷ under (codes "www"))

host_row : tlsa_host www_association ≡ Some (under (codes "www"))
host_row = refl

no_transport_row : tlsa_host (association (under (codes "www"))) ≡ None
no_transport_row = refl

known_host_row : has_lost_host apex (www_association ∷ entry (under (codes "www")) Rtype.aaaa address ∷ []) [] www_association ≡ false
known_host_row = refl

alias_known_row : has_lost_host apex (www_association ∷ alias ∷ []) [] www_association ≡ false
alias_known_row = refl

lost_host_row : has_lost_host apex (www_association ∷ []) [] www_association ≡ true
lost_host_row = refl

-- RFC 4592 section 2.2.3: the TLSA makes its host exist, so the wildcard is not for it
star_host_row : has_lost_host apex (entry (under (codes "*")) Rtype.a address ∷ www_association ∷ []) [] www_association ≡ true
star_host_row = refl

-- a wildcard as the host, a host outside of the zone, and one whose entry was rejected
wildcard_host_row : has_lost_host apex no_records [] (association (codes "_25" ∷ codes "_tcp" ∷ under (codes "*"))) ≡ false
wildcard_host_row = refl

outer_host_row : has_lost_host (under (codes "_tcp")) no_records [] (association (codes "_25" ∷ under (codes "_tcp"))) ≡ false
outer_host_row = refl

refused_host_row : has_lost_host apex (www_association ∷ []) (named (under (codes "www")) Rtype.a ∷ []) www_association ≡ false
refused_host_row = refl

-- RRSIGs of one owner belong to the RRset of the type that they cover
one_owner_row : is_one_owner (entry apex Rtype.a address ∷ entry (under (codes "a")) Rtype.a address ∷ entry apex Rtype.ns [] ∷ []) 0 2 ≡ true
one_owner_row = refl

one_set_row : is_one_set (entry apex Rtype.rrsig (0 ∷ 1 ∷ [])) (entry apex Rtype.rrsig (0 ∷ 2 ∷ [])) ≡ false
one_set_row = refl

ttl_row : have_other_ttls (entry apex Rtype.a address) (slow_entry apex Rtype.a (192 ∷ 0 ∷ 2 ∷ 2 ∷ [])) ≡ true
ttl_row = refl

-- ---- a zone of one record

zone_row : found_in_zone apex (server ∷ []) [] ≡ record { rule = coded_rule NoSoa 0; «record» = None } ∷ record { rule = coded_rule NsAddress 0; «record» = Some 0 } ∷ record { rule = coded_rule SingleNs 0; «record» = Some 0 } ∷ []
unfolding type_shapes labels_in_octets
zone_row = refl
