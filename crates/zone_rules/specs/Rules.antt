-- The rules: when a record breaks each.
use Rattle.std.specs.Prelude.{ℕ, zero, suc, ◌==◌, ◌&&◌, ◌||◌, not, nat_eq, nat_lt, length, if◌then◌else◌, Bool, true, false, List, [], ◌∷◌, slice_get, Option, Some, None, codes, option_and_then}
use Rattle.std.specs.Cmp.Lexicographic.{pointwise}
use Rattle.std.specs.List.{find, list_any}
use Rattle.std.specs.Option.{option_map_or}
use Rattle.std.specs.Ordering.{is_lt}
use Rattle.dns_octets.specs.Lowered.{same_lowered}
use Rattle.dns_wire.specs.Order.{same_name}
use Rattle.finding_codes.specs.declared.code.Code.{Code}
use Rattle.finding_codes.specs.declared.code.Code.TheVariants.{Outside, TwoSoas, NsAddress, Cname, BelowDname, WildcardNs, SoaNotApex, NsBesideDname, KeyBesideCname, HostName, DsWithoutNs, NotAtApex, KeyProtocol, KeyAlgorithm, CnameTargetMissing, CnameLoop, TwoSpf, WeakDigest, SingleNs, TtlDiffers, Duplicate, Dname, DsApex, Nsec3Wildcard, Glue, TargetCname, TargetMissing, Cds, CdsDelete, NullMx, ZonemdSerial, TlsaHost, SvcbAlias}
use Rattle.finding_codes.specs.declared.rule.Rule.{Rule}
use Rattle.rdata_values.specs.Classes.{internet}
use Rattle.rdata_values.specs.Rtype as Rtype
use Rattle.rdata_values.specs.declared.types.RecordType.{RecordType}
use Rattle.zone_record.specs.Names.{name_order}
use Rattle.zone_record.specs.Records.{data_of}
use Rattle.zone_record.specs.declared.record.Record.{Record}
use Rattle.zone_rules.specs.Above.{first_label_of, is_below, is_within, is_wildcard, names_above}
use Rattle.zone_rules.specs.Base32Texts.{is_base32_text}
use Rattle.zone_rules.specs.HostNames.{is_bad_host_name, name_in, target_field}
use Rattle.zone_rules.specs.Present.{closest_dname, has_any_address, yields_records, has_address_in, has_dname_above, is_listed, is_own, is_present, is_renamed, is_synthesized}
use Rattle.zone_rules.specs.Spf.{is_spf}
use Rattle.zone_rules.specs.Zones.{but_root, comes_before, field_octets, type_of, has_type_at, is_equal_record, record_before, host_of, set_type, is_one_set}
use Rattle.zone_rules.specs.declared.refused.RrsetName.{RrsetName}

-- the record is neither at the origin nor below it
abbrev pub is_out_of_zone : {N O : Type 0} → List (List ℕ) → Record N O → Bool
is_out_of_zone origin r = not (is_within r.owner origin)

-- the record has the type, and is at the apex, whose name is the origin
abbrev pub is_record_at_apex : {N O : Type 0} → RecordType → List (List ℕ) → Record N O → Bool
is_record_at_apex rtype origin r = type_of r == rtype && same_name r.owner origin

-- both have the type and the same owner, and they differ
abbrev pub are_two_of : {N O : Type 0} → RecordType → Record N O → Record N O → Bool
are_two_of rtype a b = type_of a == rtype && (type_of b == rtype && (same_name a.owner b.owner && not (is_equal_record a b)))

-- both are of one RRset, and their TTLs differ
abbrev pub have_other_ttls : {N O : Type 0} → Record N O → Record N O → Bool
have_other_ttls a b = is_one_set a b && not (a.ttl == b.ttl)

-- a record comes before this one, and the two pass the test
abbrev pub passes_after : {N O : Type 0} → (Record N O → Record N O → Bool) → Option (Record N O) → Record N O → Bool
passes_after test before r = option_map_or (λ b. test b r) before false

-- the record before the index and this one pass the test
abbrev pub follows : {N O : Type 0} → (Record N O → Record N O → Bool) → List (Record N O) → ℕ → Record N O → Bool
follows test records place r = passes_after test (record_before records place) r

-- the types that a CNAME's owner may have besides it: RRSIG, NSEC, and KEY for secure dynamic update (RFC 4035 section 2.5)
abbrev pub is_beside_aliases : RecordType → Bool
is_beside_aliases rtype = rtype == Rtype.rrsig || (rtype == Rtype.nsec || rtype == Rtype.key)

-- the record has the same owner as an alias, isn't equal to it, and is of no type that may be there
abbrev pub is_beside_alias : {N O M P : Type 0} → Record N O → Record M P → Bool
is_beside_alias alias r = same_name r.owner alias.owner && (not (is_beside_aliases (type_of r)) && not (is_equal_record alias r))

-- the record is an alias, and another record must not have the same owner
abbrev pub is_alias_in_company : {N O M P : Type 0} → List (Record N O) → Record M P → Bool
is_alias_in_company records r = type_of r == Rtype.cname && list_any (is_beside_alias r) records

-- an ancestor of the record's owner has a DNAME
abbrev pub has_dname_over : {N O M P : Type 0} → List (Record N O) → Record M P → Bool
has_dname_over records r = has_dname_above r.owner records

-- the record is an NSEC3, or an RRSIG that covers NSEC3
abbrev pub is_of_hashed_chain : {N O : Type 0} → Record N O → Bool
is_of_hashed_chain r = type_of r == Rtype.nsec3 || set_type r == Rtype.nsec3

-- the same, except for the chain of NSEC3, which is below the apex even if that has a DNAME (RFC 5155 section 3)
abbrev pub is_below_dname : {N O M P : Type 0} → List (Record N O) → Record M P → Bool
is_below_dname records r = not (is_of_hashed_chain r) && has_dname_over records r

-- the record is an SOA below the apex
abbrev pub is_soa_below_apex : {N O : Type 0} → List (List ℕ) → Record N O → Bool
is_soa_below_apex origin r = type_of r == Rtype.soa && is_below r.owner origin

-- the record is an NS at a wildcard
abbrev pub is_wildcard_ns : {N O : Type 0} → Record N O → Bool
is_wildcard_ns r = type_of r == Rtype.ns && is_wildcard r.owner

-- the record is an NSEC3, and the first label of its owner is not a hash in base32hex
abbrev pub is_unhashed_nsec3 : {N O : Type 0} → Record N O → Bool
is_unhashed_nsec3 r = type_of r == Rtype.nsec3 && not (is_base32_text (first_label_of r.owner))

-- another record at a record's owner has its type, and differs from it
abbrev pub is_other_of_type : {N O M P : Type 0} → Record N O → Record M P → Bool
is_other_of_type r other = same_name other.owner r.owner && (type_of other == type_of r && not (is_equal_record r other))

-- ---- delegations

-- a name below the apex has an NS
abbrev pub is_zone_cut : {N O : Type 0} → List (List ℕ) → List (Record N O) → List (List ℕ) → Bool
is_zone_cut origin records name = is_below name origin && has_type_at Rtype.ns name records

-- an ancestor of a name is a delegation
abbrev pub is_below_zone_cut : {N O : Type 0} → List (List ℕ) → List (Record N O) → List (List ℕ) → Bool
is_below_zone_cut origin records name = list_any (is_zone_cut origin records) (names_above name)

-- the record is a DNAME at a delegation
abbrev pub is_dname_at_cut : {N O M P : Type 0} → List (List ℕ) → List (Record N O) → Record M P → Bool
is_dname_at_cut origin records r = type_of r == Rtype.dname && is_zone_cut origin records r.owner

-- ---- hosts

-- the host in a record's data passes the test
abbrev pub names_host : {N O : Type 0} → (List (List ℕ) → Bool) → Record N O → Bool
names_host test r = option_map_or test (host_of r) false

-- it passes, and the record's class is IN, in which hosts have addresses
abbrev pub names_internet_host : {N O : Type 0} → (List (List ℕ) → Bool) → Record N O → Bool
names_internet_host test r = r.class == internet && names_host test r

-- the closest ancestor with a DNAME, of the host in a record's data
abbrev pub dname_above_host : {N O M P : Type 0} → List (Record N O) → List RrsetName → Record M P → Option (List (List ℕ))
dname_above_host records refused r = option_and_then (λ name. closest_dname name records refused) (host_of r)

-- a name has a CNAME, of its own or, if the zone is authoritative for it, from a wildcard
abbrev pub is_alias : {N O : Type 0} → List (List ℕ) → List (Record N O) → List RrsetName → List (List ℕ) → Bool
is_alias origin records refused name = is_present Rtype.cname name records refused || (is_synthesized Rtype.cname name records refused && is_own origin records refused name)

-- the zone is authoritative for a name, and an ancestor of it has a DNAME
abbrev pub is_below_own_dname : {N O : Type 0} → List (List ℕ) → List (Record N O) → List RrsetName → List (List ℕ) → Bool
is_below_own_dname origin records refused name = is_renamed name records refused && is_own origin records refused name

-- the zone is authoritative for a name, and has no address for it
abbrev pub lacks_address : {N O : Type 0} → List (List ℕ) → List (Record N O) → List RrsetName → List (List ℕ) → Bool
lacks_address origin records refused name = (is_renamed name records refused || not (has_any_address name records refused)) && is_own origin records refused name

-- the host of an NS at the apex has no address
abbrev pub lacks_ns_address : {N O M P : Type 0} → List (List ℕ) → List (Record N O) → List RrsetName → Record M P → Bool
lacks_ns_address origin records refused r = is_record_at_apex Rtype.ns origin r && names_internet_host (lacks_address origin records refused) r

-- a name is at or below a delegation, and has no A or AAAA
abbrev pub is_without_glue : {N O : Type 0} → List (List ℕ) → List (Record N O) → List RrsetName → List (List ℕ) → Bool
is_without_glue delegation records refused name = is_within name delegation && not (has_address_in name records refused)

-- the host of an NS below the apex is at or below its owner, and has no address
abbrev pub lacks_glue : {N O M P : Type 0} → List (List ℕ) → List (Record N O) → List RrsetName → Record M P → Bool
lacks_glue origin records refused r = type_of r == Rtype.ns && (is_below r.owner origin && names_internet_host (is_without_glue r.owner records refused) r)

-- the host of an MX, SRV or NS is an alias
abbrev pub names_alias : {N O M P : Type 0} → List (List ℕ) → List (Record N O) → List RrsetName → Record M P → Bool
names_alias origin records refused r = names_host (is_alias origin records refused) r

-- the host of an MX, SRV or NS is below a DNAME
abbrev pub names_renamed : {N O M P : Type 0} → List (List ℕ) → List (Record N O) → List RrsetName → Record M P → Bool
names_renamed origin records refused r = names_host (is_below_own_dname origin records refused) r

-- the zone has no address for a name, which is neither an alias nor below a DNAME
abbrev pub is_missing : {N O : Type 0} → List (List ℕ) → List (Record N O) → List RrsetName → List (List ℕ) → Bool
is_missing origin records refused name = lacks_address origin records refused name && (not (is_renamed name records refused) && not (is_alias origin records refused name))

-- the host of an MX, SRV or NS is missing; for an NS at the apex that is an error of its own
abbrev pub names_missing : {N O M P : Type 0} → List (List ℕ) → List (Record N O) → List RrsetName → Record M P → Bool
names_missing origin records refused r = not (is_record_at_apex Rtype.ns origin r) && names_internet_host (is_missing origin records refused) r

-- ---- aliases

-- the target of a CNAME
abbrev pub alias_target : {N O : Type 0} → Record N O → Option (List (List ℕ))
alias_target r = if type_of r == Rtype.cname then name_in r (Some 0) else None

-- the zone is authoritative for a name, which is not below a DNAME, and has no records for it
abbrev pub lacks_records : {N O : Type 0} → List (List ℕ) → List (Record N O) → List RrsetName → List (List ℕ) → Bool
lacks_records origin records refused name = not (yields_records name records refused) && (not (is_renamed name records refused) && is_own origin records refused name)

-- the zone has no records for the target of a CNAME
abbrev pub names_nothing : {N O M P : Type 0} → List (List ℕ) → List (Record N O) → List RrsetName → Record M P → Bool
names_nothing origin records refused r = option_map_or (lacks_records origin records refused) (alias_target r) false

-- the first CNAME at a name
abbrev pub alias_at : {N O : Type 0} → List (List ℕ) → List (Record N O) → Option (Record N O)
alias_at name records = find (λ r. same_name r.owner name && type_of r == Rtype.cname) records

-- the target of the first CNAME at a name
abbrev pub name_after : {N O : Type 0} → List (Record N O) → List (List ℕ) → Option (List (List ℕ))
name_after records name = option_and_then alias_target (alias_at name records)

-- CNAMEs lead from a name to another one, up to a number of them
abbrev pub leads_to : {N O : Type 0} → ℕ → List (Record N O) → List (List ℕ) → List (List ℕ) → Bool
leads_to zero records goal name = false
leads_to (suc count) records goal name = option_map_or (λ next. same_name next goal || leads_to count records goal next) (name_after records name) false

-- at most 16 CNAMEs, of which the record is the first, lead back to its owner (RFC 1034 section 3.6.2)
abbrev pub is_alias_loop : {N O M P : Type 0} → List (Record N O) → Record M P → Bool
is_alias_loop records r = type_of r == Rtype.cname && leads_to 16 records r.owner r.owner

-- ---- services: SVCB and HTTPS (RFC 9460)

abbrev pub is_service_type : RecordType → Bool
is_service_type rtype = rtype == Rtype.svcb || rtype == Rtype.https

-- the target of a service; the root means no service in AliasMode, and the owner in ServiceMode (section 2.5)
abbrev pub service_target : {N O : Type 0} → Record N O → Option (List (List ℕ))
service_target r = if is_service_type (type_of r) then option_and_then but_root (name_in r (target_field (type_of r))) else None

-- AliasMode: the priority is 0 (section 2.4.1)
abbrev pub is_alias_mode : {N O : Type 0} → Record N O → Bool
is_alias_mode r = is_service_type (type_of r) && pointwise nat_eq (field_octets 0 r) (0 ∷ 0 ∷ [])

-- the zone lacks what a service asks of a name: in AliasMode records (section 2.4.2), and else addresses (section 2.4.3)
abbrev pub is_absent : {N O M P : Type 0} → List (List ℕ) → List (Record N O) → List RrsetName → Record M P → List (List ℕ) → Bool
is_absent origin records refused r name = if is_alias_mode r then lacks_records origin records refused name else (r.class == internet && is_missing origin records refused name)

-- the target of a service is missing, and the zone is authoritative for the owner
abbrev pub names_no_service : {N O M P : Type 0} → List (List ℕ) → List (Record N O) → List RrsetName → Record M P → Bool
names_no_service origin records refused r = option_map_or (λ name. is_absent origin records refused r name && is_own origin records refused r.owner) (service_target r) false

-- the octets after a priority
abbrev pub after_priority : List ℕ → List ℕ
after_priority [] = []
after_priority (high ∷ []) = []
after_priority (high ∷ low ∷ others) = others

-- parameters follow the target: it is shorter than what is after the priority
abbrev pub has_svc_params : {N O : Type 0} → Record N O → Bool
has_svc_params r = nat_lt (length (field_octets 1 r)) (length (after_priority (data_of r).octets))

-- another record of the owner and the type is in ServiceMode, or in AliasMode
abbrev pub is_service_beside : {N O M P : Type 0} → Record N O → Record M P → Bool
is_service_beside r other = is_other_of_type r other && not (is_alias_mode other)

abbrev pub is_alias_beside : {N O M P : Type 0} → Record N O → Record M P → Bool
is_alias_beside r other = is_other_of_type r other && is_alias_mode other

-- the first service of a type at a name
abbrev pub service_at : {N O : Type 0} → RecordType → List (List ℕ) → List (Record N O) → Option (Record N O)
service_at rtype name records = find (λ r. same_name r.owner name && type_of r == rtype) records

-- the name to which an alias leads
abbrev pub alias_mode_target : {N O : Type 0} → Record N O → Option (List (List ℕ))
alias_mode_target r = if is_alias_mode r then service_target r else None

-- the name to which the first service of a type at a name leads
abbrev pub name_after_alias : {N O : Type 0} → RecordType → List (Record N O) → List (List ℕ) → Option (List (List ℕ))
name_after_alias rtype records name = option_and_then alias_mode_target (service_at rtype name records)

-- up to a number of names, of which each leads to the next, end in another name, and come after that in canonical order
abbrev pub aliases_end_in : {N O : Type 0} → ℕ → RecordType → List (Record N O) → List (List ℕ) → List (List ℕ) → Bool
aliases_end_in zero rtype records goal name = false
aliases_end_in (suc count) rtype records goal name =
    same_name name goal || (is_lt (name_order goal name) && option_map_or (aliases_end_in count rtype records goal) (name_after_alias rtype records name) false)

-- at most 16 aliases, of which the record is the first, lead back to its owner, the first of their names in canonical order (section 2.4.2)
abbrev pub is_service_loop : {N O M P : Type 0} → List (Record N O) → Record M P → Bool
is_service_loop records r = option_map_or (aliases_end_in 16 (type_of r) records r.owner) (service_target r) false

-- what is wrong with an alias: it has parameters (section 2.4.2); it is beside others in ServiceMode (section 2.4.1); it is one of several; it leads back
abbrev pub is_wrong_alias : {N O M P : Type 0} → (way : ℕ) → List (Record N O) → Record M P → Bool
is_wrong_alias way records r =
    if way == 0 then has_svc_params r
    else (if way == 1 then list_any (is_service_beside r) records
    else (if way == 3 then is_service_loop records r else (not (list_any (is_service_beside r) records) && list_any (is_alias_beside r) records)))

-- a service in AliasMode is wrong, and the zone is authoritative for its owner
abbrev pub has_wrong_alias : {N O M P : Type 0} → (way : ℕ) → List (List ℕ) → List (Record N O) → List RrsetName → Record M P → Bool
has_wrong_alias way origin records refused r = is_alias_mode r && (is_wrong_alias way records r && is_own origin records refused r.owner)

-- ---- keys

-- DNSKEY (RFC 4034 section 2), DS (section 5), and those for the parent (RFC 7344)
abbrev pub is_delete_request : {N O : Type 0} → Record N O → Bool
is_delete_request r =
    (type_of r == Rtype.cds && pointwise nat_eq (data_of r).octets (0 ∷ 0 ∷ 0 ∷ 0 ∷ 0 ∷ [])) || (type_of r == Rtype.cdnskey && pointwise nat_eq (data_of r).octets (0 ∷ 0 ∷ 3 ∷ 0 ∷ 0 ∷ []))

abbrev pub is_for_parent : {N O : Type 0} → Record N O → Bool
is_for_parent r = type_of r == Rtype.cds || type_of r == Rtype.cdnskey

-- another record at a record's owner is a CDS or CDNSKEY that is not a delete request
abbrev pub is_request_beside : {N O M P : Type 0} → Record N O → Record M P → Bool
is_request_beside r other = same_name other.owner r.owner && (is_for_parent other && not (is_delete_request other))

-- a delete request at the apex, and another CDS or CDNSKEY there that is not one (RFC 8078 section 4)
abbrev pub deletes_beside_keys : {N O M P : Type 0} → List (List ℕ) → List (Record N O) → Record M P → Bool
deletes_beside_keys origin records r = is_for_parent r && (is_delete_request r && (same_name r.owner origin && list_any (is_request_beside r) records))

-- both are octets, and equal
abbrev pub are_one_octet : Option ℕ → Option ℕ → Bool
are_one_octet (Some a) (Some b) = a == b
are_one_octet (Some a) None = false
are_one_octet None b = false

-- the offset of the algorithm in the data of a CDS (RFC 7344 section 3.1), and of a DNSKEY or CDNSKEY (RFC 4034 section 2.1)
abbrev pub algorithm_offset : RecordType → ℕ
algorithm_offset rtype = if rtype == Rtype.cds then 2 else 3

abbrev pub algorithm_of : {N O : Type 0} → Record N O → Option ℕ
algorithm_of r = slice_get (data_of r).octets (algorithm_offset (type_of r))

-- another record at a record's owner is a DNSKEY of its algorithm
abbrev pub is_key_of_algorithm : {N O M P : Type 0} → Record N O → Record M P → Bool
is_key_of_algorithm r other = same_name other.owner r.owner && (type_of other == Rtype.dnskey && are_one_octet (algorithm_of r) (algorithm_of other))

-- a CDS or CDNSKEY at the apex that is not a delete request (RFC 8078 section 4), and no DNSKEY there is of its algorithm
abbrev pub lacks_key : {N O M P : Type 0} → List (List ℕ) → List (Record N O) → List RrsetName → Record M P → Bool
lacks_key origin records refused r =
    is_for_parent r && (not (is_delete_request r) && (same_name r.owner origin && (not (is_listed Rtype.dnskey r.owner refused) && not (list_any (is_key_of_algorithm r) records))))

-- a KEY, and a CNAME at its owner: RFC 4035 section 2.5 allows it
abbrev pub is_key_at_alias : {N O M P : Type 0} → List (Record N O) → Record M P → Bool
is_key_at_alias records r = type_of r == Rtype.key && has_type_at Rtype.cname r.owner records

-- a DS below the apex, and no NS at its owner
abbrev pub lacks_ns : {N O M P : Type 0} → List (List ℕ) → List (Record N O) → List RrsetName → Record M P → Bool
lacks_ns origin records refused r = type_of r == Rtype.ds && (is_below r.owner origin && not (is_present Rtype.ns r.owner records refused))

-- the types that belong at an apex: NSEC3PARAM, CDS, CDNSKEY, CSYNC and ZONEMD
abbrev pub is_apex_type : RecordType → Bool
is_apex_type rtype = rtype == Rtype.nsec3param || (rtype == Rtype.cds || (rtype == Rtype.cdnskey || (rtype == Rtype.csync || rtype == Rtype.zonemd)))

-- a record of such a type is below the apex, or a DNSKEY below it is not at a delegation
abbrev pub is_below_its_apex : {N O M P : Type 0} → List (List ℕ) → List (Record N O) → List RrsetName → Record M P → Bool
is_below_its_apex origin records refused r = (is_apex_type (type_of r) || (type_of r == Rtype.dnskey && not (is_present Rtype.ns r.owner records refused))) && is_below r.owner origin

-- the octet at an offset of a record's data
abbrev pub has_octet_at : {N O : Type 0} → (ℕ → Bool) → ℕ → Record N O → Bool
has_octet_at test place r = option_map_or test (slice_get (data_of r).octets place) false

-- a DNSKEY whose protocol is not 3 (RFC 4034 section 2.1.2)
abbrev pub has_other_protocol : {N O : Type 0} → Record N O → Bool
has_other_protocol r = type_of r == Rtype.dnskey && has_octet_at (λ o. not (o == 3)) 2 r

-- a DNSKEY or DS of algorithm 0, which is reserved (RFC 4034 appendix A.1)
abbrev pub has_no_algorithm : {N O : Type 0} → Record N O → Bool
has_no_algorithm r = (type_of r == Rtype.dnskey && has_octet_at (λ o. o == 0) 3 r) || (type_of r == Rtype.ds && has_octet_at (λ o. o == 0) 2 r)

-- both have the same octet at an offset of their data
abbrev pub have_one_octet : {N O M P : Type 0} → ℕ → Record N O → Record M P → Bool
have_one_octet place a b = option_map_or (λ octet. has_octet_at (λ o. o == octet) place b) (slice_get (data_of a).octets place) false

-- the key tag and algorithm of DS (RFC 4034 section 5.1)
abbrev pub are_of_one_key : {N O M P : Type 0} → Record N O → Record M P → Bool
are_of_one_key a b = have_one_octet 0 a b && (have_one_octet 1 a b && have_one_octet 2 a b)

-- the digest type of a DS is SHA-1
abbrev pub is_of_sha1 : {N O : Type 0} → Record N O → Bool
is_of_sha1 r = has_octet_at (λ o. o == 1) 3 r

-- another record is a DS of the RRset and the key of a DS
abbrev pub is_ds_beside : {N O M P : Type 0} → Record N O → Record M P → Bool
is_ds_beside r other = same_name other.owner r.owner && (other.class == r.class && (type_of other == Rtype.ds && are_of_one_key r other))

-- its digest is another one than SHA-1
abbrev pub is_digest_beside : {N O M P : Type 0} → Record N O → Record M P → Bool
is_digest_beside r other = is_ds_beside r other && not (is_of_sha1 other)

-- a DS with SHA-1, and no other digest of its key
abbrev pub is_weak_digest : {N O M P : Type 0} → List (Record N O) → List RrsetName → Record M P → Bool
is_weak_digest records refused r = type_of r == Rtype.ds && (is_of_sha1 r && (not (is_listed Rtype.ds r.owner refused) && not (list_any (is_digest_beside r) records)))

-- ---- SPF

-- another record at a record's owner has an SPF record, and comes before it
abbrev pub is_spf_beside : {N O M P : Type 0} → Record N O → Record M P → Bool
is_spf_beside r other = same_name other.owner r.owner && (is_spf other && comes_before other r)

-- a record has an SPF record, and so has an earlier one at its owner (RFC 7208 section 3.2)
abbrev pub has_spf_before : {N O M P : Type 0} → List (Record N O) → Record M P → Bool
has_spf_before records r = is_spf r && list_any (is_spf_beside r) records

-- ---- name servers

-- names that no server has (RFC 6761): catalog zones (RFC 9432) and response policies have them as hosts
abbrev pub is_serverless : List (List ℕ) → Bool
is_serverless name = is_within name (codes "invalid" ∷ [] ∷ []) || is_within name (codes "localhost" ∷ [] ∷ [])

abbrev pub names_server : {N O : Type 0} → Record N O → Bool
names_server r = names_host (λ host. not (is_serverless host)) r

-- the only NS of the apex, with a host that may be a server (RFC 1034 section 4.1)
abbrev pub is_lone_server : {N O M P : Type 0} → List (List ℕ) → List (Record N O) → List RrsetName → Record M P → Bool
is_lone_server origin records refused r =
    type_of r == Rtype.ns && (same_name r.owner origin && (names_server r && (not (is_listed Rtype.ns r.owner refused) && not (list_any (is_other_of_type r) records))))

-- ---- mail exchanges

-- an MX without a host: its exchange is the root, so its owner receives no mail (RFC 7505 section 3)
abbrev pub is_null_mx : {N O : Type 0} → Record N O → Bool
is_null_mx r = type_of r == Rtype.mx && not (names_host (λ host. true) r)

-- a null MX, and another MX at its owner, for which the zone is authoritative
abbrev pub is_null_mx_beside : {N O M P : Type 0} → List (List ℕ) → List (Record N O) → List RrsetName → Record M P → Bool
is_null_mx_beside origin records refused r = is_null_mx r && (is_own origin records refused r.owner && list_any (is_other_of_type r) records)

-- ---- digests of the zone

-- a ZONEMD has the serial of an SOA (RFC 8976 section 2.2.1, RFC 1035 section 3.3.13)
abbrev pub has_serial_of : {N O M P : Type 0} → Record N O → Record M P → Bool
has_serial_of r soa = pointwise nat_eq (field_octets 0 r) (field_octets 2 soa)

-- another record at a ZONEMD's owner is an SOA with another serial
abbrev pub is_soa_of_other_serial : {N O M P : Type 0} → Record N O → Record M P → Bool
is_soa_of_other_serial r other = same_name other.owner r.owner && (type_of other == Rtype.soa && not (has_serial_of r other))

-- a ZONEMD at the apex, and an SOA there with another serial
abbrev pub has_other_serial : {N O M P : Type 0} → List (List ℕ) → List (Record N O) → Record M P → Bool
has_other_serial origin records r = is_record_at_apex Rtype.zonemd origin r && list_any (is_soa_of_other_serial r) records

-- ---- hosts of TLSA (RFC 6698 section 3)

-- the label of a transport
abbrev pub is_transport : List ℕ → Bool
is_transport label = same_lowered label (codes "_tcp") || (same_lowered label (codes "_udp") || same_lowered label (codes "_sctp"))

-- the name after the first label of a transport
abbrev pub name_after_transport : List (List ℕ) → Option (List (List ℕ))
name_after_transport [] = None
name_after_transport (label ∷ []) = None
name_after_transport (label ∷ next ∷ others) = if is_transport label then Some (next ∷ others) else name_after_transport (next ∷ others)

-- the host of a TLSA
abbrev pub tlsa_host : {N O : Type 0} → Record N O → Option (List (List ℕ))
tlsa_host r = if type_of r == Rtype.tlsa then option_and_then but_root (name_after_transport r.owner) else None

-- the zone is authoritative for the owner of a TLSA, and lacks an address for its host, which is not a wildcard
abbrev pub is_lost : {N O M P : Type 0} → List (List ℕ) → List (Record N O) → List RrsetName → Record M P → List (List ℕ) → Bool
is_lost origin records refused r host = not (is_wildcard host) && (is_missing origin records refused host && is_own origin records refused r.owner)

-- a TLSA of class IN whose host is missing
abbrev pub has_lost_host : {N O M P : Type 0} → List (List ℕ) → List (Record N O) → List RrsetName → Record M P → Bool
has_lost_host origin records refused r = r.class == internet && option_map_or (is_lost origin records refused r) (tlsa_host r) false

-- ---- all rules

-- whether a record breaks a rule after the one before it, if there is one; no record breaks the rules about what is missing at the apex
abbrev pub breaks_in_way : {N O M P : Type 0} → Code → (way : ℕ) → List (List ℕ) → List (Record N O) → List RrsetName → Option (Record M P) → Record M P → Bool
breaks_in_way Outside way origin records refused before r = is_out_of_zone origin r
breaks_in_way TwoSoas way origin records refused before r = passes_after (are_two_of Rtype.soa) before r
breaks_in_way NsAddress way origin records refused before r = lacks_ns_address origin records refused r
breaks_in_way Cname way origin records refused before r = is_alias_in_company records r
breaks_in_way Dname way origin records refused before r = passes_after (are_two_of Rtype.dname) before r
breaks_in_way BelowDname way origin records refused before r = is_below_dname records r
breaks_in_way DsApex way origin records refused before r = is_record_at_apex Rtype.ds origin r
breaks_in_way WildcardNs way origin records refused before r = is_wildcard_ns r
breaks_in_way SoaNotApex way origin records refused before r = is_soa_below_apex origin r
breaks_in_way NsBesideDname way origin records refused before r = is_dname_at_cut origin records r
breaks_in_way KeyBesideCname way origin records refused before r = is_key_at_alias records r
breaks_in_way Nsec3Wildcard way origin records refused before r = is_unhashed_nsec3 r
breaks_in_way Glue way origin records refused before r = lacks_glue origin records refused r
breaks_in_way TargetCname way origin records refused before r = if way == 0 then names_alias origin records refused r else names_renamed origin records refused r
breaks_in_way TargetMissing way origin records refused before r = names_missing origin records refused r || names_no_service origin records refused r
breaks_in_way HostName way origin records refused before r = is_bad_host_name r
breaks_in_way Cds way origin records refused before r = lacks_key origin records refused r
breaks_in_way CdsDelete way origin records refused before r = deletes_beside_keys origin records r
breaks_in_way DsWithoutNs way origin records refused before r = lacks_ns origin records refused r
breaks_in_way NotAtApex way origin records refused before r = is_below_its_apex origin records refused r
breaks_in_way KeyProtocol way origin records refused before r = has_other_protocol r
breaks_in_way KeyAlgorithm way origin records refused before r = has_no_algorithm r
breaks_in_way CnameTargetMissing way origin records refused before r = names_nothing origin records refused r
breaks_in_way CnameLoop way origin records refused before r = is_alias_loop records r
breaks_in_way TwoSpf way origin records refused before r = has_spf_before records r
breaks_in_way WeakDigest way origin records refused before r = is_weak_digest records refused r
breaks_in_way SingleNs way origin records refused before r = is_lone_server origin records refused r
breaks_in_way NullMx way origin records refused before r = is_null_mx_beside origin records refused r
breaks_in_way ZonemdSerial way origin records refused before r = has_other_serial origin records r
breaks_in_way TlsaHost way origin records refused before r = has_lost_host origin records refused r
breaks_in_way SvcbAlias way origin records refused before r = has_wrong_alias way origin records refused r
breaks_in_way TtlDiffers way origin records refused before r = passes_after have_other_ttls before r
breaks_in_way Duplicate way origin records refused before r = passes_after is_equal_record before r
breaks_in_way _ way origin records refused before r = false

abbrev pub breaks : {N O M P : Type 0} → Rule → List (List ℕ) → List (Record N O) → List RrsetName → Option (Record M P) → Record M P → Bool
breaks rule origin records refused before r = breaks_in_way rule.code rule.way origin records refused before r
