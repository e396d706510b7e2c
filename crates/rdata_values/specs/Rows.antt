-- Worked rows of the definitions, each computed.
use Rattle.std.specs.Prelude.{◌≡◌, true, false, [], ◌∷◌, ◌++◌, map, Some, None, codes, decimal, refl}
use Rattle.std.specs.Fmt.{digits}
use Rattle.std.specs.Net.Text.{ipv4_text}
use Rattle.rdata_values.specs.Addresses.{has_ipv4_end, shown_ipv6}
use Rattle.rdata_values.specs.Algorithms.{algorithm_rows, certificate_rows}
use Rattle.rdata_values.specs.Classes.{class_rows, class_prefix, internet}
use Rattle.rdata_values.specs.Eui.{dashed_text}
use Rattle.rdata_values.specs.Locator.{locator_text}
use Rattle.rdata_values.specs.Registry.{code_row, row_code, row_name, code_text}
use Rattle.rdata_values.specs.Salt.{salt_text}
use Rattle.rdata_values.specs.Schemes.{scheme_rows}
use Rattle.rdata_values.specs.Time.{is_leap, month_days, seconds_at, date_of, date_text, date_at, year_at, month_at, holding}
use Rattle.rdata_values.specs.Ttl.{unit_seconds, Period, period_text, period_seconds}
use Rattle.rdata_values.specs.Rtype as Rtype
use Rattle.rdata_values.specs.Types.{type_rows, type_prefix, portable_text, sig_type_text}

-- ---- TTLs

-- w, D, h, M, s and y
units : map unit_seconds (119 ∷ 68 ∷ 104 ∷ 77 ∷ 115 ∷ 121 ∷ []) ≡ Some 604800 ∷ Some 86400 ∷ Some 3600 ∷ Some 60 ∷ Some 1 ∷ None ∷ []
units = refl

thirty_minutes : Period
thirty_minutes = record { digits = codes "30"; letter = 109; unit = 60 }

period : period_text thirty_minutes ≡ codes "30m"
unfolding thirty_minutes
period = refl

period_of_thirty : period_seconds thirty_minutes ≡ 1800
unfolding thirty_minutes
period_of_thirty = refl

-- ---- times of signatures

leap : map is_leap (1996 ∷ 2000 ∷ 2001 ∷ 2100 ∷ []) ≡ true ∷ true ∷ false ∷ false ∷ []
leap = refl

february : map (λ year. month_days year 2) (2004 ∷ 2100 ∷ []) ≡ 29 ∷ 28 ∷ []
february = refl

-- the example of RFC 4034 section 3.3, the last second of 32 bits, and the next one
seconds : map (λ text. seconds_at (date_of text)) (codes "20030322173103" ∷ codes "21060207062815" ∷ codes "21060207062816" ∷ []) ≡ 1048354263 ∷ 4294967295 ∷ 4294967296 ∷ []
seconds = refl

-- the first second, the first and the last of a leap day, and the last of 32 bits
dates : map date_at (0 ∷ 951782400 ∷ 951868799 ∷ 4294967295 ∷ []) ≡ map date_of (codes "19700101000000" ∷ codes "20000229000000" ∷ codes "20000229235959" ∷ codes "21060207062815" ∷ [])
unfolding date_at year_at month_at holding
dates = refl

printed_date : date_text (date_of (codes "20030322173103")) ≡ codes "20030322173103"
printed_date = refl

-- ---- codes

types_read : map (row_code type_rows) (codes "A" ∷ codes "nsec3Param" ∷ codes "CAA" ∷ codes "TYPE1" ∷ []) ≡ Some 1 ∷ Some 51 ∷ Some 257 ∷ None ∷ []
unfolding type_rows
types_read = refl

types_printed : map (code_text type_rows type_prefix) (46 ∷ 51 ∷ 65280 ∷ []) ≡ codes "RRSIG" ∷ codes "NSEC3PARAM" ∷ (codes "TYPE" ++ decimal 65280) ∷ []
unfolding type_rows
types_printed = refl

-- A and CAA are known to every reader; WALLET, CLA and DLV are not
portable : map (λ code. portable_text code) (1 ∷ 257 ∷ 262 ∷ 263 ∷ 32769 ∷ []) ≡ codes "A" ∷ codes "CAA" ∷ codes "TYPE262" ∷ codes "TYPE263" ∷ codes "TYPE32769" ∷ []
unfolding type_rows digits
portable = refl

sig_types : map (λ code. sig_type_text code) (0 ∷ 15 ∷ 26 ∷ []) ≡ codes "0" ∷ codes "MX" ∷ codes "TYPE26" ∷ []
unfolding type_rows digits
sig_types = refl

classes : map (code_text class_rows class_prefix) (1 ∷ 3 ∷ 4 ∷ 254 ∷ []) ≡ codes "IN" ∷ codes "CH" ∷ codes "HS" ∷ (codes "CLASS" ++ decimal 254) ∷ []
classes = refl

internet_class : row_name class_rows internet ≡ Some (codes "IN")
internet_class = refl

-- IANA's names, and those of BIND
algorithms : map (row_code algorithm_rows) (codes "RsaSha256" ∷ codes "RSASHA1-NSEC3-SHA1" ∷ codes "NSEC3RSASHA1" ∷ codes "NSEC3DSA" ∷ codes "ECCGOST" ∷ codes "NSEC3" ∷ []) ≡ Some 8 ∷ Some 7 ∷ Some 7 ∷ Some 6 ∷ Some 12 ∷ None ∷ []
algorithms = refl

algorithm_names : map (row_name algorithm_rows) (6 ∷ 7 ∷ 12 ∷ 0 ∷ []) ≡ Some (codes "DSA-NSEC3-SHA1") ∷ Some (codes "RSASHA1-NSEC3-SHA1") ∷ Some (codes "ECC-GOST") ∷ None ∷ []
algorithm_names = refl

certificates : map (code_text certificate_rows []) (1 ∷ 253 ∷ 9 ∷ []) ≡ codes "PKIX" ∷ codes "URI" ∷ decimal 9 ∷ []
certificates = refl

schemes : map (code_text scheme_rows []) (1 ∷ 0 ∷ 255 ∷ []) ≡ codes "NOTIFY" ∷ decimal 0 ∷ decimal 255 ∷ []
schemes = refl

-- ---- octets

-- the example of RFC 7043 section 3.2
eui48 : dashed_text (0 ∷ 0 ∷ 0x5e ∷ 0 ∷ 0x53 ∷ 0x2a ∷ []) ≡ codes "00-00-5e-00-53-2a"
eui48 = refl

-- the examples of RFC 6742 sections 2.1 and 2.3
locators : map locator_text ((0 ∷ 0x14 ∷ 0x4f ∷ 0xff ∷ 0xff ∷ 0x20 ∷ 0xee ∷ 0x64 ∷ []) ∷ (0x20 ∷ 1 ∷ 0x0d ∷ 0xb8 ∷ 0x11 ∷ 0x40 ∷ 0x10 ∷ 0 ∷ []) ∷ []) ≡ codes "0014:4fff:ff20:ee64" ∷ codes "2001:0db8:1140:1000" ∷ []
locators = refl

salts : map salt_text ([] ∷ (0xaa ∷ 0xbb ∷ 0xcc ∷ 0xdd ∷ []) ∷ []) ≡ codes "-" ∷ codes "AABBCCDD" ∷ []
salts = refl

-- ::192.0.2.1, ::255.255.0.1, ::1, ::2, ::0.1.0.0 and 64:ff9b::c000:221
ipv4_ends : map has_ipv4_end ((0 ∷ 0 ∷ 0 ∷ 0 ∷ 0 ∷ 0 ∷ 0xc000 ∷ 0x0201 ∷ []) ∷ (0 ∷ 0 ∷ 0 ∷ 0 ∷ 0 ∷ 0 ∷ 0xffff ∷ 1 ∷ []) ∷ (0 ∷ 0 ∷ 0 ∷ 0 ∷ 0 ∷ 0 ∷ 0 ∷ 1 ∷ []) ∷ (0 ∷ 0 ∷ 0 ∷ 0 ∷ 0 ∷ 0 ∷ 0 ∷ 2 ∷ []) ∷ (0 ∷ 0 ∷ 0 ∷ 0 ∷ 0 ∷ 0 ∷ 1 ∷ 0 ∷ []) ∷ (0x64 ∷ 0xff9b ∷ 0 ∷ 0 ∷ 0 ∷ 0 ∷ 0xc000 ∷ 0x221 ∷ []) ∷ [])
    ≡ true ∷ true ∷ false ∷ false ∷ true ∷ false ∷ []
ipv4_ends = refl

ipv6 : shown_ipv6 (0 ∷ 0 ∷ 0 ∷ 0 ∷ 0 ∷ 0 ∷ 0xc000 ∷ 0x0201 ∷ []) ≡ codes "::" ++ ipv4_text (192 ∷ 0 ∷ 2 ∷ 1 ∷ [])
ipv6 = refl

-- each type has the word of its name
named_types : type_rows ≡ (
    code_row Rtype.a (codes "A") ∷
    code_row Rtype.ns (codes "NS") ∷
    code_row Rtype.md (codes "MD") ∷
    code_row Rtype.mf (codes "MF") ∷
    code_row Rtype.cname (codes "CNAME") ∷
    code_row Rtype.soa (codes "SOA") ∷
    code_row Rtype.mb (codes "MB") ∷
    code_row Rtype.mg (codes "MG") ∷
    code_row Rtype.mr (codes "MR") ∷
    code_row Rtype.null (codes "NULL") ∷
    code_row Rtype.wks (codes "WKS") ∷
    code_row Rtype.ptr (codes "PTR") ∷
    code_row Rtype.hinfo (codes "HINFO") ∷
    code_row Rtype.minfo (codes "MINFO") ∷
    code_row Rtype.mx (codes "MX") ∷
    code_row Rtype.txt (codes "TXT") ∷
    code_row Rtype.rp (codes "RP") ∷
    code_row Rtype.afsdb (codes "AFSDB") ∷
    code_row Rtype.x25 (codes "X25") ∷
    code_row Rtype.isdn (codes "ISDN") ∷
    code_row Rtype.rt (codes "RT") ∷
    code_row Rtype.nsap (codes "NSAP") ∷
    code_row Rtype.nsap_ptr (codes "NSAP-PTR") ∷
    code_row Rtype.sig (codes "SIG") ∷
    code_row Rtype.key (codes "KEY") ∷
    code_row Rtype.px (codes "PX") ∷
    code_row Rtype.gpos (codes "GPOS") ∷
    code_row Rtype.aaaa (codes "AAAA") ∷
    code_row Rtype.loc (codes "LOC") ∷
    code_row Rtype.nxt (codes "NXT") ∷
    code_row Rtype.eid (codes "EID") ∷
    code_row Rtype.nimloc (codes "NIMLOC") ∷
    code_row Rtype.srv (codes "SRV") ∷
    code_row Rtype.atma (codes "ATMA") ∷
    code_row Rtype.naptr (codes "NAPTR") ∷
    code_row Rtype.kx (codes "KX") ∷
    code_row Rtype.cert (codes "CERT") ∷
    code_row Rtype.a6 (codes "A6") ∷
    code_row Rtype.dname (codes "DNAME") ∷
    code_row Rtype.sink (codes "SINK") ∷
    code_row Rtype.opt (codes "OPT") ∷
    code_row Rtype.apl (codes "APL") ∷
    code_row Rtype.ds (codes "DS") ∷
    code_row Rtype.sshfp (codes "SSHFP") ∷
    code_row Rtype.ipseckey (codes "IPSECKEY") ∷
    code_row Rtype.rrsig (codes "RRSIG") ∷
    code_row Rtype.nsec (codes "NSEC") ∷
    code_row Rtype.dnskey (codes "DNSKEY") ∷
    code_row Rtype.dhcid (codes "DHCID") ∷
    code_row Rtype.nsec3 (codes "NSEC3") ∷
    code_row Rtype.nsec3param (codes "NSEC3PARAM") ∷
    code_row Rtype.tlsa (codes "TLSA") ∷
    code_row Rtype.smimea (codes "SMIMEA") ∷
    code_row Rtype.hip (codes "HIP") ∷
    code_row Rtype.ninfo (codes "NINFO") ∷
    code_row Rtype.rkey (codes "RKEY") ∷
    code_row Rtype.talink (codes "TALINK") ∷
    code_row Rtype.cds (codes "CDS") ∷
    code_row Rtype.cdnskey (codes "CDNSKEY") ∷
    code_row Rtype.openpgpkey (codes "OPENPGPKEY") ∷
    code_row Rtype.csync (codes "CSYNC") ∷
    code_row Rtype.zonemd (codes "ZONEMD") ∷
    code_row Rtype.svcb (codes "SVCB") ∷
    code_row Rtype.https (codes "HTTPS") ∷
    code_row Rtype.dsync (codes "DSYNC") ∷
    code_row Rtype.hhit (codes "HHIT") ∷
    code_row Rtype.brid (codes "BRID") ∷
    code_row Rtype.spf (codes "SPF") ∷
    code_row Rtype.uinfo (codes "UINFO") ∷
    code_row Rtype.uid (codes "UID") ∷
    code_row Rtype.gid (codes "GID") ∷
    code_row Rtype.unspec (codes "UNSPEC") ∷
    code_row Rtype.nid (codes "NID") ∷
    code_row Rtype.l32 (codes "L32") ∷
    code_row Rtype.l64 (codes "L64") ∷
    code_row Rtype.lp (codes "LP") ∷
    code_row Rtype.eui48 (codes "EUI48") ∷
    code_row Rtype.eui64 (codes "EUI64") ∷
    code_row Rtype.nxname (codes "NXNAME") ∷
    code_row Rtype.tkey (codes "TKEY") ∷
    code_row Rtype.tsig (codes "TSIG") ∷
    code_row Rtype.ixfr (codes "IXFR") ∷
    code_row Rtype.axfr (codes "AXFR") ∷
    code_row Rtype.mailb (codes "MAILB") ∷
    code_row Rtype.maila (codes "MAILA") ∷
    code_row Rtype.any (codes "ANY") ∷
    code_row Rtype.uri (codes "URI") ∷
    code_row Rtype.caa (codes "CAA") ∷
    code_row Rtype.avc (codes "AVC") ∷
    code_row Rtype.doa (codes "DOA") ∷
    code_row Rtype.amtrelay (codes "AMTRELAY") ∷
    code_row Rtype.resinfo (codes "RESINFO") ∷
    code_row Rtype.wallet (codes "WALLET") ∷
    code_row Rtype.cla (codes "CLA") ∷
    code_row Rtype.ipn (codes "IPN") ∷
    code_row Rtype.ta (codes "TA") ∷
    code_row Rtype.dlv (codes "DLV") ∷
    [])
unfolding type_rows
named_types = refl
