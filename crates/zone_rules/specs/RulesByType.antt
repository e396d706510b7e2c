-- The rules that a record of a type may break.
use Rattle.std.specs.Prelude.{◌≡◌, ◌==◌, ◌||◌, Bool, true, false, List, filter}
use Rattle.finding_codes.specs.declared.code.Code.{Code}
use Rattle.finding_codes.specs.declared.code.Code.TheVariants.{Outside, TwoSoas, NsAddress, Cname, BelowDname, WildcardNs, SoaNotApex, NsBesideDname, KeyBesideCname, HostName, DsWithoutNs, NotAtApex, KeyProtocol, KeyAlgorithm, CnameTargetMissing, CnameLoop, TwoSpf, WeakDigest, SingleNs, TtlDiffers, Duplicate, Dname, DsApex, Nsec3Wildcard, Glue, TargetCname, TargetMissing, Cds, CdsDelete, NullMx, ZonemdSerial, TlsaHost, SvcbAlias}
use Rattle.finding_codes.specs.declared.rule.Rule.{Rule}
use Rattle.rdata_values.specs.Rtype as Rtype
use Rattle.rdata_values.specs.declared.types.RecordType.{RecordType}
use Rattle.zone_rules.specs.Findings.{record_rules}
use Rattle.zone_rules.specs.Rules.{is_apex_type, is_service_type}

-- records of the type have a host
abbrev pub has_host_field : RecordType → Bool
has_host_field rtype = rtype == Rtype.ns || (rtype == Rtype.mx || rtype == Rtype.srv)

-- a record of the type may break a rule with this code
abbrev pub may_break_code : RecordType → Code → Bool
may_break_code rtype Outside = true
may_break_code rtype TwoSoas = rtype == Rtype.soa
may_break_code rtype NsAddress = rtype == Rtype.ns
may_break_code rtype Cname = rtype == Rtype.cname
may_break_code rtype Dname = rtype == Rtype.dname
may_break_code rtype BelowDname = true
may_break_code rtype DsApex = rtype == Rtype.ds
may_break_code rtype WildcardNs = rtype == Rtype.ns
may_break_code rtype SoaNotApex = rtype == Rtype.soa
may_break_code rtype NsBesideDname = rtype == Rtype.dname
may_break_code rtype KeyBesideCname = rtype == Rtype.key
may_break_code rtype Nsec3Wildcard = rtype == Rtype.nsec3
may_break_code rtype Glue = rtype == Rtype.ns
may_break_code rtype TargetCname = has_host_field rtype
may_break_code rtype TargetMissing = has_host_field rtype || is_service_type rtype
may_break_code rtype HostName = true
may_break_code rtype Cds = rtype == Rtype.cds || rtype == Rtype.cdnskey
may_break_code rtype CdsDelete = rtype == Rtype.cds || rtype == Rtype.cdnskey
may_break_code rtype DsWithoutNs = rtype == Rtype.ds
may_break_code rtype NotAtApex = is_apex_type rtype || rtype == Rtype.dnskey
may_break_code rtype KeyProtocol = rtype == Rtype.dnskey
may_break_code rtype KeyAlgorithm = rtype == Rtype.dnskey || rtype == Rtype.ds
may_break_code rtype CnameTargetMissing = rtype == Rtype.cname
may_break_code rtype CnameLoop = rtype == Rtype.cname
may_break_code rtype TwoSpf = rtype == Rtype.txt
may_break_code rtype WeakDigest = rtype == Rtype.ds
may_break_code rtype SingleNs = rtype == Rtype.ns
may_break_code rtype NullMx = rtype == Rtype.mx
may_break_code rtype ZonemdSerial = rtype == Rtype.zonemd
may_break_code rtype TlsaHost = rtype == Rtype.tlsa
may_break_code rtype SvcbAlias = is_service_type rtype
may_break_code rtype TtlDiffers = true
may_break_code rtype Duplicate = true
may_break_code rtype _ = false

abbrev pub may_break : RecordType → Rule → Bool
may_break rtype rule = may_break_code rtype rule.code

-- a list has the rules that a record of the type may break, in the order in which their findings are reported
abbrev pub HasRulesOf : RecordType → List Rule → Type 0
HasRulesOf rtype rules = filter (may_break rtype) rules ≡ filter (may_break rtype) record_rules
