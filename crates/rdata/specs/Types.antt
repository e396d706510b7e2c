-- The types whose RDATA has a text form.
use Rattle.std.specs.Prelude.{ℕ, ◌≡◌, ◌==◌, find, map, Option, option_map, List, [], ◌∷◌, codes, slice_get}
use Rattle.rdata_tokens.specs.declared.digests.Digests.TheVariants.{Ds, Sshfp, Zonemd}
use Rattle.rdata_fields.specs.declared.field.Field.{Field}
use Rattle.rdata_fields.specs.declared.field.Field.TheVariants.{Number8, Number16, Number32, Interval, Ipv4, Ipv6, RecordType as OfType, SigType, Algorithm, CertificateType, SyncScheme, Eui48, Eui64, Time, Locator, String, PsdnAddress, Tag, Salt, Hash, Name}
use Rattle.rdata_values.specs.Rtype as Rtype
use Rattle.rdata_values.specs.declared.types.RecordType.{RecordType}
use Rattle.rdata.specs.declared.rest.Rest.{Rest}
use Rattle.rdata.specs.declared.rest.Rest.TheVariants.{Base64, GatewayKey, Hex, HostIdentity, Location as OfLocation, MaybeString, Nothing, Params, Prefixes, QuotedText, SomeTypes, Strings, Text, Types, Nsap}
use Rattle.rdata.specs.declared.shape.LengthRule.{LengthRule}
use Rattle.rdata.specs.declared.shape.LengthRule.TheVariants.{Any, Digest, Hash as HashLength}
use Rattle.rdata.specs.declared.types.TypeRow.{TypeRow}

-- a type, the fields of its RDATA, the tail after them, the length that is required, and the names of the fields and of the parts of the tail
pub record TypeShape : Type 0 where
  pub rtype : RecordType
  pub fields : List Field
  pub rest : Rest
  pub lengths : LengthRule
  pub names : List (List ℕ)

abbrev pub type_shape : RecordType → List Field → Rest → LengthRule → List (List ℕ) → TypeShape
type_shape t fs r l ns = record { rtype = t; fields = fs; rest = r; lengths = l; names = ns }

-- the names of the parts of a row
abbrev pub row_names : TypeRow → List (List ℕ)
row_names r = map (λ n. n.now) r.4.now

abbrev pub row_shape : TypeRow → TypeShape
row_shape r = type_shape r.0 r.1.now r.2 r.3 (row_names r)

abbrev pub row_shapes : List TypeRow → List TypeShape
row_shapes = map row_shape

-- the first row of the type, if there is one
abbrev pub FindsShape : List TypeShape → RecordType → Option TypeRow → Type 0
FindsShape shapes rtype r = option_map row_shape r ≡ find (λ (s : TypeShape). s.rtype == rtype) shapes

-- the first row of the type is at this place
abbrev pub IsRowPlace : List TypeShape → RecordType → ℕ → Type 0
IsRowPlace shapes rtype place = find (λ (s : TypeShape). s.rtype == rtype) shapes ≡ slice_get shapes place

unfoldable pub type_shapes : List TypeShape
type_shapes =
    type_shape Rtype.a (Ipv4 ∷ []) Nothing Any (codes "address" ∷ []) ∷
    type_shape Rtype.ns (Name ∷ []) Nothing Any (codes "name server" ∷ []) ∷
    type_shape Rtype.cname (Name ∷ []) Nothing Any (codes "target" ∷ []) ∷
    type_shape Rtype.soa (Name ∷ Name ∷ Number32 ∷ Interval ∷ Interval ∷ Interval ∷ Interval ∷ []) Nothing Any
    (codes "primary server" ∷ codes "mailbox" ∷ codes "serial" ∷ codes "refresh" ∷ codes "retry" ∷ codes "expire" ∷ codes "minimum" ∷ []) ∷
    type_shape Rtype.mb (Name ∷ []) Nothing Any (codes "host" ∷ []) ∷
    type_shape Rtype.mg (Name ∷ []) Nothing Any (codes "mailbox" ∷ []) ∷
    type_shape Rtype.mr (Name ∷ []) Nothing Any (codes "mailbox" ∷ []) ∷
    type_shape Rtype.ptr (Name ∷ []) Nothing Any (codes "target" ∷ []) ∷
    type_shape Rtype.hinfo (String ∷ String ∷ []) Nothing Any (codes "processor" ∷ codes "system" ∷ []) ∷
    type_shape Rtype.minfo (Name ∷ Name ∷ []) Nothing Any (codes "mailbox" ∷ codes "errors mailbox" ∷ []) ∷
    type_shape Rtype.mx (Number16 ∷ Name ∷ []) Nothing Any (codes "preference" ∷ codes "exchange" ∷ []) ∷
    type_shape Rtype.txt [] Strings Any (codes "text" ∷ []) ∷
    type_shape Rtype.rp (Name ∷ Name ∷ []) Nothing Any (codes "mailbox" ∷ codes "text name" ∷ []) ∷
    type_shape Rtype.afsdb (Number16 ∷ Name ∷ []) Nothing Any (codes "subtype" ∷ codes "host" ∷ []) ∷
    type_shape Rtype.x25 (PsdnAddress ∷ []) Nothing Any (codes "address" ∷ []) ∷
    type_shape Rtype.isdn (String ∷ []) MaybeString Any (codes "address" ∷ codes "subaddress" ∷ []) ∷
    type_shape Rtype.rt (Number16 ∷ Name ∷ []) Nothing Any (codes "preference" ∷ codes "host" ∷ []) ∷
    type_shape Rtype.nsap [] Nsap Any (codes "address" ∷ []) ∷
    type_shape Rtype.nsap_ptr (Name ∷ []) Nothing Any (codes "target" ∷ []) ∷
    type_shape Rtype.sig (SigType ∷ Algorithm ∷ Number8 ∷ Number32 ∷ Time ∷ Time ∷ Number16 ∷ Name ∷ []) Base64 Any (codes "type covered" ∷ codes "algorithm" ∷ codes "labels" ∷ codes "original TTL" ∷ codes "expiration" ∷ codes "inception" ∷ codes "key tag" ∷ codes "signer" ∷ codes "signature" ∷ []) ∷
    type_shape Rtype.key (Number16 ∷ Number8 ∷ Algorithm ∷ []) Base64 Any (codes "flags" ∷ codes "protocol" ∷ codes "algorithm" ∷ codes "key" ∷ []) ∷
    type_shape Rtype.px (Number16 ∷ Name ∷ Name ∷ []) Nothing Any (codes "preference" ∷ codes "RFC 822 name" ∷ codes "X.400 name" ∷ []) ∷
    type_shape Rtype.gpos (String ∷ String ∷ String ∷ []) Nothing Any (codes "longitude" ∷ codes "latitude" ∷ codes "altitude" ∷ []) ∷
    type_shape Rtype.aaaa (Ipv6 ∷ []) Nothing Any (codes "address" ∷ []) ∷
    type_shape Rtype.loc [] OfLocation Any (codes "location" ∷ []) ∷
    type_shape Rtype.eid [] Hex Any (codes "endpoint" ∷ []) ∷
    type_shape Rtype.nimloc [] Hex Any (codes "locator" ∷ []) ∷
    type_shape Rtype.srv (Number16 ∷ Number16 ∷ Number16 ∷ Name ∷ []) Nothing Any (codes "priority" ∷ codes "weight" ∷ codes "port" ∷ codes "target" ∷ []) ∷
    type_shape Rtype.naptr (Number16 ∷ Number16 ∷ String ∷ String ∷ String ∷ Name ∷ []) Nothing Any
    (codes "order" ∷ codes "preference" ∷ codes "flags" ∷ codes "services" ∷ codes "expression" ∷ codes "replacement" ∷ []) ∷
    type_shape Rtype.kx (Number16 ∷ Name ∷ []) Nothing Any (codes "preference" ∷ codes "exchanger" ∷ []) ∷
    type_shape Rtype.cert (CertificateType ∷ Number16 ∷ Algorithm ∷ []) Base64 Any (codes "type" ∷ codes "key tag" ∷ codes "algorithm" ∷ codes "certificate" ∷ []) ∷
    type_shape Rtype.dname (Name ∷ []) Nothing Any (codes "target" ∷ []) ∷
    type_shape Rtype.sink (Number8 ∷ Number8 ∷ Number8 ∷ []) Base64 Any (codes "meaning" ∷ codes "coding" ∷ codes "subcoding" ∷ codes "data" ∷ []) ∷
    type_shape Rtype.apl [] Prefixes Any (codes "prefix" ∷ []) ∷
    type_shape Rtype.ds (Number16 ∷ Algorithm ∷ Number8 ∷ []) Hex (Digest Ds 3) (codes "key tag" ∷ codes "algorithm" ∷ codes "digest type" ∷ codes "digest" ∷ []) ∷
    type_shape Rtype.sshfp (Number8 ∷ Number8 ∷ []) Hex (Digest Sshfp 1) (codes "algorithm" ∷ codes "fingerprint type" ∷ codes "fingerprint" ∷ []) ∷
    type_shape Rtype.ipseckey (Number8 ∷ []) GatewayKey Any (codes "precedence" ∷ codes "gateway type" ∷ codes "algorithm" ∷ codes "gateway" ∷ codes "public key" ∷ []) ∷
    type_shape Rtype.rrsig (OfType ∷ Algorithm ∷ Number8 ∷ Number32 ∷ Time ∷ Time ∷ Number16 ∷ Name ∷ []) Base64 Any
    (codes "type covered" ∷ codes "algorithm" ∷ codes "labels" ∷ codes "original TTL" ∷ codes "expiration" ∷ codes "inception" ∷ codes "key tag" ∷ codes "signer" ∷ codes "signature" ∷ []) ∷
    type_shape Rtype.nsec (Name ∷ []) SomeTypes Any (codes "next name" ∷ codes "types" ∷ []) ∷
    type_shape Rtype.dnskey (Number16 ∷ Number8 ∷ Algorithm ∷ []) Base64 Any (codes "flags" ∷ codes "protocol" ∷ codes "algorithm" ∷ codes "key" ∷ []) ∷
    type_shape Rtype.dhcid [] Base64 Any (codes "digest" ∷ []) ∷
    type_shape Rtype.nsec3 (Number8 ∷ Number8 ∷ Number16 ∷ Salt ∷ Hash ∷ []) Types HashLength
    (codes "hash algorithm" ∷ codes "flags" ∷ codes "iterations" ∷ codes "salt" ∷ codes "next hash" ∷ codes "types" ∷ []) ∷
    type_shape Rtype.nsec3param (Number8 ∷ Number8 ∷ Number16 ∷ Salt ∷ []) Nothing Any (codes "hash algorithm" ∷ codes "flags" ∷ codes "iterations" ∷ codes "salt" ∷ []) ∷
    type_shape Rtype.tlsa (Number8 ∷ Number8 ∷ Number8 ∷ []) Hex Any (codes "usage" ∷ codes "selector" ∷ codes "matching type" ∷ codes "data" ∷ []) ∷
    type_shape Rtype.smimea (Number8 ∷ Number8 ∷ Number8 ∷ []) Hex Any (codes "usage" ∷ codes "selector" ∷ codes "matching type" ∷ codes "data" ∷ []) ∷
    type_shape Rtype.hip [] HostIdentity Any (codes "algorithm" ∷ codes "HIT" ∷ codes "public key" ∷ codes "rendezvous server" ∷ []) ∷
    type_shape Rtype.ninfo [] Strings Any (codes "text" ∷ []) ∷
    type_shape Rtype.rkey (Number16 ∷ Number8 ∷ Algorithm ∷ []) Base64 Any (codes "flags" ∷ codes "protocol" ∷ codes "algorithm" ∷ codes "key" ∷ []) ∷
    type_shape Rtype.talink (Name ∷ Name ∷ []) Nothing Any (codes "previous" ∷ codes "next" ∷ []) ∷
    type_shape Rtype.cds (Number16 ∷ Algorithm ∷ Number8 ∷ []) Hex (Digest Ds 3) (codes "key tag" ∷ codes "algorithm" ∷ codes "digest type" ∷ codes "digest" ∷ []) ∷
    type_shape Rtype.cdnskey (Number16 ∷ Number8 ∷ Algorithm ∷ []) Base64 Any (codes "flags" ∷ codes "protocol" ∷ codes "algorithm" ∷ codes "key" ∷ []) ∷
    type_shape Rtype.openpgpkey [] Base64 Any (codes "key" ∷ []) ∷
    type_shape Rtype.csync (Number32 ∷ Number16 ∷ []) Types Any (codes "serial" ∷ codes "flags" ∷ codes "types" ∷ []) ∷
    type_shape Rtype.zonemd (Number32 ∷ Number8 ∷ Number8 ∷ []) Hex (Digest Zonemd 5) (codes "serial" ∷ codes "scheme" ∷ codes "hash algorithm" ∷ codes "digest" ∷ []) ∷
    type_shape Rtype.svcb (Number16 ∷ Name ∷ []) Params Any (codes "priority" ∷ codes "target" ∷ codes "parameter" ∷ []) ∷
    type_shape Rtype.https (Number16 ∷ Name ∷ []) Params Any (codes "priority" ∷ codes "target" ∷ codes "parameter" ∷ []) ∷
    type_shape Rtype.dsync (OfType ∷ SyncScheme ∷ Number16 ∷ Name ∷ []) Nothing Any (codes "type" ∷ codes "scheme" ∷ codes "port" ∷ codes "target" ∷ []) ∷
    type_shape Rtype.hhit [] Base64 Any (codes "data" ∷ []) ∷
    type_shape Rtype.brid [] Base64 Any (codes "data" ∷ []) ∷
    type_shape Rtype.spf [] Strings Any (codes "text" ∷ []) ∷
    type_shape Rtype.nid (Number16 ∷ Locator ∷ []) Nothing Any (codes "preference" ∷ codes "node identifier" ∷ []) ∷
    type_shape Rtype.l32 (Number16 ∷ Ipv4 ∷ []) Nothing Any (codes "preference" ∷ codes "locator" ∷ []) ∷
    type_shape Rtype.l64 (Number16 ∷ Locator ∷ []) Nothing Any (codes "preference" ∷ codes "locator" ∷ []) ∷
    type_shape Rtype.lp (Number16 ∷ Name ∷ []) Nothing Any (codes "preference" ∷ codes "name" ∷ []) ∷
    type_shape Rtype.eui48 (Eui48 ∷ []) Nothing Any (codes "address" ∷ []) ∷
    type_shape Rtype.eui64 (Eui64 ∷ []) Nothing Any (codes "address" ∷ []) ∷
    type_shape Rtype.uri (Number16 ∷ Number16 ∷ []) QuotedText Any (codes "priority" ∷ codes "weight" ∷ codes "target" ∷ []) ∷
    type_shape Rtype.caa (Number8 ∷ Tag ∷ []) Text Any (codes "flags" ∷ codes "tag" ∷ codes "value" ∷ []) ∷
    type_shape Rtype.avc [] Strings Any (codes "text" ∷ []) ∷
    type_shape Rtype.resinfo [] Strings Any (codes "text" ∷ []) ∷
    type_shape Rtype.wallet [] Strings Any (codes "text" ∷ []) ∷
    type_shape Rtype.ta (Number16 ∷ Algorithm ∷ Number8 ∷ []) Hex (Digest Ds 3) (codes "key tag" ∷ codes "algorithm" ∷ codes "digest type" ∷ codes "digest" ∷ []) ∷
    type_shape Rtype.dlv (Number16 ∷ Algorithm ∷ Number8 ∷ []) Hex (Digest Ds 3) (codes "key tag" ∷ codes "algorithm" ∷ codes "digest type" ∷ codes "digest" ∷ []) ∷
    []
