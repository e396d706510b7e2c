-- Tokens that are parsed as values of a list of kinds.
use Rattle.std.specs.Prelude.{List, ◌≡◌, Result, Ok, Err}
use Rattle.dns_scan.specs.declared.kind.Kind.{Kind}
use Rattle.dns_scan.specs.declared.kind.Kind.TheVariants.{U8, U16, U32, U64, U128, Ttl, Other}
use Rattle.dns_scan.specs.declared.kind.Scanned.{Scanned}
use Rattle.dns_scan.specs.declared.kind.Scanned.TheVariants.{U8 as in_u8, U16 as in_u16, U32 as in_u32, U64 as in_u64, U128 as in_u128, Ttl as in_ttl, Other as in_other}
use Rattle.dns_symbol.specs.Cause.{Cause}
use Rattle.dns_scan.specs.Numbers.{greatest}
use Rattle.dns_scan.specs.Reads.{NumberReads, ReadsFirstToken}
use Rattle.dns_scan.specs.Tokens.{Token}

-- a reading, whose value becomes one of mixed kinds
abbrev pub ReadsAsKind : {A V : Type 0} → (A → V) → (List Token → Result A Cause → List Token → Type 0) → List Token → Result V Cause → List Token → Type 0
ReadsAsKind {A} make reads tokens (Ok v) rest = (a : A) × reads tokens (Ok a) rest × (v ≡ make a)
ReadsAsKind make reads tokens (Err why) rest = reads tokens (Err why) rest

-- tokens that are read as a value of that kind; `other` reads the values of kind `Other`
abbrev pub KindReads : {T : Type 0} → (List Token → Result T Cause → List Token → Type 0) → Kind → List Token → Result (Scanned T) Cause → List Token → Type 0
KindReads other U8 = ReadsAsKind in_u8 (ReadsFirstToken (NumberReads (greatest 8)))
KindReads other U16 = ReadsAsKind in_u16 (ReadsFirstToken (NumberReads (greatest 16)))
KindReads other U32 = ReadsAsKind in_u32 (ReadsFirstToken (NumberReads (greatest 32)))
KindReads other U64 = ReadsAsKind in_u64 (ReadsFirstToken (NumberReads (greatest 64)))
KindReads other U128 = ReadsAsKind in_u128 (ReadsFirstToken (NumberReads (greatest 128)))
KindReads other Ttl = ReadsAsKind in_ttl (ReadsFirstToken (NumberReads (greatest 32)))
KindReads other Other = ReadsAsKind in_other other
