-- An entry is never rejected with the status of a lack of room.
use Rattle.std.proofs.Common.{◌≡◌, Option, Some, None}
use Rattle.rdata_values.specs.declared.error.ErrorKind.{ErrorKind}
use Rattle.rdata_values.specs.declared.error.ErrorKind.TheVariants.{QuotedName, BadEscape as NoEscape, EmptyLabel as NoOctets, LongLabel as LabelTooLong, LongName as NameTooLong, NoOrigin as OriginUnknown}
use Rattle.rdata_values.specs.declared.error.ErrorKind.TheVariants.{NotSupported as NoneSuch, NoOwner as NoneSaid, RefusedOwner as RefusedBefore, NoTtl as TtlUnknown}
use Rattle.rdata_values.specs.declared.types.RecordType.{RecordType}
use Rattle.c_calls.specs.Reasons.{refusal_of_data, refusal_of_entry, refusal_of_head}
use Rattle.c_calls.specs.declared.outcome.Refusal.TheVariants.{NoRoom}

head_else : (kind : ErrorKind) → NoRoom ≡ refusal_of_head kind → ⊥
head_else QuotedName h = cc
head_else NoEscape h = cc
head_else NoOctets h = cc
head_else LabelTooLong h = cc
head_else NameTooLong h = cc
head_else OriginUnknown h = cc
head_else NoneSuch h = cc
head_else NoneSaid h = cc
head_else RefusedBefore h = cc
head_else TtlUnknown h = cc
head_else _ h = cc

data_else : (kind : ErrorKind) → NoRoom ≡ refusal_of_data kind → ⊥
data_else OriginUnknown h = cc
data_else _ h = cc

pub entry_else : (rtype : Option RecordType) (kind : ErrorKind) → NoRoom ≡ refusal_of_entry rtype kind → ⊥
entry_else None kind h = head_else kind h
entry_else (Some rtype) kind h = data_else kind h
