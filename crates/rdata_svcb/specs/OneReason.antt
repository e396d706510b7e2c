-- Values and parameters that are rejected have one reason.
use Rattle.std.specs.Prelude.{ℕ, ◌≡◌, List}
use Rattle.dns_lexer.specs.EntryTokens.{TokenSeen}
use Rattle.rdata_values.specs.declared.error.ErrorKind.{ErrorKind}
use Rattle.rdata_svcb.specs.ParamRefusals.{ParamsReason, ValueReason}
use Rattle.rdata_svcb.specs.ParamTokens.{SpellsParams}
use Rattle.rdata_svcb.specs.ParamValues.{SpellsValue}
use Rattle.rdata_svcb.specs.declared.keys.ValueKind.{ValueKind}

-- of a text there is at most one reason why it spells no value of a kind, and none if it spells one
pub record HaveValuesOneReason : Type 0 where
  pub once : (kind : ValueKind) (text : List ℕ) (a b : ErrorKind) → ValueReason kind text a → ValueReason kind text b → a ≡ b
  pub apart : (kind : ValueKind) (text octets : List ℕ) (e : ErrorKind) → ValueReason kind text e → SpellsValue kind text octets → ⊥

-- tokens are rejected as parameters at one of them, or at the entry's end, and for one reason; and at none if they spell parameters
pub record HaveParamsOneReason : Type 0 where
  pub once : (tokens left last : List TokenSeen) (a b : ErrorKind) → ParamsReason tokens left a → ParamsReason tokens last b → (left ≡ last) × (a ≡ b)
  pub apart : (tokens left : List TokenSeen) (octets : List ℕ) (e : ErrorKind) → ParamsReason tokens left e → SpellsParams tokens octets → ⊥
