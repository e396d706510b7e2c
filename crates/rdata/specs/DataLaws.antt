-- Laws of the RDATA of each shape.
use Rattle.std.specs.Prelude.{ℕ, Option, ◌≡◌, List}
use Rattle.rdata_tokens.specs.NameSpelling.{IsOrigin}
use Rattle.dns_lexer.specs.EntryTokens.{TokenSeen}
use Rattle.rdata.specs.Data.{IsTextData, SpellsData}
use Rattle.rdata.specs.RestLaws.{HoldOctets}
use Rattle.rdata.specs.declared.shape.Shape.{Shape}

-- What tokens spell is RDATA of the shape in its text form; and tokens spell one only.
pub record IsSpelledData (origin : Option (List (List ℕ))) (shape : Shape) : Type 0 where
  pub are_data : (tokens : List TokenSeen) (octets : List ℕ) → HoldOctets tokens → SpellsData origin shape tokens octets → IsTextData shape octets
  pub once : (tokens : List TokenSeen) (a b : List ℕ) → SpellsData origin shape tokens a → SpellsData origin shape tokens b → a ≡ b

abbrev pub AreSpelledData : Type 0
AreSpelledData = (origin : Option (List (List ℕ))) → IsOrigin origin → (shape : Shape) → IsSpelledData origin shape
