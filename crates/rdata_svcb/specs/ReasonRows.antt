-- Worked rows of the reasons, each computed.
use Rattle.std.proofs.Common.{true, [], ◌∷◌, refl, inl, inr, arith, Some}
use Rattle.std.specs.Prelude.{codes}
use Rattle.dns_symbol.specs.declared.symbol.Symbol.TheVariants.{Char, SimpleEscape}
use Rattle.dns_lexer.specs.EntryTokens.{token_at}
use Rattle.rdata_values.specs.declared.error.ErrorKind.TheVariants.{GluedParam, ListEscape, ListString, QuotedParam, RepeatedKey, RepeatedParam}
use Rattle.rdata_svcb.specs.Texts.{item_octet}
use Rattle.rdata_svcb.specs.ListItems.{FirstItemReason}
use Rattle.rdata_svcb.specs.ParamRefusals.{AddedReason, NextKeyReason, WordFault}
use Rattle.rdata_svcb.specs.declared.keys.ValueKind.TheVariants.{Port}

-- `port,port`: the second item names the first key again
key : NextKeyReason (3 ∷ []) (codes "port") RepeatedKey
key = inr (refl, (3, (Port, (refl, refl)), refl))

-- `a,,b`: after `a` and its comma, an item ends that has no octets
item : FirstItemReason (codes ",b") ListString
item = ([], codes ",b", record { symbols = []; each = refl; whole = refl; octets_are = refl }, inl (refl, inl (refl, inr (codes "b", record { symbols = Char 44 ∷ []; each = refl; whole = refl; octets_are = refl }))))

-- `a\\x`: after `a`, the token spells a backslash, and after that an octet that needs none
escape : FirstItemReason (codes "a\\\\x") ListEscape
unfolding item_octet
escape = (
  codes "a",
  codes "\\\\x",
  record { symbols = Char 97 ∷ []; each = refl; whole = refl; octets_are = refl },
  inr (
    omega arith,
    inr (
      codes "x",
      record { symbols = SimpleEscape 92 ∷ []; each = refl; whole = refl; octets_are = refl },
      inr (refl, inr (120, [], record { symbols = Char 120 ∷ []; each = refl; whole = refl; octets_are = refl }, refl)),
    ),
  ),
)

-- `port=53"x"`: the quoted string is adjacent to the word, which is its first error
glued : WordFault (token_at (codes "x") true 7 (Some 7)) GluedParam
glued = inl (refl, refl)

-- `port=53 "x"`
quoted : WordFault (token_at (codes "x") true 8 (Some 7)) QuotedParam
quoted = inr (inl (refl, refl, refl))

-- `port=53 port=54`
repeated : AddedReason ((3, 0 ∷ 53 ∷ []) ∷ []) 3 (0 ∷ 54 ∷ []) RepeatedParam
repeated = inr (refl, omega arith, refl)
