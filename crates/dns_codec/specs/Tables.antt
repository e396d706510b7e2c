-- The tables of values, computed entry by entry.
use Rattle.std.specs.Prelude.{refl}
use Rattle.dns_codec.specs.Base.{base16, base32hex, base64, value, IsTable}
use Rattle.dns_codec.specs.declared.read.TheConstants.{VALUES16, VALUES32HEX, VALUES64}

pub table16 : IsTable base16 VALUES16
unfolding IsTable value
table16 = refl

pub table32 : IsTable base32hex VALUES32HEX
unfolding IsTable value
table32 = refl

pub table64 : IsTable base64 VALUES64
unfolding IsTable value
table64 = refl
