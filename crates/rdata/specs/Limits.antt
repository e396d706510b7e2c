-- The greatest length of RDATA.
use Rattle.std.specs.Prelude.{ℕ}

abbrev pub max_data : ℕ
max_data = 65535
