-- The limit of character strings (RFC 1035 section 3.3).
use Rattle.std.specs.Prelude.{ℕ}

-- maximum length of a character string, in octets
abbrev pub max_string : ℕ
max_string = 255
