-- The limits of names (RFC 1035 section 2.3.4).
use Rattle.std.specs.Prelude.{ℕ}

-- maximum length of a label in octets, without its length octet
abbrev pub max_label : ℕ
max_label = 63

-- maximum length of a name in wire format
abbrev pub max_name : ℕ
max_name = 255

-- the maximum length of a relative name in wire format, one less for the root
abbrev pub max_relative : ℕ
max_relative = 254
