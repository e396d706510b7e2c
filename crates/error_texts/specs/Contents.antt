-- The texts of errors that name a number of octets, or an escape.
use Rattle.std.specs.Prelude.{ℕ, List, [], ◌++◌, codes, decimal, Option, Some, None}
use Rattle.error_texts.specs.Digests.{digest_name}
use Rattle.rdata_values.specs.declared.types.RecordType.{RecordType}

-- as in `character string of 360 octets (at most 255)`
abbrev pub long_string_text : ℕ → List ℕ
long_string_text count = (codes "character string of " ++ decimal count) ++ codes " octets (at most 255)"

-- as in `escape \300 is above \255`
abbrev pub high_escape_text : List ℕ → List ℕ
high_escape_text escape = codes "escape " ++ (escape ++ codes " is above \\255")

-- a name between parentheses, after a blank
abbrev pub in_parentheses : Option (List ℕ) → List ℕ
in_parentheses None = []
in_parentheses (Some name) = codes " (" ++ (name ++ codes ")")

-- as in ` octets; type 2 (SHA-256) has 32`
abbrev pub length_text : RecordType → ℕ → ℕ → List ℕ
length_text t digest wanted = (codes " octets; type " ++ decimal digest) ++ (in_parentheses (digest_name t digest) ++ (codes " has " ++ decimal wanted))

-- as in `digest of 3 octets; type 2 (SHA-256) has 32`
abbrev pub digest_text : RecordType → (digest found wanted : ℕ) → List ℕ
digest_text t digest found wanted = (codes "digest of " ++ decimal found) ++ length_text t digest wanted
