-- SPF records (RFC 7208).
use Rattle.std.specs.Prelude.{ℕ, zero, suc, ◌==◌, ◌&&◌, Bool, true, false, List, [], ◌∷◌, codes}
use Rattle.std.specs.Char.{to_ascii_lowercase}
use Rattle.rdata_values.specs.Rtype as Rtype
use Rattle.zone_record.specs.Records.{data_of}
use Rattle.zone_record.specs.declared.record.Record.{Record}
use Rattle.zone_rules.specs.Zones.{type_of}

-- the text of character strings that are joined (section 3.3); the number of octets that are left of the first
abbrev pub joined_strings : ℕ → List ℕ → List ℕ
joined_strings count [] = []
joined_strings zero (length ∷ octets) = joined_strings length octets
joined_strings (suc count) (octet ∷ octets) = octet ∷ joined_strings count octets

-- a text begins with a word, in any letter case, and then ends or has a space
abbrev pub has_first_word : List ℕ → List ℕ → Bool
has_first_word [] [] = true
has_first_word [] (octet ∷ text) = octet == 32
has_first_word (first ∷ word) [] = false
has_first_word (first ∷ word) (octet ∷ text) = to_ascii_lowercase octet == first && has_first_word word text

-- a TXT whose text begins with the version of SPF (section 4.5)
abbrev pub is_spf : {N O : Type 0} → Record N O → Bool
is_spf r = type_of r == Rtype.txt && has_first_word (codes "v=spf1") (joined_strings 0 (data_of r).octets)
