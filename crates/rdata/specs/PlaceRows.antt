-- Worked rows of address prefix lists, and of gateways with keys, each computed.
use Rattle.std.specs.Prelude.{◌≡◌, None, [], ◌∷◌, codes, map, refl}
use Rattle.std.specs.Fmt.{digits}
use Rattle.dns_codec.specs.Base.{base16, base64, encoded}
use Rattle.rdata_tokens.specs.PrintedNames.{labels_in_octets}
use Rattle.rdata.specs.GatewayKeys.{plain_word, gateway_key_form}
use Rattle.rdata.specs.PrefixLists.{prefixes_form}
use Rattle.rdata.specs.Printing.{printed_with}
use Rattle.rdata.specs.declared.rest.Rest.TheVariants.{Location, Prefixes}

-- an example of RFC 3123 section 7
items_printed : prefixes_form.printed (0 ∷ 1 ∷ 21 ∷ 3 ∷ 192 ∷ 168 ∷ 32 ∷ 0 ∷ 1 ∷ 28 ∷ 131 ∷ 192 ∷ 168 ∷ 38 ∷ []) ≡ plain_word (codes "1:192.168.32.0/21") ∷ plain_word (codes "!1:192.168.38.0/28") ∷ []
unfolding digits
items_printed = refl

-- an item of family 3, alone and after one of family 1; and a location of version 1
other_family_printed : printed_with [] Prefixes (0 ∷ 3 ∷ 0 ∷ 0 ∷ []) ≡ map plain_word (codes "\\#" ∷ codes "4" ∷ encoded base16 (0 ∷ 3 ∷ 0 ∷ 0 ∷ []) ∷ [])
unfolding digits
other_family_printed = refl

mixed_families_printed : printed_with [] Prefixes (0 ∷ 1 ∷ 24 ∷ 1 ∷ 10 ∷ 0 ∷ 3 ∷ 0 ∷ 0 ∷ []) ≡ map plain_word (codes "\\#" ∷ codes "9" ∷ encoded base16 (0 ∷ 1 ∷ 24 ∷ 1 ∷ 10 ∷ 0 ∷ 3 ∷ 0 ∷ 0 ∷ []) ∷ [])
unfolding digits
mixed_families_printed = refl

known_family_printed : printed_with [] Prefixes (0 ∷ 1 ∷ 24 ∷ 1 ∷ 10 ∷ []) ≡ map plain_word (codes "1:10.0.0.0/24" ∷ [])
unfolding digits
known_family_printed = refl

other_version_printed : printed_with [] Location (1 ∷ 2 ∷ []) ≡ map plain_word (codes "\\#" ∷ codes "2" ∷ encoded base16 (1 ∷ 2 ∷ []) ∷ [])
unfolding digits
other_version_printed = refl

-- gateways as in RFC 4025 section 3.2
address_printed : (gateway_key_form None).printed (1 ∷ 2 ∷ 192 ∷ 0 ∷ 2 ∷ 38 ∷ 1 ∷ 2 ∷ 3 ∷ []) ≡ map plain_word (codes "1" ∷ codes "2" ∷ codes "192.0.2.38" ∷ encoded base64 (1 ∷ 2 ∷ 3 ∷ []) ∷ [])
unfolding digits
address_printed = refl

none_printed : (gateway_key_form None).printed (0 ∷ 2 ∷ 1 ∷ 2 ∷ 3 ∷ []) ≡ map plain_word (codes "0" ∷ codes "2" ∷ codes "." ∷ encoded base64 (1 ∷ 2 ∷ 3 ∷ []) ∷ [])
unfolding digits
none_printed = refl

name_printed : (gateway_key_form None).printed (3 ∷ 2 ∷ 2 ∷ 103 ∷ 119 ∷ 0 ∷ 1 ∷ 2 ∷ 3 ∷ []) ≡ map plain_word (codes "3" ∷ codes "2" ∷ codes "gw." ∷ encoded base64 (1 ∷ 2 ∷ 3 ∷ []) ∷ [])
unfolding digits labels_in_octets
name_printed = refl
