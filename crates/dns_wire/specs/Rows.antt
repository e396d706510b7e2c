-- Computed examples of the definitions.
use Rattle.std.specs.Prelude.{◌≡◌, [], ◌∷◌, codes, refl}
use Rattle.dns_wire.specs.Wire.{wire, wire_length}
use Rattle.dns_wire.specs.Printed.{label_text, dotted_text, undotted_text}
use Rattle.dns_wire.specs.ZoneText.{zone_text}

wire_row : wire (codes "www" ∷ codes "c" ∷ [] ∷ []) ≡ 3 ∷ 119 ∷ 119 ∷ 119 ∷ 1 ∷ 99 ∷ 0 ∷ []
wire_row = refl

length_row : wire_length (codes "www" ∷ codes "c" ∷ [] ∷ []) ≡ 7
length_row = refl

label_row : label_text (codes "a b.\\\"(;") ≡ codes "a\\ b\\.\\\\\"(;"
label_row = refl

decimal_row : label_text (10 ∷ 255 ∷ []) ≡ codes "\\010\\255"
decimal_row = refl

root_row : dotted_text ([] ∷ []) ≡ codes "."
root_row = refl

dotted_row : dotted_text (codes "www" ∷ codes "com" ∷ [] ∷ []) ≡ codes "www.com."
dotted_row = refl

undotted_row : undotted_text (codes "www" ∷ codes "com" ∷ [] ∷ []) ≡ codes "www.com"
undotted_row = refl

undotted_root_row : undotted_text ([] ∷ []) ≡ codes "."
undotted_root_row = refl

relative_row : dotted_text (codes "www" ∷ codes "com" ∷ []) ≡ codes "www.com"
relative_row = refl

no_labels_row : undotted_text [] ≡ []
no_labels_row = refl

zone_row : zone_text (codes "_dns-sd" ∷ codes "Az09" ∷ [] ∷ []) ≡ codes "_dns-sd.Az09."
unfolding lib.Utf8.encode
zone_row = refl

zone_escapes_row : zone_text (codes "\"$(" ∷ codes ").;" ∷ codes "@\\" ∷ [] ∷ []) ≡ codes "\\\"\\$\\(.\\)\\.\\;.\\@\\\\."
unfolding lib.Utf8.encode
zone_escapes_row = refl

-- outside 0x21 to 0x7E
zone_decimal_row : zone_text ((0 ∷ 32 ∷ 127 ∷ []) ∷ (195 ∷ 169 ∷ 255 ∷ []) ∷ [] ∷ []) ≡ codes "\\000\\032\\127.\\195\\169\\255."
unfolding lib.Utf8.encode
zone_decimal_row = refl

-- a slash is plain (RFC 2317), as is all else
zone_plain_row : zone_text (codes "0/25" ∷ codes "*" ∷ codes "!#%&'+,:<=>?[]^`{|}~" ∷ [] ∷ []) ≡ codes "0/25.*.!#%&'+,:<=>?[]^`{|}~."
unfolding lib.Utf8.encode
zone_plain_row = refl

zone_root_row : zone_text ([] ∷ []) ≡ codes "."
unfolding lib.Utf8.encode
zone_root_row = refl

zone_relative_row : zone_text (codes "www" ∷ codes "c" ∷ []) ≡ codes "www.c"
unfolding lib.Utf8.encode
zone_relative_row = refl

zone_no_labels_row : zone_text [] ≡ []
zone_no_labels_row = refl

zone_origin_row : zone_text (codes "@" ∷ []) ≡ codes "\\@"
unfolding lib.Utf8.encode
zone_origin_row = refl
