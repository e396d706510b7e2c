-- Worked rows of the definitions, each computed.
use Rattle.std.specs.Prelude.{ℕ, ◌≡◌, List, [], ◌∷◌, refl}
use Rattle.rdata_values.specs.Rtype as Rtype
use Rattle.rdata_values.specs.Bitmap.{types_octet, window_octets_of, trimmed, window_block, set_places, block_types, types_of}

-- the example of RFC 4034 section 4.3: A, MX, RRSIG and NSEC in the first window, TYPE1234 in the
-- fifth
abbrev listed : List ℕ
listed = Rtype.a ∷ Rtype.mx ∷ Rtype.rrsig ∷ Rtype.nsec ∷ 1234 ∷ []

first_window : window_block 0 (trimmed (window_octets_of listed 0)) ≡ 0 ∷ 6 ∷ 64 ∷ 1 ∷ 0 ∷ 0 ∷ 0 ∷ 3 ∷ []
unfolding types_octet window_octets_of trimmed
first_window = refl

fifth_window : window_block 4 (trimmed (window_octets_of listed 4)) ≡ 4 ∷ 27 ∷ 0 ∷ 0 ∷ 0 ∷ 0 ∷ 0 ∷ 0 ∷ 0 ∷ 0 ∷ 0 ∷ 0 ∷ 0 ∷ 0 ∷ 0 ∷ 0 ∷ 0 ∷ 0 ∷ 0 ∷ 0 ∷ 0 ∷ 0 ∷ 0 ∷ 0 ∷ 0 ∷ 0 ∷ 0 ∷ 0 ∷ 32 ∷ []
unfolding types_octet window_octets_of trimmed
fifth_window = refl

-- no type, no block
empty_window : window_block 7 (trimmed (window_octets_of [] 7)) ≡ []
unfolding types_octet window_octets_of trimmed
empty_window = refl

-- the types of the bitmap
types : types_of (0 ∷ 6 ∷ 64 ∷ 1 ∷ 0 ∷ 0 ∷ 0 ∷ 3 ∷ 4 ∷ 27 ∷ 0 ∷ 0 ∷ 0 ∷ 0 ∷ 0 ∷ 0 ∷ 0 ∷ 0 ∷ 0 ∷ 0 ∷ 0 ∷ 0 ∷ 0 ∷ 0 ∷ 0 ∷ 0 ∷ 0 ∷ 0 ∷ 0 ∷ 0 ∷ 0 ∷ 0 ∷ 0 ∷ 0 ∷ 0 ∷ 0 ∷ 32 ∷ []) ≡ listed
unfolding set_places block_types
types = refl
