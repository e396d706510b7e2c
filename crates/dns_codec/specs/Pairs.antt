-- A table of the two characters that base 16 has for each octet.
use Rattle.std.specs.Prelude.{◌≡◌, ℕ, ◌+◌, ◌*◌, ◌/◌, ◌%◌, ◌==◌, ◌&&◌, true, List, slice_index}
use Rattle.dns_codec.specs.Base.{base16, all_below}

-- the entries of each octet are the characters of its higher and its lower half
unfoldable pub IsPairs : List ℕ → Type 0
IsPairs pairs = all_below (λ o. (slice_index pairs (2 * o) == slice_index base16.alphabet (o / 16)) && (slice_index pairs (2 * o + 1) == slice_index base16.alphabet (o % 16))) 256 ≡ true
