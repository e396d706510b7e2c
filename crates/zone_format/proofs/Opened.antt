-- The offset of the unclosed opener.
use Rattle.std.proofs.Common.{◌≡◌, ℕ, ◌≤◌, List, length, take, drop, subst, arith, length-take-le}
use Rattle.std.specs.Prelude.{encode_utf8_all}
use Rattle.dns_lexer.specs.Pieces.{IsFault, IsWrong, moved_fault, moved_wrong, place_of}
use Rattle.dns_lexer.specs.declared.pieces.Fault.{Fault}
use Rattle.dns_lexer.specs.declared.pieces.Wrong.{Wrong}
use Rattle.dns_lexer.specs.declared.pieces.Wrong.TheVariants.{OpenQuote}
use Rattle.dns_lexer.proofs.OctetsOnce.{wrong_within}

-- the octets before the error, and what is wrong there
wrong_is : (octets : List ℕ) (f : Fault) (w : Wrong) → IsFault (encode_utf8_all octets) (moved_fault (place_of octets) f) → f.wrong ≡ w
    → IsWrong (take (place_of octets f.at) (encode_utf8_all octets)) (drop (place_of octets f.at) (encode_utf8_all octets)) (moved_wrong (place_of octets) w)
wrong_is octets f w h e =
    subst (λ x. IsWrong (take (place_of octets f.at) (encode_utf8_all octets)) (drop (place_of octets f.at) (encode_utf8_all octets)) (moved_wrong (place_of octets) x)) e h.wrong

-- a quoted string begins among the octets
pub quote_within : (octets : List ℕ) (f : Fault) (i : ℕ) → IsFault (encode_utf8_all octets) (moved_fault (place_of octets) f) → f.wrong ≡ OpenQuote i → i ≤ length octets
quote_within octets f i h e =
    let at : ℕ = place_of octets f.at in
    let text : List ℕ = encode_utf8_all octets in
    wrong_within octets (take at text) (drop at text) (OpenQuote i) (omega (arith, length-take-le at text h.bad.at.within, h.bad.at.within)) (wrong_is octets f (OpenQuote i) h e)
