-- The generic form of RDATA, `\# LENGTH HEX` (RFC 3597 section 5).
use Rattle.std.specs.Prelude.{ℕ, ◌-◌, Bool, false, ◌&&◌, ◌==◌, nat_eq, nat_le, List, [], ◌∷◌, length, drop, codes}
use Rattle.std.specs.List.{starts_with}
use Rattle.dns_lexer.specs.declared.pieces.Span.{Span}

-- a token is `\#`, without quotes
abbrev pub is_generic_mark : List ℕ → Span → Bool
is_generic_mark octets t =
    nat_le t.end (length octets) && nat_le t.start t.end && (t.end - t.start == 2) && starts_with nat_eq (drop t.start octets) (codes "\\#")

-- the tokens of RDATA begin with the mark
abbrev pub is_generic : List ℕ → List Span → Bool
is_generic octets [] = false
is_generic octets (t ∷ tokens) = is_generic_mark octets t
