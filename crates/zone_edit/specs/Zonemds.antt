-- Edits of ZONEMD RDATA.
use Rattle.std.specs.Prelude.{⊤, ◌≡◌, ◌<◌, ◌≤◌, ◌⊎◌, ℕ, Bool, false, ◌==◌, ◌&&◌, if◌then◌else◌, List, [], ◌∷◌, ◌++◌, length}
use Rattle.std.specs.Int.{to_be_bytes, w32}
use Rattle.dns_codec.specs.Base.{base16, encoded}
use Rattle.dns_lexer.specs.declared.pieces.Span.{Span}
use Rattle.zone_contents.specs.declared.zonemd.Zonemd.{Zonemd}
use Rattle.zone_edit.specs.declared.tokens.TokenError.{TokenError}
use Rattle.zone_edit.specs.declared.tokens.TokenError.TheVariants.{OutOfMemory, OutOfOrder, TooFew}
use Rattle.zone_edit.specs.declared.zonemd.ZonemdEdit.{ZonemdEdit}
use Rattle.zone_edit.specs.Changes.{Change, are_same, change, hex_changes, number_changes}
use Rattle.zone_edit.specs.Marks.{is_generic}
use Rattle.zone_edit.specs.Tokens.{AreAfterTokens}

-- the serial and the digest are the same
abbrev pub is_same_zonemd : Zonemd → Zonemd → Bool
is_same_zonemd old new = (old.serial == new.serial) && are_same old.digest.now new.digest.now

-- RDATA in wire format (RFC 8976 section 2.2)
abbrev pub zonemd_octets : Zonemd → List ℕ
zonemd_octets z = to_be_bytes w32 z.serial ++ z.scheme ∷ z.hash ∷ z.digest.now

-- in the generic form the tokens after the mark and the length are replaced by all octets
abbrev pub generic_changes : List Span → Zonemd → List Change
generic_changes (mark ∷ count ∷ digits) new = change digits (encoded base16 (zonemd_octets new)) ∷ []
generic_changes (mark ∷ []) new = []
generic_changes [] new = []

-- else the token of the serial and the tokens of the digest are replaced, each if its value changes
abbrev pub field_changes : List Span → Zonemd → Zonemd → List Change
field_changes (serial ∷ scheme ∷ hash ∷ digest) old new = number_changes serial old.serial new.serial ++ hex_changes digest old.digest.now new.digest.now
field_changes (serial ∷ scheme ∷ []) old new = []
field_changes (serial ∷ []) old new = []
field_changes [] old new = []

-- the changes of a record of a file
abbrev pub zonemd_changes : List ℕ → ZonemdEdit → List Change
zonemd_changes octets r =
    if is_same_zonemd r.before r.after then []
    else (if is_generic octets r.tokens.now then generic_changes r.tokens.now r.after else field_changes r.tokens.now r.before r.after)

-- the changes of all records
abbrev pub all_changes : List ℕ → List ZonemdEdit → List Change
all_changes octets [] = []
all_changes octets (r ∷ records) = zonemd_changes octets r ++ all_changes octets records

-- the fewest tokens that RDATA has: the mark, the length and the octets in the generic form, else the serial, the scheme, the hash algorithm and the digest
abbrev pub fewest_tokens : List ℕ → List Span → ℕ
fewest_tokens octets tokens = if is_generic octets tokens then 3 else 4

-- a record that changes has these tokens
abbrev pub HasZonemdTokens : List ℕ → ZonemdEdit → Type 0
HasZonemdTokens octets r = is_same_zonemd r.before r.after ≡ false → fewest_tokens octets r.tokens.now ≤ length r.tokens.now

-- and so has each of the records
abbrev pub HaveZonemdTokens : List ℕ → List ZonemdEdit → Type 0
HaveZonemdTokens octets [] = ⊤
HaveZonemdTokens octets (r ∷ records) = HasZonemdTokens octets r × HaveZonemdTokens octets records

-- why the tokens of RDATA can't be replaced, if it has this many tokens at least
abbrev pub IsRdataError : ℕ → List ℕ → List Span → TokenError → Type 0
IsRdataError fewest octets tokens TooFew = length tokens < fewest
IsRdataError fewest octets tokens OutOfOrder = AreAfterTokens (length octets) 0 tokens → ⊥
IsRdataError fewest octets tokens OutOfMemory = ⊤

-- why the tokens of a record can't be replaced: it changes, and the fewest depend on its form
abbrev pub IsRecordError : List ℕ → ZonemdEdit → TokenError → Type 0
IsRecordError octets r e = (is_same_zonemd r.before r.after ≡ false) × IsRdataError (fewest_tokens octets r.tokens.now) octets r.tokens.now e

-- why the tokens of one of the records can't be replaced
abbrev pub IsAnyError : List ℕ → List ZonemdEdit → TokenError → Type 0
IsAnyError octets [] e = ⊥
IsAnyError octets (r ∷ records) e = IsRecordError octets r e ⊎ IsAnyError octets records e
