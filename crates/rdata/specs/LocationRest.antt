-- Locations (RFC 1876), which go to the end of an entry.
use Rattle.std.specs.Prelude.{ℕ, ◌==◌, Bool, not, false, List, map, take, drop, slice_index}
use Rattle.std.specs.Int.{from_be_bytes, w32}
use Rattle.rdata_tails.specs.LocationPlaces.{IsFirstRefused}
use Rattle.rdata_tails.specs.LocationParsing.{RefusesTokens}
use Rattle.rdata_tails.specs.LocationWords.{IsLocation, location_words}
use Rattle.rdata_tails.specs.Locations.{SpellsLocation}
use Rattle.rdata_tails.specs.declared.location.Location.{Location}
use Rattle.rdata.specs.Rests.{RestForm, ExceedsWhole}

-- the location of 16 octets: a version, three sizes, and three numbers
abbrev pub location_at : List ℕ → Location
location_at octets = record {
  sizes = record { size = slice_index octets 1; horizontal = slice_index octets 2; vertical = slice_index octets 3 };
  latitude = from_be_bytes w32 (take 4 (drop 4 octets));
  longitude = from_be_bytes w32 (take 4 (drop 8 octets));
  altitude = from_be_bytes w32 (take 4 (drop 12 octets));
}

-- a version other than 0, whose meaning is not defined (RFC 1876 section 2)
abbrev pub is_other_version : List ℕ → Bool
is_other_version octets = not (slice_index octets 0 == 0)

abbrev pub location_form : RestForm
location_form = record {
  spells = SpellsLocation;
  exceeds = ExceedsWhole SpellsLocation;
  reason = λ tokens left e. RefusesTokens e tokens left × IsFirstRefused tokens left;
  is_wire = λ octets. (l : Location) × IsLocation octets l;
  printed = λ octets. map (λ word. record { is_quoted = false; text = word }) (location_words (location_at octets));
}
