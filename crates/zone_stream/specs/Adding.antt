-- Operations on the octets that a reader holds.
use Rattle.std.specs.Prelude.{◌≡◌, ◌≢◌, ◌⊎◌, ℕ, ◌+◌, ◌*◌, ◌<◌, ◌≤◌, ◌^◌, ◌++◌, true, false, List, [], length, take, drop, Option, Some, None, Result, Ok, Err}
use Rattle.dns_lexer.specs.Pieces.{AreOctets}
use Rattle.dns_lexer.specs.declared.pieces.Fault.{Fault}
use Rattle.dns_lexer.specs.declared.position.Position.{Position}
use Rattle.zone_format.specs.Place.{IsAt}
use Rattle.zone_stream.specs.Blocks.{Blocks, BuffersSuffix, IsPlaceOf, remaining_held, place_of_next}
use Rattle.zone_stream.specs.First.{FirstEntryEnds}
use Rattle.zone_stream.specs.declared.error.AddError.{AddError}
use Rattle.zone_stream.specs.declared.error.AddError.TheVariants.{OutOfMemory, TooLong, Finished}

-- a block is held too, and the last of all octets are held with it; or nothing has changed
abbrev pub AddsOctets : {U : Type 0} → Blocks → Blocks → List ℕ → Result U AddError → Type 0
AddsOctets old new block (Ok u) = (new ≡ record old { octets = old.octets ++ block }) × ((all : List ℕ) → BuffersSuffix all old → BuffersSuffix (all ++ block) new)
AddsOctets old new block (Err OutOfMemory) = new ≡ old
AddsOctets old new block (Err TooLong) = (new ≡ old) × (2 ^ 64 ≤ old.start.at + length old.octets + length block + 2)
AddsOctets old new block (Err Finished) = (new ≡ old) × (old.is_finished ≡ true)

-- the octet at an offset, or the octets' end, is not held
abbrev pub IsNotHeld : Blocks → ℕ → Type 0
IsNotHeld b at = (at < b.start.at) ⊎ (b.start.at + length b.octets < at)

-- the position of an offset, unless its octet is not held
abbrev pub HasPositionOf : Blocks → ℕ → Option Position → Type 0
HasPositionOf b at (Some p) = (all : List ℕ) → BuffersSuffix all b → IsPlaceOf all at p
HasPositionOf b at None = IsNotHeld b at

-- the octets from an offset on, unless those are not held
abbrev pub HasOctetsFrom : Blocks → ℕ → Option (List ℕ) → Type 0
HasOctetsFrom b at (Some octets) = (all : List ℕ) → BuffersSuffix all b → (at ≤ length all) × (octets ≡ drop at all)
HasOctetsFrom b at None = IsNotHeld b at

-- ---- of private functions

-- the rest of a line is skipped, as far as it is held; the text that is left is unchanged
pub record SkipsLine (b c : Blocks) : Type 0 where
  pub same : c ≡ record b { next = c.next; in_bad_line = c.in_bad_line }
  pub on : b.next ≤ c.next
  pub within : c.next ≤ length b.octets
  pub ahead_is : (more : List ℕ) → remaining_held c more ≡ remaining_held b more
  pub in_bad_line : (c.in_bad_line ≡ false) ⊎ (c.next ≡ length b.octets)
  pub stays : b.in_bad_line ≡ false → c ≡ b

-- nothing is left of the held octets; or reading is put off, and the octets that are left are within the limit
abbrev pub IsPutOff : Blocks → Type 0
IsPutOff b = (drop b.next b.octets ≡ []) ⊎ ((b.is_finished ≡ false) × (length (drop b.next b.octets) < 2 * b.left) × (length (drop b.next b.octets) ≤ b.limit))

abbrev pub with_scanned_len : Blocks → ℕ → Blocks
with_scanned_len b left = record b { left = left }

-- the first entry is found; or reading is put off, or more octets are needed
abbrev pub FindsStop : Blocks → Option (Result ℕ Fault) → Blocks → Type 0
FindsStop b None c = IsPutOff b ⊎ (AreOctets (drop c.next c.octets) × FirstEntryEnds (drop c.next c.octets) c.is_finished None)
FindsStop b (Some stop) c = AreOctets (drop c.next c.octets) × (c.next ≤ length c.octets) × (drop c.next c.octets ≢ []) × FirstEntryEnds (drop c.next c.octets) c.is_finished (Some stop)

pub record FindsEntry (b : Blocks) (found : Option (Result ℕ Fault)) (c : Blocks) : Type 0 where
  pub same : c ≡ with_scanned_len b c.left
  pub finds : FindsStop b found c

-- the number of octets of the next entry before its end or its syntax error, or of those that are held
abbrev pub found_len : Blocks → Option (Result ℕ Fault) → ℕ
found_len b (Some (Ok at)) = at
found_len b (Some (Err f)) = f.at
found_len b None = length (drop b.next b.octets)

-- the octets that were read are not held any more
pub record LetsRead (b c : Blocks) : Type 0 where
  pub same : c ≡ record b { octets = drop b.next b.octets; start = c.start; next = 0 }
  pub within : b.next ≤ length b.octets
  pub at : c.start.at ≡ b.start.at + b.next
  pub position : (before : List ℕ) → IsAt 0 before b.start.position → IsAt 0 (before ++ take b.next b.octets) c.start.position

-- an entry's end, or a syntax error, is among the octets that are held
abbrev pub IsHeldStop : Blocks → Result ℕ Fault → Type 0
IsHeldStop b (Ok at) = b.next + at ≤ length b.octets
IsHeldStop b (Err f) = b.next + f.at ≤ length b.octets

-- reading continues after an entry, or after the line with a syntax error
abbrev pub after_stop : Blocks → Result ℕ Fault → Blocks
after_stop b (Ok at) = record b { next = b.next + at; began = place_of_next b }
after_stop b (Err f) = record b { next = b.next + f.at; in_bad_line = true; began = place_of_next b }

-- nothing is left after an entry that is too long
abbrev pub after_long_entry : Blocks → Blocks
after_long_entry b = record b { next = length b.octets; began = place_of_next b; is_finished = true }

-- the octets of an entry, or all that are left if a syntax error cuts it off
abbrev pub stop_octets : Blocks → Result ℕ Fault → List ℕ
stop_octets b (Ok at) = take at (drop b.next b.octets)
stop_octets b (Err f) = drop b.next b.octets
