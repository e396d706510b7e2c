-- The characters of octets, and the octets of characters, as calls over slices write and read them.
use Rattle.std.specs.Prelude.{◌≡◌, ◌≢◌, ◌<◌, ◌≤◌, ℕ, ◌+◌, ◌-◌, List, Result, IsOk, OnOk, length, map, slice_index, take}
use Rattle.std.specs.Fmt.{WritesInCalls}
use Rattle.std.specs.List.{AllByRecursion}
use Rattle.dns_octets.specs.Room.{Room}
use Rattle.dns_codec.specs.Base.{Base}
use Rattle.dns_codec.specs.Bits.{digits, low_digits, whole}
use Rattle.dns_codec.specs.Grammar.{Decodes}

-- the characters of the digits of octets, each of `bits` bits
abbrev pub digit_text : Base → ℕ → List ℕ → List ℕ
digit_text b bits octets = map (slice_index b.alphabet) (digits bits octets)

-- the characters of the last digits of a number
abbrev pub number_text : Base → ℕ → ℕ → ℕ → List ℕ
number_text b bits count number = map (slice_index b.alphabet) (low_digits bits count number)

-- a text, by calls of the sink, if the result is `Ok`
abbrev pub CallsOnOk : {W E : Type 0} → (W → List ℕ → W → Type 0) → W → Result (Unit {0}) E → List ℕ → W → Type 0
CallsOnOk took f r text g = OnOk r (WritesInCalls took f text g)

-- each character has a value: its entry in the table is below the bound
abbrev pub AreValued : ℕ → List ℕ → List ℕ → Type 0
AreValued bound table text = AllByRecursion (λ v. v < bound) (map (slice_index table) text)

-- the octets of the values of characters, cut back to whole octets
abbrev pub value_octets : ℕ → List ℕ → List ℕ → List ℕ
value_octets bits table text = whole bits (map (slice_index table) text)

-- the last `n` characters are `=`
abbrev pub EndsInMarks : List ℕ → ℕ → Type 0
EndsInMarks text n = (k : ℕ) → length text ≤ k + n → k < length text → slice_index text k ≡ 61

-- the character before them isn't `=`
abbrev pub HasNoMarkBefore : List ℕ → ℕ → Type 0
HasNoMarkBefore text n = n < length text → slice_index text (length text - 1 - n) ≢ 61

-- the text is in the grammar, and its octets are the first `n` of the slice
abbrev pub DecodesInto : Base → List ℕ → List ℕ → ℕ → Type 0
DecodesInto b text slice n = Decodes b text (take n slice) × (n ≤ length slice)

-- a text of the grammar has more octets than this
abbrev pub DecodesToMore : Base → List ℕ → ℕ → Type 0
DecodesToMore b text count = (v : List ℕ) → Decodes b text v → count < length v

-- the text is in the grammar, and its octets are at most `limit`
abbrev pub DecodesWithin : Base → ℕ → List ℕ → Type 0
DecodesWithin b limit text = (octets : List ℕ) × Decodes b text octets × (length octets ≤ limit)

-- a text of the grammar is decoded if its octets fit the guaranteed capacity
abbrev pub ReadsFitting : {V E : Type 0} → Base → Room → List ℕ → Result V E → Type 0
ReadsFitting b room text r = (octets : List ℕ) → Decodes b text octets → length octets ≤ room.fits → IsOk r
