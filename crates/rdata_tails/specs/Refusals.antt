-- Why octets that a text spells were not appended.
use Rattle.std.specs.Prelude.{ℕ, ◌≡◌, ◌⊎◌, List}
use Rattle.dns_octets.specs.Room.{Room}
use Rattle.dns_octets.specs.Appending.{ExceedsRoom}
use Rattle.rdata_values.specs.declared.error.ErrorKind.{ErrorKind}
use Rattle.rdata_values.specs.declared.error.ErrorKind.TheVariants.{ShortBuf}

-- none are spelled, with this error; or some are, and don't surely fit after old ones
abbrev pub WhyNot : Room → (List ℕ → Type 0) → ErrorKind → List ℕ → ErrorKind → Type 0
WhyNot room Is why old e = ((e ≡ why) × ((octets : List ℕ) → Is octets → ⊥)) ⊎ ((e ≡ ShortBuf) × ExceedsRoom room Is old)
