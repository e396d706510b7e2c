-- The final value of a character string after a write through its mutable slice.
use Rattle.std.specs.Prelude.{ℕ, List}
use Rattle.std.specs.Borrow.{Lends, Array, MutBor, Fml, u8 as byte, RattleType}
use Rattle.dns_octets.specs.Octets.{written_over}
use Rattle.dns_octets.specs.declared.octets.AsOctets.{Ghosts}
use Rattle.dns_octets.specs.Room.{Room}
use Rattle.dns_charstr.specs.contracts.charstr.CharStr.{the_row}
use Rattle.dns_charstr.specs.contracts.charstr.builder.CharStrBuilder.{the_row as builder_row}

-- the builder b ends with the octets that r shows last
abbrev pub lends_built : (T : RattleType) → Ghosts T.Denot → Room → MutBor (List ℕ) → MutBor (List ℕ) → Fml
lends_built T known room b r = Lends (builder_row T (record { room = room }) known) (Array byte 0) b r (written_over b.now)

-- the character string s ends with the octets that r shows last
abbrev pub lends_octets : (T : RattleType) → Ghosts T.Denot → MutBor (List ℕ) → MutBor (List ℕ) → Fml
lends_octets T known s r = Lends (the_row T known) (Array byte 0) s r (written_over s.now)
