-- Octets that are stored, and their offset; and the output for them.
use Rattle.std.specs.Prelude.{ℕ, List}
use Rattle.zone_format.specs.declared.place.LocatedOffset.{LocatedOffset}
use Rattle.zonetext_lib.specs.declared.writer.Output.{Output}

pub record Held : Type 0 where
  pub octets : List ℕ
  pub place : LocatedOffset
  -- number of octets that were left when they were last parsed
  pub left : ℕ

pub record Writing : Type 0 where
  pub output : Output
  pub held : Held

-- of two texts
pub record Both : Type 0 where
  pub first : Held
  pub second : Held
