-- Octets with an offset that separates the read ones from the unread ones.
use Rattle.std.specs.Prelude.{ℕ, ◌+◌, List, drop}

pub record Parsing : Type 0 where
  pub octets : List ℕ
  pub place : ℕ

-- the unread octets
abbrev pub rest : Parsing → List ℕ
rest p = drop p.place p.octets

-- the same octets, with the offset increased by a count
abbrev pub advanced_by : ℕ → Parsing → Parsing
advanced_by count p = record p { place = p.place + count }
