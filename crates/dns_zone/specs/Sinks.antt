-- Sinks, and lines over sinks.
use Rattle.std.specs.Prelude.{◌≡◌, ◌<◌, ℕ, ◌+◌, ◌-◌, ◌^◌, List, length, Option, Some, None}
use Rattle.dns_zone.specs.declared.zonefile_fmt.sink.Line.{Line}

-- the greatest `usize`
abbrev pub greatest_usize : ℕ
greatest_usize = 2 ^ 64 - 1

-- a count of n: n itself, or none if n exceeds `most`
abbrev pub CountsTo : ℕ → Option ℕ → ℕ → Type 0
CountsTo most (Some count) n = count ≡ n
CountsTo most None n = most < n

-- bytes that are written on a line, and counted there
pub record Counts {W : Type 0} (most : ℕ) (took : W → List ℕ → W → Type 0) (w : Line W) (bs : List ℕ) (v : Line W) : Type 0 where
  pub column : (n : ℕ) → CountsTo most w.column n → CountsTo most v.column (n + length bs)
  pub wrote : took w.writer bs v.writer
