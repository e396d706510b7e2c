-- Values with a line end after each.
use Rattle.std.specs.Prelude.{List}
use Rattle.dns_zone.specs.declared.tokens.Lines.{Lines}

-- the values
abbrev pub lines_values : {T : Type 0} → Lines T → List T
lines_values l = l.values.now
