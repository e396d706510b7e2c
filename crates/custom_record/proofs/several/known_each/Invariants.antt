use Rattle.std.proofs.Common.{take}
use Rattle.std.specs.Prelude.{All}
use Rattle.custom_record.specs.Several.{IsString}
use Rattle.custom_record.proofs.several.known_each.Given as goal

abbrev pub invariant-loop-string : goal.invariant-loop-string
invariant-loop-string g l = All IsString (take l.string-index l.strings)
