use Rattle.std.proofs.Common.{◌≡◌, length}
use Rattle.mail_texts.specs.Macros.{macro_end}
use Rattle.mail_texts.specs.declared.macros.MacroPlace.TheVariants.{Literal}
use Rattle.mail_texts.proofs.macros.macro_end.Given as goal

abbrev pub invariant-loop-rest : goal.invariant-loop-rest
invariant-loop-rest l = macro_end l.place l.rest ≡ macro_end Literal l.fn.octets

abbrev pub decreases-loop-rest : goal.decreases-loop-rest
decreases-loop-rest l = length l.rest
