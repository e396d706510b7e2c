use Rattle.std.proofs.Common.{subst, sym, refl}
use Rattle.rdata_values.specs.Classes.{SpellsClass, internet}
use Rattle.rdata_values.proofs.classes.Class.from_text.Goals as goal

pub returns-then-is_name : goal.returns-then-is_name
returns-then-is_name c = subst (λ t. SpellsClass t internet) (sym (c.if-is_name.ensures.0 refl)) refl
