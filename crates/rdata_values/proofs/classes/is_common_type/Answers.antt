use Rattle.std.proofs.Common.{subst, refl}
use Rattle.std.specs.Prelude.{codes}
use Rattle.rdata_values.specs.Classes.{SpellsClass}
use Rattle.rdata_values.proofs.classes.is_common_type.Goals as goal

pub returns-then-is_name : goal.returns-then-is_name
returns-then-is_name c = λ _ class spelled.
    let s : SpellsClass (codes "NS") class = subst (λ t. SpellsClass t class) (c.if-is_name.ensures.0 refl) spelled in
    let wrong = s.0 in cc

pub returns-then-is_name-2 : goal.returns-then-is_name-2
returns-then-is_name-2 c = λ _ class spelled.
    let s : SpellsClass (codes "MX") class = subst (λ t. SpellsClass t class) (c.if-is_name-2.ensures.0 refl) spelled in
    let wrong = s.0 in cc

pub returns-then-is_name-3 : goal.returns-then-is_name-3
returns-then-is_name-3 c = λ _ class spelled.
    let s : SpellsClass (codes "DS") class = subst (λ t. SpellsClass t class) (c.if-is_name-3.ensures.0 refl) spelled in
    let wrong = s.0 in cc
