use Rattle.std.proofs.Common.{◌≡◌, ◌∙◌, sym, subst}
use Rattle.std.specs.Prelude.{Option, IfSome}
use Rattle.finding_codes.specs.declared.code.Code.{Code}
use Rattle.finding_codes.specs.Code.{code_name}
use Rattle.finding_codes.proofs.Codes.{found_has_name, named_is_found}
use Rattle.finding_codes.proofs.code.Code.named.Goals as goal

pub returns-clause-named : goal.returns-clause-named
returns-clause-named c = subst (λ (r : Option Code). IfSome r (λ d. code_name d ≡ c.args.name.now)) (sym c.find_code.ensures) (found_has_name c.args.name.now)

pub returns-clause-each : goal.returns-clause-each
returns-clause-each c = λ d e. c.find_code.ensures ∙ named_is_found c.args.name.now d e
