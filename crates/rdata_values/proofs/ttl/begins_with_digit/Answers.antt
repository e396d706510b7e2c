use Rattle.std.proofs.Common.{ap, sym, ◌∙◌}
use Rattle.std.specs.Option.{option_copied}
use Rattle.rdata_values.proofs.TtlLaws.{first_seconds}
use Rattle.rdata_values.proofs.ttl.begins_with_digit.Goals as goal

pub returns-in-Some-clause-none : goal.returns-in-Some-clause-none
returns-in-Some-clause-none c = λ none n s.
    first_seconds c.args.text.now c.in-Some.first.now n (sym c.first.ensures.value ∙ ap option_copied c.in-Some.is) (sym c.is_ascii_digit.ensures.value ∙ none) s
