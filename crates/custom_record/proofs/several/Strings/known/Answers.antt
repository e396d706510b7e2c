use Rattle.std.proofs.Common.{subst}
use Rattle.std.specs.Prelude.{All}
use Rattle.custom_record.specs.Several.{IsString}
use Rattle.custom_record.proofs.StringsBack.{known_values, some_values}
use Rattle.custom_record.proofs.several.Strings.known.Goals as goal

pub returns : goal.returns
returns g c =
    let strings = c.args.self.now in
    (known_values strings (subst (λ l. All IsString l) c.as_slice.ensures.value c.known_each.ensures), some_values strings c.as_slice.ensures.some)
