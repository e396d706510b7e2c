use Rattle.std.proofs.Common.{◌∙◌, ◌==◌, ◌||◌, ap, arith}
use Rattle.rdata_values.specs.Bitmap.{has}
use Rattle.rdata_values.specs.Members.{members}
use Rattle.rdata_values.proofs.Sets.{with_type, still_covers}
use Rattle.rdata_values.proofs.code_set.CodeSet.insert.Goals as goal

pub invariant_of-self : goal.invariant_of-self
invariant_of-self c = still_covers c.self.inside.octets c.self.inside.windows c.max-self-inside.result c.from-place.result (omega arith) (omega (arith, c.from-place.ensures)) (omega arith) (omega arith) (omega arith) (λ more. omega (arith, more)) c.self.invariant

pub returns : goal.returns
returns c = λ t l.
    let q = c.from-place.result in let octets = c.self.inside.octets in
    with_type octets q (omega arith) t l ∙ ap (λ n. (n == t) || has (members octets) t) c.from-place.ensures
    ∙ ap (λ ts. (c.args.code == t) || has ts t) c.self.view_is
