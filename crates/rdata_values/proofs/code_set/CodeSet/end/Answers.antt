use Rattle.std.proofs.Common.{◌*◌, ◌∙◌, refl, sym, ap, arith}
use Rattle.rdata_values.specs.Bitmap.{has}
use Rattle.rdata_values.proofs.Sets.{ends_types, none_above}
use Rattle.rdata_values.proofs.code_set.CodeSet.end.Goals as goal

pub overflow_cast-result : goal.overflow_cast-result
overflow_cast-result c = omega (arith, c.self.invariant.high)

pub overflow_mul-result : goal.overflow_mul-result
overflow_mul-result c = omega (arith, c.self.invariant.high)

pub returns-clause-within : goal.returns-clause-within
returns-clause-within c = omega (arith, c.self.invariant.high)

pub returns-clause-above : goal.returns-clause-above
returns-clause-above c = λ code l m. ap (λ ts. has ts code) (sym c.self.view_is) ∙ none_above c.self.inside.octets c.self.inside.windows c.self.invariant code l (omega (arith, m))

pub returns-clause-last : goal.returns-clause-last
returns-clause-last c = ends_types c.self.inside.octets c.args.self.now c.self.inside.windows (256 * c.self.inside.windows) c.self.invariant refl c.self.view_is
