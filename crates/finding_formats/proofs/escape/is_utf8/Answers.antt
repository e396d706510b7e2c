use Rattle.std.proofs.Common.{◌≡◌, ℕ, Bool, true, false, List, IsUtf8, refl, sym}
use Rattle.std.specs.Str.{is_utf8}
use Rattle.std.proofs.lemmas.Str.{IsUtf8-from_is_utf8, is_utf8-from_IsUtf8}
use Rattle.finding_formats.proofs.escape.is_utf8.Goals as goal

by_test : (b : Bool) (octets : List ℕ) → is_utf8 octets ≡ b → (IsUtf8 octets → ⊥) → false ≡ b
by_test true octets e none = absurd (none (IsUtf8-from_is_utf8 octets e))
by_test false octets e none = refl

pub returns-in-Ok : goal.returns-in-Ok
returns-in-Ok c = sym (is_utf8-from_IsUtf8 c.args.octets.now c.in-Ok.ensures.cases.1)

pub returns-in-Err : goal.returns-in-Err
returns-in-Err c = by_test (is_utf8 c.args.octets.now) c.args.octets.now refl c.in-Err.ensures.cases.0
