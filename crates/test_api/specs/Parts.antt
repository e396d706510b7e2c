-- The parts of each record's text.
use Rattle.std.specs.Prelude.{List, [], ◌∷◌, codes}
use Rattle.custom_record.specs.Parts.{Part, field, note, unquoted}
use Rattle.custom_record.specs.Values.{number8, number16, name, long_text}
use Rattle.test_api.specs.declared.caa.Caa.{Caa}
use Rattle.test_api.specs.declared.mx.Mx.{Mx}

abbrev pub caa_parts : {O : Type 0} → Caa O → List Part
caa_parts x = field (number8 x.flags) ∷ note (codes "flags") ∷ unquoted x.tag ∷ note (codes "tag") ∷ field (long_text x.value) ∷ []

abbrev pub mx_parts : {O : Type 0} → Mx O → List Part
mx_parts x = field (number16 x.preference) ∷ note (codes "preference") ∷ field (name x.exchange) ∷ note (codes "exchange") ∷ []
