-- Worked examples of the definitions, each computed.
use Rattle.std.specs.Prelude.{◌≡◌, [], ◌∷◌, map, Some, None, Ok, Err, codes, refl}
use Rattle.zone_reader.specs.Directives.{directive_of_word}
use Rattle.zone_reader.specs.HeaderWords.{ttl_of_seconds}
use Rattle.zone_reader.specs.declared.directive.Directive.TheVariants.{Origin, Ttl, Include, Generate}
use Rattle.rdata_values.specs.declared.error.ErrorKind.TheVariants.{UnknownDirective}

-- letters in any case; another word with a dollar sign is rejected, and one without is not a directive
directives : map directive_of_word (codes "$ORIGIN" ∷ codes "$ttl" ∷ codes "$Include" ∷ codes "$GENERATE" ∷ codes "$x" ∷ codes "\\$ttl" ∷ codes "w" ∷ [])
    ≡ Some (Ok Origin) ∷ Some (Ok Ttl) ∷ Some (Ok Include) ∷ Some (Ok Generate) ∷ Some (Err UnknownDirective) ∷ None ∷ None ∷ []
directives = refl

-- TTLs up to 2^31, and up to the greatest number of 32 bits
ttls : map ttl_of_seconds (0 ∷ 2147483647 ∷ 2147483648 ∷ 4294967295 ∷ []) ≡ 0 ∷ 2147483647 ∷ 0 ∷ 0 ∷ []
ttls = refl
