use Rattle.std.proofs.Common.{ℕ, ◌<◌, List, [], ◌∷◌, ◌∙◌}
use Rattle.std.proofs.lemmas.List.Elements.{recursion_from_All}
use Rattle.std.proofs.lemmas.Result.{err_from_is_err_and}
use Rattle.custom_record.specs.Values.{hex}
use Rattle.custom_record.proofs.OnlySpelled.{rest_only, none_made, none_lacks, no_hex}
use Rattle.custom_record.proofs.FieldsBack.{hex_text, some_rest, no_rest}
use Rattle.custom_record.proofs.NoOctets.{hex_empty, some_accepted, error_same}
use Rattle.custom_record.proofs.several.hex_rest.Goals as goal

pub returns-clause-back : goal.returns-clause-back
returns-clause-back g c = λ octets past tokens is texts stands.
    let given = c.in_ok-octets.ensures.takes tokens stands in
    some_rest g.S.Scanner.next_token g.S.Error.ScannerError.cause g.S.Octets.AsOctets.octets g.S.OctetsBuilder.OctetsBuilder.room (λ o. hex o) octets past tokens _ _ c.some_octets.result is.0.1
    (given.0.back octets (recursion_from_All (λ o. o < 256) octets is.0.0) (hex_text octets tokens texts)) given.1 c.some_octets.ensures.some

pub returns-in_err-octets-clause-back : goal.returns-in_err-octets-clause-back
returns-in_err-octets-clause-back g c = λ octets past tokens is texts stands.
    let p = err_from_is_err_and c.from_residual.result c.from_residual.ensures.1 in
    rw (p.1, p.2) (no_rest g.S.Scanner.next_token g.S.Error.ScannerError.cause g.S.Octets.AsOctets.octets g.S.OctetsBuilder.OctetsBuilder.room (λ o. hex o)
    octets past tokens _ {T = List ℕ} (λ o. hex o ∷ []) (hex octets ∷ []) _ (λ less. less)
    ((c.in_err-octets.ensures.takes tokens stands).0.back octets (recursion_from_All (λ o. o < 256) octets is.0.0) (hex_text octets tokens texts)))

pub returns-clause-only : goal.returns-clause-only
returns-clause-only g c = λ tokens stands.
    let given = c.in_ok-octets.ensures.takes tokens stands in
    rest_only g.S.Scanner.next_token g.S.Error.ScannerError.cause tokens _ g.S.Octets.AsOctets.octets (λ o. hex o) _ c.some_octets.result given.0.only given.1 c.some_octets.ensures.some c.some_octets.ensures.none

pub returns-clause-none : goal.returns-clause-none
returns-clause-none g c = λ tokens stands empty.
    let given = (c.in_ok-octets.ensures.takes tokens stands).0 in
    c.some_octets.ensures.none (none_made g.S.OctetsBuilder.OctetsBuilder.room (g.S.Octets.AsOctets.octets c.in_ok-octets.octets) (given.back [] tt (empty ∙ no_hex)))

pub returns-in_err-octets-clause-none : goal.returns-in_err-octets-clause-none
returns-in_err-octets-clause-none g c = λ tokens stands empty.
    let given = (c.in_err-octets.ensures.takes tokens stands).0 in
    absurd (none_lacks g.S.OctetsBuilder.OctetsBuilder.room (given.back [] tt (empty ∙ no_hex)))

pub returns-clause-rejects : goal.returns-clause-rejects
returns-clause-rejects g c = λ tokens stands text join some.
    let given = (c.in_ok-octets.ensures.takes tokens stands).0 in
    some_accepted _ (g.S.Octets.AsOctets.octets c.in_ok-octets.octets) c.some_octets.result (λ none. some (hex_empty _ _ given.only none)) c.some_octets.ensures.some

pub returns-in_err-octets-clause-rejects : goal.returns-in_err-octets-clause-rejects
returns-in_err-octets-clause-rejects g c = λ tokens stands text join some.
    let p = err_from_is_err_and c.from_residual.result c.from_residual.ensures.1 in
    rw (p.1, p.2) (error_same _ _ _ _ _ _ ((c.in_err-octets.ensures.takes tokens stands).0.answer text join))
