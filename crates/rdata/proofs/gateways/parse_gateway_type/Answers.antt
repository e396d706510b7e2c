use Rattle.std.proofs.Common.{ℕ, ◌≡◌, ◌≤◌, ◌-◌, ◌∙◌, List, [], ◌∷◌, true, false, length, arith, sym, append-nil, inl, refl}
use Rattle.dns_octets.specs.Room.{Room}
use Rattle.dns_octets.specs.Appending.{ExceedsRoom}
use Rattle.dns_lexer.specs.EntryTokens.{TokenSeen, token_seen}
use Rattle.rdata_fields.proofs.Tokens.{first_taken}
use Rattle.rdata_values.specs.declared.error.ErrorKind.TheVariants.{ShortBuf}
use Rattle.rdata.specs.GatewayKeys.{gateway_type_form}
use Rattle.rdata.proofs.TokenRests.{next_refused}
use Rattle.rdata.proofs.gateways.parse_gateway_type.Goals as goal

type_exceeds : (room : Room) (t : TokenSeen) (old : List ℕ) (number : ℕ) → gateway_type_form.spells t (number ∷ []) → (length (number ∷ []) ≤ room.fits - length old → false ≡ true) → ExceedsRoom room (gateway_type_form.begins t) old
type_exceeds room t old number spelled fits =
    let full : length (number ∷ []) ≤ room.fits - length old → ⊥ = λ enough. cc (fits enough) in (number ∷ [], spelled, omega (arith, full))

pub returns-in-Err-append_slice-clause-takes : goal.returns-in-Err-append_slice-clause-takes
returns-in-Err-append_slice-clause-takes g c =
    let t = token_seen c.in-Some.token in
    let old : List ℕ = g.B.AsOctets.octets c.args.target.now in
    let is = first_taken t (g.S.TokenSource.left c.args.source.now) c.in-Some.ensures in
    let exceeds = type_exceeds g.B.OctetsBuilder.room t old c.in-Ok.number c.in-Ok.ensures c.in-Err-append_slice.ensures.fits in
    rw (c.at-in-Err-append_slice.ensures, c.from.ensures) (next_refused gateway_type_form.begins gateway_type_form.spells gateway_type_form.reason g.B.OctetsBuilder.room _ c.place-at.result _ t _ old _ ShortBuf is c.place-at.ensures (inl (refl, exceeds))
    ([], c.in-Err-append_slice.ensures.err ∙ sym (append-nil old)))
