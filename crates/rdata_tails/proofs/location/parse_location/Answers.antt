use Rattle.std.proofs.Common.{ap, inl, inr, refl, arith, length, ◌∙◌, ◌≤◌, ◌-◌}
use Rattle.rdata_values.specs.declared.error.ErrorKind.TheVariants.{ShortBuf}
use Rattle.rdata_fields.specs.RecordErrors.{error_at}
use Rattle.rdata_fields.specs.Source.{next_place}
use Rattle.rdata_tails.proofs.LocationOnce.{refused_none}
use Rattle.rdata_tails.proofs.LocationPlaceLemmas.{first_refused}
use Rattle.rdata_tails.proofs.location.parse_location.Goals as goal

pub returns-in-Err-clause-why : goal.returns-in-Err-clause-why
returns-in-Err-clause-why g c =
    let h = c.in-Err.ensures.takes in let why = c.in-Err.why in
    rw c.at-in-Err.ensures (
      ap (λ p. error_at p why) (c.place-in-Err.ensures ∙ ap (λ e. next_place (g.S.TokenSource.left c.read_location.new.source) e.at) c.in-Err.ensures.end),
      inl (h, first_refused why _ _ h, λ octets k. refused_none why _ _ h k.0 k.1),
    )

pub returns-in-Err-append_slice-clause-why : goal.returns-in-Err-append_slice-clause-why
returns-in-Err-append_slice-clause-why g c =
    let h = c.in-Ok.ensures.takes in
    let full : length c.octets_of.result ≤ g.B.OctetsBuilder.room.fits - length (g.B.AsOctets.octets c.args.target.now) → ⊥ = λ enough. cc (c.in-Err-append_slice.ensures.fits enough) in
    rw c.at.ensures (
      ap (λ p. error_at p ShortBuf) (c.place.ensures ∙ ap (λ e. next_place (g.S.TokenSource.left c.read_location.new.source) e.at) c.in-Ok.ensures.end),
      inr (refl, h.0, (c.octets_of.result, (c.in-Ok.location, h.1, c.octets_of.ensures), omega (arith, full))),
    )
