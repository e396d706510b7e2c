use Rattle.std.proofs.Common.{None, ◌≡◌, [], ◌∷◌, ap, inl, inr, subst, sym}
use Rattle.std.specs.Prelude.{OnErr, OnOk}
use Rattle.std.proofs.lemmas.Result.{on_err_weaker}
use Rattle.dns_zone.specs.Writers.{WritesSteps}
use Rattle.zone_record.specs.RdataPrinting.{FailsInSteps, token_steps}
use Rattle.rdata.specs.RestKinds.{rest_form}
use Rattle.rdata.specs.declared.rest.Rest.{Rest}
use Rattle.rdata.proofs.PrintedStrings.{quoted_token}
use Rattle.zone_record.proofs.PrintedTokens.{one_failed}
use Rattle.zone_record.proofs.rdata_print.write_rest.Goals as goal

pub write_gateway_key-requires : goal.write_gateway_key-requires
write_gateway_key-requires g c = subst (λ (r : Rest). (rest_form None r).is_wire c.args.octets.now) c.in-GatewayKey.is c.requires

pub write_host_identity-requires : goal.write_host_identity-requires
write_host_identity-requires g c = subst (λ (r : Rest). (rest_form None r).is_wire c.args.octets.now) c.in-HostIdentity.is c.requires

pub returns-in-Text-clause-fails : goal.returns-in-Text-clause-fails
returns-in-Text-clause-fails g c =
    let octets = c.args.octets.now in
    let is : (rest_form None c.args.rest).printed octets ≡ quoted_token octets ∷ [] =
    elim c.in-Text.is [
      | inl text ↦ ap (λ (r : Rest). (rest_form None r).printed octets) text
      | inr quoted ↦ ap (λ (r : Rest). (rest_form None r).printed octets) quoted
    ] in
    on_err_weaker c.write_token.result (one_failed _ _ _ _ _ _ is) c.write_token.ensures.fails

pub returns-in-Location-clause-gives : goal.returns-in-Location-clause-gives
returns-in-Location-clause-gives g c =
    subst (λ (r : Rest). OnOk c.write_location.result (WritesSteps g.F.FormatWriter.blocks g.F.FormatWriter.step_gives c.args.p.now (token_steps ((rest_form None r).printed c.args.octets.now)) c.write_location.new.p)) (sym c.in-Location.is)
    c.write_location.ensures.gives

pub returns-in-Location-clause-fails : goal.returns-in-Location-clause-fails
returns-in-Location-clause-fails g c =
    subst (λ (r : Rest). OnErr c.write_location.result (FailsInSteps g.F.FormatWriter.blocks g.F.FormatWriter.step_gives g.F.FormatWriter.step_fails c.args.p.now (token_steps ((rest_form None r).printed c.args.octets.now)))) (sym c.in-Location.is)
    c.write_location.ensures.fails
