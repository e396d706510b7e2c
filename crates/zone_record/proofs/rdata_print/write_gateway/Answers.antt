use Rattle.std.proofs.Common.{List, ℕ, subst, sym}
use Rattle.std.specs.Prelude.{OnErr, OnOk}
use Rattle.dns_zone.specs.Layout.{token}
use Rattle.rdata.proofs.GatewayPrints.{gateway_shown, gateway_there}
use Rattle.zone_record.proofs.rdata_print.write_gateway.Goals as goal

pub unreachable-requires : goal.unreachable-requires
unreachable-requires g c = gateway_there c.args.number c.args.octets.now c.if-number-eq-NAME.false c.requires c.in-None.ensures

pub returns-clause-gives : goal.returns-clause-gives
returns-clause-gives g c =
    let shown = gateway_shown c.args.number c.args.octets.now c.in-Some.gateway c.if-number-eq-NAME.false c.requires c.in-Some.ensures in
    subst (λ (text : List ℕ). OnOk c.write_token-in-Some.result (g.F.FormatWriter.step_gives c.args.p.now (token text) c.write_token-in-Some.new.self)) (sym shown) c.write_token-in-Some.ensures.gives

pub returns-clause-fails : goal.returns-clause-fails
returns-clause-fails g c =
    let shown = gateway_shown c.args.number c.args.octets.now c.in-Some.gateway c.if-number-eq-NAME.false c.requires c.in-Some.ensures in
    subst (λ (text : List ℕ). OnErr c.write_token-in-Some.result (g.F.FormatWriter.step_fails c.args.p.now (token text))) (sym shown) c.write_token-in-Some.ensures.fails
