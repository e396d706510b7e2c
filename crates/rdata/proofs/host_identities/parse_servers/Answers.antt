use Rattle.std.proofs.Common.{refl, ◌∙◌, sym, ap}
use Rattle.std.proofs.lemmas.Result.{err_from_is_err_and}
use Rattle.std.specs.Option.{option_copied}
use Rattle.rdata_fields.proofs.Tokens.{none_left}
use Rattle.rdata.specs.HostIdentities.{server_form}
use Rattle.rdata.proofs.HostLaws.{server_once}
use Rattle.rdata.proofs.Sources.{some_left}
use Rattle.rdata.proofs.TokenRests.{none_yet, each_more, all_each, each_refused}
use Rattle.rdata.proofs.host_identities.parse_servers.Goals as goal

pub loop-origin-init : goal.loop-origin-init
loop-origin-init g c = record { taken = none_yet (server_form (option_copied c.args.origin)) _ _; end = refl }

pub loop-origin-preserved : goal.loop-origin-preserved
loop-origin-preserved g c = record {
  taken = each_more (server_form (option_copied c.args.origin)) _ _ _ _ _ _ c.loop-origin.invariant.taken c.in_ok-parse_one.ensures.takes;
  end = c.parse_one.ensures.end ∙ c.loop-origin.invariant.end;
}

pub returns-in_err-parse_one-clause-takes : goal.returns-in_err-parse_one-clause-takes
returns-in_err-parse_one-clause-takes g c =
    let p = err_from_is_err_and c.from_residual.result c.from_residual.ensures.1 in
    let form = server_form (option_copied c.args.origin) in
    let some = some_left c.current.result (g.S.TokenSource.left c.loop-origin.source) c.current.ensures (sym c.is_some.ensures ∙ c.loop-origin-test.true) in
    rw (p.1, p.2) (each_refused form (server_once (option_copied c.args.origin)) g.B.OctetsBuilder.room _ _ _ _ _ _ _ _ c.in_err-parse_one.field-0.0 c.loop-origin.invariant.taken (ap (λ e. e.at) c.loop-origin.invariant.end) some c.in_err-parse_one.ensures.takes)

pub returns-clause-takes : goal.returns-clause-takes
returns-clause-takes g c =
    let none = none_left c.current.result (g.S.TokenSource.left c.loop-origin.source) c.current.ensures (sym c.is_some.ensures ∙ c.loop-origin-test.false) in
    (none, all_each (server_form (option_copied c.args.origin)) _ _ _ _ c.loop-origin.invariant.taken none)
