use Rattle.std.proofs.Common.{ℕ, List, None, ◌≤◌, ◌∙◌, length, subst, sym, ap, arith}
use Rattle.std.proofs.lemmas.Bool.{eqb-true, eqb-false}
use Rattle.rdata_tokens.proofs.Pieces.{rest_of}
use Rattle.rdata_tokens.specs.NameSpelling.{IsWireName}
use Rattle.dns_wire.proofs.Wires.{is_nil}
use Rattle.rdata.specs.HostIdentities.{server_form}
use Rattle.rdata.specs.TokenForms.{AreParts, each_form, printed_each}
use Rattle.rdata.proofs.HostWire.{after_name, names_begin, next_server, no_more_servers, no_names}
use Rattle.rdata.proofs.PrefixListLaws.{is_some}
use Rattle.zone_record.proofs.PrintedTokens.{HasPrinted, none_printed, more_printed, all_printed, next_failed, on_err_of}
use Rattle.zone_record.proofs.rdata_print.write_servers.Goals as goal

pub loop-rest-init : goal.loop-rest-init
loop-rest-init g c = (length c.args.octets.now, omega arith, c.requires, none_printed _ _ _ _)

pub unreachable-requires : goal.unreachable-requires
unreachable-requires g c =
    let rest : List ℕ = c.loop-rest.rest.now in
    no_names rest rest (names_begin rest) (is_some rest (eqb-false (length rest) 0 (sym c.loop-rest-test.ensures))) c.in_default.ensures c.loop-rest.invariant.2

pub loop-rest-preserved : goal.loop-rest-preserved
loop-rest-preserved g c =
    let blocks = g.F.FormatWriter.blocks in
    let gives = g.F.FormatWriter.step_gives in
    let rest : List ℕ = c.loop-rest.rest.now in
    let i = c.loop-rest.invariant in
    let some = eqb-false (length rest) 0 (sym c.loop-rest-test.ensures) in
    let next = next_server i.0 rest c.in-Some.width (omega (arith, some)) i.1 c.in-Some.ensures in
    let left = sym (rest_of c.in-Some.width rest) in (
      next.fewer,
      subst (λ (r : List ℕ). length r ≤ next.fewer) left next.enough,
      subst (AreParts IsWireName) left (after_name rest c.in-Some.width c.in-Some.ensures (is_some rest some) i.2),
      subst (λ (r : List ℕ). HasPrinted blocks gives c.args.p.now ((each_form (server_form None)).printed c.args.octets.now) (printed_each (server_form None) next.fewer r) c.write_token.new.self) left
          (more_printed _ _ _ _ _ _ _ _ _ i.3 next.is c.in_ok-write_token.ensures.blocks c.in_ok-write_token.ensures.gives),
    )

pub returns-in_err-write_token-clause-fails : goal.returns-in_err-write_token-clause-fails
returns-in_err-write_token-clause-fails g c =
    let rest : List ℕ = c.loop-rest.rest.now in
    let i = c.loop-rest.invariant in
    let some = eqb-false (length rest) 0 (sym c.loop-rest-test.ensures) in
    let next = next_server i.0 rest c.in-Some.width (omega (arith, some)) i.1 c.in-Some.ensures in
    on_err_of c.from_residual.result (next_failed _ _ _ _ _ _ _ _ _ i.3 next.is c.in_err-write_token.ensures.fails)

pub returns-clause-gives : goal.returns-clause-gives
returns-clause-gives g c =
    let rest : List ℕ = c.loop-rest.rest.now in
    let i = c.loop-rest.invariant in
    let none = is_nil rest (eqb-true (length rest) 0 (sym c.loop-rest-test.ensures)) in
    all_printed _ _ _ _ _ _ i.3 (ap (printed_each (server_form None) i.0) none ∙ no_more_servers i.0)
