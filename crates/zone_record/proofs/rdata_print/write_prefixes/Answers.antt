use Rattle.std.proofs.Common.{ℕ, List, ◌≤◌, ◌∙◌, length, subst, sym, ap, arith}
use Rattle.std.proofs.lemmas.Bool.{eqb-true, eqb-false}
use Rattle.rdata_tokens.proofs.Pieces.{rest_of}
use Rattle.dns_wire.proofs.Wires.{is_nil}
use Rattle.rdata.specs.PrefixLists.{IsPrefixItem, prefix_form, prefixes_form}
use Rattle.rdata.specs.TokenForms.{AreParts, printed_each}
use Rattle.rdata.proofs.PlacesBack.{next_item, no_more_items}
use Rattle.rdata.proofs.PrefixListLaws.{after_item, is_some, items_begin, no_items}
use Rattle.zone_record.proofs.PrintedTokens.{HasPrinted, none_printed, more_printed, all_printed, next_failed, on_err_of}
use Rattle.zone_record.proofs.rdata_print.write_prefixes.Goals as goal

pub loop-rest-init : goal.loop-rest-init
loop-rest-init g c = (length c.args.octets.now, omega arith, c.requires, none_printed _ _ _ _)

pub unreachable-requires : goal.unreachable-requires
unreachable-requires g c =
    let rest : List ℕ = c.loop-rest.rest.now in
    no_items rest rest (items_begin rest) (is_some rest (eqb-false (length rest) 0 (sym c.loop-rest-test.ensures))) c.in_default.ensures c.loop-rest.invariant.2

pub unreachable-requires-in_default-from_octets : goal.unreachable-requires-in_default-from_octets
unreachable-requires-in_default-from_octets g c =
    let rest : List ℕ = c.loop-rest.rest.now in
    no_items rest rest (items_begin rest) (is_some rest (eqb-false (length rest) 0 (sym c.loop-rest-test.ensures))) c.in_default-from_octets.ensures c.loop-rest.invariant.2

pub loop-rest-preserved : goal.loop-rest-preserved
loop-rest-preserved g c =
    let blocks = g.F.FormatWriter.blocks in
    let gives = g.F.FormatWriter.step_gives in
    let rest : List ℕ = c.loop-rest.rest.now in
    let i = c.loop-rest.invariant in
    let some = eqb-false (length rest) 0 (sym c.loop-rest-test.ensures) in
    let next = next_item i.0 rest c.in-Some.width c.in-Some-from_octets.item (omega (arith, some)) i.1 c.in-Some.ensures c.in-Some-from_octets.ensures in
    let left = sym (rest_of c.in-Some.width rest) in (
      next.fewer,
      subst (λ (r : List ℕ). length r ≤ next.fewer) left next.enough,
      subst (AreParts IsPrefixItem) left (after_item rest c.in-Some.ensures.0 c.in-Some.width c.in-Some.ensures.1 (is_some rest some) i.2),
      subst (λ (r : List ℕ). HasPrinted blocks gives c.args.p.now (prefixes_form.printed c.args.octets.now) (printed_each prefix_form next.fewer r) c.write_token.new.self) left
          (more_printed _ _ _ _ _ _ _ _ _ i.3 next.is c.in_ok-write_token.ensures.blocks c.in_ok-write_token.ensures.gives),
    )

pub returns-in_err-write_token-clause-fails : goal.returns-in_err-write_token-clause-fails
returns-in_err-write_token-clause-fails g c =
    let rest : List ℕ = c.loop-rest.rest.now in
    let i = c.loop-rest.invariant in
    let some = eqb-false (length rest) 0 (sym c.loop-rest-test.ensures) in
    let next = next_item i.0 rest c.in-Some.width c.in-Some-from_octets.item (omega (arith, some)) i.1 c.in-Some.ensures c.in-Some-from_octets.ensures in
    on_err_of c.from_residual.result (next_failed _ _ _ _ _ _ _ _ _ i.3 next.is c.in_err-write_token.ensures.fails)

pub returns-clause-gives : goal.returns-clause-gives
returns-clause-gives g c =
    let rest : List ℕ = c.loop-rest.rest.now in
    let i = c.loop-rest.invariant in
    let none = is_nil rest (eqb-true (length rest) 0 (sym c.loop-rest-test.ensures)) in
    all_printed _ _ _ _ _ _ i.3 (ap (printed_each prefix_form i.0) none ∙ no_more_items i.0)
