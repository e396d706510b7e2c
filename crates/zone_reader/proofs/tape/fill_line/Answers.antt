use Rattle.std.proofs.Common.{◌≤◌, arith, refl, inl, inr}
use Rattle.std.proofs.lemmas.Bool.Decides.{nat_tests}
use Rattle.std.specs.Prelude.{Some}
use Rattle.dns_lexer.specs.Pieces.{word_at}
use Rattle.dns_lexer.specs.Run.{first_blank}
use Rattle.zone_reader.proofs.LineFilling.{after_within, all_given, all_left, rest_left, blank_filled, comment_filled, feed_filled, quote_filled, return_ended, return_filled, word_filled}
use Rattle.zone_reader.proofs.Outside.{word_left}
use Rattle.zone_reader.proofs.Unfilled.{unfilled_token}
use Rattle.zone_reader.proofs.WordEnds.{begins_word, blank_before, no_other, word_before}
use Rattle.zone_reader.proofs.tape.fill_line.Goals as goal

pub returns-then-depth-eq0-clause-some : goal.returns-then-depth-eq0-clause-some
returns-then-depth-eq0-clause-some g c =
    feed_filled c.args.octets.now c.octets.depth c.octets.at c.octets.ended c.octets.tape.items c.type_inv.octets c.octets.invariant.fills c.if-depth-eq0.true (omega (arith, c.octets-test.true)) c.in-10.is

pub octets-preserved-in-59 : goal.octets-preserved-in-59
octets-preserved-in-59 g c =
    let inv = c.octets.invariant in
    let e = c.in_ok-at-in-59.ensures in
    record {
      deep = omega (arith, inv.deep, e.some);
      within = omega (arith, e.within);
      fills = comment_filled c.args.octets.now c.octets.depth c.octets.at c.octets.ended c.octets.tape.items inv.fills c.in_ok-at-in-59.at c.in-59.is e;
      plain = λ feed line. absurd (no_other c.args.octets.now feed c.octets.at 59 line (inv.plain feed line).0 c.in-59.is (λ e. omega (arith, e)) refl refl);
    }

pub octets-preserved-in-34 : goal.octets-preserved-in-34
octets-preserved-in-34 g c =
    let inv = c.octets.invariant in
    let e = c.in_ok-end-in-34.ensures in
    record {
      deep = omega (arith, inv.deep, e.some);
      within = e.within;
      fills = quote_filled c.args.octets.now c.octets.depth c.octets.at c.octets.ended c.octets.tape.items inv.fills c.in_ok-end-in-34.end c.quote_span.result c.push.new.tape.items c.in-34.is e c.quote_span.ensures c.if-not-push.ensures;
      plain = λ feed line. absurd (no_other c.args.octets.now feed c.octets.at 34 line (inv.plain feed line).0 c.in-34.is (λ e. omega (arith, e)) refl refl);
    }

pub octets-preserved : goal.octets-preserved
octets-preserved g c =
    let inv = c.octets.invariant in
    let octets = c.args.octets.now in
    let e = c.in_ok-end-in_default.ensures.some in
    let end = c.in_ok-end-in_default.end in
    let on = after_within octets end c.after_blank-at.result e.within c.after_blank-at.ensures in
    let fills =
    word_filled octets c.octets.depth c.octets.at c.octets.ended c.octets.tape.items inv.fills end c.word_span.result c.push-in_default.new.tape.items e c.word_span.ensures c.if-not-push-2.ensures in
    record {
      deep = omega (arith, inv.deep, e.some, on.0);
      within = on.1;
      fills = blank_filled octets c.octets.depth end (Some end) c.push-in_default.new.tape.items fills c.after_blank-at.result e.within c.after_blank-at.ensures;
      plain = λ feed line.
          let before : end ≤ feed = word_before octets feed c.octets.at end line (inv.plain feed line).0 e.inside in
          (blank_before octets feed end c.after_blank-at.result line before c.after_blank-at.ensures, (inv.plain feed line).1);
    }

pub returns-then-depth-eq0-2-clause-some : goal.returns-then-depth-eq0-2-clause-some
returns-then-depth-eq0-2-clause-some g c =
    return_ended c.args.octets.now c.octets.depth c.octets.at c.octets.ended c.octets.tape.items c.type_inv.octets c.octets.invariant.fills c.if-depth-eq0-2.true c.in_ok-end-in-13.end c.in-13.is c.in_ok-end-in-13.ensures

pub octets-preserved-in-13 : goal.octets-preserved-in-13
octets-preserved-in-13 g c =
    let inv = c.octets.invariant in
    let e = c.in_ok-end-in-13.ensures in
    record {
      deep = omega (arith, inv.deep, e.2);
      within = omega (arith, e.0, e.2);
      fills = return_filled c.args.octets.now c.octets.depth c.octets.at c.octets.ended c.octets.tape.items inv.fills c.in_ok-end-in-13.end c.in-13.is e (omega (arith, c.if-depth-eq0-2.false));
      plain = λ feed line. absurd (no_other c.args.octets.now feed c.octets.at 13 line (inv.plain feed line).0 c.in-13.is (λ e. omega (arith, e)) refl refl);
    }

-- a token too many
pub returns-then-not-push-2-clause-none : goal.returns-then-not-push-2-clause-none
returns-then-not-push-2-clause-none g c =
    let octets = c.args.octets.now in
    let end = c.in_ok-end-in_default.end in
    let e = c.in_ok-end-in_default.ensures.some in
    let now = word_left octets c.octets.depth c.octets.at end (first_blank octets) e in
    λ none. inl (unfilled_token g.row.N octets (all_left octets) (rest_left octets c.octets.depth c.octets.at) c.octets.ended c.octets.tape.items c.octets.invariant.fills (all_given octets c.type_inv.octets)
    (word_at c.octets.at end) (rest_left octets c.octets.depth end) now tt c.if-not-push-2.ensures.0)

pub returns-in_err-end-in_default-clause-none : goal.returns-in_err-end-in_default-clause-none
returns-in_err-end-in_default-clause-none g c =
    let octets = c.args.octets.now in
    λ none. inr (λ feed line.
    begins_word octets c.octets.depth feed c.octets.at line (c.octets.invariant.plain feed line).0 (λ e. omega (arith, e)) (λ e. grind (arith, nat_tests)) (λ e. grind (arith, nat_tests)) (c.in_err-end-in_default.ensures.none refl))
