use Rattle.std.proofs.Common.{◌++◌, length, refl, sym, ap, subst, ◌∙◌, arith, append-nil, rules, slice_index_or, drop_of_length-le}
use Rattle.dns_lexer.specs.declared.pieces.Span.{Span}
use Rattle.zone_edit.specs.Tokens.{AreAfterTokens, removed_spans}
use Rattle.zone_edit.proofs.Gaps.{after_back, after_gives, taken_next}
use Rattle.zone_edit.proofs.tokens.append_removed.Goals as goal

pub loop-token-preserved : goal.loop-token-preserved
loop-token-preserved g c =
    let octets = c.args.octets.now in
    let tokens = c.args.tokens.now in
    let i = c.loop-token.token-index in
    let none : Span = record { start = 0; end = 0 } in
    let t = slice_index_or tokens i none in
    let at = c.loop-token.at in
    record {
      made = taken_next octets tokens i t none at c.loop-token-test.true refl c.loop-token.out.items c.push_span.new.out.items c.kept_len.result c.in_ok-push_span.ensures c.kept_len.ensures.kept
          ∙ c.loop-token.invariant.made;
      within = search rules;
      found = λ h. c.loop-token.invariant.found (after_back octets tokens i t none at c.loop-token-test.true refl (length octets) (search rules) h);
      wanted = λ h. (after_gives octets tokens i t none at c.loop-token-test.true refl (length octets) (c.loop-token.invariant.wanted h)).1;
    }

pub returns-clause-made : goal.returns-clause-made
returns-clause-made g c =
    let octets = c.args.octets.now in
    let rest = drop_of_length-le c.args.tokens.now (omega (arith, c.loop-token-test.false)) in
    sym (append-nil c.loop-token.out.items) ∙ ap (λ l. c.loop-token.out.items ++ removed_spans octets c.loop-token.at l) (sym rest) ∙ c.loop-token.invariant.made

pub returns-clause-ordered : goal.returns-clause-ordered
returns-clause-ordered g c =
    let rest = drop_of_length-le c.args.tokens.now (omega (arith, c.loop-token-test.false)) in
    c.loop-token.invariant.found (subst (AreAfterTokens (length c.args.octets.now) c.loop-token.at) (sym rest) tt)
