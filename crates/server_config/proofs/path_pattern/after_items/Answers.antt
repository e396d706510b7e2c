use Rattle.std.proofs.Common.{◌+◌, ◌≤◌, length, get_or, ap, sym, ◌∙◌, arith}
use Rattle.std.proofs.lemmas.Bool.{ne_eqb}
use Rattle.std.proofs.lemmas.List.{length-drop, take_rest}
use Rattle.server_config.specs.PathPatterns.{item_fits, item_more, item_of}
use Rattle.server_config.proofs.PatternSteps.{item_passed}
use Rattle.server_config.proofs.path_pattern.after_items.Goals as goal

pub loop-index-preserved : goal.loop-index-preserved
loop-index-preserved c =
    let l = c.loop-index in
    let p = c.args.pattern.now in
    let n = c.args.name.now in
    let octet = get_or p l.index 0 in
    let tail = take_rest p (l.index + 1) in
    let lt = c.loop-index-test.true in
    let in_p : l.index + (1 + c.item_more.result) ≤ length p = omega (arith, lt, c.item_more.ensures.within, ap length tail, length-drop (l.index + 1) p) in
    let fits = sym (ap (λ t. item_fits (item_of octet t) (get_or n l.at 0)) tail) ∙ sym c.item_fits.ensures ∙ c.if-not-item_fits.false in
    item_passed p n l.index l.at c.item_more.result lt (ne_eqb octet 42 c.if-pattern-index-ne42.true) l.invariant (c.item_more.ensures.more ∙ ap (item_more octet) tail) in_p c.if-name-at.false fits
