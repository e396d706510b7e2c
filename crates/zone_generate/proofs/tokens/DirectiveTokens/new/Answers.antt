use Rattle.std.proofs.Common.{◌≡◌, ◌≤◌, length, sym, arith}
use Rattle.std.proofs.lemmas.List.{length-take-le}
use Rattle.zone_generate.proofs.tokens.DirectiveTokens.new.Goals as goal

pub slice_bounds-tokens-end : goal.slice_bounds-tokens-end
slice_bounds-tokens-end c = let size : length c.fill.new.tokens ≡ 8 = c.fill.ensures.size in omega (arith, c.in-Ok.ensures.within, size)

pub slice_bounds-begins_directive-end : goal.slice_bounds-begins_directive-end
slice_bounds-begins_directive-end c =
    let size : length c.fill.new.tokens ≡ 8 = c.fill.ensures.size in
    let within : c.in-Ok.count ≤ length c.fill.new.tokens = omega (arith, c.in-Ok.ensures.within, size) in
    sym (length-take-le c.in-Ok.count c.fill.new.tokens within)
