use Rattle.std.proofs.Common.{arith, sym}
use Rattle.std.proofs.lemmas.Result.{err_from_is_err_and}
use Rattle.std.proofs.lemmas.Grind.{common_steps}
use Rattle.dns_charstr.proofs.SoFar.{read_more, read_broken, read_next}
use Rattle.dns_charstr.proofs.Taken.{symbol_taken, refusal_taken}
use Rattle.dns_charstr.proofs.charstr.CharStr.read_symbols.Goals as goal

pub loop-builder-preserved : goal.loop-builder-preserved
loop-builder-preserved g c =
    let begins = symbol_taken c.in-Some.symbol c.loop-builder.chars c.from_chars.new.chars (rw c.in-Some.is at c.in_ok-symbol.ensures.reads) in
    record {
      read = rw c.in_ok-append_slice.ensures.ok (read_more _ _ _ _ c.in-Some.symbol c.in_ok-octet.octet c.loop-builder.invariant.read begins (sym c.in_ok-octet.ensures));
      short = grind (arith, common_steps);
      within = omega (arith, c.in_ok-append_slice.ensures.within);
    }

pub returns-in_err-symbol : goal.returns-in_err-symbol
returns-in_err-symbol g c =
    let p = err_from_is_err_and c.from_residual.result c.from_residual.ensures.1 in
    let ends = refusal_taken c.in_err-symbol.field-0.0 c.loop-builder.chars c.from_chars.new.chars c.loop-builder.invariant.read.characters c.in_err-symbol.ensures.reads in
    rw (p.1, p.2) (c.loop-builder.builder, read_broken _ _ _ _ c.loop-builder.invariant.read ends, c.loop-builder.invariant.short, c.loop-builder.invariant.within)

pub returns-then-len-eq-MAX_LEN : goal.returns-then-len-eq-MAX_LEN
returns-then-len-eq-MAX_LEN g c =
    let begins = symbol_taken c.in-Some.symbol c.loop-builder.chars c.from_chars.new.chars (rw c.in-Some.is at c.in_ok-symbol.ensures.reads) in
    rw c.into.ensures (c.loop-builder.builder, c.in-Some.symbol, read_next _ _ _ _ c.in-Some.symbol c.loop-builder.invariant.read begins, omega arith, c.loop-builder.invariant.within)

pub returns-in_err-octet : goal.returns-in_err-octet
returns-in_err-octet g c =
    let begins = symbol_taken c.in-Some.symbol c.loop-builder.chars c.from_chars.new.chars (rw c.in-Some.is at c.in_ok-symbol.ensures.reads) in
    let p = err_from_is_err_and c.from_residual-in_err-octet.result c.from_residual-in_err-octet.ensures.1 in
    rw (p.1, p.2) (
      c.loop-builder.builder,
      c.in-Some.symbol,
      read_next _ _ _ _ c.in-Some.symbol c.loop-builder.invariant.read begins,
      omega arith,
      c.loop-builder.invariant.within,
      sym c.in_err-octet.ensures,
    )

pub returns-in_err-append_slice : goal.returns-in_err-append_slice
returns-in_err-append_slice g c =
    let begins = symbol_taken c.in-Some.symbol c.loop-builder.chars c.from_chars.new.chars (rw c.in-Some.is at c.in_ok-symbol.ensures.reads) in
    let p = err_from_is_err_and c.from_residual-in_err-append_slice.result c.from_residual-in_err-append_slice.ensures.1 in
    rw (p.1, p.2) (
      c.loop-builder.builder,
      c.in-Some.symbol,
      c.in_ok-octet.octet,
      read_next _ _ _ _ c.in-Some.symbol c.loop-builder.invariant.read begins,
      omega arith,
      c.loop-builder.invariant.within,
      sym c.in_ok-octet.ensures,
      grind (arith, common_steps),
    )
