use Rattle.std.proofs.Common.{rules, sym, ◌∙◌, arith}
use Rattle.c_calls.proofs.Leading.{before_more}
use Rattle.c_calls.proofs.strings.read_string.Goals as goal

pub returns-then-len-eq-MOST : goal.returns-then-len-eq-MOST
returns-then-len-eq-MOST c =
    let found = rw c.in-Some.is at c.in_ok-symbol.ensures.reads in
    (c.loop-symbol.octets.items, c.loop-symbol.invariant.read, ((c.in-Some.symbol, c.in-Some.after), found, omega arith))

pub returns-in_default-into_octet : goal.returns-in_default-into_octet
returns-in_default-into_octet c =
    let found = rw c.in-Some.is at c.in_ok-symbol.ensures.reads in
    let same = sym c.into_octet.ensures ∙ c.in_default-into_octet.is in
    (c.loop-symbol.octets.items, c.loop-symbol.invariant.read, ((c.in-Some.symbol, c.in-Some.after), c.in_default-into_octet.field-0, found, omega arith, same))

pub loop-symbol-preserved : goal.loop-symbol-preserved
loop-symbol-preserved c =
    let found = rw c.in-Some.is at c.in_ok-symbol.ensures.reads in
    record {
      read = rw c.push.ensures.items (before_more _ _ _ _ c.in-Ok.octet c.in-Some.symbol c.loop-symbol.invariant.read found (sym c.into_octet.ensures ∙ c.in-Ok.is));
      few = omega arith;
      within = search rules;
    }
