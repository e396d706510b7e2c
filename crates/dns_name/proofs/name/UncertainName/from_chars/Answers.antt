use Rattle.std.proofs.Common.{sym, subst, refl}
use Rattle.std.specs.Iterator.{Yields}
use Rattle.std.proofs.lemmas.Result.{err_from_is_err_and}
use Rattle.dns_name.proofs.Taking.{Taken, taken_none, taken_octet, taken_dot, refused_text, refused_symbol, refused_dot, refused_first, read_root, read_end, dot_spelled, empty_labels, not_open}
use Rattle.dns_name.proofs.Taking.{open_some, some_labels, none_given, some_given}
use Rattle.dns_name.proofs.name.UncertainName.from_chars.Goals as goal

pub loop-builder-init : goal.loop-builder-init
loop-builder-init g c = record { read = taken_none _ _ _ _ c.new-builder.ensures; can = c.requires.can_next; finite = c.requires.ends }

pub returns-in_err-symbol : goal.returns-in_err-symbol
returns-in_err-symbol g c =
    let p = err_from_is_err_and c.from_residual.result c.from_residual.ensures.1 in
    rw (p.1, p.2) (refused_text g.C.Iterator.next_gives g.Octets.Builder.OctetsBuilder.room c.args.chars c.loop-builder.chars c.from_chars.new.chars c.loop-builder.builder
    c.loop-builder.invariant.read g.row.Octets.Denot c.in_err-symbol.field-0.0 c.in_err-symbol.ensures.reads)

pub returns-in_err-push_symbol : goal.returns-in_err-push_symbol
returns-in_err-push_symbol g c =
    let p = err_from_is_err_and c.from_residual-in_err-push_symbol.result c.from_residual-in_err-push_symbol.ensures.1 in
    rw (p.1, p.2)
    (refused_symbol g.C.Iterator.next_gives g.Octets.Builder.OctetsBuilder.room c.args.chars c.loop-builder.chars c.from_chars.new.chars c.loop-builder.builder
    c.loop-builder.invariant.read g.row.Octets.Denot c.in-Some.symbol c.in_err-push_symbol.field-0.0 c.push_symbol.new.builder
    (rw c.in-Some.is at c.in_ok-symbol.ensures.reads) (sym c.if-not-is_dot.ensures) c.in_err-push_symbol.ensures)

pub loop-builder-preserved-then-not-is_dot : goal.loop-builder-preserved-then-not-is_dot
loop-builder-preserved-then-not-is_dot g c =
    let goes = rw c.in-Some.is at c.in_ok-symbol.ensures.goes in
    let took = c.in_ok-push_symbol.ensures in
    record {
      read = subst (λ n. Taken g.C.Iterator.next_gives g.Octets.Builder.OctetsBuilder.room c.args.chars c.from_chars.new.chars n) (sym took.2)
          (taken_octet g.C.Iterator.next_gives g.Octets.Builder.OctetsBuilder.room c.args.chars c.loop-builder.chars c.from_chars.new.chars c.loop-builder.builder
          c.loop-builder.invariant.read c.in-Some.symbol took.0 (rw c.in-Some.is at c.in_ok-symbol.ensures.reads) (sym c.if-not-is_dot.ensures) took.1 took.3 took.4 took.5);
      can = goes.0;
      finite = (goes.1 c.loop-builder.invariant.finite).0;
    }

pub loop-builder-preserved : goal.loop-builder-preserved
loop-builder-preserved g c =
    let read = rw c.in-Some.is at c.in_ok-symbol.ensures.reads in
    let given = subst (λ l. Yields g.C.Iterator.next_gives c.loop-builder.chars l c.from_chars.new.chars) (dot_spelled c.in-Some.symbol (sym c.if-not-is_dot.ensures)) read.1 in
    let goes = rw c.in-Some.is at c.in_ok-symbol.ensures.goes in
    record {
      read = subst (λ n. Taken g.C.Iterator.next_gives g.Octets.Builder.OctetsBuilder.room c.args.chars c.from_chars.new.chars n) (sym c.end_label.ensures)
          (taken_dot g.C.Iterator.next_gives g.Octets.Builder.OctetsBuilder.room c.args.chars c.loop-builder.chars c.from_chars.new.chars c.loop-builder.builder
          c.loop-builder.invariant.read given (open_some _ (c.if-in_label.ensures.0 refl)));
      can = goes.0;
      finite = (goes.1 c.loop-builder.invariant.finite).0;
    }

pub returns-then-not-is_empty : goal.returns-then-not-is_empty
returns-then-not-is_empty g c =
    let read = rw c.in-Some.is at c.in_ok-symbol.ensures.reads in
    let given = subst (λ l. Yields g.C.Iterator.next_gives c.loop-builder.chars l c.from_chars.new.chars) (dot_spelled c.in-Some.symbol (sym c.if-not-is_dot.ensures)) read.1 in
    let none = not_open _ c.if-in_label.ensures.1 in
    refused_dot g.C.Iterator.next_gives g.Octets.Builder.OctetsBuilder.room c.args.chars c.loop-builder.chars c.from_chars.new.chars c.loop-builder.builder
    c.loop-builder.invariant.read g.row.Octets.Denot given none (some_labels _ c.if-not-is_empty.ensures.1 none)

pub returns-then-is_some : goal.returns-then-is_some
returns-then-is_some g c =
    let read = rw c.in-Some.is at c.in_ok-symbol.ensures.reads in
    let given = subst (λ l. Yields g.C.Iterator.next_gives c.loop-builder.chars l c.from_chars.new.chars) (dot_spelled c.in-Some.symbol (sym c.if-not-is_dot.ensures)) read.1 in
    let none = not_open _ c.if-in_label.ensures.1 in
    let next = some_given g.C.Iterator.next_gives _ _ c.next.result c.next.ensures.steps c.if-is_some.ensures in
    refused_first g.C.Iterator.next_gives g.Octets.Builder.OctetsBuilder.room c.args.chars c.loop-builder.chars c.from_chars.new.chars c.loop-builder.builder
    c.loop-builder.invariant.read g.row.Octets.Denot next.0 c.next.new.self given next.1 none

pub returns-in-Some : goal.returns-in-Some
returns-in-Some g c =
    let read = rw c.in-Some.is at c.in_ok-symbol.ensures.reads in
    let given = subst (λ l. Yields g.C.Iterator.next_gives c.loop-builder.chars l c.from_chars.new.chars) (dot_spelled c.in-Some.symbol (sym c.if-not-is_dot.ensures)) read.1 in
    let none = not_open _ c.if-in_label.ensures.1 in
    let end = none_given g.C.Iterator.next_gives _ _ c.next.result c.next.ensures.steps c.if-is_some.ensures in
    read_root g.C.Iterator.next_gives g.Octets.Builder.OctetsBuilder.room c.args.chars c.loop-builder.chars c.from_chars.new.chars c.loop-builder.builder
    c.loop-builder.invariant.read g.row.Octets.Denot c.next.new.self c.absolute.result given end none
    (empty_labels _ (c.if-not-is_empty.ensures.0 refl)) c.absolute.ensures

pub returns : goal.returns
returns g c = read_end g.C.Iterator.next_gives g.Octets.Builder.OctetsBuilder.room c.args.chars c.loop-builder.chars c.from_chars.new.chars c.loop-builder.builder
    c.loop-builder.invariant.read g.row.Octets.Denot c.finish.result (rw c.in_default.is at c.in_ok-symbol.ensures.reads) c.finish.ensures
