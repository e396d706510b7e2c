use Rattle.std.proofs.Common.{rules, ◌≡◌, ◌≤◌, [], sym, subst, refl, drop, length, arith}
use Rattle.dns_name.specs.Reading.{HasNamed}
use Rattle.dns_name.proofs.Taking.{empty_labels, not_open, open_some, some_labels}
use Rattle.c_calls.proofs.Leading.{nothing_left}
use Rattle.c_calls.proofs.NameText.{named_more, named_ended, dot_stands, read_lone, read_end, name_stops, some_left}
use Rattle.c_calls.proofs.names.read_name.Goals as goal
use Rattle.c_calls.proofs.names.read_name.Goals.{else-is_empty-via-then-is_empty+else-after-text, else-is_empty-via-else-is_empty}

pub returns-in-Err : goal.returns-in-Err
returns-in-Err c =
    let found = rw c.in-Some.is at c.in_ok-symbol.ensures.reads in
    let refused = rw c.in-Err.is at c.push_symbol.ensures in
    let h = c.loop-symbol.invariant.named in (
      c.loop-symbol.builder.labels,
      c.loop-symbol.builder.current,
      h,
      c.loop-symbol.invariant.within,
      name_stops _ c.loop-symbol.builder c.push_symbol.new.builder _ _ _ _ h found (sym c.if-not-is_dot.ensures) refused,
    )

pub returns-then-after-text : goal.returns-then-after-text
returns-then-after-text c =
    let found = rw c.in-Some.is at c.in_ok-symbol.ensures.reads in
    let whole : length c.args.text.now ≤ c.in-Some.after = omega (arith, c.if-after-text.true) in
    read_lone _ c.loop-symbol.builder _ _ _ _ c.loop-symbol.invariant.named found (sym c.if-not-is_dot.ensures) (nothing_left _ _ whole)
    (not_open _ c.if-in_label.ensures.1) (empty_labels _ (c.if-is_empty.ensures.0 refl)) c.absolute.ensures

pub returns-else-is_empty : goal.returns-else-is_empty
returns-else-is_empty c =
    let found = rw c.in-Some.is at c.in_ok-symbol.ensures.reads in
    let goes = rw c.in-Some.is at c.in_ok-symbol.ensures.goes in
    let none = not_open _ c.if-in_label.ensures.1 in
    let dot = dot_stands _ _ _ _ found (sym c.if-not-is_dot.ensures) in
    let left : c.loop-symbol.builder.labels ≡ [] → drop c.in-Some.after c.args.text.now ≡ [] → ⊥ = elim c.else-is_empty.branch [
      | else-is_empty-via-then-is_empty+else-after-text w ↦ λ nothing. some_left _ _ goes.1 w.if-after-text.false
      | else-is_empty-via-else-is_empty w ↦ λ nothing. absurd (some_labels _ w.if-is_empty.ensures.1 none nothing)
    ] in
    (c.loop-symbol.builder.labels, c.loop-symbol.builder.current, c.loop-symbol.invariant.named, c.loop-symbol.invariant.within, (none, drop c.in-Some.after c.args.text.now, dot, left))

pub loop-symbol-preserved-in-Ok : goal.loop-symbol-preserved-in-Ok
loop-symbol-preserved-in-Ok c =
    let found = rw c.in-Some.is at c.in_ok-symbol.ensures.reads in
    let took = rw c.in-Ok.is at c.push_symbol.ensures in
    record {
      named = subst (λ n. HasNamed c.args.text.now n.labels n.current (drop c.in-Some.after c.args.text.now)) (sym took.2)
          (named_more _ c.loop-symbol.builder _ _ _ _ c.loop-symbol.invariant.named found (sym c.if-not-is_dot.ensures) took.1 took.3 took.4);
      within = search rules;
    }

pub loop-symbol-preserved : goal.loop-symbol-preserved
loop-symbol-preserved c =
    let found = rw c.in-Some.is at c.in_ok-symbol.ensures.reads in
    record {
      named = subst (λ n. HasNamed c.args.text.now n.labels n.current (drop c.in-Some.after c.args.text.now)) (sym c.end_label.ensures)
          (named_ended _ c.loop-symbol.builder _ _ _ c.loop-symbol.invariant.named found (sym c.if-not-is_dot.ensures) (open_some _ (c.if-in_label.ensures.0 refl)));
      within = search rules;
    }

pub returns : goal.returns
returns c =
    read_end _ c.loop-symbol.builder _ _ c.loop-symbol.invariant.named (nothing_left _ _ (rw c.in_default.is at c.in_ok-symbol.ensures.reads)) c.finish.ensures.relative c.finish.ensures.absolute
