use Rattle.std.proofs.Common.{length, sym, ap, subst, ◌≡◌, ◌≤◌, ◌∙◌, arith, append_assoc, length-append, ◌++◌}
use Rattle.std.proofs.lemmas.Bool.{eqb-false}
use Rattle.dns_wire.specs.Limits.{max_label}
use Rattle.dns_wire.specs.Wire.{wire, wire_label}
use Rattle.zone_record.specs.KeyNames.{key_name, after_in_key, first_in_key}
use Rattle.zone_record.proofs.KeyNames.{split_key}
use Rattle.zone_contents.proofs.key_labels.+push_labels.Goals as goal

pub push_labels-requires : goal.push_labels-requires
push_labels-requires t c =
    let key = c.args.key.now in
    let s = split_key key c.requires.labels (omega (arith, eqb-false (length key) 0 (sym c.is_empty.ensures ∙ c.if-is_empty.false))) in
    let rest : c.in-Some.rest.now ≡ after_in_key key = c.in-Some.ensures.rest in (
      omega (arith, c.decreases, s.less, ap length rest),
      (
        (s.rest_labels.0, rest ∙ s.rest_labels.1, s.rest_labels.2),
        omega (arith, c.requires.room, ap length s.name_is, length-append (wire (key_name (after_in_key key))) (wire_label (first_in_key key)), ap (λ r. length (wire (key_name r))) rest),
      ),
    )

pub push_label-requires-clause-short : goal.push_label-requires-clause-short
push_label-requires-clause-short t c =
    let key = c.args.key.now in
    let s = split_key key c.requires.labels (omega (arith, eqb-false (length key) 0 (sym c.is_empty.ensures ∙ c.if-is_empty.false))) in
    let part : c.in-Some.label.now ≡ first_in_key key = c.in-Some.ensures.label in
    subst (λ l. length l ≤ max_label) (sym part) s.short

pub push_label-requires-clause-room : goal.push_label-requires-clause-room
push_label-requires-clause-room t c =
    let key = c.args.key.now in
    let name = c.args.name.now.items in
    let s = split_key key c.requires.labels (omega (arith, eqb-false (length key) 0 (sym c.is_empty.ensures ∙ c.if-is_empty.false))) in
    let part : c.in-Some.label.now ≡ first_in_key key = c.in-Some.ensures.label in
    let before : c.push_labels.new.name.items ≡ name ++ wire (key_name (after_in_key key)) = c.push_labels.ensures ∙ ap (λ r. name ++ wire (key_name r)) c.in-Some.ensures.rest in
    omega (
      arith,
      c.requires.room,
      ap length s.name_is,
      length-append (wire (key_name (after_in_key key))) (wire_label (first_in_key key)),
      ap length before,
      length-append name (wire (key_name (after_in_key key))),
      ap length part,
    )

pub returns-in-Some : goal.returns-in-Some
returns-in-Some t c =
    let key = c.args.key.now in
    let name = c.args.name.now.items in
    let s = split_key key c.requires.labels (omega (arith, eqb-false (length key) 0 (sym c.is_empty.ensures ∙ c.if-is_empty.false))) in
    let part : c.in-Some.label.now ≡ first_in_key key = c.in-Some.ensures.label in
    let before : c.push_labels.new.name.items ≡ name ++ wire (key_name (after_in_key key)) = c.push_labels.ensures ∙ ap (λ r. name ++ wire (key_name r)) c.in-Some.ensures.rest in
    c.push_label.ensures ∙ (λ i. before i ++ wire_label (part i)) ∙ append_assoc name (wire (key_name (after_in_key key))) (wire_label (first_in_key key)) ∙ ap (λ o. name ++ o) (sym s.name_is)
