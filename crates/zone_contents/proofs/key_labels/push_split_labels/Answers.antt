use Rattle.std.proofs.Common.{length, refl, sym, ap, subst, ◌≡◌, ◌∙◌, arith, append_assoc, length-append, ◌++◌}
use Rattle.std.proofs.lemmas.Bool.{eqb-false}
use Rattle.dns_wire.specs.Wire.{wire, wire_label}
use Rattle.zone_record.specs.KeyNames.{key_name, after_in_key, first_in_key, AreKeyLabels}
use Rattle.zone_record.proofs.KeyNames.{split_key}
use Rattle.zone_contents.proofs.KeyLabels.{plain_after, plain_first}
use Rattle.zone_contents.proofs.key_labels.push_split_labels.Goals as goal

pub push_labels-requires-clause-labels : goal.push_labels-requires-clause-labels
push_labels-requires-clause-labels c =
    let first = c.args.first.now in
    let second = c.args.second.now in
    let key = first ++ second in
    let s = split_key key c.requires.labels (omega (arith, length-append first second, eqb-false (length first) 0 (sym c.is_empty.ensures ∙ c.if-is_empty.false))) in
    let rest : c.in-Some.rest.now ≡ after_in_key key = c.in-Some.ensures.rest ∙ sym (plain_after first second (c.if-not-is_plain.ensures refl)) in
    subst AreKeyLabels (sym rest) s.rest_labels

pub push_labels-requires-clause-room : goal.push_labels-requires-clause-room
push_labels-requires-clause-room c =
    let first = c.args.first.now in
    let second = c.args.second.now in
    let key = first ++ second in
    let s = split_key key c.requires.labels (omega (arith, length-append first second, eqb-false (length first) 0 (sym c.is_empty.ensures ∙ c.if-is_empty.false))) in
    let rest : c.in-Some.rest.now ≡ after_in_key key = c.in-Some.ensures.rest ∙ sym (plain_after first second (c.if-not-is_plain.ensures refl)) in
    omega (arith, c.requires.room, ap length s.name_is, length-append (wire (key_name (after_in_key key))) (wire_label (first_in_key key)), ap (λ r. length (wire (key_name r))) rest)

pub push_joined-requires-clause-short : goal.push_joined-requires-clause-short
push_joined-requires-clause-short c =
    let first = c.args.first.now in
    let second = c.args.second.now in
    let key = first ++ second in
    let s = split_key key c.requires.labels (omega (arith, length-append first second, eqb-false (length first) 0 (sym c.is_empty.ensures ∙ c.if-is_empty.false))) in
    let part : first ++ c.in-Some.label.now ≡ first_in_key key = ap (λ l. first ++ l) c.in-Some.ensures.label ∙ sym (plain_first first second (c.if-not-is_plain.ensures refl)) in
    omega (arith, s.short, ap length part, length-append first c.in-Some.label.now)

pub push_joined-requires-clause-room : goal.push_joined-requires-clause-room
push_joined-requires-clause-room c =
    let first = c.args.first.now in
    let second = c.args.second.now in
    let key = first ++ second in
    let name = c.args.name.now.items in
    let s = split_key key c.requires.labels (omega (arith, length-append first second, eqb-false (length first) 0 (sym c.is_empty.ensures ∙ c.if-is_empty.false))) in
    let rest : c.in-Some.rest.now ≡ after_in_key key = c.in-Some.ensures.rest ∙ sym (plain_after first second (c.if-not-is_plain.ensures refl)) in
    let part : first ++ c.in-Some.label.now ≡ first_in_key key = ap (λ l. first ++ l) c.in-Some.ensures.label ∙ sym (plain_first first second (c.if-not-is_plain.ensures refl)) in
    let before : c.push_labels.new.name.items ≡ name ++ wire (key_name (after_in_key key)) = c.push_labels.ensures ∙ ap (λ r. name ++ wire (key_name r)) rest in
    omega (
      arith,
      c.requires.room,
      ap length s.name_is,
      length-append (wire (key_name (after_in_key key))) (wire_label (first_in_key key)),
      ap length before,
      length-append name (wire (key_name (after_in_key key))),
      ap length part,
    )

pub returns-in-Some-clause-pushed : goal.returns-in-Some-clause-pushed
returns-in-Some-clause-pushed c =
    let first = c.args.first.now in
    let second = c.args.second.now in
    let key = first ++ second in
    let name = c.args.name.now.items in
    let s = split_key key c.requires.labels (omega (arith, length-append first second, eqb-false (length first) 0 (sym c.is_empty.ensures ∙ c.if-is_empty.false))) in
    let rest : c.in-Some.rest.now ≡ after_in_key key = c.in-Some.ensures.rest ∙ sym (plain_after first second (c.if-not-is_plain.ensures refl)) in
    let part : first ++ c.in-Some.label.now ≡ first_in_key key = ap (λ l. first ++ l) c.in-Some.ensures.label ∙ sym (plain_first first second (c.if-not-is_plain.ensures refl)) in
    let before : c.push_labels.new.name.items ≡ name ++ wire (key_name (after_in_key key)) = c.push_labels.ensures ∙ ap (λ r. name ++ wire (key_name r)) rest in
    λ _. c.push_joined.ensures ∙ (λ i. before i ++ wire_label (part i)) ∙ append_assoc name (wire (key_name (after_in_key key))) (wire_label (first_in_key key)) ∙ ap (λ o. name ++ o) (sym s.name_is)
