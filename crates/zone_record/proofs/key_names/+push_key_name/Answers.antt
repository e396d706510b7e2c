use Rattle.std.proofs.Common.{length, sym, ap, ◌≡◌, ◌<◌, ◌∙◌, arith, append_assoc, length-append, ◌++◌}
use Rattle.std.proofs.lemmas.Bool.{eqb-true, eqb-false}
use Rattle.dns_wire.specs.Wire.{wire, wire_label}
use Rattle.zone_record.specs.KeyNames.{key_name, after_in_key, first_in_key}
use Rattle.zone_record.proofs.KeyNames.{split_key, no_key}
use Rattle.zone_record.proofs.key_names.+push_key_name.Goals as goal

pub returns-then-is_empty : goal.returns-then-is_empty
returns-then-is_empty t c = no_key c.args.key.now c.args.name.now.items (eqb-true (length c.args.key.now) 0 (sym c.is_empty.ensures ∙ c.if-is_empty.true))

pub split_label-rest-requires : goal.split_label-rest-requires
split_label-rest-requires t c =
    let s = split_key c.args.key.now c.requires.labels (omega (arith, eqb-false (length c.args.key.now) 0 (sym c.is_empty.ensures ∙ c.if-is_empty.false))) in
    omega (arith, ap length c.new-label.ensures, s.short)

pub push_key_name-requires : goal.push_key_name-requires
push_key_name-requires t c =
    let key = c.args.key.now in
    let s = split_key key c.requires.labels (omega (arith, eqb-false (length key) 0 (sym c.is_empty.ensures ∙ c.if-is_empty.false))) in
    let rest : c.split_label-rest.result.now ≡ after_in_key key = c.split_label-rest.ensures.rest in (
      omega (arith, c.decreases, s.less, ap length rest),
      (
        (s.rest_labels.0, rest ∙ s.rest_labels.1, s.rest_labels.2),
        omega (arith, c.requires.room, ap length s.name_is, length-append (wire (key_name (after_in_key key))) (wire_label (first_in_key key)), ap (λ r. length (wire (key_name r))) rest),
      ),
    )

pub push_label-requires-clause-room : goal.push_label-requires-clause-room
push_label-requires-clause-room t c =
    let key = c.args.key.now in
    let name = c.args.name.now.items in
    let s = split_key key c.requires.labels (omega (arith, eqb-false (length key) 0 (sym c.is_empty.ensures ∙ c.if-is_empty.false))) in
    let part : c.as_slice.result.now ≡ first_in_key key = c.as_slice.ensures.value ∙ c.split_label-rest.ensures.label ∙ ap (λ l. l ++ first_in_key key) c.new-label.ensures in
    let before : c.push_key_name.new.name.items ≡ name ++ wire (key_name (after_in_key key)) = c.push_key_name.ensures ∙ ap (λ r. name ++ wire (key_name r)) c.split_label-rest.ensures.rest in
    omega (
      arith,
      c.requires.room,
      ap length s.name_is,
      length-append (wire (key_name (after_in_key key))) (wire_label (first_in_key key)),
      ap length before,
      length-append name (wire (key_name (after_in_key key))),
      ap length part,
    )

pub returns : goal.returns
returns t c =
    let key = c.args.key.now in
    let name = c.args.name.now.items in
    let s = split_key key c.requires.labels (omega (arith, eqb-false (length key) 0 (sym c.is_empty.ensures ∙ c.if-is_empty.false))) in
    let part : c.as_slice.result.now ≡ first_in_key key = c.as_slice.ensures.value ∙ c.split_label-rest.ensures.label ∙ ap (λ l. l ++ first_in_key key) c.new-label.ensures in
    let before : c.push_key_name.new.name.items ≡ name ++ wire (key_name (after_in_key key)) = c.push_key_name.ensures ∙ ap (λ r. name ++ wire (key_name r)) c.split_label-rest.ensures.rest in
    c.push_label.ensures ∙ (λ i. before i ++ wire_label (part i)) ∙ append_assoc name (wire (key_name (after_in_key key))) (wire_label (first_in_key key)) ∙ ap (λ o. name ++ o) (sym s.name_is)
