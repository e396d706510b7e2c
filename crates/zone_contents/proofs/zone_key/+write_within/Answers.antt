use Rattle.std.proofs.Common.{[], ◌∷◌, ◌++◌, length, refl, sym, ap, subst, ◌∙◌, arith, length-append}
use Rattle.zone_contents.specs.Keys.{IsKeyWithin}
use Rattle.zone_contents.proofs.WithinKeys.{at_apex, begins_with_label, below_apex, label_room, name_some, rest_name, short_label}
use Rattle.zone_contents.proofs.zone_key.+write_within.Goals as goal

pub returns-then-octets-top : goal.returns-then-octets-top
returns-then-octets-top t c = λ _.
    subst (IsKeyWithin c.args.apex.now c.args.octets.now) (sym (c.push.ensures.items ∙ ap (λ k. k ++ 1 ∷ []) c.requires.empty))
    (at_apex c.args.apex.now c.args.octets.now c.octets-top.result.now c.requires.is_name c.octets-top.ensures.is_name c.octets-top.ensures.value (sym c.if-not-are_alike.ensures))

pub split_label-requires : goal.split_label-requires
split_label-requires t c =
    begins_with_label c.args.octets.now c.requires.is_name (omega (arith, c.if-octets-top.false))

pub write_within-requires : goal.write_within-requires
write_within-requires t c = (
  omega (arith, c.decreases, ap length c.split_label.ensures, length-append c.split_label.result.0.now c.split_label.result.1.now),
  (
    c.requires.empty,
    rest_name c.args.octets.now c.requires.is_name c.split_label.result.0.now c.split_label.result.1.now c.split_label.ensures
        (omega (arith, c.if-octets-top.false, name_some c.octets-top.result.now c.octets-top.ensures.is_name)),
  ),
)

pub push_plain_label-requires-clause-short : goal.push_plain_label-requires-clause-short
push_plain_label-requires-clause-short t c = short_label c.args.octets.now c.requires.is_name _ _ c.split_label.ensures

pub push_plain_label-requires-clause-room : goal.push_plain_label-requires-clause-room
push_plain_label-requires-clause-room t c =
    label_room c.args.octets.now c.requires.is_name _ _ c.split_label.ensures c.args.apex.now c.write_within.new.key.items (c.if-not-write_within.ensures refl)

pub returns : goal.returns
returns t c = λ yes.
    below_apex c.args.apex.now c.args.octets.now _ _ _ _ c.split_label.ensures (c.if-not-write_within.ensures refl) (c.push_plain_label.ensures yes)
