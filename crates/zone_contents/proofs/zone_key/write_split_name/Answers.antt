use Rattle.std.proofs.Common.{[], ◌++◌, length, refl, sym, ap, subst, append-nil, ◌≡◌, ◌∷◌, ◌∙◌, arith}
use Rattle.std.proofs.lemmas.Bool.{eqb-true}
use Rattle.std.proofs.lemmas.List.{nil_from_length}
use Rattle.zone_record.specs.KeyNames.{key_name}
use Rattle.dns_wire.specs.Wire.{wire}
use Rattle.zone_contents.specs.Keys.{name_octets, IsNameKey}
use Rattle.zone_contents.proofs.ZoneNames.{within_labels, within_octets, within_room}
use Rattle.zone_contents.proofs.zone_key.write_split_name.Goals as goal

pub write_name-requires : goal.write_name-requires
write_name-requires c =
    let none : c.args.second.now ≡ [] = nil_from_length c.args.second.now (eqb-true (length c.args.second.now) 0 (sym c.is_empty.ensures ∙ c.if-is_empty.true)) in
    subst (IsNameKey c.args.apex.now) (ap (λ s. c.args.first.now ++ s) none ∙ append-nil c.args.first.now) c.requires

pub returns-then-is_empty : goal.returns-then-is_empty
returns-then-is_empty c =
    let none : c.args.second.now ≡ [] = nil_from_length c.args.second.now (eqb-true (length c.args.second.now) 0 (sym c.is_empty.ensures ∙ c.if-is_empty.true)) in
    λ _. c.write_name.ensures ∙ ap (name_octets c.args.apex.now) (sym (ap (λ s. c.args.first.now ++ s) none ∙ append-nil c.args.first.now))

pub push_split_labels-requires-clause-labels : goal.push_split_labels-requires-clause-labels
push_split_labels-requires-clause-labels c =
    let rest = c.in-Some.first.now ++ c.args.second.now in
    let split : c.args.first.now ++ c.args.second.now ≡ c.in-Some.mark.now ∷ rest = ap (λ f. f ++ c.args.second.now) c.in-Some.ensures.cases.0 in
    within_labels c.args.apex.now (c.args.first.now ++ c.args.second.now) c.requires c.in-Some.mark.now rest split c.if-mark-ne-WITHIN.false

pub push_split_labels-requires-clause-room : goal.push_split_labels-requires-clause-room
push_split_labels-requires-clause-room c =
    let rest = c.in-Some.first.now ++ c.args.second.now in
    let split : c.args.first.now ++ c.args.second.now ≡ c.in-Some.mark.now ∷ rest = ap (λ f. f ++ c.args.second.now) c.in-Some.ensures.cases.0 in
    omega (arith, within_room c.args.apex.now (c.args.first.now ++ c.args.second.now) c.requires c.in-Some.mark.now rest split c.if-mark-ne-WITHIN.false c.octets-octets.ensures.lower, ap length c.clear.ensures)

pub append-requires : goal.append-requires
append-requires c =
    let rest = c.in-Some.first.now ++ c.args.second.now in
    let split : c.args.first.now ++ c.args.second.now ≡ c.in-Some.mark.now ∷ rest = ap (λ f. f ++ c.args.second.now) c.in-Some.ensures.cases.0 in
    omega (
      arith,
      within_room c.args.apex.now (c.args.first.now ++ c.args.second.now) c.requires c.in-Some.mark.now rest split c.if-mark-ne-WITHIN.false c.octets-octets.ensures.lower,
      ap length (c.if-not-push_split_labels.ensures.pushed refl ∙ ap (λ l. l ++ wire (key_name rest)) c.clear.ensures),
      ap length c.octets-octets.ensures.value,
    )

pub returns : goal.returns
returns c =
    let rest = c.in-Some.first.now ++ c.args.second.now in
    let split : c.args.first.now ++ c.args.second.now ≡ c.in-Some.mark.now ∷ rest = ap (λ f. f ++ c.args.second.now) c.in-Some.ensures.cases.0 in
    λ _. c.append.ensures
    ∙ (λ i. (c.if-not-push_split_labels.ensures.pushed refl ∙ ap (λ l. l ++ wire (key_name rest)) c.clear.ensures) i ++ c.octets-octets.ensures.value i)
    ∙ within_octets c.args.apex.now (c.args.first.now ++ c.args.second.now) c.requires c.in-Some.mark.now rest split c.if-mark-ne-WITHIN.false c.octets-octets.ensures.lower
