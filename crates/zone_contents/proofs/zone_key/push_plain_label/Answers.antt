use Rattle.std.proofs.Common.{◌≡◌, ◌++◌, length, take, refl, ap, ◌∙◌, arith, length-append, [], ◌∷◌}
use Rattle.dns_octets.specs.Lowered.{lowered}
use Rattle.zone_contents.proofs.WithinKeys.{lowered_part, plain_label}
use Rattle.zone_contents.proofs.zone_key.push_plain_label.Goals as goal

pub push_ended-requires : goal.push_ended-requires
push_ended-requires c =
    let label = c.args.label.now in
    let block = c.make_ascii_lowercase.new.self in
    let part : take (length label) block ≡ lowered label = lowered_part label c.padded-block.result block c.padded-block.ensures c.make_ascii_lowercase.ensures.after in
    omega (arith, c.requires.room, ap length (plain_label label block part (c.if-not-is_plain.ensures refl)), length-append (take (length label) block) (0 ∷ []))

pub returns : goal.returns
returns c = λ _.
    let label = c.args.label.now in
    let block = c.make_ascii_lowercase.new.self in
    let part : take (length label) block ≡ lowered label = lowered_part label c.padded-block.result block c.padded-block.ensures c.make_ascii_lowercase.ensures.after in
    c.push_ended.ensures ∙ ap (λ l. c.args.key.now.items ++ l) (plain_label label block part (c.if-not-is_plain.ensures refl))
