use Rattle.std.proofs.Common.{length, ◌≡◌, ◌∷◌, ap, arith}
use Rattle.zone_record.proofs.KeyNames.{split_single}
use Rattle.zone_record.proofs.key_names.+split_label.Goals as goal

pub split_label-requires : goal.split_label-requires
split_label-requires t c =
    let key : c.args.key.now ≡ c.in-Some.first.now ∷ c.in-Some.after.now = c.in-Some.ensures.cases.0 in
    let first = split_single c.args.key.now c.in-Some.first.now c.in-Some.after.now key (omega (arith, c.if-first-eq0.false, c.if-first-ne1.true)) in
    (omega (arith, c.decreases, ap length key), omega (arith, c.requires, ap length first, c.push.ensures.len))
