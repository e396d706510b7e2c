use Rattle.std.proofs.Common.{length, sym, ap, ◌∙◌, arith, length-append}
use Rattle.std.proofs.lemmas.Bool.{eqb-true, eqb-false}
use Rattle.zone_record.proofs.KeyOrders.{key_none, key_behind}
use Rattle.zone_record.proofs.KeyRooms.{rest_room, label_room}
use Rattle.zone_record.proofs.NameWalks.{walked_none, walked_begins, rest_labels}
use Rattle.zone_record.proofs.order_key.+put_key_labels.Goals as goal

pub returns-then-is_empty : goal.returns-then-is_empty
returns-then-is_empty t c = λ labels h.
    key_none c.args.key.now.items c.args.octets.now labels h (eqb-true (length c.args.octets.now) 0 (sym c.is_empty.ensures ∙ c.if-is_empty.true))

pub split_label-first-requires : goal.split_label-first-requires
split_label-first-requires t c =
    walked_begins _ c.args.octets.now 0 (walked_none c.args.octets.now 0 c.requires.labels) (omega (arith, eqb-false (length c.args.octets.now) 0 (sym c.is_empty.ensures ∙ c.if-is_empty.false)))

pub put_key_labels-requires : goal.put_key_labels-requires
put_key_labels-requires t c = (
  omega (arith, c.decreases, ap length c.split_label-first.ensures, length-append c.split_label-first.result.label.now c.split_label-first.result.rest.now),
  (rest_labels c.args.octets.now _ _ c.requires.labels c.split_label-first.ensures, rest_room c.args.octets.now c.args.key.now.items _ _ c.requires.room c.split_label-first.ensures),
)

pub put_key_label-requires : goal.put_key_label-requires
put_key_label-requires t c = label_room c.args.octets.now c.args.key.now.items _ _ _ c.requires.labels c.requires.room c.split_label-first.ensures c.put_key_labels.ensures

pub returns : goal.returns
returns t c =
    key_behind c.args.key.now.items c.put_key_labels.new.key.items _ c.split_label-first.result.label.now c.split_label-first.result.rest.now c.args.octets.now
    c.split_label-first.ensures c.put_key_labels.ensures c.put_key_label.ensures
