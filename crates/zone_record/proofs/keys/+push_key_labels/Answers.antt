use Rattle.std.proofs.Common.{length, sym, ap, ◌∙◌, arith, length-append}
use Rattle.std.proofs.lemmas.Bool.{eqb-true, eqb-false}
use Rattle.std.proofs.lemmas.Result.{on_ok_weaker, on_err_weaker}
use Rattle.zone_record.proofs.KeyOrders.{extends_behind, key_none, key_behind, labels_behind}
use Rattle.zone_record.proofs.NameWalks.{walked_none, walked_begins, rest_labels}
use Rattle.zone_record.proofs.keys.+push_key_labels.Goals as goal

pub returns-then-is_empty-clause-ok : goal.returns-then-is_empty-clause-ok
returns-then-is_empty-clause-ok g t c = λ labels h.
    key_none c.args.key.now.items c.args.octets.now labels h (eqb-true (length c.args.octets.now) 0 (sym c.is_empty.ensures ∙ c.if-is_empty.true))

pub split_label-first-requires : goal.split_label-first-requires
split_label-first-requires g t c =
    walked_begins _ c.args.octets.now 0 (walked_none c.args.octets.now 0 c.requires) (omega (arith, eqb-false (length c.args.octets.now) 0 (sym c.is_empty.ensures ∙ c.if-is_empty.false)))

pub push_key_labels-requires : goal.push_key_labels-requires
push_key_labels-requires g t c κs within = (
  omega (arith, c.decreases, ap length c.split_label-first.ensures, length-append c.split_label-first.result.label.now c.split_label-first.result.rest.now),
  (within, rest_labels c.args.octets.now _ _ c.requires c.split_label-first.ensures),
)

pub returns-clause-ok : goal.returns-clause-ok
returns-clause-ok g t c =
    on_ok_weaker c.push_key_label.result (λ e. key_behind c.args.key.now.items c.push_key_labels.new.key.items _ c.split_label-first.result.label.now c.split_label-first.result.rest.now c.args.octets.now
    c.split_label-first.ensures c.in_ok-push_key_labels.ensures.ok e) c.push_key_label.ensures.ok

pub returns-clause-err : goal.returns-clause-err
returns-clause-err g t c =
    on_err_weaker c.push_key_label.result (extends_behind c.args.key.now.items _ c.push_key_labels.new.key.items _ (labels_behind c.args.octets.now c.split_label-first.result.label.now c.split_label-first.result.rest.now c.args.key.now.items _ c.requires c.split_label-first.ensures c.in_ok-push_key_labels.ensures.ok))
    c.push_key_label.ensures.err
