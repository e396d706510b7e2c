use Rattle.std.proofs.Common.{refl, sym, ◌∙◌, inl, inr}
use Rattle.std.specs.Option.{option_copied}
use Rattle.rdata_svcb.proofs.KeySets.{keys_more}
use Rattle.rdata_svcb.specs.ParamValues.{NamesAKey}
use Rattle.rdata_svcb.proofs.Refusals.{apart_next}
use Rattle.rdata_svcb.proofs.KeyRefusals.{no_key_named, key_repeated}
use Rattle.rdata_svcb.proofs.values.read_keys.Goals as goal

pub loop-left-preserved : goal.loop-left-preserved
loop-left-preserved c =
    let split = c.split_first-split in let key = c.in-Some-key_from_text in
    keys_more c.args.text.now c.in-Some.rest.now split.result.before.now c.loop-left.keys c.insert.new.self (option_copied split.result.behind) key.key.code (rw c.in-Some.is at c.loop-left.invariant)
    split.ensures.without split.ensures.split (key.key.kind, key.ensures.0) key.ensures.1 (sym c.contains.ensures ∙ c.if-contains.false) c.insert.ensures

pub returns-in_default-key_from_text-clause-err : goal.returns-in_default-key_from_text-clause-err
returns-in_default-key_from_text-clause-err c =
    let split = c.split_first-split in
    let taken = rw c.in-Some.is at c.loop-left.invariant in
    let none = rw c.in_default-key_from_text.is at c.key_from_text.ensures in (
      (
        taken.keys,
        split.result.before.now,
        apart_next NamesAKey c.args.text.now c.in-Some.rest.now split.result.before.now taken.keys (option_copied split.result.behind) taken.taken split.ensures.without split.ensures.split,
        taken.once,
        inl (refl, λ key named. none key named.0 named.1),
      ),
      λ spelled s once. no_key_named c.args.text.now c.in-Some.rest.now split.result.before.now c.loop-left.keys (option_copied split.result.behind) spelled (rw c.in-Some.is at c.loop-left.invariant)
          split.ensures.without split.ensures.split (rw c.in_default-key_from_text.is at c.key_from_text.ensures) s,
    )

pub returns-then-contains-clause-err : goal.returns-then-contains-clause-err
returns-then-contains-clause-err c =
    let split = c.split_first-split in let key = c.in-Some-key_from_text in
    let taken = rw c.in-Some.is at c.loop-left.invariant in
    let present = sym c.contains.ensures ∙ c.if-contains.true in (
      (
        taken.keys,
        split.result.before.now,
        apart_next NamesAKey c.args.text.now c.in-Some.rest.now split.result.before.now taken.keys (option_copied split.result.behind) taken.taken split.ensures.without split.ensures.split,
        taken.once,
        inr (refl, (key.key.code, (key.key.kind, key.ensures.0), sym (taken.same key.key.code key.ensures.1) ∙ present)),
      ),
      λ spelled s once. key_repeated c.args.text.now c.in-Some.rest.now split.result.before.now c.loop-left.keys (option_copied split.result.behind) key.key.code spelled (rw c.in-Some.is at c.loop-left.invariant)
          split.ensures.without split.ensures.split (key.key.kind, key.ensures.0) key.ensures.1 (sym c.contains.ensures ∙ c.if-contains.true) s once,
    )
