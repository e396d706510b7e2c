use Rattle.std.proofs.Common.{length, refl, inl, inr, sym}
use Rattle.std.proofs.lemmas.Bool.{eqb-false}
use Rattle.std.specs.Option.{option_copied}
use Rattle.rdata_svcb.proofs.Fronts.{names_no_key, alone_closed, valued_closed}
use Rattle.rdata_svcb.proofs.parsing.read_word.Goals as goal

pub returns-in_default-clause-err : goal.returns-in_default-clause-err
returns-in_default-clause-err c =
    let s = c.split_first-split in
    let none = names_no_key c.args.token.now.text.now s.result.before.now (option_copied s.result.behind) s.ensures.without s.ensures.split c.in_default.ensures in
    (inr (inr (refl, (c.if-token-2.false, c.if-token.false), none)), λ name value apart split key kind names. none name value split key kind names)

pub returns-in_default-behind-clause-ok : goal.returns-in_default-behind-clause-ok
returns-in_default-behind-clause-ok c =
    let s = c.split_first-split in
    let is = rw c.in_default-behind.is at s.ensures.split in (
      (c.if-token-2.false, c.if-token.false),
      (s.result.before.now, c.in-Some.ensures.0, c.in-Some.ensures.1, ((s.ensures.without, inl (is, refl)), alone_closed c.args.token.now.text.now s.result.before.now s.ensures.without is)),
    )

pub returns-clause-ok : goal.returns-clause-ok
returns-clause-ok c =
    let s = c.split_first-split in
    let is = rw c.in-Some-behind.is at s.ensures.split in
    let value = c.in-Some-behind.value.now in (
      (c.if-token-2.false, c.if-token.false),
      (
        s.result.before.now,
        c.in-Some.ensures.0,
        c.in-Some.ensures.1,
        ((s.ensures.without, inr is), valued_closed c.args.token.now.text.now s.result.before.now value s.ensures.without is (eqb-false (length value) 0 (sym c.if-is_empty.ensures))),
      ),
    )
