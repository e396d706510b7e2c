use Rattle.std.proofs.Common.{refl, ◌∙◌, sym, ap}
use Rattle.std.proofs.lemmas.Result.{err_from_is_err_and}
use Rattle.rdata_fields.proofs.Tokens.{none_left}
use Rattle.rdata.proofs.Joinings.{none_joined, more_joined, all_joined, push_refused, ends_within}
use Rattle.rdata.proofs.Sources.{some_left}
use Rattle.rdata.proofs.digits.parse_digits.Goals as goal

pub loop-reader-init : goal.loop-reader-init
loop-reader-init g c = record { joined = (c.new-reader.result, c.new-reader.ensures.kind, c.new-reader.ensures.read, none_joined _ _ _); end = refl }

pub returns-in_err-push_next-clause-takes : goal.returns-in_err-push_next-clause-takes
returns-in_err-push_next-clause-takes g c =
    let p = err_from_is_err_and c.from_residual.result c.from_residual.ensures.1 in
    let j = c.loop-reader.invariant.joined in
    let some = some_left c.current.result (g.S.TokenSource.left c.loop-reader.source) c.current.ensures (sym c.is_some.ensures ∙ c.loop-reader-test.true) in
    rw (p.1, p.2) (push_refused c.args.kind j.0 c.loop-reader.reader j.1 j.2 _ _ _ _ j.3 g.B.OctetsBuilder.room _ _ _ _ c.in_err-push_next.field-0.0 (ap (λ e. e.at) c.loop-reader.invariant.end) some c.in_err-push_next.ensures.pushes)

pub loop-reader-preserved : goal.loop-reader-preserved
loop-reader-preserved g c =
    let j = c.loop-reader.invariant.joined in
    record {
      joined = (j.0, j.1, j.2, more_joined j.0 _ _ _ _ _ _ _ _ j.3 c.in_ok-push_next.ensures.pushes);
      end = c.push_next.ensures.end ∙ c.loop-reader.invariant.end;
    }

pub returns-in-Err-clause-takes : goal.returns-in-Err-clause-takes
returns-in-Err-clause-takes g c =
    let j = c.loop-reader.invariant.joined in
    let none = none_left c.current.result (g.S.TokenSource.left c.loop-reader.source) c.current.ensures (sym c.is_some.ensures ∙ c.loop-reader-test.false) in
    rw c.at.ensures (ends_within c.args.kind j.0 c.loop-reader.reader j.1 j.2 _ _ _ _ j.3 g.B.OctetsBuilder.room _ _ c.place.result c.in-Err.why (ap (λ e. e.at) c.loop-reader.invariant.end) none c.place.ensures
    c.in-Err.ensures.begun.1 c.in-Err.ensures.whole)

pub returns-clause-takes : goal.returns-clause-takes
returns-clause-takes g c =
    let j = c.loop-reader.invariant.joined in
    let none = none_left c.current.result (g.S.TokenSource.left c.loop-reader.source) c.current.ensures (sym c.is_some.ensures ∙ c.loop-reader-test.false) in
    (none, all_joined c.args.kind j.0 c.loop-reader.reader j.1 j.2 _ _ _ _ j.3 none c.in_default.ensures.whole)
