use Rattle.std.proofs.Common.{◌+◌, ◌<◌, ◌≤◌, ap, subst, inl}
use Rattle.std.specs.Option.{option_copied}
use Rattle.std.proofs.lemmas.Result.{err_from_is_err_and}
use Rattle.dns_wire.specs.Wire.{wire_length}
use Rattle.rdata_tokens.proofs.NameAnswers.{root_spelled, origin_spelled, absolute_ended, relative_ended, ended_gained, ended_lacks, alone, labels_refused, origin_lacking, labels_relative, long_refused}
use Rattle.rdata_tokens.proofs.names.append_name.Goals as goal

pub returns-then-is_lone-clause-ok : goal.returns-then-is_lone-clause-ok
returns-then-is_lone-clause-ok g c =
    let origin = option_copied c.args.origin in
    ended_gained origin c.args.text.now _ _ _ _ (alone origin c.args.text.now _ _ (root_spelled origin c.args.text.now c.if-is_lone.ensures)) c.in_ok-append_slice.ensures.ok

pub returns-in_err-append_slice-clause-err : goal.returns-in_err-append_slice-clause-err
returns-in_err-append_slice-clause-err g c =
    let p = err_from_is_err_and c.from_residual.result c.from_residual.ensures.1 in
    let origin = option_copied c.args.origin in
    rw (p.1, p.2) (ended_lacks g.B.OctetsBuilder.room origin c.args.text.now _ _ _ (alone origin c.args.text.now _ _ (root_spelled origin c.args.text.now c.if-is_lone.ensures)) c.in_err-append_slice.ensures.fits)

pub returns-in_default-clause-err : goal.returns-in_default-clause-err
returns-in_default-clause-err g c =
    origin_lacking g.B.OctetsBuilder.room (option_copied c.args.origin) c.args.text.now _ (ap option_copied c.in_default.is) (inl c.if-is_lone-2.ensures)

pub returns-in_err-append_slice-2-clause-err : goal.returns-in_err-append_slice-2-clause-err
returns-in_err-append_slice-2-clause-err g c =
    let p = err_from_is_err_and c.from_residual-in_err-append_slice-2.result c.from_residual-in_err-append_slice-2.ensures.1 in
    let origin = option_copied c.args.origin in
    let slice = c.as_slice.ensures in
    rw (p.1, p.2) (ended_lacks g.B.OctetsBuilder.room origin c.args.text.now _ _ _
    (alone origin c.args.text.now _ _ (origin_spelled origin c.args.text.now _ _ c.if-is_lone-2.ensures (ap option_copied c.in-Some.is) slice.value slice.is_name slice.absolute))
    c.in_err-append_slice-2.ensures.fits)

pub returns-in_err-labels-clause-err : goal.returns-in_err-labels-clause-err
returns-in_err-labels-clause-err g c =
    let p = err_from_is_err_and c.from_residual-in_err-labels.result c.from_residual-in_err-labels.ensures.1 in
    rw (p.1, p.2) (labels_refused g.B.OctetsBuilder.room (option_copied c.args.origin) c.args.text.now _ _ c.if-is_lone.ensures c.if-is_lone-2.ensures c.in_err-labels.ensures.err)

pub returns-in_err-append_slice-3-clause-err : goal.returns-in_err-append_slice-3-clause-err
returns-in_err-append_slice-3-clause-err g c =
    let p = err_from_is_err_and c.from_residual-in_err-append_slice-3.result c.from_residual-in_err-append_slice-3.ensures.1 in
    let origin = option_copied c.args.origin in
    rw (p.1, p.2) (ended_lacks g.B.OctetsBuilder.room origin c.args.text.now _ _ _
    (absolute_ended origin c.args.text.now _ _ _ _ c.in_ok-labels.ensures.ok c.if-labels.true) c.in_err-append_slice-3.ensures.fits)

pub returns-then-labels-clause-ok : goal.returns-then-labels-clause-ok
returns-then-labels-clause-ok g c =
    let origin = option_copied c.args.origin in
    ended_gained origin c.args.text.now _ _ _ _ (absolute_ended origin c.args.text.now _ _ _ _ c.in_ok-labels.ensures.ok c.if-labels.true) c.in_ok-append_slice-3.ensures.ok

pub returns-in_default-origin-clause-err : goal.returns-in_default-origin-clause-err
returns-in_default-origin-clause-err g c =
    origin_lacking g.B.OctetsBuilder.room (option_copied c.args.origin) c.args.text.now _ (ap option_copied c.in_default-origin.is)
    (labels_relative c.args.text.now _ _ _ _ c.in_ok-labels.ensures.ok c.if-labels.false)

pub returns-then-labels-len-gt-MAX_NAME-clause-err : goal.returns-then-labels-len-gt-MAX_NAME-clause-err
returns-then-labels-len-gt-MAX_NAME-clause-err g c =
    let long : 255 < c.in_ok-labels.labels.count + wire_length c.in-Some-origin.origin.now =
    subst (λ n. 255 < c.in_ok-labels.labels.count + n) c.len.ensures.value c.if-labels-len-gt-MAX_NAME.true in
    long_refused g.B.OctetsBuilder.room (option_copied c.args.origin) c.args.text.now _ _ c.in-Some-origin.origin.now c.in_ok-labels.labels.count c.in_ok-labels.labels.is_absolute
    c.in_ok-labels.ensures.ok c.if-labels.false c.if-is_lone-2.ensures (ap option_copied c.in-Some-origin.is) long

pub returns-in_err-append_slice-4-clause-err : goal.returns-in_err-append_slice-4-clause-err
returns-in_err-append_slice-4-clause-err g c =
    let p = err_from_is_err_and c.from_residual-in_err-append_slice-4.result c.from_residual-in_err-append_slice-4.ensures.1 in
    let origin = option_copied c.args.origin in
    let slice = c.as_slice-2.ensures in
    let short : c.in_ok-labels.labels.count + wire_length c.in-Some-origin.origin.now ≤ 255 =
    subst (λ n. c.in_ok-labels.labels.count + n ≤ 255) c.len.ensures.value c.if-labels-len-gt-MAX_NAME.false in
    rw (p.1, p.2) (ended_lacks g.B.OctetsBuilder.room origin c.args.text.now _ _ _
    (relative_ended origin c.args.text.now _ _ _ c.in-Some-origin.origin.now c.in_ok-labels.labels.count c.in_ok-labels.labels.is_absolute c.in_ok-labels.ensures.ok c.if-labels.false
    c.if-is_lone-2.ensures (ap option_copied c.in-Some-origin.is) slice.value slice.is_name slice.absolute short)
    c.in_err-append_slice-4.ensures.fits)

pub returns-clause-ok : goal.returns-clause-ok
returns-clause-ok g c =
    let origin = option_copied c.args.origin in
    let slice = c.as_slice-2.ensures in
    let short : c.in_ok-labels.labels.count + wire_length c.in-Some-origin.origin.now ≤ 255 =
    subst (λ n. c.in_ok-labels.labels.count + n ≤ 255) c.len.ensures.value c.if-labels-len-gt-MAX_NAME.false in
    ended_gained origin c.args.text.now _ _ _ _
    (relative_ended origin c.args.text.now _ _ _ c.in-Some-origin.origin.now c.in_ok-labels.labels.count c.in_ok-labels.labels.is_absolute c.in_ok-labels.ensures.ok c.if-labels.false
    c.if-is_lone-2.ensures (ap option_copied c.in-Some-origin.is) slice.value slice.is_name slice.absolute short)
    c.in_ok-append_slice-4.ensures.ok
