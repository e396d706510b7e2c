use Rattle.std.proofs.Common.{◌≡◌, ◌++◌, false, sym, ap, ◌∙◌, append-nil}
use Rattle.zone_record.specs.CanonicalData.{canonical_record}
use Rattle.zone_contents.specs.Changes.{contents_at}
use Rattle.zone_contents.proofs.DigestSteps.{hashed_first, hashed_none}
use Rattle.zone_contents.proofs.Distinct.{record_is}
use Rattle.zone_contents.specs.Hashed.{is_hashed}
use Rattle.std.proofs.lemmas.Result.{err_from_is_err_and}
use Rattle.zone_contents.proofs.hashing.append_hashed.Goals as goal

pub returns-then-not-is_hashed-clause-ok : goal.returns-then-not-is_hashed-clause-ok
returns-then-not-is_hashed-clause-ok g c =
    let apex = c.args.apex.now in
    let z = c.args.zone.now in
    let old = c.args.out.now.items in
    let is = record_is z c.args.place c.record-record.result c.requires c.record-record.ensures in
    let fails : is_hashed apex (contents_at z c.args.place) ≡ false = sym (λ i. is_hashed apex (is i)) ∙ sym c.is_hashed.ensures ∙ c.if-not-is_hashed.true in
    sym (ap (λ l. old ++ l) (hashed_none apex z c.args.place fails) ∙ append-nil old)

pub returns-clause-ok : goal.returns-clause-ok
returns-clause-ok g c =
    let apex = c.args.apex.now in
    let z = c.args.zone.now in
    let is = record_is z c.args.place c.record-record.result c.requires c.record-record.ensures in
    let single = sym c.is_duplicate.ensures ∙ c.if-is_duplicate.false in
    let fits = sym (λ i. is_hashed apex (is i)) ∙ sym c.is_hashed.ensures ∙ c.if-not-is_hashed.false in
    c.in_ok-append_canonical.ensures.ok ∙ ap (λ l. c.args.out.now.items ++ l) ((λ i. canonical_record (is i)) ∙ sym (hashed_first apex z c.args.place single fits))

pub returns-in_err-append_canonical-clause-err : goal.returns-in_err-append_canonical-clause-err
returns-in_err-append_canonical-clause-err g c =
    let apex = c.args.apex.now in
    let z = c.args.zone.now in
    let is = record_is z c.args.place c.record-record.result c.requires c.record-record.ensures in
    let p = err_from_is_err_and c.from_residual.result c.from_residual.ensures.1 in
    rw p.1 (c.args.place, c.requires, sym c.is_duplicate.ensures ∙ c.if-is_duplicate.false, sym (λ i. is_hashed apex (is i)) ∙ sym c.is_hashed.ensures ∙ c.if-not-is_hashed.false)
