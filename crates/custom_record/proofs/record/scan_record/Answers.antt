use Rattle.std.proofs.Common.{List, [], ◌∷◌, refl, subst, inl, inr, ⊎_elim, Ok}
use Rattle.std.proofs.lemmas.Result.{err_from_is_err_and}
use Rattle.dns_scan.specs.Tokens.{Token, marker}
use Rattle.dns_scan.proofs.TokensLeft.{peeked, peeked_none, peeked_some, some_left}
use Rattle.custom_record.proofs.Marker.{no_marker}
use Rattle.custom_record.proofs.StringsBack.{none_stands}
use Rattle.custom_record.specs.Parts.{values_of}
use Rattle.custom_record.specs.Spellings.{AreSpellingsOf}
use Rattle.custom_record.proofs.record.scan_record.Goals as goal

pub returns-then-continues-clause-back : goal.returns-then-continues-clause-back
returns-then-continues-clause-back g c = λ x tokens is texts stands.
    let peek = c.if-continues.ensures.peeks in
    let unmarked = (c.in_ok-expect_no_marker.ensures.stands tokens stands).1 in
    absurd (⊎_elim (λ b. some_left [] peek.0 (peeked _ _ _ peek.0 [] b.1 peek.1).0 peek.2 refl) (λ l. ⊎_elim (λ e. e) (λ e. e) l.0) (c.in_ok-data.ensures.back x tokens is texts unmarked))

pub returns-then-continues-clause-generic : goal.returns-then-continues-clause-generic
returns-then-continues-clause-generic g c = λ others stands. absurd ((c.in_ok-expect_no_marker.ensures.stands (marker ∷ others) stands).0 refl)

pub returns-clause-back : goal.returns-clause-back
returns-clause-back g c = λ x tokens is texts stands.
    ⊎_elim (λ b. inl b.0) (λ l. inr l) (c.in_ok-data.ensures.back x tokens is texts (c.in_ok-expect_no_marker.ensures.stands tokens stands).1)

pub returns-clause-generic : goal.returns-clause-generic
returns-clause-generic g c = λ others stands. absurd ((c.in_ok-expect_no_marker.ensures.stands (marker ∷ others) stands).0 refl)

pub returns-clause-all : goal.returns-clause-all
returns-clause-all g c = λ tokens stands ok. let peek = c.if-continues.ensures.peeks in none_stands _ _ _ peek.0 tokens peek.1 peek.2 stands

pub returns-in_err-data-clause-back : goal.returns-in_err-data-clause-back
returns-in_err-data-clause-back g c = λ x tokens is texts stands.
    let p = err_from_is_err_and c.from_residual-in_err-data.result c.from_residual-in_err-data.ensures.1 in
    rw (p.1, p.2) (⊎_elim (λ b. inl b.0) (λ l. inr l) (c.in_err-data.ensures.back x tokens is texts (c.in_ok-expect_no_marker.ensures.stands tokens stands).1))

pub returns-in_err-data-clause-generic : goal.returns-in_err-data-clause-generic
returns-in_err-data-clause-generic g c = λ others stands. absurd ((c.in_ok-expect_no_marker.ensures.stands (marker ∷ others) stands).0 refl)

pub returns-in_err-expect_no_marker-clause-back : goal.returns-in_err-expect_no_marker-clause-back
returns-in_err-expect_no_marker-clause-back g c = λ x tokens is texts stands.
    absurd (no_marker _ tokens is texts (c.in_err-expect_no_marker.ensures.stands tokens stands).0)

pub returns-in_err-expect_no_marker-clause-generic : goal.returns-in_err-expect_no_marker-clause-generic
returns-in_err-expect_no_marker-clause-generic g c = λ others stands.
    let p = err_from_is_err_and c.from_residual.result c.from_residual.ensures.1 in
    let is = c.in_err-expect_no_marker.ensures.stands (marker ∷ others) stands in
    rw (p.1, p.2) (is.1, is.2)

pub returns-clause-only : goal.returns-clause-only
returns-clause-only g c = λ tokens stands.
    let took = c.in_ok-data.ensures.only tokens (c.in_ok-expect_no_marker.ensures.stands tokens stands).1 in
    let peek = c.if-continues.ensures.peeks in
    let left = peeked_none _ _ _ peek.0 took.0 took.2 peek.1 peek.2 in
    subst (λ (l : List Token). AreSpellingsOf (values_of (g.R.RecordData.parts c.in_ok-data.data)) tokens l) left.0 took.1

pub returns-clause-reads : goal.returns-clause-reads
returns-clause-reads g c = λ tokens stands.
    let unmarked = c.in_ok-expect_no_marker.ensures.stands tokens stands in
    let read = c.in_ok-data.ensures.reads tokens unmarked.1 in
    let peek = c.if-continues.ensures.peeks in
    let left = peeked_none _ _ _ peek.0 read.0 read.2 peek.1 peek.2 in
    (unmarked.0, subst (λ (l : List Token). g.R.RecordData.data_reads g.E.ScannerError.cause tokens (Ok c.in_ok-data.data) l) left.0 read.1)

pub returns-then-continues-clause-reads : goal.returns-then-continues-clause-reads
returns-then-continues-clause-reads g c = λ tokens stands.
    let unmarked = c.in_ok-expect_no_marker.ensures.stands tokens stands in
    let read = c.in_ok-data.ensures.reads tokens unmarked.1 in
    let peek = c.if-continues.ensures.peeks in
    let left = peeked_some _ _ _ peek.0 read.0 read.2 peek.1 peek.2 in
    inr (unmarked.0, read.0, inr (c.in_ok-data.data, read.1, left.0, c.trailing_tokens.ensures))

pub returns-in_err-data-clause-reads : goal.returns-in_err-data-clause-reads
returns-in_err-data-clause-reads g c = λ tokens stands.
    let p = err_from_is_err_and c.from_residual-in_err-data.result c.from_residual-in_err-data.ensures.1 in
    let unmarked = c.in_ok-expect_no_marker.ensures.stands tokens stands in
    let read = c.in_err-data.ensures.reads tokens unmarked.1 in
    rw (p.1, p.2) (inr (unmarked.0, read.0, inl read.1))

pub returns-in_err-expect_no_marker-clause-reads : goal.returns-in_err-expect_no_marker-clause-reads
returns-in_err-expect_no_marker-clause-reads g c = λ tokens stands.
    let p = err_from_is_err_and c.from_residual.result c.from_residual.ensures.1 in
    let is = c.in_err-expect_no_marker.ensures.stands tokens stands in
    rw (p.1, p.2) (inl (is.0, is.1))
