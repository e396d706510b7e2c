use Rattle.std.proofs.Common.{◌-◌, ◌≡◌, length, sym, ap, ◌∙◌}
use Rattle.std.proofs.lemmas.Result.{err_from_is_err_and}
use Rattle.rdata.proofs.GenericLaws.{wrong_count, count_refused, digits_refused, generic_spelled}
use Rattle.rdata.proofs.generic.parse_generic.Goals as goal

pub returns-then-found-wanted-clause-takes : goal.returns-then-found-wanted-clause-takes
returns-then-found-wanted-clause-takes g c =
    let octets = g.B.AsOctets.octets in
    let before : length c.as_slice-begun.result.now ≡ length (octets c.args.target.now) = ap length c.as_slice-begun.ensures.value in
    let after : length c.as_slice.result.now ≡ length (octets c.parse_digits.new.target) = ap length c.as_slice.ensures.value in
    let found = ap (λ n. n - length c.as_slice-begun.result.now) after ∙ ap (λ n. length (octets c.parse_digits.new.target) - n) before in
    rw (c.at.ensures, found, c.from-wanted.ensures)
    (wrong_count g.B.OctetsBuilder.room _ _ c.place.result c.in_ok-parse_count.field-0 _ _ _ _ (octets c.args.target.now) (octets c.parse_digits.new.target) c.requires c.advance.ensures.left
    (ap (λ e. e.at) (c.parse_digits.ensures.end ∙ c.parse_count.ensures.end ∙ c.advance.ensures.end)) c.place.ensures
    c.in_ok-parse_count.ensures.takes c.in_ok-parse_digits.ensures.takes (λ same. c.if-found-wanted.true (found ∙ same ∙ sym c.from-wanted.ensures)))

pub returns-in_err-parse_count-clause-takes : goal.returns-in_err-parse_count-clause-takes
returns-in_err-parse_count-clause-takes g c =
    let p = err_from_is_err_and c.from_residual.result c.from_residual.ensures.1 in
    rw (p.1, p.2) (count_refused g.B.OctetsBuilder.room _ _ _ _ _ _ c.in_err-parse_count.field-0.0 c.requires c.advance.ensures.left (ap (λ e. e.at) c.advance.ensures.end) c.in_err-parse_count.ensures.takes)

pub returns-in_err-parse_digits-clause-takes : goal.returns-in_err-parse_digits-clause-takes
returns-in_err-parse_digits-clause-takes g c =
    let p = err_from_is_err_and c.from_residual-in_err-parse_digits.result c.from_residual-in_err-parse_digits.ensures.1 in
    rw (p.1, p.2) (digits_refused g.B.OctetsBuilder.room _ _ c.in_ok-parse_count.field-0 _ _ _ _ _ _ c.in_err-parse_digits.field-0.0 c.requires c.advance.ensures.left (ap (λ e. e.at) (c.parse_count.ensures.end ∙ c.advance.ensures.end)) c.in_ok-parse_count.ensures.takes
    c.in_err-parse_digits.ensures.takes)

pub returns-clause-takes : goal.returns-clause-takes
returns-clause-takes g c =
    let octets = g.B.AsOctets.octets in
    let before : length c.as_slice-begun.result.now ≡ length (octets c.args.target.now) = ap length c.as_slice-begun.ensures.value in
    let after : length c.as_slice.result.now ≡ length (octets c.parse_digits.new.target) = ap length c.as_slice.ensures.value in
    let size = sym (ap (λ n. n - length c.as_slice-begun.result.now) after ∙ ap (λ n. length (octets c.parse_digits.new.target) - n) before) ∙ c.if-found-wanted.false ∙ c.from-wanted.ensures in
    generic_spelled c.in_ok-parse_count.field-0 _ _ _ _ (octets c.args.target.now) (octets c.parse_digits.new.target) c.requires c.advance.ensures.left c.in_ok-parse_count.ensures.takes c.in_ok-parse_digits.ensures.takes size
