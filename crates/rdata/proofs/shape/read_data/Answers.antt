use Rattle.std.proofs.Common.{ℕ, true≢false, length, refl, sym, ap, subst, ◌∙◌}
use Rattle.std.specs.Option.{option_copied}
use Rattle.std.proofs.lemmas.Result.{err_from_is_err_and}
use Rattle.rdata_fields.specs.Source.{next_place}
use Rattle.rdata.specs.Data.{HasLength, HasWrongHash, wrong_length}
use Rattle.rdata.proofs.ErrorPlaces.{field_error}
use Rattle.rdata.proofs.Reading.{data_taken, field_refused, hash_refused, none_wrong, rest_refused, length_refused, gained_is}
use Rattle.rdata.proofs.shape.read_data.Goals as goal

pub returns-in_err-last-clause-reads : goal.returns-in_err-last-clause-reads
returns-in_err-last-clause-reads g c =
    let p = err_from_is_err_and c.from_residual.result c.from_residual.ensures.1 in
    rw (p.1, p.2) (field_refused (option_copied c.args.origin) g.B.OctetsBuilder.room c.args.shape.now _ _ _ c.in_err-last.field-0.0 _ _ c.in_err-last.ensures.takes)

pub returns-then-has_wrong_hash-clause-reads : goal.returns-then-has_wrong_hash-clause-reads
returns-then-has_wrong_hash-clause-reads g c =
    let octets = g.B.AsOctets.octets in
    let shape = c.args.shape.now in
    let begun : ℕ = length c.as_slice-begun.result.now in
    let is = gained_is begun (octets c.args.target.now) (octets c.parse_fields.new.target) c.as_slice.result.now (ap length c.as_slice-begun.ensures.value) c.as_slice.ensures.value in
    let known = field_error c.in_field.result c.at.result _ _ _ _ _ _ c.in_field.ensures c.at.ensures c.saturating_sub.ensures c.in_ok-last.ensures.takes.1 (c.wrong_length-why.ensures ∙ ap (wrong_length shape.length) is) in
    hash_refused (option_copied c.args.origin) g.B.OctetsBuilder.room shape _ _ _ _ _ c.in_ok-last.ensures.takes.0 c.in_field.result _ _ known refl refl
    (subst (HasWrongHash shape.length) is (c.if-has_wrong_hash.ensures.0 refl))

pub returns-in_err-parse_parts-clause-reads : goal.returns-in_err-parse_parts-clause-reads
returns-in_err-parse_parts-clause-reads g c =
    let octets = g.B.AsOctets.octets in
    let shape = c.args.shape.now in
    let begun : ℕ = length c.as_slice-begun.result.now in
    let is = gained_is begun (octets c.args.target.now) (octets c.parse_fields.new.target) c.as_slice.result.now (ap length c.as_slice-begun.ensures.value) c.as_slice.ensures.value in
    let taken = c.in_ok-last.ensures.takes.0 in
    let none = none_wrong (option_copied c.args.origin) g.B.OctetsBuilder.room shape (g.S.TokenSource.end c.args.source.now).at _ _ _ _ taken (λ w. true≢false (sym (c.if-has_wrong_hash.ensures.1 (subst (HasWrongHash shape.length) (sym is) w)))) in
    let p = err_from_is_err_and c.from_residual-in_err-parse_parts.result c.from_residual-in_err-parse_parts.ensures.1 in
    rw (p.1, p.2) (rest_refused (option_copied c.args.origin) g.B.OctetsBuilder.room shape _ _ _ _ _ taken _ c.in_err-parse_parts.field-0.0 _ _
    (ap (λ e. e.at) c.parse_fields.ensures.end) none c.in_err-parse_parts.ensures.takes)

pub returns-then-not-has_length-clause-reads : goal.returns-then-not-has_length-clause-reads
returns-then-not-has_length-clause-reads g c =
    let octets = g.B.AsOctets.octets in
    let shape = c.args.shape.now in
    let begun : ℕ = length c.as_slice-begun.result.now in
    let is = gained_is begun (octets c.args.target.now) (octets c.parse_fields.new.target) c.as_slice.result.now (ap length c.as_slice-begun.ensures.value) c.as_slice.ensures.value in
    let all = gained_is begun (octets c.args.target.now) (octets c.parse_parts.new.target) c.as_slice-2.result.now (ap length c.as_slice-begun.ensures.value) c.as_slice-2.ensures.value in
    let taken = c.in_ok-last.ensures.takes.0 in
    let none = none_wrong (option_copied c.args.origin) g.B.OctetsBuilder.room shape (g.S.TokenSource.end c.args.source.now).at _ _ _ _ taken (λ w. true≢false (sym (c.if-has_wrong_hash.ensures.1 (subst (HasWrongHash shape.length) (sym is) w)))) in
    let ends = ap (λ e. e.at) c.parse_fields.ensures.end in
    let known = field_error c.in_field-then-not-has_length.result c.at-then-not-has_length.result _ _ _ _ _ _ c.in_field-then-not-has_length.ensures c.at-then-not-has_length.ensures refl (c.place-at.ensures ∙ ap (next_place (g.S.TokenSource.left c.parse_fields.new.source)) ends) (c.wrong_length-why-then-not-has_length.ensures ∙ ap (wrong_length shape.length) all) in
    length_refused (option_copied c.args.origin) g.B.OctetsBuilder.room shape _ _ _ _ _ taken c.in_field-then-not-has_length.result _ _ none c.in_ok-parse_parts.ensures.takes
    (λ l. true≢false (sym (c.if-not-has_length.ensures.1 (subst (HasLength shape.length) (sym all) l))), known)

pub returns-clause-reads : goal.returns-clause-reads
returns-clause-reads g c =
    let octets = g.B.AsOctets.octets in
    let left = g.S.TokenSource.left in
    let shape = c.args.shape.now in
    let begun : ℕ = length c.as_slice-begun.result.now in
    let all = gained_is begun (octets c.args.target.now) (octets c.parse_parts.new.target) c.as_slice-2.result.now (ap length c.as_slice-begun.ensures.value) c.as_slice-2.ensures.value in
    data_taken (option_copied c.args.origin) g.B.OctetsBuilder.room shape (g.S.TokenSource.end c.args.source.now).at (left c.args.source.now) (octets c.args.target.now) (left c.parse_fields.new.source) (octets c.parse_fields.new.target)
    c.in_ok-last.ensures.takes.0 (left c.parse_parts.new.source) (octets c.parse_parts.new.target) c.in_ok-parse_parts.ensures.takes (subst (HasLength shape.length) all (c.if-not-has_length.ensures.0 refl))
