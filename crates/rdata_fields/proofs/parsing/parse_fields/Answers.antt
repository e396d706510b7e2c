use Rattle.std.proofs.Common.{◌≡◌, ◌-◌, length, drop, refl, ◌∙◌, ap, arith}
use Rattle.rdata_fields.specs.Source.{next_place}
use Rattle.rdata_fields.proofs.Takings.{none_taken, taken_next, next_last, all_taken, refused_at, in_field_too}
use Rattle.rdata_fields.proofs.parsing.parse_fields.Goals as goal

pub loop-place-init : goal.loop-place-init
loop-place-init g c = record { taken = none_taken _ _ _; end = refl; last = c.place-last.ensures }

pub returns-in-Err-clause-takes : goal.returns-in-Err-clause-takes
returns-in-Err-clause-takes g c =
    let refused = refused_at _ g.B.OctetsBuilder.room c.args.fields.now _ _ _ _ _ _ _ _ _ c.loop-place.place c.in-Err.error (ap (λ e. e.at) c.loop-place.invariant.end) c.loop-place-test.true c.loop-place.invariant.taken c.in-Err.ensures.takes in
    rw c.in_field.ensures (c.loop-place.place, refused.0, in_field_too c.loop-place.place _ c.in-Err.error refused.1)

pub returns-in-Err-clause-end : goal.returns-in-Err-clause-end
returns-in-Err-clause-end g c = c.parse_field.ensures.end ∙ c.loop-place.invariant.end

pub loop-place-preserved : goal.loop-place-preserved
loop-place-preserved g c =
    let t = c.in_default.ensures.takes in
    record {
      taken = taken_next _ c.args.fields.now c.loop-place.place _ t.0 _ _ _ _ _ _ c.loop-place-test.true c.loop-place.invariant.taken t.1 t.2;
      end = c.parse_field.ensures.end ∙ c.loop-place.invariant.end;
      last = next_last _ c.args.fields.now c.loop-place.place _ _ _ _ _ _ _ (omega (arith, c.loop-place-test.true)) c.loop-place.invariant.taken (ap (λ e. e.at) c.loop-place.invariant.end) c.place-last-in-loop-place.ensures;
    }

pub returns-clause-takes : goal.returns-clause-takes
returns-clause-takes g c =
    let tokens = g.S.TokenSource.left c.args.source.now in
    let end = (g.S.TokenSource.end c.args.source.now).at in
    let all : c.loop-place.place ≡ length c.args.fields.now = omega (arith, c.loop-place-test.false, c.loop-place.auto.place-end) in (
      all_taken _ c.args.fields.now c.loop-place.place _ _ _ _ c.loop-place-test.false c.loop-place.auto.place-end c.loop-place.invariant.taken,
      c.loop-place.invariant.last ∙ ap (λ n. next_place (drop (n - 1) tokens) end) all,
    )

pub returns-clause-end : goal.returns-clause-end
returns-clause-end g c = c.loop-place.invariant.end
