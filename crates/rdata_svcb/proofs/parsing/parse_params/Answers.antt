use Rattle.std.proofs.Common.{ap, inr, length, refl, sym, ◌∙◌}
use Rattle.rdata_fields.specs.RecordErrors.{error_at}
use Rattle.rdata_fields.specs.Source.{next_place}
use Rattle.rdata_fields.proofs.Tokens.{none_left}
use Rattle.rdata_svcb.proofs.ParamParts.{part_behind}
use Rattle.rdata_svcb.proofs.ParamSequences.{fewer_tokens, next_refused, none_right, params_all, params_more, params_none, some_left, together_refused}
use Rattle.rdata_svcb.proofs.Refusals.{more_extends}
use Rattle.rdata_svcb.proofs.parsing.parse_params.Goals as goal

pub loop-source-init : goal.loop-source-init
loop-source-init g c = record {
  taken = params_none (g.S.TokenSource.left c.args.source.now) (g.B.AsOctets.octets c.args.target.now);
  start = ap length c.as_slice-start.ensures.value;
  end = refl;
}

pub loop-source-smaller : goal.loop-source-smaller
loop-source-smaller g c =
    let ok = c.in_default.ensures.ok in
    fewer_tokens (g.S.TokenSource.left c.loop-source.source) (g.S.TokenSource.left c.parse_param.new.source) ok.1.name ok.1.value ok.1.split

pub loop-source-preserved : goal.loop-source-preserved
loop-source-preserved g c =
    let ok = c.in_default.ensures.ok in let i = c.loop-source.invariant in
    let some = some_left c.current.result (g.S.TokenSource.left c.loop-source.source) c.current.ensures (sym c.is_some.ensures ∙ c.loop-source-test.true) in
    record {
      taken = params_more (g.S.TokenSource.left c.args.source.now) (g.S.TokenSource.left c.loop-source.source) (g.S.TokenSource.left c.parse_param.new.source) (length c.as_slice-start.result.now)
          (g.B.AsOctets.octets c.args.target.now) (g.B.AsOctets.octets c.loop-source.target) (g.B.AsOctets.octets c.parse_param.new.target) ok.0 i.taken i.start some ok.1 ok.2 ok.3 ok.4;
      start = i.start;
      end = c.parse_param.ensures.end ∙ i.end;
    }

pub returns-in-Err-clause-err : goal.returns-in-Err-clause-err
returns-in-Err-clause-err g c =
    let left = g.S.TokenSource.left in let octets = g.B.AsOctets.octets in let i = c.loop-source.invariant in
    let some = some_left c.current.result (left c.loop-source.source) c.current.ensures (sym c.is_some.ensures ∙ c.loop-source-test.true) in
    rw c.at.ensures (
      ap (λ p. error_at p c.in-Err.why) (c.place.ensures ∙ ap (λ e. next_place (left c.parse_param.new.source) e.at) (c.parse_param.ensures.end ∙ i.end)),
      next_refused g.B.OctetsBuilder.room (left c.args.source.now) (left c.loop-source.source) (left c.parse_param.new.source) (length c.as_slice-start.result.now) (octets c.args.target.now) (octets c.loop-source.target)
          c.in-Err.why i.taken i.start some c.in-Err.ensures.err,
    )

pub returns-in-Err-clause-extends : goal.returns-in-Err-clause-extends
returns-in-Err-clause-extends g c = more_extends _ _ _ _ c.loop-source.invariant.taken.gained c.in-Err.ensures.extends

pub returns-in-Ok-clause-ok : goal.returns-in-Ok-clause-ok
returns-in-Ok-clause-ok g c =
    let old = g.B.AsOctets.octets c.args.target.now in let new = g.B.AsOctets.octets c.loop-source.target in
    let i = c.loop-source.invariant in let left = g.S.TokenSource.left c.loop-source.source in
    let none = none_left c.current.result left c.current.ensures (sym c.is_some.ensures ∙ c.loop-source-test.false) in
    params_all (g.S.TokenSource.left c.args.source.now) left old new _ i.taken none
    (λ octets e. part_behind new c.as_slice.result.now old octets (length c.as_slice-start.result.now) c.as_slice.ensures.value e i.start) c.in-Ok.ensures.ok

pub returns-in-Ok-clause-taken : goal.returns-in-Ok-clause-taken
returns-in-Ok-clause-taken g c = none_left c.current.result (g.S.TokenSource.left c.loop-source.source) c.current.ensures (sym c.is_some.ensures ∙ c.loop-source-test.false)

pub returns-in-Err-check_params-clause-err : goal.returns-in-Err-check_params-clause-err
returns-in-Err-check_params-clause-err g c =
    let old = g.B.AsOctets.octets c.args.target.now in let new = g.B.AsOctets.octets c.loop-source.target in
    let i = c.loop-source.invariant in let left = g.S.TokenSource.left c.loop-source.source in
    let none = none_left c.current.result left c.current.ensures (sym c.is_some.ensures ∙ c.loop-source-test.false) in let bad = c.in-Err-check_params in
    rw c.at-in-Err-check_params.ensures (
      ap (λ p. error_at p bad.why) (c.place-in-Err-check_params.ensures ∙ ap (λ e. next_place left e.at) i.end),
      inr (
        together_refused (g.S.TokenSource.left c.args.source.now) left old new _ bad.why i.taken none
            (λ octets e. part_behind new c.as_slice.result.now old octets (length c.as_slice-start.result.now) c.as_slice.ensures.value e i.start) bad.ensures.fault,
        none_right (g.S.TokenSource.left c.args.source.now) left old new _ i.taken none
            (λ octets e. part_behind new c.as_slice.result.now old octets (length c.as_slice-start.result.now) c.as_slice.ensures.value e i.start) bad.ensures.err,
      ),
    )
