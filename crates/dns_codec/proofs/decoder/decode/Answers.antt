use Rattle.std.proofs.Common.{◌≡◌, ◌∙◌, ◌++◌, sym, ap, append_assoc}
use Rattle.std.specs.Str.{chars}
use Rattle.std.proofs.lemmas.Iterator.{YieldsList-from_chars}
use Rattle.std.proofs.lemmas.Iterator.Consumers.{YieldsList-turn, YieldsList-end, YieldsList-so_far}
use Rattle.std.proofs.lemmas.Result.{err_from_is_err_and}
use Rattle.dns_codec.specs.Decoding.{DecoderState, Ends}
use Rattle.dns_codec.specs.Outcome.{refusal}
use Rattle.dns_codec.proofs.Reading.{map-same, text_here, clauses, finished}
use Rattle.dns_codec.proofs.Fronts.{chars_front, after_front, after_all}
use Rattle.dns_codec.proofs.Decoders.{starts, takes, refuses, ends}
use Rattle.dns_codec.proofs.Refusals.{reads}
use Rattle.dns_codec.proofs.decoder.decode.Goals as goal

pub loop-c-init : goal.loop-c-init
loop-c-init g c =
    let same : c.into_iter-c-iterator.result.rest.now ≡ c.append_groups-rest.result.now = cc in
    let new = c.over-decoder.ensures in
    let view = c.decoder.view_is in
    let rest = c.append_groups-rest.result.now in
    let taken = g.B.AsOctets.octets c.append_groups-rest.new.builder in
    let at = c.append_groups-rest.ensures.front in (
      at.front,
      rw same (chars_front c.args.s.now at.front rest at.split at.ascii),
      starts g.K.Encoding.base g.met.K.Encoding.known g.B.OctetsBuilder.room c.args.s.now rest taken
          (record { octets = g.B.AsOctets.octets c.decoder.inside.builder; group = c.decoder.inside.group; error = c.decoder.inside.error })
          (ap (λ (x : DecoderState). x.octets) view ∙ new.0, ap (λ (x : DecoderState). x.group) view ∙ new.1, ap (λ (x : DecoderState). x.error) view ∙ new.2) at,
    )

pub loop-c-preserved : goal.loop-c-preserved
loop-c-preserved g c = (
  c.loop-c.invariant.0,
  c.loop-c.invariant.1,
  rw (← append_assoc) (takes g.K.Encoding.base g.met.K.Encoding.known g.B.OctetsBuilder.room (c.loop-c.invariant.0
      ++ c.loop-c.yielded) c.loop-c.decoder c.in-Some-c.c c.push.new.self c.push.result c.in_ok-push.field-0 c.loop-c.invariant.2 c.push.ensures.pushes c.push.ensures.answers c.in_ok-push.was),
)

pub returns-in_err-push : goal.returns-in_err-push
returns-in_err-push g c =
    let known = g.met.K.Encoding.known in
    let rest = c.append_groups-rest.result.now in
    let same : c.into_iter-c-iterator.result.rest.now ≡ rest = cc in
    let split = rw same at c.loop-c.invariant.1 in
    let text = YieldsList-from_chars rest c.append_groups-rest.utf8 same in
    let so_far = YieldsList-so_far text c.loop-c.yielded _ c.loop-c.yielded_by in
    let turn = YieldsList-turn text c.loop-c.yielded _ c.loop-c.yielded_by _ _ c.in-Some-c.c c.in-Some-c.is c.next.ensures.steps in
    let here = after_front (chars c.args.s.now) c.loop-c.invariant.0 (chars rest) c.loop-c.yielded _ c.in-Some-c.c split (text_here (chars rest) c.loop-c.yielded c.in-Some-c.c so_far turn) in
    let p = err_from_is_err_and c.from_residual.result c.from_residual.ensures.1 in
    let k = clauses g.K.Encoding.base (refusal g.K.Encoding.base) g.B.OctetsBuilder.room (chars c.args.s.now) g.B.Octets.AsOctets.octets c.from_residual.result
    (λ octets limit d le. (reads g.K.Encoding.base known (chars c.args.s.now) octets limit d le).0)
    (rw (p.1, p.2) (rw here (refuses g.K.Encoding.base known g.B.OctetsBuilder.room (c.loop-c.invariant.0
    ++ c.loop-c.yielded) _ c.loop-c.decoder c.in-Some-c.c c.push.new.self c.push.result _ c.loop-c.invariant.2 c.push.ensures.pushes c.push.ensures.answers c.in_err-push.was))) in
    record { value = k.0; succeeds = k.1; refused = k.2 }

pub returns : goal.returns
returns g c =
    let known = g.met.K.Encoding.known in
    let rest = c.append_groups-rest.result.now in
    let same : c.into_iter-c-iterator.result.rest.now ≡ rest = cc in
    let split = rw same at c.loop-c.invariant.1 in
    let text = YieldsList-from_chars rest c.append_groups-rest.utf8 same in
    let done = YieldsList-end text c.loop-c.yielded _ c.loop-c.yielded_by _ _ c.in-None.is c.next.ensures.steps in
    let all = after_all (chars c.args.s.now) c.loop-c.invariant.0 (chars rest) c.loop-c.yielded split (sym (map-same c.loop-c.yielded) ∙ done.0) in
    let stands = rw all at c.loop-c.invariant.2 in
    let k = clauses g.K.Encoding.base (refusal g.K.Encoding.base) g.B.OctetsBuilder.room (chars c.args.s.now) g.B.Octets.AsOctets.octets c.finalize.result
    (λ octets limit d le. (reads g.K.Encoding.base known (chars c.args.s.now) octets limit d le).0)
    (finished g.K.Encoding.base (refusal g.K.Encoding.base) g.B.OctetsBuilder.room (chars c.args.s.now) g.B.Octets.AsOctets.octets c.finalize.result
    (Ends g.K.Encoding.base g.B.OctetsBuilder.room c.loop-c.decoder)
    (λ s end. ends g.K.Encoding.base known g.B.OctetsBuilder.room (chars c.args.s.now) c.loop-c.decoder s stands end) c.finalize.ensures) in
    record { value = k.0; succeeds = k.1; refused = k.2 }

pub returns-in-Some : goal.returns-in-Some
returns-in-Some g c =
    let known = g.met.K.Encoding.known in
    let k = clauses g.K.Encoding.base (refusal g.K.Encoding.base) g.B.OctetsBuilder.room (chars c.args.s.now) g.B.Octets.AsOctets.octets c.in-Some.result
    (λ octets limit d le. (reads g.K.Encoding.base known (chars c.args.s.now) octets limit d le).0) c.in-Some.ensures in
    record { value = k.0; succeeds = k.1; refused = k.2 }
