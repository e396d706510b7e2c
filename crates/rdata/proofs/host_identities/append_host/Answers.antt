use Rattle.std.proofs.Common.{◌≡◌, ◌-◌, ℕ, List, ap, arith, length, length-append, refl}
use Rattle.std.proofs.lemmas.Result.{err_from_is_err_and}
use Rattle.rdata.specs.HostIdentities.{identity_octets}
use Rattle.rdata.proofs.HostLaws.{head_lacks, digits_refused, no_key, long_key, host_set}
use Rattle.rdata.proofs.host_identities.append_host.Goals as goal

pub returns-in_err-append_head-clause-err : goal.returns-in_err-append_head-clause-err
returns-in_err-append_head-clause-err g c =
    let p = err_from_is_err_and c.from_residual.result c.from_residual.ensures.1 in
    rw (p.1, p.2) (head_lacks g.B.OctetsBuilder.room c.args.algorithm c.args.hit.now c.args.text.now (g.B.AsOctets.octets c.args.target.now) c.in_err-append_head.ensures.lacks)

pub returns-in_err-append_base64-clause-err : goal.returns-in_err-append_base64-clause-err
returns-in_err-append_base64-clause-err g c =
    let p = err_from_is_err_and c.from_residual-in_err-append_base64.result c.from_residual-in_err-append_base64.ensures.1 in
    rw (p.1, p.2) (digits_refused g.B.OctetsBuilder.room c.args.algorithm c.args.hit.now c.args.text.now (g.B.AsOctets.octets c.args.target.now) (g.B.AsOctets.octets c.append_head.new.target) c.in_err-append_base64.field-0.0 c.in_ok-append_head.ensures.ok
    c.in_err-append_base64.ensures.err)

pub returns-then-count-eq0-clause-err : goal.returns-then-count-eq0-clause-err
returns-then-count-eq0-clause-err g c =
    let gained = c.in_ok-append_base64.ensures.ok in
    let key : List ℕ = gained.0 in
    let sum = ap length gained.2 in
    let parts = length-append (g.B.AsOctets.octets c.append_head.new.target) key in
    no_key g.B.OctetsBuilder.room c.args.algorithm c.args.hit.now c.args.text.now (g.B.AsOctets.octets c.args.target.now) key gained.1
    (omega (arith, sum, parts, ap length c.as_slice.ensures.value, ap length c.as_slice-start.ensures.value, c.if-count-eq0.true))

pub returns-then-count-gt-MOST-clause-err : goal.returns-then-count-gt-MOST-clause-err
returns-then-count-gt-MOST-clause-err g c =
    let gained = c.in_ok-append_base64.ensures.ok in
    let key : List ℕ = gained.0 in
    let sum = ap length gained.2 in
    let parts = length-append (g.B.AsOctets.octets c.append_head.new.target) key in
    long_key g.B.OctetsBuilder.room c.args.algorithm c.args.hit.now c.args.text.now (g.B.AsOctets.octets c.args.target.now) key gained.1
    (omega (arith, sum, parts, ap length c.as_slice.ensures.value, ap length c.as_slice-start.ensures.value, c.if-count-gt-MOST.true))

pub returns-clause-ok : goal.returns-clause-ok
returns-clause-ok g c =
    let algorithm = c.args.algorithm in
    let hit = c.args.hit.now in
    let gained = c.in_ok-append_base64.ensures.ok in
    let key : List ℕ = gained.0 in
    let sum = ap length gained.2 in
    let parts = length-append (g.B.AsOctets.octets c.append_head.new.target) key in
    let counted : length c.as_slice.result.now - length c.as_slice-start.result.now ≡ length key = omega (arith, sum, parts, ap length c.as_slice.ensures.value, ap length c.as_slice-start.ensures.value) in (
      identity_octets algorithm hit key,
      (key, (gained.1, omega (arith, counted, c.if-count-eq0.false), omega (arith, counted, c.if-count-gt-MOST.false)), refl),
      host_set g.B.OctetsBuilder.room algorithm hit c.args.text.now (g.B.AsOctets.octets c.args.target.now) (length c.as_slice-begun.result.now) (length c.as_slice.result.now - length c.as_slice-start.result.now) (g.B.AsOctets.octets c.append_head.new.target)
          (g.B.AsOctets.octets c.append_base64.new.target) _ key (ap length c.as_slice-begun.ensures.value) c.in_ok-append_head.ensures.ok gained.2 counted c.set_count.ensures,
    )
