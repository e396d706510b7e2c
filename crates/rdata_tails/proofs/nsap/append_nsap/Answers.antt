use Rattle.std.proofs.Common.{◌≡◌, ap, arith, length}
use Rattle.rdata_tails.proofs.NsapLaws.{mark_refused, digits_refused, none_refused}
use Rattle.rdata_tails.proofs.nsap.append_nsap.Goals as goal

pub returns-in_default-clause-why : goal.returns-in_default-clause-why
returns-in_default-clause-why g c = mark_refused g.B.OctetsBuilder.room c.args.text.now (g.B.AsOctets.octets c.args.target.now) c.in_default.ensures

pub returns-in-Err-clause-why : goal.returns-in-Err-clause-why
returns-in-Err-clause-why g c =
    digits_refused g.B.OctetsBuilder.room c.args.text.now c.in-Some.dotted.now (g.B.AsOctets.octets c.args.target.now) c.in-Some.ensures c.in-Err.why c.in-Err.ensures.why

pub returns-then-as_slice-length-clause-why : goal.returns-then-as_slice-length-clause-why
returns-then-as_slice-length-clause-why g c =
    let same : length (g.B.AsOctets.octets c.append_dotted.new.target) ≡ length (g.B.AsOctets.octets c.args.target.now) =
    omega (arith, c.if-as_slice-length.true, ap length c.as_slice.ensures.value, ap length c.as_slice-length.ensures.value) in
    none_refused g.B.OctetsBuilder.room c.args.text.now c.in-Some.dotted.now (g.B.AsOctets.octets c.args.target.now) c.in-Some.ensures _ c.in_default-append_dotted.ensures.ok same
