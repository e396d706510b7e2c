use Rattle.std.proofs.Common.{List, ℕ, ◌+◌, ◌≡◌, ◌++◌, ◌∙◌, length, take, subst, ap, arith, length-append}
use Rattle.rdata_tails.specs.Prefixes.{IsAddressPart}
use Rattle.rdata_tails.proofs.PrefixLemmas.{on_err, on_failed, prefix_exceeds}
use Rattle.rdata_tails.proofs.apl.Prefix.append_part.Goals as goal

pub returns-in_err-append_slice-clause-why : goal.returns-in_err-append_slice-clause-why
returns-in_err-append_slice-clause-why g c =
    let octets : List ℕ = c.args.octets.now in
    let part = subst (IsAddressPart (take c.used-count.result octets)) c.requires.octets c.used-count.ensures.part in
    on_failed c.from_residual.result c.in_err-append_slice.ensures.fits
    (λ full. prefix_exceeds g.B.OctetsBuilder.room c.args.self.now (g.B.AsOctets.octets c.args.target.now) (take c.used-count.result octets) part (omega (arith, full)))

pub returns-clause-why : goal.returns-clause-why
returns-clause-why g c =
    let octets : List ℕ = c.args.octets.now in
    let old : List ℕ = g.B.AsOctets.octets c.args.target.now in
    let part = subst (IsAddressPart (take c.used-count.result octets)) c.requires.octets c.used-count.ensures.part in
    let middle : length (g.B.AsOctets.octets c.append_slice.new.self) ≡ length old + 4 = ap length c.in_ok-append_slice.ensures.ok ∙ length-append old _ in
    on_err c.append_slice-2.result c.append_slice-2.ensures.fits
    (λ full. prefix_exceeds g.B.OctetsBuilder.room c.args.self.now old (take c.used-count.result octets) part (omega (arith, full, middle)))
