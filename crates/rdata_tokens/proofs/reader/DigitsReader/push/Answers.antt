use Rattle.std.proofs.Common.{ℕ, List, sym, take}
use Rattle.dns_codec.proofs.Fronts.{at_no_err}
use Rattle.rdata_tokens.proofs.Pairs.{pairs_taken, pairs_refused}
use Rattle.rdata_tokens.proofs.TakenDigit.{not_ok}
use Rattle.rdata_tokens.proofs.reader.DigitsReader.push.Goals as goal

pub returns-then-is_err-clause-err : goal.returns-then-is_err-clause-err
returns-then-is_err-clause-err g c =
    let u : List ℕ = take c.in-Some.count c.read_pairs.new.octets in
    pairs_refused g.B.OctetsBuilder.room c.args.self.now (g.B.AsOctets.octets c.args.target.now) c.args.piece.now u c.in-Some.ensures.0
    (λ fits. not_ok c.append_slice.result c.if-is_err.ensures.value (c.append_slice.ensures.fits fits))

pub returns-clause-ok : goal.returns-clause-ok
returns-clause-ok g c =
    let u : List ℕ = take c.in-Some.count c.read_pairs.new.octets in
    (u, pairs_taken c.args.self.now c.args.piece.now u c.in-Some.ensures.0, at_no_err c.append_slice.result _ (sym c.if-is_err.ensures.value) c.append_slice.ensures.ok)
