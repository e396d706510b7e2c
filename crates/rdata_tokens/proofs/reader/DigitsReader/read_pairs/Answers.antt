use Rattle.std.proofs.Common.{◌≡◌, ◌≤◌, ◌∙◌, [], sym, ap, subst, take, length, arith}
use Rattle.std.specs.Prelude.{IfSome}
use Rattle.std.proofs.lemmas.Bool.{eqb-false}
use Rattle.rdata_tokens.specs.Reading.{DigitsState, AreWholePairs}
use Rattle.rdata_tokens.proofs.Pairs.{pairs_read}
use Rattle.rdata_tokens.proofs.reader.DigitsReader.read_pairs.Goals as goal

pub returns-in-Hex : goal.returns-in-Hex
returns-in-Hex c =
    let i = c.self.inside in
    let s : DigitsState = record { kind = i.kind; begun = take i.count i.held; ended = i.ended } in
    let zero : i.count ≡ 0 = omega (arith, c.if-self-gt0.false) in
    let none : take i.count i.held ≡ [] = ap (λ n. take n i.held) zero in
    let piece = c.args.piece.now in
    let new = c.read_hex.new.octets in
    subst (λ (s : DigitsState). IfSome c.read_hex.result (λ n. AreWholePairs s piece (take n new) × (n ≤ length new))) c.self.view_is
    (pairs_read s piece new c.read_hex.result c.in-Hex.is c.if-self.false none (eqb-false (length piece) 0 (sym c.is_empty.ensures ∙ c.if-is_empty.false)) c.read_hex.ensures)
