use Rattle.std.proofs.Common.{◌≡◌, ◌≤◌, ℕ, List, [], ap, subst, take, length, arith}
use Rattle.rdata_tokens.specs.Reading.{DigitsState, AcceptsPiece, RefusesPiece}
use Rattle.rdata_values.specs.declared.error.ErrorKind.TheVariants.{ShortBuf}
use Rattle.rdata_tokens.proofs.Blocks.{takes_blocks, lacks_blocks}
use Rattle.rdata_tokens.proofs.reader.DigitsReader.read_whole_groups.Goals as goal

pub returns-in-Ok-clause-ok : goal.returns-in-Ok-clause-ok
returns-in-Ok-clause-ok g c =
    let i = c.self.inside in
    let s : DigitsState = record { kind = i.kind; begun = take i.count i.held; ended = i.ended } in
    let zero : i.count ≡ 0 = omega (arith, c.if-self-gt0.false) in
    let none : take i.count i.held ≡ [] = ap (λ n. take n i.held) zero in
    let read = c.in-Ok.ensures.ok in
    let n : ℕ = c.in-Ok.count in
    let within : n ≤ length c.args.digits.now = omega (arith, read.0) in
    let gained = read.2 in
    let takes = takes_blocks s c.args.digits.now c.if-self.false none n gained.0 read.1 gained.1 gained.2 in
    (within, (gained.0, subst (λ (s : DigitsState). AcceptsPiece s (take n c.args.digits.now) gained.0 s) c.self.view_is takes, gained.3))

pub returns-in-Err-clause-err : goal.returns-in-Err-clause-err
returns-in-Err-clause-err g c =
    let i = c.self.inside in
    let s : DigitsState = record { kind = i.kind; begun = take i.count i.held; ended = i.ended } in
    let zero : i.count ≡ 0 = omega (arith, c.if-self-gt0.false) in
    let none : take i.count i.held ≡ [] = ap (λ n. take n i.held) zero in
    let read = c.in-Err.ensures.err in
    let gained = read.3 in
    let old : List ℕ = g.B.AsOctets.octets c.args.target.now in
    subst (λ (s : DigitsState). RefusesPiece g.B.OctetsBuilder.room s c.args.digits.now old ShortBuf) c.self.view_is
    (lacks_blocks s c.args.digits.now c.if-self.false none g.B.OctetsBuilder.room old read.0 gained.0 read.2 gained.1 (λ empty. let z = ap length empty in omega (arith, z, read.1)) gained.3 gained.4)
