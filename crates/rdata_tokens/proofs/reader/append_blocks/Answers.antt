use Rattle.std.proofs.Common.{◌∙◌, ◌≤◌, ◌+◌, ◌*◌, ◌/◌, ℕ, List, [], ◌++◌, sym, ap, append-nil, take, arith}
use Rattle.std.proofs.lemmas.List.{append_assoc}
use Rattle.std.proofs.lemmas.Result.{err_from_is_err_and}
use Rattle.rdata_tokens.proofs.Pieces.{zero_whole}
use Rattle.rdata_tokens.proofs.Blocks.{no_blocks, block_end, least_min, more_blocks, front_whole, no_room, some_room}
use Rattle.rdata_tokens.proofs.reader.append_blocks.Goals as goal

pub loop-at-init : goal.loop-at-init
loop-at-init g c = let none = no_blocks c.args.kind c.args.digits.now in (c.requires, zero_whole c.args.kind, ([], none.spelled, none.closed, sym (append-nil _)))

pub returns-in_err-append_slice-clause-err : goal.returns-in_err-append_slice-clause-err
returns-in_err-append_slice-clause-err g c =
    let p = err_from_is_err_and c.from_residual.result c.from_residual.ensures.1 in
    let before = c.loop-at.invariant in
    let at : ℕ = c.loop-at.at in
    let gained : List ℕ = before.2.0 in
    let more : List ℕ = take c.in-Some.count c.read_block.new.octets in
    let read = c.in-Some.ensures in
    let next : ℕ = at + c.min.result / c.group-size.result * c.group-size.result in
    let end = block_end c.args.kind c.group-size.result at c.min.result _ c.group-size.ensures before.1 (least_min _ 320 c.min.result c.min.ensures) c.loop-at-test.true in
    let on : at ≤ next = omega arith in
    let blocks = more_blocks c.args.kind c.args.digits.now at next gained more (record { spelled = before.2.1; closed = before.2.2 }) on read.0 read.2 in
    let full = no_room g.B.OctetsBuilder.room.fits (g.B.AsOctets.octets c.args.target.now) (g.B.AsOctets.octets c.loop-at.target) gained more before.2.3 (λ fits. cc (c.in_err-append_slice.ensures.fits fits)) in
    let some = some_room g.B.OctetsBuilder.room.fits (g.B.AsOctets.octets c.loop-at.target) gained more (λ fits. cc (c.in_err-append_slice.ensures.fits fits)) in
    rw p.1 (next, end.0, front_whole c.args.kind c.args.digits.now next end.0 end.1, (gained ++ more, blocks.spelled, blocks.closed, some, full))

pub loop-at-preserved : goal.loop-at-preserved
loop-at-preserved g c =
    let before = c.loop-at.invariant in
    let at : ℕ = c.loop-at.at in
    let gained : List ℕ = before.2.0 in
    let more : List ℕ = take c.in-Some.count c.read_block.new.octets in
    let read = c.in-Some.ensures in
    let next : ℕ = at + c.min.result / c.group-size.result * c.group-size.result in
    let end = block_end c.args.kind c.group-size.result at c.min.result _ c.group-size.ensures before.1 (least_min _ 320 c.min.result c.min.ensures) c.loop-at-test.true in
    let on : at ≤ next = omega arith in
    let blocks = more_blocks c.args.kind c.args.digits.now at next gained more (record { spelled = before.2.1; closed = before.2.2 }) on read.0 read.2 in (
      end.0,
      end.1,
      (
        gained ++ more,
        blocks.spelled,
        blocks.closed,
        c.in_ok-append_slice.ensures.ok ∙ (ap (λ t. t ++ more) before.2.3 ∙ append_assoc (g.B.AsOctets.octets c.args.target.now) gained more),
      ),
    )
