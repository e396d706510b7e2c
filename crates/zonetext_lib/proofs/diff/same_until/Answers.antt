use Rattle.std.proofs.Common.{refl}
use Rattle.dns_lexer.proofs.OctetsOnce.{are_octets}
use Rattle.zonetext_lib.proofs.Comparing.{both_on, none_in_step, piece_within}
use Rattle.zonetext_lib.proofs.Same.{cut_both, found_skips, last_end, last_token, none_last, none_same}
use Rattle.zonetext_lib.proofs.diff.same_until.Goals as goal

pub parts-init : goal.parts-init
parts-init c =
    let a = c.args.first.now in
    let b = c.args.second.now in
    let ours = c.of_octets-ours.result in
    let theirs = c.of_octets-theirs.result in
    record { step = none_in_step a b ours theirs; last = none_last a b ours theirs; cut = none_same a b }

pub returns-in_default : goal.returns-in_default
returns-in_default c =
    let a = c.args.first.now in
    let b = c.args.second.now in
    let all = c.of_octets-ours in
    let others = c.of_octets-theirs in
    let l = c.parts in
    let one = c.next_after-one in
    let other = c.next_after-other in
    cut_both a b all.result others.result l.ours l.theirs l.ended l.that_ended l.last l.that_last l.cut l.that_cut one.result.1 other.result.1 c.newer-cut.result c.newer-that_cut.result
    (are_octets a (λ k. (c.type_inv.first k).fits)) (are_octets b (λ k. (c.type_inv.second k).fits)) (all.ensures.reads, all.ensures.within) (others.ensures.reads, others.ensures.within)
    l.invariant.last one.ensures.cut other.ensures.cut l.invariant.cut c.newer-cut.ensures c.newer-that_cut.ensures

pub returns-in_default-2 : goal.returns-in_default-2
returns-in_default-2 c =
    let a = c.args.first.now in
    let b = c.args.second.now in
    let all = c.of_octets-ours in
    let others = c.of_octets-theirs in
    let l = c.parts in
    let one = c.next_after-one in
    let other = c.next_after-other in
    cut_both a b all.result others.result l.ours l.theirs l.ended l.that_ended l.last l.that_last l.cut l.that_cut one.result.1 other.result.1 c.newer-cut.result c.newer-that_cut.result
    (are_octets a (λ k. (c.type_inv.first k).fits)) (are_octets b (λ k. (c.type_inv.second k).fits)) (all.ensures.reads, all.ensures.within) (others.ensures.reads, others.ensures.within)
    l.invariant.last one.ensures.cut other.ensures.cut l.invariant.cut c.newer-cut.ensures c.newer-that_cut.ensures

pub returns-in_default-other : goal.returns-in_default-other
returns-in_default-other c =
    let a = c.args.first.now in
    let b = c.args.second.now in
    let all = c.of_octets-ours in
    let others = c.of_octets-theirs in
    let l = c.parts in
    let one = c.next_after-one in
    let other = c.next_after-other in
    cut_both a b all.result others.result l.ours l.theirs l.ended l.that_ended l.last l.that_last l.cut l.that_cut one.result.1 other.result.1 c.newer-cut.result c.newer-that_cut.result
    (are_octets a (λ k. (c.type_inv.first k).fits)) (are_octets b (λ k. (c.type_inv.second k).fits)) (all.ensures.reads, all.ensures.within) (others.ensures.reads, others.ensures.within)
    l.invariant.last one.ensures.cut other.ensures.cut l.invariant.cut c.newer-cut.ensures c.newer-that_cut.ensures

pub returns-in_default-other-2 : goal.returns-in_default-other-2
returns-in_default-other-2 c =
    let a = c.args.first.now in
    let b = c.args.second.now in
    let all = c.of_octets-ours in
    let others = c.of_octets-theirs in
    let l = c.parts in
    let one = c.next_after-one in
    let other = c.next_after-other in
    cut_both a b all.result others.result l.ours l.theirs l.ended l.that_ended l.last l.that_last l.cut l.that_cut one.result.1 other.result.1 c.newer-cut.result c.newer-that_cut.result
    (are_octets a (λ k. (c.type_inv.first k).fits)) (are_octets b (λ k. (c.type_inv.second k).fits)) (all.ensures.reads, all.ensures.within) (others.ensures.reads, others.ensures.within)
    l.invariant.last one.ensures.cut other.ensures.cut l.invariant.cut c.newer-cut.ensures c.newer-that_cut.ensures

pub returns-then-not-is_same : goal.returns-then-not-is_same
returns-then-not-is_same c =
    let a = c.args.first.now in
    let b = c.args.second.now in
    let all = c.of_octets-ours in
    let others = c.of_octets-theirs in
    let l = c.parts in
    let one = c.next_after-one in
    let other = c.next_after-other in
    cut_both a b all.result others.result l.ours l.theirs l.ended l.that_ended l.last l.that_last l.cut l.that_cut one.result.1 other.result.1 c.newer-cut.result c.newer-that_cut.result
    (are_octets a (λ k. (c.type_inv.first k).fits)) (are_octets b (λ k. (c.type_inv.second k).fits)) (all.ensures.reads, all.ensures.within) (others.ensures.reads, others.ensures.within)
    l.invariant.last one.ensures.cut other.ensures.cut l.invariant.cut c.newer-cut.ensures c.newer-that_cut.ensures

pub is_same-requires-clause-one : goal.is_same-requires-clause-one
is_same-requires-clause-one c =
    let inv = c.parts.invariant.step in
    let s = found_skips c.parts.ended c.parts.ours c.next_after-one.new.pieces c.next_after-one.result.0 c.in-Some-Ok.field-0 c.in-Some-Ok.one c.in-Some-Ok.is (rw c.in-Some-Ok.is at c.in-Some-Ok.field-0-is)
    c.next_after-one.ensures.part in
    piece_within c.args.first.now c.of_octets-ours.result c.parts.ours c.next_after-one.new.pieces c.parts.ended inv.common c.in-Some-Ok.one c.of_octets-ours.ensures.within inv.in_first s

pub is_same-requires-clause-other : goal.is_same-requires-clause-other
is_same-requires-clause-other c =
    let inv = c.parts.invariant.step in
    let t = found_skips c.parts.that_ended c.parts.theirs c.next_after-other.new.pieces c.next_after-other.result.0 c.in-Some-Ok-other.field-0 c.in-Some-Ok-other.other c.in-Some-Ok-other.is
    (rw c.in-Some-Ok-other.is at c.in-Some-Ok-other.field-0-is) c.next_after-other.ensures.part in
    piece_within c.args.second.now c.of_octets-theirs.result c.parts.theirs c.next_after-other.new.pieces c.parts.that_ended inv.common c.in-Some-Ok-other.other
    c.of_octets-theirs.ensures.within inv.in_second t

pub parts-preserved-in-End : goal.parts-preserved-in-End
parts-preserved-in-End c =
    let s = found_skips c.parts.ended c.parts.ours c.next_after-one.new.pieces c.next_after-one.result.0 c.in-Some-Ok.field-0 c.in-Some-Ok.one c.in-Some-Ok.is (rw c.in-Some-Ok.is at c.in-Some-Ok.field-0-is)
    c.next_after-one.ensures.part in
    let t = found_skips c.parts.that_ended c.parts.theirs c.next_after-other.new.pieces c.next_after-other.result.0 c.in-Some-Ok-other.field-0 c.in-Some-Ok-other.other c.in-Some-Ok-other.is
    (rw c.in-Some-Ok-other.is at c.in-Some-Ok-other.field-0-is) c.next_after-other.ensures.part in
    let a = c.args.first.now in
    let b = c.args.second.now in
    let all = c.of_octets-ours in
    let others = c.of_octets-theirs in
    let l = c.parts in
    let one = c.next_after-one in
    let other = c.next_after-other in
    let cut =
    cut_both a b all.result others.result l.ours l.theirs l.ended l.that_ended l.last l.that_last l.cut l.that_cut one.result.1 other.result.1 c.newer-cut.result c.newer-that_cut.result
    (are_octets a (λ k. (c.type_inv.first k).fits)) (are_octets b (λ k. (c.type_inv.second k).fits)) (all.ensures.reads, all.ensures.within) (others.ensures.reads, others.ensures.within)
    l.invariant.last one.ensures.cut other.ensures.cut l.invariant.cut c.newer-cut.ensures c.newer-that_cut.ensures in
    let new = one.new.pieces in
    let that_new = other.new.pieces in
    let p = c.in-Some-Ok.one in
    let q = c.in-Some-Ok-other.other in
    let same = c.if-not-is_same.ensures.0 refl in
    let next = c.ended_at-ended in
    let that_next = c.ended_at-that_ended in
    let inv = l.invariant in
    record {
      step = both_on a b all.result others.result l.ours l.theirs new that_new l.ended l.that_ended next.result that_next.result p q inv.step s t same next.ensures that_next.ensures;
      last = last_end a b all.result others.result l.ours l.theirs new that_new l.ended l.that_ended next.result that_next.result c.piece_start-that_last.result inv.step.common p q c.in-End.end
          c.in-End.is s t same c.piece_start-that_last.ensures inv.step.in_first inv.step.in_second;
      cut = cut;
    }

pub parts-preserved : goal.parts-preserved
parts-preserved c =
    let s = found_skips c.parts.ended c.parts.ours c.next_after-one.new.pieces c.next_after-one.result.0 c.in-Some-Ok.field-0 c.in-Some-Ok.one c.in-Some-Ok.is (rw c.in-Some-Ok.is at c.in-Some-Ok.field-0-is)
    c.next_after-one.ensures.part in
    let t = found_skips c.parts.that_ended c.parts.theirs c.next_after-other.new.pieces c.next_after-other.result.0 c.in-Some-Ok-other.field-0 c.in-Some-Ok-other.other c.in-Some-Ok-other.is
    (rw c.in-Some-Ok-other.is at c.in-Some-Ok-other.field-0-is) c.next_after-other.ensures.part in
    let a = c.args.first.now in
    let b = c.args.second.now in
    let all = c.of_octets-ours in
    let others = c.of_octets-theirs in
    let l = c.parts in
    let one = c.next_after-one in
    let other = c.next_after-other in
    let cut =
    cut_both a b all.result others.result l.ours l.theirs l.ended l.that_ended l.last l.that_last l.cut l.that_cut one.result.1 other.result.1 c.newer-cut.result c.newer-that_cut.result
    (are_octets a (λ k. (c.type_inv.first k).fits)) (are_octets b (λ k. (c.type_inv.second k).fits)) (all.ensures.reads, all.ensures.within) (others.ensures.reads, others.ensures.within)
    l.invariant.last one.ensures.cut other.ensures.cut l.invariant.cut c.newer-cut.ensures c.newer-that_cut.ensures in
    let new = one.new.pieces in
    let that_new = other.new.pieces in
    let p = c.in-Some-Ok.one in
    let q = c.in-Some-Ok-other.other in
    let same = c.if-not-is_same.ensures.0 refl in
    let next = c.ended_at-ended in
    let that_next = c.ended_at-that_ended in
    let inv = l.invariant in
    record {
      step = both_on a b all.result others.result l.ours l.theirs new that_new l.ended l.that_ended next.result that_next.result p q inv.step s t same next.ensures that_next.ensures;
      last = last_token a b all.result others.result l.ours l.theirs new that_new l.ended l.that_ended next.result that_next.result l.last l.that_last p q s t c.in_default-one.not-End same next.ensures
          that_next.ensures inv.last;
      cut = cut;
    }
