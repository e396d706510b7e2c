use Rattle.std.proofs.Common.{◌≡◌, refl, subst}
use Rattle.std.specs.Prelude.{Some, None}
use Rattle.zonetext_lib.specs.Compare.{SkipsToPart, part}
use Rattle.zonetext_lib.proofs.Comparing.{fault_taken, piece_within, taken_part, ended_part, ended_tokens, apart, both_on, none_in_step}
use Rattle.zonetext_lib.proofs.diff.diff.Goals as goal

pub loop-one-init : goal.loop-one-init
loop-one-init c = none_in_step c.args.first.now c.args.second.now c.of_octets-ours.result c.of_octets-theirs.result

pub locate-requires-clause-fault : goal.locate-requires-clause-fault
locate-requires-clause-fault c =
    let inv = c.loop-one.invariant in
    let s = subst (λ x. SkipsToPart c.loop-one.ended c.loop-one.ours (Some x) c.next_part.new.pieces) c.in-Err.is c.in-Some.ensures in
    fault_taken c.args.first.now c.of_octets-ours.result c.loop-one.ours c.next_part.new.pieces c.loop-one.ended inv.common c.in-Err.fault c.of_octets-ours.ensures.reads
    c.of_octets-ours.ensures.within inv.in_first s

pub position_of-requires-clause-within : goal.position_of-requires-clause-within
position_of-requires-clause-within c =
    let inv = c.loop-one.invariant in
    let s = subst (λ x. SkipsToPart c.loop-one.ended c.loop-one.ours (Some x) c.next_part.new.pieces) c.in-Ok.is c.in-Some.ensures in
    piece_within c.args.first.now c.of_octets-ours.result c.loop-one.ours c.next_part.new.pieces c.loop-one.ended inv.common c.in-Ok.one c.of_octets-ours.ensures.within inv.in_first s

pub position_of-requires-then-not-is_same-clause-within : goal.position_of-requires-then-not-is_same-clause-within
position_of-requires-then-not-is_same-clause-within c =
    let inv = c.loop-one.invariant in
    let s = subst (λ x. SkipsToPart c.loop-one.ended c.loop-one.ours (Some x) c.next_part.new.pieces) c.in-Ok.is c.in-Some.ensures in
    piece_within c.args.first.now c.of_octets-ours.result c.loop-one.ours c.next_part.new.pieces c.loop-one.ended inv.common c.in-Ok.one c.of_octets-ours.ensures.within inv.in_first s

pub is_same-requires-clause-one : goal.is_same-requires-clause-one
is_same-requires-clause-one c =
    let inv = c.loop-one.invariant in
    let s = subst (λ x. SkipsToPart c.loop-one.ended c.loop-one.ours (Some x) c.next_part.new.pieces) c.in-Ok.is c.in-Some.ensures in
    piece_within c.args.first.now c.of_octets-ours.result c.loop-one.ours c.next_part.new.pieces c.loop-one.ended inv.common c.in-Ok.one c.of_octets-ours.ensures.within inv.in_first s

pub is_same-requires-clause-other : goal.is_same-requires-clause-other
is_same-requires-clause-other c =
    let inv = c.loop-one.invariant in
    let t = subst (λ x. SkipsToPart c.loop-one.that_ended c.loop-one.theirs (Some x) c.next_part-in-Some.new.pieces) c.in-Ok-other.is c.in-Some-next_part.ensures in
    piece_within c.args.second.now c.of_octets-theirs.result c.loop-one.theirs c.next_part-in-Some.new.pieces c.loop-one.that_ended inv.common c.in-Ok-other.other
    c.of_octets-theirs.ensures.within inv.in_second t

pub position_of-place-requires-clause-within : goal.position_of-place-requires-clause-within
position_of-place-requires-clause-within c =
    let inv = c.loop-one.invariant in
    let t = subst (λ x. SkipsToPart c.loop-one.that_ended c.loop-one.theirs (Some x) c.next_part-in-Some.new.pieces) c.in-Ok-other.is c.in-Some-next_part.ensures in
    piece_within c.args.second.now c.of_octets-theirs.result c.loop-one.theirs c.next_part-in-Some.new.pieces c.loop-one.that_ended inv.common c.in-Ok-other.other
    c.of_octets-theirs.ensures.within inv.in_second t

pub locate-requires-in-Err-other-clause-fault : goal.locate-requires-in-Err-other-clause-fault
locate-requires-in-Err-other-clause-fault c =
    let inv = c.loop-one.invariant in
    let t = subst (λ x. SkipsToPart c.loop-one.that_ended c.loop-one.theirs (Some x) c.next_part-in-Some.new.pieces) c.in-Err-other.is c.in-Some-next_part.ensures in
    fault_taken c.args.second.now c.of_octets-theirs.result c.loop-one.theirs c.next_part-in-Some.new.pieces c.loop-one.that_ended inv.common c.in-Err-other.fault
    c.of_octets-theirs.ensures.reads c.of_octets-theirs.ensures.within inv.in_second t

pub returns-in-None : goal.returns-in-None
returns-in-None c =
    let inv = c.loop-one.invariant in
    let a = c.args.first.now in
    let b = c.args.second.now in
    let s = subst (λ x. SkipsToPart c.loop-one.ended c.loop-one.ours (Some x) c.next_part.new.pieces) c.in-Ok.is c.in-Some.ensures in
    let one = taken_part a c.of_octets-ours.result c.loop-one.ours c.next_part.new.pieces c.loop-one.ended inv.common c.in-Ok.one c.position_of.result c.of_octets-ours.ensures.reads
    c.of_octets-ours.ensures.within inv.in_first s c.position_of.ensures in
    let two = ended_part b c.of_octets-theirs.result c.loop-one.theirs c.next_part-in-Some.new.pieces c.loop-one.that_ended inv.common c.position_after-end.result
    c.of_octets-theirs.ensures.reads c.of_octets-theirs.ensures.within inv.in_second c.in-None.ensures c.position_after-end.ensures in
    apart a b inv.common (Some (part a c.loop-one.ended c.in-Ok.one)) None c.position_of.result c.position_after-end.result one two (λ e. cc)

pub returns-then-not-is_same : goal.returns-then-not-is_same
returns-then-not-is_same c =
    let inv = c.loop-one.invariant in
    let a = c.args.first.now in
    let b = c.args.second.now in
    let s = subst (λ x. SkipsToPart c.loop-one.ended c.loop-one.ours (Some x) c.next_part.new.pieces) c.in-Ok.is c.in-Some.ensures in
    let t = subst (λ x. SkipsToPart c.loop-one.that_ended c.loop-one.theirs (Some x) c.next_part-in-Some.new.pieces) c.in-Ok-other.is c.in-Some-next_part.ensures in
    let one = taken_part a c.of_octets-ours.result c.loop-one.ours c.next_part.new.pieces c.loop-one.ended inv.common c.in-Ok.one c.position_of-then-not-is_same.result
    c.of_octets-ours.ensures.reads c.of_octets-ours.ensures.within inv.in_first s c.position_of-then-not-is_same.ensures in
    let two = taken_part b c.of_octets-theirs.result c.loop-one.theirs c.next_part-in-Some.new.pieces c.loop-one.that_ended inv.common c.in-Ok-other.other c.position_of-place.result
    c.of_octets-theirs.ensures.reads c.of_octets-theirs.ensures.within inv.in_second t c.position_of-place.ensures in
    apart a b inv.common (Some (part a c.loop-one.ended c.in-Ok.one)) (Some (part b c.loop-one.that_ended c.in-Ok-other.other)) c.position_of-then-not-is_same.result
    c.position_of-place.result one two
    (λ e. let same : part a c.loop-one.ended c.in-Ok.one ≡ part b c.loop-one.that_ended c.in-Ok-other.other = cc in let told = c.if-not-is_same.ensures.1 same in cc)

pub loop-one-preserved : goal.loop-one-preserved
loop-one-preserved c =
    let s = subst (λ x. SkipsToPart c.loop-one.ended c.loop-one.ours (Some x) c.next_part.new.pieces) c.in-Ok.is c.in-Some.ensures in
    let t = subst (λ x. SkipsToPart c.loop-one.that_ended c.loop-one.theirs (Some x) c.next_part-in-Some.new.pieces) c.in-Ok-other.is c.in-Some-next_part.ensures in
    both_on c.args.first.now c.args.second.now c.of_octets-ours.result c.of_octets-theirs.result c.loop-one.ours c.loop-one.theirs c.next_part.new.pieces
    c.next_part-in-Some.new.pieces c.loop-one.ended c.loop-one.that_ended _ _ c.in-Ok.one c.in-Ok-other.other c.loop-one.invariant s t (c.if-not-is_same.ensures.0 refl)
    c.ended_at-ended.ensures c.ended_at-that_ended.ensures

pub returns-in-None-next_part : goal.returns-in-None-next_part
returns-in-None-next_part c =
    let inv = c.loop-one.invariant in
    let a = c.args.first.now in
    let b = c.args.second.now in (
      inv.common,
      ended_tokens a c.of_octets-ours.result c.loop-one.ours c.next_part.new.pieces c.loop-one.ended inv.common c.of_octets-ours.ensures.reads inv.in_first c.in_default.ensures,
      ended_tokens b c.of_octets-theirs.result c.loop-one.theirs c.next_part-2.new.pieces c.loop-one.that_ended inv.common c.of_octets-theirs.ensures.reads inv.in_second
          c.in-None-next_part.ensures,
    )

pub position_of-requires-in-Ok-other-2-clause-within : goal.position_of-requires-in-Ok-other-2-clause-within
position_of-requires-in-Ok-other-2-clause-within c =
    let inv = c.loop-one.invariant in
    let t = subst (λ x. SkipsToPart c.loop-one.that_ended c.loop-one.theirs (Some x) c.next_part-2.new.pieces) c.in-Ok-other-2.is c.in-Some-next_part-2.ensures in
    piece_within c.args.second.now c.of_octets-theirs.result c.loop-one.theirs c.next_part-2.new.pieces c.loop-one.that_ended inv.common c.in-Ok-other-2.other
    c.of_octets-theirs.ensures.within inv.in_second t

pub locate-requires-in-Err-other-2-clause-fault : goal.locate-requires-in-Err-other-2-clause-fault
locate-requires-in-Err-other-2-clause-fault c =
    let inv = c.loop-one.invariant in
    let t = subst (λ x. SkipsToPart c.loop-one.that_ended c.loop-one.theirs (Some x) c.next_part-2.new.pieces) c.in-Err-other-2.is c.in-Some-next_part-2.ensures in
    fault_taken c.args.second.now c.of_octets-theirs.result c.loop-one.theirs c.next_part-2.new.pieces c.loop-one.that_ended inv.common c.in-Err-other-2.fault
    c.of_octets-theirs.ensures.reads c.of_octets-theirs.ensures.within inv.in_second t

pub returns-in-Ok-other-2 : goal.returns-in-Ok-other-2
returns-in-Ok-other-2 c =
    let inv = c.loop-one.invariant in
    let a = c.args.first.now in
    let b = c.args.second.now in
    let t = subst (λ x. SkipsToPart c.loop-one.that_ended c.loop-one.theirs (Some x) c.next_part-2.new.pieces) c.in-Ok-other-2.is c.in-Some-next_part-2.ensures in
    let one = ended_part a c.of_octets-ours.result c.loop-one.ours c.next_part.new.pieces c.loop-one.ended inv.common c.position_after.result c.of_octets-ours.ensures.reads
    c.of_octets-ours.ensures.within inv.in_first c.in_default.ensures c.position_after.ensures in
    let two = taken_part b c.of_octets-theirs.result c.loop-one.theirs c.next_part-2.new.pieces c.loop-one.that_ended inv.common c.in-Ok-other-2.other c.position_of-in-Ok-other-2.result
    c.of_octets-theirs.ensures.reads c.of_octets-theirs.ensures.within inv.in_second t c.position_of-in-Ok-other-2.ensures in
    apart a b inv.common None (Some (part b c.loop-one.that_ended c.in-Ok-other-2.other)) c.position_after.result c.position_of-in-Ok-other-2.result one two (λ e. cc)
