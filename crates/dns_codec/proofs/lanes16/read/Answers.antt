use Rattle.std.proofs.Common.{◌≡◌, ℕ, ◌+◌, ◌*◌, ◌<◌, ◌++◌, ◌∙◌, take, drop, map, slice_index, ap, refl, sym, arith}
use Rattle.std.specs.List.{AllByRecursion}
use Rattle.std.proofs.lemmas.Simd.{take_more_put_chunk}
use Rattle.dns_codec.specs.Bits.{whole}
use Rattle.dns_codec.specs.declared.read.TheConstants.{VALUES16}
use Rattle.dns_codec.proofs.Vectors.{both_low, loaded_long, read_next}
use Rattle.dns_codec.proofs.VectorsOf16.{two_loaded}
use Rattle.dns_codec.proofs.Wholes.{whole-nil}
use Rattle.dns_codec.proofs.lanes16.read.Goals as goal

pub loop-block-init : goal.loop-block-init
loop-block-init c = record { values = tt; octets = sym (whole-nil 4) }

pub octets_of-requires : goal.octets_of-requires
octets_of-requires c =
    let test = c.loop-block-test.true in
    let min = c.min-blocks.ensures in
    let at : ℕ = 2 * (c.loop-block.block * 16) in
    let front = loaded_long (slice_index VALUES16) at c.args.text.now c.values-front.result (omega arith) c.values-front.ensures in
    let back = loaded_long (slice_index VALUES16) (at + 16) c.args.text.now c.values-back.result (omega arith) c.values-back.ensures in
    both_low 16 c.values-front.result c.values-back.result front back c.if-seen-ne65535.false

pub loop-block-preserved : goal.loop-block-preserved
loop-block-preserved c =
    let to : ℕ = c.loop-block.block * 16 in
    let from : ℕ = to * 2 in
    let i = c.loop-block.invariant in
    let test = c.loop-block-test.true in
    let kept = c.loop-block.auto.octets in
    let min = c.min-blocks.ensures in
    let at : ℕ = 2 * to in
    let same : at ≡ from = omega arith in
    let front = loaded_long (slice_index VALUES16) at c.args.text.now c.values-front.result (omega arith) c.values-front.ensures in
    let back = loaded_long (slice_index VALUES16) (at + 16) c.args.text.now c.values-back.result (omega arith) c.values-back.ensures in
    let loaded : c.values-front.result ++ c.values-back.result ≡ map (slice_index VALUES16) (take 32 (drop from c.args.text.now)) =
    two_loaded (slice_index VALUES16) at c.args.text.now c.values-front.result c.values-back.result c.values-front.ensures c.values-back.ensures ∙ rw same refl in
    let low : AllByRecursion (λ v. v < 16) (map (slice_index VALUES16) (take 32 (drop from c.args.text.now))) =
    rw (← loaded) (both_low 16 c.values-front.result c.values-back.result front back c.if-seen-ne65535.false) in
    let len = c.octets_of.ensures.len in
    let stored = take_more_put_chunk to c.loop-block.octets c.octets_of.result (to + 16) (omega arith) (omega arith) in
    let e : (c.loop-block.block + 1) * 16 * 2 ≡ from + 32 = omega arith in
    let f : (c.loop-block.block + 1) * 16 ≡ to + 16 = omega arith in
    let step = read_next 4 from 32 to (to + 16) VALUES16 c.args.text.now c.loop-block.octets _ (omega arith) (omega arith) i.values low i.octets
    (stored ∙ ap (λ xs. take to c.loop-block.octets ++ xs) (c.octets_of.ensures.octets ∙ ap (whole 4) loaded)) in
    record { values = rw e step.0; octets = rw (e, f) step.1 }
