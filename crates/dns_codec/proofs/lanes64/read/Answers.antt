use Rattle.std.proofs.Common.{◌≡◌, ℕ, ◌+◌, ◌*◌, ◌<◌, ◌++◌, ◌∙◌, take, drop, map, slice_index, ap, sym, arith}
use Rattle.std.specs.List.{AllByRecursion}
use Rattle.dns_codec.specs.Bits.{whole}
use Rattle.dns_codec.specs.declared.read.TheConstants.{VALUES64}
use Rattle.dns_codec.proofs.Vectors.{all_low, loaded_long, read_next}
use Rattle.dns_codec.proofs.VectorsOf64.{stored_front}
use Rattle.dns_codec.proofs.Wholes.{whole-nil}
use Rattle.dns_codec.proofs.lanes64.read.Goals as goal

pub loop-block-init : goal.loop-block-init
loop-block-init c = record { values = tt; octets = sym (whole-nil 6) }

pub octets_of-requires : goal.octets_of-requires
octets_of-requires c =
    let test = c.loop-block-test.true in
    let min = c.min-blocks.ensures in
    let long = loaded_long (slice_index VALUES64) (c.loop-block.block * 16) c.args.text.now c.values-values.result (omega arith) c.values-values.ensures in
    all_low 64 c.values-values.result long c.if-values-ne65535.false

pub loop-block-preserved : goal.loop-block-preserved
loop-block-preserved c =
    let to : ℕ = c.loop-block.block * 12 in
    let from : ℕ = c.loop-block.block * 16 in
    let i = c.loop-block.invariant in
    let g : c.loop-block.block * 4 * 4 ≡ c.loop-block.block * 16 = omega arith in
    let h : c.loop-block.block * 4 * 3 ≡ c.loop-block.block * 12 = omega arith in
    let test = c.loop-block-test.true in
    let kept = c.loop-block.auto.octets in
    let min = c.min-blocks.ensures in
    let long = loaded_long (slice_index VALUES64) from c.args.text.now c.values-values.result (omega arith) c.values-values.ensures in
    let loaded : c.values-values.result ≡ map (slice_index VALUES64) (take 16 (drop from c.args.text.now)) = c.values-values.ensures in
    let low : AllByRecursion (λ v. v < 64) (map (slice_index VALUES64) (take 16 (drop from c.args.text.now))) = rw (← loaded) (all_low 64 c.values-values.result long c.if-values-ne65535.false) in
    let len = c.octets_of.ensures.len in
    let stored = stored_front to 12 c.loop-block.octets c.octets_of.result (omega arith) (omega arith) in
    let e : (c.loop-block.block + 1) * 4 * 4 ≡ from + 16 = omega arith in
    let f : (c.loop-block.block + 1) * 4 * 3 ≡ to + 12 = omega arith in
    let step = read_next 6 from 16 to (to + 12) VALUES64 c.args.text.now c.loop-block.octets _ (omega arith) (omega arith) (rw g at i.values) low (rw (g, h) at i.octets)
    (stored ∙ ap (λ xs. take to c.loop-block.octets ++ xs) (c.octets_of.ensures.octets ∙ ap (whole 6) loaded)) in
    record { values = rw e step.0; octets = rw (e, f) step.1 }
