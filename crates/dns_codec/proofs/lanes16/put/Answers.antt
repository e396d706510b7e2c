use Rattle.std.proofs.Common.{◌≡◌, ℕ, ◌+◌, ◌*◌, ◌<◌, ◌++◌, ◌∙◌, get_or, take, ap, refl, arith}
use Rattle.dns_codec.specs.Base.{base16}
use Rattle.dns_codec.proofs.Encoding.{digits-nil}
use Rattle.dns_codec.proofs.Fitting.{drop_on}
use Rattle.dns_codec.proofs.Vectors.{put_next}
use Rattle.dns_codec.proofs.VectorsOf16.{two_stored}
use Rattle.dns_codec.proofs.lanes16.put.Goals as goal

pub loop-block-init : goal.loop-block-init
loop-block-init c = record { text = rw (digits-nil 4 (omega arith)) refl; rest = refl }

pub loop-block-preserved : goal.loop-block-preserved
loop-block-preserved c =
    let from : ℕ = c.loop-block.block * 16 in
    let at : ℕ = 2 * from in
    let i = c.loop-block.invariant in
    let test = c.loop-block-test.true in
    let room = c.requires in
    let kept = c.loop-block.auto.text in
    let bytes : (k : ℕ) → get_or c.args.octets.now k 0 < 256 = λ k. (let fits = c.type_inv.octets k in omega arith) in
    let stored = two_stored at c.loop-block.text c.text_of.result.0 c.text_of.result.1 c.text_of.ensures.front c.text_of.ensures.back (omega arith) in
    let e : 2 * ((c.loop-block.block + 1) * 16) ≡ at + 32 = omega arith in
    let f : (c.loop-block.block + 1) * 16 ≡ from + 16 = omega arith in
    record {
      text = rw (e, f) (put_next 4 from 16 at (at + 32) base16.alphabet c.args.octets.now c.loop-block.text _ (omega arith) bytes (omega arith) (omega arith) i.text (stored.0 ∙ ap (λ xs. take at c.loop-block.text ++ xs) c.text_of.ensures.text));
      rest = rw e (stored.1 ∙ drop_on at (at + 32) c.loop-block.text c.args.text.now (omega arith) i.rest);
    }
