use Rattle.std.proofs.Common.{◌≡◌, ℕ, ◌+◌, ◌*◌, ◌<◌, ◌++◌, ◌∙◌, get_or, slice_index, length, take, drop, map, ap, refl, arith}
use Rattle.std.proofs.lemmas.List.{length-map, take-take}
use Rattle.std.proofs.lemmas.Simd.{take_more_put_chunk}
use Rattle.dns_codec.specs.Base.{base64}
use Rattle.dns_codec.specs.Bits.{digits}
use Rattle.dns_codec.proofs.Encoding.{digits-nil}
use Rattle.dns_codec.proofs.Fitting.{drop_on}
use Rattle.dns_codec.proofs.Vectors.{kept_after, put_next}
use Rattle.dns_codec.proofs.lanes64.put.Goals as goal

pub loop-block-init : goal.loop-block-init
loop-block-init c = record { text = rw (digits-nil 6 (omega arith)) refl; rest = refl }

pub characters-requires : goal.characters-requires
characters-requires c = c.digits_of-digits.ensures.low

pub loop-block-preserved : goal.loop-block-preserved
loop-block-preserved c =
    let from : ℕ = c.loop-block.block * 12 in
    let at : ℕ = c.loop-block.block * 16 in
    let i = c.loop-block.invariant in
    let g : c.loop-block.block * 4 * 4 ≡ c.loop-block.block * 16 = omega arith in
    let h : c.loop-block.block * 4 * 3 ≡ c.loop-block.block * 12 = omega arith in
    let test = c.loop-block-test.true in
    let room = c.requires in
    let kept = c.loop-block.auto.text in
    let bytes : (k : ℕ) → get_or c.args.octets.now k 0 < 256 = λ k. (let fits = c.type_inv.octets k in omega arith) in
    let a : ℕ → ℕ = slice_index base64.alphabet in
    let put : c.characters.result ≡ map a (digits 6 (take 12 (drop from c.args.octets.now))) =
    c.characters.ensures ∙ ap (map a) (c.digits_of-digits.ensures.digits ∙ ap (digits 6) (take-take 12 16 (drop from c.args.octets.now) (omega arith))) in
    let len : length c.characters.result ≡ 16 = ap length c.characters.ensures ∙ (length-map c.digits_of-digits.result a ∙ c.digits_of-digits.ensures.len) in
    let stored = take_more_put_chunk at c.loop-block.text c.characters.result (at + 16) (omega arith) (omega arith) in
    let after = kept_after at (at + 16) c.loop-block.text c.characters.result (omega arith) in
    let e : (c.loop-block.block + 1) * 4 * 4 ≡ at + 16 = omega arith in
    let f : (c.loop-block.block + 1) * 4 * 3 ≡ from + 12 = omega arith in
    record {
      text = rw (e, f) (put_next 6 from 12 at (at + 16) base64.alphabet c.args.octets.now c.loop-block.text _ (omega arith) bytes (omega arith) (omega arith) (rw (g, h) at i.text)
          (stored ∙ ap (λ xs. take at c.loop-block.text ++ xs) put));
      rest = rw e (after ∙ drop_on at (at + 16) c.loop-block.text c.args.text.now (omega arith) (rw g at i.rest));
    }
