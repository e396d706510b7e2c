use Rattle.std.proofs.Common.{◌<◌, ◌+◌, ◌*◌, ℕ, get_or, sym, refl, arith, length, append-nil, add-zero}
use Rattle.std.proofs.lemmas.Grind.{common_steps}
use Rattle.dns_codec.proofs.Encoding.{digits-nil}
use Rattle.dns_codec.proofs.Halves.{pair_step, pair_rest}
use Rattle.dns_codec.proofs.pairs.put_pairs.Goals as goal

pub loop-place-init : goal.loop-place-init
loop-place-init c = record { text = rw (digits-nil 4 (omega arith), add-zero) (sym (append-nil _)); rest = refl }

pub loop-place-preserved : goal.loop-place-preserved
loop-place-preserved c =
    let bytes : (k : ℕ) → get_or c.args.octets.now k 0 < 256 = λ k. (let fits = c.type_inv.octets k in omega arith) in
    let inside : c.args.at + 2 * c.loop-place.place + 1 < length c.loop-place.text = grind (arith, common_steps) in
    record {
      text = pair_step c.args.at c.loop-place.place c.pairs-characters.result.now c.args.octets.now c.args.text.now c.loop-place.text c.pairs-characters.ensures.pairs
          bytes c.loop-place-test.true inside c.loop-place.invariant.text;
      rest = pair_rest c.args.at c.loop-place.place _ _ c.args.text.now c.loop-place.text c.loop-place.invariant.rest;
    }
