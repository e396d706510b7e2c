use Rattle.std.proofs.Common.{◌≡◌, ℕ, ◌+◌, ◌-◌, ◌∙◌, Ok, length, take, drop, get_or, set, refl, sym, ap, subst, arith}
use Rattle.std.specs.Int.{w16, to_be_bytes}
use Rattle.rdata_svcb.specs.ParamsFaults.{FindsPlace}
use Rattle.rdata_svcb.proofs.Settling.{sizes, others_of, key_behind, size_set, turned_at}
use Rattle.rdata_svcb.proofs.params.settle_last.Goals as goal

pub returns-clause-settled : goal.returns-clause-settled
returns-clause-settled c = λ params key value fit l ea unsettled.
    let octets = c.args.octets.now in let at = c.args.at in
    let size = unsettled.0 in
    let long = sizes octets size value params key at unsettled.1 unsettled.2 ea in
    let others = others_of octets size value params key at unsettled.2 ea in
    let key_is : c.from_be_bytes-key.result ≡ key = c.from_be_bytes-key.ensures ∙ key_behind octets size value params key at l unsettled.2 ea in
    let P : ℕ → Type 0 = λ k. FindsPlace params k (take at octets) (Ok c.in_ok-place.place) in
    let found = subst P key_is (c.in_ok-place.ensures.place params fit others) in
    let bytes : c.to_be_bytes-size.result ≡ to_be_bytes w16 (length value) = c.to_be_bytes-size.ensures ∙ ap (to_be_bytes w16) (omega arith) in
    let sized = set (set octets (at + 2) (get_or c.to_be_bytes-size.result 0 0)) (at + 3) (get_or c.to_be_bytes-size.result 1 0) in (
      omega arith,
      found.0,
      turned_at params key c.in_ok-place.place at (length sized - c.in_ok-place.place) value sized c.rotate_left.new.self l ea (omega (arith, c.in_ok-place.ensures.within, ap length others)) found.0
          (ap (take c.in_ok-place.place) (sym others) ∙ found.1) (ap (drop c.in_ok-place.place) (sym others) ∙ found.2)
          (size_set octets size value params key at unsettled.1 unsettled.2 ea c.to_be_bytes-size.result bytes) refl c.rotate_left.ensures.after,
    )
