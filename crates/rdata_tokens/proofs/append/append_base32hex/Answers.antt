use Rattle.std.proofs.Common.{◌∙◌, ◌<◌, ◌++◌, ◌∷◌, List, ℕ, ap, sym, refl, inl, inr, take, arith}
use Rattle.dns_codec.proofs.Fronts.{at_no_err}
use Rattle.rdata_tokens.proofs.TakenDigit.{not_ok}
use Rattle.rdata_tokens.proofs.TokenLemmas.{hash_absent, hash_empty, hash_wire, hash_exceeds, wire_of}
use Rattle.rdata_tokens.proofs.append.append_base32hex.Goals as goal
use Rattle.rdata_tokens.proofs.append.append_base32hex.Goals.{in_default-via-in-Some+else-count-gt0, in_default-via-in_default}

pub returns-in_default-clause-err : goal.returns-in_default-clause-err
returns-in_default-clause-err g c = inr (
  c.hash_error.ensures,
  elim c.in_default.branch [
    | in_default-via-in-Some+else-count-gt0 w ↦ hash_empty c.args.text.now c.read_base32hex.new.octets w.in-Some.count w.in-Some.ensures.0 w.if-count-gt0.false
    | in_default-via-in_default w ↦ hash_absent c.args.text.now w.in_default.ensures
  ],
)

pub returns-then-is_err-clause-err : goal.returns-then-is_err-clause-err
returns-then-is_err-clause-err g c =
    let read = c.in-Some.ensures in
    let n : ℕ = c.in-Some.count in
    let size = c.read_base32hex.auto.octets in
    let short : n < 256 = omega (arith, read.1, size) in
    inl (
      refl,
      hash_exceeds g.B.OctetsBuilder.room c.args.text.now c.read_base32hex.new.octets c.with_length-wire.result (g.B.AsOctets.octets c.args.target.now) n read.0 c.if-count-gt0.true read.1 short c.with_length-wire.ensures
          (λ fits. not_ok c.append_slice.result c.if-is_err.ensures.value (c.append_slice.ensures.fits fits)),
    )

pub returns-clause-ok : goal.returns-clause-ok
returns-clause-ok g c =
    let read = c.in-Some.ensures in
    let n : ℕ = c.in-Some.count in
    let hash : List ℕ = c.read_base32hex.new.octets in
    let size = c.read_base32hex.auto.octets in
    let short : n < 256 = omega (arith, read.1, size) in
    let wire = wire_of n c.with_length-wire.result hash c.with_length-wire.ensures in (
      n ∷ take n hash,
      hash_wire c.args.text.now hash n read.0 c.if-count-gt0.true read.1 short,
      at_no_err c.append_slice.result _ (sym c.if-is_err.ensures.value) c.append_slice.ensures.ok ∙ ap (λ t. g.B.AsOctets.octets c.args.target.now ++ t) wire,
    )
