use Rattle.std.proofs.Common.{ap, ◌+◌, length, sym, arith}
use Rattle.std.proofs.lemmas.Bool.{eqb-false}
use Rattle.rdata_tokens.proofs.FormLaws.{string_found, slice_values}
use Rattle.rdata_tokens.proofs.strings.string_width.Goals as goal

pub returns : goal.returns
returns c =
    let octets = c.args.octets.now in (
      c.if-octets-width.false,
      string_found octets _ (slice_values octets (λ k. (c.type_inv.octets k).fits)) (omega (arith, eqb-false (length octets) 0 (sym c.if-is_empty.ensures)))
          (ap (λ n. 1 + n) c.from-width.ensures) c.if-octets-width.false (c.type_inv.octets 0).fits,
    )
