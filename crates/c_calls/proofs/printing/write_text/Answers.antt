use Rattle.std.proofs.Common.{rules, arith}
use Rattle.c_calls.specs.DataText.{line_text}
use Rattle.c_calls.proofs.PutTexts.{on_ok, put_back}
use Rattle.c_calls.proofs.printing.write_text.Goals as goal

pub returns : goal.returns
returns g c =
    on_ok c.print_on-result.result c.print_on-result.ensures
    (λ calls.
    let put = put_back _ (λ s. s.octets.ghost_name) (λ s. s.length) (λ s. s.octets.now) (λ s octets t is. is) _ (line_text (g.D.ZonefileFmt.document c.args.content.now)) c.print_on-result.new.sink calls in
    put (omega arith) _ (λ same. search rules))
