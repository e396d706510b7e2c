use Rattle.std.proofs.Common.{arith}
use Rattle.c_calls.specs.DataText.{line_text}
use Rattle.c_calls.proofs.PutTexts.{counted_text}
use Rattle.c_calls.proofs.printing.count_text.Goals as goal

pub returns : goal.returns
returns g c =
    let all = counted_text _ (λ s. s.length) (λ s octets t is. is) _ (line_text (g.D.ZonefileFmt.document c.args.content.now)) c.print_on.new.sink c.in_ok-print_on.ensures in
    omega (arith, all)
