use Rattle.rdata_svcb.specs.Keys.{rows_of}
use Rattle.rdata_svcb.proofs.KeyNames.{numbered_only, no_rows}
use Rattle.rdata_svcb.proofs.keys.find_key.Goals as goal

pub returns : goal.returns
returns c =
    numbered_only (rows_of c.args.table.now) c.args.text.now c.numbered_key.result
    (no_rows c.args.table.now c.args.text.now c.loop-row.row-index c.loop-row-test.false c.loop-row.invariant) c.numbered_key.ensures
