use Rattle.std.proofs.Common.{true≢false, sym, ◌∙◌}
use Rattle.zone_record.specs.DataTokens.{data_tokens, tokens_have_no_line}
use Rattle.zone_record.specs.Records.{data_of}
use Rattle.zone_record.proofs.record.RecordZonefileFmt.fmt.Goals as goal

pub block-requires : goal.block-requires
block-requires g c = let own = data_of c.args.self.now in λ line. absurd (true≢false (sym line ∙ tokens_have_no_line (data_tokens own.rtype own.octets)))
