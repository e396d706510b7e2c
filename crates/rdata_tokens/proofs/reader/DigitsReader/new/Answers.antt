use Rattle.std.proofs.Common.{refl, []}
use Rattle.rdata_tokens.proofs.Pieces.{begins, some_group, nothing_spelled}
use Rattle.rdata_tokens.proofs.reader.DigitsReader.new.Goals as goal

pub returns-clause-read : goal.returns-clause-read
returns-clause-read c = begins _ [] [] [] refl (some_group c.args.kind) refl (nothing_spelled c.args.kind)
