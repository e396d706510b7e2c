use Rattle.std.proofs.Common.{drop}
use Rattle.rdata.proofs.LocationLemmas.{word_tokens}
use Rattle.zone_record.proofs.PrintedTokens.{HasPrinted}
use Rattle.zone_record.proofs.rdata_print.write_location.Given as goal

-- the words so far are printed
abbrev pub invariant-loop-word : goal.invariant-loop-word
invariant-loop-word g l = HasPrinted g.F.FormatWriter.blocks g.F.FormatWriter.step_gives l.initial.p (word_tokens l.word-items) (word_tokens (drop l.word-index l.word-items)) l.p
