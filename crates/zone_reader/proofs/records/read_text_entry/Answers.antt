use Rattle.std.proofs.Common.{subst, sym}
use Rattle.zone_reader.specs.Records.{StartsText}
use Rattle.zone_reader.proofs.records.read_text_entry.Goals as goal

pub returns : goal.returns
returns g c = record {
  reader = c.new-reader.result;
  starts = subst (λ s. StartsText c.args.text.now s c.new-reader.result) c.copied.ensures c.new-reader.ensures;
  next = c.next_entry-read.new.self;
  reads = c.next_entry-read.ensures;
  state_is = sym c.copied-2.ensures;
}
