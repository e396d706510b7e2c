use Rattle.std.proofs.Common.{◌≡◌, ◌++◌, take, drop}
use Rattle.zone_record.specs.KeyNames.{after_in_key, first_in_key}
use Rattle.zone_contents.proofs.key_labels.plain_len.Given as goal

abbrev pub invariant-loop-index : goal.invariant-loop-index
invariant-loop-index l = record {
  first : first_in_key l.key ≡ take l.index l.key ++ first_in_key (drop l.index l.key);
  after : after_in_key l.key ≡ after_in_key (drop l.index l.key);
}
