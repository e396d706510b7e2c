use Rattle.std.proofs.Common.{◌≡◌, ◌++◌, take}
use Rattle.std.specs.List.{flat_map}
use Rattle.finding_texts.specs.Word.{word_octet}
use Rattle.finding_texts.proofs.word.push_octets.Given as goal

abbrev pub invariant-loop-octet : goal.invariant-loop-octet
invariant-loop-octet g l = l.out.items ≡ l.initial.out.items ++ flat_map (word_octet l.keeps_high) (take l.octet-index l.octets)
