use Rattle.std.proofs.Common.{◌≡◌, ◌++◌, drop}
use Rattle.dns_octets.specs.Appending.{Extends}
use Rattle.zone_generate.specs.Directives.{word_texts, words_text}
use Rattle.zone_generate.proofs.directive.append_words.Given as goal

abbrev pub invariant-loop-word : goal.invariant-loop-word
invariant-loop-word g l = record {
  made : g.B.AsOctets.octets l.out ++ words_text (word_texts (drop l.word-index l.words)) ≡ g.B.AsOctets.octets l.initial.out ++ words_text (word_texts l.words);
  extends : Extends (g.B.AsOctets.octets l.initial.out) (g.B.AsOctets.octets l.out);
}
