use Rattle.std.proofs.Common.{◌≡◌, ◌++◌, drop}
use Rattle.std.specs.Prelude.{map}
use Rattle.zone_edit.specs.Tokens.{Continues, no_text, spans_of, texts_of}
use Rattle.zone_edit.proofs.tokens.push_deletions.Given as goal

abbrev pub invariant-loop-span : goal.invariant-loop-span
invariant-loop-span g l = record {
  spans : spans_of l.edits.items ++ drop l.span-index l.spans ≡ spans_of l.initial.edits.items ++ l.spans;
  texts : texts_of l.edits.items ++ map no_text (drop l.span-index l.spans) ≡ texts_of l.initial.edits.items ++ map no_text l.spans;
  continues : Continues l.initial.edits.items l.edits.items;
}
