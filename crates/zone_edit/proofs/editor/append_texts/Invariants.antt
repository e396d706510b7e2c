use Rattle.std.proofs.Common.{◌≡◌, ◌++◌, drop}
use Rattle.dns_octets.specs.Appending.{Extends}
use Rattle.zone_edit.specs.Edits.{edit_texts}
use Rattle.zone_edit.proofs.editor.append_texts.Given as goal

abbrev pub invariant-loop-edit : goal.invariant-loop-edit
invariant-loop-edit g l = record {
  made : l.out.items ++ edit_texts (drop l.edit-index l.edits) ≡ l.initial.out.items ++ edit_texts l.edits;
  extends : Extends l.initial.out.items l.out.items;
}
