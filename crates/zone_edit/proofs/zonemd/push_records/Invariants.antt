use Rattle.std.proofs.Common.{◌≡◌, ◌++◌, length, drop}
use Rattle.zone_edit.specs.Changes.{HaveTokensInOrder, change_spans, change_texts}
use Rattle.zone_edit.specs.Tokens.{Continues, spans_of, texts_of}
use Rattle.zone_edit.specs.Zonemds.{HaveZonemdTokens, IsAnyError, all_changes}
use Rattle.zone_edit.specs.declared.tokens.TokenError.{TokenError}
use Rattle.zone_edit.proofs.zonemd.push_records.Given as goal

abbrev pub invariant-loop-one : goal.invariant-loop-one
invariant-loop-one g l = record {
  spans : spans_of l.edits.items ++ change_spans l.octets (all_changes l.octets (drop l.one-index l.records))
      ≡ spans_of l.initial.edits.items ++ change_spans l.octets (all_changes l.octets l.records);
  texts : texts_of l.edits.items ++ change_texts l.octets (all_changes l.octets (drop l.one-index l.records))
      ≡ texts_of l.initial.edits.items ++ change_texts l.octets (all_changes l.octets l.records);
  continues : Continues l.initial.edits.items l.edits.items;
  ordered : HaveTokensInOrder (length l.octets) (all_changes l.octets (drop l.one-index l.records)) → HaveTokensInOrder (length l.octets) (all_changes l.octets l.records);
  enough : HaveZonemdTokens l.octets (drop l.one-index l.records) → HaveZonemdTokens l.octets l.records;
  error : (e : TokenError) → IsAnyError l.octets (drop l.one-index l.records) e → IsAnyError l.octets l.records e;
}
