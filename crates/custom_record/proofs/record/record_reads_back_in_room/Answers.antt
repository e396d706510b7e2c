use Rattle.std.proofs.Common.{List, ℕ, sym, ap, subst, ◌∙◌, string_bytes}
use Rattle.dns_lexer.specs.Answer.{texts, entries_of}
use Rattle.dns_lexer.specs.Splitting.{Splits}
use Rattle.dns_iter.specs.Contents.{HaveContents}
use Rattle.custom_record.proofs.OneEntry.{record_entry, first_of}
use Rattle.custom_record.proofs.Parts.{tokens_of, held_of, parts_contents, parts_texts}
use Rattle.custom_record.proofs.record.record_reads_back_in_room.Goals as goal

pub returns : goal.returns
returns g c =
    let x = c.args.value.now in
    let ps = g.R.RecordData.parts x in
    let found = record_entry ps (g.R.ZonefileFmt.document x) (string_bytes c.in-Ok.text) (entries_of c.in-Ok-split.entries.items)
    (g.met.R.RecordData.shown x) c.known.ensures.0 (g.met.R.RecordData.laid_out x) c.in-Ok.ensures.meaning
    (subst (λ (t : List ℕ). Splits t (entries_of c.in-Ok-split.entries.items)) c.as_str.ensures.value c.in-Ok-split.ensures.exact) in
    let first = first_of c.in-Ok-split.entries.items c.in-Some.tokens.now c.in-Some.field-0-1.now (tokens_of ps) (sym c.deref.ensures.value ∙ c.in-Some.ensures.cases.0) found in
    c.scan_record.ensures.back x (held_of ps) c.known.ensures (parts_texts ps)
    (c.entry_scanner-scanner.ensures.stands (held_of ps)
    (subst (λ (l : List (List ℕ)). HaveContents l (held_of ps)) (sym (ap texts c.deref-2.ensures.value ∙ first)) (parts_contents ps c.known.ensures.0)))
