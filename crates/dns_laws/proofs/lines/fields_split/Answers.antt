use Rattle.std.proofs.Common.{subst, sym, string_bytes}
use Rattle.dns_zone.specs.EntryFields.{contents_of}
use Rattle.dns_lexer.specs.Splitting.{SplitsOnlyInto}
use Rattle.dns_laws.specs.Lines.{line_entries}
use Rattle.dns_laws.proofs.LineTokens.{split_refusal}
use Rattle.dns_laws.proofs.lines.fields_split.Goals as goal

pub returns-in-Ok-split-clause-meaning : goal.returns-in-Ok-split-clause-meaning
returns-in-Ok-split-clause-meaning g c = subst (λ fields. SplitsOnlyInto (string_bytes c.in-Ok-lines_split.text) (line_entries fields)) c.in-Ok.ensures.ok c.in-Ok-lines_split.ensures.meaning

pub returns-clause-refused : goal.returns-clause-refused
returns-clause-refused g c =
    let fields = contents_of c.args.fields.items in
    let meaning = subst (λ f. SplitsOnlyInto (string_bytes c.in-Ok-lines_split.text) (line_entries f)) c.in-Ok.ensures.ok c.in-Ok-lines_split.ensures.meaning in
    let of_text = subst (λ t. SplitsOnlyInto t (line_entries fields)) (sym c.as_str.ensures.value) meaning in
    split_refusal fields c.as_str.result.now of_text c.in-Err-split.error c.in-Err-split.ensures.exact
