use Rattle.std.proofs.Common.{rules, ◌≡◌, refl, ◌∙◌, string_bytes}
use Rattle.dns_zone.specs.Documents.{item_steps}
use Rattle.dns_zone.specs.Printed.{printed}
use Rattle.dns_laws.proofs.DocumentLayouts.{text_only, text_tight, refusal}
use Rattle.dns_laws.proofs.layouts.items_split.Goals as goal

pub returns-in-Ok-split-clause-text : goal.returns-in-Ok-split-clause-text
returns-in-Ok-split-clause-text g c = search rules

pub returns-in-Ok-split-clause-meaning : goal.returns-in-Ok-split-clause-meaning
returns-in-Ok-split-clause-meaning g c = λ e. text_only c.args.kind (item_steps c.args.items.items) (string_bytes c.in_ok-text.text) (returns-in-Ok-split-clause-text g c) e
    (c.in-Ok.ensures.accepts.0 refl)

pub returns-in-Ok-split-clause-tight : goal.returns-in-Ok-split-clause-tight
returns-in-Ok-split-clause-tight g c = text_tight c.args.kind (item_steps c.args.items.items) (string_bytes c.in_ok-text.text) (returns-in-Ok-split-clause-text g c) (c.in-Ok.ensures.accepts.0 refl)

pub returns-in-Ok-split-clause-entries : goal.returns-in-Ok-split-clause-entries
returns-in-Ok-split-clause-entries g c =
    (text_only c.args.kind (item_steps c.args.items.items) c.as_str.result.now (c.as_str.ensures.value ∙ returns-in-Ok-split-clause-text g c) _
    (c.in-Ok.ensures.accepts.0 refl)).0 c.in-Ok-split.ensures.exact

pub returns-clause-refused : goal.returns-clause-refused
returns-clause-refused g c =
    let is : string_bytes c.in_ok-text.text ≡ printed c.args.kind (item_steps c.args.items.items) = search rules in
    refusal g.row.A.Denot c.args.kind (item_steps c.args.items.items) c.as_str.result.now (c.as_str.ensures.value ∙ is) (c.in-Ok.ensures.accepts.0 refl) c.in-Err-split.error c.in-Err-split.ensures.exact
