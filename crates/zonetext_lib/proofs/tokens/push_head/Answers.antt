use Rattle.std.proofs.Common.{◌≡◌, ◌++◌, sym, subst}
use Rattle.std.specs.Prelude.{OnOk}
use Rattle.zonetext_lib.specs.declared.tokens.Form.{Form}
use Rattle.zonetext_lib.specs.Tokens.{form_head}
use Rattle.zonetext_lib.proofs.Plain.{json_joined}
use Rattle.zonetext_lib.proofs.tokens.push_head.Goals as goal

pub returns-in_ok-push_text-in-Json : goal.returns-in_ok-push_text-in-Json
returns-in_ok-push_text-in-Json g c =
    let last = c.push_glued in
    subst (λ (f : Form). OnOk last.result (last.new.out.items ≡ c.args.out.now.items ++ form_head f c.args.at.line c.args.at.column c.args.kind.now c.args.glued)) (sym c.in-Json.is)
    (json_joined last.result c.args.out.now.items c.push_number-in-Json.new.out.items c.push_number-in-Json-2.new.out.items c.push_text.new.out.items last.new.out.items
    c.args.at.line c.args.at.column c.args.kind.now c.args.glued c.in_ok-push_number-in-Json.ensures c.in_ok-push_number-in-Json-2.ensures c.in_ok-push_text-in-Json.ensures last.ensures)
