use Rattle.std.proofs.Common.{[], ◌∷◌, ◌++◌, ◌+◌, get_or}
use Rattle.server_config.specs.Strings.{escape_text, unescaped}
use Rattle.server_config.proofs.PathSteps.{escape_passed, extends_on, octet_passed, octet_read}
use Rattle.server_config.proofs.string.append_unescaped.Goals as goal

pub loop-at-preserved-in-Some : goal.loop-at-preserved-in-Some
loop-at-preserved-in-Some g c =
    let a = c.args in
    let l = c.loop-at in
    let text = a.text.now in
    let old = a.out.now.items in
    let new = c.append_escape.new.out.items in
    let made = c.in_ok-append_escape-in-Some.ensures.made in
    let is = octet_read text (get_or text l.at 0) (l.at + 1) c.escaped_octet.result _ c.escaped_octet.ensures c.in-Some.is in
    record {
      made = escape_passed text l.at c.loop-at-test.true l.out.items new (old ++ unescaped text) c.in-Some.octet is made l.invariant.made;
      extends = extends_on old l.out.items new (escape_text (get_or text l.at 0) c.in-Some.octet) l.invariant.extends made;
    }

pub loop-at-preserved : goal.loop-at-preserved
loop-at-preserved g c =
    let a = c.args in
    let l = c.loop-at in
    let text = a.text.now in
    let old = a.out.now.items in
    let new = c.push.new.self.items in
    let made = c.in_ok-push-in-None.ensures.items in
    let is = octet_read text (get_or text l.at 0) (l.at + 1) c.escaped_octet.result _ c.escaped_octet.ensures c.in-None.is in
    record {
      made = octet_passed text l.at c.loop-at-test.true l.out.items new (old ++ unescaped text) is made l.invariant.made;
      extends = extends_on old l.out.items new (get_or text l.at 0 ∷ []) l.invariant.extends made;
    }
