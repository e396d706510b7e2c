use Rattle.std.proofs.Common.{◌++◌, [], sym, subst, append-nil}
use Rattle.std.specs.Prelude.{Err}
use Rattle.zonetext_lib.specs.Forming.{FormedSoFar, FormsSettled}
use Rattle.zonetext_lib.specs.declared.formatter.NoForm.{NoForm}
use Rattle.zonetext_lib.proofs.Forming.{formed_more, formed_on, forming}
use Rattle.zonetext_lib.proofs.formatter.Formatter.add.Goals as goal

pub returns-then-not-branch : goal.returns-then-not-branch
returns-then-not-branch g c = λ all written x.
    let block = c.args.block.now in
    let s = c.self.inside.seam in
    let held = c.in_ok-store.ensures in
    let here = formed_more all block written c.self.inside.checker c.store.new.self s (subst (FormedSoFar all written) (sym c.self.view_is) x) held.0 held.1 in
    ([], sym (append-nil c.args.out.now.items), subst (λ l. FormedSoFar (all ++ block) l (forming c.store.new.self s)) (sym (append-nil written)) here)

pub returns-in-Ok : goal.returns-in-Ok
returns-in-Ok g c = λ all written x.
    let block = c.args.block.now in
    let s = c.self.inside.seam in
    let held = c.in_ok-store.ensures in
    let cut = c.in-Ok.cut in
    let here = formed_more all block written c.self.inside.checker c.store.new.self s (subst (FormedSoFar all written) (sym c.self.view_is) x) held.0 held.1 in
    formed_on (all ++ block) written c.args.out.now.items c.form_settled.new.out.items c.store.new.self c.release.new.self s cut.seam cut.at here c.in-Ok.ensures.0 c.in-Ok.ensures.1 c.in-Ok.ensures.2 c.release.ensures

pub returns-in-Err-Wrong : goal.returns-in-Err-Wrong
returns-in-Err-Wrong g c = λ all written more x m.
    let block = c.args.block.now in
    let s = c.self.inside.seam in
    let held = c.in_ok-store.ensures in
    let here = formed_more all block written c.self.inside.checker c.store.new.self s (subst (FormedSoFar all written) (sym c.self.view_is) x) held.0 held.1 in
    subst (λ (w : NoForm). FormsSettled (forming c.store.new.self s) c.args.out.now.items c.form_settled.new.out.items (Err w)) c.in-Err-Wrong.field-0-is c.in-Err-Wrong.ensures (all ++ block) written more here m

pub returns-in-Err-Nul : goal.returns-in-Err-Nul
returns-in-Err-Nul g c = λ all written more x m.
    let block = c.args.block.now in
    let s = c.self.inside.seam in
    let held = c.in_ok-store.ensures in
    let here = formed_more all block written c.self.inside.checker c.store.new.self s (subst (FormedSoFar all written) (sym c.self.view_is) x) held.0 held.1 in
    subst (λ (w : NoForm). FormsSettled (forming c.store.new.self s) c.args.out.now.items c.form_settled.new.out.items (Err w)) c.in-Err-Nul.field-0-is c.in-Err-Nul.ensures (all ++ block) written more here m

pub returns-in-Err-OrderMark : goal.returns-in-Err-OrderMark
returns-in-Err-OrderMark g c = λ all written more x m.
    let block = c.args.block.now in
    let s = c.self.inside.seam in
    let held = c.in_ok-store.ensures in
    let here = formed_more all block written c.self.inside.checker c.store.new.self s (subst (FormedSoFar all written) (sym c.self.view_is) x) held.0 held.1 in
    subst (λ (w : NoForm). FormsSettled (forming c.store.new.self s) c.args.out.now.items c.form_settled.new.out.items (Err w)) c.in-Err-OrderMark.field-0-is c.in-Err-OrderMark.ensures (all ++ block) written more here m
