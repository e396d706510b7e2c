use Rattle.std.proofs.Common.{◌≤◌, ◌-◌, ◌∙◌, length, ap, refl, ◌++◌, List, append-nil, sym, subst, take}
use Rattle.std.specs.Prelude.{[], Ok, map}
use Rattle.dns_lexer.specs.declared.pieces.Piece.{Piece}
use Rattle.dns_lexer.specs.Pieces.{AreItemsOf}
use Rattle.zonetext_lib.specs.Blocks.{Holds, Settled}
use Rattle.zonetext_lib.specs.Held.{Writing}
use Rattle.zonetext_lib.specs.Writing.{WritesOutput, Wrote}
use Rattle.zonetext_lib.proofs.Holding.{added, discard_read}
use Rattle.zonetext_lib.proofs.Made.{cut_whole}
use Rattle.zonetext_lib.proofs.Written.{settled_none, settled_some, writing, wrote_bad, wrote_more, wrote_on}
use Rattle.zonetext_lib.proofs.writer.Writer.add.Goals as goal

pub returns-then-not-branch-clause-written : goal.returns-then-not-branch-clause-written
returns-then-not-branch-clause-written g c = λ all written x.
    let block = c.args.block.now in
    let output = c.self.inside.output in
    let held = c.in_ok-store.ensures in
    let here = wrote_more all block written output c.self.inside.checker c.store.new.self (subst (Wrote all written) (sym c.self.view_is) x) held.0 held.1 in
    ([], sym (append-nil c.args.out.now.items), subst (λ l. Wrote (all ++ block) l (writing output c.store.new.self)) (sym (append-nil written)) here)

pub returns-in_default-clause-told : goal.returns-in_default-clause-told
returns-in_default-clause-told g c = λ all h.
    let block = c.args.block.now in
    let held = c.in_ok-store.ensures in
    let here = added all block c.self.inside.checker c.store.new.self (subst (λ (w : Writing). Holds all w.held) (sym c.self.view_is) h) held.0 held.1 in
    let gone = c.release-in-Ok.ensures in
    discard_read _ c.store.new.self c.release-in-Ok.new.self c.in-Ok.cut here c.in-Ok.ensures.octets c.in-Ok.ensures.settled gone.octets gone.at gone.position

pub returns-in_default-clause-written : goal.returns-in_default-clause-written
returns-in_default-clause-written g c = λ all written x.
    let block = c.args.block.now in
    let output = c.self.inside.output in
    let held = c.in_ok-store.ensures in
    let here = wrote_more all block written output c.self.inside.checker c.store.new.self (subst (Wrote all written) (sym c.self.view_is) x) held.0 held.1 in
    let m = c.in_default.ensures.made in
    let made = subst (λ l. WritesOutput output (take c.in-Ok.cut l) c.lines_before-lines.result m.0) c.held-in-Ok.ensures.held m.2 in (
      m.0,
      m.1 ∙ ap (λ l. l ++ m.0) (settled_none c.self.inside.output c.held.result.now 0 c.args.out.now.items c.write_settled.new.out.items _ c.in-Ok-None.field-0-is (c.in-Ok-None.ensures 0)),
      wrote_on _ written m.0 output c.store.new.self c.release-in-Ok.new.self c.in-Ok.cut c.lines_before-lines.result here c.in-Ok.ensures.octets c.in-Ok.ensures.settled
          c.lines_before-lines.ensures.lines made c.release-in-Ok.ensures,
    )

pub returns-in_default-write-clause-told : goal.returns-in_default-write-clause-told
returns-in_default-write-clause-told g c = λ all h.
    let block = c.args.block.now in
    let held = c.in_ok-store.ensures in
    let here = added all block c.self.inside.checker c.store.new.self (subst (λ (w : Writing). Holds all w.held) (sym c.self.view_is) h) held.0 held.1 in
    (here, λ more o. c.in-Err-settle.ensures.settled.2 _ more here o)

pub returns-in_default-write-clause-written : goal.returns-in_default-write-clause-written
returns-in_default-write-clause-written g c = λ all written x.
    let block = c.args.block.now in
    let output = c.self.inside.output in
    let held = c.in_ok-store.ensures in
    let here = wrote_more all block written output c.self.inside.checker c.store.new.self (subst (Wrote all written) (sym c.self.view_is) x) held.0 held.1 in
    let m = c.in_default-write.ensures.made in
    let s = c.in-Err-settle.ensures.settled in
    let made = subst (λ l. WritesOutput output l c.lines_before-lines.result m.0) c.held-held.ensures.held m.2 in (
      m.0,
      m.1 ∙ ap (λ l. l ++ m.0) (settled_none c.self.inside.output c.held.result.now 0 c.args.out.now.items c.write_settled.new.out.items _ c.in-Ok-None.field-0-is (c.in-Ok-None.ensures 0)),
      λ rest o.
          subst (λ (w : Writing). WritesOutput w.output ((all ++ block) ++ rest) 0 (written ++ m.0)) c.self.view_is
          (wrote_bad _ written m.0 rest output c.store.new.self c.lines_before-lines.result s.0 here c.in-Err-settle.ensures.octets o c.lines_before-lines.ensures.lines s.1 made),
    )

pub write_ended-requires-clause-whole : goal.write_ended-requires-clause-whole
write_ended-requires-clause-whole g c =
    let e = c.in-Ok.ensures in
    subst (λ l. (found : List Piece) × AreItemsOf (take c.in-Ok.cut l) (map Ok found)) (sym c.held-in-Ok.ensures.held) (cut_whole _ c.in-Ok.cut e.octets e.settled)

pub release-requires : goal.release-requires
release-requires g c = subst (λ l. c.in-Ok-Some.cut ≤ length l) c.held.ensures.held (settled_some c.self.inside.output c.held.result.now 0 c.args.out.now.items c.write_settled.new.out.items _ c.in-Ok-Some.cut c.in-Ok-Some.field-0-is (c.in-Ok-Some.ensures 0)).0.0

pub returns-in-Ok-Some-clause-told : goal.returns-in-Ok-Some-clause-told
returns-in-Ok-Some-clause-told g c = λ all h.
    let block = c.args.block.now in
    let held = c.in_ok-store.ensures in
    let here = added all block c.self.inside.checker c.store.new.self (subst (λ (w : Writing). Holds all w.held) (sym c.self.view_is) h) held.0 held.1 in
    let gone = c.release.ensures in
    let cut = c.in-Ok-Some.cut in
    discard_read _ c.store.new.self c.release.new.self cut here c.held.ensures.octets (subst (λ l. Settled l (Ok cut)) c.held.ensures.held (settled_some c.self.inside.output c.held.result.now 0 c.args.out.now.items c.write_settled.new.out.items _ c.in-Ok-Some.cut c.in-Ok-Some.field-0-is (c.in-Ok-Some.ensures 0)).0) gone.octets gone.at gone.position

pub returns-in-Ok-Some-clause-written : goal.returns-in-Ok-Some-clause-written
returns-in-Ok-Some-clause-written g c = λ all written x.
    let block = c.args.block.now in
    let output = c.self.inside.output in
    let held = c.in_ok-store.ensures in
    let here = wrote_more all block written output c.self.inside.checker c.store.new.self (subst (Wrote all written) (sym c.self.view_is) x) held.0 held.1 in
    let cut = c.in-Ok-Some.cut in
    let lines = c.store.new.self.place.position.line - 1 in
    let e = settled_some c.self.inside.output c.held.result.now lines c.args.out.now.items c.write_settled.new.out.items _ c.in-Ok-Some.cut c.in-Ok-Some.field-0-is (c.in-Ok-Some.ensures lines) in
    let m = e.1 in
    let made = subst (λ l. WritesOutput output (take cut l) lines m.0) c.held.ensures.held m.2 in (
      m.0,
      m.1,
      wrote_on _ written m.0 output c.store.new.self c.release.new.self cut lines here c.held.ensures.octets (subst (λ l. Settled l (Ok cut)) c.held.ensures.held e.0)
          refl made c.release.ensures,
    )
