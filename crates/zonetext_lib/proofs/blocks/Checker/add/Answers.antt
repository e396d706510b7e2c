use Rattle.std.proofs.Common.{◌*◌, ◌++◌, length, inl, inr}
use Rattle.zonetext_lib.proofs.Beginnings.{held_viable}
use Rattle.zonetext_lib.proofs.Holding.{added, discard_read}
use Rattle.zonetext_lib.proofs.Passing.{before_end}
use Rattle.zonetext_lib.proofs.blocks.Checker.add.Goals as goal

pub returns-then-not-branch-clause-in_time : goal.returns-then-not-branch-clause-in_time
returns-then-not-branch-clause-in_time g c =
    let held = c.in_ok-store.ensures in
    inr (held.0, held.2, before_end (length c.store.new.self.octets) (2 * c.args.self.now.left) _ held.3 c.if-not-branch.true)

pub returns-in-Ok-clause-added : goal.returns-in-Ok-clause-added
returns-in-Ok-clause-added g c = λ all h.
    let block = c.args.block.now in
    let held = c.in_ok-store.ensures in
    let here = added all block c.args.self.now c.store.new.self h held.0 held.1 in
    let gone = c.release.ensures in
    discard_read _ c.store.new.self c.release.new.self c.in-Ok.cut here c.in-Ok.ensures.octets c.in-Ok.ensures.settled gone.octets gone.at gone.position

pub returns-in-Ok-clause-in_time : goal.returns-in-Ok-clause-in_time
returns-in-Ok-clause-in_time g c =
    let block = c.args.block.now in
    let held = c.in_ok-store.ensures in
    inl (c.release.ensures.left, λ all h. held_viable (all ++ block) c.store.new.self (added all block c.args.self.now c.store.new.self h held.0 held.1) c.in-Ok.ensures.octets c.in-Ok.ensures.viable)

pub returns-in-Err-clause-added : goal.returns-in-Err-clause-added
returns-in-Err-clause-added g c = λ all h.
    let block = c.args.block.now in
    let held = c.in_ok-store.ensures in
    let here = added all block c.args.self.now c.store.new.self h held.0 held.1 in
    (here, λ rest m. c.in-Err.ensures.settled.2 _ rest here m)
