use Rattle.zone_cuts.proofs.Differences.{of_child, of_neither, of_parent}
use Rattle.zone_cuts.proofs.servers.difference_of.Goals as goal

pub returns-in-Some : goal.returns-in-Some
returns-in-Some g c =
    of_child c.args.name.now (g.P.ZoneRecords.contents c.args.parent.now) (g.C.ZoneRecords.contents c.args.child.now) c.requires.parent c.requires.child c.in-Some.place c.in-Some.ensures.bound c.in-Some.ensures.value

pub returns-in-Some-find_other_server : goal.returns-in-Some-find_other_server
returns-in-Some-find_other_server g c =
    of_parent c.args.name.now (g.P.ZoneRecords.contents c.args.parent.now) (g.C.ZoneRecords.contents c.args.child.now) c.requires.parent c.requires.child c.in-Some-find_other_server.place
    c.in_default.ensures.value c.in-Some-find_other_server.ensures.bound c.in-Some-find_other_server.ensures.value

pub returns-in-None : goal.returns-in-None
returns-in-None g c =
    of_neither c.args.name.now (g.P.ZoneRecords.contents c.args.parent.now) (g.C.ZoneRecords.contents c.args.child.now) c.requires.parent c.requires.child c.in_default.ensures.value c.in-None.ensures.value
