use Rattle.std.proofs.Common.{[], ◌∷◌, ◌++◌, ◌+◌, get_or}
use Rattle.server_config.specs.ZonePaths.{expanded_path, path_place_text}
use Rattle.server_config.proofs.PathSteps.{extends_on, octet_kept, place_read, place_replaced}
use Rattle.server_config.proofs.zone_path.append_expanded.Goals as goal

pub loop-at-preserved-in-Some : goal.loop-at-preserved-in-Some
loop-at-preserved-in-Some g c =
    let a = c.args in
    let l = c.loop-at in
    let path = a.path.now in
    let name = a.name.now in
    let old = a.out.now.items in
    let new = c.append_place.new.out.items in
    let made = c.in_ok-append_place-in-Some.ensures.made in
    let is = place_read path (get_or path l.at 0) (l.at + 1) c.place_after.result _ c.place_after.ensures c.in-Some.is in
    record {
      made = place_replaced name path l.at c.loop-at-test.true l.out.items new (old ++ expanded_path name path) c.in-Some.place is made l.invariant.made;
      extends = extends_on old l.out.items new (path_place_text name c.in-Some.place) l.invariant.extends made;
    }

pub loop-at-preserved : goal.loop-at-preserved
loop-at-preserved g c =
    let a = c.args in
    let l = c.loop-at in
    let path = a.path.now in
    let name = a.name.now in
    let old = a.out.now.items in
    let new = c.push.new.self.items in
    let made = c.in_ok-push-in-None.ensures.items in
    let is = place_read path (get_or path l.at 0) (l.at + 1) c.place_after.result _ c.place_after.ensures c.in-None.is in
    record {
      made = octet_kept name path l.at c.loop-at-test.true l.out.items new (old ++ expanded_path name path) is made l.invariant.made;
      extends = extends_on old l.out.items new (get_or path l.at 0 ∷ []) l.invariant.extends made;
    }
