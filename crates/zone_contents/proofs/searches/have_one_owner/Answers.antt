use Rattle.zone_contents.proofs.OneKey.{one_owner}
use Rattle.zone_contents.proofs.searches.have_one_owner.Goals as goal

pub returns : goal.returns
returns g c =
    one_owner c.args.apex.now c.args.store.now c.requires.are c.args.left c.args.right c.requires.left c.requires.right
    c.have_one_key.result c.have_one_key.ensures.have c.have_one_key.ensures.lack
