use Rattle.std.proofs.Common.{◌++◌, ap, ◌∙◌}
use Rattle.zone_contents.specs.Digests.{simple_fields}
use Rattle.zone_contents.proofs.digests.make_data.Goals as goal

pub returns : goal.returns
returns g c =
    let digest = c.in_ok-push_digest.ensures in
    let fields = c.in_ok-push_fields.ensures ∙ ap (λ l. l ++ simple_fields c.args.serial c.args.algorithm) c.new-data.ensures.items in
    (digest.0, digest.1, digest.2 ∙ ap (λ l. l ++ digest.0) fields)
