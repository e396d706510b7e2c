use Rattle.std.proofs.Common.{◌≡◌, ◌++◌, ◌∙◌, ap, subst, sym}
use Rattle.zone_stream.specs.Blocks.{Blocks, BuffersSuffix}
use Rattle.zone_stream.proofs.Held.{holds_more}
use Rattle.zone_stream.proofs.blocks.BlockReader.add.Goals as goal

pub returns : goal.returns
returns g c =
    let old = c.args.self.now in
    let block = c.args.block.now in
    let items : c.extend_from_slice.new.self.items ≡ old.octets ++ block =
    ◌∙◌ {b = c.self.inside.held.items ++ c.as_octets.result.now} c.in_ok-extend_from_slice.ensures.items
    (◌∙◌ {b = c.self.inside.held.items ++ block} (ap (λ l. c.self.inside.held.items ++ l) c.as_octets.ensures.same) (ap (λ (b : Blocks). b.octets ++ block) c.self.view_is)) in
    let new = ap (λ (b : Blocks). record b { octets = c.extend_from_slice.new.self.items }) c.self.view_is ∙ ap (λ l. record old { octets = l }) items in
    (new, λ all h. subst (BuffersSuffix (all ++ block)) (sym new) (holds_more all old h block))
