use Rattle.std.proofs.Common.{◌-◌, ◌∙◌, length, ap, arith}
use Rattle.zone_stream.specs.Blocks.{Blocks}
use Rattle.zone_stream.proofs.Held.{octets_behind}
use Rattle.zone_stream.proofs.blocks.BlockReader.octets_from.Goals as goal

pub returns : goal.returns
returns g c = λ all h.
    let start = ap (λ (b : Blocks). b.start.at) c.self.view_is in
    let octets = ap (λ (b : Blocks). length b.octets) c.self.view_is in
    let behind = octets_behind all c.args.self.now h (c.args.at - c.self.inside.start.at) c.args.at (omega (arith, start, c.if-at-self.false)) (omega (arith, octets, c.len.ensures, c.self.inside.held.ok, c.if-count-len.false)) in
    (behind.0, c.held_after.ensures ∙ behind.1)
