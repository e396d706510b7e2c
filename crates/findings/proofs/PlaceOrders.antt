-- The orders of findings are total.
use Rattle.std.specs.Cmp.{IsTotalOrder}
use Rattle.std.proofs.lemmas.Cmp.{nat_cmp_total, on_total, then_total}
use Rattle.findings.specs.FindingOrder.{kept_position, kept_weight, place_order, position_order, severity_rank, weight_order}
use Rattle.findings.specs.declared.finding_order.Kept.{Kept}
use Rattle.findings.specs.declared.finding_order.KeptFinding.{KeptFinding}

pub places_total : IsTotalOrder place_order
places_total =
    then_total
    (then_total (on_total (λ (f : KeptFinding). f.file) nat_cmp_total) (on_total (λ (f : KeptFinding). f.position.line) nat_cmp_total))
    (on_total (λ (f : KeptFinding). f.position.column) nat_cmp_total)

pub positions_total : IsTotalOrder position_order
positions_total = then_total places_total (on_total (λ (f : KeptFinding). f.index) nat_cmp_total)

pub weights_total : IsTotalOrder weight_order
weights_total = then_total (on_total (λ (f : KeptFinding). severity_rank f.severity) nat_cmp_total) positions_total

pub kept_positions_total : {T : Type 0} → IsTotalOrder (kept_position {T = T})
kept_positions_total {T} = on_total (λ (k : Kept T). k.finding) positions_total

pub kept_weights_total : {T : Type 0} → IsTotalOrder (kept_weight {T = T})
kept_weights_total {T} = on_total (λ (k : Kept T). k.finding) weights_total
