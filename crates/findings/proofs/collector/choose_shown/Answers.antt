use Rattle.std.proofs.lemmas.Result.{on_ok_weaker}
use Rattle.findings.proofs.CollectedSteps.{among_first, among_sorted, among_through}
use Rattle.findings.proofs.ShownFirsts.{chosen_shown}
use Rattle.findings.proofs.collector.choose_shown.Goals as goal

pub returns-clause-shown : goal.returns-clause-shown
returns-clause-shown g c =
    let rank = c.sort_by_weight.ensures in
    let sort = c.sort_by_position.ensures in
    on_ok_weaker c.sort_by_position.result
    (λ in_order. chosen_shown c.args.most c.args.findings.now.items c.sort_by_weight.new.findings.items c.keep_first.new.findings.items c.sort_by_position.new.findings.items
    (record { permutation = rank.permutation; stable = rank.stable; in_order = c.in_ok-sort_by_weight.ensures.sorted })
    c.keep_first.ensures
    (record { permutation = sort.permutation; stable = sort.stable; in_order = in_order }))
    sort.sorted

pub returns-clause-among : goal.returns-clause-among
returns-clause-among g c =
    let found = c.args.findings.now.items in
    let ranked = c.sort_by_weight.new.findings.items in
    let first = c.keep_first.new.findings.items in
    let shown = c.sort_by_position.new.findings.items in
    among_through found first shown (among_sorted first shown c.sort_by_position.ensures.permutation)
    (among_through found ranked first (among_first c.args.most ranked first c.keep_first.ensures) (among_sorted found ranked c.sort_by_weight.ensures.permutation))
