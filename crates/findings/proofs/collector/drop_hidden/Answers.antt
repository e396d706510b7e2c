use Rattle.std.proofs.Common.{◌-◌, ne_eqb, arith}
use Rattle.std.proofs.lemmas.List.Sorted.{length_permutation}
use Rattle.findings.proofs.CollectedSteps.{among_sorted, among_taken, among_through, among_same}
use Rattle.findings.proofs.ShownFirsts.{dropped, last_of_dropped}
use Rattle.findings.proofs.collector.drop_hidden.Goals as goal

pub index-requires : goal.index-requires
index-requires g c =
    let kept = c.args.kept.now in
    let ranked = c.sort_by_weight.new.findings in
    omega (arith, c.truncate.ensures.len, c.len.ensures, c.if-len-most.false, kept.ok.0, ranked.ok.0, length_permutation kept.items ranked.items c.sort_by_weight.ensures.permutation, c.if-most-eq0.false)

pub returns-clause-alike : goal.returns-clause-alike
returns-clause-alike g c =
    let sort = c.sort_by_weight.ensures in
    dropped c.args.most c.args.kept.now.items c.sort_by_weight.new.findings.items c.truncate.new.self.items (ne_eqb c.args.most 0 c.if-most-eq0.false)
    (record { permutation = sort.permutation; stable = sort.stable; in_order = c.in_ok-sort_by_weight.ensures.sorted }) c.truncate.ensures.items

pub returns-clause-last : goal.returns-clause-last
returns-clause-last g c before =
    let sort = c.sort_by_weight.ensures in
    let most = c.args.most in
    last_of_dropped most (most - 1) c.args.kept.now.items c.sort_by_weight.new.findings.items c.truncate.new.self.items c.index.result.now
    (omega (arith, c.if-most-eq0.false)) (ne_eqb most 0 c.if-most-eq0.false)
    (record { permutation = sort.permutation; stable = sort.stable; in_order = c.in_ok-sort_by_weight.ensures.sorted })
    (omega (arith, c.len.ensures, c.if-len-most.false, c.args.kept.now.ok.0)) c.truncate.ensures.items c.index.ensures

pub returns-clause-among : goal.returns-clause-among
returns-clause-among g c =
    let ranked = c.sort_by_weight.new.findings.items in
    among_through c.args.kept.now.items ranked c.truncate.new.self.items
    (among_same ranked c.truncate.new.self.items _ c.truncate.ensures.items (among_taken c.args.most ranked))
    (among_sorted c.args.kept.now.items ranked c.sort_by_weight.ensures.permutation)
