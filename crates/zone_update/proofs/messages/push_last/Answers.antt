use Rattle.std.proofs.Common.{◌≡◌, [], ◌∷◌, ◌++◌, sym, ap, ◌∙◌, arith}
use Rattle.std.specs.Option.{option_to_list}
use Rattle.zone_update.proofs.Cutting.{nothing_left}
use Rattle.zone_update.proofs.Lasts.{after_none, after_some}
use Rattle.zone_update.proofs.messages.push_last.Goals as goal
use Rattle.zone_update.proofs.messages.push_last.Goals.{in-Some, in-None}

pub returns : goal.returns
returns g c =
    let o = c.args.operation in
    let old = c.args.messages.now.items in
    let left = c.pop.new.self.items in
    let pushed = c.in_ok-push-2.ensures.items in
    let longer = c.in_ok-push.ensures.items in
    elim c.match-pop.branch [
      | in-Some w ↦
          after_some o old left c.push-2.new.self.items c.push.new.self pushed c.match-pop.last longer
          (c.pop.ensures.items ∙ ap (λ r. left ++ option_to_list r) w.in-Some.is ∙ ap (λ m. left ++ m ∷ []) (sym w.last-is))
      | in-None w ↦
          let none : left ≡ [] = nothing_left left (omega (arith, w.in-None.ensures.cases.1, c.pop.new.self.ok.0)) in
          after_none o old left c.push-2.new.self.items c.push.new.self pushed
          (longer ∙ ap (λ v. v.items ++ o ∷ []) w.last-is ∙ ap (λ l. l ++ o ∷ []) w.new-last.ensures.items)
          (w.in-None.ensures.items ∙ ap (λ l. l ++ []) none) none
    ]
