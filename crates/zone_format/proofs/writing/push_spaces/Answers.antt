use Rattle.std.proofs.Common.{◌≡◌, ℕ, List, ◌++◌, ◌+◌, ◌-◌, length, take, ap, ◌∙◌, arith}
use Rattle.std.specs.Prelude.{replicate}
use Rattle.std.proofs.lemmas.List.{take_all}
use Rattle.zone_format.proofs.writing.push_spaces.Goals as goal

more : (old new : List ℕ) (n k m : ℕ) → new ≡ take n old ++ replicate (n - m) 32 → m ≡ length old → n ≡ m + k → new ≡ old ++ replicate k 32
more old new n k m e b a =
    let left : n - m ≡ k = omega (arith, a) in
    e ∙ ap (λ l. l ++ replicate (n - m) 32) (take_all n old (omega (arith, a, b))) ∙ ap (λ i. old ++ replicate i 32) left

pub returns : goal.returns
returns g c = more c.args.out.now.items _ _ c.args.count _ c.in_ok-resize.ensures.items c.args.out.now.ok.0 (ap (λ n. n + c.args.count) c.len-length.ensures)
