use Rattle.std.proofs.Common.{◌≡◌, ◌+◌, ◌*◌, ◌/◌, ◌%◌, ◌-◌, ◌<◌, ◌≤◌, ℕ, ◌++◌, ◌∙◌, ap, arith, replicate}
use Rattle.std.specs.List.{slice_range}
use Rattle.std.specs.Str.{IsAscii, IsCharBoundary}
use Rattle.std.proofs.Output.{writes_in_calls_single, writes_in_calls_append}
use Rattle.std.proofs.lemmas.List.{replicate-append-replicate, take-replicate, get_or-replicate}
use Rattle.std.proofs.lemmas.Result.{on_ok_weaker}
use Rattle.std.proofs.lemmas.Nat.{div-add-mod'}
use Rattle.std.proofs.lemmas.Str.{IsCharBoundary-from_ascii}
use Rattle.std.proofs.lemmas.Str.Ascii.{IsAscii-from_all}
use Rattle.dns_zone.proofs.zonefile_fmt.multiline.write_spaces.Goals as goal

spaces_ascii : IsAscii (replicate 64 32)
spaces_ascii = IsAscii-from_all (replicate 64 32) (λ k d h. rw (get_or-replicate 64 k 32 d h) (omega arith))

cut : (n : ℕ) → n < 64 → IsCharBoundary (replicate 64 32) n
cut n h = IsCharBoundary-from_ascii (replicate 64 32) n spaces_ascii (omega arith)

grown : (n space : ℕ) → replicate (n * 64) space ++ replicate 64 space ≡ replicate ((n + 1) * 64) space
grown n space = replicate-append-replicate (n * 64) 64 space ∙ ap (λ k. replicate k space) (omega arith)

-- the first of many
first_of : (n m space : ℕ) → n ≤ m → slice_range (replicate m space) 0 n ≡ replicate n space
first_of n m space h = let e : n - 0 ≡ n = omega arith in rw e (take-replicate n m space h)

whole : (count i space : ℕ) → count / 64 ≤ i → i ≤ count / 64
    → replicate (i * 64) space ++ slice_range (replicate 64 space) 0 (count % 64) ≡ replicate count space
whole count i space low high =
    ap (λ xs. replicate (i * 64) space ++ xs) (first_of (count % 64) 64 space (omega arith))
    ∙ replicate-append-replicate (i * 64) (count % 64) space ∙ ap (λ k. replicate k space) (omega (arith, div-add-mod' count 64))

pub loop-slice-preserved : goal.loop-slice-preserved
loop-slice-preserved g c =
    rw (← grown c.loop-slice._slice 32) (writes_in_calls_append _ _ _ _ _ _ c.loop-slice.invariant (writes_in_calls_single _ _ _ _ (c.in_ok-put_str.ensures.ok)))

pub range-requires-clause-end_boundary : goal.range-requires-clause-end_boundary
range-requires-clause-end_boundary g c = cut _ (omega arith)

pub returns-clause-ok : goal.returns-clause-ok
returns-clause-ok g c =
    on_ok_weaker c.put_str-2.result (λ last.
    rw (← whole c.args.count c.loop-slice._slice 32 c.loop-slice-test.false c.loop-slice.auto._slice-end)
    (writes_in_calls_append _ _ _ _ _ _ c.loop-slice.invariant (writes_in_calls_single _ _ _ _ (rw c.range.ensures.value at last)))) c.put_str-2.ensures.ok
