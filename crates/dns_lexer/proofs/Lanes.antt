-- From the lanes of a load to the octets of a class.
use Rattle.std.proofs.Common.{◌≡◌, ℕ, ◌+◌, ◌%◌, ◌^◌, ◌≤◌, true, not, List, map, length, get_or, Fits, w8, sym, ap, ◌∙◌, subst, arith}
use Rattle.std.proofs.lemmas.Bool.{agree_below, agree_below_at}
use Rattle.std.proofs.lemmas.Simd.{map-map, mask_l-mod, length-chunk, first_set_mask_l, run_in_chunk_le, run_in_chunk_fails, run_in_chunk_stops}
use Rattle.std.proofs.lemmas.List.{length-map}
use Rattle.std.specs.List.{prefix_len}
use lib.Lanes.{chunk, mask_l, top}
use Rattle.dns_lexer.specs.declared.runs.OctetClass.{OctetClass}
use Rattle.dns_lexer.specs.Skip.{is_in, RunIn, Marks, first_set}

-- the bits of lanes by a function of the octet, where a run over all octets shows that it marks those of no other class
pub marks_by : (k j : OctetClass) (v z : List ℕ) (f : ℕ → ℕ) → length v ≡ 16 → j ≡ k → z ≡ map f v → agree_below (is_in k) (λ c. not (top 7 (f c))) 256 ≡ true
    → Marks j v (mask_l (map (top 7) z) % 2 ^ 64)
marks_by k j v z f long same lanes all =
    let few : length (map (λ c. top 7 (f c)) v) ≤ 64 = omega (arith, length-map v (λ c. top 7 (f c)), long) in
    subst (λ i. Marks i v (mask_l (map (top 7) z) % 2 ^ 64)) (sym same) (record {
      marked = λ c. top 7 (f c);
      is = ap (λ l. mask_l l % 2 ^ 64) (ap (map (top 7)) lanes ∙ map-map (top 7) f v) ∙ mask_l-mod (map (λ c. top 7 (f c)) v) 64 few;
      exact = λ c small. agree_below_at (is_in k) (λ c. not (top 7 (f c))) 256 c all small;
    })

-- from the first bit that is set: each octet before it is of the class, and that one is not
pub run_of_lanes : (k : OctetClass) (text : List ℕ) (i r bits : ℕ) → i + 16 ≤ length text → ((n : ℕ) → Fits w8 (get_or text n 0)) → r ≡ first_set bits → Marks k (chunk i 16 text) bits → RunIn k text i r
run_of_lanes k text i r bits room fits found m =
    let long = length-chunk i 16 text room in
    let counted : r ≡ prefix_len (λ c. not (m.marked c)) (chunk i 16 text) = found ∙ ap first_set m.is ∙ first_set_mask_l m.marked (chunk i 16 text) 16 long (omega arith) in (
      run_in_chunk_le m.marked text i 16 r 0 room counted,
      λ n from to. m.exact (get_or text n 0) (fits n).fits ∙ ap not (run_in_chunk_fails m.marked text i 16 r 0 room counted n from to),
      λ lt. m.exact (get_or text (i + r) 0) (fits (i + r)).fits ∙ ap not (run_in_chunk_stops m.marked text i 16 r 0 room counted lt),
    )
