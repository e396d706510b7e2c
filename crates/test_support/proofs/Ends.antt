-- The first end mark, and whether a text is whole.
use Rattle.std.proofs.Common.{ℕ, ◌≡◌, ◌≤◌, ◌<◌, ◌+◌, List, [], ◌∷◌, ◌++◌, Option, Some, None, MatchOption, length, take, drop, refl, sym, ap, arith, Bor, Bool, ◌==◌, IsTrue, tests, ◌∙◌, ◌⊎◌, inl, inr}
use Rattle.std.specs.Str.Pattern.{FindsText, LacksTextAt}
use Rattle.std.proofs.lemmas.Bool.{cases_lt}
use Rattle.std.proofs.lemmas.List.{drop_at, nil_from_length, length-append}
use Rattle.std.proofs.lemmas.Str.Pattern.{split_text_parts}
use Rattle.test_support.specs.Rows.{IsWhole, end_mark}

-- the clause of `split_once` at the end mark
abbrev IsSplit : List ℕ → Option (Bor (List ℕ) × Bor (List ℕ)) → Type 0
IsSplit text r = MatchOption r (FindsText end_mark text None) (λ x. (i : ℕ) × (j : ℕ) × FindsText end_mark text (Some (i, j)) × (x.0.now ≡ take i text) × (x.1.now ≡ drop j text) × (i ≤ j) × (length x.0.now ≡ i) × (length x.1.now + j ≡ length text))

nothing_after : (text front before after : List ℕ) → text ≡ front ++ end_mark → ((k : ℕ) → k < length front → LacksTextAt end_mark text k)
    → text ≡ before ++ (end_mark ++ after) → (length before < length front) ⊎ (length front ≤ length before) → after ≡ []
nothing_after text front before after e lacks f (inl l) = absurd (lacks (length before) l after (ap (drop (length before)) f ∙ drop_at before (end_mark ++ after) (length before) refl))
nothing_after text front before after e lacks f (inr l) = nil_from_length after (omega (arith, l, ap length f, length-append before (end_mark ++ after), ap length e, length-append front end_mark))

whole_at_end : (text : List ℕ) (x : Bor (List ℕ) × Bor (List ℕ)) → IsSplit text (Some x) → x.1.now ≡ [] → IsWhole text
whole_at_end text x h e =
    let whole : text ≡ x.0.now ++ end_mark = split_text_parts end_mark text (Some x) h ∙ ap (λ l. x.0.now ++ (end_mark ++ l)) e in
    let lacks : (k : ℕ) → k < length x.0.now → LacksTextAt end_mark text k = λ k l. h.2.0 k (omega (arith, l, h.6)) in
    ((x.0.now, whole), λ before after f. nothing_after text x.0.now before after whole lacks f (cases_lt (length before) (length x.0.now)))

end_at_whole : (text : List ℕ) (x : Bor (List ℕ) × Bor (List ℕ)) → IsSplit text (Some x) → IsWhole text → x.1.now ≡ []
end_at_whole text x h w = w.1 x.0.now x.1.now (split_text_parts end_mark text (Some x) h)

-- at the end mark: nothing follows it exactly if the text is whole
pub whole_if_nothing : (text : List ℕ) (x : Bor (List ℕ) × Bor (List ℕ)) (b : Bool) → IsSplit text (Some x) → b ≡ (length x.1.now == 0)
    → (IsTrue b → IsWhole text) × (IsWhole text → IsTrue b)
whole_if_nothing text x b h e = (λ t. whole_at_end text x h (nil_from_length x.1.now (grind (arith, tests, t, e))), λ w. grind (arith, tests, e, ap length (end_at_whole text x h w)))

pub no_mark : (text : List ℕ) → IsSplit text None → IsWhole text → ⊥
no_mark text h w = split_text_parts end_mark text None h w.0.0 [] w.0.1
