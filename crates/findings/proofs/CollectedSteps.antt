-- Findings that are collected, one after another.
use Rattle.std.proofs.Common.{◌≡◌, inl, inr, ℕ, List, [], ◌∷◌, ◌++◌, Option, Some, None, Result, Ok, Err, OnErr, Bool, true, false, cond, ◌==◌, option_to_list, Contains, IsPermutation, take, drop, refl, sym, ap, subst, ◌∙◌}
use Rattle.std.specs.List.{AllZip}
use Rattle.std.specs.Option.{IfSome}
use Rattle.std.proofs.lemmas.List.{map-append, take-append-drop}
use Rattle.std.proofs.lemmas.List.Elements.{Contains-append_cases, Contains-append_left, Contains-append_right}
use Rattle.std.proofs.lemmas.List.Sorted.{Contains-permutation, IsPermutation-sym}
use Rattle.std.proofs.lemmas.Option.{IfSome_then}
use Rattle.finding_codes.specs.Tally.{IsTally}
use Rattle.finding_codes.specs.declared.code.Severity.{Severity}
use Rattle.finding_codes.specs.declared.tally.Tally.{Tally}
use Rattle.findings.specs.declared.collector.FindingCollector.{FindingCollector}
use Rattle.findings.specs.declared.collector.FoundFinding.{FoundFinding}
use Rattle.findings.specs.declared.finding_order.Kept.{Kept}
use Rattle.findings.specs.declared.finding_order.KeptFinding.{KeptFinding}
use Rattle.findings.specs.Collected.{HasCollected, HasJudged, IsLast, ShowAlike, counted_after, kept_finding, kept_if, number_after, next_number}
use Rattle.findings.specs.FindingOrder.{AreAmong, findings_of, first_findings, with_text}
use Rattle.findings.specs.Shown.{IsSeverity, counted_severities}
use Rattle.findings.proofs.ShownFirsts.{alike_more, alike_through, last_more}

severities_more : (ss : List (Option Severity)) (s : Option Severity) → counted_severities (ss ++ s ∷ []) ≡ counted_severities ss ++ option_to_list s
severities_more [] None = refl
severities_more [] (Some s) = refl
severities_more (None ∷ ss) s = severities_more ss s
severities_more (Some t ∷ ss) s = ap (λ l. t ∷ l) (severities_more ss s)

pub number_more : (n : ℕ) (ss : List (Option Severity)) (s : Option Severity) → number_after n (ss ++ s ∷ []) ≡ number_after (number_after n ss) (s ∷ [])
number_more n [] s = refl
number_more n (None ∷ ss) s = number_more n ss s
number_more n (Some t ∷ ss) s = number_more (next_number n) ss s

module _ (R : FoundFinding → Option Severity → Type 0) where
  counted_more : (n : ℕ) (fs : List FoundFinding) (ss : List (Option Severity)) (f : FoundFinding) (s : Option Severity) → AllZip R fs ss
      → counted_after n (fs ++ f ∷ []) (ss ++ s ∷ []) ≡ counted_after n fs ss ++ option_to_list (kept_if (number_after n ss) f s)
  counted_more n [] [] f None h = refl
  counted_more n [] [] f (Some s) h = refl
  counted_more n [] (t ∷ ss) f s h = absurd h
  counted_more n (g ∷ fs) [] f s h = absurd h
  counted_more n (g ∷ fs) (None ∷ ss) f s h = counted_more n fs ss f s h.1
  counted_more n (g ∷ fs) (Some t ∷ ss) f s h = ap (λ l. kept_finding n g t ∷ l) (counted_more (next_number n) fs ss f s h.1)

pub tallied_more : (ss : List (Option Severity)) (s : Option Severity) (t : Tally) → IsTally (counted_severities ss ++ option_to_list s) t → IsTally (counted_severities (ss ++ s ∷ [])) t
tallied_more ss s t h = subst (λ l. IsTally l t) (sym (severities_more ss s)) h

module _ {T : Type 0} where
  -- one more finding, which is not kept yet if it may be shown
  pub judged_more : (found : List FoundFinding) (c : FindingCollector T) (f : FoundFinding) (s : Option Severity) (judged shown : Option KeptFinding)
      (h : HasCollected found c)
      → judged ≡ kept_if c.number f s
      → ShowAlike c.tally.most (findings_of c.kept.items ++ option_to_list judged) (findings_of c.kept.items ++ option_to_list shown)
      → ShowAlike c.tally.most (counted_after 0 (found ++ f ∷ []) (h.severities ++ s ∷ [])) (findings_of c.kept.items ++ option_to_list shown)
  judged_more found c f s judged shown h is alike =
      let most = c.tally.most in
      let kept : List KeptFinding = findings_of c.kept.items in
      let all : List KeptFinding = counted_after 0 found h.severities in
      let last : counted_after 0 (found ++ f ∷ []) (h.severities ++ s ∷ []) ≡ all ++ option_to_list judged =
      counted_more (λ g t. IsSeverity c.policy g.code g.is_refused g.is_excepted t) 0 found h.severities f s h.judged
      ∙ ap (λ n. all ++ option_to_list (kept_if n f s)) (sym h.number)
      ∙ ap (λ o. all ++ option_to_list o) (sym is) in
      subst (λ l. ShowAlike most l (kept ++ option_to_list shown)) (sym last)
      (alike_through most (all ++ option_to_list judged) (kept ++ option_to_list judged) (kept ++ option_to_list shown) (alike_more most all kept (option_to_list judged) h.kept) alike)

  -- the same collector, of which some findings were dropped
  pub judged_less : (found : List FoundFinding) (one : Option KeptFinding) (c d : FindingCollector T) (less : List (Kept T))
      → ShowAlike c.tally.most (findings_of c.kept.items) (findings_of less) → IfSome d.last (IsLast c.tally.most (findings_of less)) → d.kept.items ≡ less
      → d.policy ≡ c.policy → d.tally ≡ c.tally → d.number ≡ c.number
      → HasJudged found one c → HasJudged found one d
  judged_less found one c d less alike last kept policy tally number h =
      let all : List KeptFinding = counted_after 0 found h.severities in
      record {
        severities = h.severities;
        judged = subst (λ p. AllZip (λ g t. IsSeverity p g.code g.is_refused g.is_excepted t) found h.severities) (sym policy) h.judged;
        kept = subst (λ t. ShowAlike t.most all (findings_of d.kept.items ++ option_to_list one)) (sym tally)
            (subst (λ (l : List (Kept T)). ShowAlike c.tally.most all (findings_of l ++ option_to_list one)) (sym kept)
            (alike_through c.tally.most all (findings_of c.kept.items ++ option_to_list one) (findings_of less ++ option_to_list one) h.kept
            (alike_more c.tally.most (findings_of c.kept.items) (findings_of less) (option_to_list one) alike)));
        number = number ∙ h.number;
        tallied = subst (λ t. IsTally (counted_severities h.severities) t) (sym tally) h.tallied;
        last = subst (λ t. IfSome d.last (IsLast t.most (findings_of d.kept.items))) (sym tally)
            (subst (λ (l : List (Kept T)). IfSome d.last (IsLast c.tally.most (findings_of l))) (sym kept) last);
      }

  -- the same collector, which keeps the finding
  pub kept_more : (found : List FoundFinding) (one : KeptFinding) (text : T) (c d : FindingCollector T)
      → d.kept.items ≡ c.kept.items ++ with_text one text ∷ [] → d.policy ≡ c.policy → d.tally ≡ c.tally → d.number ≡ c.number → d.last ≡ c.last
      → HasJudged found (Some one) c → HasCollected found d
  kept_more found one text c d grown policy tally number last h =
      let kept : List KeptFinding = findings_of c.kept.items in
      let items : findings_of d.kept.items ≡ kept ++ one ∷ [] = ap (λ (l : List (Kept T)). findings_of l) grown ∙ map-append (λ (k : Kept T). k.finding) c.kept.items (with_text one text ∷ []) in
      record {
        severities = h.severities;
        judged = subst (λ p. AllZip (λ g t. IsSeverity p g.code g.is_refused g.is_excepted t) found h.severities) (sym policy) h.judged;
        kept = subst (λ t. ShowAlike t.most (counted_after 0 found h.severities) (findings_of d.kept.items)) (sym tally)
            (subst (λ l. ShowAlike c.tally.most (counted_after 0 found h.severities) l) (sym items) h.kept);
        number = number ∙ h.number;
        tallied = subst (λ t. IsTally (counted_severities h.severities) t) (sym tally) h.tallied;
        last = subst (λ t. IfSome d.last (IsLast t.most (findings_of d.kept.items))) (sym tally)
            (subst (λ l. IfSome d.last (IsLast c.tally.most l)) (sym items)
            (subst (λ o. IfSome o (IsLast c.tally.most (kept ++ one ∷ []))) (sym last)
            (IfSome_then c.last h.last (λ l is. last_more c.tally.most kept (one ∷ []) l is))));
      }

pub any_err : {T E : Type 0} (r : Result T E) (P : Type 0) → P → OnErr r P
any_err (Ok x) P p = tt
any_err (Err e) P p = p

-- ---- what is kept of some is among them

pub among_itself : {X : Type 0} (xs : List X) → AreAmong xs xs
among_itself xs x h = h

pub among_through : {X : Type 0} (xs ys zs : List X) → AreAmong zs ys → AreAmong ys xs → AreAmong zs xs
among_through xs ys zs h k x inside = k x (h x inside)

pub among_sorted : {X : Type 0} (xs ys : List X) → IsPermutation xs ys → AreAmong ys xs
among_sorted xs ys h x inside = Contains-permutation ys xs x (IsPermutation-sym xs ys h) inside

pub among_taken : {X : Type 0} (n : ℕ) (xs : List X) → AreAmong (take n xs) xs
among_taken n xs x inside = subst (λ l. Contains l x) (take-append-drop n xs) (Contains-append_left (take n xs) (drop n xs) x inside)

pub among_more : {X : Type 0} (xs ys added : List X) → AreAmong ys xs → AreAmong (ys ++ added) (xs ++ added)
among_more xs ys added h x inside =
    elim (Contains-append_cases ys added x inside)
    [ inl one ↦ Contains-append_left xs added x (h x one) | inr other ↦ Contains-append_right xs added x other ]

pub among_wider : {X : Type 0} (xs ys added : List X) → AreAmong ys xs → AreAmong ys (xs ++ added)
among_wider xs ys added h x inside = Contains-append_left xs added x (h x inside)

pub among_first : {X : Type 0} (most : ℕ) (xs ys : List X) → ys ≡ first_findings most xs → AreAmong ys xs
among_first {X} most xs ys e =
    let either : (all : Bool) → AreAmong (cond all xs (take most xs)) xs = elim [ true ↦ among_itself xs | false ↦ among_taken most xs ] in
    subst (λ l. AreAmong l xs) (sym e) (either (most == 0))

pub among_same : {X : Type 0} (xs ys zs : List X) → ys ≡ zs → AreAmong zs xs → AreAmong ys xs
among_same xs ys zs e h = subst (λ l. AreAmong l xs) (sym e) h
