-- A list, cut at the first octet that is a mark.
use Rattle.std.proofs.Common.{◌||◌, ◌≡◌, ◌≢◌, ℕ, ◌+◌, ◌-◌, ◌<◌, ◌≤◌, true, false, ◌==◌, List, [], ◌∷◌, ◌++◌, length, get_or, refl, sym, ap, ◌∙◌, arith, take, drop}
use Rattle.std.proofs.lemmas.List.{take_at, take_all, take-append-drop, take_rest, length-drop, drop_more, get_or_append_left, get_or_at, get_or-take}
use Rattle.std.proofs.lemmas.List.Sums.{position_or_len_is}
use Rattle.std.proofs.lemmas.Bool.Decides.{nat_tests}
use Rattle.std.proofs.lemmas.Grind.{common_steps}
use Rattle.std.specs.List.{list_any, slice_split, before_first, position_or_len}

-- none of the octets is the mark
abbrev pub Lacks : ℕ → List ℕ → Type 0
Lacks c xs = (i : ℕ) → i < length xs → get_or xs i 0 ≢ c

head_differs : (c x : ℕ) (xs : List ℕ) → Lacks c (x ∷ xs) → (x == c) ≡ false
head_differs c x xs h = let ne : x ≢ c = h 0 (grind (arith, common_steps)) in grind (arith, nat_tests)

lacks_tail : (c x : ℕ) (xs : List ℕ) → Lacks c (x ∷ xs) → Lacks c xs
lacks_tail c x xs h i lt = let k = h (i + 1) (grind (arith, common_steps)) in grind (arith, common_steps)

pub any_lacks : (c : ℕ) (xs : List ℕ) → Lacks c xs → list_any (λ x. x == c) xs ≡ false
any_lacks c [] h = refl
any_lacks c (x ∷ xs) h = rw (head_differs c x xs h) (any_lacks c xs (lacks_tail c x xs h))

same_test : (c : ℕ) → (c == c) ≡ true
same_test c = grind (arith, nat_tests)

any_at : (c : ℕ) (xs ys : List ℕ) → list_any (λ x. x == c) (xs ++ c ∷ ys) ≡ true
any_at c [] ys = rw (same_test c)
any_at c (x ∷ xs) ys = let rest = any_at c xs ys in elim (x == c) as (λ b. ◌||◌ b (list_any (λ y. y == c) (xs ++ c ∷ ys)) ≡ true) [ true ↦ refl | false ↦ rest ]

position_lacks : (c : ℕ) (xs : List ℕ) → Lacks c xs → position_or_len (λ x. x == c) xs ≡ length xs
position_lacks c xs h =
    position_or_len_is (λ x. x == c) xs (length xs) 0 (omega arith) (λ k lt. let ne = h k lt in grind (arith, nat_tests)) (λ lt. absurd (omega arith))

position_at : (c : ℕ) (xs ys : List ℕ) → Lacks c xs → position_or_len (λ x. x == c) (xs ++ c ∷ ys) ≡ length xs
position_at c xs ys h =
    position_or_len_is (λ x. x == c) (xs ++ c ∷ ys) (length xs) 0 (grind (arith, common_steps))
    (λ k lt. let ne = h k lt in rw get_or_append_left (grind (arith, nat_tests))) (λ _. rw (get_or_at xs c ys 0 (length xs) refl) (same_test c))

pub before_lacks : (c : ℕ) (xs : List ℕ) → Lacks c xs → before_first (λ x. x == c) xs ≡ xs
before_lacks c xs h = ap (λ n. take n xs) (position_lacks c xs h) ∙ take_all (length xs) xs (omega arith)

before_at : (c : ℕ) (xs ys : List ℕ) → Lacks c xs → before_first (λ x. x == c) (xs ++ c ∷ ys) ≡ xs
before_at c xs ys h = ap (λ n. take n (xs ++ c ∷ ys)) (position_at c xs ys h) ∙ take_at xs (c ∷ ys) (length xs) refl

pub split_lacks : (c : ℕ) (xs : List ℕ) → Lacks c xs → slice_split (λ x. x == c) xs ≡ xs ∷ []
split_lacks c [] h = refl
split_lacks c (x ∷ xs) h = rw (head_differs c x xs h, split_lacks c xs (lacks_tail c x xs h))

split_at_mark : (c : ℕ) (xs ys : List ℕ) → Lacks c xs → slice_split (λ x. x == c) (xs ++ c ∷ ys) ≡ xs ∷ slice_split (λ x. x == c) ys
split_at_mark c [] ys h = rw (same_test c)
split_at_mark c (x ∷ xs) ys h = rw (head_differs c x xs h, split_at_mark c xs ys (lacks_tail c x xs h))

pub ended_lacks : (c n : ℕ) (xs : List ℕ) → length xs ≤ n → ((k : ℕ) → k < n → get_or xs k 0 ≢ c) → Lacks c xs
ended_lacks c n xs end h k l = h k (omega (arith, l, end))

-- a text is what is before its first mark, this, and what is after it
pub record CutsAt (c : ℕ) (text before behind : List ℕ) : Type 0 where
  pub before_is : before ≡ before_first (λ x. x == c) text
  pub found : true ≡ list_any (λ x. x == c) text
  pub parts : slice_split (λ x. x == c) text ≡ before ∷ slice_split (λ x. x == c) behind
  pub shorter : length behind < length text

pub cuts_at : (c : ℕ) (text : List ℕ) (i n : ℕ) → ((k : ℕ) → k < i → get_or text k 0 ≢ c) → i < length text → get_or text i 0 ≡ c → n ≡ i + 1
    → CutsAt c text (take i text) (take (length text - n) (drop n text))
cuts_at c text i n lacks here is next =
    let front : Lacks c (take i text) = λ k l. let same = get_or-take i text k 0 (grind (arith, common_steps)) in let no = lacks k (grind (arith, common_steps)) in λ e. no (sym same ∙ e) in
    let whole : text ≡ take i text ++ (c ∷ drop (i + 1) text) =
    sym (take-append-drop i text) ∙ ap (λ l. take i text ++ l) (drop_more text i 0 here) ∙ ap (λ o. take i text ++ (o ∷ drop (i + 1) text)) is in
    let rest : take (length text - n) (drop n text) ≡ drop (i + 1) text = take_rest text n ∙ ap (λ k. drop k text) next in
    record {
      before_is = sym (ap (before_first (λ x. x == c)) whole ∙ before_at c (take i text) (drop (i + 1) text) front);
      found = sym (ap (list_any (λ x. x == c)) whole ∙ any_at c (take i text) (drop (i + 1) text));
      parts = ap (slice_split (λ x. x == c)) whole ∙ split_at_mark c (take i text) (drop (i + 1) text) front ∙ ap (λ r. take i text ∷ slice_split (λ x. x == c) r) (sym rest);
      shorter = omega (arith, ap length rest, length-drop (i + 1) text);
    }
