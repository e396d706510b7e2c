-- Ranks of findings about words: what one more finding changes.
use Rattle.std.proofs.Common.{◌≡◌, ◌∙◌, ◌==◌, ◌&&◌, ◌||◌, Bool, Equal, Greater, Less, None, Option, Ordering, Some, ap, arith, cond, false, is_eq, is_some, nat_cmp, nat_lt, refl, sym, true, true≢false, ⊎_elim, ℕ}
use Rattle.std.proofs.lemmas.Bool.{cases_Bool, cond-false, cond-true}
use Rattle.std.proofs.lemmas.Bool.Decides.{nat_tests}
use Rattle.std.proofs.lemmas.Map.Lookups.{CmpEqualImpliesEq, exact_pairs, exact_unsigned}
use Rattle.std.specs.BTreeMap.{BTreeMap, get}
use Rattle.std.specs.Cmp.{Equal-is}
use Rattle.std.specs.Ordering.{ordering_then}
use Rattle.finding_counts.specs.WordRanks.{first_held, groups_are_equal, held_after, held_index, held_index_at, is_beaten, is_beaten_at, is_rank_less, is_same_word, least_rank, outranks, pair_cmp, ranks_are_ordered, word_cmp, word_key, word_rank}
use Rattle.finding_counts.specs.declared.word_ranks.CodeAtWord.{CodeAtWord}
use Rattle.finding_counts.specs.declared.word_ranks.WordRank.{WordRank}
use Rattle.finding_counts.specs.declared.word_ranks.WordRanks.{WordRanks}

eq_then : (a b : Ordering) → is_eq (ordering_then a b) ≡ (is_eq a && is_eq b)
eq_then Less b = refl
eq_then Equal b = refl
eq_then Greater b = refl

eq_numbers : (x y : ℕ) → is_eq (nat_cmp x y) ≡ (x == y)
eq_numbers x y = grind (arith, nat_tests)

eq_pairs : (x y : ℕ × ℕ) → is_eq (pair_cmp x y) ≡ (x.0 == y.0 && x.1 == y.1)
eq_pairs x y = eq_then (nat_cmp x.0 y.0) (nat_cmp x.1 y.1) ∙ ap (λ b. b && is_eq (nat_cmp x.1 y.1)) (eq_numbers x.0 y.0) ∙ ap (λ b. x.0 == y.0 && b) (eq_numbers x.1 y.1)

-- equal keys are of one group, file and position
eq_words : (x y : (ℕ × ℕ) × (ℕ × ℕ)) → is_eq (word_cmp x y) ≡ ((x.0.0 == y.0.0 && x.0.1 == y.0.1) && (x.1.0 == y.1.0 && x.1.1 == y.1.1))
eq_words x y = eq_then (pair_cmp x.0 y.0) (pair_cmp x.1 y.1) ∙ ap (λ b. b && is_eq (pair_cmp x.1 y.1)) (eq_pairs x.0 y.0) ∙ ap (λ b. (x.0.0 == y.0.0 && x.0.1 == y.0.1) && b) (eq_pairs x.1 y.1)

exact_pair : CmpEqualImpliesEq pair_cmp
exact_pair = exact_pairs nat_cmp nat_cmp exact_unsigned exact_unsigned

exact_word : CmpEqualImpliesEq word_cmp
exact_word = exact_pairs pair_cmp pair_cmp exact_pair exact_pair

same_key : (x y : (ℕ × ℕ) × (ℕ × ℕ)) → is_eq (word_cmp x y) ≡ true → x ≡ y
same_key x y e = exact_word x y ((Equal-is (word_cmp x y)).0 e)

and_false : (b : Bool) → (b && false) ≡ false
and_false true = refl
and_false false = refl

-- what is left of a test of group, file, line and column, and of one more
none_holds : (x g f l c t : Bool) → ((g && f) && (l && c)) ≡ false → x ≡ (x || ((f && (l && c)) && (g && t)))
none_holds true g f l c t e = refl
none_holds false true true true true t e = absurd (true≢false e)
none_holds false false true true true t e = refl
none_holds false g false l c t e = refl
none_holds false g true false c t e = refl
none_holds false g true true false t e = refl

all_hold : (g f l c t : Bool) → ((g && f) && (l && c)) ≡ true → ((f && (l && c)) && (g && t)) ≡ t
all_hold true true true true t e = refl
all_hold false f l c t e = absurd (true≢false (sym e))
all_hold true false l c t e = absurd (true≢false (sym e))
all_hold true true false c t e = absurd (true≢false (sym e))
all_hold true true true false t e = absurd (true≢false (sym e))

group_differs : (g f l c : Bool) → ((g && f) && (l && c)) ≡ false → ((f && (l && c)) && g) ≡ false
group_differs true true true true e = absurd (true≢false e)
group_differs false true true true e = refl
group_differs g false l c e = refl
group_differs g true false c e = refl
group_differs g true true false e = refl

group_is_equal : (g f l c : Bool) → ((g && f) && (l && c)) ≡ true → ((f && (l && c)) && g) ≡ true
group_is_equal true true true true e = refl
group_is_equal false f l c e = absurd (true≢false (sym e))
group_is_equal true false l c e = absurd (true≢false (sym e))
group_is_equal true true false c e = absurd (true≢false (sym e))
group_is_equal true true true false e = absurd (true≢false (sym e))

less_with : (o : Option ℕ) (r q : ℕ) → nat_lt (least_rank o r) q ≡ (is_rank_less o q || nat_lt r q)
less_with None r q = refl
less_with (Some l) r q = grind (arith, nat_tests)

pub beaten_with : (ranks : WordRanks) (word : CodeAtWord) (r : WordRank) (key : (ℕ × ℕ) × (ℕ × ℕ)) (found : Option ℕ) → word_rank word.code ≡ Some r
    → key ≡ word_key r word → get word_cmp ranks.ranks key ≡ found → is_beaten ranks word ≡ is_rank_less found r.rank
beaten_with ranks word r key found e k g =
    ap (is_beaten_at ranks word) e ∙ ap (λ o. is_rank_less o r.rank) (ap (get word_cmp ranks.ranks) (sym k) ∙ g)

-- what a map has after a change at a key
abbrev pub IsChangedAt : (key : (ℕ × ℕ) × (ℕ × ℕ)) (v : ℕ) (m n : BTreeMap ((ℕ × ℕ) × (ℕ × ℕ)) ℕ) → Type 0
IsChangedAt key v m n = (q : (ℕ × ℕ) × (ℕ × ℕ)) → get word_cmp n q ≡ cond (is_eq (word_cmp key q)) (Some v) (get word_cmp m q)

beaten_after_at : (old new : WordRanks) (word : CodeAtWord) (r : WordRank) (least : ℕ) → IsChangedAt (word_key r word) least old.ranks new.ranks
    → least ≡ least_rank (get word_cmp old.ranks (word_key r word)) r.rank → (other : CodeAtWord) (o : Option WordRank)
    → is_beaten_at new other o ≡ (is_beaten_at old other o || (is_same_word word other && ranks_are_ordered (Some r) o))
beaten_after_at old new word r least changed is_least other None = sym (and_false (is_same_word word other))
beaten_after_at old new word r least changed is_least other (Some q) =
    let now : get word_cmp new.ranks (word_key q other) ≡ cond (is_eq (word_cmp (word_key r word) (word_key q other))) (Some least) (get word_cmp old.ranks (word_key q other)) = changed (word_key q other) in
    let parts = eq_words (word_key r word) (word_key q other) in
    ⊎_elim
    (λ y.
    let same : word_key r word ≡ word_key q other = same_key _ _ y in
    ap (λ o. is_rank_less o q.rank) (now ∙ cond-true _ (Some least) _ y)
    ∙ ap (λ n. nat_lt n q.rank) (is_least ∙ ap (λ k. least_rank (get word_cmp old.ranks k) r.rank) same)
    ∙ less_with (get word_cmp old.ranks (word_key q other)) r.rank q.rank
    ∙ ap (λ b. is_rank_less (get word_cmp old.ranks (word_key q other)) q.rank || b) (sym (all_hold (r.group == q.group) (word.file == other.file) (word.position.line == other.position.line) (word.position.column == other.position.column) (nat_lt r.rank q.rank) (sym parts ∙ y))))
    (λ n.
    ap (λ o. is_rank_less o q.rank) (now ∙ cond-false _ (Some least) _ n)
    ∙ none_holds (is_rank_less (get word_cmp old.ranks (word_key q other)) q.rank) (r.group == q.group) (word.file == other.file) (word.position.line == other.position.line) (word.position.column == other.position.column) (nat_lt r.rank q.rank) (sym parts ∙ n))
    (cases_Bool (is_eq (word_cmp (word_key r word) (word_key q other))))

pub beaten_after : (old new : WordRanks) (word : CodeAtWord) (r : WordRank) (least : ℕ) → word_rank word.code ≡ Some r → IsChangedAt (word_key r word) least old.ranks new.ranks
    → least ≡ least_rank (get word_cmp old.ranks (word_key r word)) r.rank → (other : CodeAtWord)
    → is_beaten new other ≡ (is_beaten old other || outranks word other)
beaten_after old new word r least e changed is_least other =
    beaten_after_at old new word r least changed is_least other (word_rank other.code)
    ∙ ap (λ o. is_beaten old other || (is_same_word word other && ranks_are_ordered o (word_rank other.code))) (sym e)

held_stays : (o : Option ℕ) (index : ℕ) → o ≡ first_held o index false
held_stays None index = refl
held_stays (Some i) index = refl

held_after_at : (old new : WordRanks) (word : CodeAtWord) (r : WordRank) (index : ℕ) → IsChangedAt (word_key r word) index old.held new.held
    → get word_cmp old.held (word_key r word) ≡ None → (other : CodeAtWord) (o : Option WordRank)
    → held_index_at new other o ≡ first_held (held_index_at old other o) index (is_same_word word other && groups_are_equal (Some r) o)
held_after_at old new word r index changed none other None = sym (ap (first_held None index) (and_false (is_same_word word other)))
held_after_at old new word r index changed none other (Some q) =
    let now : get word_cmp new.held (word_key q other) ≡ cond (is_eq (word_cmp (word_key r word) (word_key q other))) (Some index) (get word_cmp old.held (word_key q other)) = changed (word_key q other) in
    let parts = eq_words (word_key r word) (word_key q other) in
    ⊎_elim
    (λ y.
    let free : get word_cmp old.held (word_key q other) ≡ None = ap (get word_cmp old.held) (sym (same_key _ _ y)) ∙ none in
    now ∙ cond-true _ (Some index) _ y
    ∙ sym (ap (λ o. first_held o index (is_same_word word other && r.group == q.group)) free
    ∙ ap (first_held None index) (group_is_equal (r.group == q.group) (word.file == other.file) (word.position.line == other.position.line) (word.position.column == other.position.column) (sym parts ∙ y))))
    (λ n.
    now ∙ cond-false _ (Some index) _ n
    ∙ held_stays (get word_cmp old.held (word_key q other)) index
    ∙ ap (first_held (get word_cmp old.held (word_key q other)) index) (sym (group_differs (r.group == q.group) (word.file == other.file) (word.position.line == other.position.line) (word.position.column == other.position.column) (sym parts ∙ n))))
    (cases_Bool (is_eq (word_cmp (word_key r word) (word_key q other))))

pub held_once : (old new : WordRanks) (word : CodeAtWord) (r : WordRank) (index : ℕ) → word_rank word.code ≡ Some r → IsChangedAt (word_key r word) index old.held new.held
    → get word_cmp old.held (word_key r word) ≡ None → (other : CodeAtWord) → held_index new other ≡ held_after old word index other
held_once old new word r index e changed none other =
    held_after_at old new word r index changed none other (word_rank other.code)
    ∙ ap (λ o. first_held (held_index old other) index (is_same_word word other && groups_are_equal o (word_rank other.code))) (sym e)

pub none_from_test : (o : Option ℕ) → is_some o ≡ false → o ≡ None
none_from_test None h = refl
none_from_test (Some n) h = absurd (true≢false h)
