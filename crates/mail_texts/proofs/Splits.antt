-- Splits of octets.
use Rattle.std.proofs.Common.{ℕ, suc, ◌≡◌, ◌+◌, ◌<◌, ◌≤◌, Bool, true, false, cond, Some, None, List, [], ◌∷◌, length, take, drop, refl, sym, ap, ◌∙◌, arith, length-drop}
use Rattle.std.specs.Prelude.{◌==◌, ◌&&◌, not, nat_lt}
use Rattle.std.specs.List.{list_all, onto_first, position, position_or_len, slice_split}
use Rattle.std.specs.Option.{option_map, option_map_or}
use Rattle.std.proofs.lemmas.Bool.Decides.{nat_tests}
use Rattle.std.proofs.lemmas.List.{take_all}
use Rattle.std.proofs.lemmas.List.Splits.{slice_split_first}
use Rattle.mail_texts.specs.Macros.{has_no_octets, is_top_end, is_top_label}
use Rattle.mail_texts.specs.Parts.{is_pair, octets_before, parts_between, IsSplitAt, IsUnsplit}
use Rattle.mail_texts.specs.SpfTerms.{has_ip4_arguments, has_ip6_arguments, is_ip4_network, is_ip6_network, is_spf_modifier, is_modifier_name, is_number_up_to, is_value_of}

-- ---- the first place at which a test passes

place_bound : {X : Type 0} (p : X → Bool) (xs : List X) → position_or_len p xs ≤ length xs
place_bound p [] = omega arith
place_bound p (x ∷ xs) = by (p x) (place_bound p xs)
  where
    by : (b : Bool) → position_or_len p xs ≤ length xs → cond (not b) (1 + position_or_len p xs) 0 ≤ suc (length xs)
    by true h = omega arith
    by false h = omega (arith, h)

pub place_is : {X : Type 0} (p : X → Bool) (xs : List X) (i : ℕ) → position p xs ≡ Some i → i ≡ position_or_len p xs
place_is p xs i e = by (nat_lt (position_or_len p xs) (length xs)) e
  where
    by : (b : Bool) → cond b (Some (position_or_len p xs)) None ≡ Some i → i ≡ position_or_len p xs
    by true h = cc
    by false h = cc

place_within : {X : Type 0} (p : X → Bool) (xs : List X) (i : ℕ) → position p xs ≡ Some i → position_or_len p xs < length xs
place_within p xs i e = by (nat_lt (position_or_len p xs) (length xs)) refl e
  where
    less : (m n : ℕ) → nat_lt m n ≡ true → m < n
    less m n h = grind (arith, nat_tests, h)

    by : (b : Bool) → nat_lt (position_or_len p xs) (length xs) ≡ b → cond b (Some (position_or_len p xs)) None ≡ Some i → position_or_len p xs < length xs
    by true h k = less (position_or_len p xs) (length xs) h
    by false h k = cc

pub place_is_end : {X : Type 0} (p : X → Bool) (xs : List X) → position p xs ≡ None → length xs ≡ position_or_len p xs
place_is_end p xs e = by (nat_lt (position_or_len p xs) (length xs)) refl e
  where
    same : (m n : ℕ) → m ≤ n → nat_lt m n ≡ false → n ≡ m
    same m n l h = grind (arith, nat_tests, l, h)

    by : (b : Bool) → nat_lt (position_or_len p xs) (length xs) ≡ b → cond b (Some (position_or_len p xs)) None ≡ None → length xs ≡ position_or_len p xs
    by true h k = cc
    by false h k = same (position_or_len p xs) (length xs) (place_bound p xs) h

-- ---- splits

pub split_is : (d : ℕ) (octets : List ℕ) (i : ℕ) → position (λ o. o == d) octets ≡ Some i → IsSplitAt d octets (take i octets) (drop (i + 1) octets)
split_is d octets i e =
    let at = place_is (λ o. o == d) octets i e in
    let within = place_within (λ o. o == d) octets i e in record {
      is_before = ap (λ n. take n octets) (sym at);
      is_after = ap (option_map (λ place. drop (place + 1) octets)) e;
      parts = slice_split_first (λ o. o == d) octets d within ∙ ap (λ n. take n octets ∷ parts_between d (drop (n + 1) octets)) (sym at);
      fewer = omega (arith, at, within, length-drop (i + 1) octets);
    }

one_part : {X : Type 0} (p : X → Bool) (xs : List X) → length xs ≡ position_or_len p xs → slice_split p xs ≡ xs ∷ []
one_part p [] e = refl
one_part p (x ∷ xs) e = by (p x) refl e (one_part p xs)
  where
    onto : {X : Type 0} (x : X) (xs : List X) (b : Bool) (parts : List (List X)) → b ≡ false → parts ≡ xs ∷ [] → cond b ([] ∷ parts) (onto_first x parts) ≡ (x ∷ xs) ∷ []
    onto x xs b parts f h = (λ i. cond (f i) ([] ∷ h i) (onto_first x (h i)))

    by : (b : Bool) → p x ≡ b → suc (length xs) ≡ cond (not b) (1 + position_or_len p xs) 0 → (length xs ≡ position_or_len p xs → slice_split p xs ≡ xs ∷ []) → slice_split p (x ∷ xs) ≡ (x ∷ xs) ∷ []
    by true f h more = absurd (omega (arith, h))
    by false f h more = onto x xs (p x) (slice_split p xs) f (more (omega (arith, h)))

pub unsplit_is : (d : ℕ) (octets : List ℕ) → position (λ o. o == d) octets ≡ None → IsUnsplit d octets
unsplit_is d octets e =
    let end = place_is_end (λ o. o == d) octets e in record {
      is_before = take_all (position_or_len (λ o. o == d) octets) octets (omega (arith, end));
      is_after = ap (option_map (λ place. drop (place + 1) octets)) e;
      parts = one_part (λ o. o == d) octets end;
    }

-- ---- all parts

pub and_true : (b : Bool) → (b && true) ≡ b
and_true true = refl
and_true false = refl

pub and_false : (b : Bool) → (b && false) ≡ false
and_false true = refl
and_false false = refl

pub all_step : (p : List ℕ → Bool) (d : ℕ) (octets before after : List ℕ) → IsSplitAt d octets before after → list_all p (parts_between d octets) ≡ (p before && list_all p (parts_between d after))
all_step p d octets before after h = ap (list_all p) h.parts

pub all_last : (p : List ℕ → Bool) (d : ℕ) (octets : List ℕ) → IsUnsplit d octets → list_all p (parts_between d octets) ≡ p octets
all_last p d octets h = ap (list_all p) h.parts ∙ and_true (p octets)

-- ---- pairs

pub pair_split : (p q : List ℕ → Bool) (d : ℕ) (octets before after : List ℕ) → IsSplitAt d octets before after → is_pair d p q octets ≡ (p before && q after)
pair_split p q d octets before after h = λ i. p (h.is_before i) && option_map_or q (h.is_after i) false

pub pair_unsplit : (p q : List ℕ → Bool) (d : ℕ) (octets : List ℕ) → IsUnsplit d octets → is_pair d p q octets ≡ false
pair_unsplit p q d octets h = ap (λ o. p (octets_before d octets) && option_map_or q o false) h.is_after ∙ and_false (p (octets_before d octets))

-- ---- the end of a domain-spec

pub top_split : (octets before after : List ℕ) → IsSplitAt 46 octets before after → is_top_end octets ≡ (is_top_label before && has_no_octets after)
top_split octets before after h = λ i. is_top_label (h.is_before i) && option_map_or has_no_octets (h.is_after i) true

pub top_unsplit : (octets : List ℕ) → IsUnsplit 46 octets → is_top_end octets ≡ is_top_label octets
top_unsplit octets h = (λ i. is_top_label (h.is_before i) && option_map_or has_no_octets (h.is_after i) true) ∙ and_true (is_top_label octets)

-- ---- arguments and modifiers

pub ip4_split : (octets before after : List ℕ) → IsSplitAt 47 octets before after → has_ip4_arguments octets ≡ (is_ip4_network before && is_number_up_to 32 after)
ip4_split octets before after h = λ i. is_ip4_network (h.is_before i) && option_map_or (is_number_up_to 32) (h.is_after i) true

pub ip4_unsplit : (octets : List ℕ) → IsUnsplit 47 octets → has_ip4_arguments octets ≡ is_ip4_network octets
ip4_unsplit octets h = (λ i. is_ip4_network (h.is_before i) && option_map_or (is_number_up_to 32) (h.is_after i) true) ∙ and_true (is_ip4_network octets)

pub ip6_split : (octets before after : List ℕ) → IsSplitAt 47 octets before after → has_ip6_arguments octets ≡ (is_ip6_network before && is_number_up_to 128 after)
ip6_split octets before after h = λ i. is_ip6_network (h.is_before i) && option_map_or (is_number_up_to 128) (h.is_after i) true

pub ip6_unsplit : (octets : List ℕ) → IsUnsplit 47 octets → has_ip6_arguments octets ≡ is_ip6_network octets
ip6_unsplit octets h = (λ i. is_ip6_network (h.is_before i) && option_map_or (is_number_up_to 128) (h.is_after i) true) ∙ and_true (is_ip6_network octets)

pub modifier_split : (octets before after : List ℕ) → IsSplitAt 61 octets before after → is_spf_modifier octets ≡ (is_modifier_name before && is_value_of before after)
modifier_split octets before after h = λ i. is_modifier_name (h.is_before i) && option_map_or (is_value_of (h.is_before i)) (h.is_after i) false

pub modifier_unsplit : (octets : List ℕ) → IsUnsplit 61 octets → is_spf_modifier octets ≡ false
modifier_unsplit octets h = ap (λ o. is_modifier_name (octets_before 61 octets) && option_map_or (is_value_of (octets_before 61 octets)) o false) h.is_after ∙ and_false (is_modifier_name (octets_before 61 octets))
