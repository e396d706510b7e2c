-- Steps over the parts of tag-lists.
use Rattle.std.proofs.Common.{ℕ, ◌≡◌, Bool, true, false, cond, Option, Some, None, List, [], ◌≤◌, length, refl, sym, ap, ◌∙◌, arith, length-take}
use Rattle.std.specs.Prelude.{◌==◌, ◌&&◌, ◌||◌, not}
use Rattle.std.specs.List.{list_all, list_any, position_or_len}
use Rattle.std.specs.Option.{option_map_or}
use Rattle.mail_texts.specs.Parts.{octets_before, parts_between, IsSplitAt, IsUnsplit}
use Rattle.mail_texts.specs.Tags.{first_value, has_tag, has_tag_twice, is_failing_tag, is_fws, is_some_value, is_lone_word, lacks_value, lone_word, or_value, recurs, tag_name, tag_value}
use Rattle.mail_texts.proofs.Splits.{and_true, and_false}

pub before_split : (d : ℕ) (octets before after : List ℕ) → IsSplitAt d octets before after → before ≡ octets_before d octets
before_split d octets before after h = sym h.is_before

pub before_unsplit : (d : ℕ) (octets : List ℕ) → IsUnsplit d octets → octets ≡ octets_before d octets
before_unsplit d octets h = sym h.is_before

-- ---- values and names

pub value_split : (name octets before after : List ℕ) → IsSplitAt 61 octets before after → tag_value name octets ≡ cond (is_lone_word name before) (Some after) None
value_split name octets before after h = λ i. cond (is_lone_word name (h.is_before i)) (h.is_after i) None

same_none : (b : Bool) (o : Option (List ℕ)) → cond b o o ≡ o
same_none true o = refl
same_none false o = refl

pub value_unsplit : (name octets : List ℕ) → IsUnsplit 61 octets → tag_value name octets ≡ None
value_unsplit name octets h = ap (λ o. cond (is_lone_word name (octets_before 61 octets)) o None) h.is_after ∙ same_none (is_lone_word name (octets_before 61 octets)) None

pub lacks_split : (octets before after : List ℕ) → IsSplitAt 61 octets before after → lacks_value octets ≡ false
lacks_split octets before after h = ap (λ o. not (list_all is_fws octets) && not (is_some_value o)) h.is_after ∙ and_false (not (list_all is_fws octets))

pub lacks_unsplit : (octets : List ℕ) → IsUnsplit 61 octets → lacks_value octets ≡ not (list_all is_fws octets)
lacks_unsplit octets h = ap (λ o. not (list_all is_fws octets) && not (is_some_value o)) h.is_after ∙ and_true (not (list_all is_fws octets))

pub name_split : (octets before after : List ℕ) → IsSplitAt 61 octets before after → tag_name octets ≡ lone_word before
name_split octets before after h = λ i. cond (is_some_value (h.is_after i)) (lone_word (h.is_before i)) None

pub name_unsplit : (octets : List ℕ) → IsUnsplit 61 octets → tag_name octets ≡ None
name_unsplit octets h = ap (λ o. cond (is_some_value o) (lone_word (octets_before 61 octets)) None) h.is_after

-- ---- the first value

or_none : (o : Option (List ℕ)) → or_value o None ≡ o
or_none None = refl
or_none (Some x) = refl

pub first_step : (name octets before after : List ℕ) → IsSplitAt 59 octets before after → tag_value name before ≡ None → first_value name (parts_between 59 octets) ≡ first_value name (parts_between 59 after)
first_step name octets before after h e = ap (first_value name) h.parts ∙ ap (λ o. or_value o (first_value name (parts_between 59 after))) e

pub first_found : (name octets before after value : List ℕ) → IsSplitAt 59 octets before after → tag_value name before ≡ Some value → first_value name (parts_between 59 octets) ≡ Some value
first_found name octets before after value h e = ap (first_value name) h.parts ∙ ap (λ o. or_value o (first_value name (parts_between 59 after))) e

pub first_last : (name octets : List ℕ) → IsUnsplit 59 octets → first_value name (parts_between 59 octets) ≡ tag_value name octets
first_last name octets h = ap (first_value name) h.parts ∙ or_none (tag_value name octets)

-- ---- any part

or_false : (b : Bool) → (b || false) ≡ b
or_false true = refl
or_false false = refl

pub any_step : (p : List ℕ → Bool) (d : ℕ) (octets before after : List ℕ) → IsSplitAt d octets before after → list_any p (parts_between d octets) ≡ (p before || list_any p (parts_between d after))
any_step p d octets before after h = ap (list_any p) h.parts

pub any_last : (p : List ℕ → Bool) (d : ℕ) (octets : List ℕ) → IsUnsplit d octets → list_any p (parts_between d octets) ≡ p octets
any_last p d octets h = ap (list_any p) h.parts ∙ or_false (p octets)

-- ---- a tag twice

pub twice_step : (octets before after : List ℕ) → IsSplitAt 59 octets before after → has_tag_twice (parts_between 59 octets) ≡ (recurs before (parts_between 59 after) || has_tag_twice (parts_between 59 after))
twice_step octets before after h = ap has_tag_twice h.parts

nothing : (o : Option (List ℕ)) → option_map_or (λ name. has_tag name []) o false ≡ false
nothing None = refl
nothing (Some x) = refl

pub twice_last : (octets : List ℕ) → IsUnsplit 59 octets → has_tag_twice (parts_between 59 octets) ≡ false
twice_last octets h = ap has_tag_twice h.parts ∙ or_false (option_map_or (λ name. has_tag name []) (tag_name octets) false) ∙ nothing (tag_name octets)

-- ---- failing tags

pub failing_split : (test : List ℕ → List ℕ → Bool) (octets before after : List ℕ) → IsSplitAt 61 octets before after → is_failing_tag test octets ≡ option_map_or (λ name. not (test name after)) (lone_word before) false
failing_split test octets before after h = λ i. option_map_or (λ value. option_map_or (λ name. not (test name value)) (lone_word (h.is_before i)) false) (h.is_after i) false

pub failing_unsplit : (test : List ℕ → List ℕ → Bool) (octets : List ℕ) → IsUnsplit 61 octets → is_failing_tag test octets ≡ false
failing_unsplit test octets h = ap (λ o. option_map_or (λ value. option_map_or (λ name. not (test name value)) (lone_word (octets_before 61 octets)) false) o false) h.is_after

-- ---- lengths

pub before_fits : (d : ℕ) (octets before after : List ℕ) → IsSplitAt d octets before after → length before ≤ length octets
before_fits d octets before after h = omega (arith, ap length (sym h.is_before), length-take (position_or_len (λ o. o == d) octets) octets)
