-- Lines of words without escapes and blanks, and where such a word ends.
use Rattle.std.proofs.Common.{◌≡◌, ℕ, zero, suc, ◌+◌, ◌-◌, ◌<◌, ◌≤◌, arith, true, false, true≢false, List, length, sym, subst, ap, ◌∙◌, get_or, inl, inr, ◌⊎◌}
use Rattle.std.proofs.lemmas.Bool.{cases_lt}
use Rattle.std.proofs.lemmas.Bool.Decides.{nat_tests}
use Rattle.dns_lexer.specs.declared.runs.OctetClass.TheVariants.{Blank, Word}
use Rattle.dns_lexer.specs.Skip.{EachIn, is_in}
use Rattle.zone_reader.specs.Parts.{IsAfterBlank, IsWordTo}
use Rattle.zone_reader.specs.Tape.{IsPlainLine}

-- an octet of neither class is not before the line's feed, and it is not the feed
pub no_other : (octets : List ℕ) (feed at c : ℕ) → IsPlainLine octets feed → at ≤ feed → get_or octets at 0 ≡ c → (c ≡ 10 → ⊥) → is_in Word c ≡ false → is_in Blank c ≡ false → ⊥
no_other octets feed at c line o is other word blank = elim (cases_lt at feed) [
  | inl early ↦ elim (line.each at early) [
    | inl h ↦ true≢false (sym h ∙ ap (is_in Word) is ∙ word)
    | inr h ↦ true≢false (sym h ∙ ap (is_in Blank) is ∙ blank)
  ]
  | inr late ↦ let same : at ≡ feed = omega (arith, o, late) in other (sym is ∙ ap (λ n. get_or octets n 0) same ∙ line.feeds)
]

-- before the feed
pub before_feed : (octets : List ℕ) (feed at : ℕ) → IsPlainLine octets feed → at ≤ feed → (get_or octets at 0 ≡ 10 → ⊥) → at < feed
before_feed octets feed at line o other = elim (cases_lt at feed) [
  | inl early ↦ early
  | inr late ↦ let same : feed ≡ at = omega (arith, o, late) in absurd (other (ap (λ n. get_or octets n 0) (sym same) ∙ line.feeds))
]

-- octets of a word are before the feed
pub word_before : (octets : List ℕ) (feed at end : ℕ) → IsPlainLine octets feed → at ≤ feed → EachIn Word octets at end → end ≤ feed
word_before octets feed at end line o all = elim (cases_lt feed end) [
  | inl less ↦ absurd (true≢false (sym (all feed o less) ∙ ap (is_in Word) line.feeds))
  | inr late ↦ late
]

pub blank_before : (octets : List ℕ) (feed end after : ℕ) → IsPlainLine octets feed → end ≤ feed → IsAfterBlank octets end after → after ≤ feed
blank_before octets feed end after line o (inl same) = omega (arith, o, same)
blank_before octets feed end after line o (inr (x, inl is)) = let on = before_feed octets feed end line o (λ e. let no : 9 ≡ 10 = sym is ∙ e in omega (arith, no)) in omega (arith, on, x)
blank_before octets feed end after line o (inr (x, inr is)) = let on = before_feed octets feed end line o (λ e. let no : 32 ≡ 10 = sym is ∙ e in omega (arith, no)) in omega (arith, on, x)

-- a word that begins before the feed ends there or before
is_blank_octet : (c : ℕ) → is_in Blank c ≡ true → (c ≡ 32) ⊎ (c ≡ 9)
is_blank_octet c h = grind (arith, nat_tests)

one_octet : (octets : List ℕ) (at : ℕ) → is_in Word (get_or octets at 0) ≡ true → EachIn Word octets at (at + 1)
one_octet octets at h n from to = let same : at ≡ n = omega (arith, from, to) in subst (λ m. is_in Word (get_or octets m 0) ≡ true) same h

ends_blank : (octets : List ℕ) (d at : ℕ) → at + 1 < length octets → EachIn Word octets at (at + 1) → (get_or octets (at + 1) 0 ≡ 32) ⊎ (get_or octets (at + 1) 0 ≡ 9) → IsWordTo octets d at (at + 1)
ends_blank octets d at w one (inl is) = record { some = omega arith; within = w; inside = one; ends = inl is }
ends_blank octets d at w one (inr is) = record { some = omega arith; within = w; inside = one; ends = inr (inl is) }

longer : (octets : List ℕ) (d at : ℕ) → EachIn Word octets at (at + 1) → (end : ℕ) × IsWordTo octets d (at + 1) end → (end : ℕ) × IsWordTo octets d at end
longer octets d at one (end, w) = (
  end,
  record {
    some = omega (arith, w.some);
    within = w.within;
    inside = λ n from to. elim (cases_lt n (at + 1)) [ inl early ↦ one n from early | inr late ↦ w.inside n late to ];
    ends = w.ends;
  },
)

pub word_there : (octets : List ℕ) (d feed n at : ℕ) → IsPlainLine octets feed → at + 1 + n ≡ feed → is_in Word (get_or octets at 0) ≡ true → (end : ℕ) × IsWordTo octets d at end
word_there octets d feed zero at line same h =
    let next : feed ≡ at + 1 = omega (arith, same) in (
      at + 1,
      record {
        some = omega arith;
        within = omega (arith, next, line.within);
        inside = one_octet octets at h;
        ends = inr (inr (inl (subst (λ m. get_or octets m 0 ≡ 10) next line.feeds)));
      },
    )
word_there octets d feed (suc n) at line same h =
    let one = one_octet octets at h in
    elim (line.each (at + 1) (omega (arith, same))) [
      | inl h ↦ longer octets d at one (word_there octets d feed n (at + 1) line (omega (arith, same)) h)
      | inr h ↦ (at + 1, ends_blank octets d at (omega (arith, same, line.within)) one (is_blank_octet (get_or octets (at + 1) 0) h))
    ]

-- so a word begins where no blank and no feed is
pub begins_word : (octets : List ℕ) (d feed at : ℕ) → IsPlainLine octets feed → at ≤ feed → (get_or octets at 0 ≡ 10 → ⊥) → (get_or octets at 0 ≡ 32 → ⊥) → (get_or octets at 0 ≡ 9 → ⊥) → ((end : ℕ) → IsWordTo octets d at end → ⊥) → ⊥
begins_word octets d feed at line o feeds space tab none =
    let on = before_feed octets feed at line o feeds in
    let there = λ (h : is_in Word (get_or octets at 0) ≡ true). word_there octets d feed (feed - (at + 1)) at line (omega (arith, on)) h in
    elim (line.each at on) [
      | inl h ↦ none (there h).0 (there h).1
      | inr h ↦ elim (is_blank_octet (get_or octets at 0) h) [ inl is ↦ space is | inr is ↦ tab is ]
    ]
