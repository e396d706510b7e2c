-- Locators parse as they print, and to one value.
use Rattle.std.proofs.Common.{ℕ, zero, suc, ◌≡◌, ◌<◌, ◌+◌, ◌*◌, ◌/◌, ◌%◌, false, List, [], ◌∷◌, length, refl, sym, arith, ap, ◌∙◌, inl, inr, append-nil, true≢false}
use Rattle.std.proofs.lemmas.List.Elements.{All-head, All-tail}
use Rattle.std.specs.Prelude.{All}
use Rattle.std.specs.Net.Addr.{segments_of, octets_of}
use Rattle.std.specs.Net.Grammar.{IsGroup, IsGroupsAfter}
use Rattle.rdata_values.specs.declared.locator.Locator.{Locator}
use Rattle.rdata_values.specs.Locator.{SpellsLocator, group_text, locator_text, LocatorsAreKind}
use Rattle.rdata_values.proofs.EuiLaws.{lower}
use Rattle.rdata_values.proofs.ReadBack.{is_kind}
use Rattle.rdata_values.proofs.GroupLemmas.{one_groups}

group_written : (a b : ℕ) → a < 256 → b < 256 → IsGroup (group_text a b) (a * 256 + b)
group_written a b high low =
    let first = lower (a / 16) (omega (arith, high)) in
    let second = lower (a % 16) (omega arith) in
    let third = lower (b / 16) (omega (arith, low)) in
    let fourth = lower (b % 16) (omega arith) in
    (((omega arith, (omega (arith, first, high), (omega (arith, second), (omega (arith, third, low), (omega (arith, fourth), tt))))), omega (arith, first, second, third, fourth)), omega arith)

-- the groups of the first two octets and of those after them, with colons between them
groups_written : (n a b : ℕ) (os : List ℕ) → length os ≡ 2 * n → All (λ o. o < 256) (a ∷ b ∷ os) → IsGroupsAfter false [] (locator_text (a ∷ b ∷ os)) (segments_of (a ∷ b ∷ os))
groups_written n a b [] long small =
    let rest = All-tail (λ o. o < 256) a (b ∷ []) small in
    inl (group_text a b, [], sym (append-nil (group_text a b)), group_written a b (All-head (λ o. o < 256) a (b ∷ []) small) (All-head (λ o. o < 256) b [] rest), refl)
groups_written n a b (c ∷ []) long small = absurd (omega (arith, long))
groups_written zero a b (c ∷ d ∷ os) long small = absurd (omega (arith, long))
groups_written (suc n) a b (c ∷ d ∷ os) long small =
    let rest = All-tail (λ o. o < 256) a (b ∷ c ∷ d ∷ os) small in
    let more = All-tail (λ o. o < 256) b (c ∷ d ∷ os) rest in
    inl (
      group_text a b,
      58 ∷ locator_text (c ∷ d ∷ os),
      refl,
      group_written a b (All-head (λ o. o < 256) a (b ∷ c ∷ d ∷ os) small) (All-head (λ o. o < 256) b (c ∷ d ∷ os) rest),
      behind (locator_text (c ∷ d ∷ os)) (c * 256 + d) (segments_of os) (groups_written n c d os (omega (arith, long)) more),
    )
  where
    behind : (text : List ℕ) (m : ℕ) (ns : List ℕ) → IsGroupsAfter false [] text (m ∷ ns) → IsGroupsAfter false (58 ∷ []) (58 ∷ text) (m ∷ ns)
    behind text m ns (inl h) = inl (h.0, h.1, ap (λ t. 58 ∷ t) h.2, h.3, h.4)
    behind text m ns (inr h) = absurd (true≢false (sym h.2))

whole : (a b : ℕ) → b < 256 → ((a * 256 + b) / 256 ≡ a) × ((a * 256 + b) % 256 ≡ b)
whole a b small = (omega (arith, small), omega (arith, small))

pub octets_back : (n : ℕ) (os : List ℕ) → length os ≡ 2 * n → All (λ o. o < 256) os → octets_of (segments_of os) ≡ os
octets_back zero [] long small = refl
octets_back zero (a ∷ os) long small = absurd (omega (arith, long))
octets_back (suc n) [] long small = refl
octets_back (suc n) (a ∷ []) long small = absurd (omega (arith, long))
octets_back (suc n) (a ∷ b ∷ os) long small =
    let rest = All-tail (λ o. o < 256) a (b ∷ os) small in
    let one = whole a b (All-head (λ o. o < 256) b os rest) in
    let later = octets_back n os (omega (arith, long)) (All-tail (λ o. o < 256) b os rest) in
    λ i. one.0 i ∷ one.1 i ∷ later i

spelled : (os : List ℕ) → length os ≡ 8 → All (λ o. o < 256) os → (length (segments_of os) ≡ 4) × IsGroupsAfter false [] (locator_text os) (segments_of os)
spelled (a ∷ b ∷ c ∷ d ∷ e ∷ f ∷ g ∷ h ∷ []) long small = (refl, groups_written 3 a b (c ∷ d ∷ e ∷ f ∷ g ∷ h ∷ []) refl small)
spelled os long small = absurd (omega (arith, long))

pub locators_are_kind : LocatorsAreKind
locators_are_kind = is_kind (λ l. (length l.0 ≡ 8) × All (λ o. o < 256) l.0) SpellsLocator (λ l. locator_text l.0) own once
  where
    own : (l : Locator) → (length l.0 ≡ 8) × All (λ o. o < 256) l.0 → SpellsLocator (locator_text l.0) l
    own l h = let s = spelled l.0 h.0 h.1 in record { groups = segments_of l.0; four = s.0; written = s.1; octets = sym (octets_back 4 l.0 h.0 h.1) }

    once : (text : List ℕ) (l m : Locator) → SpellsLocator text l → SpellsLocator text m → l ≡ m
    once text l m h k =
        let same = one_groups text h.groups k.groups (h.four ∙ sym k.four) h.written k.written in
        let octets = h.octets ∙ ap octets_of same ∙ sym k.octets in
        λ i. record { 0 = octets i }
