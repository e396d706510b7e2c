-- Items of address prefix lists, whatever their family.
use Rattle.std.proofs.Common.{ℕ, zero, suc, false, ◌≡◌, ◌≢◌, ◌<◌, ◌≤◌, ◌+◌, ◌==◌, ◌%◌, ◌||◌, Option, Some, None, List, [], ◌∷◌, ◌++◌, length, take, drop, refl, sym, ap, subst, ◌∙◌, inl, inr, arith, length-append, take-append-drop, length-take-le, length-drop}
use Rattle.std.proofs.Math.Seq.{drop-append_seam}
use Rattle.std.proofs.lemmas.List.{get_or_append_left}
use Rattle.std.specs.List.{AllByRecursion, concat}
use Rattle.std.specs.Prelude.{◌&&◌, not, slice_index}
use Rattle.std.specs.declared.net.ip_addr.IpAddr.{IpAddr}
use Rattle.std.specs.declared.net.ip_addr.IpAddr.TheVariants.{V4, V6}
use Rattle.rdata_tails.specs.Prefixes.{BeginsWithItem, family_of}
use Rattle.rdata_tails.specs.declared.apl.Prefix.{Prefix}
use Rattle.rdata_tokens.specs.Forms.{FindsWidth}
use Rattle.rdata.specs.PrefixLists.{IsPrefixItem, IsOtherItem, IsAnyItem, is_other_family, is_other_in, has_other_family, item_size}
use Rattle.rdata.specs.TokenForms.{AreParts}
use Rattle.rdata.proofs.PlacesBack.{item_sized}

-- ---- an item at the start

pub item_long : (item : List ℕ) → IsAnyItem item → 4 ≤ length item
item_long item (inl is) = omega (arith, ap length is.2.written)
item_long item (inr other) = other.head

module _ (item more : List ℕ) (long : 4 ≤ length item) where
  at_front : (i : ℕ) → i < 4 → slice_index (item ++ more) i ≡ slice_index item i
  at_front i few = get_or_append_left item more 0 i (omega (arith, long, few))

  pub same_family : is_other_family (item ++ more) ≡ is_other_family item
  same_family =
      ap (λ n. not ((n == 0) && ((slice_index (item ++ more) 1 == 1) || (slice_index (item ++ more) 1 == 2)))) (at_front 0 (omega arith))
      ∙ ap (λ n. not ((slice_index item 0 == 0) && ((n == 1) || (n == 2)))) (at_front 1 (omega arith))

  pub same_size : item_size (item ++ more) ≡ item_size item
  same_size = ap (λ n. 4 + n % 128) (at_front 3 (omega arith))

pub any_sized : (item more : List ℕ) → IsAnyItem item → item_size (item ++ more) ≡ length item
any_sized item more (inl is) = item_sized is.0 item more is.1 is.2
any_sized item more (inr other) = same_size item more other.head ∙ sym other.whole

-- ---- the item at the start, of one family or another

module _ (octets : List ℕ) where
  none_found : ((p : Prefix) → BeginsWithItem octets p → ⊥) → FindsWidth IsOtherItem octets None → FindsWidth IsAnyItem octets None
  none_found none h form rest (inl is) split = none is.0 (record { valid = is.1; item = form; rest = rest; wire = is.2; split = split })
  none_found none h form rest (inr other) split = h form rest other split

  pub any_found : (found : Option ℕ) → ((p : Prefix) → BeginsWithItem octets p → ⊥) → FindsWidth IsOtherItem octets found → FindsWidth IsAnyItem octets found
  any_found None none h = none_found none h
  any_found (Some width) none h = (h.0, inr h.1)

-- ---- items one after another

abbrev pub AreItems : List ℕ → Type 0
AreItems octets = AreParts IsAnyItem octets

module _ (left : List ℕ) (width : ℕ) (found : FindsWidth IsAnyItem left (Some width)) where
  width_is : item_size left ≡ width
  width_is = ap item_size (sym (take-append-drop width left)) ∙ any_sized (take width left) (drop width left) found.1 ∙ length-take-le width left found.0

  pub behind_any : left ≢ [] → AreItems left → AreItems (drop width left)
  behind_any some ([], each, whole) = absurd (some whole)
  behind_any some (item ∷ items, each, whole) =
      let long : length item ≡ width = sym (any_sized item (concat items) each.0) ∙ ap item_size (sym whole) ∙ width_is in
      (items, each.1, ap (λ n. drop n left) (sym long) ∙ ap (drop (length item)) whole ∙ drop-append_seam item (concat items))

  pub before_any : AreItems (drop width left) → AreItems left
  before_any (items, each, whole) = (take width left ∷ items, (found.1, each), sym (take-append-drop width left) ∙ ap (λ o. take width left ++ o) whole)

-- some octets are items exactly if others are
abbrev pub SameAny : List ℕ → List ℕ → Type 0
SameAny octets left = (AreItems octets → AreItems left) × (AreItems left → AreItems octets)

pub any_begin : (octets : List ℕ) → SameAny octets octets
any_begin octets = (λ h. h, λ h. h)

pub any_on : (octets left new : List ℕ) (width : ℕ) → SameAny octets left → left ≢ [] → FindsWidth IsAnyItem left (Some width) → new ≡ drop width left → SameAny octets new
any_on octets left new width h some found is = (
  λ all. subst AreItems (sym is) (behind_any left width found some (h.0 all)),
  λ rest. h.1 (before_any left width found (subst AreItems is rest)),
)

pub no_any : (octets left : List ℕ) → SameAny octets left → left ≢ [] → FindsWidth IsAnyItem left None → AreItems octets → ⊥
no_any octets left h some none all = by (h.0 all)
  where
    by : AreItems left → ⊥
    by ([], each, whole) = some whole
    by (item ∷ items, each, whole) = none item (concat items) each.0 whole

pub any_end : (octets left : List ℕ) → SameAny octets left → left ≡ [] → AreItems octets
any_end octets left h none = h.1 ([], tt, none)

-- ---- items of families 1 and 2

known_family : (item more : List ℕ) → IsPrefixItem item → is_other_family (item ++ more) ≡ false
known_family item more is = ap (λ o. is_other_family (o ++ more)) is.2.written ∙ by is.0.address
  where
    by : (a : IpAddr) → not ((family_of a == 1) || (family_of a == 2)) ≡ false
    by (V4 a) = refl
    by (V6 a) = refl

known_in : (count : ℕ) (parts : List (List ℕ)) → AllByRecursion IsPrefixItem parts → is_other_in count (concat parts) ≡ false
known_in zero parts each = refl
known_in (suc count) [] each = refl
known_in (suc count) ([] ∷ parts) each = absurd (omega (arith, item_long [] (inl each.0)))
known_in (suc count) ((o ∷ os) ∷ parts) each =
    let part : List ℕ = o ∷ os in
    let more : List ℕ = concat parts in
    let later : drop (item_size (part ++ more)) (part ++ more) ≡ more = ap (λ n. drop n (part ++ more)) (any_sized part more (inl each.0)) ∙ drop-append_seam part more in
    ap (λ b. b || is_other_in count (drop (item_size (part ++ more)) (part ++ more))) (known_family part more each.0) ∙ ap (is_other_in count) later ∙ known_in count parts each.1

pub prefixes_known : (octets : List ℕ) → AreParts IsPrefixItem octets → has_other_family octets ≡ false
prefixes_known octets is = ap (is_other_in (length octets)) is.2 ∙ known_in (length octets) is.0 is.1

all_known : (parts : List (List ℕ)) → AllByRecursion IsPrefixItem parts → AllByRecursion IsAnyItem parts
all_known [] each = tt
all_known (p ∷ ps) each = (inl each.0, all_known ps each.1)

pub prefixes_are_items : (octets : List ℕ) → AreParts IsPrefixItem octets → AreItems octets
prefixes_are_items octets is = (is.0, all_known is.0 is.1, is.2)

-- ---- the search for one

abbrev pub IsSought : List ℕ → List ℕ → Type 0
IsSought octets left = (count : ℕ) × (length left ≤ count) × AreItems left × (has_other_family octets ≡ is_other_in count left)

pub search_begins : (octets : List ℕ) → AreItems octets → IsSought octets octets
search_begins octets is = (length octets, omega arith, is, refl)

-- the first item is not longer than all
pub size_within : (left : List ℕ) → 4 ≤ length left → AreItems left → item_size left ≤ length left
size_within left long ([], each, whole) = absurd (omega (arith, long, ap length whole))
size_within left long (item ∷ items, each, whole) =
    let size = any_sized item (concat items) each.0 in
    let all = ap length whole ∙ length-append item (concat items) in
    let same = ap item_size whole in
    omega (arith, size, all, same)

next_in : (count : ℕ) (left : List ℕ) → 4 ≤ length left → length left ≤ count
    → (fewer : ℕ) × (length (drop (item_size left) left) ≤ fewer) × (is_other_in count left ≡ (is_other_family left || is_other_in fewer (drop (item_size left) left)))
next_in zero left long few = absurd (omega (arith, long, few))
next_in (suc count) [] long few = absurd (omega (arith, long))
next_in (suc count) (o ∷ os) long few = (count, omega (arith, few, length-drop (item_size (o ∷ os)) (o ∷ os)), refl)

module _ (octets left : List ℕ) (long : 4 ≤ length left) (h : IsSought octets left) where
  pub search_on : (new : List ℕ) → is_other_family left ≡ false → new ≡ drop (item_size left) left → IsSought octets new
  search_on new known is =
      let next = next_in h.0 left long h.1 in
      let rest : AreItems (drop (item_size left) left) = items_behind h.2 in
      let told : has_other_family octets ≡ is_other_in next.0 (drop (item_size left) left) = h.3 ∙ next.2 ∙ ap (λ b. b || is_other_in next.0 (drop (item_size left) left)) known in
      subst (IsSought octets) (sym is) (next.0, next.1, rest, told)
    where
      items_behind : AreItems left → AreItems (drop (item_size left) left)
      items_behind ([], each, whole) = absurd (omega (arith, long, ap length whole))
      items_behind (item ∷ items, each, whole) =
          let size : item_size left ≡ length item = ap item_size whole ∙ any_sized item (concat items) each.0 in
          (items, each.1, ap (λ n. drop n left) size ∙ ap (drop (length item)) whole ∙ drop-append_seam item (concat items))

-- too few octets don't begin with an item
pub none_is : (octets left : List ℕ) → length left < 4 → IsSought octets left → false ≡ has_other_family octets
none_is octets left short h = sym (h.3 ∙ ap (is_other_in h.0) (nothing h.2) ∙ none_in h.0)
  where
    nothing : AreItems left → left ≡ []
    nothing ([], each, whole) = whole
    nothing (item ∷ items, each, whole) = absurd (omega (arith, short, item_long item each.0, ap length whole, length-append item (concat items)))

    none_in : (count : ℕ) → is_other_in count [] ≡ false
    none_in zero = refl
    none_in (suc count) = refl
