-- Items of address prefix lists, as words and as octets.
use Rattle.std.proofs.Common.{ℕ, false, ◌≡◌, ◌≢◌, ◌<◌, ◌+◌, ◌-◌, List, [], ◌∷◌, ◌++◌, length, take, drop, refl, sym, ap, subst, ◌∙◌, inl, inr, arith, take-append-drop, length-take-le}
use Rattle.std.proofs.Math.Seq.{drop-append_seam}
use Rattle.std.specs.List.{concat}
use Rattle.rdata_tokens.proofs.Pieces.{rest_of}
use Rattle.dns_octets.specs.Room.{Room}
use Rattle.rdata_tails.specs.Prefixes.{IsPrefixWire, BeginsWithItem, IsItemOf, SpellsItem}
use Rattle.rdata_tails.specs.Refusals.{WhyNot}
use Rattle.rdata_tails.specs.declared.apl.Prefix.{Prefix}
use Rattle.rdata_values.specs.declared.error.ErrorKind.{ErrorKind}
use Rattle.rdata_values.specs.declared.error.ErrorKind.TheVariants.{ExpectedPrefix}
use Rattle.rdata_tails.proofs.ItemLemmas.{begins_with}
use Rattle.rdata_tails.proofs.PrefixLaws.{prefixes_are_read}
use Rattle.dns_lexer.specs.EntryTokens.{TokenSeen}
use Rattle.rdata.specs.PrefixLists.{IsPrefixItem, prefix_form, prefixes_form}
use Rattle.rdata.specs.TokenForms.{AreParts, RefusesTokenAs}
use Rattle.rdata.proofs.TokenRests.{SpelledOnce, whole_within, each_once, each_exceeded}

pub prefix_once : SpelledOnce prefix_form.spells
prefix_once t a b h k =
    let p : Prefix = h.1.0 in
    let q : Prefix = k.1.0 in
    let same : p ≡ q = prefixes_are_read.once t.text p q h.1.1 k.1.1 in
    prefixes_are_read.one_form q a b (subst (λ p. IsPrefixWire p a) same h.1.2) k.1.2

pub prefixes_once : (tokens : List TokenSeen) (a b : List ℕ) → prefixes_form.spells tokens a → prefixes_form.spells tokens b → a ≡ b
prefixes_once tokens a b h k = each_once prefix_form prefix_once tokens a b h k

pub prefixes_exceeded : (room : Room) (tokens left : List TokenSeen) (old octets : List ℕ) → prefixes_form.exceeds room tokens left old → prefixes_form.spells tokens octets → room.fits < length old + length octets
prefixes_exceeded room tokens left old octets h sp = each_exceeded prefix_form prefix_once (whole_within prefix_form.spells prefix_once) room tokens left old octets h sp

pub item_refused : (room : Room) (t : TokenSeen) (ts : List TokenSeen) (old : List ℕ) (e : ErrorKind) → t.is_quoted ≡ false → WhyNot room (SpellsItem t.text) ExpectedPrefix old e
    → RefusesTokenAs room prefix_form.begins prefix_form.spells prefix_form.reason (t ∷ ts) old e
item_refused room t ts old e plain (inl bad) = inr (inr (bad.0, plain), λ octets sp. bad.1 octets sp.1)
item_refused room t ts old e plain (inr short) = inl (short.0, (short.1.0, (plain, short.1.1), short.1.2))

-- ---- items in octets

-- octets begin with the item that is found there
module _ (left : List ℕ) (p : Prefix) (width : ℕ) (found : IsItemOf left p width) where
  one_item : (item rest : List ℕ) → IsPrefixItem item → left ≡ item ++ rest → (item ≡ take width left) × (rest ≡ drop width left)
  one_item item rest h split =
      let own : BeginsWithItem left h.0 = record { valid = h.1; item = item; rest = rest; wire = h.2; split = split } in
      let same : h.0 ≡ p = prefixes_are_read.one_item left h.0 p own (begins_with left p width found) in
      let is : item ≡ take width left = prefixes_are_read.one_form p item (take width left) (subst (λ q. IsPrefixWire q item) same h.2) found.2 in
      let long : length item ≡ width = ap length is ∙ length-take-le width left found.1 in
      (is, sym (drop-append_seam item rest) ∙ ap (drop (length item)) (sym split) ∙ ap (λ n. drop n left) long)

  pub after_item : left ≢ [] → AreParts IsPrefixItem left → AreParts IsPrefixItem (drop width left)
  after_item some ([], each, whole) = absurd (some whole)
  after_item some (item ∷ items, each, whole) = (items, each.1, sym (one_item item (concat items) each.0 whole).1)

  before_items : AreParts IsPrefixItem (drop width left) → AreParts IsPrefixItem left
  before_items (items, each, whole) = (take width left ∷ items, ((p, found.0, found.2), each), sym (take-append-drop width left) ∙ ap (λ o. take width left ++ o) whole)

-- some octets are items exactly if others are
abbrev pub SameItems : List ℕ → List ℕ → Type 0
SameItems octets left = (AreParts IsPrefixItem octets → AreParts IsPrefixItem left) × (AreParts IsPrefixItem left → AreParts IsPrefixItem octets)

pub items_on : (octets left new : List ℕ) (p : Prefix) (width : ℕ) → SameItems octets left → left ≢ [] → IsItemOf left p width → new ≡ take (length left - width) (drop width left) → SameItems octets new
items_on octets left new p width h some found cut = let is : new ≡ drop width left = cut ∙ rest_of width left in (
  λ all. subst (AreParts IsPrefixItem) (sym is) (after_item left p width found some (h.0 all)),
  λ rest. h.1 (before_items left p width found (subst (AreParts IsPrefixItem) is rest)),
)

pub no_items : (octets left : List ℕ) → SameItems octets left → left ≢ [] → ((p : Prefix) → BeginsWithItem left p → ⊥) → AreParts IsPrefixItem octets → ⊥
no_items octets left h some none all = by (h.0 all)
  where
    by : AreParts IsPrefixItem left → ⊥
    by ([], each, whole) = some whole
    by (item ∷ items, each, whole) = none each.0.0 (record { valid = each.0.1; item = item; rest = concat items; wire = each.0.2; split = whole })

pub all_items : (octets left : List ℕ) → SameItems octets left → left ≡ [] → AreParts IsPrefixItem octets
all_items octets left h none = h.1 ([], tt, none)

pub is_some : (octets : List ℕ) → length octets ≢ 0 → octets ≢ []
is_some octets h none = h (ap length none)

pub is_none : (octets : List ℕ) → length octets ≡ 0 → octets ≡ []
is_none [] h = refl
is_none (o ∷ os) h = absurd (omega (arith, h))

-- at the end of the octets all are items
pub items_end : (octets left : List ℕ) → SameItems octets left → length left ≡ 0 → AreParts IsPrefixItem octets
items_end octets left h none = all_items octets left h (is_none left none)

pub items_begin : (octets : List ℕ) → SameItems octets octets
items_begin octets = (λ h. h, λ h. h)
