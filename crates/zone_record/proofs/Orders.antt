-- The orders are total, and equal if the canonical forms are.
use Rattle.std.proofs.Common.{ℕ, ◌≡◌, List, [], ◌∷◌, ◌++◌, map, refl, sym, ap, subst, ◌∙◌}
use Rattle.std.specs.Prelude.{◌↔◌, reverse}
use Rattle.std.specs.Cmp.{IsTotalOrder, Equal-is}
use Rattle.std.specs.Cmp.Lexicographic.{slice_cmp, lists_ties, texts_ties, pointwise_decides, bytes_decides, lists_total}
use Rattle.std.specs.Ordering.{nat_cmp, ordering_then}
use Rattle.std.specs.declared.cmp.Ordering.{Ordering}
use Rattle.std.specs.declared.cmp.Ordering.TheVariants.{Less, Equal, Greater}
use Rattle.std.proofs.lemmas.Cmp.{nat_cmp_total, nat_list_cmp_total, on_total, then_total, ranked, tied_itself}
use Rattle.std.proofs.lemmas.List.{reverse-reverse}
use Rattle.dns_octets.specs.Lowered.{lowered}
use Rattle.dns_wire.specs.Labelled.{wire_same}
use Rattle.dns_wire.specs.Wire.{wire, IsName}
use Rattle.zone_record.specs.Names.{octet_order, labels_from_root, name_order}
use Rattle.zone_record.specs.CanonicalRecords.{RecordKey, record_order}
use Rattle.zone_record.proofs.LoweredNames.{lowered_labels}
use Rattle.zone_record.specs.Walks.{IsLevelOrder}
use Rattle.zone_record.proofs.NameOrders.{order_append}
use Rattle.zone_record.proofs.NameWalks.{LevelWalk}

pub octets_total : IsTotalOrder octet_order
octets_total = nat_list_cmp_total

pub octets_equal : (a b : List ℕ) → octet_order a b ≡ Equal → a ≡ b
octets_equal a b h = (bytes_decides a b).0 (texts_ties a b ∙ (Equal-is (octet_order a b)).1 h)

pub octets_tied : (a b : List ℕ) → (octet_order a b ≡ Equal) ↔ (a ≡ b)
octets_tied a b = (octets_equal a b, λ e. subst (λ x. octet_order a x ≡ Equal) e (tied_itself octets_total a))

-- octets are before longer ones that begin with them
pub octets_absent : (a : List ℕ) (o : ℕ) (more : List ℕ) → octet_order a (a ++ o ∷ more) ≡ Less
octets_absent [] o more = refl
octets_absent (x ∷ a) o more = ap (λ c. ordering_then c (octet_order a (a ++ o ∷ more))) (tied_itself nat_cmp_total x) ∙ octets_absent a o more

pub names_total : IsTotalOrder name_order
names_total = on_total labels_from_root (lists_total octets_total)

from_root_same : (a b : List (List ℕ)) → name_order a b ≡ Equal → labels_from_root a ≡ labels_from_root b
from_root_same a b h =
    let x = labels_from_root a in
    let y = labels_from_root b in
    (pointwise_decides bytes_decides x y).0 (lists_ties octet_order texts_ties x y ∙ (Equal-is (name_order a b)).1 h)

lowered_same : (a b : List (List ℕ)) → labels_from_root a ≡ labels_from_root b → map lowered a ≡ map lowered b
lowered_same a b h = sym (reverse-reverse (map lowered a)) ∙ ap reverse h ∙ reverse-reverse (map lowered b)

names_alike : (a b : List (List ℕ)) → map lowered a ≡ map lowered b → name_order a b ≡ Equal
names_alike a b e = subst (λ l. slice_cmp octet_order (labels_from_root a) (reverse l) ≡ Equal) e (tied_itself names_total a)

pub names_tied : (a b : List (List ℕ)) → IsName a → IsName b → (name_order a b ≡ Equal) ↔ (lowered (wire a) ≡ lowered (wire b))
names_tied a b p q = (
  λ h. lowered_labels a p ∙ ap wire (lowered_same a b (from_root_same a b h)) ∙ sym (lowered_labels b q),
  λ e. names_alike a b (wire_same (map lowered a) (map lowered b) (sym (lowered_labels a p) ∙ e ∙ lowered_labels b q)),
)

-- a name is before the names below it
pub names_absent : (a : List (List ℕ)) (label : List ℕ) → name_order a (label ∷ a) ≡ Less
names_absent a label = order_append [] (label ∷ []) a a refl ∙ ap (λ c. ordering_then c Less) (tied_itself names_total a)

pub records_total : IsTotalOrder record_order
records_total =
    then_total (on_total (λ k. k.owner) names_total)
    (then_total (on_total (λ k. k.class) nat_cmp_total) (then_total (on_total (λ k. k.rtype) nat_cmp_total) (on_total (λ k. k.octets) octets_total)))

both_equal : (p q : Ordering) → ordering_then p q ≡ Equal → (p ≡ Equal) × (q ≡ Equal)
both_equal Less q h = cc
both_equal Equal q h = (refl, h)
both_equal Greater q h = cc

equal_then : (p q : Ordering) → p ≡ Equal → q ≡ Equal → ordering_then p q ≡ Equal
equal_then p q h k = ap (λ c. ordering_then c q) h ∙ k

numbers_tied : (m n : ℕ) → (nat_cmp m n ≡ Equal) ↔ (m ≡ n)
numbers_tied m n = (λ h. ranked m n Equal (sym h), λ e. subst (λ x. nat_cmp m x ≡ Equal) e (tied_itself nat_cmp_total m))

pub records_tied : (a b : RecordKey)
    → (record_order a b ≡ Equal) ↔ ((name_order a.owner b.owner ≡ Equal) × (a.class ≡ b.class) × (a.rtype ≡ b.rtype) × (a.octets ≡ b.octets))
records_tied a b = (
  λ h. let owner = both_equal _ _ h in
      let class = both_equal _ _ owner.1 in
      let type = both_equal _ _ class.1 in (owner.0, (numbers_tied a.class b.class).0 class.0, (numbers_tied a.rtype b.rtype).0 type.0, (octets_tied a.octets b.octets).0 type.1),
  λ h. equal_then _ _ h.0
      (equal_then _ _ ((numbers_tied a.class b.class).1 h.1) (equal_then _ _ ((numbers_tied a.rtype b.rtype).1 h.2) ((octets_tied a.octets b.octets).1 h.3))),
)

-- names whose remaining octets are the same
pub level_same : (left right : List ℕ) (otherwise : Ordering) (left_rest right_rest : List ℕ) (order : Ordering) → LevelWalk left right otherwise left_rest right_rest order
    → left_rest ≡ right_rest → IsLevelOrder left right otherwise order
level_same left right otherwise left_rest right_rest order w e c d p q =
    let same = wire_same w.a w.b (sym w.left_is ∙ e ∙ w.right_is) in
    sym (ap (λ o. ordering_then o order) (subst (λ b. name_order w.a b ≡ Equal) same (tied_itself names_total w.a))) ∙ w.same c d p q
