-- Order keys are read back as the names that have them.
use Rattle.std.proofs.Common.{ℕ, zero, suc, ◌≡◌, ◌+◌, ◌<◌, ◌≤◌, ◌-◌, List, [], ◌∷◌, ◌++◌, length, map, refl, sym, ap, ◌∙◌, arith, append_assoc, length-append}
use Rattle.std.specs.Prelude.{All, reverse}
use Rattle.std.specs.List.{flat_map}
use Rattle.std.proofs.lemmas.List.{append-nil, reverse-append, reverse-reverse}
use Rattle.std.proofs.lemmas.List.Elements.{All-head, All-tail}
use Rattle.dns_octets.specs.Lowered.{lowered}
use Rattle.dns_wire.specs.Limits.{max_label}
use Rattle.dns_wire.specs.Wire.{wire, wire_label}
use Rattle.zone_record.specs.KeyNames.{first_in_key, after_in_key, labels_in_key, key_name, AreKeyLabels}
use Rattle.zone_record.specs.Keys.{key_octets, label_key, order_key}
use Rattle.zone_record.specs.Names.{labels_from_root}
use Rattle.zone_record.proofs.KeyOrders.{Is, low, high, is, alone, paired}

parted : (o : ℕ) (x r : List ℕ) → label_key (o ∷ x) ++ r ≡ key_octets o ++ (label_key x ++ r)
parted o x r = ap (λ l. l ++ r) (append_assoc (key_octets o) (flat_map key_octets x) (0 ∷ [])) ∙ append_assoc (key_octets o) (label_key x) r

-- ---- one octet

module _ (r : List ℕ) where
  pair_less : (o : ℕ) → o + 1 - 1 ≡ o
  pair_less o = omega arith

  first_single : (o : ℕ) → 1 < o → first_in_key (o ∷ r) ≡ o ∷ first_in_key r
  first_single zero h = absurd (omega (arith, h))
  first_single (suc zero) h = absurd (omega (arith, h))
  first_single (suc (suc n)) h = refl

  after_single : (o : ℕ) → 1 < o → after_in_key (o ∷ r) ≡ after_in_key r
  after_single zero h = absurd (omega (arith, h))
  after_single (suc zero) h = absurd (omega (arith, h))
  after_single (suc (suc n)) h = refl

  labels_single : (label : List ℕ) (o : ℕ) → 1 < o → labels_in_key label (o ∷ r) ≡ labels_in_key (label ++ o ∷ []) r
  labels_single label zero h = absurd (omega (arith, h))
  labels_single label (suc zero) h = absurd (omega (arith, h))
  labels_single label (suc (suc n)) h = refl

  first_octet : (o : ℕ) → first_in_key (key_octets o ++ r) ≡ o ∷ first_in_key r
  first_octet o = by (is o)
    where
      by : Is o → first_in_key (key_octets o ++ r) ≡ o ∷ first_in_key r
      by (low h) = ap (λ l. first_in_key (l ++ r)) (paired o h) ∙ ap (λ n. n ∷ first_in_key r) (pair_less o)
      by (high h) = ap (λ l. first_in_key (l ++ r)) (alone o h) ∙ first_single o h

  after_octet : (o : ℕ) → after_in_key (key_octets o ++ r) ≡ after_in_key r
  after_octet o = by (is o)
    where
      by : Is o → after_in_key (key_octets o ++ r) ≡ after_in_key r
      by (low h) = ap (λ l. after_in_key (l ++ r)) (paired o h)
      by (high h) = ap (λ l. after_in_key (l ++ r)) (alone o h) ∙ after_single o h

  labels_octet : (label : List ℕ) (o : ℕ) → labels_in_key label (key_octets o ++ r) ≡ labels_in_key (label ++ o ∷ []) r
  labels_octet label o = by (is o)
    where
      by : Is o → labels_in_key label (key_octets o ++ r) ≡ labels_in_key (label ++ o ∷ []) r
      by (low h) = ap (λ l. labels_in_key label (l ++ r)) (paired o h) ∙ ap (λ n. labels_in_key (label ++ n ∷ []) r) (pair_less o)
      by (high h) = ap (λ l. labels_in_key label (l ++ r)) (alone o h) ∙ labels_single label o h

-- ---- the key that is left of a label

pub split_single : (key : List ℕ) (o : ℕ) (r : List ℕ) → key ≡ o ∷ r → 1 < o → first_in_key key ≡ o ∷ first_in_key r
split_single key o r e h = ap first_in_key e ∙ first_single r o h

pub after_split_single : (key : List ℕ) (o : ℕ) (r : List ℕ) → key ≡ o ∷ r → 1 < o → after_in_key key ≡ after_in_key r
after_split_single key o r e h = ap after_in_key e ∙ after_single r o h

pub split_pair : (key : List ℕ) (o : ℕ) (r : List ℕ) → key ≡ 1 ∷ o ∷ r → first_in_key key ≡ (o - 1) ∷ first_in_key r
split_pair key o r e = ap first_in_key e

pub after_split_pair : (key : List ℕ) (o : ℕ) (r : List ℕ) → key ≡ 1 ∷ o ∷ r → after_in_key key ≡ after_in_key r
after_split_pair key o r e = ap after_in_key e

pub ruleset split_rules = (split_single, after_split_single, split_pair, after_split_pair)

-- ---- one label

pub first_of_key : (x r : List ℕ) → first_in_key (label_key x ++ r) ≡ x
first_of_key [] r = refl
first_of_key (o ∷ x) r = ap first_in_key (parted o x r) ∙ first_octet (label_key x ++ r) o ∙ ap (λ l. o ∷ l) (first_of_key x r)

pub after_of_key : (x r : List ℕ) → after_in_key (label_key x ++ r) ≡ r
after_of_key [] r = refl
after_of_key (o ∷ x) r = ap after_in_key (parted o x r) ∙ after_octet (label_key x ++ r) o ∙ after_of_key x r

labels_of_key : (label x r : List ℕ) → labels_in_key label (label_key x ++ r) ≡ (label ++ x) ∷ labels_in_key [] r
labels_of_key label [] r = ap (λ l. l ∷ labels_in_key [] r) (sym (append-nil label))
labels_of_key label (o ∷ x) r =
    ap (labels_in_key label) (parted o x r) ∙ labels_octet (label_key x ++ r) label o ∙ labels_of_key (label ++ o ∷ []) x r
    ∙ ap (λ l. l ∷ labels_in_key [] r) (append_assoc label (o ∷ []) x)

-- ---- all labels

pub labels_read : (xs : List (List ℕ)) (r : List ℕ) → labels_in_key [] (flat_map label_key xs ++ r) ≡ xs ++ labels_in_key [] r
labels_read [] r = refl
labels_read (x ∷ xs) r =
    ap (labels_in_key []) (append_assoc (label_key x) (flat_map label_key xs) r) ∙ labels_of_key [] x (flat_map label_key xs ++ r) ∙ ap (λ l. x ∷ l) (labels_read xs r)

labels_all : (xs : List (List ℕ)) → labels_in_key [] (flat_map label_key xs) ≡ xs
labels_all xs = ap (labels_in_key []) (sym (append-nil (flat_map label_key xs))) ∙ labels_read xs [] ∙ append-nil xs

-- the name with the key of a name is the name in lower case
pub name_read : (labels : List (List ℕ)) → key_name (order_key labels) ≡ map lowered labels
name_read labels = ap reverse (labels_all (labels_from_root labels)) ∙ reverse-reverse (map lowered labels)

-- the name with a key that begins with the key of a name
pub name_below : (top : List (List ℕ)) (rest : List ℕ) → key_name (order_key top ++ rest) ≡ key_name rest ++ map lowered top
name_below top rest =
    ap reverse (labels_read (labels_from_root top) rest) ∙ reverse-append (labels_from_root top) (labels_in_key [] rest)
    ∙ ap (λ l. key_name rest ++ l) (reverse-reverse (map lowered top))

wire-append : (a b : List (List ℕ)) → wire (a ++ b) ≡ wire a ++ wire b
wire-append [] b = refl
wire-append (l ∷ a) b = ap (λ o. wire_label l ++ o) (wire-append a b) ∙ sym (append_assoc (wire_label l) (wire a) (wire b))

-- ---- a key that is split after its first label

pub record SplitKey (key : List ℕ) : Type 0 where
  pub rest_labels : AreKeyLabels (after_in_key key)
  pub short : length (first_in_key key) ≤ max_label
  pub name_is : wire (key_name key) ≡ wire (key_name (after_in_key key)) ++ wire_label (first_in_key key)
  pub less : length (after_in_key key) < length key

split_labels : (key : List ℕ) (labels : List (List ℕ)) → key ≡ flat_map label_key labels → All (λ label. length label ≤ max_label) labels → 0 < length key → SplitKey key
split_labels key [] h short some = absurd (omega (arith, ap length h, some))
split_labels key (x ∷ xs) h short some =
    let rest = flat_map label_key xs in
    let first : first_in_key key ≡ x = ap first_in_key h ∙ first_of_key x rest in
    let after : after_in_key key ≡ rest = ap after_in_key h ∙ after_of_key x rest in
    let name : key_name key ≡ key_name (after_in_key key) ++ first_in_key key ∷ [] =
    ap key_name h ∙ ap reverse (labels_of_key [] x rest) ∙ reverse-append (x ∷ []) (labels_in_key [] rest)
    ∙ (λ i. key_name (sym after i) ++ sym first i ∷ []) in record {
      rest_labels = (xs, after, All-tail (λ label. length label ≤ max_label) x xs short);
      short = omega (arith, ap length first, All-head (λ label. length label ≤ max_label) x xs short);
      name_is = ap wire name ∙ wire-append (key_name (after_in_key key)) (first_in_key key ∷ []) ∙ ap (λ o. wire (key_name (after_in_key key)) ++ o) (append-nil (wire_label (first_in_key key)));
      less = omega (arith, ap length after, ap length h, length-append (label_key x) rest, length-append (flat_map key_octets x) (0 ∷ []));
    }

pub split_key : (key : List ℕ) → AreKeyLabels key → 0 < length key → SplitKey key
split_key key h some = split_labels key h.0 h.1 h.2 some

pub no_key : (key old : List ℕ) → length key ≡ 0 → old ≡ old ++ wire (key_name key)
no_key [] old h = sym (append-nil old)
no_key (o ∷ key) old h = absurd (omega (arith, h))
