-- Names and their octets.
use Rattle.std.proofs.Common.{◌≡◌, ℕ, ◌+◌, ◌-◌, ◌<◌, ◌≤◌, List, [], ◌∷◌, ◌++◌, length, refl, sym, ap, ◌∙◌, arith, length-append, append-nil}
use Rattle.std.specs.Prelude.{All, IsTrue, false}
use Rattle.std.proofs.lemmas.List.{get_or_append_left}
use Rattle.std.proofs.lemmas.List.Sums.{sum_by-append, sum_by-cons}
use Rattle.std.proofs.lemmas.List.Elements.{All-push, All-head, All-tail, All-cons, All-append}
use Rattle.std.proofs.lemmas.Grind.{common_steps, flat_map-append}
use Rattle.dns_wire.specs.Wire.{wire, wire_label, wire_length, IsPlain, IsName, EndsInRoot, HasNoRoot}
use Rattle.dns_wire.specs.Labelled.{Labelled, wire_same}

abbrev pub IsSome : List ℕ → Type 0
IsSome label = 0 < length label

abbrev pub IsShort : List ℕ → Type 0
IsShort label = length label ≤ 63

pub labelled_same : (a b : List ℕ) (p : Labelled a) (q : Labelled b) → a ≡ b → p.0 ≡ q.0
labelled_same a b p q h = wire_same p.0 q.0 (sym p.1 ∙ h ∙ q.1)

pub wire_append : (a b : List (List ℕ)) → wire (a ++ b) ≡ wire a ++ wire b
wire_append a b = flat_map-append wire_label a b

pub length_wire : (labels : List (List ℕ)) → length (wire labels) ≡ wire_length labels
length_wire [] = refl
length_wire (l ∷ ls) = omega (arith, length_wire ls, length-append l (wire ls), sum_by-cons (λ label. length label + 1) l ls)

pub wire_length_append : (a b : List (List ℕ)) → wire_length (a ++ b) ≡ wire_length a + wire_length b
wire_length_append a b = sum_by-append (λ label. length label + 1) a b

pub is_nil : {A : Type 0} (xs : List A) → length xs ≡ 0 → xs ≡ []
is_nil [] h = refl
is_nil (x ∷ xs) h = absurd (omega arith)

pub count_le : (labels : List (List ℕ)) → length labels ≤ wire_length labels
count_le [] = omega arith
count_le (l ∷ ls) = omega (arith, count_le ls, sum_by-cons (λ label. length label + 1) l ls)

-- after labels other than the root, the root is in the same place
pub root_last-append : (a b : List (List ℕ)) → HasNoRoot a → ((front back : List (List ℕ)) → b ≡ front ++ [] ∷ back → back ≡ [])
    → (front back : List (List ℕ)) → a ++ b ≡ front ++ [] ∷ back → back ≡ []
root_last-append [] b plain last front back h = last front back h
root_last-append (x ∷ a) b plain last [] back h =
    let e : x ≡ [] = cc in
    let n : 0 < length x = All-head IsSome x a plain in
    let z : length x ≡ 0 = ap length e in absurd (omega arith)
root_last-append (x ∷ a) b plain last (y ∷ front) back h =
    root_last-append a b (All-tail IsSome x a plain) last front back (cc)

pub nil_not : (front back : List (List ℕ)) → [] ≡ front ++ [] ∷ back → ⊥
nil_not [] back h = cc
nil_not (x ∷ front) back h = cc

pub root_last-none : (a : List (List ℕ)) → HasNoRoot a → (front back : List (List ℕ)) → a ≡ front ++ [] ∷ back → back ≡ []
root_last-none a plain front back h =
    root_last-append a [] plain (λ front back h. absurd (nil_not front back h)) front back (append-nil a ∙ h)

pub root_last-root : (front back : List (List ℕ)) → [] ∷ [] ≡ front ++ [] ∷ back → back ≡ []
root_last-root [] back h = cc
root_last-root (x ∷ front) back h = absurd (nil_not front back (cc))

pub IsName-append : (a b : List (List ℕ)) → IsName a → HasNoRoot a → IsName b → wire_length a + wire_length b ≤ 255 → IsName (a ++ b)
IsName-append a b na plain nb fits = record {
  short = All-append IsShort a b na.short nb.short;
  root_last = root_last-append a b plain nb.root_last;
  fits = omega (arith, wire_length_append a b);
}

pub IsName-plain : (a : List (List ℕ)) → All IsPlain a → wire_length a ≤ 255 → IsName a
IsName-plain a plain fits = record {
  short = λ k d h. (plain k d h).1;
  root_last = root_last-none a (λ k d h. (plain k d h).0);
  fits = fits;
}

pub IsName-absolute : (a : List (List ℕ)) → All IsPlain a → wire_length a ≤ 254 → IsName (a ++ [] ∷ [])
IsName-absolute a plain fits = record {
  short = All-push IsShort a [] (λ k d h. (plain k d h).1) (omega arith);
  root_last = root_last-append a ([] ∷ []) (λ k d h. (plain k d h).0) root_last-root;
  fits = omega (arith, wire_length_append a ([] ∷ []));
}

pub name_count : (labels : List (List ℕ)) → IsName labels → length labels ≤ 255
name_count labels h = omega (arith, count_le labels, h.fits)

pub wire_nil : (labels : List (List ℕ)) → wire labels ≡ [] → labels ≡ []
wire_nil [] h = refl
wire_nil (l ∷ ls) h = cc

pub append_one : (front : List (List ℕ)) (label : List ℕ) → length (front ++ label ∷ []) ≡ length front + 1
append_one front label = grind (arith, common_steps)

pub All-front : (a b : List (List ℕ)) → All IsShort (a ++ b) → All IsShort a
All-front a b h = λ k d lt. rw (← get_or_append_left a b d k lt) (h k d (omega (arith, length-append a b)))

pub labelled_is : (octets : List ℕ) (p : Labelled octets) (labels : List (List ℕ)) → octets ≡ wire labels → p.0 ≡ labels
labelled_is octets p labels h = wire_same p.0 labels (sym p.1 ∙ h)

pub is_empty : IsName [] × HasNoRoot [] × (wire_length [] ≤ 254)
is_empty = (IsName-plain [] (λ k d h. absurd (omega arith)) (omega arith), (λ k d h. absurd (omega arith)), omega arith)

pub is_root : IsName ([] ∷ []) × EndsInRoot ([] ∷ [])
is_root = (IsName-absolute [] (λ k d h. absurd (omega arith)) (omega arith), ([], refl))

-- if some octets aren't guaranteed to fit
pub short_of : (fits len more : ℕ) → (more ≤ fits - len → IsTrue false) → fits < len + more
short_of fits len more h = let g : more ≤ fits - len → ⊥ = (λ p. let e = h p in cc) in omega arith

abbrev pub Bytes : List ℕ → Type 0
Bytes label = All (λ b. b < 256) label

-- the octets of labels are octets
pub labels_bytes : (labels : List (List ℕ)) → Bytes (wire labels) → All Bytes labels
labels_bytes [] h = λ k d lt. absurd (omega arith)
labels_bytes (l ∷ ls) h =
    let after = All-tail (λ b. b < 256) (length l) (l ++ wire ls) h in
    All-cons Bytes l ls (front_bytes l (wire ls) after) (labels_bytes ls (back_bytes l (wire ls) after))
  where
    front_bytes : (a b : List ℕ) → Bytes (a ++ b) → Bytes a
    front_bytes [] b h = λ k d lt. absurd (omega arith)
    front_bytes (x ∷ a) b h =
        All-cons (λ b. b < 256) x a (All-head (λ b. b < 256) x (a ++ b) h) (front_bytes a b (All-tail (λ b. b < 256) x (a ++ b) h))

    back_bytes : (a b : List ℕ) → Bytes (a ++ b) → Bytes b
    back_bytes [] b h = h
    back_bytes (x ∷ a) b h = back_bytes a b (All-tail (λ b. b < 256) x (a ++ b) h)
