-- Octets split into labels and a rest.
use Rattle.std.proofs.Common.{◌≡◌, ℕ, ◌<◌, ◌≤◌, List, [], ◌∷◌, ◌++◌, length, refl, sym, ap, ◌∙◌, arith, length-append, append-nil, append_assoc}
use Rattle.std.specs.Prelude.{All, IsTrue, true, false, ◌==◌}
use Rattle.std.proofs.lemmas.List.Elements.{All-push, All-head, All-tail}
use Rattle.std.proofs.lemmas.Grind.{common_steps, flat_map-append}
use Rattle.dns_wire.specs.Wire.{wire, wire_label, wire_length, IsPlain, IsName, EndsInRoot, HasNoRoot}
use Rattle.dns_wire.specs.FromOctets.{BeginsNoLabel, SplitsIntoLabels, IsRootAndMore, HasRest}
use Rattle.dns_wire.specs.declared.split.Rest.TheVariants.{End, Root}
use Rattle.dns_wire.specs.Labelled.{Labelled, label_same}
use Rattle.dns_wire.specs.Split.{RefusesLabel, IsCut}
use Rattle.dns_wire.specs.Split.IsCut.{cut_lead, cut_label, cut_pointer}
use Rattle.dns_wire.specs.declared.error.SplitLabelError.{SplitLabelError}
use Rattle.dns_wire.specs.declared.error.SplitLabelError.TheVariants.{Pointer, BadType, ShortInput}
use Rattle.dns_wire.proofs.Wires.{IsShort, labelled_same, wire_append, length_wire, wire_length_append, IsName-plain, IsName-absolute}

pub cut_none : (l rest : List ℕ) → length l ≤ 63 → IsCut (wire_label l ++ rest) → ⊥
cut_none l rest short (cut_lead h) = cc
cut_none l rest short (cut_label lead more h a b) =
    let n : length l ≡ lead = cc in
    let t : l ++ rest ≡ more = cc in
    omega (arith, ap length t, length-append l rest)
cut_none l rest short (cut_pointer lead h a) =
    let n : length l ≡ lead = cc in omega arith

-- the octets of labels are rejected only if there are no labels
pub refused_none : (labels : List (List ℕ)) (octets : List ℕ) (e : SplitLabelError) → All IsShort labels → octets ≡ wire labels
    → RefusesLabel e octets → labels ≡ []
refused_none [] octets e short is h = refl
refused_none (l ∷ ls) octets ShortInput short is h =
    absurd (cut_none l (wire ls) (short 0 [] (omega arith)) (rw is at h))
refused_none (l ∷ ls) octets (BadType e) short is h =
    let n : length l ≡ e.0 = (let x = sym is ∙ h.1 in cc) in
    let s : length l ≤ 63 = short 0 [] (omega arith) in
    absurd (omega (arith, h.2))
refused_none (l ∷ ls) octets (Pointer place) short is h =
    let n : length l ≡ h.0 = (let x = sym is ∙ h.3 in cc) in
    let s : length l ≤ 63 = short 0 [] (omega arith) in
    absurd (omega (arith, h.4))

-- the labels before the rest
pub record Passed (octets rest : List ℕ) : Type 0 where
  pub labels : List (List ℕ)
  pub plain : All IsPlain labels
  pub spelled : octets ≡ wire labels ++ rest

pub passed_none : (octets : List ℕ) → Passed octets octets
passed_none octets = record { labels = []; plain = λ k d h. absurd (omega arith); spelled = refl }

pub passed_more : (octets rest label after : List ℕ) → Passed octets rest → rest ≡ wire_label label ++ after → 0 < length label
    → length label ≤ 63 → Passed octets after
passed_more octets rest label after p h some short = record {
  labels = p.labels ++ label ∷ [];
  plain = All-push IsPlain p.labels label p.plain (some, short);
  spelled = p.spelled ∙ ap (λ r. wire p.labels ++ r) h ∙ grind (arith, common_steps, flat_map-append wire_label p.labels (label ∷ []));
}

pub none_at_root : (rest label after : List ℕ) → rest ≡ wire_label label ++ after → label ≡ [] → BeginsNoLabel rest
none_at_root rest label after h root other more plain is =
    let e = (label_same other label more after (sym is ∙ h)).0 in
    let n : length other ≡ length label = ap length e in
    let z : length label ≡ 0 = ap length root in
    omega arith

pub none_where_refused : (rest : List ℕ) (e : SplitLabelError) → RefusesLabel e rest → BeginsNoLabel rest
none_where_refused rest ShortInput h label more plain is = cut_none label more plain.1 (rw is at h)
none_where_refused rest (BadType e) h label more plain is =
    let n : length label ≡ e.0 = (let x = sym is ∙ h.1 in cc) in
    omega (arith, h.2)
none_where_refused rest (Pointer place) h label more plain is =
    let n : length label ≡ h.0 = (let x = sym is ∙ h.3 in cc) in
    omega (arith, h.4)

pub root_and_more : (rest label after : List ℕ) → rest ≡ wire_label label ++ after → label ≡ [] → false ≡ (length after == 0) → IsRootAndMore rest
root_and_more rest label [] h root some = absurd (let z : ⊥ = cc in z)
root_and_more rest label (x ∷ after) h root some = (x, after, h ∙ ap (λ l. wire_label l ++ x ∷ after) root)

pub not_root : (label : List ℕ) → (label ≡ [] → IsTrue false) → 0 < length label
not_root [] h = let e : false ≡ true = h refl in cc
not_root (x ∷ l) h = omega arith

-- the labels with the root after them
pub rooted : (octets : List ℕ) → HasRest octets Root → Labelled octets
rooted octets s = (s.0 ++ [] ∷ [], s.2.spelled ∙ ap (λ r. wire s.0 ++ r) s.3 ∙ sym (wire_append s.0 ([] ∷ [])))

pub rooted_is : (octets : List ℕ) (s : HasRest octets Root) (p : Labelled octets) → p.0 ≡ s.0 ++ [] ∷ []
unfolding rooted
rooted_is octets s p = labelled_same octets octets p (rooted octets s) refl

pub rooted_name : (octets : List ℕ) (s : HasRest octets Root) (p : Labelled octets) → length octets ≤ 255 → IsName p.0 × EndsInRoot p.0
unfolding rooted
rooted_name octets s p fits =
    let e = rooted_is octets s p in
    let n : length octets ≡ wire_length (s.0 ++ [] ∷ []) = ap length (rooted octets s).1 ∙ length_wire (s.0 ++ [] ∷ []) in
    (rw e (IsName-absolute s.0 s.2.plain (omega (arith, wire_length_append s.0 ([] ∷ [])))), (s.0, e))

-- the labels alone
pub unrooted : (octets : List ℕ) → HasRest octets End → Labelled octets
unrooted octets s = (s.0, s.2.spelled ∙ ap (λ r. wire s.0 ++ r) s.3 ∙ append-nil (wire s.0))

pub unrooted_is : (octets : List ℕ) (s : HasRest octets End) (p : Labelled octets) → p.0 ≡ s.0
unfolding unrooted
unrooted_is octets s p = labelled_same octets octets p (unrooted octets s) refl

pub unrooted_name : (octets : List ℕ) (s : HasRest octets End) (p : Labelled octets) → length octets ≤ 254
    → IsName p.0 × HasNoRoot p.0 × (wire_length p.0 ≤ 254)
unfolding unrooted
unrooted_name octets s p fits =
    let e = unrooted_is octets s p in
    let n : length octets ≡ wire_length s.0 = ap length (unrooted octets s).1 ∙ length_wire s.0 in
    rw e (IsName-plain s.0 s.2.plain (omega arith), (λ k d h. (s.2.plain k d h).0), omega arith)

-- octets split in one way only
pub splits_same : (octets : List ℕ) (a b : List (List ℕ)) (x y : List ℕ) → SplitsIntoLabels octets a x → SplitsIntoLabels octets b y → (a ≡ b) × (x ≡ y)
splits_same octets [] [] x y s t = (refl, sym s.spelled ∙ t.spelled)
splits_same octets [] (l ∷ b) x y s t =
    absurd (s.ends l (wire b ++ y) (All-head IsPlain l b t.plain) (sym s.spelled ∙ t.spelled ∙ append_assoc (wire_label l) (wire b) y))
splits_same octets (l ∷ a) [] x y s t =
    absurd (t.ends l (wire a ++ x) (All-head IsPlain l a s.plain) (sym t.spelled ∙ s.spelled ∙ append_assoc (wire_label l) (wire a) x))
splits_same octets (l ∷ a) (k ∷ b) x y s t =
    let e = label_same l k (wire a ++ x) (wire b ++ y)
    (sym (append_assoc (wire_label l) (wire a) x) ∙ sym s.spelled ∙ t.spelled ∙ append_assoc (wire_label k) (wire b) y) in
    let r = splits_same (wire a ++ x) a b x y
    (record { spelled = refl; plain = All-tail IsPlain l a s.plain; ends = s.ends })
    (record { spelled = e.1; plain = All-tail IsPlain k b t.plain; ends = t.ends }) in
    ((let p = e.0 in let q = r.0 in cc), r.1)
