-- The labels of a text that are written at the start of octets.
use Rattle.std.proofs.Common.{ℕ, zero, suc, ◌≡◌, ◌+◌, ◌-◌, ◌<◌, ◌≤◌, Bool, true, false, List, [], ◌∷◌, ◌++◌, length, take, drop, get_or, refl, sym, ap, subst, ◌∙◌, arith, inl, append-nil}
use Rattle.std.specs.Prelude.{set, IsTrue}
use Rattle.std.proofs.lemmas.List.{length-drop, drop-drop, drop-set, drop-set-lt, take-set, take-append-le, drop-append-le, get_or_append_left}
use Rattle.std.proofs.Math.Seq.{take-add}
use Rattle.dns_octets.specs.Room.{Room}
use Rattle.dns_octets.specs.Appending.{ExceedsRoom}
use Rattle.dns_wire.specs.Wire.{wire}
use Rattle.rdata_tokens.specs.Spelling.{SpellsOctetList}
use Rattle.rdata_tokens.specs.NameSpelling.{OpensLabel, part_labels, GainsLabels, BeginsWithLabels}
use Rattle.rdata_tokens.proofs.LabelParts.{Appended, NextLabel, plain_opens, next_label, part_spells, rest_is, ends_open, ends_dotted, goes_on_dotted}

-- the labels before an index are in wire format, and after one octet comes the text from there on
pub record LabelsPut (text wire : List ℕ) (start : ℕ) : Type 0 where
  pub done : Appended text [] (drop start text) (take start wire) start
  pub more : start < length text
  pub short : length text ≤ 127
  pub long : length wire ≡ 144
  pub tail : List ℕ
  pub rest : drop (start + 1) wire ≡ drop start text ++ tail

-- a label without escapes begins there
pub record LabelThere (text : List ℕ) (start count : ℕ) : Type 0 where
  pub within : count ≤ length (drop start text)
  pub some : 0 < count
  pub short : count ≤ 63
  pub each : (k : ℕ) → k < count → (get_or (drop start text) k 0 ≡ 46 → ⊥) × (get_or (drop start text) k 0 ≡ 92 → ⊥)

pub label_there : (text own wire : List ℕ) (start count : ℕ) → own ≡ drop start text → LabelsPut text wire start → count ≤ length own → (count ≡ 0 → ⊥) → count ≤ 63
    → ((k : ℕ) → k < count → (get_or (drop (start + 1) wire) k 0 ≡ 46 → ⊥) × (get_or (drop (start + 1) wire) k 0 ≡ 92 → ⊥)) → LabelThere text start count
label_there text own wire start count e i within some short each =
    let fits : count ≤ length (drop start text) = omega (arith, within, ap length e) in
    let same : (k : ℕ) → k < count → get_or (drop start text) k 0 ≡ get_or (drop (start + 1) wire) k 0 = (λ k less.
    sym (ap (λ r. get_or r k 0) i.rest ∙ get_or_append_left (drop start text) i.tail 0 k (omega (arith, less, fits)))) in record {
      within = fits;
      some = omega (arith, some);
      short = short;
      each = λ k less. (λ dot. (each k less).0 (sym (same k less) ∙ dot), λ escape. (each k less).1 (sym (same k less) ∙ escape));
    }

-- the label there was put
label_wire : (text wire : List ℕ) (start count : ℕ) → LabelsPut text wire start → LabelThere text start count
    → take (start + (1 + count)) (set wire start count) ≡ take start wire ++ (count ∷ take count (drop start text))
label_wire text wire start count i l =
    let one : 1 + count ≡ suc count = omega arith in
    take-add start (1 + count) (set wire start count)
    ∙ ap (λ t. t ++ take (1 + count) (drop start (set wire start count))) (take-set wire start count)
    ∙ ap (λ t. take start wire ++ take (1 + count) t) (drop-set wire start count (omega (arith, i.more, i.short, i.long)))
    ∙ ap (λ n. take start wire ++ take n (count ∷ drop (start + 1) wire)) one
    ∙ ap (λ t. take start wire ++ (count ∷ take count t)) i.rest
    ∙ ap (λ t. take start wire ++ (count ∷ t)) (take-append-le count (drop start text) i.tail l.within)

pub label_put : (text wire : List ℕ) (start count : ℕ) → LabelsPut text wire start → LabelThere text start count
    → NextLabel text [] (take (start + (1 + count)) (set wire start count)) (drop count (drop start text)) (start + (1 + count))
label_put text wire start count i l =
    let own = drop start text in
    let fits : count < 254 - start = omega (arith, i.more, i.short, l.short) in
    let x = plain_opens own (254 - start) count l.within l.each l.short fits in
    next_label text [] own (take start wire) (take (start + (1 + count)) (set wire start count)) (take count own) (drop count own) start count x.0 i.done
    (subst (λ r. OpensLabel own (254 - start) x.0 r) (rest_is own count) x.1) x.2 x.3 l.some (
      count ∷ take count own,
      record { octets = take count own; spelled = subst (λ o. SpellsOctetList (take count own) o) x.4 (part_spells (take count own) x.0 x.1.each x.2); whole = refl },
      label_wire text wire start count i l,
    )

-- a list that begins with an element
begins : (xs : List ℕ) (o : ℕ) → 0 < length xs → get_or xs 0 0 ≡ o → xs ≡ o ∷ drop 1 xs
begins [] o some h = absurd (omega (arith, some))
begins (x ∷ xs) o some h = ap (λ y. y ∷ xs) h

first_behind : (xs : List ℕ) (n : ℕ) → get_or (drop n xs) 0 0 ≡ get_or xs n 0
first_behind xs zero = refl
first_behind [] (suc n) = refl
first_behind (x ∷ xs) (suc n) = first_behind xs n

none_left : (n : ℕ) (xs : List ℕ) → n ≡ length xs → drop n xs ≡ []
none_left zero [] e = refl
none_left (suc n) [] e = refl
none_left zero (x ∷ xs) e = absurd (omega (arith, e))
none_left (suc n) (x ∷ xs) e = none_left n xs (omega (arith, e))

behind : (text : List ℕ) (start count : ℕ) → drop (count + 1) (drop start text) ≡ drop (start + (1 + count)) text
behind text start count =
    let same : start + (count + 1) ≡ start + (1 + count) = omega arith in
    drop-drop (count + 1) start text ∙ ap (λ n. drop n text) same

-- a dot follows the label
dot_at : (text own : List ℕ) (start count : ℕ) → own ≡ drop start text → count < length own → get_or own count 0 ≡ 46
    → drop count (drop start text) ≡ 46 ∷ drop (start + (1 + count)) text
dot_at text own start count e within h =
    let there = drop start text in
    let long : 0 < length (drop count there) = omega (arith, length-drop count there, ap length e, within) in
    begins (drop count there) 46 long (first_behind there count ∙ ap (λ r. get_or r count 0) (sym e) ∙ h)
    ∙ ap (λ r. 46 ∷ r) (drop-drop 1 count there ∙ behind text start count)

pub put_open : (text own wire : List ℕ) (start count : ℕ) → own ≡ drop start text → LabelsPut text wire start → LabelThere text start count → count ≡ length own
    → (start + (1 + count) ≤ 144) × GainsLabels text [] (take (start + (1 + count)) (set wire start count)) (start + (1 + count)) false
put_open text own wire start count e i l ends = (
  omega (arith, i.more, i.short, l.within, length-drop start text),
  ends_open text [] _ (drop count (drop start text)) _ (label_put text wire start count i l) (none_left count (drop start text) (ends ∙ ap length e)),
)

pub put_dotted : (text own wire : List ℕ) (start count : ℕ) → own ≡ drop start text → LabelsPut text wire start → LabelThere text start count
    → count < length own → get_or own count 0 ≡ 46 → start + (1 + count) ≡ length text
    → (start + (1 + count) ≤ 144) × GainsLabels text [] (take (start + (1 + count)) (set wire start count)) (start + (1 + count)) true
put_dotted text own wire start count e i l within dot ends = (
  omega (arith, i.short, ends),
  ends_dotted text [] _ (drop count (drop start text)) _ (label_put text wire start count i l)
      (dot_at text own start count e within dot ∙ ap (λ r. 46 ∷ r) (none_left (start + (1 + count)) text ends)),
)

pub put_more : (text own wire : List ℕ) (start count : ℕ) → own ≡ drop start text → LabelsPut text wire start → LabelThere text start count
    → count < length own → get_or own count 0 ≡ 46 → start + (1 + count) < length text → length (set wire start count) ≡ 144
    → LabelsPut text (set wire start count) (start + (1 + count))
put_more text own wire start count e i l within dot on long =
    let next = start + (1 + count) in
    let same : next + 1 ≡ (start + 1) + (count + 1) = omega arith in
    let some : 0 < length (drop next text) = omega (arith, length-drop next text, on) in
    let fits : count + 1 ≤ length (drop start text) = omega (arith, ap length e, within) in record {
      done = goes_on_dotted text [] (take next (set wire start count)) (drop count (drop start text)) (drop next text) next
          (label_put text wire start count i l) (dot_at text own start count e within dot) some;
      more = on;
      short = i.short;
      long = long;
      tail = i.tail;
      rest = drop-set-lt (next + 1) wire start count (omega arith)
          ∙ ap (λ n. drop n wire) same
          ∙ sym (drop-drop (count + 1) (start + 1) wire)
          ∙ ap (λ r. drop (count + 1) r) i.rest
          ∙ drop-append-le (count + 1) (drop start text) i.tail fits
          ∙ ap (λ r. r ++ i.tail) (behind text start count);
    }

-- they don't fit
pub labels_lack : (room : Room) (text old put : List ℕ) (count : ℕ) (is_absolute : Bool) → GainsLabels text [] put count is_absolute
    → (length put ≤ room.fits - length old → IsTrue false) → ExceedsRoom room (BeginsWithLabels text) old
labels_lack room text old put count is_absolute g short =
    let full : length put ≤ room.fits - length old → ⊥ = (λ p. let q = short p in cc) in (
      wire (part_labels g.parts g.last),
      record {
        front = text;
        rest = [];
        whole = sym (append-nil text);
        ends = inl refl;
        parts = g.parts;
        last = g.last;
        spelled = g.spelled;
        some = g.some;
        fits = omega (arith, g.fits, g.count_is);
        octets_are = refl;
      },
      omega (arith, full, ap length g.gained),
    )
