-- Names in lower case.
use Rattle.std.proofs.Common.{ℕ, ◌≡◌, ◌<◌, ◌≤◌, List, [], ◌∷◌, ◌++◌, ◌-◌, length, take, drop, map, refl, sym, ap, subst, ◌∙◌, arith, append_assoc, length-drop}
use Rattle.std.specs.Prelude.{All}
use Rattle.std.specs.Char.{to_ascii_lowercase}
use Rattle.std.proofs.lemmas.List.{length-map, map-append, append-nil, take_all, take-append-drop}
use Rattle.std.proofs.lemmas.List.Elements.{All-nil, All-cons, All-head, All-tail}
use Rattle.std.proofs.lemmas.Str.Ascii.{lowercase_is, lowercase-lowercase}
use Rattle.dns_octets.specs.Lowered.{lowered}
use Rattle.dns_wire.specs.Order.{lowered_wire}
use Rattle.dns_wire.specs.Wire.{wire, wire_length, IsPlain, IsName}
use Rattle.dns_wire.proofs.Comparing.{lowered_wire_is}
use Rattle.dns_wire.proofs.Wires.{IsName-absolute, wire_length_append}
use Rattle.rdata_tokens.specs.NameSpelling.{IsWireName}
use Rattle.rdata_tokens.specs.Spelling.{AreOctetValues}
use Rattle.rdata_tokens.proofs.LabelParts.{wire_length_cons}
use Rattle.rdata_tokens.proofs.NameFronts.{name_front_plain}

abbrev IsOctet : ℕ → Type 0
IsOctet o = o < 256

pub length_lowered : (octets : List ℕ) → length (lowered octets) ≡ length octets
length_lowered octets = length-map octets to_ascii_lowercase

pub lowered_again : (octets : List ℕ) → lowered (lowered octets) ≡ lowered octets
lowered_again [] = refl
lowered_again (o ∷ os) = λ i. lowercase-lowercase o i ∷ lowered_again os i

-- one more part is lowered, and the others are left
pub record Lowering (octets old rest new : List ℕ) : Type 0 where
  pub done : List ℕ
  pub whole : octets ≡ done ++ rest
  pub gained : new ≡ old ++ lowered done

pub lowering_none : (octets old : List ℕ) → Lowering octets old octets old
lowering_none octets old = record { done = []; whole = refl; gained = sym (append-nil old) }

pub lowering_more : (octets old rest middle new : List ℕ) (count left : ℕ) → Lowering octets old rest middle → new ≡ middle ++ lowered (take count rest) → left ≡ length rest - count
    → Lowering octets old (take left (drop count rest)) new
lowering_more octets old rest middle new count left l h is =
    let part = take count rest in
    let after : take left (drop count rest) ≡ drop count rest = take_all left (drop count rest) (omega (arith, is, length-drop count rest)) in record {
      done = l.done ++ part;
      whole = l.whole ∙ ap (λ r. l.done ++ r) (sym (take-append-drop count rest) ∙ ap (λ r. part ++ r) (sym after)) ∙ sym (append_assoc l.done part (take left (drop count rest)));
      gained = h ∙ ap (λ t. t ++ lowered part) l.gained ∙ append_assoc old (lowered l.done) (lowered part) ∙ ap (λ t. old ++ t) (sym (map-append to_ascii_lowercase l.done part));
    }

lowered_small : (o : ℕ) → o < 256 → to_ascii_lowercase o < 256
lowered_small o small = let is = lowercase_is o in grind (arith, is.0, is.1, is.2)

lowered_values : (octets : List ℕ) → AreOctetValues octets → AreOctetValues (lowered octets)
lowered_values [] h = h
lowered_values (o ∷ os) h = All-cons IsOctet _ _ (lowered_small o (All-head IsOctet o os h)) (lowered_values os (All-tail IsOctet o os h))

lowered_plain : (labels : List (List ℕ)) → All IsPlain labels → All IsPlain (map lowered labels)
lowered_plain [] h = All-nil IsPlain
lowered_plain (l ∷ ls) h =
    let plain = All-head IsPlain l ls h in
    All-cons IsPlain _ _ (omega (arith, plain.0, length_lowered l), omega (arith, plain.1, length_lowered l)) (lowered_plain ls (All-tail IsPlain l ls h))

lowered_long : (labels : List (List ℕ)) → wire_length (map lowered labels) ≡ wire_length labels
lowered_long [] = refl
lowered_long (l ∷ ls) = omega (arith, lowered_long ls, wire_length_cons (lowered l) (map lowered ls), wire_length_cons l ls, length_lowered l)

pub lowered_labels : (labels : List (List ℕ)) → IsName labels → lowered (wire labels) ≡ lowered_wire labels
lowered_labels labels name = lowered_wire_is labels name.short

pub lowered_name : (form : List ℕ) → IsWireName form → IsWireName (lowered form)
lowered_name form h =
    let front = h.absolute.0 in
    let is : map lowered h.labels ≡ map lowered front ++ [] ∷ [] = ap (map lowered) h.absolute.1 ∙ map-append lowered front ([] ∷ []) in
    let fits : wire_length (map lowered front) ≤ 254 = omega (arith, h.is_name.fits, ap wire_length h.absolute.1, wire_length_append front ([] ∷ []), lowered_long front) in record {
      labels = map lowered h.labels;
      is_name = subst IsName (sym is) (IsName-absolute (map lowered front) (lowered_plain front (name_front_plain h.labels front h.is_name h.absolute.1)) fits);
      absolute = (map lowered front, is);
      values = lowered_values form h.values;
      whole = ap lowered h.whole ∙ lowered_labels h.labels h.is_name;
    }
