-- Labels of hashes in base32hex.
use Rattle.std.proofs.Common.{ℕ, ◌≡◌, ◌+◌, ◌*◌, ◌%◌, ◌<◌, ◌≤◌, inl, inr, List, [], ◌∷◌, ◌++◌, length, map, slice_index, Result, Ok, Err, refl, sym, ap, ◌∙◌, arith, length-append, length-drop}
use Rattle.std.specs.Result.{IsOk}
use Rattle.std.proofs.lemmas.List.{length-map, take_all}
use Rattle.std.proofs.lemmas.List.Elements.{All-cons}
use Rattle.dns_codec.specs.Base.{base32hex, encoded}
use Rattle.dns_codec.specs.Bits.{digits}
use Rattle.dns_codec.specs.Written.{IsWritten}
use Rattle.dns_codec.proofs.Fitting.{whole_digits}
use Rattle.dns_codec.proofs.Texts.{unpadded}
use Rattle.dns_octets.specs.declared.error.ShortBuf.{ShortBuf}
use Rattle.rdata_tokens.specs.NameSpelling.{IsWireName}
use Rattle.rdata_tokens.specs.Spelling.{AreOctetValues}
use Rattle.rdata_tokens.proofs.LabelParts.{wire_length_cons}
use Rattle.dns_wire.specs.Wire.{wire, wire_label, wire_length, IsName, EndsInRoot}

-- a hash of 20 octets has 32 characters
pub label_length : (hash : List ℕ) → length hash ≡ 20 → length (encoded base32hex hash) ≡ 32
label_length hash e =
    let text = unpadded base32hex 5 hash (inr (inl refl)) refl refl in
    let characters : List ℕ = map (slice_index base32hex.alphabet) (digits 5 hash) in
    omega (
      arith,
      e,
      ap length text,
      length-append characters [],
      length-map (digits 5 hash) (slice_index base32hex.alphabet),
      whole_digits 5 hash (omega arith) (ap (λ n. n * 8 % 5) e),
    )

-- these fit an array of the same length
pub fits_label : (text old new : List ℕ) (r : Result ℕ ShortBuf) → IsWritten text old r new → length text ≡ length old → IsOk r
fits_label text old new (Ok n) w e = refl
fits_label text old new (Err x) w e = absurd (omega (arith, w.0, e))

pub is_label : (text old new : List ℕ) (r : Result ℕ ShortBuf) → IsWritten text old r new → length text ≡ length old → new ≡ text
is_label text old new (Ok n) w e =
    sym (take_all n new (omega (arith, w.0, e, ap length w.2, length-drop n new, length-drop n old))) ∙ w.1
is_label text old new (Err x) w e = absurd (omega (arith, w.0, e))

-- the octets of the label, and the apex after it
pub label_octets : (label apex hash : List ℕ) (origin : List (List ℕ)) → length hash ≡ 20 → label ≡ encoded base32hex hash → apex ≡ wire origin
    → 32 ∷ (label ++ apex) ≡ wire_label (encoded base32hex hash) ++ wire origin
label_octets label apex hash origin e f g =
    ap (λ l. 32 ∷ (l ++ apex)) f ∙ ap (λ w. 32 ∷ (encoded base32hex hash ++ w)) g ∙ ap (λ n. n ∷ (encoded base32hex hash ++ wire origin)) (sym (label_length hash e))

first_same : (a b : List ℕ) (front back : List (List ℕ)) → a ∷ front ≡ b ∷ back → a ≡ b
first_same a b front back e = cc

label_last : (label : List ℕ) (labels front back : List (List ℕ)) → 0 < length label → IsName labels → label ∷ labels ≡ front ++ [] ∷ back → back ≡ []
label_last label labels [] back some n e = absurd (omega (arith, some, ap length (first_same label [] labels back e)))
label_last label labels (x ∷ front) back some n e = n.root_last front back cc

-- a label before a name makes a name
pub label_name : (label : List ℕ) (labels : List (List ℕ)) → IsName labels → EndsInRoot labels → 0 < length label → length label ≤ 63 → length label + 1 + wire_length labels ≤ 255
    → AreOctetValues (wire_label label ++ wire labels) → IsWireName (wire_label label ++ wire labels)
label_name label labels n a some short fits values = record {
  labels = label ∷ labels;
  is_name = record {
    short = All-cons (λ l. length l ≤ 63) label labels short n.short;
    root_last = λ front back e. label_last label labels front back some n e;
    fits = omega (arith, fits, wire_length_cons label labels);
  };
  absolute = (label ∷ a.0, ap (λ l. label ∷ l) a.1);
  values = values;
  whole = refl;
}
