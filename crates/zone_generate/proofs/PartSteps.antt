-- The parts of a text, one after another.
use Rattle.std.proofs.Common.{append-nil, ℕ, zero, suc, ◌-◌, ◌≡◌, ◌<◌, ◌≤◌, ◌+◌, Bool, List, [], ◌∷◌, ◌++◌, length, refl, sym, subst, ap, ◌∙◌, arith, take, drop, length-drop}
use Rattle.std.specs.Prelude.{false, Result, Ok, Err, IsOk, is_ok}
use Rattle.std.proofs.lemmas.List.{append_assoc, drop-drop, drop_all, take_rest}
use Rattle.zone_generate.proofs.Appends.{lacks}
use Rattle.zone_generate.specs.Parts.{offset_after, parts_then, part_before, part_of, written_part, parts_from, side_parts, parts_or_none, side_text}
use Rattle.zone_generate.specs.declared.error.GenerateErrorKind.{GenerateErrorKind}
use Rattle.zone_generate.specs.declared.part.Part.{Part}
use Rattle.zone_generate.specs.declared.part.ReadPart.{ReadPart}
use Rattle.zone_generate.specs.declared.side.SideError.{SideError}

-- the parts are the first and then the others, at most one less
part_first : (most last : ℕ) (q o : Bool) (at : ℕ) (text : List ℕ) (p : ReadPart) → 0 < length text → part_of last q o text ≡ Ok p
    → parts_from (suc most) last q o at text ≡ part_before p.part (parts_from most last q (offset_after o p.part) (at + p.len) (drop p.len text))
part_first most last q o at [] p some is = absurd (omega (arith, some))
part_first most last q o at (c ∷ text) p some is = ap (λ r. parts_then at r (λ p. parts_from most last q (offset_after o p.part) (at + p.len) (drop p.len (c ∷ text)))) is

part_rejected : (most last : ℕ) (q o : Bool) (at : ℕ) (text : List ℕ) (k : GenerateErrorKind) → 0 < length text → part_of last q o text ≡ Err k
    → parts_from (suc most) last q o at text ≡ Err (record { offset = at; kind = k })
part_rejected most last q o at [] k some is = absurd (omega (arith, some))
part_rejected most last q o at (c ∷ text) k some is = ap (λ r. parts_then at r (λ p. parts_from most last q (offset_after o p.part) (at + p.len) (drop p.len (c ∷ text)))) is

parts_ended : (most last : ℕ) (q o : Bool) (at : ℕ) → parts_from most last q o at [] ≡ Ok []
parts_ended zero last q o at = refl
parts_ended (suc most) last q o at = refl

ok_before : (part : Part) (r : Result (List Part) SideError) → IsOk r → IsOk (part_before part r)
ok_before part (Ok parts) h = refl
ok_before part (Err e) h = h

-- what a slice of the text has
pub rest_read : (last : ℕ) (q o : Bool) (text : List ℕ) (at : ℕ) (r s : Result ReadPart GenerateErrorKind) → r ≡ part_of last q o (take (length text - at) (drop at text)) → r ≡ s
    → part_of last q o (drop at text) ≡ s
rest_read last q o text at r s value is = sym (ap (part_of last q o) (take_rest text at)) ∙ sym value ∙ is

pub rest_within : (text : List ℕ) (at len : ℕ) → at ≤ length text → len ≤ length (take (length text - at) (drop at text)) → at + len ≤ length text
rest_within text at len le h = let whole : length (take (length text - at) (drop at text)) ≡ length (drop at text) = ap length (take_rest text at) in omega (arith, le, h, whole, length-drop at text)

-- the text from an offset on decides whether the parts have an error, and which
pub record PartsLeft (last : ℕ) (q o : Bool) (text : List ℕ) (at : ℕ) : Type 0 where
  pub most : ℕ
  pub bound : length (drop at text) ≤ most
  pub ok : IsOk (parts_from most last q o at (drop at text)) → IsOk (side_parts last q text)
  pub err : (e : SideError) → parts_from most last q o at (drop at text) ≡ Err e → side_parts last q text ≡ Err e

pub parts_begin : (last : ℕ) (q : Bool) (text : List ℕ) → PartsLeft last q false text 0
parts_begin last q text = record { most = length text; bound = omega arith; ok = λ h. h; err = λ e h. h }

some_left : (text : List ℕ) (at : ℕ) → at < length text → 0 < length (drop at text)
some_left text at lt = omega (arith, lt, length-drop at text)

module _ (last : ℕ) (q o : Bool) (text : List ℕ) (at : ℕ) (lt : at < length text) where
  next_by : (p : ReadPart) → 0 < p.len → part_of last q o (drop at text) ≡ Ok p → (most : ℕ) → length (drop at text) ≤ most
      → (IsOk (parts_from most last q o at (drop at text)) → IsOk (side_parts last q text)) → ((e : SideError) → parts_from most last q o at (drop at text) ≡ Err e → side_parts last q text ≡ Err e)
      → PartsLeft last q (offset_after o p.part) text (at + p.len)
  next_by p some is zero bound ok err = absurd (omega (arith, bound, some_left text at lt))
  next_by p some is (suc most) bound ok err =
      let rest = drop at text in
      let next : drop p.len rest ≡ drop (at + p.len) text = drop-drop p.len at text in
      let first : parts_from (suc most) last q o at rest ≡ part_before p.part (parts_from most last q (offset_after o p.part) (at + p.len) (drop (at + p.len) text)) =
      part_first most last q o at rest p (some_left text at lt) is ∙ ap (λ l. part_before p.part (parts_from most last q (offset_after o p.part) (at + p.len) l)) next in
      record {
        most = most;
        bound = omega (arith, bound, some, length-drop at text, length-drop (at + p.len) text);
        ok = λ h. ok (subst IsOk (sym first) (ok_before p.part _ h));
        err = λ e h. err e (first ∙ ap (part_before p.part) h);
      }

  pub parts_next : (p : ReadPart) → 0 < p.len → part_of last q o (drop at text) ≡ Ok p → PartsLeft last q o text at → PartsLeft last q (offset_after o p.part) text (at + p.len)
  parts_next p some is h = next_by p some is h.most h.bound h.ok h.err

  rejected_by : (k : GenerateErrorKind) → part_of last q o (drop at text) ≡ Err k → (most : ℕ) → length (drop at text) ≤ most
      → ((e : SideError) → parts_from most last q o at (drop at text) ≡ Err e → side_parts last q text ≡ Err e) → side_parts last q text ≡ Err (record { offset = at; kind = k })
  rejected_by k is zero bound err = absurd (omega (arith, bound, some_left text at lt))
  rejected_by k is (suc most) bound err = err (record { offset = at; kind = k }) (part_rejected most last q o at (drop at text) k (some_left text at lt) is)

  pub parts_rejected : (k : GenerateErrorKind) → part_of last q o (drop at text) ≡ Err k → PartsLeft last q o text at → side_parts last q text ≡ Err (record { offset = at; kind = k })
  parts_rejected k is h = rejected_by k is h.most h.bound h.err

pub parts_accepted : (last : ℕ) (q o : Bool) (text : List ℕ) (at : ℕ) → length text ≤ at → PartsLeft last q o text at → IsOk (side_parts last q text)
parts_accepted last q o text at le h = h.ok (ap is_ok (ap (parts_from h.most last q o at) (drop_all at text le) ∙ parts_ended h.most last q o at))

-- what is written, and the parts that are left
pub record TextLeft (last : ℕ) (q o : Bool) (text : List ℕ) (at n : ℕ) (out all : List ℕ) : Type 0 where
  pub most : ℕ
  pub bound : length (drop at text) ≤ most
  pub parts : List Part
  pub read : parts_from most last q o at (drop at text) ≡ Ok parts
  pub made : out ++ side_text n parts ≡ all

ok_parts : (r : Result (List Part) SideError) → IsOk r → r ≡ Ok (parts_or_none r)
ok_parts (Ok parts) h = refl
ok_parts (Err e) h = absurd (cc h)

pub text_begins : (last : ℕ) (q : Bool) (text : List ℕ) (n : ℕ) (out : List ℕ) → IsOk (side_parts last q text)
    → TextLeft last q false text 0 n out (out ++ side_text n (parts_or_none (side_parts last q text)))
text_begins last q text n out h = record { most = length text; bound = omega arith; parts = parts_or_none (side_parts last q text); read = ok_parts (side_parts last q text) h; made = refl }

pub text_ended : (last : ℕ) (q o : Bool) (text : List ℕ) (at n : ℕ) (out all : List ℕ) → length text ≤ at → TextLeft last q o text at n out all → out ≡ all
text_ended last q o text at n out all le h =
    let none : Ok [] ≡ Ok h.parts = sym (ap (parts_from h.most last q o at) (drop_all at text le) ∙ parts_ended h.most last q o at) ∙ h.read in
    let empty : [] ≡ h.parts = cc none in
    sym (append-nil out) ∙ ap (λ l. out ++ side_text n l) empty ∙ h.made

-- the parts after the first
split_parts : (part : Part) (r : Result (List Part) SideError) (parts : List Part) → part_before part r ≡ Ok parts → (r ≡ Ok (parts_or_none r)) × (parts ≡ part ∷ parts_or_none r)
split_parts part (Ok others) parts is = (refl, cc is)
split_parts part (Err e) parts is = absurd (cc is)

module _ (last : ℕ) (q o : Bool) (text : List ℕ) (at n : ℕ) (out all : List ℕ) (lt : at < length text) where
  text_next_by : (p : ReadPart) (new : List ℕ) → 0 < p.len → part_of last q o (drop at text) ≡ Ok p → new ≡ out ++ written_part n p.part
      → (most : ℕ) (parts : List Part) → length (drop at text) ≤ most → parts_from most last q o at (drop at text) ≡ Ok parts → out ++ side_text n parts ≡ all
      → TextLeft last q (offset_after o p.part) text (at + p.len) n new all
  text_next_by p new some is made zero parts bound read so = absurd (omega (arith, bound, some_left text at lt))
  text_next_by p new some is made (suc most) parts bound read so =
      let rest = drop at text in
      let others = parts_from most last q (offset_after o p.part) (at + p.len) (drop (at + p.len) text) in
      let next : drop p.len rest ≡ drop (at + p.len) text = drop-drop p.len at text in
      let first : parts_from (suc most) last q o at rest ≡ part_before p.part others =
      part_first most last q o at rest p (some_left text at lt) is ∙ ap (λ l. part_before p.part (parts_from most last q (offset_after o p.part) (at + p.len) l)) next in
      let split = split_parts p.part others parts (sym first ∙ read) in
      record {
        most = most;
        bound = omega (arith, bound, some, length-drop at text, length-drop (at + p.len) text);
        parts = parts_or_none others;
        read = split.0;
        made = ap (λ l. l ++ side_text n (parts_or_none others)) made ∙ append_assoc out (written_part n p.part) (side_text n (parts_or_none others))
            ∙ ap (λ l. out ++ side_text n l) (sym split.1) ∙ so;
      }

  pub text_next : (p : ReadPart) (new : List ℕ) → 0 < p.len → part_of last q o (drop at text) ≡ Ok p → new ≡ out ++ written_part n p.part
      → TextLeft last q o text at n out all → TextLeft last q (offset_after o p.part) text (at + p.len) n new all
  text_next p new some is made h = text_next_by p new some is made h.most h.parts h.bound h.read h.made

  -- the text of a part that doesn't fit
  text_lacks_by : (p : ReadPart) → part_of last q o (drop at text) ≡ Ok p → (fits : ℕ) (old whole : List ℕ) → fits < length out + length (written_part n p.part)
      → (most : ℕ) (parts : List Part) → length (drop at text) ≤ most → parts_from most last q o at (drop at text) ≡ Ok parts → out ++ side_text n parts ≡ old ++ whole → fits < length old + length whole
  text_lacks_by p is fits old whole few zero parts bound read so = absurd (omega (arith, bound, some_left text at lt))
  text_lacks_by p is fits old whole few (suc most) parts bound read so =
      let others = parts_from most last q (offset_after o p.part) (at + p.len) (drop p.len (drop at text)) in
      let split = split_parts p.part others parts (sym (part_first most last q o at (drop at text) p (some_left text at lt) is) ∙ read) in
      lacks fits old whole out (written_part n p.part) (side_text n (parts_or_none others)) (ap (λ l. out ++ side_text n l) (sym split.1) ∙ so) few

  pub text_lacks : (p : ReadPart) → part_of last q o (drop at text) ≡ Ok p → (fits : ℕ) (old whole : List ℕ) → all ≡ old ++ whole → fits < length out + length (written_part n p.part) → TextLeft last q o text at n out all → fits < length old + length whole
  text_lacks p is fits old whole all_is few h = text_lacks_by p is fits old whole few h.most h.parts h.bound h.read (h.made ∙ all_is)

  text_rejected_by : (k : GenerateErrorKind) → part_of last q o (drop at text) ≡ Err k → (most : ℕ) (parts : List Part) → length (drop at text) ≤ most
      → parts_from most last q o at (drop at text) ≡ Ok parts → ⊥
  text_rejected_by k is zero parts bound read = omega (arith, bound, some_left text at lt)
  text_rejected_by k is (suc most) parts bound read =
      let no : Err (record { offset = at; kind = k }) ≡ Ok parts = sym (part_rejected most last q o at (drop at text) k (some_left text at lt) is) ∙ read in
      cc no

  pub text_rejected : (k : GenerateErrorKind) → part_of last q o (drop at text) ≡ Err k → TextLeft last q o text at n out all → ⊥
  text_rejected k is h = text_rejected_by k is h.most h.parts h.bound h.read
