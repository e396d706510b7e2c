-- What the grammar states of the characters that a converter consumed.
use Rattle.std.proofs.Common.{ℕ, zero, suc, ◌≡◌, ◌<◌, ◌+◌, ◌-◌, ◌%◌, true, false, List, [], ◌∷◌, ◌++◌, length, replicate}
use Rattle.std.proofs.Common.{refl, sym, ap, subst, ◌∙◌, arith, append_assoc, append-nil, length-append, inl, inr, Option, Some, None}
use Rattle.std.proofs.lemmas.List.{length-replicate}
use Rattle.dns_codec.specs.Bits.{whole}
use Rattle.dns_codec.specs.Base.{Base, base16, base32hex, base64, value, IsEncoding}
use Rattle.dns_codec.specs.Errors.{or_else}
use Rattle.dns_codec.specs.Grammar.{Decodes, HaveValues, may_end_after}
use Rattle.dns_codec.specs.Group.{CharacterStep, step_after_one, step_from, may_end_in}
use Rattle.dns_codec.specs.Outcome.{short_buf_if, char_error, refusal}
use Rattle.dns_codec.specs.declared.error.DecodeError.{DecodeError}
use Rattle.dns_codec.specs.declared.error.DecodeError.TheVariants.{ShortInput}
use Rattle.dns_codec.specs.declared.base64.Padding.{Padding}
use Rattle.dns_codec.specs.declared.base64.Padding.TheVariants.{Absent, One, Complete}
use Rattle.dns_codec.proofs.Causes.{first_here}
use Rattle.dns_codec.proofs.Ends.{ended}
use Rattle.dns_codec.proofs.Marks.{refusal_first}
use Rattle.dns_codec.proofs.Numbers.{numbers}
use Rattle.dns_codec.proofs.Refusals.{reads}
use Rattle.dns_codec.proofs.Steps.{IsRead, Stepped, lengths, no_cause, plain_text, stepped}
use Rattle.dns_codec.proofs.Unique.{no_mark64}
use Rattle.dns_codec.proofs.Wholes.{whole-nil, HaveValues-append, HaveValues-length}
use Rattle.dns_laws.specs.Encodings.{BeginsEncoding, HasGroups, IsPaddedText}

-- ---- characters with values

-- a letter of each alphabet
letter : (b : Base) → IsEncoding b → (v : ℕ) × (value b 65 ≡ Some v)
unfolding value
letter b (inl is) = subst (λ x. (v : ℕ) × (value x 65 ≡ Some v)) (sym is) (10, refl)
letter b (inr (inl is)) = subst (λ x. (v : ℕ) × (value x 65 ≡ Some v)) (sym is) (10, refl)
letter b (inr (inr is)) = subst (λ x. (v : ℕ) × (value x 65 ≡ Some v)) (sym is) (0, refl)

values_end : (b : Base) (front ps : List ℕ) (c : ℕ) → HaveValues b (front ++ c ∷ []) ps → (v : ℕ) × (value b c ≡ Some v)
values_end b [] [] c h = absurd h
values_end b [] (p ∷ ps) c h = (p, h.0)
values_end b (x ∷ xs) [] c h = absurd h
values_end b (x ∷ xs) (p ∷ ps) c h = values_end b xs ps c h.1

values_parts : (b : Base) (chars front ps : List ℕ) → HaveValues b chars (front ++ ps) → (cs : List ℕ) × (ds : List ℕ) × (chars ≡ cs ++ ds) × HaveValues b cs front × HaveValues b ds ps
values_parts b chars [] ps h = ([], chars, refl, tt, h)
values_parts b [] (p ∷ front) ps h = absurd h
values_parts b (c ∷ cs) (p ∷ front) ps h = let more = values_parts b cs front ps h.1 in (c ∷ more.0, more.1, ap (λ l. c ∷ l) more.2, (h.0, more.3), more.4)

many : (b : Base) (n c v : ℕ) → value b c ≡ Some v → HaveValues b (replicate n c) (replicate n v)
many b zero c v is = tt
many b (suc n) c v is = (is, many b n c v is)

-- ---- whole groups are a text

group_ends16 : (n : ℕ) → n % 2 ≡ 0 → may_end_after base16 n ≡ true
group_ends16 n h = rw h refl

group_ends32 : (n : ℕ) → n % 8 ≡ 0 → may_end_after base32hex n ≡ true
group_ends32 n h = rw h refl

group_ends64 : (n : ℕ) → n % 4 ≡ 0 → may_end_after base64 n ≡ true
group_ends64 n h = rw h refl

group_ends : (b : Base) → IsEncoding b → (n : ℕ) → n % b.group ≡ 0 → may_end_after b n ≡ true
group_ends b (inl is) = rw is group_ends16
group_ends b (inr (inl is)) = rw is group_ends32
group_ends b (inr (inr is)) = rw is group_ends64

unpadded64 : (n : ℕ) → n % 4 ≡ 0 → (4 - n % 4) % 4 ≡ 0
unpadded64 n h = rw h refl

unpadded : (b : Base) → IsEncoding b → (n : ℕ) → n % b.group ≡ 0 → (b.unit - n % b.unit) % b.unit ≡ 0
unpadded b (inl is) = rw is (λ n h. omega arith)
unpadded b (inr (inl is)) = rw is (λ n h. omega arith)
unpadded b (inr (inr is)) = rw is unpadded64

groups_decode : (b : Base) → IsEncoding b → (chars ps : List ℕ) → HaveValues b chars ps → length chars % b.group ≡ 0 → Decodes b chars (whole b.width ps)
groups_decode b known chars ps valued even = record {
  chars = chars;
  digits = ps;
  valued = valued;
  count = group_ends b known (length chars) even;
  spelled = rw (unpadded b known (length chars) even) (sym (append-nil chars));
  value_is = refl;
}

-- ---- after `=`

-- a second `=` closes the group
one_closes : (text os ps : List ℕ) → IsRead base64 text os ps One → IsRead base64 (text ++ 61 ∷ []) (os ++ whole 6 ps) [] Complete
one_closes text os ps at =
    let next = subst (λ (o : Option ℕ). Stepped base64 text os 61 (step_after_one base64 ps 61 o)) no_mark64 (stepped base64 (inr (inr refl)) text os ps One 61 at) in
    next.goes_on refl

complete_decodes : (b : Base) → b ≡ base64 → (text os ps : List ℕ) → IsRead b text os ps Complete → Decodes b text os
complete_decodes b same = rw same by
  where
    by : (text os ps : List ℕ) → IsRead base64 text os ps Complete → Decodes base64 text os
    by text os [] at = rw (whole-nil, append-nil) at ((ended base64 (inr (inr refl)) text os [] Complete at).decodes refl)
    by text os (p ∷ ps) at = absurd (omega (arith, at.counts.1))

one_begins : (b : Base) → b ≡ base64 → (text os ps : List ℕ) → IsRead b text os ps One → BeginsEncoding b text
one_begins b same = rw same (λ text os ps at. (61 ∷ [], os ++ whole 6 ps, complete_decodes base64 refl (text ++ 61 ∷ []) (os ++ whole 6 ps) [] (one_closes text os ps at)))

replicate_last : (n c : ℕ) → replicate (suc n) c ≡ replicate n c ++ c ∷ []
replicate_last zero c = refl
replicate_last (suc n) c = ap (λ l. c ∷ l) (replicate_last n c)

module _ (b : Base) (known : IsEncoding b) where
  -- ---- what was consumed begins a text

  absent_begins : (text os ps : List ℕ) → IsRead b text os ps Absent → BeginsEncoding b text
  absent_begins text os ps at =
      let few = at.counts.1 in
      let filler = letter b known in
      let more = replicate (b.group - length ps) 65 in
      let digits = (at.front ++ ps) ++ replicate (b.group - length ps) filler.0 in
      let valued = HaveValues-append b at.chars (at.front ++ ps) more (replicate (b.group - length ps) filler.0) at.valued (many b (b.group - length ps) 65 filler.0 filler.1) in
      let sum : length (at.chars ++ more) ≡ length at.front + b.group =
      omega (arith, few, length-append at.chars more, length-replicate {A = ℕ} (b.group - length ps) 65, HaveValues-length b at.chars (at.front ++ ps) at.valued, length-append at.front ps) in
      let even : length (at.chars ++ more) % b.group ≡ 0 = ap (λ n. n % b.group) sum ∙ (numbers b known).closed (length at.front) b.group at.counts.2 refl in
      let whole_text = groups_decode b known (at.chars ++ more) digits valued even in
      (more, whole b.width digits, subst (λ (t : List ℕ). Decodes b (t ++ more) (whole b.width digits)) (sym (plain_text b text os ps at)) whole_text)

  pub begins : (text os ps : List ℕ) (p : Padding) → IsRead b text os ps p → BeginsEncoding b text
  begins text os ps Absent at = absent_begins text os ps at
  begins text os ps One at = one_begins b at.counts.0 text os ps at
  begins text os ps Complete at = ([], os, rw append-nil (complete_decodes b at.counts.0 text os ps at))

  -- ---- and what it made are its whole groups

  groups_of : (text os ps more : List ℕ) (p : Padding) → (at : IsRead b text os ps p) → text ≡ at.chars ++ more → length at.front % b.group ≡ 0 → length ps + length more < b.group → HasGroups b text os
  groups_of text os ps more p at is even few =
      let cut = values_parts b at.chars at.front ps at.valued in
      let front = HaveValues-length b cut.0 at.front cut.3 in
      let open_ones = HaveValues-length b cut.1 ps cut.4 in
      record {
        groups = cut.0;
        others = cut.1 ++ more;
        parts = is ∙ ap (λ l. l ++ more) cut.2 ∙ append_assoc cut.0 cut.1 more;
        even = ap (λ n. n % b.group) front ∙ even;
        few = omega (arith, few, length-append cut.1 more, open_ones);
        value = subst (λ (o : List ℕ). Decodes b cut.0 o) (sym at.made) (groups_decode b known cut.0 at.front cut.3 (ap (λ n. n % b.group) front ∙ even));
      }

  complete_even : b ≡ base64 → (n m f g : ℕ) → n ≡ f + g + m → g ≡ 0 → f % 4 + m ≡ 4 → n % b.group ≡ 0
  complete_even same n m f g is none all = rw same (omega (arith, is, none, all))

  one_few : b ≡ base64 → (g : ℕ) → g ≡ 2 → g + 1 < b.group
  one_few same g two = rw same (omega (arith, two))

  pub groups : (text os ps : List ℕ) (p : Padding) → IsRead b text os ps p → HasGroups b text os
  groups text os ps Absent at =
      groups_of text os ps [] Absent at (plain_text b text os ps at ∙ sym (append-nil at.chars)) at.counts.2 (omega (arith, at.counts.1))
  groups text os ps One at =
      groups_of text os ps (61 ∷ []) One at (at.spelled ∙ ap (λ n. at.chars ++ replicate n 61) at.counts.1) at.counts.3 (one_few at.counts.0 (length ps) at.counts.2)
  groups text os ps Complete at =
      let sizes = lengths b text os ps Complete at in
      record {
        groups = text;
        others = [];
        parts = sym (append-nil text);
        even = complete_even at.counts.0 (length text) at.count (length at.front) (length ps) sizes.text_is at.counts.1 at.counts.4;
        few = (numbers b known).some;
        value = complete_decodes b at.counts.0 text os ps at;
      }

  -- ---- a rejected character begins none

  some_cause : (x y : Option DecodeError) (e : DecodeError) → y ≡ Some e → (f : DecodeError) × (or_else x y ≡ Some f)
  some_cause None y e is = (e, is)
  some_cause (Some f) y e is = (f, refl)

  pub blocked : (text os ps : List ℕ) (p : Padding) (c : ℕ) (e : DecodeError) → IsRead b text os ps p → (step_from b ps p c (value b c)).error ≡ Some e
      → (rest octets : List ℕ) → Decodes b (text ++ c ∷ rest) octets → ⊥
  blocked text os ps p c e at is rest octets d =
      let limit = length os + length octets in
      let s : CharacterStep = step_from b ps p c (value b c) in
      let next = stepped b known text os ps p c at in
      let why = some_cause (short_buf_if limit (length os + length s.octets)) s.error e is in
      let first = first_here (char_error b limit) text rest c why.0 (no_cause b known text os ps p at limit (omega arith)) (next.cause_is limit (omega arith) ∙ why.1) in
      let refused = refusal_first b limit (text ++ c ∷ rest) why.0 first in
      let none = (reads b known (text ++ c ∷ rest) octets limit d (omega arith)).0 in
      let bad : None ≡ Some why.0 = sym none ∙ refused in
      cc bad

  -- and characters that may not end aren't a text
  pub unended : (text os ps : List ℕ) (p : Padding) → IsRead b text os ps p → may_end_in b ps p ≡ false → (octets : List ℕ) → Decodes b text octets → ⊥
  unended text os ps p at more octets d =
      let limit = length os + length octets in
      let is = (ended b known text os ps p at).refusal_is limit (omega arith) in
      let short : refusal b limit text ≡ Some ShortInput = rw more at is in
      let none = (reads b known text octets limit d (omega arith)).0 in
      let bad : None ≡ Some ShortInput = sym none ∙ short in
      cc bad

  -- ---- what `=` ends

  plain_unpadded : (text os ps : List ℕ) → IsRead b text os ps Absent → IsPaddedText b text → ⊥
  plain_unpadded text os ps at padded =
      let valued = subst (λ (t : List ℕ). HaveValues b t (at.front ++ ps)) (sym (plain_text b text os ps at) ∙ padded.2) at.valued in
      let last = values_end b padded.0 (at.front ++ ps) 61 valued in
      let bad : None ≡ Some last.0 = sym (numbers b known).no_mark ∙ last.1 in
      cc bad

  pub open_unpadded : (text os ps : List ℕ) (p : Padding) → (p ≡ Complete → ⊥) → IsRead b text os ps p → IsPaddedText b text → ⊥
  open_unpadded text os ps Absent open_one at padded = plain_unpadded text os ps at padded
  open_unpadded text os ps One open_one at padded = unended text os ps One at refl padded.1 padded.3
  open_unpadded text os ps Complete open_one at padded = open_one refl

  pub closed_padded : (text os ps : List ℕ) → IsRead b text os ps Complete → IsPaddedText b text
  closed_padded text os ps at =
      let some = at.counts.2 in
      let count : at.count ≡ suc (at.count - 1) = omega arith in (
        at.chars ++ replicate (at.count - 1) 61,
        os,
        at.spelled ∙ ap (λ n. at.chars ++ replicate n 61) count ∙ ap (λ l. at.chars ++ l) (replicate_last (at.count - 1) 61) ∙ sym (append_assoc at.chars (replicate (at.count - 1) 61) (61 ∷ [])),
        complete_decodes b at.counts.0 text os ps at,
      )
