-- The error of a character, by what precedes it.
use Rattle.std.proofs.Common.{◌≡◌, ℕ, zero, suc, ◌+◌, ◌-◌, ◌*◌, ◌/◌, ◌%◌, ◌==◌, ◌≤◌, true, false, nat_lt, List, [], ◌∷◌, ◌++◌, length, replicate, refl, sym, ap, ◌∙◌, arith, Option, Some, None}
use Rattle.std.proofs.Common.{inl, inr, append_assoc, length-append}
use Rattle.std.specs.Prelude.{nat_le, ◌&&◌, if◌then◌else◌}
use Rattle.std.specs.List.{count_by}
use Rattle.std.proofs.lemmas.Bool.{cases_Bool, eqb-true, eq-eqb, ne_eqb}
use Rattle.dns_codec.specs.Base.{Base, base64, value, IsEncoding}
use Rattle.dns_codec.specs.Errors.{or_else}
use Rattle.dns_codec.specs.Grammar.{HaveValues}
use Rattle.dns_codec.specs.Outcome.{short_buf_if, grouped, pad_count, octet_count, char_error_open, char_error_padded, char_error, first_char_error, text_end_error, refusal}
use Rattle.dns_codec.specs.declared.error.DecodeError.{DecodeError}
use Rattle.dns_codec.specs.declared.error.DecodeError.TheVariants.{IllegalChar, TrailingInput}
use Rattle.dns_codec.proofs.Causes.{want_enough, none_more, count_by-append}
use Rattle.dns_codec.proofs.Numbers.{numbers}
use Rattle.dns_codec.proofs.Unique.{no_mark64}
use Rattle.dns_codec.proofs.Wholes.{HaveValues-push}

pub refusal_first : (b : Base) (limit : ℕ) (text : List ℕ) (e : DecodeError) → first_char_error (char_error b limit) [] text ≡ Some e → refusal b limit text ≡ Some e
refusal_first b limit text e is = ap (λ (x : Option DecodeError). or_else x (text_end_error b limit text)) is

module _ (b : Base) (known : IsEncoding b) where
  -- ---- how many `=`

  no_char_is_mark : (c v : ℕ) → value b c ≡ Some v → (c == 61) ≡ false
  no_char_is_mark c v is = elim (cases_Bool (c == 61)) [
    | inl mark ↦
        let same : c ≡ 61 = eqb-true c 61 mark in
        let bad : None ≡ Some v = sym (numbers b known).no_mark ∙ rw same at is in
        cc bad
    | inr other ↦ other
  ]

  none_in : (cs ps : List ℕ) → HaveValues b cs ps → count_by (λ x. x == 61) cs ≡ 0
  none_in [] ps n = refl
  none_in (c ∷ cs) [] n = absurd n
  none_in (c ∷ cs) (p ∷ ps) n =
      let here : count_by (λ x. x == 61) (c ∷ []) ≡ 0 = rw (no_char_is_mark c p n.0) refl in
      let later = none_in cs ps n.1 in
      count_by-append (λ x. x == 61) (c ∷ []) cs ∙ rw (here, later) refl

  marks-chars : (cs ps : List ℕ) → HaveValues b cs ps → pad_count b cs ≡ 0
  marks-chars cs ps n = elim (cases_Bool (nat_lt 1 b.unit)) [ inl padded ↦ rw padded (none_in cs ps n) | inr plain ↦ rw plain refl ]

  pub marks-spelled : (chars ps : List ℕ) (m : ℕ) → HaveValues b chars ps → nat_lt 1 b.unit ≡ true → pad_count b (chars ++ replicate m 61) ≡ m
  marks-spelled chars ps m n padded = rw padded (count_by-append (λ x. x == 61) chars (replicate m 61) ∙ rw (none_in chars ps n, all m) (omega arith))
    where
      all : (m : ℕ) → count_by (λ x. x == 61) (replicate m 61) ≡ m
      all zero = refl
      all (suc m) = count_by-append (λ x. x == 61) (61 ∷ []) (replicate m 61) ∙ rw (all m) (omega arith)

  pub octet_count-chars : (cs ps : List ℕ) → HaveValues b cs ps → octet_count b cs ≡ length cs * b.width / 8
  octet_count-chars cs ps n =
      let e : length cs - pad_count b cs ≡ length cs = omega (arith, marks-chars cs ps n) in
      ap (λ k. k * b.width / 8) e

  -- ---- after characters of the alphabet

  open_cause : (limit : ℕ) (front fs : List ℕ) (c : ℕ) (o : Option ℕ) → HaveValues b front fs → value b c ≡ o → char_error b limit front c ≡ char_error_open b limit front c o
  open_cause limit front fs c o valued is = let test = eq-eqb (pad_count b front) 0 (marks-chars front fs valued) in rw (test, is) refl

  pub legal : (limit : ℕ) (front fs : List ℕ) (c v : ℕ) → HaveValues b front fs → value b c ≡ Some v → char_error b limit front c ≡ short_buf_if limit (grouped b (length front + 1))
  legal limit front fs c v valued is = open_cause limit front fs c (Some v) valued is

  pub illegal : (limit : ℕ) (front fs : List ℕ) (c : ℕ) → HaveValues b front fs → value b c ≡ None → ((c == 61) && (nat_lt 1 b.unit && nat_le 2 (length front % b.group))) ≡ false
      → char_error b limit front c ≡ Some (IllegalChar c)
  illegal limit front fs c valued is test = open_cause limit front fs c None valued is ∙ rw test refl

  pub chars_none : (limit : ℕ) (front cs fs ps : List ℕ) → HaveValues b front fs → HaveValues b cs ps → grouped b (length front + length cs) ≤ limit
      → first_char_error (char_error b limit) front cs ≡ None
  chars_none limit front [] fs ps before n le = refl
  chars_none limit front (c ∷ cs) fs [] before n le = absurd n
  chars_none limit front (c ∷ cs) fs (p ∷ ps) before n le =
      let less = (numbers b known).grouped_grows (length front + 1) (length front + suc (length cs)) (omega arith) in
      let e : length (front ++ c ∷ []) + length cs ≡ length front + suc (length cs) = omega (arith, length-append front (c ∷ [])) in
      let here = legal limit front fs c p before n.0 ∙ want_enough limit (grouped b (length front + 1)) (omega arith) in
      let later = chars_none limit (front ++ c ∷ []) cs (fs ++ p ∷ []) ps (HaveValues-push b front fs c p before n.0) n.1 (rw e le) in
      rw (here, later) refl

-- ---- `=` of base 64, and what follows it

mark_open : (limit place : ℕ) (front fs : List ℕ) → HaveValues base64 front fs → length front % 4 ≡ place
    → char_error base64 limit front 61 ≡ (if (61 == 61) && (true && nat_le 2 place) then (if place + 1 == 4 then short_buf_if limit (octet_count base64 front) else None) else Some (IllegalChar 61))
mark_open limit place front fs valued is = open_cause base64 (inr (inr refl)) limit front fs 61 None valued no_mark64 ∙ rw is refl

pub mark_two : (limit : ℕ) (front fs : List ℕ) → HaveValues base64 front fs → length front % 4 ≡ 2 → char_error base64 limit front 61 ≡ None
mark_two limit front fs valued two = mark_open limit 2 front fs valued two

pub mark_three : (limit : ℕ) (front fs : List ℕ) → HaveValues base64 front fs → length front % 4 ≡ 3 → char_error base64 limit front 61 ≡ short_buf_if limit (length front * 6 / 8)
mark_three limit front fs valued three = mark_open limit 3 front fs valued three ∙ ap (short_buf_if limit) (octet_count-chars base64 (inr (inr refl)) front fs valued)

pub mark_one : (limit c : ℕ) (front : List ℕ) (o : Option ℕ) → value base64 c ≡ o → pad_count base64 front ≡ 1 → length front % 4 ≡ 3
    → char_error base64 limit front c ≡ char_error_padded base64 limit front c o
mark_one limit c front o is one three = let test = ne_eqb (pad_count base64 front) 0 (omega arith) in rw (test, three, is) refl

pub mark_complete : (limit c : ℕ) (front : List ℕ) (m : ℕ) → pad_count base64 front ≡ suc m → length front % 4 ≡ 0 → char_error base64 limit front c ≡ Some TrailingInput
mark_complete limit c front m one zero_place = let test = ne_eqb (pad_count base64 front) 0 (omega arith) in rw (test, zero_place) refl

-- ---- texts of base 64 that end with `=`

module _ (limit : ℕ) (chars ps : List ℕ) (valued : HaveValues base64 chars ps) where
  plain_none : grouped base64 (length chars) ≤ limit → first_char_error (char_error base64 limit) [] chars ≡ None
  plain_none le = let z : 0 + length chars ≡ length chars = omega arith in chars_none base64 (inr (inr refl)) limit [] chars [] ps tt valued (rw z le)

  pub after_one_none : length chars % 4 ≡ 2 → grouped base64 (length chars) ≤ limit → first_char_error (char_error base64 limit) [] (chars ++ 61 ∷ []) ≡ None
  after_one_none two le = none_more (char_error base64 limit) chars 61 (plain_none le) (mark_two limit chars ps valued two)

  pub one_none : length chars % 4 ≡ 3 → length chars * 6 / 8 ≤ limit → first_char_error (char_error base64 limit) [] (chars ++ 61 ∷ []) ≡ None
  one_none three le = none_more (char_error base64 limit) chars 61 (plain_none (omega arith)) (mark_three limit chars ps valued three ∙ want_enough limit (length chars * 6 / 8) le)

  pub two_none : length chars % 4 ≡ 2 → length chars * 6 / 8 ≤ limit → first_char_error (char_error base64 limit) [] (chars ++ 61 ∷ 61 ∷ []) ≡ None
  two_none two le =
      let one : pad_count base64 (chars ++ 61 ∷ []) ≡ 1 = marks-spelled base64 (inr (inr refl)) chars ps 1 valued refl in
      let len = length-append chars (61 ∷ []) in
      let due_is : octet_count base64 (chars ++ 61 ∷ []) ≡ length chars * 6 / 8 = rw (one, len) (omega arith) in
      rw append_assoc at (none_more (char_error base64 limit) (chars ++ 61 ∷ []) 61 (after_one_none two (omega arith))
      (mark_one limit 61 (chars ++ 61 ∷ []) None no_mark64 one (omega arith) ∙ want_enough limit (octet_count base64 (chars ++ 61 ∷ [])) (omega arith)))
