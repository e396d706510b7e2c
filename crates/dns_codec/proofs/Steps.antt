-- Texts decoded character by character, without builders: the state after them, and their end.
use Rattle.std.proofs.Common.{◌≡◌, ℕ, suc, ◌+◌, ◌-◌, ◌*◌, ◌/◌, ◌%◌, ◌^◌, ◌==◌, ◌<◌, ◌≤◌, ◌⊎◌, true, false, nat_lt, List, [], ◌∷◌, ◌++◌, length, replicate, refl, sym, ap, ◌∙◌, arith, Option, Some}
use Rattle.std.proofs.Common.{None, inl, inr, append_assoc, append-nil, length-append}
use Rattle.std.specs.Prelude.{nat_le, ◌&&◌}
use Rattle.std.proofs.lemmas.Bool.{cases_Bool, and_parts, eqb-true, eqb-false, le-leb, leb-true}
use Rattle.std.proofs.lemmas.List.{length-replicate}
use Rattle.dns_codec.specs.Bits.{whole}
use Rattle.dns_codec.specs.Base.{Base, base64, value, IsEncoding}
use Rattle.dns_codec.specs.Errors.{or_else}
use Rattle.dns_codec.specs.Grammar.{HaveValues}
use Rattle.dns_codec.specs.Group.{CharacterStep, step_digit, step_other, step_after_one, step_from}
use Rattle.dns_codec.specs.Outcome.{short_buf_if, grouped, pad_count, octet_count, char_error, first_char_error}
use Rattle.dns_codec.specs.declared.error.DecodeError.{DecodeError}
use Rattle.dns_codec.specs.declared.error.DecodeError.TheVariants.{IllegalChar, TrailingInput}
use Rattle.dns_codec.specs.declared.base64.Padding.{Padding}
use Rattle.dns_codec.specs.declared.base64.Padding.TheVariants.{Absent, One, Complete}
use Rattle.dns_codec.proofs.Causes.{cases_value, or_else_none, want_enough}
use Rattle.dns_codec.proofs.Marks.{marks-spelled, legal, illegal, chars_none, mark_two, mark_three, mark_one, mark_complete, after_one_none, one_none, two_none}
use Rattle.dns_codec.proofs.Numbers.{numbers, kinds, is_padded}
use Rattle.dns_codec.proofs.Wholes.{length-whole, whole-nil, whole-append, HaveValues-below, HaveValues-push, HaveValues-length, below_front}

-- the number of open digits, of `=`, and of digits before the group
abbrev pub CountsOf : Base → Padding → ℕ → ℕ → ℕ → Type 0
CountsOf b Absent g m f = (m ≡ 0) × (g < b.group) × (f % b.group ≡ 0)
CountsOf b One g m f = (b ≡ base64) × (m ≡ 1) × (g ≡ 2) × (f % b.group ≡ 0)
CountsOf b Complete g m f = (b ≡ base64) × (g ≡ 0) × (1 ≤ m) × (m ≤ 2) × (f % 4 + m ≡ 4)

-- the octets that a text without a cause has made, and the group that is open after it
pub record IsRead (b : Base) (text octets digits : List ℕ) (padding : Padding) : Type 0 where
  pub chars : List ℕ
  pub front : List ℕ
  pub count : ℕ
  pub spelled : text ≡ chars ++ replicate count 61
  pub valued : HaveValues b chars (front ++ digits)
  pub made : octets ≡ whole b.width front
  pub counts : CountsOf b padding (length digits) count (length front)

pub read_none : (b : Base) → IsEncoding b → IsRead b [] [] [] Absent
read_none b known = record {
  chars = [];
  front = [];
  count = 0;
  spelled = refl;
  valued = tt;
  made = sym (whole-nil b.width);
  counts = (refl, (numbers b known).some, (numbers b known).none);
}

-- its lengths
pub record Lengths (b : Base) (text octets chars : List ℕ) (g m f : ℕ) : Type 0 where
  pub text_is : length text ≡ f + g + m
  pub chars_are : length chars ≡ f + g
  pub octets_are : length octets ≡ f * b.width / 8

pub lengths : (b : Base) (text os ps : List ℕ) (p : Padding) → (at : IsRead b text os ps p) → Lengths b text os at.chars (length ps) at.count (length at.front)
lengths b text os ps p at =
    let len : length at.chars ≡ length at.front + length ps = HaveValues-length b at.chars (at.front ++ ps) at.valued ∙ length-append at.front ps in
    let sum : length text ≡ length at.chars + at.count = ap length at.spelled ∙ (length-append at.chars (replicate at.count 61) ∙ ap (λ n. length at.chars + n) (length-replicate at.count 61)) in
    record { text_is = omega arith; chars_are = len; octets_are = ap length at.made ∙ length-whole b.width at.front }

-- if no `=` came, the text is characters of the alphabet
pub plain_text : (b : Base) (text os ps : List ℕ) → (at : IsRead b text os ps Absent) → text ≡ at.chars
plain_text b text os ps at = let none = at.counts.0 in rw (none, append-nil) at at.spelled

pub marked : (b : Base) → IsEncoding b → (text os ps : List ℕ) (p : Padding) → (at : IsRead b text os ps p) → pad_count b text ≡ at.count
marked b known text os ps p at = elim (cases_Bool (nat_lt 1 b.unit)) [
  | inl padded ↦ ap (pad_count b) at.spelled ∙ marks-spelled b known at.chars (at.front ++ ps) at.count at.valued padded
  | inr plain ↦ rw plain (sym (none p at.counts plain))
]
  where
    none : (p : Padding) → CountsOf b p (length ps) at.count (length at.front) → nat_lt 1 b.unit ≡ false → at.count ≡ 0
    none Absent c plain = c.0
    none One c plain = let bad : true ≡ false = sym (is_padded b c.0).0 ∙ plain in cc bad
    none Complete c plain = let bad : true ≡ false = sym (is_padded b c.0).0 ∙ plain in cc bad

-- the whole octets of its characters
pub due_is : (b : Base) → IsEncoding b → (text os ps : List ℕ) (p : Padding) → IsRead b text os ps p → (octet_count b text ≡ length os + length (whole b.width ps))
due_is b known text os ps p at =
    let n = lengths b text os ps p at in
    let e : length text - pad_count b text ≡ length at.front + length ps = omega (arith, n.text_is, marked b known text os ps p at) in
    ap (λ k. k * b.width / 8) e ∙ sym (sum p at.counts) ∙ rw (n.octets_are, length-whole) refl
  where
    sum : (p : Padding) → CountsOf b p (length ps) at.count (length at.front) → length at.front * b.width / 8 + length ps * b.width / 8 ≡ (length at.front + length ps) * b.width / 8
    sum Absent c = (numbers b known).sum (length at.front) (length ps) c.2
    sum One c = (numbers b known).sum (length at.front) (length ps) c.3
    sum Complete c =
        let e : length at.front + 0 ≡ length at.front = omega arith in
        let none : 0 * b.width / 8 ≡ 0 = omega arith in
        rw (c.1, e, none) (omega arith)

-- ---- a text that is read has no cause

half64_none : (text os ps : List ℕ) → IsRead base64 text os ps One → (limit : ℕ) → length os ≤ limit → first_char_error (char_error base64 limit) [] text ≡ None
half64_none text os ps at limit le =
    let n = lengths base64 text os ps One at in
    let long = n.chars_are in
    let made = n.octets_are in
    let two = at.counts.2 in
    let four = at.counts.3 in
    let spelled : text ≡ at.chars ++ 61 ∷ [] = rw at.counts.1 at at.spelled in
    rw spelled (after_one_none limit at.chars (at.front ++ ps) at.valued (omega arith) (omega arith))

done64_none : (text os ps : List ℕ) → IsRead base64 text os ps Complete → (limit : ℕ) → length os ≤ limit → first_char_error (char_error base64 limit) [] text ≡ None
done64_none text os ps at limit le =
    let n = lengths base64 text os ps Complete at in
    let long = n.chars_are in
    let made = n.octets_are in
    let none = at.counts.1 in
    let few = at.counts.3 in
    let all = at.counts.4 in
    elim (cases_Bool (at.count == 1)) [
      | inl single ↦
          let one : at.count ≡ 1 = eqb-true at.count 1 single in
          let spelled : text ≡ at.chars ++ 61 ∷ [] = rw one at at.spelled in
          rw spelled (one_none limit at.chars (at.front ++ ps) at.valued (omega arith) (omega arith))
      | inr double ↦
          let other : at.count ≡ 1 → ⊥ = eqb-false at.count 1 double in
          let some = at.counts.2 in
          let two : at.count ≡ 2 = omega arith in
          let spelled : text ≡ at.chars ++ 61 ∷ 61 ∷ [] = rw two at at.spelled in
          rw spelled (two_none limit at.chars (at.front ++ ps) at.valued (omega arith) (omega arith))
    ]

padded_none : (b : Base) → b ≡ base64 → (text os ps : List ℕ) (p : Padding) → (p ≡ One) ⊎ (p ≡ Complete) → IsRead b text os ps p → (limit : ℕ) → length os ≤ limit
    → first_char_error (char_error b limit) [] text ≡ None
padded_none b same = rw same (λ text os ps p which. elim which [ inl after_one ↦ rw after_one (half64_none text os ps) | inr done ↦ rw done (done64_none text os ps) ])

pub no_cause : (b : Base) → IsEncoding b → (text os ps : List ℕ) (p : Padding) → IsRead b text os ps p → (limit : ℕ) → length os ≤ limit → first_char_error (char_error b limit) [] text ≡ None
no_cause b known text os ps Absent at limit le =
    let n = lengths b text os ps Absent at in
    let plain = plain_text b text os ps at in
    let same = (numbers b known).grouped_at (length text) (length at.front) (length ps) (ap length plain ∙ n.chars_are) at.counts.2 at.counts.1 in
    let fits : grouped b (length text) ≤ limit = rw (same, ← n.octets_are) le in
    let z : 0 + length text ≡ length text = omega arith in
    chars_none b known limit [] text [] (at.front ++ ps) tt (rw (← plain) at at.valued) (rw z fits)
no_cause b known text os ps One at limit le = padded_none b at.counts.0 text os ps One (inl refl) at limit le
no_cause b known text os ps Complete at limit le = padded_none b at.counts.0 text os ps Complete (inr refl) at limit le

-- ---- one more character

-- the cause of a character is lack of room for the octets of its step, and then the step's error. Without an error the
-- text is read with it
pub record Stepped (b : Base) (text octets : List ℕ) (c : ℕ) (s : CharacterStep) : Type 0 where
  pub cause_is : (limit : ℕ) → length octets ≤ limit → char_error b limit text c ≡ or_else (short_buf_if limit (length octets + length s.octets)) s.error
  pub goes_on : s.error ≡ None → IsRead b (text ++ c ∷ []) (octets ++ s.octets) s.group.digits s.group.padding

-- a group that is closed: its octets follow those of the prefix
pub closed_octets : (b : Base) → IsEncoding b → (os front g chars : List ℕ) → os ≡ whole b.width front → length front % b.group ≡ 0 → HaveValues b chars (front ++ g)
    → os ++ whole b.width g ≡ whole b.width (front ++ g)
closed_octets b known os front g chars made whole_groups valued =
    let n = numbers b known in
    rw made (sym (whole-append b.width front g (n.bits (length front) whole_groups) (below_front (2 ^ b.width) front g (HaveValues-below b n.below chars (front ++ g) valued))))

-- rejected, whatever the capacity
at_once : (b : Base) (text os : List ℕ) (c : ℕ) (s : CharacterStep) (e : DecodeError) → s.octets ≡ [] → s.error ≡ Some e → ((limit : ℕ) → char_error b limit text c ≡ Some e) → Stepped b text os c s
at_once b text os c s e nothing is why =
    let sum : length os + length s.octets ≡ length os = rw nothing (omega arith) in
    record {
      cause_is = λ limit le. why limit ∙ rw (sum, want_enough limit (length os) le, is) refl;
      goes_on = λ none. let bad : Some e ≡ None = sym is ∙ none in cc bad;
    }

digit : (b : Base) → IsEncoding b → (text os ps : List ℕ) (c v : ℕ) → value b c ≡ Some v → IsRead b text os ps Absent → Stepped b text os c (step_digit b ps v)
digit b known text os ps c v is at =
    let n = numbers b known in
    let plain = plain_text b text os ps at in
    let text_valued : HaveValues b text (at.front ++ ps) = rw (← plain) at at.valued in
    let valued : HaveValues b (text ++ c ∷ []) (at.front ++ (ps ++ v ∷ [])) = rw append_assoc at (HaveValues-push b text (at.front ++ ps) c v text_valued is) in
    let len : length text ≡ length at.front + length ps = ap length plain ∙ (lengths b text os ps Absent at).chars_are in
    let made = (lengths b text os ps Absent at).octets_are in
    let few = at.counts.1 in
    let closed = at.counts.2 in
    let size = length-append ps (v ∷ []) in
    elim (cases_Bool (length ps + 1 == b.group)) [
      | inl last ↦
          let full : length ps + 1 ≡ b.group = eqb-true (length ps + 1) b.group last in
          let all = length-append at.front (ps ++ v ∷ []) in
          let group : length (ps ++ v ∷ []) ≡ b.group = size ∙ full in
          let on : length (at.front ++ (ps ++ v ∷ [])) % b.group ≡ 0 = ap (λ k. k % b.group) all ∙ n.closed (length at.front) (length (ps ++ v ∷ [])) closed group in
          let long : length text + 1 ≡ length (at.front ++ (ps ++ v ∷ [])) + 0 = omega arith in
          let same = n.grouped_at (length text + 1) (length (at.front ++ (ps ++ v ∷ []))) 0 long on n.some in
          let sum : length os + length (whole b.width (ps ++ v ∷ [])) ≡ grouped b (length text + 1) =
          rw (made, length-whole) (n.sum (length at.front) (length (ps ++ v ∷ [])) closed ∙ ap (λ k. k * b.width / 8) (sym all)) ∙ sym same in
          rw last (record {
            cause_is = λ limit le. legal b known limit text (at.front ++ ps) c v text_valued is ∙ sym (or_else_none _ ∙ ap (short_buf_if limit) sum);
            goes_on = λ none. record {
              chars = text ++ c ∷ [];
              front = at.front ++ (ps ++ v ∷ []);
              count = 0;
              spelled = sym (append-nil (text ++ c ∷ []));
              valued = rw append-nil valued;
              made = closed_octets b known os at.front (ps ++ v ∷ []) (text ++ c ∷ []) at.made closed valued;
              counts = (refl, n.some, on);
            };
          })
      | inr more ↦
          let other : length ps + 1 ≡ b.group → ⊥ = eqb-false (length ps + 1) b.group more in
          let long : length text + 1 ≡ length at.front + (length ps + 1) = omega arith in
          let same : grouped b (length text + 1) ≡ length os = n.grouped_at (length text + 1) (length at.front) (length ps + 1) long closed (omega arith) ∙ sym made in
          rw more (record {
            cause_is = λ limit le. legal b known limit text (at.front ++ ps) c v text_valued is ∙ want_enough limit _ (rw same le)
                ∙ sym (or_else_none _ ∙ want_enough limit (length os + 0) (omega arith));
            goes_on = λ none. record {
              chars = text ++ c ∷ [];
              front = at.front;
              count = 0;
              spelled = sym (append-nil (text ++ c ∷ []));
              valued = valued;
              made = append-nil os ∙ at.made;
              counts = (refl, omega arith, closed);
            };
          })
    ]

-- `=` in one of the last two places of a group of base 64
mark : (text os ps : List ℕ) → 2 ≤ length ps → IsRead base64 text os ps Absent → Stepped base64 text os 61 (step_other base64 ps 61)
mark text os ps some at =
    let known : IsEncoding base64 = inr (inr refl) in
    let n = lengths base64 text os ps Absent at in
    let none = at.counts.0 in
    let few = at.counts.1 in
    let closed = at.counts.2 in
    let long = n.text_is in
    let made = n.octets_are in
    let plain = plain_text base64 text os ps at in
    let text_valued : HaveValues base64 text (at.front ++ ps) = rw (← plain) at at.valued in
    let one : text ++ 61 ∷ [] ≡ at.chars ++ replicate 1 61 = rw (← plain) refl in
    let allowed : nat_le 2 (length ps) ≡ true = le-leb 2 (length ps) some in
    elim (cases_Bool (length ps + 1 == 4)) [
      | inl last ↦
          let three : length ps + 1 ≡ 4 = eqb-true (length ps + 1) 4 last in
          let group = length-whole 6 ps in
          let sum : length text * 6 / 8 ≡ length os + length (whole 6 ps) = omega arith in
          rw (allowed, last) (record {
            cause_is = λ limit le. mark_three limit text (at.front ++ ps) text_valued (omega arith) ∙ sym (or_else_none _ ∙ ap (short_buf_if limit) (sym sum));
            goes_on = λ e. record {
              chars = at.chars;
              front = at.front ++ ps;
              count = 1;
              spelled = one;
              valued = rw append-nil at.valued;
              made = closed_octets base64 known os at.front ps at.chars at.made closed at.valued;
              counts = (refl, refl, omega arith, omega arith, omega (arith, length-append at.front ps));
            };
          })
      | inr more ↦
          let other : length ps + 1 ≡ 4 → ⊥ = eqb-false (length ps + 1) 4 more in
          rw (allowed, more) (record {
            cause_is = λ limit le. mark_two limit text (at.front ++ ps) text_valued (omega arith) ∙ sym (or_else_none _ ∙ want_enough limit (length os + 0) (omega arith));
            goes_on = λ e. record {
              chars = at.chars;
              front = at.front;
              count = 1;
              spelled = one;
              valued = at.valued;
              made = append-nil os ∙ at.made;
              counts = (refl, refl, omega arith, closed);
            };
          })
    ]

mark_of : (b : Base) → b ≡ base64 → (text os ps : List ℕ) (c : ℕ) → c ≡ 61 → 2 ≤ length ps → IsRead b text os ps Absent → Stepped b text os c (step_other b ps c)
mark_of b same = rw same (λ text os ps c is some. rw is (mark text os ps some))

other : (b : Base) → IsEncoding b → (text os ps : List ℕ) (c : ℕ) → value b c ≡ None → IsRead b text os ps Absent → Stepped b text os c (step_other b ps c)
other b known text os ps c is at =
    let n = numbers b known in
    let plain = plain_text b text os ps at in
    let len : length text ≡ length at.front + length ps = ap length plain ∙ (lengths b text os ps Absent at).chars_are in
    let place = n.place (length text) (length at.front) (length ps) len at.counts.2 at.counts.1 in
    elim (cases_Bool ((c == 61) && (nat_lt 1 b.unit && nat_le 2 (length ps)))) [
      | inl hit ↦
          let parts = and_parts (c == 61) (nat_lt 1 b.unit && nat_le 2 (length ps)) hit in
          let places = and_parts (nat_lt 1 b.unit) (nat_le 2 (length ps)) parts.1 in
          elim (kinds b known) [
            | inl plain ↦ let bad : true ≡ false = sym places.0 ∙ plain.unpadded in cc bad
            | inr same ↦ mark_of b same text os ps c (eqb-true c 61 parts.0) (leb-true 2 (length ps) places.1) at
          ]
      | inr miss ↦ rw miss (at_once b text os c _ (IllegalChar c) refl refl (λ limit. illegal b known limit text (at.front ++ ps) c (rw (← plain) at at.valued) is (rw place miss)))
    ]

-- after `xx=`
after_one : (text os ps : List ℕ) (c : ℕ) (o : Option ℕ) → value base64 c ≡ o → IsRead base64 text os ps One → Stepped base64 text os c (step_after_one base64 ps c o)
after_one text os ps c o is at = by o is
  where
    one : pad_count base64 text ≡ 1
    one = marked base64 (inr (inr refl)) text os ps One at ∙ at.counts.1

    place : length text % 4 ≡ 3
    place = omega (arith, (lengths base64 text os ps One at).text_is, at.counts.1, at.counts.2, at.counts.3)

    sum : length os + length (whole 6 ps) ≡ octet_count base64 text
    sum = sym (due_is base64 (inr (inr refl)) text os ps One at)

    by : (o : Option ℕ) → value base64 c ≡ o → Stepped base64 text os c (step_after_one base64 ps c o)
    by (Some v) is = record { cause_is = λ limit le. mark_one limit c text (Some v) is one place ∙ rw sum refl; goes_on = λ bad. cc bad }
    by None is = elim (cases_Bool (c == 61)) [
      | inl mark ↦
          let equals : c ≡ 61 = eqb-true c 61 mark in
          let single = at.counts.1 in
          let spelled : text ≡ at.chars ++ 61 ∷ [] = rw single at at.spelled in
          rw mark (record {
            cause_is = λ limit le. mark_one limit c text None is one place ∙ rw (mark, sum) (sym (or_else_none _));
            goes_on = λ e. record {
              chars = at.chars;
              front = at.front ++ ps;
              count = 2;
              spelled = rw (spelled, equals, append_assoc) refl;
              valued = rw append-nil at.valued;
              made = closed_octets base64 (inr (inr refl)) os at.front ps at.chars at.made at.counts.3 at.valued;
              counts = (refl, refl, omega arith, omega arith, omega (arith, length-append at.front ps, at.counts.2, at.counts.3));
            };
          })
      | inr other ↦ rw other (at_once base64 text os c _ (IllegalChar c) refl refl (λ limit. mark_one limit c text None is one place ∙ rw other refl))
    ]

done : (text os ps : List ℕ) (c : ℕ) → IsRead base64 text os ps Complete → Stepped base64 text os c (step_from base64 ps Complete c (value base64 c))
done text os ps c at =
    let long = (lengths base64 text os ps Complete at).text_is in
    let none = at.counts.1 in
    let some = at.counts.2 in
    let all = at.counts.4 in
    let count : pad_count base64 text ≡ suc (at.count - 1) = marked base64 (inr (inr refl)) text os ps Complete at ∙ omega arith in
    at_once base64 text os c _ TrailingInput refl refl (λ limit. mark_complete limit c text (at.count - 1) count (omega arith))

padded : (b : Base) → b ≡ base64 → (text os ps : List ℕ) (p : Padding) (c : ℕ) → (p ≡ One) ⊎ (p ≡ Complete) → IsRead b text os ps p → Stepped b text os c (step_from b ps p c (value b c))
padded b same = rw same (λ text os ps p c which. elim which [ inl is ↦ rw is (after_one text os ps c (value base64 c) refl) | inr is ↦ rw is (done text os ps c) ])

pub stepped : (b : Base) → IsEncoding b → (text os ps : List ℕ) (p : Padding) (c : ℕ) → IsRead b text os ps p → Stepped b text os c (step_from b ps p c (value b c))
stepped b known text os ps Absent c at = elim (cases_value (value b c)) [
  | inl none ↦ rw none (other b known text os ps c none at)
  | inr some ↦ rw some.1 (digit b known text os ps c some.0 some.1 at)
]
stepped b known text os ps One c at = padded b at.counts.0 text os ps One c (inl refl) at
stepped b known text os ps Complete c at = padded b at.counts.0 text os ps Complete c (inr refl) at
