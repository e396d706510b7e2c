-- The end of a text that is read, and texts of the grammar.
use Rattle.std.proofs.Common.{◌≡◌, ℕ, ◌+◌, ◌-◌, ◌%◌, ◌==◌, ◌≤◌, Bool, true, false, List, [], ◌++◌, length, take, drop, refl, sym, ap, ◌∙◌, arith, Option, Some, inl, inr, append-nil}
use Rattle.std.specs.Prelude.{if◌then◌else◌}
use Rattle.std.specs.List.{list_any}
use Rattle.std.proofs.lemmas.Bool.{cases_Bool, eqb-true, eqb-false, eq-eqb, ne_eqb}
use Rattle.std.proofs.lemmas.List.{length-take-le, length-drop, take-append-drop, nil_from_length}
use Rattle.dns_codec.specs.Bits.{whole}
use Rattle.dns_codec.specs.Base.{Base, base64, IsEncoding}
use Rattle.dns_codec.specs.Errors.{or_else}
use Rattle.dns_codec.specs.Grammar.{HaveValues, Decodes, may_end_after}
use Rattle.dns_codec.specs.Group.{may_end_in}
use Rattle.dns_codec.specs.Outcome.{short_buf_if, octet_count, may_stop, text_end_error, refusal}
use Rattle.dns_codec.specs.declared.error.DecodeError.{DecodeError}
use Rattle.dns_codec.specs.declared.error.DecodeError.TheVariants.{ShortInput}
use Rattle.dns_codec.specs.declared.base64.Padding.{Padding}
use Rattle.dns_codec.specs.declared.base64.Padding.TheVariants.{Absent, One, Complete}
use Rattle.dns_codec.proofs.Numbers.{IsPlain, numbers, kinds}
use Rattle.dns_codec.proofs.RoundTrip.{last64}
use Rattle.dns_codec.proofs.Steps.{CountsOf, IsRead, lengths, plain_text, due_is, no_cause, closed_octets}
use Rattle.dns_codec.proofs.Wholes.{whole-nil, HaveValues-length}

-- the error of the text at its end, and its value without an error
pub record Ended (b : Base) (text octets digits : List ℕ) (padding : Padding) : Type 0 where
  pub refusal_is : (limit : ℕ) → length octets ≤ limit
      → refusal b limit text ≡ (if may_end_in b digits padding then short_buf_if limit (length octets + length (whole b.width digits)) else Some ShortInput)
  pub decodes : may_end_in b digits padding ≡ true → Decodes b text (octets ++ whole b.width digits)

pub where_it_ends : (ends : Bool) (x : Option DecodeError) → ends ≡ true → (if ends then x else Some ShortInput) ≡ x
where_it_ends ends x is = rw is refl

-- whether the text may end there, and its value if so
record Stop (b : Base) (text octets digits : List ℕ) (padding : Padding) : Type 0 where
  same : may_stop b (length text) ≡ may_end_in b digits padding
  decodes : may_end_in b digits padding ≡ true → Decodes b text (octets ++ whole b.width digits)

stop_plain : (b : Base) → IsEncoding b → IsPlain b → (text os ps : List ℕ) → IsRead b text os ps Absent → Stop b text os ps Absent
stop_plain b known plain text os ps at =
    let n = numbers b known in
    let all = plain_text b text os ps at in
    let len : length text ≡ length at.front + length ps = ap length all ∙ (lengths b text os ps Absent at).chars_are in
    let few = at.counts.1 in
    let place = n.place (length text) (length at.front) (length ps) len at.counts.2 few in
    let same : length ps % b.group ≡ length text % b.group = n.place (length ps) 0 (length ps) (omega arith) n.none few ∙ sym place in
    let ends_same : may_end_after b (length ps) ≡ may_end_after b (length text) = ap (λ m. list_any (λ r. r == m) b.lasts) same in
    record {
      same = rw plain.unpadded (sym ends_same);
      decodes = λ ends. record {
        chars = text;
        digits = at.front ++ ps;
        valued = rw (← all) at at.valued;
        count = sym ends_same ∙ rw plain.unpadded at ends;
        spelled = rw (plain.no_marks (length text)) (sym (append-nil text));
        value_is = closed_octets b known os at.front ps at.chars at.made at.counts.2 at.valued;
      };
    }

-- ---- base 64

whole_groups : (ps : List ℕ) (m f n : ℕ) (p : Padding) → CountsOf base64 p (length ps) m f → n ≡ f + length ps + m → (n % 4 == 0) ≡ may_end_in base64 ps p
whole_groups ps m f n One c is = let one = c.1 in let two = c.2 in let four = c.3 in ne_eqb (n % 4) 0 (omega arith)
whole_groups ps m f n Absent c is = let zero = c.0 in let few = c.1 in let four = c.2 in elim (cases_Bool (length ps == 0)) [
  | inl none ↦ let e : length ps ≡ 0 = eqb-true (length ps) 0 none in rw none (eq-eqb (n % 4) 0 (omega arith))
  | inr some ↦ let d : length ps ≡ 0 → ⊥ = eqb-false (length ps) 0 some in rw some (ne_eqb (n % 4) 0 (omega arith))
]
whole_groups ps m f n Complete c is = let none = c.1 in let all = c.4 in rw (eq-eqb (length ps) 0 none) (eq-eqb (n % 4) 0 (omega arith))

closing : (ps : List ℕ) (m f : ℕ) (p : Padding) → CountsOf base64 p (length ps) m f → may_end_in base64 ps p ≡ true → (length ps ≡ 0) × (f % 4 ≡ 1 → ⊥) × ((4 - f % 4) % 4 ≡ m)
closing ps m f One c ends = cc ends
closing ps m f Absent c ends = let zero = c.0 in let four = c.2 in (eqb-true (length ps) 0 ends, λ one. omega arith, omega arith)
closing ps m f Complete c ends = let some = c.2 in let few = c.3 in let all = c.4 in (c.1, λ one. omega arith, omega arith)

stop64 : (text os ps : List ℕ) (p : Padding) → IsRead base64 text os ps p → Stop base64 text os ps p
stop64 text os ps p at =
    let n = lengths base64 text os ps p at in
    record {
      same = whole_groups ps at.count (length at.front) (length text) p at.counts n.text_is;
      decodes = λ ends.
          let k = closing ps at.count (length at.front) p at.counts ends in
          let empty : ps ≡ [] = nil_from_length ps k.0 in
          let long : length at.chars ≡ length at.front = omega (arith, n.chars_are, k.0) in
          record {
            chars = at.chars;
            digits = at.front;
            valued = rw (empty, append-nil) at at.valued;
            count = last64 (length at.chars % 4) (omega arith) (rw long k.1);
            spelled = rw (long, k.2) at.spelled;
            value_is = rw (empty, whole-nil, append-nil) at.made;
          };
    }

stop_padded : (b : Base) → b ≡ base64 → (text os ps : List ℕ) (p : Padding) → IsRead b text os ps p → Stop b text os ps p
stop_padded b same = rw same stop64

stop : (b : Base) → IsEncoding b → (text os ps : List ℕ) (p : Padding) → IsRead b text os ps p → Stop b text os ps p
stop b known text os ps Absent at = elim (kinds b known) [ inl plain ↦ stop_plain b known plain text os ps at | inr same ↦ stop_padded b same text os ps Absent at ]
stop b known text os ps One at = stop_padded b at.counts.0 text os ps One at
stop b known text os ps Complete at = stop_padded b at.counts.0 text os ps Complete at

pub ended : (b : Base) → IsEncoding b → (text os ps : List ℕ) (p : Padding) → IsRead b text os ps p → Ended b text os ps p
ended b known text os ps p at =
    let s = stop b known text os ps p at in
    record {
      refusal_is = λ limit le.
          ap (λ (x : Option DecodeError). or_else x (text_end_error b limit text)) (no_cause b known text os ps p at limit le)
          ∙ ap (λ (x : Bool). if x then short_buf_if limit (octet_count b text) else Some ShortInput) s.same
          ∙ ap (λ n. if may_end_in b ps p then short_buf_if limit n else Some ShortInput) (due_is b known text os ps p at);
      decodes = s.decodes;
    }

-- ---- texts of the grammar are read

pub record ReadOf (b : Base) (text octets : List ℕ) : Type 0 where
  pub made : List ℕ
  pub digits : List ℕ
  pub padding : Padding
  pub read : IsRead b text made digits padding
  pub ends : may_end_in b digits padding ≡ true
  pub value_is : octets ≡ made ++ whole b.width digits

read_plain : (b : Base) → IsEncoding b → IsPlain b → (text octets : List ℕ) → Decodes b text octets → ReadOf b text octets
read_plain b known plain text octets d =
    let n = numbers b known in
    let len = HaveValues-length b d.chars d.digits d.valued in
    let count : ℕ = length d.digits in
    let m : ℕ = count - count % b.group in
    let rest = n.rest count in
    let front : length (take m d.digits) ≡ m = length-take-le m d.digits (omega arith) in
    let back : length (drop m d.digits) ≡ count % b.group = length-drop m d.digits ∙ omega (arith, rest.1) in
    let parts : take m d.digits ++ drop m d.digits ≡ d.digits = take-append-drop m d.digits in
    let closed : length (take m d.digits) % b.group ≡ 0 = rw front rest.0 in
    let same : length (drop m d.digits) % b.group ≡ length d.chars % b.group =
    n.place (length (drop m d.digits)) 0 (length (drop m d.digits)) (omega arith) n.none (rw back rest.2) ∙ back ∙ ap (λ k. k % b.group) (sym len) in
    let valued : HaveValues b d.chars (take m d.digits ++ drop m d.digits) = rw parts d.valued in
    record {
      made = whole b.width (take m d.digits);
      digits = drop m d.digits;
      padding = Absent;
      read = record {
        chars = d.chars;
        front = take m d.digits;
        count = 0;
        spelled = d.spelled ∙ rw (plain.no_marks (length d.chars)) refl;
        valued = valued;
        made = refl;
        counts = (refl, rw back rest.2, closed);
      };
      ends = rw plain.unpadded (ap (λ k. list_any (λ r. r == k) b.lasts) same ∙ d.count);
      value_is = d.value_is ∙ ap (whole b.width) (sym parts) ∙ sym (closed_octets b known _ (take m d.digits) (drop m d.digits) d.chars refl closed valued);
    }

read64 : (text octets : List ℕ) → Decodes base64 text octets → ReadOf base64 text octets
read64 text octets d =
    let len = HaveValues-length base64 d.chars d.digits d.valued in
    let valued : HaveValues base64 d.chars (d.digits ++ []) = rw append-nil d.valued in
    let value : octets ≡ whole 6 d.digits ++ whole 6 [] = d.value_is ∙ rw (whole-nil, append-nil) refl in
    elim (cases_Bool (length d.chars % 4 == 0)) [
      | inl closed ↦
          let zero : length d.chars % 4 ≡ 0 = eqb-true (length d.chars % 4) 0 closed in
          let four : length d.digits % 4 ≡ 0 = omega arith in
          record {
            made = whole 6 d.digits;
            digits = [];
            padding = Absent;
            read = record { chars = d.chars; front = d.digits; count = 0; spelled = rw zero at d.spelled; valued = valued; made = refl; counts = (refl, omega arith, four) };
            ends = refl;
            value_is = value;
          }
      | inr more ↦
          let some : length d.chars % 4 ≡ 0 → ⊥ = eqb-false (length d.chars % 4) 0 more in
          let two : length d.chars % 4 ≡ 1 → ⊥ = λ one. let bad : false ≡ true = rw one at d.count in cc bad in
          record {
            made = whole 6 d.digits;
            digits = [];
            padding = Complete;
            read = record {
              chars = d.chars;
              front = d.digits;
              count = (4 - length d.chars % 4) % 4;
              spelled = d.spelled;
              valued = valued;
              made = refl;
              counts = (refl, refl, omega arith, omega arith, omega arith);
            };
            ends = refl;
            value_is = value;
          }
    ]

read_padded : (b : Base) → b ≡ base64 → (text octets : List ℕ) → Decodes b text octets → ReadOf b text octets
read_padded b same = rw same read64

pub read_of : (b : Base) → IsEncoding b → (text octets : List ℕ) → Decodes b text octets → ReadOf b text octets
read_of b known text octets d = elim (kinds b known) [ inl plain ↦ read_plain b known plain text octets d | inr same ↦ read_padded b same text octets d ]
