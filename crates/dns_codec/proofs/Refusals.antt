-- The error of a text, and the grammar.
use Rattle.std.proofs.Common.{◌≡◌, ℕ, ◌+◌, ◌≤◌, nat_lt, Bool, true, false, List, [], ◌∷◌, ◌++◌, length, refl, sym, ap, ◌∙◌, arith, Option, Some, None, inl, inr, append_assoc, append-nil}
use Rattle.std.proofs.Common.{length-append}
use Rattle.std.specs.Prelude.{if◌then◌else◌}
use Rattle.std.proofs.lemmas.Bool.{cases_Bool, ltb-false}
use Rattle.dns_codec.specs.Bits.{whole}
use Rattle.dns_codec.specs.Base.{Base, base16, base32hex, value, IsEncoding}
use Rattle.dns_codec.specs.Errors.{or_else}
use Rattle.dns_codec.specs.Grammar.{HaveValues, Decodes, may_end_after}
use Rattle.dns_codec.specs.Group.{CharacterStep, step_from, may_end_in}
use Rattle.dns_codec.specs.Outcome.{short_buf_if, char_error, legal_count, stored, refusal, pushed_refusal}
use Rattle.dns_codec.specs.declared.error.DecodeError.{DecodeError}
use Rattle.dns_codec.specs.declared.error.DecodeError.TheVariants.{ShortInput, ShortBuf}
use Rattle.dns_codec.specs.declared.base64.Padding.{Padding}
use Rattle.dns_codec.specs.declared.base64.Padding.TheVariants.{Absent}
use Rattle.dns_codec.proofs.Causes.{cases_error, or_else_none, want_enough, first_here}
use Rattle.dns_codec.proofs.Ends.{where_it_ends, ended, read_of}
use Rattle.dns_codec.proofs.Marks.{refusal_first}
use Rattle.dns_codec.proofs.Numbers.{IsPlain, plain16, plain32}
use Rattle.dns_codec.proofs.Pushed.{all_legal, legal_stored, same_refusal}
use Rattle.dns_codec.proofs.Steps.{IsRead, read_none, no_cause, stepped}

-- a text of the grammar isn't rejected if its octets fit
pub reads : (b : Base) → IsEncoding b → (text octets : List ℕ) (limit : ℕ) → Decodes b text octets → length octets ≤ limit → (refusal b limit text ≡ None) × (pushed_refusal b limit text ≡ None)
reads b known text octets limit d le =
    let r = read_of b known text octets d in
    let sum : length r.made + length (whole b.width r.digits) ≡ length octets = sym (ap length r.value_is ∙ length-append r.made (whole b.width r.digits)) in
    let fits : length r.made ≤ limit = omega arith in
    let is : refusal b limit text ≡ None =
    (ended b known text r.made r.digits r.padding r.read).refusal_is limit fits ∙ where_it_ends _ _ r.ends ∙ want_enough limit _ (rw sum le) in
    (is, same_refusal b known text r.made r.digits r.padding r.read limit fits ∙ is)

-- ---- and only such a text isn't

both_none : (x y : Option DecodeError) → or_else x y ≡ None → (x ≡ None) × (y ≡ None)
both_none None y e = (refl, e)
both_none (Some x) y e = cc

want_fits : (limit n : ℕ) → short_buf_if limit n ≡ None → n ≤ limit
want_fits limit n e = elim (cases_Bool (nat_lt limit n)) [
  | inl short ↦ let bad : Some ShortBuf ≡ None = rw short at e in cc bad
  | inr long ↦ ltb-false limit n long
]

not_short : (limit n : ℕ) (ends : Bool) → (if ends then short_buf_if limit n else Some ShortInput) ≡ None → (ends ≡ true) × (n ≤ limit)
not_short limit n true e = (refl, want_fits limit n e)
not_short limit n false e = cc e

module _ (b : Base) (known : IsEncoding b) (limit : ℕ) where
  -- what isn't rejected has no cause at the next character
  unrefused_next : (text os ps rest : List ℕ) (p : Padding) (c : ℕ) → IsRead b text os ps p → length os ≤ limit → refusal b limit (text ++ c ∷ rest) ≡ None → char_error b limit text c ≡ None
  unrefused_next text os ps rest p c at le e = elim (cases_error (char_error b limit text c)) [
    | inl none ↦ none
    | inr some ↦
        let bad : Some some.0 ≡ None = sym (refusal_first b limit (text ++ c ∷ rest) some.0
        (first_here (char_error b limit) text rest c some.0 (no_cause b known text os ps p at limit le) some.1)) ∙ e in
        cc bad
  ]

  unrefused_from : (text cs os ps : List ℕ) (p : Padding) → IsRead b text os ps p → length os ≤ limit → refusal b limit (text ++ cs) ≡ None
      → (octets : List ℕ) × Decodes b (text ++ cs) octets × (length octets ≤ limit)
  unrefused_from text [] os ps p at le e =
      let all : text ++ [] ≡ text = append-nil text in
      let n = ended b known text os ps p at in
      let k = not_short limit _ (may_end_in b ps p) (sym (n.refusal_is limit le) ∙ rw all at e) in
      (os ++ whole b.width ps, rw all (n.decodes k.0), rw length-append k.1)
  unrefused_from text (c ∷ cs) os ps p at le e =
      let s : CharacterStep = step_from b ps p c (value b c) in
      let next = stepped b known text os ps p c at in
      let both = both_none (short_buf_if limit (length os + length s.octets)) s.error (sym (next.cause_is limit le) ∙ unrefused_next text os ps cs p c at le e) in
      rw append_assoc at (unrefused_from (text ++ c ∷ []) cs (os ++ s.octets) s.group.digits s.group.padding (next.goes_on both.1) (rw length-append (want_fits limit _ both.0)) (rw append_assoc e))

pub unrefused : (b : Base) → IsEncoding b → (text : List ℕ) (limit : ℕ) → refusal b limit text ≡ None → (octets : List ℕ) × Decodes b text octets × (length octets ≤ limit)
unrefused b known text limit e = unrefused_from b known limit [] text [] [] Absent (read_none b known) (omega arith) e

-- ---- if the capacity is too small, a text of the grammar fails only with `ShortBuf`

want_is : (limit n : ℕ) (e : DecodeError) → short_buf_if limit n ≡ Some e → e ≡ ShortBuf
want_is limit n e is = elim (cases_Bool (nat_lt limit n)) [
  | inl short ↦ let same : Some ShortBuf ≡ Some e = rw short at is in cc same
  | inr long ↦ let bad : None ≡ Some e = rw long at is in cc bad
]

module _ (b : Base) (known : IsEncoding b) (limit wide : ℕ) (e : DecodeError) where
  wants_from : (text cs os ps : List ℕ) (p : Padding) → IsRead b text os ps p → length os ≤ limit → length os ≤ wide → refusal b wide (text ++ cs) ≡ None
      → refusal b limit (text ++ cs) ≡ Some e → e ≡ ShortBuf
  wants_from text [] os ps p at le wider none is =
      let all : text ++ [] ≡ text = append-nil text in
      let n = ended b known text os ps p at in
      let k = not_short wide _ (may_end_in b ps p) (sym (n.refusal_is wide wider) ∙ rw all at none) in
      want_is limit _ e (rw k.0 at (sym (n.refusal_is limit le) ∙ rw all at is))
  wants_from text (c ∷ cs) os ps p at le wider none is =
      let s : CharacterStep = step_from b ps p c (value b c) in
      let next = stepped b known text os ps p c at in
      let both = both_none (short_buf_if wide (length os + length s.octets)) s.error (sym (next.cause_is wide wider) ∙ unrefused_next b known wide text os ps cs p c at wider none) in
      let here : char_error b limit text c ≡ short_buf_if limit (length os + length s.octets) =
      next.cause_is limit le ∙ ap (or_else (short_buf_if limit (length os + length s.octets))) both.1 ∙ or_else_none _ in
      elim (cases_error (short_buf_if limit (length os + length s.octets))) [
        | inl fits ↦ wants_from (text ++ c ∷ []) cs (os ++ s.octets) s.group.digits s.group.padding (next.goes_on both.1)
            (rw length-append (want_fits limit _ fits)) (rw length-append (want_fits wide _ both.0)) (rw append_assoc none) (rw append_assoc is)
        | inr short ↦
            let first = first_here (char_error b limit) text cs c short.0 (no_cause b known text os ps p at limit le) (here ∙ short.1) in
            let same : Some short.0 ≡ Some e = sym (refusal_first b limit (text ++ c ∷ cs) short.0 first) ∙ is in
            let equals : short.0 ≡ e = cc same in
            sym equals ∙ want_is limit _ short.0 short.1
      ]

-- in base 16 and base32hex, a text of the grammar has characters of the alphabet that make whole octets
decodes_valued : (b : Base) → IsPlain b → (text octets : List ℕ) → Decodes b text octets → (ps : List ℕ) × HaveValues b text ps × (may_end_after b (length text) ≡ true)
decodes_valued b plain text octets d =
    let all : text ≡ d.chars = d.spelled ∙ rw (plain.no_marks (length d.chars)) (append-nil d.chars) in
    (d.digits, rw all d.valued, rw all d.count)

pushed_wants16 : (text octets : List ℕ) (limit : ℕ) (e : DecodeError) → Decodes base16 text octets → pushed_refusal base16 limit text ≡ Some e → e ≡ ShortBuf
pushed_wants16 text octets limit e d is =
    let n = decodes_valued base16 plain16 text octets d in
    let ends : may_end_after base16 (legal_count base16 text) ≡ true = rw (all_legal base16 (inl refl) plain16 text n.0 n.1) n.2 in
    want_is limit _ e (sym (legal_stored base16 (inl refl) plain16 limit text n.0 n.1) ∙ rw ends at is)

pushed_wants32 : (text octets : List ℕ) (limit : ℕ) (e : DecodeError) → Decodes base32hex text octets → pushed_refusal base32hex limit text ≡ Some e → e ≡ ShortBuf
pushed_wants32 text octets limit e d is =
    let n = decodes_valued base32hex plain32 text octets d in
    elim (cases_error (stored base32hex limit text)) [
      | inl enough ↦ want_is limit _ e (rw (enough, n.2) at is)
      | inr some ↦
          let same : Some some.0 ≡ Some e = rw some.1 at is in
          let equals : some.0 ≡ e = cc same in
          sym equals ∙ want_is limit _ some.0 (sym (legal_stored base32hex (inr (inl refl)) plain32 limit text n.0 n.1) ∙ some.1)
    ]

pushed_wants : (b : Base) → IsEncoding b → (text octets : List ℕ) (limit : ℕ) (e : DecodeError) → Decodes b text octets → (refusal b limit text ≡ Some e → e ≡ ShortBuf)
    → pushed_refusal b limit text ≡ Some e → e ≡ ShortBuf
pushed_wants b (inl is) = rw is (λ text octets limit e d only. pushed_wants16 text octets limit e d)
pushed_wants b (inr (inl is)) = rw is (λ text octets limit e d only. pushed_wants32 text octets limit e d)
pushed_wants b (inr (inr is)) = rw is (λ text octets limit e d only. only)

pub wants : (b : Base) → IsEncoding b → (text octets : List ℕ) (limit : ℕ) (e : DecodeError) → Decodes b text octets
    → (refusal b limit text ≡ Some e → e ≡ ShortBuf) × (pushed_refusal b limit text ≡ Some e → e ≡ ShortBuf)
wants b known text octets limit e d =
    let wide : ℕ = length octets in
    let read = reads b known text octets wide d (omega arith) in
    let only = wants_from b known limit wide e [] text [] [] Absent (read_none b known) (omega arith) (omega arith) read.0 in
    (only, pushed_wants b known text octets limit e d only)
