-- Texts that are read by a decoder of any encoding, push by push, up to the first error.
use Rattle.std.proofs.Common.{◌≡◌, ℕ, ◌+◌, ◌≤◌, ◌⊎◌, max, Bool, true, false, List, [], ◌∷◌, ◌++◌, length, refl, sym, ap, subst, ◌∙◌, arith, Option, Some, None, Result, Ok, Err, inl, inr}
use Rattle.std.proofs.Common.{append-nil, length-append}
use Rattle.std.specs.Prelude.{if◌then◌else◌}
use Rattle.std.proofs.lemmas.List.{nil_from_length}
use Rattle.std.proofs.Math.Nat.{le-max_left}
use Rattle.dns_octets.specs.Room.{Room}
use Rattle.dns_codec.specs.Bits.{whole}
use Rattle.dns_codec.specs.Base.{Base, IsEncoding}
use Rattle.dns_codec.specs.Grammar.{Decodes}
use Rattle.dns_codec.specs.Errors.{answer, or_else}
use Rattle.dns_codec.specs.Front.{ReadsWholeGroups}
use Rattle.dns_codec.specs.Group.{Group, CharacterStep, character_step, is_complete}
use Rattle.dns_codec.specs.Decoding.{DecoderState, IsNew, AppliesStep, PushesAfter, Pushes, short, Ends}
use Rattle.dns_codec.specs.Outcome.{char_error, refusal, Outcome, IsRefusedBy}
use Rattle.dns_codec.specs.Limit.{IsLimit}
use Rattle.dns_codec.specs.declared.error.DecodeError.{DecodeError}
use Rattle.dns_codec.specs.declared.error.DecodeError.TheVariants.{ShortInput, ShortBuf}
use Rattle.dns_codec.proofs.Appending.{appends_cases}
use Rattle.dns_codec.proofs.Causes.{cases_error, or_else_none, want_enough, want_short, first_here}
use Rattle.dns_codec.proofs.Ends.{where_it_ends, ended}
use Rattle.dns_codec.proofs.Fronts.{held_within, whole_none}
use Rattle.dns_codec.proofs.Marks.{refusal_first}
use Rattle.dns_codec.proofs.Numbers.{numbers}
use Rattle.dns_codec.proofs.Reading.{Decoded}
use Rattle.dns_codec.proofs.Steps.{IsRead, no_cause, stepped}
use Rattle.dns_codec.proofs.Wholes.{HaveValues-length}

-- the state of a decoder after a text, if no error is stored
pub record Stands (b : Base) (room : Room) (text : List ℕ) (d : DecoderState) : Type 0 where
  pub quiet : d.error ≡ None
  pub held : length d.octets ≤ max room.fits room.capacity
  pub read : IsRead b text d.octets d.group.digits d.group.padding

-- the state after a character that was rejected
pub record Refuses (b : Base) (room : Room) (text : List ℕ) (c : ℕ) (d j : DecoderState) : Type 0 where
  pub error : DecodeError
  pub stored_is : j.error ≡ Some error
  pub limit : ℕ
  pub is_limit : IsLimit room limit
  pub holds : length d.octets ≤ limit
  pub cause_is : char_error b limit text c ≡ Some error

pub any_limit : (room : Room) → IsLimit room (max room.fits room.capacity)
any_limit room = let left = le-max_left room.fits room.capacity in record { surely = left; within = omega arith }

-- ---- one character

pub one_push : (b : Base) → IsEncoding b → (room : Room) (text : List ℕ) (d : DecoderState) (c : ℕ) (j : DecoderState) → Stands b room text d → Pushes b room d c j
    → Stands b room (text ++ c ∷ []) j ⊎ Refuses b room text c d j
one_push b known room text d c j at push =
    let s : CharacterStep = character_step b d.group c in
    let t : AppliesStep room d.octets s j = subst (λ (x : Option DecodeError). PushesAfter b room x d c j) at.quiet push in
    let next = stepped b known text d.octets d.group.digits d.group.padding c at.read in
    elim (appends_cases room s.octets d.octets j.octets s.error j.error t.appends at.held) [
      | inl all ↦ elim (cases_error s.error) [
        | inl none ↦ inl (record {
          quiet = all.0 ∙ none;
          held = all.2;
          read = subst (λ (g : Group). IsRead b (text ++ c ∷ []) j.octets g.digits g.padding) (sym t.group)
              (subst (λ (os : List ℕ). IsRead b (text ++ c ∷ []) os s.group.digits s.group.padding) (sym all.1) (next.goes_on none));
        })
        | inr some ↦ let sum = ap length all.1 ∙ length-append d.octets s.octets in inr (record {
          error = some.0;
          stored_is = all.0 ∙ some.1;
          limit = max room.fits room.capacity;
          is_limit = any_limit room;
          holds = at.held;
          cause_is = next.cause_is (max room.fits room.capacity) at.held
              ∙ ap (λ (x : Option DecodeError). or_else x s.error) (want_enough (max room.fits room.capacity) _ (omega (arith, all.2, sum))) ∙ some.1;
        })
      ]
      | inr no_room ↦ inr (record {
        error = ShortBuf;
        stored_is = no_room.0;
        limit = length j.octets;
        is_limit = no_room.3;
        holds = no_room.1;
        cause_is = next.cause_is (length j.octets) no_room.1 ∙ ap (λ (x : Option DecodeError). or_else x s.error) (want_short (length j.octets) _ no_room.2);
      })
    ]

-- ---- the end

ends_by : (first : Bool) (s e : Option DecodeError) → e ≡ None → (if first then or_else s e else or_else e s) ≡ s
ends_by true s e none = rw none (or_else_none s)
ends_by false s e none = rw none refl

no_short : (ends : Bool) → (if ends then None else Some ShortInput) ≡ None → ends ≡ true
no_short true is = refl
no_short false is = cc is

some_short : (ends : Bool) (e : DecodeError) (other : Option DecodeError) → (if ends then None else Some ShortInput) ≡ Some e → (if ends then other else Some ShortInput) ≡ Some e
some_short true e other is = cc is
some_short false e other is = is

-- for some room, the result is the text's
pub decoded : (b : Base) → IsEncoding b → (room : Room) (text : List ℕ) (d : DecoderState) (r : Result (List ℕ) DecodeError) → Stands b room text d → Ends b room d r
    → (limit : ℕ) × IsLimit room limit × (length d.octets ≤ limit) × Outcome b text (refusal b limit text) r
decoded b known room text d (Ok octets) at end =
    let e = ended b known text d.octets d.group.digits d.group.padding at.read in
    let ends = no_short (is_complete b d.group) (sym (ends_by b.ends_first (short b d.group) d.error at.quiet) ∙ end.0) in
    elim (appends_cases room (whole b.width d.group.digits) d.octets octets None None end.1 at.held) [
      | inr no_room ↦ let bad = no_room.0 in cc bad
      | inl all ↦
          let limit : ℕ = max room.fits room.capacity in
          let fits : length d.octets + length (whole b.width d.group.digits) ≤ limit = omega (arith, all.2, ap length all.1, length-append d.octets (whole b.width d.group.digits)) in
          (limit, any_limit room, at.held, (e.refusal_is limit at.held ∙ where_it_ends _ _ ends ∙ want_enough limit _ fits, subst (Decodes b text) (sym all.1) (e.decodes ends)))
    ]
decoded b known room text d (Err f) at (inl end) =
    let e = ended b known text d.octets d.group.digits d.group.padding at.read in
    let limit : ℕ = max room.fits room.capacity in
    (limit, any_limit room, at.held, e.refusal_is limit at.held ∙ some_short (is_complete b d.group) f _ (sym (ends_by b.ends_first (short b d.group) d.error at.quiet) ∙ end))
decoded b known room text d (Err f) at (inr end) =
    let e = ended b known text d.octets d.group.digits d.group.padding at.read in
    let ends = no_short (is_complete b d.group) (sym (ends_by b.ends_first (short b d.group) d.error at.quiet) ∙ end.0) in
    elim (appends_cases room (whole b.width d.group.digits) d.octets end.1.0 None (Some f) end.1.1 at.held) [
      | inl all ↦ let bad = all.0 in cc bad
      | inr no_room ↦
          let limit : ℕ = length end.1.0 in
          (limit, no_room.3, no_room.1, e.refusal_is limit no_room.1 ∙ where_it_ends _ _ ends ∙ want_short limit _ no_room.2 ∙ sym no_room.0)
    ]

-- ---- what `decode` asks

-- after characters that were read at once
pub starts : (b : Base) → IsEncoding b → (room : Room) (text rest new : List ℕ) (d : DecoderState) → IsNew d → (at : ReadsWholeGroups b room text d.octets rest new)
    → Stands b room (at.front ++ []) (record { octets = new; group = d.group; error = d.error })
starts b known room text rest new d is at =
    let len : length at.digits ≡ length at.front = sym (HaveValues-length b at.front at.digits at.valued) in
    let made : new ≡ whole b.width at.digits = at.appended ∙ rw is.0 refl in
    record {
      quiet = is.2;
      held = held_within room (length at.front) new at.held (λ none. ap length (made ∙ ap (whole b.width) (nil_from_length at.digits (len ∙ none))) ∙ whole_none b.width);
      read = subst (λ (g : Group). IsRead b (at.front ++ []) new g.digits g.padding) (sym is.1) (rw append-nil (record {
        chars = at.front;
        front = at.digits;
        count = 0;
        spelled = sym (append-nil at.front);
        valued = rw append-nil at.valued;
        made = made;
        counts = (refl, (numbers b known).some, at.closed);
      }));
    }

-- after a push that went well
pub takes : (b : Base) → IsEncoding b → (room : Room) (text : List ℕ) (d : DecoderState) (c : ℕ) (j : DecoderState) (r : Result (Unit {0}) DecodeError) (u : Unit {0})
    → Stands b room text d → Pushes b room d c j
    → r ≡ answer j.error → r ≡ Ok u → Stands b room (text ++ c ∷ []) j
takes b known room text d c j r u at push answers is = elim (one_push b known room text d c j at push) [
  | inl next ↦ next
  | inr refused ↦ let bad : Err refused.error ≡ Ok u = sym (answers ∙ ap answer refused.stored_is) ∙ is in cc bad
]

-- a push that was answered by an error, whatever text follows
pub refuses : (b : Base) → IsEncoding b → (room : Room) (text rest : List ℕ) (d : DecoderState) (c : ℕ) (j : DecoderState) (r : Result (Unit {0}) DecodeError) (e : DecodeError)
    → Stands b room text d → Pushes b room d c j
    → r ≡ answer j.error → r ≡ Err e → IsRefusedBy (refusal b) room (text ++ c ∷ rest) e
refuses b known room text rest d c j r e at push answers is = elim (one_push b known room text d c j at push) [
  | inl next ↦ let bad : Ok tt ≡ Err e = sym (answers ∙ ap answer next.quiet) ∙ is in cc bad
  | inr refused ↦
      let same : Err refused.error ≡ Err e = sym (answers ∙ ap answer refused.stored_is) ∙ is in
      let f : refused.error ≡ e = cc same in
      let first = first_here (char_error b refused.limit) text rest c refused.error (no_cause b known text d.octets d.group.digits d.group.padding at.read refused.limit refused.holds)
      refused.cause_is in
      record { limit = refused.limit; is_limit = refused.is_limit; refused = refusal_first b refused.limit (text ++ c ∷ rest) refused.error first ∙ ap Some f }
]

-- the whole text was read
pub ends : (b : Base) → IsEncoding b → (room : Room) (text : List ℕ) (d : DecoderState) (r : Result (List ℕ) DecodeError) → Stands b room text d → Ends b room d r
    → Decoded b (refusal b) room text r
ends b known room text d (Ok octets) at end = (decoded b known room text d (Ok octets) at end).3.1
ends b known room text d (Err e) at end =
    let o = decoded b known room text d (Err e) at end in
    record { limit = o.0; is_limit = o.1; refused = o.3 }
