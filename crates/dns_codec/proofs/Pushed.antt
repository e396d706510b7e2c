-- Lists of pushes to a decoder of any encoding, and its end.
use Rattle.std.proofs.Common.{◌≡◌, ℕ, ◌+◌, ◌*◌, ◌/◌, ◌%◌, ◌==◌, ◌≤◌, ◌-◌, ◌&&◌, max, Bool, true, false, nat_lt, if◌then◌else◌, is_none, is_some, List, [], ◌∷◌, ◌++◌, length, reverse, refl, sym}
use Rattle.std.proofs.Common.{ap, ◌∙◌, arith, Option, Some, None, IsSome, IsErr, Result, Ok, Err, ◌⊎◌, inl, inr, subst, length-append, append_assoc, append-nil}
use Rattle.std.specs.Prelude.{nat_le}
use Rattle.std.specs.List.{find}
use Rattle.std.proofs.lemmas.Bool.{cases_Bool, eqb-true, eqb-false}
use Rattle.std.proofs.lemmas.List.{reverse-append}
use Rattle.dns_octets.specs.Room.{Room}
use Rattle.dns_codec.specs.Base.{Base, base16, base32hex, value, IsEncoding}
use Rattle.dns_codec.specs.Errors.{or_else}
use Rattle.dns_codec.specs.Grammar.{HaveValues}
use Rattle.dns_codec.specs.Group.{Group, CharacterStep, refused, step_other, step_in, step_from, character_step}
use Rattle.dns_codec.specs.Decoding.{DecoderState, IsNew, PushesAfter, Pushes, Runs, short, end_error, Ends}
use Rattle.dns_codec.specs.Outcome.{short_buf_if, grouped, char_error, first_char_error, last_illegal, legal_count, stored_by, stored, refusal, pushed_refusal, Outcome, IsPushed}
use Rattle.dns_codec.specs.Limit.{IsLimit}
use Rattle.dns_codec.specs.declared.error.DecodeError.{DecodeError}
use Rattle.dns_codec.specs.declared.error.DecodeError.TheVariants.{IllegalChar}
use Rattle.dns_codec.specs.declared.base64.Padding.{Padding}
use Rattle.dns_codec.specs.declared.base64.Padding.TheVariants.{Absent, One, Complete}
use Rattle.dns_codec.proofs.Causes.{cases_error, want_enough, want_more, first_here, first_char_error-append, find_last, find_before, find_none_append, count_by-append}
use Rattle.dns_codec.proofs.Decoders.{Stands, any_limit, one_push, decoded}
use Rattle.dns_codec.proofs.Marks.{legal, illegal}
use Rattle.dns_codec.proofs.Numbers.{IsPlain, plain16, numbers, kinds, is_padded}
use Rattle.dns_codec.proofs.Steps.{IsRead, lengths, plain_text, read_none, no_cause}
use Rattle.dns_codec.proofs.Wholes.{HaveValues-push}

-- ---- steps of base 16 and base32hex

-- the error of a step, by the digit that its character names
abbrev illegal_in : ℕ → Option ℕ → Option DecodeError
illegal_in c None = Some (IllegalChar c)
illegal_in c (Some v) = None

module _ (b : Base) (known : IsEncoding b) (plain : IsPlain b) where
  plain_test : (c n : ℕ) → ((c == 61) && (nat_lt 1 b.unit && nat_le 2 n)) ≡ false
  plain_test c n = elim (cases_Bool (c == 61)) [
    | inl mark ↦ rw (mark, plain.unpadded) refl
    | inr other ↦ rw other refl
  ]

  other_step : (ps : List ℕ) (c : ℕ) → step_other b ps c ≡ refused ps Absent (IllegalChar c)
  other_step ps c = rw (plain_test c (length ps)) refl

  step_error : (ps : List ℕ) (c : ℕ) (o : Option ℕ) → (step_in b ps c o).error ≡ illegal_in c o
  step_error ps c None = ap (λ (s : CharacterStep). s.error) (other_step ps c)
  step_error ps c (Some v) = elim (cases_Bool (length ps + 1 == b.group)) [
    | inl last ↦ rw last refl
    | inr more ↦ rw more refl
  ]

  -- the characters of the alphabet are counted
  step_count : (text ps : List ℕ) (c : ℕ) (o : Option ℕ) → value b c ≡ o → length ps ≡ legal_count b text % b.group
      → ((step_in b ps c o).group.padding ≡ Absent) × (length (step_in b ps c o).group.digits ≡ legal_count b (text ++ c ∷ []) % b.group)
  step_count text ps c None is count =
      let same : legal_count b (text ++ c ∷ []) ≡ legal_count b text + 0 = count_by-append (λ c. is_some (value b c)) text (c ∷ []) ∙ rw is refl in
      let plus : legal_count b text + 0 ≡ legal_count b text = omega arith in
      rw (other_step ps c) (refl, count ∙ ap (λ n. n % b.group) (sym (same ∙ plus)))
  step_count text ps c (Some v) is count =
      let n = numbers b known in
      let one : legal_count b (text ++ c ∷ []) ≡ legal_count b text + 1 = count_by-append (λ c. is_some (value b c)) text (c ∷ []) ∙ rw is refl in
      elim (cases_Bool (length ps + 1 == b.group)) [
        | inl last ↦
            let full : length ps + 1 ≡ b.group = eqb-true (length ps + 1) b.group last in
            rw (last, one) (refl, n.count_closed (legal_count b text) (length ps) count full)
        | inr more ↦
            let other : length ps + 1 ≡ b.group → ⊥ = eqb-false (length ps + 1) b.group more in
            rw (more, one) (refl, length-append ps (v ∷ []) ∙ n.count_open (legal_count b text) (length ps) count other)
      ]

  -- a push to a decoder that stored an error
  later_push : (room : Room) (x : Option DecodeError) (d : DecoderState) (c : ℕ) (j : DecoderState) (e : DecodeError) → x ≡ Some e → PushesAfter b room x d c j
      → j ≡ record { octets = d.octets; group = (character_step b d.group c).group; error = or_else (character_step b d.group c).error (Some e) }
  later_push room None d c j e is push = cc is
  later_push room (Some f) d c j e is push =
      let same : f ≡ e = cc is in
      let s : CharacterStep = character_step b d.group c in
      subst (λ (g : DecodeError). j ≡ record { octets = d.octets; group = s.group; error = or_else s.error (Some g) }) same
      (subst (λ (x : Bool). j ≡ (if x then d else record { octets = d.octets; group = s.group; error = or_else s.error (Some f) })) plain.goes_on push)

  later_error : (room : Room) (d : DecoderState) (c : ℕ) (j : DecoderState) (e : DecodeError) → d.group.padding ≡ Absent → d.error ≡ Some e → Pushes b room d c j
      → j.error ≡ or_else (illegal_in c (value b c)) (Some e)
  later_error room d c j e absent is push =
      ap (λ (k : DecoderState). k.error) (later_push room d.error d c j e is push)
      ∙ ap (λ (p : Padding). or_else (step_from b d.group.digits p c (value b c)).error (Some e)) absent
      ∙ ap (λ (x : Option DecodeError). or_else x (Some e)) (step_error d.group.digits c (value b c))

  push_group : (room : Room) (x : Option DecodeError) (d : DecoderState) (c : ℕ) (j : DecoderState) → PushesAfter b room x d c j → j.group ≡ (character_step b d.group c).group
  push_group room None d c j push = push.group
  push_group room (Some e) d c j push = ap (λ (k : DecoderState). k.group) (later_push room (Some e) d c j e refl push)

  push_count : (room : Room) (text : List ℕ) (d : DecoderState) (c : ℕ) (j : DecoderState) → Pushes b room d c j → d.group.padding ≡ Absent
      → length d.group.digits ≡ legal_count b text % b.group
      → (j.group.padding ≡ Absent) × (length j.group.digits ≡ legal_count b (text ++ c ∷ []) % b.group)
  push_count room text d c j push absent count =
      subst (λ (g : Group). (g.padding ≡ Absent) × (length g.digits ≡ legal_count b (text ++ c ∷ []) % b.group)) (sym (push_group room d.error d c j push))
      (subst (λ (p : Padding). let g = (step_from b d.group.digits p c (value b c)).group in (g.padding ≡ Absent) × (length g.digits ≡ legal_count b (text ++ c ∷ []) % b.group)) (sym absent)
      (step_count text d.group.digits c (value b c) refl count))

  -- ---- their texts

  none_illegal : (text ps : List ℕ) → HaveValues b text ps → last_illegal b text ≡ None
  none_illegal [] ps n = refl
  none_illegal (c ∷ cs) [] n = absurd n
  none_illegal (c ∷ cs) (p ∷ ps) n =
      let alone : find (λ x. is_none (value b x)) (c ∷ []) ≡ None = rw n.0 refl in
      rw (reverse-append (c ∷ []) cs) (find_none_append (λ x. is_none (value b x)) (reverse cs) (c ∷ []) (none_illegal cs ps n.1) alone)

  pub all_legal : (text ps : List ℕ) → HaveValues b text ps → legal_count b text ≡ length text
  all_legal [] ps n = refl
  all_legal (c ∷ cs) [] n = absurd n
  all_legal (c ∷ cs) (p ∷ ps) n =
      let one : legal_count b (c ∷ []) ≡ 1 = rw n.0 refl in
      let later = all_legal cs ps n.1 in
      count_by-append (λ x. is_some (value b x)) (c ∷ []) cs ∙ rw (one, later) (omega arith)

  -- nothing is padded
  pub read_plain : (text os ps : List ℕ) (p : Padding) → IsRead b text os ps p → (p ≡ Absent) × IsRead b text os ps Absent
  read_plain text os ps Absent at = (refl, at)
  read_plain text os ps One at = let bad : true ≡ false = sym (is_padded b at.counts.0).0 ∙ plain.unpadded in cc bad
  read_plain text os ps Complete at = let bad : true ≡ false = sym (is_padded b at.counts.0).0 ∙ plain.unpadded in cc bad

  pub text_valued : (text os ps : List ℕ) → (at : IsRead b text os ps Absent) → HaveValues b text (at.front ++ ps)
  text_valued text os ps at = rw (← plain_text b text os ps at) at at.valued

  stored_last : (limit : ℕ) (text : List ℕ) → stored b limit text ≡ stored_by b limit (length text) (last_illegal b text)
  stored_last limit text = ap (λ (x : Bool). if x then first_char_error (char_error b limit) [] text else stored_by b limit (length text) (last_illegal b text)) plain.goes_on

  pub legal_stored : (limit : ℕ) (text ps : List ℕ) → HaveValues b text ps → stored b limit text ≡ short_buf_if limit (grouped b (length text))
  legal_stored limit text ps n = stored_last limit text ∙ ap (stored_by b limit (length text)) (none_illegal text ps n)

  stored_now : (limit : ℕ) (text ps : List ℕ) (c : ℕ) (e : DecodeError) (o : Option ℕ) → value b c ≡ o → HaveValues b text ps → char_error b limit text c ≡ Some e
      → stored b limit (text ++ c ∷ []) ≡ Some e
  stored_now limit text ps c e None is valued why =
      let hit : is_none (value b c) ≡ true = rw is refl in
      stored_last limit (text ++ c ∷ []) ∙ ap (stored_by b limit (length (text ++ c ∷ []))) (find_last (λ x. is_none (value b x)) text c hit)
      ∙ sym (illegal b known limit text ps c valued is (plain_test c (length text % b.group))) ∙ why
  stored_now limit text ps c e (Some v) is valued why =
      let len = length-append text (c ∷ []) in
      legal_stored limit (text ++ c ∷ []) (ps ++ v ∷ []) (HaveValues-push b text ps c v valued is) ∙ ap (λ n. short_buf_if limit (grouped b n)) len
      ∙ sym (legal b known limit text ps c v valued is) ∙ why

  stored_more : (limit : ℕ) (text : List ℕ) (c : ℕ) (e : DecodeError) (o : Option ℕ) → stored_by b limit (length text) o ≡ Some e → stored_by b limit (length (text ++ c ∷ [])) o ≡ Some e
  stored_more limit text c e (Some d) held = held
  stored_more limit text c e None held =
      let grows = (numbers b known).grouped_grows (length text) (length (text ++ c ∷ [])) (omega (arith, length-append text (c ∷ []))) in
      want_more limit (grouped b (length text)) (grouped b (length (text ++ c ∷ []))) e grows held

  -- a stored error stays, or a later illegal character replaces it
  stored_later : (limit : ℕ) (text : List ℕ) (c : ℕ) (e : DecodeError) (o : Option ℕ) → value b c ≡ o → stored b limit text ≡ Some e
      → stored b limit (text ++ c ∷ []) ≡ or_else (illegal_in c o) (Some e)
  stored_later limit text c e None is held =
      let hit : is_none (value b c) ≡ true = rw is refl in
      stored_last limit (text ++ c ∷ []) ∙ ap (stored_by b limit (length (text ++ c ∷ []))) (find_last (λ x. is_none (value b x)) text c hit)
  stored_later limit text c e (Some v) is held =
      let miss : is_none (value b c) ≡ false = rw is refl in
      stored_last limit (text ++ c ∷ []) ∙ ap (stored_by b limit (length (text ++ c ∷ []))) (find_before (λ x. is_none (value b x)) text c miss)
      ∙ stored_more limit text c e (last_illegal b text) (sym (stored_last limit text) ∙ held)

-- ---- a stored error stays

some_or : (x : Option DecodeError) (e : DecodeError) → IsSome (or_else x (Some e))
some_or None e = refl
some_or (Some f) e = refl

kept_after : (b : Base) (room : Room) (x : Option DecodeError) (old new : DecoderState) (c : ℕ) → old.error ≡ x → IsSome x → PushesAfter b room x old c new
    → (new.octets ≡ old.octets) × IsSome new.error × (b.keeps_first ≡ true → new ≡ old)
kept_after b room None old new c is some push = let bad = some in cc bad
kept_after b room (Some e) old new c is some push =
    let s : CharacterStep = character_step b old.group c in
    let other : DecoderState = record { octets = old.octets; group = s.group; error = or_else s.error (Some e) } in
    elim (cases_Bool b.keeps_first) [
      | inl keeps ↦
          let same : new ≡ old = subst (λ (x : Bool). new ≡ (if x then old else other)) keeps push in
          (ap (λ (d : DecoderState). d.octets) same, subst (λ (x : Option DecodeError). IsSome x) (sym (ap (λ (d : DecoderState). d.error) same ∙ is)) refl, λ k. same)
      | inr goes ↦
          let moved : new ≡ other = subst (λ (x : Bool). new ≡ (if x then old else other)) goes push in (
            ap (λ (d : DecoderState). d.octets) moved,
            subst (λ (x : Option DecodeError). IsSome x) (sym (ap (λ (d : DecoderState). d.error) moved)) (some_or s.error e),
            λ k. let bad : true ≡ false = sym k ∙ goes in cc bad,
          )
    ]

pub kept : (b : Base) (room : Room) (old new : DecoderState) (c : ℕ) → IsSome old.error → Pushes b room old c new
    → (new.octets ≡ old.octets) × IsSome new.error × (b.keeps_first ≡ true → new ≡ old)
kept b room old new c some push = kept_after b room old.error old new c refl some push

pub replaced : (b : Base) → IsEncoding b → (room : Room) (old new : DecoderState) (c : ℕ) → old.group.padding ≡ Absent → IsSome old.error → Pushes b room old c new
    → (new.error ≡ old.error) ⊎ ((value b c ≡ None) × (new.error ≡ Some (IllegalChar c)))
replaced b known room old new c absent some push = elim (kinds b known) [
  | inl plain ↦ elim (cases_error old.error) [
    | inl none ↦ let bad : IsSome {T = DecodeError} None = subst (λ (x : Option DecodeError). IsSome x) none some in cc bad
    | inr is ↦ by (value b c) refl (later_error b known plain room old c new is.0 absent is.1 push) is.1
  ]
  | inr same ↦ inl (ap (λ (d : DecoderState). d.error) ((kept b room old new c some push).2 (is_padded b same).1))
]
  where
    by : {e : DecodeError} (o : Option ℕ) → value b c ≡ o → new.error ≡ or_else (illegal_in c o) (Some e) → old.error ≡ Some e
        → (new.error ≡ old.error) ⊎ ((value b c ≡ None) × (new.error ≡ Some (IllegalChar c)))
    by None is now before = inr (is, now)
    by (Some v) is now before = inl (now ∙ sym before)

or_some : (x y : Option DecodeError) → IsSome y → or_else x y ≡ None → ⊥
or_some None (Some e) some is = cc is
or_some None None some is = cc some
or_some (Some e) y some is = cc is

some_first : (x y : Option DecodeError) → IsSome x → or_else x y ≡ None → ⊥
some_first (Some e) y some is = cc is
some_first None y some is = cc some

end_some : (b : Base) (k : DecoderState) → IsSome k.error → end_error b k ≡ None → ⊥
end_some b k some is = elim (cases_Bool b.ends_first) [
  | inl first ↦ or_some _ k.error some (subst (λ (x : Bool). (if x then or_else (short b k.group) k.error else or_else k.error (short b k.group)) ≡ None) first is)
  | inr later ↦ some_first k.error _ some (subst (λ (x : Bool). (if x then or_else (short b k.group) k.error else or_else k.error (short b k.group)) ≡ None) later is)
]

pub end_kept : (b : Base) (room : Room) (k : DecoderState) (r : Result (List ℕ) DecodeError) → IsSome k.error → Ends b room k r → IsErr r
end_kept b room k (Ok octets) some end = absurd (end_some b k some end.0)
end_kept b room k (Err e) some end = refl

-- ---- the error that is stored

-- in base 64 it is the first
stored_first : (b : Base) (limit : ℕ) (text : List ℕ) → b.keeps_first ≡ true → stored b limit text ≡ first_char_error (char_error b limit) [] text
stored_first b limit text keeps = ap (λ (x : Bool). if x then first_char_error (char_error b limit) [] text else stored_by b limit (length text) (last_illegal b text)) keeps

pub stored_none : (b : Base) → IsEncoding b → (text os ps : List ℕ) (p : Padding) → IsRead b text os ps p → (limit : ℕ) → length os ≤ limit → stored b limit text ≡ None
stored_none b known text os ps p at limit le = elim (kinds b known) [
  | inl plain ↦
      let alone = (read_plain b known plain text os ps p at).1 in
      let n = lengths b text os ps Absent alone in
      let len : length text ≡ length alone.front + length ps = ap length (plain_text b text os ps alone) ∙ n.chars_are in
      let fits : grouped b (length text) ≡ length os = (numbers b known).grouped_at (length text) (length alone.front) (length ps) len alone.counts.2 alone.counts.1 ∙ sym n.octets_are in
      legal_stored b known plain limit text (alone.front ++ ps) (text_valued b known plain text os ps alone) ∙ want_enough limit (grouped b (length text)) (rw fits le)
  | inr same ↦ stored_first b limit text (is_padded b same).1 ∙ no_cause b known text os ps p at limit le
]

stored_here : (b : Base) → IsEncoding b → (text os ps : List ℕ) (p : Padding) (c : ℕ) (e : DecodeError) → IsRead b text os ps p → (limit : ℕ) → length os ≤ limit → char_error b limit text c ≡ Some e
    → stored b limit (text ++ c ∷ []) ≡ Some e
stored_here b known text os ps p c e at limit le why = elim (kinds b known) [
  | inl plain ↦
      let alone = (read_plain b known plain text os ps p at).1 in
      stored_now b known plain limit text (alone.front ++ ps) c e (value b c) refl (text_valued b known plain text os ps alone) why
  | inr same ↦ stored_first b limit (text ++ c ∷ []) (is_padded b same).1 ∙ first_here (char_error b limit) text [] c e (no_cause b known text os ps p at limit le) why
]

-- ---- lists of pushes

-- the state after a text that was pushed
pub record Reached (b : Base) (room : Room) (text : List ℕ) (d : DecoderState) : Type 0 where
  pub limit : ℕ
  pub is_limit : IsLimit room limit
  pub stored_is : d.error ≡ stored b limit text
  pub stands : d.error ≡ None → Stands b room text d
  pub counted : IsPlain b → (d.group.padding ≡ Absent) × (length d.group.digits ≡ legal_count b text % b.group)

stands_reached : (b : Base) → IsEncoding b → (room : Room) (text : List ℕ) (d : DecoderState) → Stands b room text d
    → (IsPlain b → (d.group.padding ≡ Absent) × (length d.group.digits ≡ legal_count b text % b.group)) → Reached b room text d
stands_reached b known room text d at counted = record {
  limit = max room.fits room.capacity;
  is_limit = any_limit room;
  stored_is = at.quiet ∙ sym (stored_none b known text d.octets d.group.digits d.group.padding at.read (max room.fits room.capacity) at.held);
  stands = λ none. at;
  counted = counted;
}

-- an error is stored, and one more character is pushed
stays : (b : Base) → IsEncoding b → (room : Room) (limit : ℕ) (text : List ℕ) (d : DecoderState) (c : ℕ) (j : DecoderState) (e : DecodeError) → (IsPlain b → d.group.padding ≡ Absent)
    → d.error ≡ Some e → stored b limit text ≡ Some e
    → Pushes b room d c j → (j.error ≡ stored b limit (text ++ c ∷ [])) × IsSome j.error
stays b known room limit text d c j e absent is held push = elim (kinds b known) [
  | inl plain ↦
      let now = later_error b known plain room d c j e (absent plain) is push in
      let later = stored_later b known plain limit text c e (value b c) refl held in
      (now ∙ sym later, subst (λ (x : Option DecodeError). IsSome x) (sym now) (some_or (illegal_in c (value b c)) e))
  | inr same ↦
      let padded = is_padded b same in
      let kept_is = kept b room d j c (subst (λ (x : Option DecodeError). IsSome x) (sym is) refl) push in
      let now : j.error ≡ Some e = ap (λ (k : DecoderState). k.error) (kept_is.2 padded.1) ∙ is in
      let first = sym (stored_first b limit text padded.1) ∙ held in
      let later = first_char_error-append (char_error b limit) [] text (c ∷ []) ∙ ap (λ (x : Option DecodeError). or_else x (first_char_error (char_error b limit) text (c ∷ []))) first in
      (now ∙ sym (stored_first b limit (text ++ c ∷ []) padded.1 ∙ later), kept_is.1)
]

reach_push : (b : Base) → IsEncoding b → (room : Room) (text : List ℕ) (d : DecoderState) (c : ℕ) (j : DecoderState) → Reached b room text d → Pushes b room d c j
    → Reached b room (text ++ c ∷ []) j
reach_push b known room text d c j at push =
    let counted : IsPlain b → (j.group.padding ≡ Absent) × (length j.group.digits ≡ legal_count b (text ++ c ∷ []) % b.group) =
    λ plain. push_count b known plain room text d c j push (at.counted plain).0 (at.counted plain).1 in
    elim (cases_error d.error) [
      | inl none ↦
          let stands = at.stands none in
          elim (one_push b known room text d c j stands push) [
            | inl next ↦ stands_reached b known room (text ++ c ∷ []) j next counted
            | inr r ↦ record {
              limit = r.limit;
              is_limit = r.is_limit;
              stored_is = r.stored_is ∙ sym (stored_here b known text d.octets d.group.digits d.group.padding c r.error stands.read r.limit r.holds r.cause_is);
              stands = λ quiet. let bad : Some r.error ≡ None = sym r.stored_is ∙ quiet in cc bad;
              counted = counted;
            }
          ]
      | inr some ↦
          let k = stays b known room at.limit text d c j some.0 (λ plain. (at.counted plain).0) some.1 (sym at.stored_is ∙ some.1) push in
          record {
            limit = at.limit;
            is_limit = at.is_limit;
            stored_is = k.0;
            stands = λ quiet. let bad : IsSome {T = DecodeError} None = subst (λ (x : Option DecodeError). IsSome x) quiet k.1 in cc bad;
            counted = counted;
          }
    ]

runs_reached : (b : Base) → IsEncoding b → (room : Room) (text cs : List ℕ) (d k : DecoderState) → Reached b room text d → Runs b room d cs k → Reached b room (text ++ cs) k
runs_reached b known room text [] d k at run = rw (append-nil, run) at
runs_reached b known room text (c ∷ cs) d k at run =
    rw append_assoc at (runs_reached b known room (text ++ c ∷ []) cs run.0 k (reach_push b known room text d c run.0 at run.1) run.2)

new_reached : (b : Base) → IsEncoding b → (room : Room) (d : DecoderState) → IsNew d → Reached b room [] d
new_reached b known room d new =
    let none : length d.octets ≡ 0 = ap length new.0 in
    stands_reached b known room [] d
    (record {
      quiet = new.2;
      held = omega arith;
      read = subst (λ (os : List ℕ). IsRead b [] os d.group.digits d.group.padding) (sym new.0) (subst (λ (g : Group). IsRead b [] [] g.digits g.padding) (sym new.1) (read_none b known));
    })
    (λ plain. (ap (λ (g : Group). g.padding) new.1, ap (λ (g : Group). length g.digits) new.1 ∙ sym (numbers b known).none))

-- ---- the end

same16 : (text os ps : List ℕ) (p : Padding) → IsRead base16 text os ps p → (limit : ℕ) → length os ≤ limit → pushed_refusal base16 limit text ≡ refusal base16 limit text
same16 text os ps p at limit le =
    let known : IsEncoding base16 = inl refl in
    let alone = (read_plain base16 known plain16 text os ps p at).1 in
    let n = lengths base16 text os ps Absent alone in
    let len : length text ≡ length alone.front + length ps = ap length (plain_text base16 text os ps alone) ∙ n.chars_are in
    let legal = all_legal base16 known plain16 text (alone.front ++ ps) (text_valued base16 known plain16 text os ps alone) in
    let first = no_cause base16 known text os ps p at limit le in
    let made = n.octets_are in
    let closed = alone.counts.2 in
    let few = alone.counts.1 in
    elim (cases_Bool (length text % 2 == 0)) [
      | inl even ↦
          let zero : length text % 2 ≡ 0 = eqb-true (length text % 2) 0 even in
          let fits : (length text - 0) * 4 / 8 ≤ limit = omega arith in
          rw (legal, zero, first) (stored_none base16 known text os ps p at limit le ∙ sym (want_enough limit ((length text - 0) * 4 / 8) fits))
      | inr odd ↦
          let other : length text % 2 ≡ 0 → ⊥ = eqb-false (length text % 2) 0 odd in
          let one : length text % 2 ≡ 1 = omega arith in
          rw (legal, one, first) refl
    ]

same32 : (text os ps : List ℕ) (p : Padding) → IsRead base32hex text os ps p → (limit : ℕ) → length os ≤ limit → pushed_refusal base32hex limit text ≡ refusal base32hex limit text
same32 text os ps p at limit le =
    let known : IsEncoding base32hex = inr (inl refl) in
    rw (stored_none base32hex known text os ps p at limit le, no_cause base32hex known text os ps p at limit le) refl

-- a text without a cause is rejected in one way, whether all of it was pushed or not
pub same_refusal : (b : Base) → IsEncoding b → (text os ps : List ℕ) (p : Padding) → IsRead b text os ps p → (limit : ℕ) → length os ≤ limit → pushed_refusal b limit text ≡ refusal b limit text
same_refusal b (inl is) = rw is same16
same_refusal b (inr (inl is)) = rw is same32
same_refusal b (inr (inr is)) = rw is (λ text os ps p at limit le. refl)

stored_end16 : (limit : ℕ) (text : List ℕ) (k : DecoderState) (e : DecodeError) → k.group.padding ≡ Absent → length k.group.digits ≡ legal_count base16 text % 2 → k.error ≡ Some e
    → stored base16 limit text ≡ Some e
    → pushed_refusal base16 limit text ≡ end_error base16 k
stored_end16 limit text k e absent count is held = elim (cases_Bool (legal_count base16 text % 2 == 0)) [
  | inl even ↦
      let zero : legal_count base16 text % 2 ≡ 0 = eqb-true (legal_count base16 text % 2) 0 even in
      let size : length k.group.digits ≡ 0 = count ∙ zero in
      rw (zero, absent, size, is) held
  | inr odd ↦
      let other : legal_count base16 text % 2 ≡ 0 → ⊥ = eqb-false (legal_count base16 text % 2) 0 odd in
      let one : legal_count base16 text % 2 ≡ 1 = omega arith in
      let size : length k.group.digits ≡ 1 = count ∙ one in
      rw (one, absent, size) refl
]

-- the end of a text with a stored error
stored_end : (b : Base) → IsEncoding b → (limit : ℕ) (text : List ℕ) (k : DecoderState) (e : DecodeError)
    → (IsPlain b → (k.group.padding ≡ Absent) × (length k.group.digits ≡ legal_count b text % b.group)) → k.error ≡ Some e
    → stored b limit text ≡ Some e → pushed_refusal b limit text ≡ end_error b k
stored_end b (inl is) = rw is (λ limit text k e counted some held.
    let c = counted plain16 in
    stored_end16 limit text k e c.0 c.1 some held)
stored_end b (inr (inl is)) = rw is (λ limit text k e counted some held. rw (held, some) refl)
stored_end b (inr (inr is)) = rw is (λ limit text k e counted some held. rw (held, some) refl)

pub pushed : (b : Base) → IsEncoding b → (room : Room) (h k : DecoderState) (text : List ℕ) (r : Result (List ℕ) DecodeError) → IsNew h → Runs b room h text k → Ends b room k r
    → IsPushed b (stored b) (pushed_refusal b) room text k.error r
pushed b known room h k text r new run end =
    let at = runs_reached b known room [] text h k (new_reached b known room h new) run in
    elim (cases_error k.error) [
      | inl none ↦
          let stands = at.stands none in
          let o = decoded b known room text k r stands end in
          record {
            limit = o.0;
            is_limit = o.1;
            stored_is = none ∙ sym (stored_none b known text k.octets k.group.digits k.group.padding stands.read o.0 o.2);
            outcome = subst (λ (x : Option DecodeError). Outcome b text x r) (sym (same_refusal b known text k.octets k.group.digits k.group.padding stands.read o.0 o.2)) o.3;
          }
      | inr some ↦ record {
        limit = at.limit;
        is_limit = at.is_limit;
        stored_is = at.stored_is;
        outcome = subst (λ (x : Option DecodeError). Outcome b text x r) (sym (stored_end b known at.limit text k some.0 at.counted some.1 (sym at.stored_is ∙ some.1)))
            (by r end (subst (λ (x : Option DecodeError). IsSome x) (sym some.1) refl));
      }
    ]
  where
    by : (r : Result (List ℕ) DecodeError) → Ends b room k r → IsSome k.error → Outcome b text (end_error b k) r
    by (Ok octets) end some = absurd (end_some b k some end.0)
    by (Err e) (inl is) some = is
    by (Err e) (inr end) some = absurd (end_some b k some end.0)
