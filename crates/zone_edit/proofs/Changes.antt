-- Changes, one after another.
use Rattle.std.proofs.Common.{◌≡◌, ◌<◌, ◌≤◌, ℕ, ◌+◌, ◌⊎◌, List, [], ◌∷◌, ◌++◌, length, drop, get_or, refl, sym, ap, subst, ◌∙◌, arith, append-nil, drop_of_length-le}
use Rattle.std.proofs.lemmas.List.{append_assoc}
use Rattle.dns_lexer.specs.declared.pieces.Span.{Span}
use Rattle.zone_edit.specs.declared.edit.Edit.{Edit}
use Rattle.zone_edit.specs.Changes.{Change, HaveTokensInOrder, PushesChanges, change, change_spans, change_texts}
use Rattle.zone_edit.specs.declared.tokens.TokenError.{TokenError}
use Rattle.zone_edit.specs.declared.tokens.TokenError.TheVariants.{OutOfMemory, OutOfOrder, TooFew}
use Rattle.zone_edit.specs.declared.zonemd.ZonemdEdit.{ZonemdEdit}
use Rattle.zone_edit.specs.Zonemds.{HasZonemdTokens, HaveZonemdTokens, IsAnyError, IsRdataError, IsRecordError, all_changes, zonemd_changes}
use Rattle.zone_edit.proofs.Opening.{rest_of}
use Rattle.zone_edit.proofs.Pushing.{continues_both, continues_same}
use Rattle.zone_edit.specs.Tokens.{AreAfterTokens, Continues, IsTokenError, first_only, spans_of, stretches, texts_of}

spans_joined : (octets : List ℕ) (first second : List Change) → change_spans octets (first ++ second) ≡ change_spans octets first ++ change_spans octets second
spans_joined octets [] second = refl
spans_joined octets (c ∷ first) second =
    ap (λ l. stretches octets c.tokens ++ l) (spans_joined octets first second)
    ∙ sym (append_assoc (stretches octets c.tokens) (change_spans octets first) (change_spans octets second))

texts_joined : (octets : List ℕ) (first second : List Change) → change_texts octets (first ++ second) ≡ change_texts octets first ++ change_texts octets second
texts_joined octets [] second = refl
texts_joined octets (c ∷ first) second =
    ap (λ l. first_only c.text (stretches octets c.tokens) ++ l) (texts_joined octets first second)
    ∙ sym (append_assoc (first_only c.text (stretches octets c.tokens)) (change_texts octets first) (change_texts octets second))

ordered_joined : (count : ℕ) (first second : List Change) → HaveTokensInOrder count first → HaveTokensInOrder count second → HaveTokensInOrder count (first ++ second)
ordered_joined count [] second p q = q
ordered_joined count (c ∷ first) second p q = (p.0, ordered_joined count first second p.1 q)

-- no changes
pub pushes_none : {B : Type 0} (octets : List ℕ) (edits : List (Edit B)) → PushesChanges octets [] edits edits
pushes_none octets edits = record { spans = sym (append-nil (spans_of edits)); texts = sym (append-nil (texts_of edits)); continues = continues_same edits; ordered = tt }

-- one
pub pushes_one : {B : Type 0} (octets : List ℕ) (tokens : List Span) (text made : List ℕ) (old new : List (Edit B)) → made ≡ text
    → spans_of new ≡ spans_of old ++ stretches octets tokens → texts_of new ≡ texts_of old ++ first_only made (stretches octets tokens) → Continues old new
    → AreAfterTokens (length octets) 0 tokens → PushesChanges octets (change tokens text ∷ []) old new
pushes_one octets tokens text made old new is spans texts continues ordered = record {
  spans = spans ∙ ap (λ l. spans_of old ++ l) (sym (append-nil (stretches octets tokens)));
  texts =
      texts ∙ ap (λ t. texts_of old ++ first_only t (stretches octets tokens)) is
      ∙ ap (λ l. texts_of old ++ l) (sym (append-nil (first_only text (stretches octets tokens))));
  continues = continues;
  ordered = (ordered, tt);
}

-- the changes that follow others
pub pushes_both : {B : Type 0} (octets : List ℕ) (first second : List Change) (old middle new : List (Edit B)) → PushesChanges octets first old middle
    → PushesChanges octets second middle new → PushesChanges octets (first ++ second) old new
pushes_both octets first second old middle new p q = record {
  spans =
      q.spans ∙ ap (λ l. l ++ change_spans octets second) p.spans ∙ append_assoc (spans_of old) (change_spans octets first) (change_spans octets second)
      ∙ ap (λ l. spans_of old ++ l) (sym (spans_joined octets first second));
  texts =
      q.texts ∙ ap (λ l. l ++ change_texts octets second) p.texts ∙ append_assoc (texts_of old) (change_texts octets first) (change_texts octets second)
      ∙ ap (λ l. texts_of old ++ l) (sym (texts_joined octets first second));
  continues = continues_both old middle new p.continues q.continues;
  ordered = ordered_joined (length octets) first second p.ordered q.ordered;
}

-- tokens in order after an offset are so after a lesser one
pub after_less : (count low at : ℕ) (tokens : List Span) → low ≤ at → AreAfterTokens count at tokens → AreAfterTokens count low tokens
after_less count low at [] le h = tt
after_less count low at (t ∷ tokens) le h =
    let first : low ≤ t.start = omega (arith, le, h.0.0) in
    ((first, h.0.1, h.0.2), h.1)

-- the first token of those in order, and the tokens after the first two or three
pub after_first : (count : ℕ) (t : Span) (tokens : List Span) → AreAfterTokens count 0 (t ∷ tokens) → AreAfterTokens count 0 (t ∷ [])
after_first count t tokens h = (h.0, tt)

pub after_two : (count : ℕ) (a b : Span) (tokens : List Span) → AreAfterTokens count 0 (a ∷ b ∷ tokens) → AreAfterTokens count 0 tokens
after_two count a b tokens h =
    let low : 0 ≤ b.end = omega arith in
    after_less count 0 b.end tokens low h.1.1

pub after_three : (count : ℕ) (a b d : Span) (tokens : List Span) → AreAfterTokens count 0 (a ∷ b ∷ d ∷ tokens) → AreAfterTokens count 0 tokens
after_three count a b d tokens h =
    let low : 0 ≤ d.end = omega arith in
    after_less count 0 d.end tokens low h.1.1.1

-- an error of some tokens of RDATA is one of the RDATA
pub error_two : (fewest : ℕ) (octets : List ℕ) (a b : Span) (tokens : List Span) (e : TokenError) → IsTokenError (length octets) 0 tokens e → IsRdataError fewest octets (a ∷ b ∷ tokens) e
error_two fewest octets a b tokens OutOfMemory h = tt
error_two fewest octets a b tokens OutOfOrder h = λ ordered. h (after_two (length octets) a b tokens ordered)
error_two fewest octets a b tokens TooFew h = absurd h

pub error_first : (fewest : ℕ) (octets : List ℕ) (t : Span) (tokens : List Span) (e : TokenError) → IsTokenError (length octets) 0 (t ∷ []) e → IsRdataError fewest octets (t ∷ tokens) e
error_first fewest octets t tokens OutOfMemory h = tt
error_first fewest octets t tokens OutOfOrder h = λ ordered. h (after_first (length octets) t tokens ordered)
error_first fewest octets t tokens TooFew h = absurd h

pub error_three : (fewest : ℕ) (octets : List ℕ) (a b d : Span) (tokens : List Span) (e : TokenError) → IsTokenError (length octets) 0 tokens e
    → IsRdataError fewest octets (a ∷ b ∷ d ∷ tokens) e
error_three fewest octets a b d tokens OutOfMemory h = tt
error_three fewest octets a b d tokens OutOfOrder h = λ ordered. h (after_three (length octets) a b d tokens ordered)
error_three fewest octets a b d tokens TooFew h = absurd h

-- the record of an index, and those after it
module _ (octets : List ℕ) (records : List ZonemdEdit) (i : ℕ) (r d : ZonemdEdit) (lt : i < length records) (is : r ≡ get_or records i d) where
  next : drop i records ≡ r ∷ drop (i + 1) records
  next = rest_of records i r d lt is

  pub spans_after : {B : Type 0} (first old new : List (Edit B)) → PushesChanges octets (zonemd_changes octets r) old new
      → spans_of old ++ change_spans octets (all_changes octets (drop i records)) ≡ spans_of first ++ change_spans octets (all_changes octets records)
      → spans_of new ++ change_spans octets (all_changes octets (drop (i + 1) records)) ≡ spans_of first ++ change_spans octets (all_changes octets records)
  spans_after first old new p before =
      let own = zonemd_changes octets r in
      let more = all_changes octets (drop (i + 1) records) in
      ap (λ l. l ++ change_spans octets more) p.spans ∙ append_assoc (spans_of old) (change_spans octets own) (change_spans octets more)
      ∙ ap (λ l. spans_of old ++ l) (sym (spans_joined octets own more))
      ∙ ap (λ l. spans_of old ++ change_spans octets (all_changes octets l)) (sym next) ∙ before

  pub texts_after : {B : Type 0} (first old new : List (Edit B)) → PushesChanges octets (zonemd_changes octets r) old new
      → texts_of old ++ change_texts octets (all_changes octets (drop i records)) ≡ texts_of first ++ change_texts octets (all_changes octets records)
      → texts_of new ++ change_texts octets (all_changes octets (drop (i + 1) records)) ≡ texts_of first ++ change_texts octets (all_changes octets records)
  texts_after first old new p before =
      let own = zonemd_changes octets r in
      let more = all_changes octets (drop (i + 1) records) in
      ap (λ l. l ++ change_texts octets more) p.texts ∙ append_assoc (texts_of old) (change_texts octets own) (change_texts octets more)
      ∙ ap (λ l. texts_of old ++ l) (sym (texts_joined octets own more))
      ∙ ap (λ l. texts_of old ++ change_texts octets (all_changes octets l)) (sym next) ∙ before

  pub ordered_after : {B : Type 0} (old new : List (Edit B)) → PushesChanges octets (zonemd_changes octets r) old new
      → HaveTokensInOrder (length octets) (all_changes octets (drop (i + 1) records)) → HaveTokensInOrder (length octets) (all_changes octets (drop i records))
  ordered_after old new p h =
      subst (λ l. HaveTokensInOrder (length octets) (all_changes octets l)) (sym next)
      (ordered_joined (length octets) (zonemd_changes octets r) (all_changes octets (drop (i + 1) records)) p.ordered h)

  pub enough_after : HasZonemdTokens octets r → HaveZonemdTokens octets (drop (i + 1) records) → HaveZonemdTokens octets (drop i records)
  enough_after own h = subst (HaveZonemdTokens octets) (sym next) (own, h)

  pub error_after : (e : TokenError) → IsRecordError octets r e ⊎ IsAnyError octets (drop (i + 1) records) e → IsAnyError octets (drop i records) e
  error_after e h = subst (λ l. IsAnyError octets l e) (sym next) h

-- after the last record
pub pushed_all : {B : Type 0} (octets : List ℕ) (records : List ZonemdEdit) (i : ℕ) (first last : List (Edit B)) → length records ≤ i
    → spans_of last ++ change_spans octets (all_changes octets (drop i records)) ≡ spans_of first ++ change_spans octets (all_changes octets records)
    → texts_of last ++ change_texts octets (all_changes octets (drop i records)) ≡ texts_of first ++ change_texts octets (all_changes octets records)
    → Continues first last → (HaveTokensInOrder (length octets) (all_changes octets (drop i records)) → HaveTokensInOrder (length octets) (all_changes octets records))
    → PushesChanges octets (all_changes octets records) first last
pushed_all octets records i first last le spans texts continues found =
    let rest = drop_of_length-le records le in
    record {
      spans = sym (append-nil (spans_of last)) ∙ ap (λ l. spans_of last ++ change_spans octets (all_changes octets l)) (sym rest) ∙ spans;
      texts = sym (append-nil (texts_of last)) ∙ ap (λ l. texts_of last ++ change_texts octets (all_changes octets l)) (sym rest) ∙ texts;
      continues = continues;
      ordered = found (subst (λ l. HaveTokensInOrder (length octets) (all_changes octets l)) (sym rest) tt);
    }

pub enough_all : (octets : List ℕ) (records : List ZonemdEdit) (i : ℕ) → length records ≤ i
    → (HaveZonemdTokens octets (drop i records) → HaveZonemdTokens octets records) → HaveZonemdTokens octets records
enough_all octets records i le found = found (subst (HaveZonemdTokens octets) (sym (drop_of_length-le records le)) tt)
