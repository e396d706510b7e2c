-- Tokens that are rejected as RDATA have one error.
use Rattle.std.proofs.Common.{ℕ, Option, Some, None, ◌≡◌, ◌≢◌, ◌-◌, ◌+◌, List, [], ◌++◌, length, sym, ap, subst, ◌∙◌, inl, inr}
use Rattle.std.specs.Prelude.{◌⊎◌, Ok, Err}
use Rattle.dns_octets.specs.Room.{Room}
use Rattle.dns_octets.specs.Appending.{Gains}
use Rattle.dns_lexer.specs.EntryTokens.{TokenSeen}
use Rattle.rdata_fields.specs.Parsing.{ParsesAllFields, SpellsFields, HasParsedFields, last_place}
use Rattle.rdata_fields.specs.RecordErrors.{error_at, error_in_field, error_of_type}
use Rattle.rdata_fields.specs.Source.{next_place}
use Rattle.rdata_fields.specs.declared.field.Field.{Field}
use Rattle.rdata_fields.specs.declared.record_error.RecordError.{RecordError}
use Rattle.rdata_fields.proofs.FieldErrors.{fields_refused_once}
use Rattle.rdata_fields.proofs.Refused.{fields_front, only_room_lacks}
use Rattle.rdata_values.specs.declared.error.ErrorKind.{ErrorKind}
use Rattle.rdata_values.specs.declared.error.ErrorKind.TheVariants.{ShortBuf}
use Rattle.rdata_values.specs.declared.types.RecordType.{RecordType}
use Rattle.rdata.specs.ByType.{HasShape, IsShapeOf, ReadsType, RefusesData, RefusesGeneric, SpellsGenericData, SpellsTypeData, shape_of_code}
use Rattle.rdata.specs.Data.{HasLength, HasWrongHash, IsDataOf, IsWrongLength, ReadsData, RefusesAfterFields, SpellsData, wrong_length}
use Rattle.rdata.specs.Generic.{generic_form}
use Rattle.rdata.specs.OneError.{HasOneError, HaveOneDataError}
use Rattle.rdata.specs.RestKinds.{IsRestPart, ParsesTailParts, rest_form}
use Rattle.rdata.specs.Rests.{RestForm, RefusesAs}
use Rattle.rdata.specs.Types.{TypeShape}
use Rattle.rdata.specs.declared.rest.Rest.{Rest}
use Rattle.rdata.specs.declared.shape.LengthRule.{LengthRule}
use Rattle.rdata.specs.declared.shape.Shape.{Shape}
use Rattle.rdata.proofs.FormErrors.{generic_rejected, rest_part_once, rest_rejected}
use Rattle.rdata.proofs.GenericLaws.{begins_so, generic_once}
use Rattle.rdata.proofs.Reading.{rest_once}

-- the kind of an error, in a field or not
in_field_kind : (r e : RecordError) (field : ℕ) → r ≡ error_in_field field e → r.kind ≡ e.kind
in_field_kind r e field h = ap (λ (x : RecordError). x.kind) h

-- a reason, where the room suffices
reason_of : (room : Room) (f : RestForm) (tokens left : List TokenSeen) (old : List ℕ) (e : ErrorKind) → RefusesAs room f tokens old left e → e ≢ ShortBuf → f.reason tokens left e × ((octets : List ℕ) → f.spells tokens octets → ⊥)
reason_of room f tokens left old e (inl h) fits = absurd (fits h.0)
reason_of room f tokens left old e (inr h) fits = h

-- ---- RDATA of a shape

module _ (origin : Option (List (List ℕ))) (shape : Shape) (end : ℕ) (tokens : List TokenSeen) where
  abbrev fields : List Field
  fields = shape.fields.now

  abbrev form : RestForm
  form = rest_form origin shape.rest

  abbrev LengthError : List TokenSeen → List ℕ → List TokenSeen → List ℕ → RecordError → List ℕ → Type 0
  LengthError behind octets left middle r new = (left ≡ []) × Gains (λ back. form.spells behind back × IsWrongLength shape end behind (octets ++ back) r) middle new

  abbrev WhyTail : Room → List TokenSeen → List ℕ → List ℕ → RecordError → List TokenSeen → List ℕ → Type 0
  WhyTail room behind octets middle r left new = ParsesTailParts origin room shape.rest (length fields) end behind middle (Err r) left new ⊎ LengthError behind octets left middle r new

  abbrev WhyAfter : Room → List TokenSeen → List ℕ → List ℕ → RecordError → List TokenSeen → List ℕ → Type 0
  WhyAfter room behind octets middle r left new =
      ((r ≡ error_in_field (length fields - 1) (error_at (last_place fields tokens end) (wrong_length shape.length octets))) × (left ≡ behind) × (new ≡ middle) × HasWrongHash shape.length octets)
      ⊎ ((HasWrongHash shape.length octets → ⊥) × WhyTail room behind octets middle r left new)

  module _ (one two : Room) (behind left last : List TokenSeen) (octets middle center new after : List ℕ) (a b : RecordError) (fits : a.kind ≢ ShortBuf) (fit : b.kind ≢ ShortBuf) where
    parts_same : ParsesTailParts origin one shape.rest (length fields) end behind middle (Err a) left new → ParsesTailParts origin two shape.rest (length fields) end behind center (Err b) last after → (a ≡ b) × (left ≡ last)
    parts_same (e, part, is, h, of) (d, index, as_, k, own) =
        let why = reason_of one form behind left middle e.kind h.why (λ short. fits (in_field_kind a e _ is ∙ short)) in
        let reason = reason_of two form behind last center d.kind k.why (λ short. fit (in_field_kind b d _ as_ ∙ short)) in
        let same = rest_rejected origin shape.rest behind left last e.kind d.kind why.0 reason.0 in
        let parts = rest_part_once origin shape.rest behind last d.kind part index reason.0 (subst (λ l. IsRestPart origin shape.rest behind l part) same.0 of) own in
        let error : e ≡ d = h.at ∙ (λ i. error_at (next_place (same.0 i) end) (same.1 i)) ∙ sym k.at in
        (is ∙ (λ i. error_in_field (length fields + parts i) (error i)) ∙ sym as_, same.0)

    never_long : (room : Room) (r : RecordError) (rest : List TokenSeen) (start final : List ℕ) (o : List ℕ) → ParsesTailParts origin room shape.rest (length fields) end behind start (Err r) rest final → r.kind ≢ ShortBuf → form.spells behind o → ⊥
    never_long room r rest start final o (e, part, is, h, of) enough spelled =
        let why = reason_of room form behind rest start e.kind h.why (λ short. enough (in_field_kind r e _ is ∙ short)) in why.1 o spelled

    tail_same : WhyTail one behind octets middle a left new → WhyTail two behind octets center b last after → (a ≡ b) × (left ≡ last)
    tail_same (inl h) (inl k) = parts_same h k
    tail_same (inl h) (inr k) = let g = k.1 in absurd (never_long one a left middle new g.0 h fits g.1.0)
    tail_same (inr h) (inl k) = let g = h.1 in absurd (never_long two b last center after g.0 k fit g.1.0)
    tail_same (inr h) (inr k) =
        let g = h.1 in
        let w = k.1 in
        let back = rest_once origin shape.rest behind g.0 w.0 g.1.0 w.1.0 in
        (g.1.1.1 ∙ ap (λ o. error_in_field (length fields) (error_at (next_place behind end) (wrong_length shape.length (octets ++ o)))) back ∙ sym w.1.1.1, h.0 ∙ sym k.0)

    after_same : WhyAfter one behind octets middle a left new → WhyAfter two behind octets center b last after → (a ≡ b) × (left ≡ last)
    after_same (inl h) (inl k) = (h.0 ∙ sym k.0, h.1 ∙ sym k.1)
    after_same (inl h) (inr k) = absurd (k.0 h.3)
    after_same (inr h) (inl k) = absurd (h.0 k.3)
    after_same (inr h) (inr k) = tail_same h.1 k.1

  module _ (one two : Room) (left last : List TokenSeen) (old before new after : List ℕ) (a b : RecordError) (fits : a.kind ≢ ShortBuf) (fit : b.kind ≢ ShortBuf) where
    fields_same : ParsesAllFields origin one fields end tokens old (Err a) left new → ParsesAllFields origin two fields end tokens before (Err b) last after → (a ≡ b) × (left ≡ last)
    fields_same h k =
        let same = fields_refused_once origin fields one two tokens left last old before new after h.0 k.0 a.kind b.kind h.1 k.1 fits fit in
        (h.2 ∙ (λ i. error_in_field (same.0 i) (error_at (next_place (same.1 i) end) (same.2 i))) ∙ sym k.2, same.1)

    never_fields : (room : Room) (r : RecordError) (rest behind : List TokenSeen) (start final begun middle : List ℕ) → ParsesAllFields origin room fields end tokens start (Err r) rest final → r.kind ≢ ShortBuf → HasParsedFields origin fields tokens begun behind middle → ⊥
    never_fields room r rest behind start final begun middle h enough k = enough (only_room_lacks origin room fields tokens start h.0 r.kind rest final k.taken behind k.octets h.1 k.whole k.spelled).0

    behind_same : RefusesAfterFields origin one shape end tokens old a left new → RefusesAfterFields origin two shape end tokens before b last after → (a ≡ b) × (left ≡ last)
    behind_same h k =
        let x = h.taken in
        let y = k.taken in
        let same = fields_front origin fields x.taken h.behind y.taken k.behind x.octets y.octets x.spelled y.spelled (sym x.whole ∙ y.whole) in
        let why : WhyAfter one h.behind x.octets h.middle a left new = h.why in
        let moved : WhyAfter one k.behind y.octets h.middle a left new = subst (λ o. WhyAfter one k.behind o h.middle a left new) same.2 (subst (λ ts. WhyAfter one ts x.octets h.middle a left new) same.1 why) in
        after_same one two k.behind left last y.octets h.middle k.middle new after a b fits fit moved k.why

    pub shape_same : ReadsData origin one shape end tokens old (Err a) left new → ReadsData origin two shape end tokens before (Err b) last after → (a ≡ b) × (left ≡ last)
    shape_same h k = by h.0 k.0
      where
        by : ParsesAllFields origin one fields end tokens old (Err a) left new ⊎ RefusesAfterFields origin one shape end tokens old a left new
            → ParsesAllFields origin two fields end tokens before (Err b) last after ⊎ RefusesAfterFields origin two shape end tokens before b last after → (a ≡ b) × (left ≡ last)
        by (inl x) (inl y) = fields_same x y
        by (inl x) (inr y) = absurd (never_fields one a left y.behind old new before y.middle x fits y.taken)
        by (inr x) (inl y) = absurd (never_fields two b last x.behind before after old x.middle y fit x.taken)
        by (inr x) (inr y) = behind_same x y

pub shape_one_error : (origin : Option (List (List ℕ))) (shape : Shape) → HasOneError (λ room. ReadsData origin room shape)
shape_one_error origin shape = record {
  same = λ room wide end tokens left last old before new after a b h k fits fit. shape_same origin shape end tokens room wide left last old before new after a b fits fit h k;
  apart = λ room wide end tokens left last old before new after done e h k fit. fit (k.1 h.1.0 h.1.1).0;
}

-- ---- RDATA of a type

module _ (origin : Option (List (List ℕ))) (tokens : List TokenSeen) where
  -- all shapes of a type are spelled alike
  pub same_spelled : (found : Option TypeShape) (a b : Shape) (octets : List ℕ) → HasShape found a → HasShape found b → SpellsData origin a tokens octets → SpellsData origin b tokens octets
  same_spelled None a b octets h k own = absurd h
  same_spelled (Some s) a b octets h k own = record {
    first = own.first;
    last = own.last;
    front = own.front;
    back = own.back;
    tokens_are = own.tokens_are;
    octets_are = own.octets_are;
    fields = subst (λ fs. SpellsFields origin fs own.first own.front) (h.0 ∙ sym k.0) own.fields;
    rest = subst (λ r. (rest_form origin r).spells own.last own.back) (h.1 ∙ sym k.1) own.rest;
    lengths = subst (λ l. HasLength l octets) (h.2 ∙ sym k.2) own.lengths;
  }

-- and rejected alike
module _ (origin : Option (List (List ℕ))) (room : Room) (end : ℕ) (tokens : List TokenSeen) (old : List ℕ) (r : RecordError) (left : List TokenSeen) (new : List ℕ) where
  abbrev WhyParts : List Field → Rest → LengthRule → List TokenSeen → List ℕ → List ℕ → Type 0
  WhyParts fields rest lengths behind octets middle =
      ((r ≡ error_in_field (length fields - 1) (error_at (last_place fields tokens end) (wrong_length lengths octets))) × (left ≡ behind) × (new ≡ middle) × HasWrongHash lengths octets)
      ⊎ ((HasWrongHash lengths octets → ⊥) × (ParsesTailParts origin room rest (length fields) end behind middle (Err r) left new
      ⊎ ((left ≡ []) × Gains (λ back. (rest_form origin rest).spells behind back × (HasLength lengths (octets ++ back) → ⊥) × (r ≡ error_in_field (length fields) (error_at (next_place behind end) (wrong_length lengths (octets ++ back))))) middle new)))

  behind_alike : (s : TypeShape) (a b : Shape) → IsShapeOf s a → IsShapeOf s b → RefusesAfterFields origin room a end tokens old r left new → RefusesAfterFields origin room b end tokens old r left new
  behind_alike s a b x y h =
      let t = h.taken in
      let same = x.0 ∙ sym y.0 in
      let whole : WhyParts a.fields.now a.rest a.length h.behind t.octets h.middle = by_parts a h.behind t.octets h.middle h.why in
      let moved : WhyParts b.fields.now b.rest b.length h.behind t.octets h.middle =
      subst (λ l. WhyParts b.fields.now b.rest l h.behind t.octets h.middle) (x.2 ∙ sym y.2) (subst (λ q. WhyParts b.fields.now q a.length h.behind t.octets h.middle) (x.1 ∙ sym y.1) (subst (λ fs. WhyParts fs a.rest a.length h.behind t.octets h.middle) same whole)) in
      record {
        behind = h.behind;
        middle = h.middle;
        taken = record { taken = t.taken; octets = t.octets; whole = t.whole; spelled = subst (λ fs. SpellsFields origin fs t.taken t.octets) same t.spelled; gained = t.gained };
        why = to_parts b h.behind t.octets h.middle moved;
      }
    where
      by_parts : (shape : Shape) (behind : List TokenSeen) (octets middle : List ℕ) → WhyAfter origin shape end tokens room behind octets middle r left new → WhyParts shape.fields.now shape.rest shape.length behind octets middle
      by_parts shape behind octets middle (inl h) = inl h
      by_parts shape behind octets middle (inr (none, inl h)) = inr (none, inl h)
      by_parts shape behind octets middle (inr (none, inr h)) = let g = h.1 in inr (none, inr (h.0, (g.0, (g.1.0, g.1.1.0, g.1.1.1), g.2)))

      to_parts : (shape : Shape) (behind : List TokenSeen) (octets middle : List ℕ) → WhyParts shape.fields.now shape.rest shape.length behind octets middle → WhyAfter origin shape end tokens room behind octets middle r left new
      to_parts shape behind octets middle (inl h) = inl h
      to_parts shape behind octets middle (inr (none, inl h)) = inr (none, inl h)
      to_parts shape behind octets middle (inr (none, inr h)) = let g = h.1 in inr (none, inr (h.0, (g.0, (g.1.0, (g.1.1, g.1.2)), g.2)))

  same_rejected : (found : Option TypeShape) (a b : Shape) → HasShape found a → HasShape found b → ReadsData origin room a end tokens old (Err r) left new → ReadsData origin room b end tokens old (Err r) left new
  same_rejected None a b x y h = absurd x
  same_rejected (Some s) a b x y h = (
    elim h.0 [
      | inl fields ↦ inl (subst (λ fs. ParsesAllFields origin room fs end tokens old (Err r) left new) (x.0 ∙ sym y.0) fields)
      | inr behind ↦ inr (behind_alike s a b x y behind)
    ],
    λ octets spelled. h.1 octets (same_spelled origin tokens (Some s) b a octets y x spelled),
    h.2,
  )

module _ (found : Option TypeShape) (end : ℕ) (tokens : List TokenSeen) where
  generic_same : (one two : Room) (left last : List TokenSeen) (old before new after : List ℕ) (a b : RecordError) → a.kind ≢ ShortBuf → b.kind ≢ ShortBuf
      → RefusesGeneric found one end tokens old a left new → RefusesGeneric found two end tokens before b last after → (a ≡ b) × (left ≡ last)
  generic_same one two left last old before new after a b fits fit (inl h) (inl k) =
      let why = reason_of one generic_form tokens left old a.kind h.why fits in
      let reason = reason_of two generic_form tokens last before b.kind k.why fit in
      let same = generic_rejected tokens left last a.kind b.kind why.0 reason.0 in
      (h.at ∙ (λ i. error_at (next_place (same.0 i) end) (same.1 i)) ∙ sym k.at, same.0)
  generic_same one two left last old before new after a b fits fit (inl h) (inr k) =
      let g = k.2 in let why = reason_of one generic_form tokens left old a.kind h.why fits in absurd (why.1 g.0 g.1.0)
  generic_same one two left last old before new after a b fits fit (inr h) (inl k) =
      let g = h.2 in let why = reason_of two generic_form tokens last before b.kind k.why fit in absurd (why.1 g.0 g.1.0)
  generic_same one two left last old before new after a b fits fit (inr h) (inr k) = (h.0 ∙ sym k.0, h.1 ∙ sym k.1)

module _ (origin : Option (List (List ℕ))) (rtype : RecordType) (one two : Room) (end : ℕ) (tokens left last : List TokenSeen) (old before new after : List ℕ) (a b : RecordError) (fits : a.kind ≢ ShortBuf) (fit : b.kind ≢ ShortBuf) where
  own_same : (x y : Shape) → HasShape (shape_of_code rtype) x → HasShape (shape_of_code rtype) y → ReadsData origin one x end tokens old (Err a) left new → ReadsData origin two y end tokens before (Err b) last after → (a ≡ b) × (left ≡ last)
  own_same x y s t h k =
      shape_same origin y end tokens one two left last old before new after a b fits fit (same_rejected origin one end tokens old a left new (shape_of_code rtype) x y s t h) k

  no_shape : (x : Shape) → shape_of_code rtype ≡ None → HasShape (shape_of_code rtype) x → ⊥
  no_shape x none h = subst (λ f. HasShape f x) none h

  pub data_same : RefusesData origin one rtype end tokens old a left new → RefusesData origin two rtype end tokens before b last after → (a ≡ b) × (left ≡ last)
  data_same (inl h) (inl k) = (h.0 ∙ sym k.0, h.1 ∙ sym k.1)
  data_same (inl h) (inr (inl k)) = absurd (h.3 k.0)
  data_same (inl h) (inr (inr (inl k))) = absurd (h.3 k.5)
  data_same (inl h) (inr (inr (inr k))) = absurd (h.3 k.2)
  data_same (inr (inl h)) (inl k) = absurd (k.3 h.0)
  data_same (inr (inl h)) (inr (inl k)) = generic_same (shape_of_code rtype) end tokens one two left last old before new after a b fits fit h.2 k.2
  data_same (inr (inl h)) (inr (inr (inl k))) = absurd (k.3 h.1)
  data_same (inr (inl h)) (inr (inr (inr k))) = absurd (k.0 h.1)
  data_same (inr (inr (inl h))) (inl k) = absurd (k.3 h.5)
  data_same (inr (inr (inl h))) (inr (inl k)) = absurd (h.3 k.1)
  data_same (inr (inr (inl h))) (inr (inr (inl k))) = (h.0 ∙ sym k.0, h.1 ∙ sym k.1)
  data_same (inr (inr (inl h))) (inr (inr (inr k))) = absurd (no_shape k.1.0 h.4 k.1.1)
  data_same (inr (inr (inr h))) (inl k) = absurd (k.3 h.2)
  data_same (inr (inr (inr h))) (inr (inl k)) = absurd (h.0 k.1)
  data_same (inr (inr (inr h))) (inr (inr (inl k))) = absurd (no_shape h.1.0 k.4 h.1.1)
  data_same (inr (inr (inr h))) (inr (inr (inr k))) = own_same h.1.0 k.1.0 h.1.1 k.1.1 h.1.2 k.1.2

type_same : (origin : Option (List (List ℕ))) (rtype : RecordType) → (one two : Room) (end : ℕ) (tokens left last : List TokenSeen) (old before new after : List ℕ) (a b : RecordError)
    → ReadsType origin one rtype end tokens old (Err a) left new → ReadsType origin two rtype end tokens before (Err b) last after → a.kind ≢ ShortBuf → b.kind ≢ ShortBuf → (a ≡ b) × (left ≡ last)
type_same origin rtype one two end tokens left last old before new after a b h k fits fit =
    let first = ap (λ (x : RecordError). x.kind) h.1 in
    let second = ap (λ (x : RecordError). x.kind) k.1 in
    let same = data_same origin rtype one two end tokens left last old before new after h.0 k.0 (λ short. fits (first ∙ short)) (λ short. fit (second ∙ short)) h.2 k.2 in
    (h.1 ∙ ap (error_of_type rtype) same.0 ∙ sym k.1, same.1)

-- tokens of RDATA are not rejected, if the room suffices
module _ (found : Option TypeShape) (room : Room) (end : ℕ) (tokens : List TokenSeen) (octets : List ℕ) (old : List ℕ) (r : RecordError) (left : List TokenSeen) (new : List ℕ) (fits : r.kind ≢ ShortBuf) where
  generic_apart : SpellsGenericData found tokens octets → RefusesGeneric found room end tokens old r left new → ⊥
  generic_apart h (inl k) = let why = reason_of room generic_form tokens left old r.kind k.why fits in why.1 octets h.0
  generic_apart h (inr k) =
      let gained = k.2 in
      let own = gained.1 in
      let same : octets ≡ gained.0 = generic_once tokens octets gained.0 h.0 own.0 in
      own.1.2 (subst (IsDataOf own.1.0) same (h.1 own.1.0 own.1.1))

module _ (origin : Option (List (List ℕ))) (rtype : RecordType) (room : Room) (end : ℕ) (tokens : List TokenSeen) (octets old : List ℕ) (r : RecordError) (left : List TokenSeen) (new : List ℕ) (fits : r.kind ≢ ShortBuf) where
  own_apart : (x y : Shape) → HasShape (shape_of_code rtype) x → HasShape (shape_of_code rtype) y → SpellsData origin x tokens octets → ReadsData origin room y end tokens old (Err r) left new → ⊥
  own_apart x y s t h k = fits (k.1 octets (same_spelled origin tokens (shape_of_code rtype) x y octets s t h)).0

  data_apart : SpellsTypeData origin rtype tokens octets → RefusesData origin room rtype end tokens old r left new → ⊥
  data_apart h (inl k) = k.3 h.0
  data_apart h (inr (inl k)) = elim h.1 [ inl generic ↦ generic_apart (shape_of_code rtype) room end tokens octets old r left new fits generic k.2 | inr own ↦ own.0 k.1 ]
  data_apart h (inr (inr (inl k))) = elim h.1 [ inl generic ↦ k.3 (begins_so tokens octets generic.0) | inr own ↦ subst (λ f. HasShape f own.1.0) k.4 own.1.1 ]
  data_apart h (inr (inr (inr k))) = elim h.1 [ inl generic ↦ k.0 (begins_so tokens octets generic.0) | inr own ↦ own_apart own.1.0 k.1.0 own.1.1 k.1.1 own.1.2 k.1.2 ]

type_apart : (origin : Option (List (List ℕ))) (rtype : RecordType) (room other : Room) (end : ℕ) (tokens left last : List TokenSeen) (old before new after : List ℕ) (done : Unit {0}) (e : RecordError)
    → ReadsType origin room rtype end tokens old (Ok done) left new → ReadsType origin other rtype end tokens before (Err e) last after → e.kind ≢ ShortBuf → ⊥
type_apart origin rtype room other end tokens left last old before new after done e h k fits =
    let kind = ap (λ (x : RecordError). x.kind) k.1 in
    data_apart origin rtype other end tokens h.1.0 before k.0 last after (λ short. fits (kind ∙ short)) h.1.1 k.2

pub data_one_error : HaveOneDataError
data_one_error = record {
  rests = rest_rejected;
  parts = rest_part_once;
  shapes = shape_one_error;
  types = λ origin rtype. record {
    same = type_same origin rtype;
    apart = type_apart origin rtype;
  };
}
