-- Fields parsed one after another.
use Rattle.std.proofs.Common.{ℕ, Option, zero, suc, replicate, Some, ◌≡◌, ◌<◌, ◌≤◌, ◌+◌, ◌-◌, arith, Err, List, [], ◌∷◌, ◌++◌, length, take, drop, get_or, refl, sym, subst, ap, ◌∙◌, length-take-le}
use Rattle.std.proofs.Math.Seq.{take-suc, take-length, drop-append_seam}
use Rattle.std.proofs.lemmas.List.{append_assoc, append-nil, length-replicate}
use Rattle.std.specs.Prelude.{slice_get, Result, Ok}
use Rattle.std.specs.Result.{IsErrAnd}
use Rattle.dns_lexer.specs.EntryTokens.{TokenSeen}
use Rattle.std.proofs.lemmas.Option.{none-some, slice_get-get_or}
use Rattle.dns_octets.specs.Room.{Room}
use Rattle.rdata_values.specs.declared.error.ErrorKind.{ErrorKind}
use Rattle.dns_octets.specs.Appending.{Extends, Gains}
use Rattle.rdata_fields.specs.declared.field.Field.{Field}
use Rattle.rdata_fields.specs.RecordErrors.{IsErrorAt, IsErrorInField, error_at, error_in_field}
use Rattle.rdata_fields.specs.declared.record_error.RecordError.{RecordError}
use Rattle.rdata_fields.specs.Source.{next_place}
use Rattle.rdata_fields.specs.Parsing.{SpellsField, SpellsFields, HasParsedFields, RefusesAField, RefusesNext, SpellsEach, ParsesEachAs, ParsesField}

-- the offset is that of the rejected token, or of the entry's end
refused_there : (begun end : ℕ) (left rest : List TokenSeen) (e : RecordError) → end ≡ begun → rest ≡ left → IsErrorAt (next_place left end) e → IsErrorAt (next_place rest begun) e
refused_there begun end left rest e same kept h = h ∙ (λ i. error_at (next_place (sym kept i) (same i)) e.kind)

pub in_field_too : (field offset : ℕ) (e : RecordError) → IsErrorAt offset e → IsErrorInField field offset (error_in_field field e)
in_field_too field offset e h = ap (error_in_field field) h

module _ (origin : Option (List (List ℕ))) where
  pub none_taken : (tokens : List TokenSeen) (old : List ℕ) → HasParsedFields origin [] tokens old tokens old
  none_taken tokens old = record { taken = []; octets = []; whole = refl; spelled = refl; gained = sym (append-nil old) }

  spells_more : (fields : List Field) (tokens : List TokenSeen) (octets : List ℕ) (f : Field) (t : TokenSeen) (more : List ℕ) → SpellsFields origin fields tokens octets → SpellsField origin f t more
      → SpellsFields origin (fields ++ f ∷ []) (tokens ++ t ∷ []) (octets ++ more)
  spells_more [] [] octets f t more h k = (more, [], ap (λ o. o ++ more) h ∙ sym (append-nil more), k, refl)
  spells_more [] (u ∷ us) octets f t more h k = absurd h
  spells_more (g ∷ gs) [] octets f t more h k = absurd h
  spells_more (g ∷ gs) (u ∷ us) octets f t more h k =
      (h.0, h.1 ++ more, ap (λ o. o ++ more) h.2 ∙ append_assoc h.0 h.1 more, h.3, spells_more gs us h.1 f t more h.4 k)

  pub one_more : (fields : List Field) (f : Field) (t : TokenSeen) (tokens left rest : List TokenSeen) (old middle new : List ℕ) → HasParsedFields origin fields tokens old left middle → left ≡ t ∷ rest
      → Gains (SpellsField origin f t) middle new → HasParsedFields origin (fields ++ f ∷ []) tokens old rest new
  one_more fields f t tokens left rest old middle new h is gains = record {
    taken = h.taken ++ t ∷ [];
    octets = h.octets ++ gains.0;
    whole = h.whole ∙ ap (λ l. h.taken ++ l) is ∙ sym (append_assoc h.taken (t ∷ []) rest);
    spelled = spells_more fields h.taken h.octets f t gains.0 h.spelled gains.1;
    gained = gains.2 ∙ ap (λ o. o ++ gains.0) h.gained ∙ append_assoc old h.octets gains.0;
  }

  pub taken_next : (fields : List Field) (place : ℕ) (d : Field) (t : TokenSeen) (tokens left rest : List TokenSeen) (old middle new : List ℕ) → place < length fields
      → HasParsedFields origin (take place fields) tokens old left middle → left ≡ t ∷ rest → Gains (SpellsField origin (get_or fields place d) t) middle new → HasParsedFields origin (take (place + 1) fields) tokens old rest new
  taken_next fields place d t tokens left rest old middle new here h is gains =
      let next : suc place ≡ place + 1 = omega arith in
      subst (λ fs. HasParsedFields origin fs tokens old rest new) (sym (take-suc fields place d here) ∙ ap (λ n. take n fields) next) (one_more (take place fields) (get_or fields place d) t tokens left rest old middle new h is gains)

  pub all_taken : (fields : List Field) (place : ℕ) (tokens left : List TokenSeen) (old new : List ℕ) → length fields ≤ place → place ≤ length fields → HasParsedFields origin (take place fields) tokens old left new → HasParsedFields origin fields tokens old left new
  all_taken fields place tokens left old new from to h =
      let same : place ≡ length fields = omega (arith, from, to) in subst (λ fs. HasParsedFields origin fs tokens old left new) (ap (λ n. take n fields) same ∙ take-length fields) h

  pub refused_first : (room : Room) (f : Field) (end : ℕ) (t : TokenSeen) (tokens : List TokenSeen) (old new : List ℕ) (at : ℕ) (why : ErrorKind) → Some t ≡ slice_get tokens 0 → at ≡ next_place tokens end
      → RefusesNext origin room f (t ∷ []) old why → Extends old new → ParsesField origin room f end tokens old (Err (error_at at why)) tokens new
  refused_first room f end t [] old new at why h is refused extends = absurd (none-some t (sym h))
  refused_first room f end t (u ∷ us) old new at why h is refused extends =
      let same : t ≡ u = cc h in (refl, ap (λ n. error_at n why) is, subst (λ v. RefusesNext origin room f (v ∷ []) old why) same refused, extends)

  pub refused_at : (room : Room) (fields : List Field) (d : Field) (begun end : ℕ) (tokens left rest : List TokenSeen) (old middle new : List ℕ) (place : ℕ) (e : RecordError) → end ≡ begun → place < length fields
      → HasParsedFields origin (take place fields) tokens old left middle → ParsesField origin room (get_or fields place d) end left middle (Err e) rest new
      → RefusesAField origin room fields tokens old place e.kind rest new × IsErrorAt (next_place rest begun) e
  refused_at room fields d begun end tokens left rest old middle new place e same here h k = (
    record {
      field = get_or fields place d;
      is_field = slice_get-get_or fields place d here;
      middle = middle;
      before = subst (λ l. HasParsedFields origin (take place fields) tokens old l middle) (sym k.0) h;
      why = subst (λ l. RefusesNext origin room (get_or fields place d) l middle e.kind) (sym k.0) k.2;
      extends = k.3;
    },
    refused_there begun end left rest e same k.0 k.1,
  )

  replicate_more : {A : Type 0} (count : ℕ) (x : A) → replicate count x ++ x ∷ [] ≡ replicate (suc count) x
  replicate_more zero x = refl
  replicate_more (suc count) x = ap (λ xs. x ∷ xs) (replicate_more count x)

  pub as_many : (fields : List Field) (tokens : List TokenSeen) (octets : List ℕ) → SpellsFields origin fields tokens octets → length fields ≡ length tokens
  as_many [] [] octets h = refl
  as_many [] (t ∷ ts) octets h = absurd h
  as_many (f ∷ fs) [] octets h = absurd h
  as_many (f ∷ fs) (t ∷ ts) octets h = ap suc (as_many fs ts h.1 h.4)

  -- the tokens after those that are read
  pub left_behind : (fields : List Field) (place : ℕ) (tokens left : List TokenSeen) (old new : List ℕ) → place ≤ length fields → HasParsedFields origin (take place fields) tokens old left new → left ≡ drop place tokens
  left_behind fields place tokens left old new few h =
      let long : length h.taken ≡ place = sym (as_many (take place fields) h.taken h.octets h.spelled) ∙ length-take-le place fields few in
      sym (ap (λ n. drop n tokens) (sym long) ∙ ap (drop (length h.taken)) h.whole ∙ drop-append_seam h.taken left)

  pub next_last : (fields : List Field) (place begun end at : ℕ) (tokens left : List TokenSeen) (old new : List ℕ) → place ≤ length fields → HasParsedFields origin (take place fields) tokens old left new → end ≡ begun → at ≡ next_place left end
      → at ≡ next_place (drop (place + 1 - 1) tokens) begun
  next_last fields place begun end at tokens left old new few h ends is =
      let same : place ≡ place + 1 - 1 = omega arith in
      is ∙ ap (next_place left) ends ∙ ap (λ l. next_place l begun) (left_behind fields place tokens left old new few h) ∙ ap (λ n. next_place (drop n tokens) begun) same

  pub take_last : {A : Type 0} (count : ℕ) (x : A) → take count (replicate (suc count) x) ≡ replicate count x
  take_last zero x = refl
  take_last (suc count) x = ap (λ xs. x ∷ xs) (take_last count x)

  pub get_last : {A : Type 0} (count : ℕ) (x : A) → slice_get (replicate (suc count) x) count ≡ Some x
  get_last zero x = refl
  get_last (suc count) x = get_last count x

  refused_last : (f : Field) (tokens : List TokenSeen) (old : List ℕ) (room : Room) (count begun end : ℕ) (left rest : List TokenSeen) (middle new : List ℕ) (e : RecordError) → end ≡ begun
      → HasParsedFields origin (replicate count f) tokens old left middle → ParsesField origin room f end left middle (Err e) rest new
      → RefusesAField origin room (replicate (suc count) f) tokens old count e.kind rest new × IsErrorAt (next_place rest begun) e
  refused_last f tokens old room count begun end left rest middle new e same h k = (
    record {
      field = f;
      is_field = get_last count f;
      middle = middle;
      before = subst (λ fs. HasParsedFields origin fs tokens old rest middle) (sym (take_last count f)) (subst (λ l. HasParsedFields origin (replicate count f) tokens old l middle) (sym k.0) h);
      why = subst (λ l. RefusesNext origin room f l middle e.kind) (sym k.0) k.2;
      extends = k.3;
    },
    refused_there begun end left rest e same k.0 k.1,
  )

  -- the first tokens are parsed, each as the same field
  abbrev pub HasTakenSome : Field → List TokenSeen → List ℕ → List TokenSeen → List ℕ → Type 0
  HasTakenSome f tokens old left new = (count : ℕ) × HasParsedFields origin (replicate count f) tokens old left new

  module _ (f : Field) (tokens : List TokenSeen) (old : List ℕ) where
    pub some_none : HasTakenSome f tokens old tokens old
    some_none = (0, none_taken tokens old)

    pub some_more : (left rest : List TokenSeen) (middle new : List ℕ) → HasTakenSome f tokens old left middle → (t : TokenSeen) × (left ≡ t ∷ rest) × Gains (SpellsField origin f t) middle new
        → HasTakenSome f tokens old rest new
    some_more left rest middle new h k =
        (suc h.0, subst (λ fs. HasParsedFields origin fs tokens old rest new) (replicate_more h.0 f) (one_more (replicate h.0 f) f k.0 tokens left rest old middle new h.1 k.1 k.2))

    pub some_all : (left : List TokenSeen) (new : List ℕ) → left ≡ [] → HasTakenSome f tokens old left new → Gains (SpellsEach origin f tokens) old new
    some_all left new none h =
        let whole : tokens ≡ h.1.taken = h.1.whole ∙ ap (λ l. h.1.taken ++ l) none ∙ append-nil h.1.taken in
        let same : h.0 ≡ length h.1.taken = sym (length-replicate h.0 f) ∙ as_many (replicate h.0 f) h.1.taken h.1.octets h.1.spelled in
        (h.1.octets, subst (λ ts. SpellsEach origin f ts h.1.octets) (sym whole) (subst (λ n. SpellsFields origin (replicate n f) h.1.taken h.1.octets) same h.1.spelled), h.1.gained)

    pub some_refused : (room : Room) (begun end : ℕ) (left rest : List TokenSeen) (middle new : List ℕ) (e : RecordError) → end ≡ begun → HasTakenSome f tokens old left middle
        → ParsesField origin room f end left middle (Err e) rest new
        → (count : ℕ) × RefusesAField origin room (replicate (suc count) f) tokens old count e.kind rest new × IsErrorAt (next_place rest begun) e
    some_refused room begun end left rest middle new e same h k = let last = refused_last f tokens old room h.0 begun end left rest middle new e same h.1 k in (h.0, last.0, last.1)

    -- the error that is returned is that of the field
    pub refused_with : (room : Room) (end : ℕ) (rest : List TokenSeen) (new : List ℕ) (r : Result (Unit {0}) RecordError) (e : RecordError) → IsErrAnd r (λ d. d ≡ e)
        → ParsesEachAs origin room f end tokens old (Err e) rest new → ParsesEachAs origin room f end tokens old r rest new
    refused_with room end rest new (Ok u) e h k = absurd h
    refused_with room end rest new (Err d) e h k = subst (λ x. ParsesEachAs origin room f end tokens old (Err x) rest new) (sym h) k
