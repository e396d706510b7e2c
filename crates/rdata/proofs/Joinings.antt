-- Words of digits after one another.
use Rattle.std.proofs.Common.{ℕ, false, true≢false, ◌≡◌, ◌≢◌, ◌<◌, ◌+◌, List, [], ◌∷◌, ◌++◌, length, refl, sym, ap, subst, ◌∙◌, inl, inr, arith, append-nil}
use Rattle.std.proofs.lemmas.List.{append_assoc}
use Rattle.dns_octets.specs.Room.{Room}
use Rattle.dns_octets.specs.Appending.{Extends, Gains, ExceedsRoom}
use Rattle.rdata_tokens.specs.Reading.{DigitsState, HasRead, AcceptsPiece, RefusesPiece}
use Rattle.rdata_tokens.specs.Spelled.{SpellsDigits, BeginsWithDigits, base_of, illegal, unfinished}
use Rattle.rdata_tokens.specs.Tokens.{DigitsContinue, RefusesToken}
use Rattle.rdata_tokens.specs.declared.kind.DigitsKind.{DigitsKind}
use Rattle.rdata_tokens.specs.declared.kind.DigitsKind.TheVariants.{Hex, Base64}
use Rattle.rdata_fields.specs.RecordErrors.{error_at}
use Rattle.rdata_fields.specs.declared.record_error.RecordError.{RecordError}
use Rattle.rdata_values.specs.declared.error.ErrorKind.{ErrorKind}
use Rattle.rdata_values.specs.declared.error.ErrorKind.TheVariants.{ShortBuf, TrailingBase64}
use Rattle.rdata_tokens.proofs.Pieces.{takes_none, takes_on, reads_on, reads_goes_on, refuses_behind, is_short}
use Rattle.rdata_tokens.proofs.Spelling.{known, spells_once}
use Rattle.rdata_tokens.proofs.Together.{only_room}
use Rattle.rdata_tokens.proofs.TakenDigit.{least_begun}
use Rattle.rdata_tokens.proofs.TokenLemmas.{token_refused}
use Rattle.rdata_fields.specs.Source.{next_place}
use Rattle.dns_lexer.specs.EntryTokens.{TokenSeen}
use Rattle.rdata.specs.Digits.{joined_words, AreUnquoted, SpellsJoined, ExceedsDigits, IsDigitsFault, JoinedReason, digits_form}
use Rattle.rdata.specs.Pieces.{PushesDigits, RefusesPush}
use Rattle.rdata.specs.Rests.{RefusesAs, RefusesRest}
use Rattle.rdata_fields.specs.RecordErrors.{IsErrorAt}
use Rattle.rdata.proofs.ErrorPlaces.{placed, moved}

-- from a first state on, some words are pushed
pub record HasJoined (first s : DigitsState) (tokens : List TokenSeen) (old : List ℕ) (left : List TokenSeen) (new : List ℕ) : Type 0 where
  pub before : List TokenSeen
  pub whole : tokens ≡ before ++ left
  pub unquoted : AreUnquoted before
  pub gained : List ℕ
  pub pieces : AcceptsPiece first (joined_words before) gained s
  pub octets : new ≡ old ++ gained

pub joined_parts : (xs ys : List TokenSeen) → joined_words (xs ++ ys) ≡ joined_words xs ++ joined_words ys
joined_parts [] ys = refl
joined_parts (x ∷ xs) ys = ap (λ t. x.text ++ t) (joined_parts xs ys) ∙ sym (append_assoc x.text (joined_words xs) (joined_words ys))

joined_last : (xs : List TokenSeen) (t : TokenSeen) → joined_words (xs ++ t ∷ []) ≡ joined_words xs ++ t.text
joined_last xs t = joined_parts xs (t ∷ []) ∙ ap (λ z. joined_words xs ++ z) (append-nil t.text)

unquoted_more : (xs : List TokenSeen) (t : TokenSeen) → AreUnquoted xs → t.is_quoted ≡ false → AreUnquoted (xs ++ t ∷ [])
unquoted_more [] t h plain = (plain, tt)
unquoted_more (x ∷ xs) t h plain = (h.0, unquoted_more xs t h.1 plain)

pub unquoted_at : (xs ts : List TokenSeen) (t : TokenSeen) → AreUnquoted (xs ++ t ∷ ts) → t.is_quoted ≡ false
unquoted_at [] ts t h = h.0
unquoted_at (x ∷ xs) ts t h = unquoted_at xs ts t h.1

pub none_joined : (s : DigitsState) (tokens : List TokenSeen) (old : List ℕ) → HasJoined s s tokens old tokens old
none_joined s tokens old = record { before = []; whole = refl; unquoted = tt; gained = []; pieces = takes_none s; octets = sym (append-nil old) }

pub more_joined : (first s pushed : DigitsState) (tokens left rest : List TokenSeen) (old middle new : List ℕ) → HasJoined first s tokens old left middle
    → (t : TokenSeen) × (left ≡ t ∷ rest) × PushesDigits s t middle pushed new → HasJoined first pushed tokens old rest new
more_joined first s pushed tokens left rest old middle new h k = let t = k.0 in let is = k.1 in let p = k.2 in record {
  before = h.before ++ t ∷ [];
  whole = h.whole ∙ ap (λ l. h.before ++ l) is ∙ sym (append_assoc h.before (t ∷ []) rest);
  unquoted = unquoted_more h.before t h.unquoted p.plain;
  gained = h.gained ++ p.gained;
  pieces = subst (λ text. AcceptsPiece first text (h.gained ++ p.gained) pushed) (sym (joined_last h.before t)) (takes_on first s pushed (joined_words h.before) t.text h.gained p.gained h.pieces p.piece);
  octets = p.octets ∙ ap (λ o. o ++ p.gained) h.octets ∙ append_assoc old h.gained p.gained;
}

illegal_goes_on : (kind : DigitsKind) → illegal kind ≡ unfinished kind → ⊥
illegal_goes_on Hex is = cc is
illegal_goes_on Base64 is = cc is

trailing_goes_on : (kind : DigitsKind) → TrailingBase64 ≡ unfinished kind → ⊥
trailing_goes_on Hex is = cc is
trailing_goes_on Base64 is = cc is

module _ (kind : DigitsKind) (first s : DigitsState) (same : first.kind ≡ kind) (fresh : HasRead first [] []) (tokens left : List TokenSeen) (old new : List ℕ) (h : HasJoined first s tokens old left new) where
  kept : s.kind ≡ kind
  kept = h.pieces.kept ∙ same

  read : HasRead s (joined_words h.before) h.gained
  read = reads_on first s [] [] (joined_words h.before) h.gained fresh h.pieces

  all_before : left ≡ [] → tokens ≡ h.before
  all_before none = h.whole ∙ ap (λ l. h.before ++ l) none ∙ append-nil h.before

  goes : DigitsContinue kind (joined_words h.before)
  goes =
      let on = reads_goes_on s (joined_words h.before) h.gained read in
      subst (λ k. DigitsContinue k (joined_words h.before)) kept (on.0, h.gained ++ on.1, on.2)

  pub all_joined : left ≡ [] → ((text octets : List ℕ) → HasRead s text octets → SpellsDigits (base_of s.kind) text octets) → Gains (SpellsJoined (base_of kind) tokens) old new
  all_joined none spelled =
      let digits : SpellsDigits (base_of kind) (joined_words h.before) h.gained = subst (λ k. SpellsDigits (base_of k) (joined_words h.before) h.gained) kept (spelled (joined_words h.before) h.gained read) in
      (h.gained, subst (λ ts. SpellsJoined (base_of kind) ts h.gained) (sym (all_before none)) (h.unquoted, digits), h.octets)

  pub ends_within : (room : Room) (begun end at : ℕ) (e : ErrorKind) → end ≡ begun → left ≡ [] → at ≡ next_place left end → e ≡ unfinished s.kind
      → ((text octets : List ℕ) → HasRead s text octets → (v : List ℕ) → SpellsDigits (base_of s.kind) text v → ⊥)
      → RefusesRest room (digits_form kind) begun tokens old (error_at at e) left new
  ends_within room begun end at e ends none place is never =
      let unspelled : (v : List ℕ) → SpellsDigits (base_of kind) (joined_words h.before) v → ⊥ =
      subst (λ (k : DigitsKind). (v : List ℕ) → SpellsDigits (base_of k) (joined_words h.before) v → ⊥) kept (never (joined_words h.before) h.gained read) in
      record {
        at = placed e (place ∙ ap (next_place left) ends);
        why = inr (
          (h.before, h.whole, (h.unquoted, goes, subst (λ l. JoinedReason kind h.before l e) (sym none) (is ∙ ap unfinished kept, unspelled))),
          λ octets sp. unspelled octets (subst (λ ts. SpellsJoined (base_of kind) ts octets) (all_before none) sp).1,
        );
        extends = (h.gained, h.octets);
      }

  never_ends : (room : Room) (text : List ℕ) (d : ErrorKind) → d ≢ ShortBuf → RefusesPiece room first text old d → d ≡ unfinished kind → ⊥
  never_ends room text d other r ends = elim r.why [
    | inl short ↦ other short
    | inr (inl bad) ↦ illegal_goes_on kind (ap illegal (sym same) ∙ sym bad.0 ∙ ends)
    | inr (inr bad) ↦ trailing_goes_on kind (sym bad.0 ∙ ends)
  ]

  fault_of : (room : Room) (text : List ℕ) (d : ErrorKind) → d ≢ ShortBuf → RefusesPiece room first text old d → RefusesToken kind room text old d → IsDigitsFault kind text d
  fault_of room text d other piece r = elim r.why [
    | inl short ↦ absurd (other short)
    | inr (inl ends) ↦ absurd (never_ends room text d other piece ends.0)
    | inr (inr f) ↦ f
  ]

  refused_digits : (room : Room) (t : TokenSeen) (ts : List TokenSeen) (d : ErrorKind) → left ≡ t ∷ ts → t.is_quoted ≡ false → RefusesPiece room s t.text new d
      → RefusesAs room (digits_form kind) tokens old (t ∷ ts) d
  refused_digits room t ts d is plain r =
      let text : List ℕ = joined_words h.before ++ t.text in
      let all : joined_words tokens ≡ text ++ joined_words ts = ap joined_words (h.whole ∙ ap (λ l. h.before ++ l) is) ∙ joined_parts h.before (t ∷ ts) ∙ sym (append_assoc (joined_words h.before) t.text (joined_words ts)) in
      let behind : RefusesPiece room first text old d = refuses_behind room first s (joined_words h.before) t.text h.gained old new d h.pieces h.octets r in
      let token : RefusesToken kind room text old d = token_refused room first text old d fresh behind kind same in
      let only : (octets : List ℕ) → SpellsJoined (base_of kind) tokens octets → (d ≡ ShortBuf) × ((later : List ℕ) × (octets ≡ [] ++ later) × (room.fits < length old + length later)) =
      λ octets sp. (
      let digits : SpellsDigits (base_of first.kind) (text ++ joined_words ts) octets = subst (λ k. SpellsDigits (base_of k) (text ++ joined_words ts) octets) (sym same) (subst (λ z. SpellsDigits (base_of kind) z octets) all sp.1) in
      only_room room first [] text (joined_words ts) octets [] old d digits fresh behind
      ) in
      elim (is_short d) [
        | inl short ↦ inl (
          short,
          (h.before, h.whole ∙ ap (λ l. h.before ++ l) is, unquoted_more h.before t h.unquoted plain, subst (λ z. ExceedsRoom room (BeginsWithDigits (base_of kind) z) old) (sym (joined_last h.before t)) (token.exceeds short)),
        )
        | inr other ↦ inr (
          (h.before, h.whole ∙ ap (λ l. h.before ++ l) is, (h.unquoted, goes, inr (plain, subst (λ z. IsDigitsFault kind z d) (sym (joined_last h.before t)) (fault_of room text d other behind token)))),
          λ octets sp. other (only octets sp).0,
        )
      ]

  refused_why : (room : Room) (rest : List TokenSeen) (e : ErrorKind) → left ≡ rest → rest ≢ [] → RefusesPush room s rest new e → RefusesAs room (digits_form kind) tokens old rest e
  refused_why room [] e is some r = absurd (some refl)
  refused_why room (t ∷ ts) e is some (inl k) =
      inr (
        (h.before, h.whole ∙ ap (λ l. h.before ++ l) is, (h.unquoted, goes, inl k)),
        λ octets sp. (
            let plain = unquoted_at h.before ts t (subst AreUnquoted (h.whole ∙ ap (λ l. h.before ++ l) is) sp.0) in
            true≢false (sym k.1 ∙ plain)
            ),
      )
  refused_why room (t ∷ ts) e is some (inr k) = refused_digits room t ts e is k.0 k.1

  pub push_refused : (room : Room) (begun end : ℕ) (rest : List TokenSeen) (final : List ℕ) (r : RecordError) → end ≡ begun → left ≢ []
      → (rest ≡ left) × IsErrorAt (next_place left end) r × RefusesPush room s left new r.kind × Extends new final
      → RefusesRest room (digits_form kind) begun tokens old r rest final
  push_refused room begun end rest final r ends some k =
      let same_left : rest ≡ left = k.0 in
      let refused : RefusesAs room (digits_form kind) tokens old left r.kind = refused_why room left r.kind refl some k.2 in
      record {
        at = moved r k.1 (ap (λ l. next_place l end) (sym same_left) ∙ ap (next_place rest) ends);
        why = subst (λ l. RefusesAs room (digits_form kind) tokens old l r.kind) (sym same_left) refused;
        extends = (h.gained ++ k.3.0, k.3.1 ∙ ap (λ o. o ++ k.3.0) h.octets ∙ append_assoc old h.gained k.3.0);
      }

pub joined_once : (kind : DigitsKind) (tokens : List TokenSeen) (a b : List ℕ) → SpellsJoined (base_of kind) tokens a → SpellsJoined (base_of kind) tokens b → a ≡ b
joined_once kind tokens a b h k = spells_once (base_of kind) (known kind) (joined_words tokens) a b h.1 k.1

-- the digits of some words exceed the room, and those of all spell at least as many octets
pub digits_exceeded : (kind : DigitsKind) (room : Room) (tokens left : List TokenSeen) (old octets : List ℕ) → ExceedsDigits kind room tokens left old → SpellsJoined (base_of kind) tokens octets
    → room.fits < length old + length octets
digits_exceeded kind room tokens [] old octets h sp = absurd h
digits_exceeded kind room tokens (t ∷ ts) old octets h sp =
    let text : List ℕ = joined_words (h.0 ++ t ∷ []) in
    let fresh : DigitsState = record { kind = kind; begun = []; ended = false } in
    let words : h.0 ++ t ∷ ts ≡ (h.0 ++ t ∷ []) ++ ts = sym (append_assoc h.0 (t ∷ []) ts) in
    let all : joined_words tokens ≡ text ++ joined_words ts = ap joined_words (h.1 ∙ words) ∙ joined_parts (h.0 ++ t ∷ []) ts in
    let digits : SpellsDigits (base_of kind) (text ++ joined_words ts) octets = subst (λ z. SpellsDigits (base_of kind) z octets) all sp.1 in
    let begun = h.3.1 in
    let few = least_begun fresh text h.3.0 octets (refl, begun.0, begun.1, begun.2, begun.3, begun.4) (refl, (joined_words ts, digits)) in
    omega (arith, h.3.2, few)
