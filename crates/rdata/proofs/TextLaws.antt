-- The one token of a text.
use Rattle.std.proofs.Common.{ℕ, Bool, true, false, true≢false, ◌≡◌, ◌<◌, ◌+◌, List, [], ◌∷◌, length, arith, refl, sym, ap, subst, ◌∙◌, inl, inr, append-nil}
use Rattle.std.specs.Prelude.{Result, Ok, Err}
use Rattle.dns_octets.specs.Room.{Room}
use Rattle.dns_octets.specs.Appending.{Extends, Gains}
use Rattle.rdata_fields.specs.Source.{next_place}
use Rattle.rdata_tokens.specs.Spelling.{SpellsOctetList, RefusesOctets}
use Rattle.rdata_tokens.proofs.Fronts.{fewer_spelled}
use Rattle.rdata_fields.specs.RecordErrors.{error_at}
use Rattle.rdata_fields.specs.declared.record_error.RecordError.{RecordError}
use Rattle.rdata_values.specs.declared.error.ErrorKind.{ErrorKind}
use Rattle.rdata_values.specs.declared.error.ErrorKind.TheVariants.{ShortBuf, NotQuoted, BadEscape}
use Rattle.dns_lexer.specs.EntryTokens.{TokenSeen}
use Rattle.rdata.specs.Rests.{RefusesAs, RefusesRest, ParsesTail}
use Rattle.rdata.specs.Texts.{AreText, HasQuotes, TextReason, ExpectsNoToken, text_form, nothing_form}
use Rattle.rdata.proofs.ErrorPlaces.{placed, kind_of, known_at}

-- no token is unread, and nothing is appended
pub nothing_taken : (room : Room) (end : ℕ) (tokens left : List TokenSeen) (old new : List ℕ) (r : Result (Unit {0}) RecordError) → new ≡ old → ExpectsNoToken end tokens r left → ParsesTail room nothing_form end tokens old r left new
nothing_taken room end tokens left old new (Ok x) is h = (h.1, ([], (h.0, refl), is ∙ sym (append-nil old)))
nothing_taken room end [] left old new (Err r) is h = absurd h
nothing_taken room end (t ∷ ts) left old new (Err r) is h = record {
  at = known_at r h.1 (ap (λ l. next_place l end) (sym h.0));
  why = inr ((h.0, (λ none. cc none), kind_of r h.1), λ octets sp. (let bad : t ∷ ts ≡ [] = sp.0 in cc bad));
  extends = ([], is ∙ sym (append-nil old));
}

module _ (wants_quotes : Bool) (room : Room) (end : ℕ) (t : TokenSeen) (tokens rest : List TokenSeen) (old : List ℕ) (is : tokens ≡ t ∷ rest) where
  at_first : (at : ℕ) (e : ErrorKind) (left : List TokenSeen) (new : List ℕ) → at ≡ next_place tokens end → left ≡ tokens → RefusesAs room (text_form wants_quotes) tokens old (t ∷ rest) e → Extends old new
      → RefusesRest room (text_form wants_quotes) end tokens old (error_at at e) left new
  at_first at e left new place same why extends = record {
    at = placed e (place ∙ ap (λ l. next_place l end) (sym same));
    why = subst (λ l. RefusesAs room (text_form wants_quotes) tokens old l e) (sym (same ∙ is)) why;
    extends = extends;
  }

  of_first : (octets : List ℕ) → AreText wants_quotes tokens octets → (wants_quotes ≡ true → t.is_quoted ≡ true) × SpellsOctetList t.text octets
  of_first octets sp = by rest (subst (λ ts. AreText wants_quotes ts octets) is sp)
    where
      by : (rest : List TokenSeen) → AreText wants_quotes (t ∷ rest) octets → (wants_quotes ≡ true → t.is_quoted ≡ true) × SpellsOctetList t.text octets
      by [] h = h
      by (u ∷ us) h = absurd h

  pub unquoted_refused : (at : ℕ) → wants_quotes ≡ true → t.is_quoted ≡ false → at ≡ next_place tokens end → RefusesRest room (text_form wants_quotes) end tokens old (error_at at NotQuoted) tokens old
  unquoted_refused at wants plain place =
      at_first at NotQuoted tokens old place refl
      (inr (([], is, inl (refl, wants, plain)), λ octets sp. true≢false (sym ((of_first octets sp).0 wants) ∙ plain)))
      ([], sym (append-nil old))

  spelling_refused : (e : ErrorKind) → HasQuotes wants_quotes t → RefusesOctets room t.text old e → RefusesAs room (text_form wants_quotes) tokens old (t ∷ rest) e
  spelling_refused BadEscape quotes h = inr (([], is, inr (refl, quotes, h.0)), λ octets sp. h.1 octets (of_first octets sp).1)
  spelling_refused ShortBuf quotes h = inl (refl, subst (λ ts. (text_form wants_quotes).exceeds room ts (t ∷ rest) old) (sym is) (refl, quotes, h))
  spelling_refused other quotes h = absurd h

  pub escape_refused : (at : ℕ) (e : ErrorKind) (new : List ℕ) → HasQuotes wants_quotes t → RefusesOctets room t.text old e → at ≡ next_place tokens end → Extends old new
      → RefusesRest room (text_form wants_quotes) end tokens old (error_at at e) tokens new
  escape_refused at e new quotes why place extends = at_first at e tokens new place refl (spelling_refused e quotes why) extends

  pub text_taken : (r : Result (Unit {0}) RecordError) (begun : ℕ) (middle left : List TokenSeen) (new : List ℕ) → begun ≡ end → middle ≡ rest → (wants_quotes ≡ true → t.is_quoted ≡ true) → Gains (SpellsOctetList t.text) old new
      → ExpectsNoToken begun middle r left → ParsesTail room (text_form wants_quotes) end tokens old r left new
  text_taken (Ok x) begun middle left new ends same quotes gains h =
      let one : tokens ≡ t ∷ [] = is ∙ ap (λ l. t ∷ l) (sym same ∙ h.0) in
      (h.1, (gains.0, subst (λ ts. AreText wants_quotes ts gains.0) (sym one) (quotes, gains.1), gains.2))
  text_taken (Err r) begun [] left new ends same quotes gains h = absurd h
  text_taken (Err r) begun (u ∷ us) left new ends same quotes gains h =
      let all : tokens ≡ t ∷ u ∷ us = is ∙ ap (λ l. t ∷ l) (sym same) in
      record {
        at = known_at r h.1 (ap (λ l. next_place l end) (sym h.0));
        why = inr (
          (t ∷ [], all ∙ ap (λ l. t ∷ l) (sym h.0), subst (λ l. TextReason wants_quotes (t ∷ []) l r.kind) (sym h.0) (kind_of r h.1, (gains.0, (quotes, gains.1)))),
          λ octets sp. subst (λ ts. AreText wants_quotes ts octets) all sp,
        );
        extends = (gains.0, gains.2);
      }

-- octets at the start of a text exceed the room
pub text_exceeded : (wants_quotes : Bool) (room : Room) (tokens left : List TokenSeen) (old octets : List ℕ) → (text_form wants_quotes).exceeds room tokens left old → AreText wants_quotes tokens octets
    → room.fits < length old + length octets
text_exceeded wants_quotes room [] left old octets h sp = absurd h
text_exceeded wants_quotes room (t ∷ []) left old octets h sp = let few = fewer_spelled t.text h.2.0 h.2.1.0 octets h.2.1.1 sp.1 in omega (arith, h.2.2, few)
text_exceeded wants_quotes room (t ∷ u ∷ ts) left old octets h sp = absurd sp
