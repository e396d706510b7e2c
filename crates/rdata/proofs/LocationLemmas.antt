-- Locations that are rejected.
use Rattle.std.proofs.Math.Seq.{drop-cons}
use Rattle.std.proofs.Math.ListN.{drop_of_length-le}
use Rattle.std.proofs.Common.{ℕ, suc, length, drop, get_or, ◌+◌, ◌≤◌, ◌≡◌, ◌<◌, false, List, [], ◌∷◌, map, refl, sym, ap, subst, inl, inr, ◌∙◌, arith, append-nil}
use Rattle.std.specs.Int.{w32, from_be_bytes, to_be_bytes}
use Rattle.std.proofs.lemmas.Nat.{from_be_bytes-to_be_bytes_4}
use Rattle.rdata_tails.specs.LocationWords.{IsLocation, AreWords, location_words, word_text}
use Rattle.rdata_tails.specs.declared.location_text.LocationWord.{LocationWord}
use Rattle.rdata_tails.specs.Locations.{SpellsLocation}
use Rattle.rdata_tails.specs.declared.location.Location.{Location}
use Rattle.rdata_tails.proofs.LocationLaws.{locations_are_read}
use Rattle.std.specs.Prelude.{Result, Ok, Err, OnOk, OnErr, IfErr}
use Rattle.dns_octets.specs.Room.{Room}
use Rattle.dns_octets.specs.Appending.{Gains}
use Rattle.rdata_tails.specs.LocationParsing.{RefusesLocation}
use Rattle.rdata_fields.specs.declared.record_error.RecordError.{RecordError}
use Rattle.dns_lexer.specs.EntryTokens.{TokenSeen}
use Rattle.rdata.specs.LocationRest.{location_at, location_form}
use Rattle.rdata.specs.Rests.{PrintedToken, ArePrinted, RefusesRest, ParsesTail}

location_refused : (room : Room) (end : ℕ) (tokens left : List TokenSeen) (old new : List ℕ) (r : RecordError) → new ≡ old → RefusesLocation room end tokens left old r
    → RefusesRest room location_form end tokens old r left new
location_refused room end tokens left old new r same h = record {
  at = h.0;
  why = elim h.1 [
    | inl none ↦ inr ((none.0, none.1), none.2)
    | inr lacks ↦ inl (lacks.0, (lacks.1, lacks.2))
  ];
  extends = ([], same ∙ sym (append-nil old));
}

pub location_taken : (room : Room) (end : ℕ) (tokens left : List TokenSeen) (old new : List ℕ) (r : Result (Unit {0}) RecordError) → OnOk r (Gains (SpellsLocation tokens) old new) → OnOk r (left ≡ []) → OnErr r (new ≡ old)
    → IfErr r (RefusesLocation room end tokens left old) → ParsesTail room location_form end tokens old r left new
location_taken room end tokens left old new (Ok x) gains none same why = (none, gains)
location_taken room end tokens left old new (Err r) gains none same why = location_refused room end tokens left old new r same why

abbrev with_numbers : Location → ℕ → ℕ → ℕ → Location
with_numbers l a b c = record { sizes = l.sizes; latitude = a; longitude = b; altitude = c }

-- the location that octets are is that of their numbers
pub location_at_is : (octets : List ℕ) (l : Location) → IsLocation octets l → location_at octets ≡ l
location_at_is octets l h =
    let a : from_be_bytes w32 (to_be_bytes w32 l.latitude) ≡ l.latitude = from_be_bytes-to_be_bytes_4 l.latitude (omega (arith, h.0.latitude.1)) in
    let b : from_be_bytes w32 (to_be_bytes w32 l.longitude) ≡ l.longitude = from_be_bytes-to_be_bytes_4 l.longitude (omega (arith, h.0.longitude.1)) in
    let c : from_be_bytes w32 (to_be_bytes w32 l.altitude) ≡ l.altitude = from_be_bytes-to_be_bytes_4 l.altitude h.0.altitude in
    ap location_at h.1
    ∙ ap (λ n. with_numbers l n (from_be_bytes w32 (to_be_bytes w32 l.longitude)) (from_be_bytes w32 (to_be_bytes w32 l.altitude))) a
    ∙ ap (λ n. with_numbers l l.latitude n (from_be_bytes w32 (to_be_bytes w32 l.altitude))) b
    ∙ ap (with_numbers l l.latitude l.longitude) c

words_printed : (words : List (List ℕ)) (tokens : List TokenSeen) → ArePrinted (map (λ word. record { is_quoted = false; text = word }) words) tokens → AreWords tokens words
words_printed [] [] h = tt
words_printed [] (t ∷ ts) h = absurd h
words_printed (w ∷ ws) [] h = absurd h
words_printed (w ∷ ws) (t ∷ ts) h = (h.0, h.1, words_printed ws ts h.3)

-- what a location prints as spells it
pub location_back : (octets : List ℕ) (tokens : List TokenSeen) → location_form.is_wire octets → ArePrinted (location_form.printed octets) tokens → SpellsLocation tokens octets
location_back octets tokens is h =
    let words = words_printed (location_words (location_at octets)) tokens h in
    locations_are_read.spelled octets is.0 tokens is.1 (subst (λ l. AreWords tokens (location_words l)) (location_at_is octets is.0 is.1) words)

-- words as tokens
abbrev pub word_tokens : List LocationWord → List PrintedToken
word_tokens = map (λ w. record { is_quoted = false; text = word_text w })

tokens_of_words : (words : List LocationWord) → word_tokens words ≡ map (λ word. record { is_quoted = false; text = word }) (map word_text words)
tokens_of_words [] = refl
tokens_of_words (w ∷ ws) = ap (λ ts. record { is_quoted = false; text = word_text w } ∷ ts) (tokens_of_words ws)

-- the words of a location are those that its octets print as
pub words_are : (octets : List ℕ) (words : List LocationWord) → (l : Location) × IsLocation octets l × (map word_text words ≡ location_words l) → word_tokens words ≡ location_form.printed octets
words_are octets words h =
    tokens_of_words words ∙ ap (map (λ word. record { is_quoted = false; text = word })) (h.2 ∙ ap location_words (sym (location_at_is octets h.0 h.1)))

pub next_word : (words : List LocationWord) (place : ℕ) (d : LocationWord) → place < length words
    → word_tokens (drop place words) ≡ record { is_quoted = false; text = word_text (get_or words place d) } ∷ word_tokens (drop (place + 1) words)
next_word words place d here =
    let more : suc place ≡ place + 1 = omega arith in
    ap word_tokens (drop-cons words place d here) ∙ ap (λ n. record { is_quoted = false; text = word_text (get_or words place d) } ∷ word_tokens (drop n words)) more

pub no_words : (words : List LocationWord) (place : ℕ) → length words ≤ place → word_tokens (drop place words) ≡ []
no_words words place done = ap word_tokens (drop_of_length-le words done)
