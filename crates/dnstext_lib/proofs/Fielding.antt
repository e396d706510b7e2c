-- Fields from arguments and tokens.
use Rattle.std.proofs.Common.{◌≡◌, ℕ, zero, suc, ◌+◌, ◌<◌, ◌≤◌, List, [], ◌∷◌, ◌++◌, length, map, drop, arith, refl, sym, ap, subst, ◌∙◌, append_assoc, append-nil, ◌⊎◌, inl, inr, ⊎_elim, Option, Some, None, Ok, Err}
use Rattle.std.proofs.lemmas.List.{map-append}
use Rattle.dns_octets.specs.Room.{Room, within}
use Rattle.dns_symbol.specs.declared.symbol.Symbol.{Symbol}
use Rattle.dns_symbol.specs.Text.{SymbolsOf}
use Rattle.dns_scan.specs.Answers.{AllOctetsFit}
use Rattle.dns_scan.specs.Asks.{Builds}
use Rattle.dns_symbol.specs.Cause.{Cause, short_buf}
use Rattle.dns_scan.specs.Numbers.{IsNumber, ScannedNumber}
use Rattle.dns_scan.specs.Steps.{HasStepOctets, step_octet}
use Rattle.dns_scan.specs.Tokens.{Token}
use Rattle.dns_scan.proofs.Answered.{builds_read, all_given_in}
use Rattle.dns_zone.specs.EntryFields.{Content, content_of, contents_of, number, text_octets}
use Rattle.dns_zone.specs.declared.entry.Field.{Field}
use Rattle.dns_zone.specs.EntryCodecs.{Codec, ConvertsTo, MadeOf}
use Rattle.dnstext_lib.specs.EntryLine.{Asked, AsksFields, asked_of, field_word, FieldsRun, FieldHolds, FirstHolds, NoField}
use Rattle.dnstext_lib.specs.Print.{BeginsBy}
use Rattle.dnstext_lib.specs.Program.{OctetsStop}
use Rattle.dns_zone.specs.declared.entry.FieldKind.TheVariants.{Text}
use Rattle.dnstext_lib.specs.declared.line.FieldWord.{FieldWord}

-- ---- one token

-- a number that was scanned
pub number_held : {E : Type 0} (cause : E → Cause) (limit : ℕ) (t : Token) (v : ℕ) → ScannedNumber cause limit t (Ok v)
    → (symbols : List Symbol) × SymbolsOf t symbols None × ((w : ℕ) × IsNumber limit symbols w × (number v ≡ number w))
number_held cause limit t v h = (h.symbols, subst (λ e. SymbolsOf t h.symbols e) h.reads.1 h.read, (v, h.reads.0, refl))

-- octets that a token doesn't convert to
pub octets_stop : (codec : Codec) (token : Token) (why : Cause) {room : Room}
    → (built : List ℕ) × MadeOf codec token built × ((ConvertsTo codec token (Err why) × (length built ≤ room.capacity)) ⊎ ((why ≡ short_buf) × (room.fits < length built)))
    → OctetsStop codec token why
octets_stop codec token why h =
    ⊎_elim (λ k. inl k.0) (λ k. inr (k.0, (h.0, h.1, λ none. let z : length h.0 ≡ 0 = ap length none in omega (arith, k.1, z)))) h.2

-- a character string that was scanned
pub text_held : {E : Type 0} (cause : E → Cause) (room : Room) (t : Token) (s : List ℕ)
    → Builds cause (HasStepOctets cause (within 255 room) step_octet) (λ s. s) t (Ok s) → FieldHolds Text t (text_octets s)
text_held cause room t s h =
    let read = builds_read cause step_octet (within 255 room) (λ s. s) t (Ok s) h in (
      read.0,
      subst (λ e. SymbolsOf t read.0 e) read.3.ends read.2,
      (s, all_given_in step_octet (within 255 room) 255 (omega arith) read.0 None s (subst (λ e. AllOctetsFit step_octet (within 255 room) read.0 e s) read.3.ends read.3), refl),
    )

-- ---- tokens

-- the fields of the tokens that remain, after those that were made, are all
abbrev pub FieldsLeft : List FieldWord → ℕ → List Content → Type 0
FieldsLeft words i made = (more : List Content) (refusal : Option Cause) → FieldsRun (map asked_of (drop i words)) more refusal → FieldsRun (map asked_of words) (made ++ more) refusal

-- and once one was made, the first was
pub record FieldsSoFar (words : List FieldWord) (i : ℕ) (made : List Content) : Type 0 where
  pub left : FieldsLeft words i made
  pub first : 0 < i → FirstHolds (map asked_of words)

pub first_held : (words : List FieldWord) (i : ℕ) (w : FieldWord) (c : Content) → drop i words ≡ w ∷ drop (i + 1) words → FieldHolds w.kind w.text.now c → (0 < i → FirstHolds (map asked_of words))
    → FirstHolds (map asked_of words)
first_held words zero w c at holds before = subst (λ l. FirstHolds (map asked_of l)) (sym at) (c, holds)
first_held words (suc i) w c at holds before = before (omega arith)

pub fields_more : {A : Type 0} (words : List FieldWord) (i : ℕ) (w : FieldWord) (fields longer : List (Field A)) (field : Field A) → drop i words ≡ w ∷ drop (i + 1) words
    → FieldHolds w.kind w.text.now (content_of field)
    → longer ≡ fields ++ field ∷ [] → FieldsLeft words i (contents_of fields) → FieldsLeft words (i + 1) (contents_of longer)
fields_more words i w fields longer field at holds is left = λ more refusal run.
    subst (λ l. FieldsRun (map asked_of words) l refusal) (sym
    (ap (λ l. contents_of l ++ more) is ∙ ap (λ l. l ++ more) (map-append content_of fields (field ∷ [])) ∙ append_assoc (contents_of fields) (content_of field ∷ []) more))
    (left (content_of field ∷ more) refusal (subst (λ l. FieldsRun (map asked_of l) (content_of field ∷ more) refusal) (sym at) (inl (content_of field, more, holds, refl, run))))

pub fields_stop : (words : List FieldWord) (i : ℕ) (w : FieldWord) (made : List Content) (why : Cause) → drop i words ≡ w ∷ drop (i + 1) words → NoField w.kind w.text.now why
    → FieldsLeft words i made → FieldsRun (map asked_of words) made (Some why)
fields_stop words i w made why at stops left =
    subst (λ l. FieldsRun (map asked_of words) l (Some why)) (append-nil made)
    (left [] (Some why) (subst (λ l. FieldsRun (map asked_of l) [] (Some why)) (sym at) (inr (why, stops, refl, refl))))

pub fields_all : (words : List FieldWord) (i : ℕ) (made : List Content) → drop i words ≡ [] → FieldsLeft words i made → FieldsRun (map asked_of words) made None
fields_all words i made at left =
    subst (λ l. FieldsRun (map asked_of words) l None) (append-nil made)
    (left [] None (subst (λ l. FieldsRun (map asked_of l) [] None) (sym at) (refl, refl)))

-- fields of which the first was made begin by its argument
pub held_begin : (words : List (List ℕ)) (asked : List Asked) → AsksFields words asked → FirstHolds asked → BeginsBy field_word words
held_begin words [] e held = absurd held
held_begin words (x ∷ xs) e held = (x, map field_word xs, e)
