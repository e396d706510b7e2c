-- Why tokens that spell octets are rejected.
use Rattle.std.specs.Prelude.{Result, Ok, Err, OnOk, OnErr, IfErr, IsTrue}
use Rattle.std.proofs.Common.{ℕ, Option, Bool, false, ◌≡◌, ◌≤◌, ◌<◌, ◌+◌, ◌-◌, ◌∙◌, List, [], ◌∷◌, ◌++◌, length, refl, sym, ap, subst, arith, inl, inr, append-nil, length-append}
use Rattle.rdata_values.specs.declared.error.ErrorKind.{ErrorKind}
use Rattle.rdata_values.specs.declared.error.ErrorKind.TheVariants.{BadEscape, LongString, BadTag, ShortBuf}
use Rattle.dns_octets.specs.Appending.{Extends, Gains}
use Rattle.dns_octets.specs.Room.{Room}
use Rattle.rdata_tokens.specs.Forms.{RefusesString, SpellsString, RefusesTag, SpellsTag}
use Rattle.rdata_tokens.proofs.FormLaws.{octets_spelled}
use Rattle.rdata_tokens.specs.NameSpelling.{SpellsName, BeginsName, RefusesName}
use Rattle.rdata_tokens.specs.Hashes.{SpellsHash, RefusesHash}
use Rattle.rdata_fields.specs.Forms.{FieldForm, ReadsField, RefusesField, StringReason, TagReason, HashReason, NameReason, word_form, string_form, tag_form, hash_form, name_form}

string_refusal : (room : Room) (quoted : Bool) (text old : List ℕ) (e : ErrorKind) → RefusesString room text old e → RefusesField room (SpellsString text) (SpellsString text) (StringReason quoted text) old e
string_refusal room quoted text old BadEscape h = inr (h.0, λ form s. h.1 s.octets s.spelled)
string_refusal room quoted text old LongString h = inr (h, λ form s. let same = octets_spelled.once text s.octets h.0 s.spelled h.1 in let few = subst (λ o. length o ≤ 255) same s.short in omega (arith, few, h.2))
string_refusal room quoted text old ShortBuf h = inl (refl, h)
string_refusal room quoted text old other h = absurd h

pub string_read : (room : Room) (quoted : Bool) (text old new : List ℕ) (r : Result (Unit {0}) ErrorKind) → OnOk r (Gains (SpellsString text) old new) → IfErr r (RefusesString room text old) → OnErr r (Extends old new)
    → ReadsField room string_form quoted text old r new
string_read room quoted text old new (Ok u) gains refused extends = record { gains = gains; refused = tt; extends = tt }
string_read room quoted text old new (Err e) gains refused extends = record { gains = tt; refused = string_refusal room quoted text old e refused; extends = extends }

name_refusal : (room : Room) (origin : Option (List (List ℕ))) (quoted : Bool) (text old : List ℕ) (e : ErrorKind) → quoted ≡ false → RefusesName room origin text old e
    → RefusesField room (λ octets. (quoted ≡ false) × BeginsName origin text octets) (λ octets. (quoted ≡ false) × SpellsName origin text octets) (NameReason origin quoted text) old e
name_refusal room origin quoted text old e plain (inl h) = inl (h.0, (h.1.0, (plain, h.1.1), h.1.2))
name_refusal room origin quoted text old e plain (inr h) = inr (inr (plain, h.0), λ octets k. h.1 octets k.1)

pub name_read : (room : Room) (origin : Option (List (List ℕ))) (quoted : Bool) (text old new : List ℕ) (r : Result (Unit {0}) ErrorKind) → quoted ≡ false → OnOk r (Gains (SpellsName origin text) old new)
    → IfErr r (RefusesName room origin text old) → OnErr r (Extends old new) → ReadsField room (name_form origin) quoted text old r new
name_read room origin quoted text old new (Ok u) plain gains refused extends = record { gains = (gains.0, (plain, gains.1), gains.2); refused = tt; extends = tt }
name_read room origin quoted text old new (Err e) plain gains refused extends = record { gains = tt; refused = name_refusal room origin quoted text old e plain refused; extends = extends }

hash_refused : (room : Room) (quoted : Bool) (text old : List ℕ) (e : ErrorKind) → quoted ≡ false → RefusesHash room text old e
    → RefusesField room (λ octets. (quoted ≡ false) × SpellsHash text octets) (λ octets. (quoted ≡ false) × SpellsHash text octets) (HashReason quoted text) old e
hash_refused room quoted text old e plain (inl h) = inl (h.0, (h.1.0, (plain, h.1.1), h.1.2))
hash_refused room quoted text old e plain (inr h) = inr (inr (h.0, plain), λ octets k. h.1 octets k.1)

pub hash_read : (room : Room) (quoted : Bool) (text old new : List ℕ) (r : Result (Unit {0}) ErrorKind) → quoted ≡ false → OnOk r (Gains (SpellsHash text) old new) → IfErr r (RefusesHash room text old) → OnErr r (new ≡ old)
    → ReadsField room hash_form quoted text old r new
hash_read room quoted text old new (Ok u) plain gains refused kept = record { gains = (gains.0, (plain, gains.1), gains.2); refused = tt; extends = tt }
hash_read room quoted text old new (Err e) plain gains refused kept = record { gains = tt; refused = hash_refused room quoted text old e plain refused; extends = ([], kept ∙ sym (append-nil old)) }

tag_refusal : (room : Room) (quoted : Bool) (text old : List ℕ) (e : ErrorKind) → quoted ≡ false → RefusesTag room text old e
    → RefusesField room (λ octets. (quoted ≡ false) × SpellsTag text octets) (λ octets. (quoted ≡ false) × SpellsTag text octets) (TagReason quoted text) old e
tag_refusal room quoted text old BadTag plain h = inr (inr (refl, plain, h), λ octets k. h k.1.0)
tag_refusal room quoted text old ShortBuf plain h = inl (refl, (h.0, (plain, h.1), h.2))
tag_refusal room quoted text old other plain h = absurd h

pub tag_refused : (room : Room) (quoted : Bool) (text old new : List ℕ) (e : ErrorKind) → quoted ≡ false → RefusesTag room text old e → Extends old new → ReadsField room tag_form quoted text old (Err e) new
tag_refused room quoted text old new e plain refused extends = record { gains = tt; refused = tag_refusal room quoted text old e plain refused; extends = extends }

-- a field whose token is read whole doesn't fit
pub field_short : (room : Room) (f : FieldForm) (quoted : Bool) (text old new form : List ℕ) → f.begins quoted text form → room.fits < length old + length form → Extends old new → ReadsField room f quoted text old (Err ShortBuf) new
field_short room f quoted text old new form begun full extends = record { gains = tt; refused = inl (refl, (form, begun, full)); extends = extends }

-- the length of octets doesn't fit
pub count_short : (room : Room) (f : FieldForm) (quoted : Bool) (text old new octets : List ℕ) → f.begins quoted text (length octets ∷ octets) → new ≡ old → (1 ≤ room.fits - length old → IsTrue false) → ReadsField room f quoted text old (Err ShortBuf) new
count_short room f quoted text old new octets begun kept short =
    let full : 1 ≤ room.fits - length old → ⊥ = (λ p. let q = short p in cc) in
    field_short room f quoted text old new (length octets ∷ octets) begun (omega (arith, full)) ([], kept ∙ sym (append-nil old))

-- octets don't fit after their length
pub rest_short : (room : Room) (f : FieldForm) (quoted : Bool) (text old middle new octets : List ℕ) (count : ℕ) → f.begins quoted text (length octets ∷ octets) → middle ≡ old ++ count ∷ [] → new ≡ middle
    → (length octets ≤ room.fits - length middle → IsTrue false) → ReadsField room f quoted text old (Err ShortBuf) new
rest_short room f quoted text old middle new octets count begun is kept short =
    let full : length octets ≤ room.fits - length middle → ⊥ = (λ p. let q = short p in cc) in
    let sum = ap length is ∙ length-append old (count ∷ []) in
    field_short room f quoted text old new (length octets ∷ octets) begun (omega (arith, full, sum)) (count ∷ [], kept ∙ is)

-- the octets of a word don't fit
pub word_short : {V : Type 0} (room : Room) (width : ℕ) (valid : V → Type 0) (spells : List ℕ → V → Type 0) (reason : List ℕ → ErrorKind → Type 0) (wire : V → List ℕ) (printed : List ℕ → List ℕ) (quoted : Bool) (text old new : List ℕ)
    (v : V) → quoted ≡ false → valid v → spells text v → new ≡ old → (length (wire v) ≤ room.fits - length old → IsTrue false) → ReadsField room (word_form width valid spells reason wire printed) quoted text old (Err ShortBuf) new
word_short room width valid spells reason wire printed quoted text old new v plain is spelled kept short =
    let full : length (wire v) ≤ room.fits - length old → ⊥ = (λ p. let q = short p in cc) in
    field_short room (word_form width valid spells reason wire printed) quoted text old new (wire v) (plain, (v, is, spelled, refl)) (omega (arith, full)) ([], kept ∙ sym (append-nil old))
