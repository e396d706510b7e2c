-- The generic form: its tokens, and octets whose number is not the stated one.
use Rattle.std.proofs.Common.{ℕ, false, ◌≡◌, ◌≢◌, ◌+◌, ◌-◌, List, [], ◌∷◌, length, drop, refl, sym, ap, subst, ◌∙◌, inl, inr, arith, append-nil, decimal, length-append, true}
use Rattle.std.specs.Prelude.{codes, Err}
use Rattle.dns_octets.specs.Room.{Room}
use Rattle.dns_octets.specs.Appending.{Gains}
use Rattle.dns_codec.specs.Base.{base16}
use Rattle.rdata_tokens.specs.declared.kind.DigitsKind.TheVariants.{Hex}
use Rattle.rdata_fields.specs.Source.{next_place}
use Rattle.dns_lexer.specs.EntryTokens.{TokenSeen}
use Rattle.rdata.specs.Digits.{SpellsJoined, digits_form, printed_digits}
use Rattle.rdata.specs.Generic.{BeginsGeneric, IsCount, ExceedsGeneric, SpellsGeneric, ParsesCount, WhyNoCount, generic_form}
use Rattle.rdata.specs.Rests.{RefusesRest}
use Rattle.rdata_fields.specs.RecordErrors.{error_at}
use Rattle.rdata_fields.specs.declared.record_error.RecordError.{RecordError}
use Rattle.rdata_values.specs.declared.error.ErrorKind.{ErrorKind}
use Rattle.rdata_values.specs.declared.error.ErrorKind.TheVariants.{WrongLength}
use Rattle.rdata.proofs.Joinings.{joined_once}
use Rattle.rdata.proofs.ErrorPlaces.{placed, moved}

pub generic_tokens : (octets : List ℕ) → generic_form.printed octets ≡ record { is_quoted = false; text = codes "\\#" } ∷ record { is_quoted = false; text = decimal (length octets) } ∷ printed_digits base16 octets
generic_tokens octets = refl

pub wrong_count : (room : Room) (begun end at count : ℕ) (tokens first left final : List TokenSeen) (old new : List ℕ) → BeginsGeneric tokens → first ≡ drop 1 tokens → end ≡ begun → at ≡ next_place final end
    → (t : TokenSeen) × (first ≡ t ∷ left) × IsCount t count → (final ≡ []) × Gains (SpellsJoined base16 left) old new → (length new - length old ≡ count → ⊥)
    → RefusesRest room generic_form begun tokens old (error_at at (WrongLength (length new - length old) count)) final new
wrong_count room begun end at count [] first left final old new mark is ends place counted gained wrong = absurd mark
wrong_count room begun end at count (m ∷ ts) first left final old new mark is ends place counted gained wrong =
    let t = counted.0 in
    let all : ts ≡ t ∷ left = sym is ∙ counted.1 in
    let octets : List ℕ = gained.1.0 in
    let size : length new ≡ length old + length octets = ap length gained.1.2 ∙ length-append old octets in
    let found : length new - length old ≡ length octets = omega (arith, size) in
    let other : length octets ≢ count = λ same. wrong (found ∙ same) in
    let never : (v : List ℕ) → SpellsGeneric (m ∷ ts) v → ⊥ = λ v sp. (
    let s = subst (λ z. SpellsGeneric (m ∷ z) v) all sp in
    let same : v ≡ octets = joined_once Hex left v octets s.2 gained.1.1 in
    let many : length v ≡ count = s.1.1.0.1 ∙ sym counted.2.1.0.1 in
    let lengths : length v ≡ length octets = ap length same in
    wrong (omega (arith, size, many, lengths))
    ) in
    record {
      at = placed (WrongLength (length new - length old) count) (place ∙ ap (next_place final) ends);
      why = inr (inr (t, left, all, inr ((count, octets, counted.2, gained.1.1, other, ap (λ n. WrongLength n count) found), gained.0)), never);
      extends = (octets, gained.1.2);
    }

no_count : (mark : TokenSeen) (tokens : List TokenSeen) (e : ErrorKind) → WhyNoCount tokens e → (octets : List ℕ) → SpellsGeneric (mark ∷ tokens) octets → ⊥
no_count mark [] e why octets sp = sp
no_count mark (t ∷ ts) e (inl quoted) octets sp = let bad : false ≡ true = sym sp.1.0 ∙ quoted.1 in cc bad
no_count mark (t ∷ ts) e (inr none) octets sp = none.2 (length octets) sp.1.1

-- no number follows the mark
pub count_refused : (room : Room) (begun end : ℕ) (tokens first left : List TokenSeen) (old : List ℕ) (r : RecordError) → BeginsGeneric tokens → first ≡ drop 1 tokens → end ≡ begun → ParsesCount end first (Err r) left
    → RefusesRest room generic_form begun tokens old r left old
count_refused room begun end [] first left old r mark is ends h = absurd mark
count_refused room begun end (m ∷ ts) first left old r mark is ends h =
    let why : WhyNoCount ts r.kind = subst (λ z. WhyNoCount z r.kind) is h.2 in
    record {
      at = moved r h.1 (ap (next_place first) ends ∙ ap (λ z. next_place z begun) (sym h.0));
      why = inr (inl (h.0 ∙ is, why), no_count m ts r.kind why);
      extends = ([], sym (append-nil old));
    }

-- the digits after the number are rejected
pub digits_refused : (room : Room) (begun end count : ℕ) (tokens first left final : List TokenSeen) (old new : List ℕ) (r : RecordError) → BeginsGeneric tokens → first ≡ drop 1 tokens → end ≡ begun
    → (t : TokenSeen) × (first ≡ t ∷ left) × IsCount t count → RefusesRest room (digits_form Hex) end left old r final new → RefusesRest room generic_form begun tokens old r final new
digits_refused room begun end count [] first left final old new r mark is ends counted h = absurd mark
digits_refused room begun end count (m ∷ ts) first left final old new r mark is ends counted h =
    let all : ts ≡ counted.0 ∷ left = sym is ∙ counted.1 in
    let digits : (v : List ℕ) → SpellsGeneric (m ∷ ts) v → SpellsJoined base16 left v = λ v sp. (subst (λ z. SpellsGeneric (m ∷ z) v) all sp).2 in
    record {
      at = moved r h.at (ap (next_place final) ends);
      why = elim h.why [
        | inl full ↦ inl (full.0, subst (λ z. ExceedsGeneric room (m ∷ z) final old) (sym all) (mark, (count, counted.2), full.1))
        | inr reason ↦ inr (inr (counted.0, left, all, inl ((count, counted.2), reason.0)), λ v sp. reason.1 v (digits v sp))
      ];
      extends = h.extends;
    }

-- after the number comes this number of octets in digits
pub generic_spelled : (count : ℕ) (tokens first left final : List TokenSeen) (old new : List ℕ) → BeginsGeneric tokens → first ≡ drop 1 tokens → (t : TokenSeen) × (first ≡ t ∷ left) × IsCount t count
    → (final ≡ []) × Gains (SpellsJoined base16 left) old new → length new - length old ≡ count → (final ≡ []) × Gains (SpellsGeneric tokens) old new
generic_spelled count [] first left final old new mark is counted gained size = absurd mark
generic_spelled count (m ∷ ts) first left final old new mark is counted gained size =
    let t = counted.0 in
    let all : ts ≡ t ∷ left = sym is ∙ counted.1 in
    let octets : List ℕ = gained.1.0 in
    let long : length new ≡ length old + length octets = ap length gained.1.2 ∙ length-append old octets in
    let many : count ≡ length octets = omega (arith, size, long) in
    let spelled : SpellsGeneric (m ∷ t ∷ left) octets = (mark, subst (IsCount t) many counted.2, gained.1.1) in
    (gained.0, (octets, subst (λ z. SpellsGeneric (m ∷ z) octets) (sym all) spelled, gained.1.2))

-- tokens of the generic form begin with its mark, and spell one list of octets
pub begins_so : (tokens : List TokenSeen) (octets : List ℕ) → SpellsGeneric tokens octets → BeginsGeneric tokens
begins_so [] octets h = absurd h
begins_so (mark ∷ []) octets h = absurd h
begins_so (mark ∷ count ∷ digits) octets h = h.0

pub generic_once : (tokens : List TokenSeen) (a b : List ℕ) → SpellsGeneric tokens a → SpellsGeneric tokens b → a ≡ b
generic_once [] a b h k = absurd h
generic_once (mark ∷ []) a b h k = absurd h
generic_once (mark ∷ count ∷ digits) a b h k = joined_once Hex digits a b h.2 k.2
