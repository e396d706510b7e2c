-- A piece of whole pairs of hexadecimal digits, where no group is begun.
use Rattle.std.proofs.Common.{◌≡◌, ◌≢◌, ℕ, ◌-◌, ◌*◌, ◌%◌, ◌≤◌, Bool, false, List, [], length, take, refl, sym, ap, subst, ◌∙◌, arith}
use Rattle.std.specs.Prelude.{IfSome, MatchOption, Option, Some, None}
use Rattle.std.proofs.lemmas.List.{take_all}
use Rattle.dns_octets.specs.Room.{Room}
use Rattle.dns_codec.specs.Base.{base16}
use Rattle.rdata_tokens.specs.Spelled.{SpellsDigits, opens_group}
use Rattle.rdata_tokens.specs.Reading.{DigitsState, AreWholePairs, RefusesPiece, AcceptsPiece}
use Rattle.rdata_tokens.specs.declared.kind.DigitsKind.{DigitsKind}
use Rattle.rdata_tokens.specs.declared.kind.DigitsKind.TheVariants.{Hex}
use Rattle.rdata_values.specs.declared.error.ErrorKind.TheVariants.{ShortBuf}
use Rattle.rdata_tokens.proofs.Blocks.{lacks_blocks}
use Rattle.rdata_tokens.proofs.Pieces.{closes, takes_some}
use Rattle.rdata_tokens.proofs.Together.{hex_digits}

abbrev state_of : DigitsKind → List ℕ → Bool → DigitsState
state_of kind begun ended = record { kind = kind; begun = begun; ended = ended }

-- hexadecimal digits, where no group is begun
abbrev fresh : DigitsState
fresh = state_of Hex [] false

fresh_is : (s : DigitsState) → s.kind ≡ Hex → s.begun ≡ [] → s.ended ≡ false → fresh ≡ s
fresh_is s k b e = ap (λ x. state_of x [] false) (sym k) ∙ ap (λ x. state_of s.kind x false) (sym b) ∙ ap (λ x. state_of s.kind s.begun x) (sym e)

even_digits : (piece gained : List ℕ) → SpellsDigits base16 piece gained → length piece % 2 ≡ 0
even_digits piece gained spelled = omega (arith, hex_digits piece gained spelled)

closed_pairs : (gained : List ℕ) → opens_group base16 gained ≡ false
closed_pairs gained = let a : 8 * length gained % 8 ≡ 0 = omega arith in rw a refl

fresh_taken : (piece gained : List ℕ) → piece ≢ [] → SpellsDigits base16 piece gained → AcceptsPiece fresh piece gained fresh
fresh_taken piece gained some spelled =
    takes_some fresh fresh piece gained refl some refl (closes fresh piece gained refl spelled (even_digits piece gained spelled) (sym (closed_pairs gained)))

fresh_refused : (room : Room) (old piece gained : List ℕ) → piece ≢ [] → SpellsDigits base16 piece gained → (length gained ≤ room.fits - length old → ⊥) → RefusesPiece room fresh piece old ShortBuf
fresh_refused room old piece gained some spelled full =
    let all : take (length piece) piece ≡ piece = take_all (length piece) piece (omega arith) in
    lacks_blocks fresh piece refl refl room old (length piece) gained
    (subst (λ t. length t % 2 ≡ 0) (sym all) (even_digits piece gained spelled)) (subst (λ t. SpellsDigits base16 t gained) (sym all) spelled) some (omega (arith, full)) (omega (arith, full))

pub pairs_taken : (s : DigitsState) (piece gained : List ℕ) → AreWholePairs s piece gained → AcceptsPiece s piece gained s
pairs_taken s piece gained p = subst (λ (t : DigitsState). AcceptsPiece t piece gained t) (fresh_is s p.kind p.none p.goes) (fresh_taken piece gained p.some p.spelled)

pub pairs_refused : (room : Room) (s : DigitsState) (old piece gained : List ℕ) → AreWholePairs s piece gained → (length gained ≤ room.fits - length old → ⊥) → RefusesPiece room s piece old ShortBuf
pairs_refused room s old piece gained p full =
    subst (λ (t : DigitsState). RefusesPiece room t piece old ShortBuf) (fresh_is s p.kind p.none p.goes) (fresh_refused room old piece gained p.some p.spelled full)

pub pairs_read : (s : DigitsState) (piece new : List ℕ) (r : Option ℕ) → s.kind ≡ Hex → s.ended ≡ false → s.begun ≡ [] → (length piece ≡ 0 → ⊥)
    → MatchOption r ((v : List ℕ) → SpellsDigits base16 piece v → ⊥) (λ n. SpellsDigits base16 piece (take n new) × (n ≤ length new)) → IfSome r (λ n. AreWholePairs s piece (take n new) × (n ≤ length new))
pairs_read s piece new None kind goes none some h = tt
pairs_read s piece new (Some n) kind goes none some h = (record { kind = kind; goes = goes; none = none; some = λ e. some (ap length e); spelled = h.0 }, h.1)
