-- Words of a text, octet by octet.
use Rattle.std.proofs.Common.{ℕ, suc, ◌≡◌, ◌+◌, ◌<◌, Bool, true, false, List, ◌∷◌, length, drop, get_or, refl, sym, ap, ◌∙◌, arith}
use Rattle.std.specs.Prelude.{◌==◌, ◌&&◌, ◌||◌}
use Rattle.std.proofs.Math.Seq.{drop-cons}
use Rattle.dns_symbol.specs.Symbol.{is_word_char}
use Rattle.record_rules.specs.Comments.{reaches_comment}

next_octet : (text : List ℕ) (i : ℕ) → i < length text → drop i text ≡ get_or text i 0 ∷ drop (i + 1) text
next_octet text i lt = let e : suc i ≡ i + 1 = omega arith in drop-cons text i 0 lt ∙ ap (λ k. get_or text i 0 ∷ drop k text) e

-- after an octet that is escaped
pub after_escaped : (text : List ℕ) (i : ℕ) (old new whole : Bool) → i < length text → old ≡ true → new ≡ false → reaches_comment old (drop i text) ≡ whole
    → reaches_comment new (drop (i + 1) text) ≡ whole
after_escaped text i old new whole lt was is h =
    ap (λ e. reaches_comment e (drop (i + 1) text)) is ∙ sym (λ j. reaches_comment (was j) (next_octet text i lt j)) ∙ h

plain_octet : (octet : ℕ) (octets : List ℕ) (semicolon : Bool) → (octet == 59) ≡ semicolon → semicolon ≡ false → is_word_char octet ≡ true
    → reaches_comment false (octet ∷ octets) ≡ reaches_comment (octet == 92) octets
plain_octet octet octets semicolon is other word = λ j. (is ∙ other) j || (word j && reaches_comment (octet == 92) octets)

-- after one that is in a word
pub after_plain : (text : List ℕ) (i : ℕ) (old new whole : Bool) → i < length text → old ≡ false → (get_or text i 0 == 59) ≡ false → is_word_char (get_or text i 0) ≡ true
    → new ≡ (get_or text i 0 == 92) → reaches_comment old (drop i text) ≡ whole → reaches_comment new (drop (i + 1) text) ≡ whole
after_plain text i old new whole lt was other word is h =
    ap (λ e. reaches_comment e (drop (i + 1) text)) is
    ∙ sym (plain_octet (get_or text i 0) (drop (i + 1) text) (get_or text i 0 == 59) refl other word)
    ∙ sym (λ j. reaches_comment (was j) (next_octet text i lt j))
    ∙ h
