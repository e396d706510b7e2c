-- The characters of a text are the text's.
use Rattle.std.proofs.Common.{◌≡◌, ℕ, List, ◌++◌, sym, ap, subst, ◌∙◌, Result, ⊎_elim}
use Rattle.std.specs.Prelude.{encode_utf8_all}
use Rattle.std.specs.Str.{IsUtf8}
use Rattle.std.specs.Str.Iter.{chars_steps, chars_rest}
use Rattle.std.specs.declared.str.Chars.{Chars}
use Rattle.std.proofs.lemmas.Str.{encodes-append}
use Rattle.dns_octets.specs.Room.{Room}
use Rattle.dns_symbol.proofs.Agree.{Chars-Yields, Chars-all}
use Rattle.dns_symbol.proofs.Texts.{rest_utf8}
use Rattle.dns_name.specs.Reading.{ReadsName, ReadsChars}
use Rattle.dns_name.specs.declared.name.UncertainName.{UncertainName}
use Rattle.dns_name.specs.declared.name.error.FromStrError.{FromStrError}

pub text_read : (O : Type 0) (text : List ℕ) (s : Chars) (room : Room) (r : Result (UncertainName O) FromStrError) → IsUtf8 text → chars_rest s ≡ text
    → ReadsChars chars_steps s room r → ReadsName room text r
text_read O text s room r utf8 is h =
    ⊎_elim
    (λ a. subst (λ t. ReadsName room t r) (sym (Chars-all s a.0.1.0 a.0.0 h.0 a.0.1.1 a.0.1.2) ∙ is) a.1)
    (λ b.
    let front : text ≡ encode_utf8_all h.0 ++ chars_rest b.0 = sym is ∙ Chars-Yields s b.0 h.0 b.1 in
    let more = rest_utf8 h.0 text (chars_rest b.0) utf8 front in
    let whole : encode_utf8_all (h.0 ++ more.0) ≡ text = encodes-append h.0 more.0 ∙ ap (λ t. encode_utf8_all h.0 ++ t) more.1.1 ∙ sym front in
    subst (λ t. ReadsName room t r) whole (b.2 more.0))
    h.1
