use Rattle.std.proofs.Common.{◌≡◌, ◌<◌, ◌↔◌, ℕ, true, List, length, subst, IsUtf8}
use Rattle.std.specs.Prelude.{Option, Some, None, IsSome, IfSome, encode_utf8_all}
use lib.Utf8.{scalars}
use Rattle.dns_lexer.specs.Unclosed.{IsOpener, LacksClosing}
use Rattle.dns_lexer.specs.Pieces.{place_of}
use Rattle.dns_lexer.proofs.Agree.{small_scalars}
use Rattle.dns_lexer.proofs.OctetOpeners.{left_open_alike, opener_alike}
use Rattle.dns_lexer.proofs.unclosed.outermost_open.Goals as goal

placed : (text : List ℕ) (o : Option ℕ) → IsUtf8 text → scalars text ≡ true → IfSome o (λ i. i < length text) → IfSome o (λ i. IsOpener (encode_utf8_all text) (place_of text i))
    → IfSome o (IsOpener text)
placed text None u ok h k = tt
placed text (Some i) u ok h k = opener_alike text u ok i h k

pub returns-clause-place : goal.returns-clause-place
returns-clause-place c =
    let text = c.args.text.now in
    let o = c.outermost_open_of_octets.result in
    let e = c.outermost_open_of_octets.ensures in
    placed text o c.utf8.text (small_scalars text (λ k. (c.type_inv.text k).fits)) (subst (λ l. IfSome o (λ i. i < length l)) c.as_bytes.ensures.value e.within)
    (subst (λ l. IfSome o (λ i. IsOpener (encode_utf8_all l) (place_of l i))) c.as_bytes.ensures.value e.place)

pub returns-clause-left_open : goal.returns-clause-left_open
returns-clause-left_open c =
    let text = c.args.text.now in
    let o = c.outermost_open_of_octets.result in
    let e = subst (λ l. IsSome o ↔ LacksClosing (encode_utf8_all l)) c.as_bytes.ensures.value c.outermost_open_of_octets.ensures.left_open in
    let alike = left_open_alike text c.utf8.text (small_scalars text (λ k. (c.type_inv.text k).fits)) in
    (λ h. alike.0 (e.0 h), λ w. e.1 (alike.1 w))
