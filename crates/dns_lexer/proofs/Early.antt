-- Texts that stop too early, and their errors.
use Rattle.std.proofs.Common.{◌≡◌, ◌↔◌, ℕ, ◌≤◌, List, length, sym, ap, subst, arith, take_all, inl, inr}
use Rattle.std.specs.Prelude.{encode_utf8_all}
use Rattle.std.proofs.lemmas.Bool.{cases_lt}
use Rattle.std.proofs.Math.Seq.{take-length}
use Rattle.dns_lexer.specs.Viable.{IsViable, IsBad}
use Rattle.dns_lexer.specs.Pieces.{place_of}
use Rattle.dns_lexer.proofs.PieceMoved.{mono}

-- a bad text is viable if its longest viable prefix is all of it
pub viable_at_end : (text : List ℕ) (at : ℕ) → IsBad text at → ((length text ≤ at) ↔ IsViable text)
viable_at_end text at bad = (
  λ h. subst IsViable (take_all at text h) bad.at.viable,
  λ v. elim (cases_lt at (length text)) [
    | inl less ↦ absurd (bad.at.longest (length text) less (omega arith) (subst IsViable (sym (take-length text)) v))
    | inr most ↦ most
  ],
)

-- the same of octets
pub viable_octets_at_end : (octets : List ℕ) (at : ℕ) → IsBad (encode_utf8_all octets) (place_of octets at) → ((length octets ≤ at) ↔ IsViable (encode_utf8_all octets))
viable_octets_at_end octets at bad =
    let text : List ℕ = encode_utf8_all octets in
    let n : ℕ = length octets in
    let all : place_of octets n ≡ length text = ap (λ l. length (encode_utf8_all l)) (take-length octets) in
    let e = viable_at_end text (place_of octets at) bad in (
      λ h. e.0 (omega (arith, ap (λ l. length (encode_utf8_all l)) (take_all at octets h))),
      λ v. elim (cases_lt at n) [
        | inl less ↦ absurd (omega (arith, e.1 v, all, mono octets at n less (omega arith)))
        | inr most ↦ most
      ],
    )
