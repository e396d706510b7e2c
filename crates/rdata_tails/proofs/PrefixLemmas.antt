-- Items parse as they print, and to one item.
use Rattle.std.proofs.Common.{ℕ, ◌≡◌, ◌≢◌, ◌<◌, ◌≤◌, ◌+◌, ◌-◌, Bool, true, false, List, [], ◌∷◌, ◌++◌, length, get_or, take, drop, refl, sym, subst, arith, ap, ◌∙◌, inl, inr, Option, Some, None, Result, Ok, Err}
use Rattle.std.specs.Char.{digit_value}
use Rattle.std.specs.Option.{ok_or}
use Rattle.std.specs.Str.Parse.{AllDigits}
use Rattle.std.specs.Net.Grammar.{IsIpText}
use Rattle.std.proofs.NetLemmas.Theorems.{IsIpText_unique}
use Rattle.std.specs.declared.net.ip_addr.IpAddr.{IpAddr}
use Rattle.std.specs.declared.net.ip_addr.IpAddr.TheVariants.{V4, V6}
use Rattle.rdata_values.specs.Numbers.{SpellsNumber}
use Rattle.rdata_tails.specs.declared.apl.Prefix.{Prefix}
use Rattle.rdata_values.specs.declared.error.ErrorKind.{ErrorKind}
use Rattle.rdata_values.specs.declared.error.ErrorKind.TheVariants.{ExpectedPrefix, ShortBuf}
use Rattle.std.specs.Result.{IsErrAnd, IfErr, OnErr}
use Rattle.std.specs.Prelude.{IsOk}
use Rattle.std.proofs.lemmas.List.{take_all}
use Rattle.dns_octets.specs.Room.{Room}
use Rattle.dns_octets.specs.Appending.{ExceedsRoom}
use Rattle.rdata_tails.specs.Marks.{LacksMark}
use Rattle.rdata_tails.specs.Prefixes.{family_of, address_bits, address_octets, exclusion_bit, IsAddressPart, IsAddressText, IsPlainPrefix, FindsPlain, SpellsPrefix, SpellsItem, IsPrefixWire, PrefixExceedsRoom, exclusion}
use Rattle.rdata_values.specs.Kind.{ReadsKind}
use Rattle.rdata_tails.specs.Refusals.{WhyNot}
use Rattle.rdata_tails.proofs.MarkLemmas.{digits_lack, one_first, one_last, at_mark}

pub address_bits_le : (a : IpAddr) → address_bits a ≤ 128
address_bits_le (V4 a) = omega arith
address_bits_le (V6 a) = omega arith

same_bits : (a b : IpAddr) → family_of a ≡ family_of b → address_bits a ≡ address_bits b
same_bits (V4 a) (V4 b) is = refl
same_bits (V4 a) (V6 b) is = absurd (omega (arith, is))
same_bits (V6 a) (V4 b) is = absurd (omega (arith, is))
same_bits (V6 a) (V6 b) is = refl

pub no_colon : (text : List ℕ) (p : Prefix) → LacksMark 58 text → IsPlainPrefix text p → ⊥
no_colon text p lacks h = at_mark h.family (h.address ++ 47 ∷ h.bits) 58 (subst (LacksMark 58) h.written lacks)

-- the text before the first colon, and the text after it
behind_colon : (text family after : List ℕ) (p : Prefix) → text ≡ family ++ 58 ∷ after → LacksMark 58 family → (h : IsPlainPrefix text p) → (h.family ≡ family) × (h.address ++ 47 ∷ h.bits ≡ after)
behind_colon text family after p is lacks h = one_first h.family (h.address ++ 47 ∷ h.bits) family after 58 (digits_lack h.family 58 (omega arith) h.address_is.1.0.1) lacks (sym h.written ∙ is)

pub no_slash : (text family after : List ℕ) (p : Prefix) → text ≡ family ++ 58 ∷ after → LacksMark 58 family → LacksMark 47 after → IsPlainPrefix text p → ⊥
no_slash text family after p is lacks none h =
    let same = behind_colon text family after p is lacks h in
    at_mark h.address h.bits 47 (subst (LacksMark 47) (sym same.1) none)

-- the parts of an item
pub record HasParts (family address bits : List ℕ) (p : Prefix) : Type 0 where
  pub address_is : IsAddressText family address p.address
  pub bits_are : SpellsNumber bits p.bits
  pub within : p.bits ≤ address_bits p.address

pub has_parts : (text family after address bits : List ℕ) (p : Prefix) → text ≡ family ++ 58 ∷ after → LacksMark 58 family → after ≡ address ++ 47 ∷ bits → LacksMark 47 bits → IsPlainPrefix text p → HasParts family address bits p
has_parts text family after address bits p is lacks split none h =
    let same = behind_colon text family after p is lacks h in
    let parts = one_last h.address h.bits address bits 47 (digits_lack h.bits 47 (omega arith) h.bits_are.0.1) none (same.1 ∙ split) in
    record {
      address_is = (h.address_is.0, subst (λ t. SpellsNumber t (family_of p.address)) same.0 h.address_is.1, subst (λ t. IsIpText t p.address) parts.0 h.address_is.2);
      bits_are = subst (λ t. SpellsNumber t p.bits) parts.1 h.bits_are;
      within = h.within;
    }

pub too_many : (family address bits : List ℕ) (p : Prefix) (a : IpAddr) (n : ℕ) → IsAddressText family address a → SpellsNumber bits n → address_bits a < n → HasParts family address bits p → ⊥
too_many family address bits p a n is number more h =
    let same = same_bits p.address a (h.address_is.1.1 ∙ sym is.1.1) in
    let count : p.bits ≡ n = h.bits_are.1 ∙ sym number.1 in
    omega (arith, same, count, h.within, more)

pub from_parts : (text family after address bits : List ℕ) (p : Prefix) → text ≡ family ++ 58 ∷ after → after ≡ address ++ 47 ∷ bits → IsAddressText family address p.address → SpellsNumber bits p.bits → p.bits ≤ address_bits p.address → IsPlainPrefix text p
from_parts text family after address bits p is split address_is bits_are within = record {
  family = family;
  address = address;
  bits = bits;
  written = is ∙ ap (λ t. family ++ 58 ∷ t) split;
  address_is = address_is;
  bits_are = bits_are;
  within = within;
}

-- an item without exclusion begins with a digit
first_digit : (text : List ℕ) (p : Prefix) → IsPlainPrefix text p → get_or text 0 0 ≡ 33 → ⊥
first_digit text p h is = by h.family h.address_is.1.0.0 h.address_is.1.0.1 h.written
  where
    by : (family : List ℕ) → 0 < length family → AllDigits 10 family → text ≡ family ++ 58 ∷ (h.address ++ 47 ∷ h.bits) → ⊥
    by [] some all e = omega (arith, some)
    by (c ∷ cs) some all e =
        let first : digit_value 33 ≡ digit_value c = ap digit_value (sym is ∙ ap (λ t. get_or t 0 0) e) in
        let digit = all.0 in
        omega (arith, first, digit)

pub reads_plain : (text : List ℕ) (r : Option Prefix) → get_or text 0 0 ≢ 33 → FindsPlain false text r → ReadsKind SpellsPrefix ExpectedPrefix text (ok_or r ExpectedPrefix)
reads_plain text (Some p) other h = (text, ap (λ b. exclusion b ++ text) (sym h.0), h.1)
reads_plain text None other h = (refl, none)
  where
    by : (negated : Bool) (p : Prefix) (plain : List ℕ) → text ≡ exclusion negated ++ plain → IsPlainPrefix plain p → ⊥
    by true p plain is own = other (ap (λ t. get_or t 0 0) is)
    by false p plain is own = h p (subst (λ t. IsPlainPrefix t p) (sym is) own)

    none : (p : Prefix) → SpellsPrefix text p → ⊥
    none p k = by p.negated p k.0 k.1 k.2

pub reads_exclusion : (text rest : List ℕ) (r : Option Prefix) → text ≡ 33 ∷ rest → FindsPlain true rest r → ReadsKind SpellsPrefix ExpectedPrefix text (ok_or r ExpectedPrefix)
reads_exclusion text rest (Some p) is h = (rest, is ∙ ap (λ b. exclusion b ++ rest) (sym h.0), h.1)
reads_exclusion text rest None is h = (refl, none)
  where
    by : (negated : Bool) (p : Prefix) (plain : List ℕ) → text ≡ exclusion negated ++ plain → IsPlainPrefix plain p → ⊥
    by true p plain e own = h p (subst (λ t. IsPlainPrefix t p) (ap (drop 1) (sym e ∙ is)) own)
    by false p plain e own = first_digit plain p own (ap (λ t. get_or t 0 0) (sym e ∙ is))

    none : (p : Prefix) → SpellsPrefix text p → ⊥
    none p k = by p.negated p k.0 k.1 k.2

-- a text without exclusion spells one item
one_plain : (text : List ℕ) (p q : Prefix) → IsPlainPrefix text p → IsPlainPrefix text q → (p.address ≡ q.address) × (p.bits ≡ q.bits)
one_plain text p q h k =
    let parts = has_parts text k.family (k.address ++ 47 ∷ k.bits) k.address k.bits p k.written (digits_lack k.family 58 (omega arith) k.address_is.1.0.1) refl (digits_lack k.bits 47 (omega arith) k.bits_are.0.1) h in
    (one_address k.address p.address q.address parts.address_is.2 k.address_is.2, parts.bits_are.1 ∙ sym k.bits_are.1)
  where
    one_address : (text : List ℕ) (a b : IpAddr) → IsIpText text a → IsIpText text b → a ≡ b
    one_address = IsIpText_unique

pub one_prefix : (text : List ℕ) (p q : Prefix) → SpellsPrefix text p → SpellsPrefix text q → p ≡ q
one_prefix text p q h k = by p.negated q.negated refl refl
  where
    by : (b c : Bool) → p.negated ≡ b → q.negated ≡ c → p ≡ q
    by true true e f =
        let same : h.0 ≡ k.0 = ap (drop 1) (ap (λ b. exclusion b ++ h.0) (sym e) ∙ sym h.1 ∙ k.1 ∙ ap (λ b. exclusion b ++ k.0) f) in
        let one = one_plain k.0 p q (subst (λ t. IsPlainPrefix t p) same h.2) k.2 in
        let sign : p.negated ≡ q.negated = e ∙ sym f in
        λ i. record { negated = sign i; address = one.0 i; bits = one.1 i }
    by false false e f =
        let same : h.0 ≡ k.0 = ap (λ b. exclusion b ++ h.0) (sym e) ∙ sym h.1 ∙ k.1 ∙ ap (λ b. exclusion b ++ k.0) f in
        let one = one_plain k.0 p q (subst (λ t. IsPlainPrefix t p) same h.2) k.2 in
        let sign : p.negated ≡ q.negated = e ∙ sym f in
        λ i. record { negated = sign i; address = one.0 i; bits = one.1 i }
    by true false e f = absurd (first_digit k.0 q k.2 (ap (λ t. get_or t 0 0) (ap (λ b. exclusion b ++ k.0) (sym f) ∙ sym k.1 ∙ h.1 ∙ ap (λ b. exclusion b ++ h.0) e)))
    by false true e f = absurd (first_digit h.0 p h.2 (ap (λ t. get_or t 0 0) (ap (λ b. exclusion b ++ h.0) (sym e) ∙ sym h.1 ∙ k.1 ∙ ap (λ b. exclusion b ++ k.0) f)))

-- ---- appending

pub err_and : (r : Result (Unit {0}) ErrorKind) (P Q : ErrorKind → Type 0) → IsErrAnd r P → ((e : ErrorKind) → P e → Q e) → IfErr r Q
err_and (Ok x) P Q h f = tt
err_and (Err e) P Q h f = f e h

pub behind_one : (text : List ℕ) → get_or text 0 0 ≡ 33 → text ≡ 33 ∷ take (length text - 1) (drop 1 text)
behind_one [] is = absurd (omega (arith, is))
behind_one (c ∷ cs) is = let all : take (length (c ∷ cs) - 1) cs ≡ cs = take_all (length (c ∷ cs) - 1) cs (omega arith) in λ i. is i ∷ sym all i

pub not_spelled : (room : Room) (text old : List ℕ) (e : ErrorKind) → e ≡ ExpectedPrefix → ((p : Prefix) → SpellsPrefix text p → ⊥) → WhyNot room (SpellsItem text) ExpectedPrefix old e
not_spelled room text old e is none = inl (is, λ octets h. none h.0 h.1)

pub no_room : (room : Room) (text old : List ℕ) (p : Prefix) (e : ErrorKind) → e ≡ ShortBuf → SpellsPrefix text p → ExceedsRoom room (IsPrefixWire p) old → WhyNot room (SpellsItem text) ExpectedPrefix old e
no_room room text old p e is own exceeds = inr (is, (exceeds.0, (p, own, exceeds.1), exceeds.2))

-- what holds of an error that means a lack of room
pub on_err : {E : Type 0} (r : Result (Unit {0}) E) {Fits P : Type 0} → (Fits → IsOk r) → ((Fits → ⊥) → P) → OnErr r P
on_err (Ok x) fits h = tt
on_err (Err e) fits h = h (λ enough. cc (fits enough))

pub on_failed : {E : Type 0} (r : Result (Unit {0}) E) {Fits P : Type 0} → (Fits → false ≡ true) → ((Fits → ⊥) → P) → OnErr r P
on_failed (Ok x) fits h = tt
on_failed (Err e) fits h = h (λ enough. cc (fits enough))

-- four octets, and those of the address, don't surely fit
pub prefix_exceeds : (room : Room) (p : Prefix) (old part : List ℕ) → IsAddressPart part (address_octets p.address) → room.fits < length old + (4 + length part) → PrefixExceedsRoom room p old
prefix_exceeds room p old part is exceeds =
    (0 ∷ family_of p.address ∷ p.bits ∷ (exclusion_bit p.negated + length part) ∷ part, record { part = part; is_part = is; written = refl }, omega (arith, exceeds))
