-- The common properties of the numbers of the three encodings.
use Rattle.std.proofs.Common.{◌≡◌, ℕ, ◌+◌, ◌-◌, ◌*◌, ◌/◌, ◌%◌, ◌^◌, ◌<◌, ◌≤◌, ◌⊎◌, true, false, nat_lt, refl, arith, Some, None, inl, inr}
use Rattle.dns_codec.specs.Base.{Base, base16, base32hex, base64, value, IsEncoding}
use Rattle.dns_codec.specs.Outcome.{grouped}
use Rattle.dns_codec.proofs.Wholes.{below16, below32, below64}
use Rattle.dns_codec.proofs.Unique.{no_mark16, no_mark32, no_mark64}

-- `m` counts the characters of whole groups, and `r` those of an open one
pub record Numbers (b : Base) : Type 0 where
  pub below : (c v : ℕ) → value b c ≡ Some v → v < 2 ^ b.width
  pub no_mark : value b 61 ≡ None
  pub some : 0 < b.group
  pub none : 0 % b.group ≡ 0
  pub small : (n : ℕ) → n * b.width / 8 ≤ n
  pub place : (n m r : ℕ) → n ≡ m + r → m % b.group ≡ 0 → r < b.group → n % b.group ≡ r
  pub closed : (m r : ℕ) → m % b.group ≡ 0 → r ≡ b.group → (m + r) % b.group ≡ 0
  pub rest : (n : ℕ) → ((n - n % b.group) % b.group ≡ 0) × (n % b.group ≤ n) × (n % b.group < b.group)
  pub bits : (m : ℕ) → m % b.group ≡ 0 → m * b.width % 8 ≡ 0
  pub sum : (m r : ℕ) → m % b.group ≡ 0 → m * b.width / 8 + r * b.width / 8 ≡ (m + r) * b.width / 8
  pub grouped_at : (n m r : ℕ) → n ≡ m + r → m % b.group ≡ 0 → r < b.group → grouped b n ≡ m * b.width / 8
  pub grouped_grows : (m n : ℕ) → m ≤ n → grouped b m ≤ grouped b n
  pub count_closed : (n g : ℕ) → g ≡ n % b.group → g + 1 ≡ b.group → 0 ≡ (n + 1) % b.group
  pub count_open : (n g : ℕ) → g ≡ n % b.group → (g + 1 ≡ b.group → ⊥) → g + 1 ≡ (n + 1) % b.group

numbers16 : Numbers base16
numbers16 = search (arith, below16, no_mark16)

numbers32 : Numbers base32hex
numbers32 = search (arith, below32, no_mark32)

numbers64 : Numbers base64
numbers64 = search (arith, below64, no_mark64)

pub numbers : (b : Base) → IsEncoding b → Numbers b
numbers b (inl is) = rw is numbers16
numbers b (inr (inl is)) = rw is numbers32
numbers b (inr (inr is)) = rw is numbers64

-- base 16 and base32hex
pub record IsPlain (b : Base) : Type 0 where
  pub unpadded : nat_lt 1 b.unit ≡ false
  pub goes_on : b.keeps_first ≡ false
  pub no_marks : (n : ℕ) → (b.unit - n % b.unit) % b.unit ≡ 0

pub plain16 : IsPlain base16
plain16 = record { unpadded = refl; goes_on = refl; no_marks = λ n. omega arith }

pub plain32 : IsPlain base32hex
plain32 = record { unpadded = refl; goes_on = refl; no_marks = λ n. omega arith }

pub kinds : (b : Base) → IsEncoding b → IsPlain b ⊎ (b ≡ base64)
kinds b (inl is) = inl (rw is plain16)
kinds b (inr (inl is)) = inl (rw is plain32)
kinds b (inr (inr is)) = inr is

pub is_padded : (b : Base) → b ≡ base64 → (nat_lt 1 b.unit ≡ true) × (b.keeps_first ≡ true) × (b.ends_first ≡ false)
is_padded b same = rw same (refl, refl, refl)
