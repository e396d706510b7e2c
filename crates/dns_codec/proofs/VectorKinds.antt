-- The encodings that are read and written by vectors.
use Rattle.std.proofs.Common.{◌≡◌, ℕ, ◌+◌, ◌*◌, ◌/◌, ◌%◌, ◌^◌, ◌<◌, ◌≤◌, List, take, map, slice_index, sym, ap, ◌∙◌, arith, inl, inr}
use Rattle.std.specs.List.{AllByRecursion}
use Rattle.std.proofs.Math.Nat.{lt-mul-div-succ, mul-mod_right}
use Rattle.std.proofs.lemmas.Bool.{cases_lt}
use Rattle.std.proofs.lemmas.Nat.{mul-le}
use Rattle.dns_codec.specs.Base.{Base, base16, base64, IsEncoding, IsShape, IsTable}
use Rattle.dns_codec.specs.Bits.{whole}
use Rattle.dns_codec.proofs.Halves.{is_base16}
use Rattle.dns_codec.proofs.Values.{each_octet, entries, valued}
use Rattle.dns_codec.proofs.VectorsOf64.{below_take}

is_sixty_four : (b : Base) → IsEncoding b → b.width ≡ 6 → b ≡ base64
is_sixty_four b (inl is) wide = absurd (let four : b.width ≡ 4 = ap (λ (x : Base). x.width) is in omega arith)
is_sixty_four b (inr (inl is)) wide = absurd (let five : b.width ≡ 5 = ap (λ (x : Base). x.width) is in omega arith)
is_sixty_four b (inr (inr is)) wide = is

pub shape16 : (b : Base) (bits chars octets : ℕ) → IsEncoding b → IsShape b bits chars octets → bits ≡ 4 → (b ≡ base16) × (chars ≡ 2) × (octets ≡ 1)
shape16 b bits chars octets known shape four =
    let is = is_base16 b known (sym shape.bits_are ∙ four) in
    let two : chars ≡ 2 = shape.chars_are ∙ ap (λ (x : Base). x.group) is in
    let even : 4 * 2 ≡ 8 * octets = rw (four, two) at shape.even in
    (is, two, omega arith)

pub shape64 : (b : Base) (bits chars octets : ℕ) → IsEncoding b → IsShape b bits chars octets → bits ≡ 6 → (b ≡ base64) × (chars ≡ 4) × (octets ≡ 3)
shape64 b bits chars octets known shape six =
    let is = is_sixty_four b known (sym shape.bits_are ∙ six) in
    let four : chars ≡ 4 = shape.chars_are ∙ ap (λ (x : Base). x.group) is in
    let even : 6 * 4 ≡ 8 * octets = rw (six, four) at shape.even in
    (is, four, omega arith)

-- two tables of an encoding have the same values
same_values : (b : Base) (t u : List ℕ) → IsTable b t → IsTable b u → (text : List ℕ) → AllByRecursion (λ c. c < 256) text → AllByRecursion (λ v. v < 2 ^ b.width) (map (slice_index t) text)
    → map (slice_index u) text ≡ map (slice_index t) text
same_values b t u of_t of_u text bytes all = entries b u of_u text (map (slice_index t) text) bytes (valued b t of_t text bytes all)

pub read_as : (b c : Base) (t u : List ℕ) (bits n m : ℕ) (text new : List ℕ) → b ≡ c → IsTable c t → IsTable b u → bits ≡ c.width → ((k : ℕ) → slice_index text k < 256)
    → AllByRecursion (λ v. v < 2 ^ c.width) (map (slice_index t) (take n text)) → take m new ≡ whole c.width (map (slice_index t) (take n text))
    → AllByRecursion (λ v. v < 2 ^ bits) (map (slice_index u) (take n text)) × (take m new ≡ whole bits (map (slice_index u) (take n text)))
read_as b c t u bits n m text new is of_t of_u width bytes all read =
    let low : AllByRecursion (λ x. x < 256) (take n text) = below_take 256 n text (each_octet text bytes) in
    let same : map (slice_index u) (take n text) ≡ map (slice_index t) (take n text) = same_values c t u of_t (rw is at of_u) (take n text) low all in
    (rw (width, same) all, rw (width, same) read)

-- ---- facts from a count of groups

pub groups_even : (count bits chars octets : ℕ) → bits * chars ≡ 8 * octets → (count * octets * 8 % bits ≡ 0) × (bits * (count * chars) ≡ 8 * (count * octets))
groups_even count bits chars octets even =
    let both : bits * (count * chars) ≡ 8 * (count * octets) = omega (arith, ap (λ x. count * x) even) in
    let turned : count * octets * 8 ≡ bits * (count * chars) = omega arith in
    (rw turned (mul-mod_right bits (count * chars)), both)

pub within_groups : (count size n : ℕ) → 0 < size → count * size ≤ n → count ≤ n / size
within_groups count size n pos le = elim (cases_lt (n / size) count) [
  | inl over ↦
      let last : n < n / size * size + size = omega (arith, lt-mul-div-succ n pos) in
      let more : (n / size + 1) * size ≤ count * size = mul-le (n / size + 1) size count size (omega arith) (omega arith) in
      absurd (omega arith)
  | inr fits ↦ fits
]
