-- Octets in digits: the texts that spell them.
use Rattle.std.specs.Prelude.{ℕ, ◌≡◌, ◌<◌, ◌*◌, ◌%◌, ◌==◌, not, Bool, All, List, length, map, if◌then◌else◌, ◌≢◌, ◌≤◌, ◌-◌, ◌++◌, false, MatchBool, replicate, slice_index, take}
use Rattle.dns_codec.specs.Base.{Base, base16, base64, capital, encoded}
use Rattle.rdata_tokens.specs.declared.kind.DigitsKind.{DigitsKind}
use Rattle.rdata_tokens.specs.declared.kind.DigitsKind.TheVariants.{Hex, Base64}
use Rattle.rdata_values.specs.declared.error.ErrorKind.{ErrorKind}
use Rattle.rdata_values.specs.declared.error.ErrorKind.TheVariants.{ExpectedHex, UnevenHex, IllegalBase64, IncompleteBase64}

-- upper case for lower case, in an encoding that ignores case
abbrev pub case_folded : Base → List ℕ → List ℕ
case_folded b text = if b.folds_case then map capital text else text

-- the text is what the octets print as, in either case if the encoding ignores case
pub record SpellsDigits (b : Base) (text octets : List ℕ) : Type 0 where
  pub bytes : All (λ o. o < 256) octets
  pub text_is : case_folded b text ≡ encoded b octets

-- a beginning of a text spells these octets, of which there are some
abbrev pub BeginsWithDigits : Base → List ℕ → List ℕ → Type 0
BeginsWithDigits b text octets = (front : List ℕ) × (rest : List ℕ) × (text ≡ front ++ rest) × SpellsDigits b front octets × (0 < length octets)

-- the octets end within a group, which is then padded in base 64
abbrev pub opens_group : Base → List ℕ → Bool
opens_group b octets = not (8 * length octets % (b.width * b.group) == 0)

-- the encodings that arrive in pieces
abbrev pub base_of : DigitsKind → Base
base_of Hex = base16
base_of Base64 = base64

-- the error of a beginning that no text of octets has
abbrev pub illegal : DigitsKind → ErrorKind
illegal Hex = ExpectedHex
illegal Base64 = IllegalBase64

-- the error of a text that ends within a group
abbrev pub unfinished : DigitsKind → ErrorKind
unfinished Hex = UnevenHex
unfinished Base64 = IncompleteBase64

-- whole groups of a text without padding spell the first `n` octets of a slice
abbrev pub SpellsGroups : Base → List ℕ → List ℕ → ℕ → Type 0
SpellsGroups b text slice n = SpellsDigits b text (take n slice) × (n ≤ length slice) × (opens_group b (take n slice) ≡ false)

-- whether some text of octets has this beginning
abbrev pub DecidesBeginning : Base → Bool → List ℕ → Type 0
DecidesBeginning b r begun = MatchBool r ((rest : List ℕ) × (v : List ℕ) × SpellsDigits b (begun ++ rest) v)
    ((rest v : List ℕ) → SpellsDigits b (begun ++ rest) v → ⊥)

-- whether two lists are the same
abbrev pub DecidesEqual : Bool → List ℕ → List ℕ → Type 0
DecidesEqual r xs ys = MatchBool r (xs ≡ ys) (xs ≢ ys)

-- a group of base 64 with this beginning, filled with `=` after a `=` and with zeros otherwise
abbrev pub filled_group : List ℕ → List ℕ
filled_group begun = begun ++ replicate (4 - length begun) (if slice_index begun (length begun - 1) == 61 then 61 else 65)

-- a text continues to one of octets that begin with these
abbrev pub ContinuesTo : Base → List ℕ → List ℕ → Type 0
ContinuesTo b text octets = (rest : List ℕ) × (more : List ℕ) × SpellsDigits b (text ++ rest) (octets ++ more)
