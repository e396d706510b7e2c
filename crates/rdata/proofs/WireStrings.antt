-- Character strings after one another.
use Rattle.std.proofs.Common.{ℕ, zero, suc, Some, None, ◌≡◌, ◌≢◌, ◌<◌, ◌-◌, List, [], ◌∷◌, ◌++◌, length, take, drop, refl, sym, ap, subst, ◌∙◌, arith}
use Rattle.std.proofs.lemmas.List.{take-append-drop}
use Rattle.rdata_tokens.proofs.Pieces.{rest_of}
use Rattle.rdata_tokens.specs.Forms.{FindsWidth, IsWireString}
use Rattle.rdata_tokens.proofs.FormLaws.{strings_in_front}
use Rattle.rdata.specs.RestKinds.{AreCharacterStrings, strings_wire}
use Rattle.rdata.proofs.FieldFronts.{behind_front}

pub string_before : (form more : List ℕ) → IsWireString form → AreCharacterStrings more → AreCharacterStrings (form ++ more)
string_before form more h k = (
  h.octets ∷ k.0,
  ((h.values, h.short), k.1),
  ap (λ f. f ++ more) h.whole ∙ ap (λ m. length h.octets ∷ (h.octets ++ m)) k.2,
)

pub no_strings : AreCharacterStrings []
no_strings = ([], tt, refl)

-- the first of the strings, and the others
strings_split : (octets : List ℕ) → octets ≢ [] → AreCharacterStrings octets → (form : List ℕ) × (more : List ℕ) × (octets ≡ form ++ more) × IsWireString form × AreCharacterStrings more
strings_split octets some ([], short, is) = absurd (some is)
strings_split octets some (s ∷ ss, short, is) =
    (length s ∷ s, strings_wire ss, is, record { octets = s; values = short.0.0; short = short.0.1; whole = refl }, (ss, short.1, refl))

pub string_wide : (octets : List ℕ) (width : ℕ) → FindsWidth IsWireString octets (Some width) → 0 < width
string_wide octets zero h = let none : take zero octets ≡ length h.1.octets ∷ h.1.octets = h.1.whole in cc none
string_wide octets (suc width) h = omega arith

pub record HasBehind (octets left : List ℕ) : Type 0 where
  pub on : AreCharacterStrings left → AreCharacterStrings octets
  pub back : AreCharacterStrings octets → AreCharacterStrings left

pub none_behind : (octets : List ℕ) → HasBehind octets octets
none_behind octets = record { on = λ h. h; back = λ h. h }

pub one_behind : (octets left after : List ℕ) (width : ℕ) → HasBehind octets left → left ≢ [] → FindsWidth IsWireString left (Some width) → after ≡ take (length left - width) (drop width left) → HasBehind octets after
one_behind octets left after width h some found rest_is = subst (HasBehind octets) (sym (rest_is ∙ rest_of width left)) (record {
  on = λ k. h.on (subst AreCharacterStrings (take-append-drop width left) (string_before (take width left) (drop width left) found.1 k));
  back = λ k. behind (strings_split left some (h.back k));
})
  where
    behind : (form : List ℕ) × (more : List ℕ) × (left ≡ form ++ more) × IsWireString form × AreCharacterStrings more → AreCharacterStrings (drop width left)
    behind s = subst AreCharacterStrings (sym (behind_front IsWireString strings_in_front left s.0 s.1 width found s.2 s.3)) s.4

pub cut_behind : (octets left : List ℕ) → HasBehind octets left → left ≢ [] → FindsWidth IsWireString left None → AreCharacterStrings octets → ⊥
cut_behind octets left h some none k = let s = strings_split left some (h.back k) in none s.0 s.1 s.3 s.2

pub all_behind : (octets left : List ℕ) → HasBehind octets left → left ≡ [] → AreCharacterStrings octets
all_behind octets left h is = h.on (subst AreCharacterStrings (sym is) no_strings)

pub is_some : (octets : List ℕ) → length octets ≢ 0 → octets ≢ []
is_some octets h none = h (ap length none)
