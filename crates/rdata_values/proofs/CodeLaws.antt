-- Types, classes, algorithms and certificate types parse as they print.
use Rattle.std.proofs.Common.{ℕ, ◌≡◌, ◌<◌, ◌^◌, ◌++◌, Bool, true, false, Option, None, List, [], ◌∷◌, length, get_or, refl, sym, subst, arith, ap, ◌∙◌, inl, inr, decimal}
use Rattle.std.specs.Prelude.{◌==◌, if◌then◌else◌, codes, MatchOption}
use Rattle.std.specs.Char.{digit_value, to_ascii_lowercase}
use Rattle.std.specs.Str.{bytes_eq}
use Rattle.std.proofs.lemmas.List.{length-drop, length-map}
use Rattle.dns_octets.specs.Lowered.{lowered}
use Rattle.std.proofs.lemmas.Bool.Decides.{nat_tests}
use Rattle.std.proofs.lemmas.Str.Parse.{digit_from_value}
use Rattle.rdata_values.specs.Numbers.{SpellsNumber}
use Rattle.rdata_values.specs.Registry.{row_code, IsNumbered, SpellsCode}
use Rattle.rdata_values.specs.Types.{type_rows, type_prefix, SpellsType, type_text, TypesAreKind, is_portable, portable_text, SpellsPortable, PortableTypesAreKind, SpellsSigType, sig_type_text, SigTypesAreKind}
use Rattle.rdata_values.specs.Classes.{class_rows, class_prefix, SpellsClass, class_text, ClassesAreKind}
use Rattle.rdata_values.specs.Algorithms.{algorithm_rows, certificate_rows, SpellsAlgorithm, AlgorithmsAreKind, SpellsCertificate, certificate_text, CertificatesAreKind}
use Rattle.rdata_values.specs.declared.types.PortableType.{PortableType}
use Rattle.rdata_values.specs.declared.types.RecordType.{RecordType}
use Rattle.rdata_values.specs.declared.types.SigType.{SigType}
use Rattle.rdata_values.specs.declared.classes.Class.{Class}
use Rattle.rdata_values.specs.declared.algorithms.Algorithm.{Algorithm}
use Rattle.rdata_values.specs.declared.algorithms.CertificateType.{CertificateType}
use Rattle.rdata_values.proofs.ReadBack.{is_kind}
use Rattle.rdata_values.proofs.Registries.{other, is_registry, digit_first, unnamed, numbered, spelled, within, once}

type_registry : is_registry type_rows type_prefix 65535 ≡ true
unfolding type_rows
type_registry = refl

class_registry : is_registry class_rows class_prefix 65535 ≡ true
class_registry = refl

algorithm_registry : is_registry algorithm_rows [] 255 ≡ true
algorithm_registry = refl

certificate_registry : is_registry certificate_rows [] 65535 ≡ true
certificate_registry = refl

pub types_are_kind : TypesAreKind
types_are_kind = is_kind (λ t. t < 2 ^ 16) SpellsType type_text (λ t small. spelled type_rows type_prefix 65535 type_registry (omega arith) t (omega (arith, small))) one
  where
    one : (text : List ℕ) (t u : RecordType) → SpellsType text t → SpellsType text u → t ≡ u
    one text t u h k = let same = once type_rows type_prefix 65535 text t u h k in same

-- a type is spelled by its name, or by the prefix and its code, whether all readers know the name or not
portable_spelled : (t : RecordType) → t < 2 ^ 16 → SpellsType (portable_text t) t
portable_spelled t small = by (is_portable t)
  where
    by : (known : Bool) → SpellsType (if known then type_text t else type_prefix ++ decimal t) t
    by true = types_are_kind.spelled t small
    by false = numbered type_rows type_prefix 65535 type_registry (omega arith) t (omega (arith, small))

pub portable_types_are_kind : PortableTypesAreKind
portable_types_are_kind = is_kind (λ t. t.0 < 2 ^ 16) SpellsPortable (λ t. portable_text t.0) (λ t small. portable_spelled t.0 small) one
  where
    one : (text : List ℕ) (t u : PortableType) → SpellsPortable text t → SpellsPortable text u → t ≡ u
    one text t u h k = let same = types_are_kind.once text t.0 u.0 h k in λ i. record { 0 = same i }

-- ---- the type that a SIG covers

-- no name of a type begins with a digit
digit_registry : is_registry type_rows [] 65535 ≡ true
unfolding type_rows
digit_registry = refl

-- a decimal digit is not the letter t
no_letter : (c : ℕ) → digit_value c < 10 → to_ascii_lowercase c ≡ 116 → ⊥
no_letter c d h = let range = digit_from_value c d in Prim.grind (arith, nat_tests)

-- a number names no type: neither by a name nor by the prefix
number_names_none : (text : List ℕ) (n : ℕ) → SpellsNumber text n → (t : RecordType) → SpellsType text t → ⊥
number_names_none [] n h t k = omega (arith, h.0.0)
number_names_none (c ∷ cs) n h t k =
    let range = digit_from_value c h.0.1.0 in
    let none = unnamed type_rows [] 65535 type_rows digit_registry (c ∷ cs) refl (digit_first c range.0 range.1) in
    let numbered = subst (λ (o : Option ℕ). MatchOption o (IsNumbered type_prefix 65535 (c ∷ cs) t) (λ c. t ≡ c)) none k in
    no_letter c h.0.1.0 (ap (λ t. get_or t 0 0) numbered.0)

sig_once : (text : List ℕ) (t u : SigType) → SpellsSigType text t → SpellsSigType text u → t.0 ≡ u.0
sig_once text t u (inl h) (inl k) = types_are_kind.once text t.0 u.0 h k
sig_once text t u (inl h) (inr k) = absurd (number_names_none text u.0 k.0 t.0 h)
sig_once text t u (inr h) (inl k) = absurd (number_names_none text t.0 h.0 u.0 k)
sig_once text t u (inr h) (inr k) = h.0.1 ∙ sym k.0.1

sig_spelled : (t : RecordType) → t < 2 ^ 16 → SpellsSigType (sig_type_text t) (record { 0 = t })
sig_spelled t small = by (t == 0) refl
  where
    by : (none : Bool) → (t == 0) ≡ none → SpellsSigType (if none then codes "0" else portable_text t) (record { 0 = t })
    by true is = let none : t ≡ 0 = Prim.grind (arith, nat_tests) in inr (((omega arith, (omega arith, tt)), none), omega (arith, small))
    by false is = inl (portable_spelled t small)

pub sig_types_are_kind : SigTypesAreKind
sig_types_are_kind = is_kind (λ t. t.0 < 2 ^ 16) SpellsSigType (λ t. sig_type_text t.0) (λ t small. sig_spelled t.0 small) one
  where
    one : (text : List ℕ) (t u : SigType) → SpellsSigType text t → SpellsSigType text u → t ≡ u
    one text t u h k = let same = sig_once text t u h k in λ i. record { 0 = same i }

pub classes_are_kind : ClassesAreKind
classes_are_kind = is_kind (λ c. c < 2 ^ 16) SpellsClass class_text (λ c small. spelled class_rows class_prefix 65535 class_registry (omega arith) c (omega (arith, small))) one
  where
    one : (text : List ℕ) (c d : Class) → SpellsClass text c → SpellsClass text d → c ≡ d
    one text c d h k = let same = once class_rows class_prefix 65535 text c d h k in same

one_algorithm : (text : List ℕ) (a b : Algorithm) → SpellsAlgorithm text a → SpellsAlgorithm text b → a ≡ b
one_algorithm text a b h k = let same = once algorithm_rows [] 255 text a.0 b.0 h k in λ i. record { 0 = same i }

pub algorithms_are_kind : AlgorithmsAreKind
algorithms_are_kind =
    is_kind (λ a. a.0 < 2 ^ 8) SpellsAlgorithm (λ a. decimal a.0) (λ a small. numbered algorithm_rows [] 255 algorithm_registry (omega arith) a.0 (omega (arith, small))) one_algorithm

pub certificates_are_kind : CertificatesAreKind
certificates_are_kind = is_kind (λ t. t.0 < 2 ^ 16) SpellsCertificate certificate_text (λ t small. spelled certificate_rows [] 65535 certificate_registry (omega arith) t.0 (omega (arith, small))) one
  where
    one : (text : List ℕ) (t u : CertificateType) → SpellsCertificate text t → SpellsCertificate text u → t ≡ u
    one text t u h k = let same = once certificate_rows [] 65535 text t.0 u.0 h k in λ i. record { 0 = same i }

-- a text of another length has no name
no_row : (name text : List ℕ) → length name ≡ 2 → (length text ≡ 2 → ⊥) → bytes_eq (lowered name) (lowered text) ≡ false
no_row name text two not_two =
    other (lowered name) (lowered text) (λ same. not_two (omega (arith, two, ap length same, length-map name to_ascii_lowercase, length-map text to_ascii_lowercase)))

-- a text that names a class has 2 octets, or a prefix of 5 and a digit
pub class_long : (text : List ℕ) (c : ℕ) → SpellsCode class_rows class_prefix 65535 text c → (length text ≡ 2 → ⊥) → 5 < length text
class_long text c h not_two =
    let internet = no_row (codes "IN") text refl not_two in
    let chaos = no_row (codes "CH") text refl not_two in
    let hesiod = no_row (codes "HS") text refl not_two in
    let none : row_code class_rows text ≡ None = rw (internet, chaos, hesiod) refl in
    let numbered = subst (λ (o : Option ℕ). MatchOption o (IsNumbered class_prefix 65535 text c) (λ k. c ≡ k)) none h in
    omega (arith, numbered.1.0.0, length-drop 5 text)

-- the number of an algorithm is one of 8 bits
pub algorithm_within : (text : List ℕ) (code : ℕ) → SpellsCode algorithm_rows [] 255 text code → code < 256
algorithm_within text code h = let few = within algorithm_rows [] 255 algorithm_registry (omega arith) text code h in omega (arith, few)
