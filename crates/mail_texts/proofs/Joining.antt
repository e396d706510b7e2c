-- Character strings that are joined.
use Rattle.std.proofs.Common.{ℕ, zero, suc, ◌≡◌, ◌+◌, true, false, cond, Some, None, List, [], ◌∷◌, ◌++◌, length, take, drop, refl, sym, ap, subst, ◌∙◌, arith}
use Rattle.mail_texts.specs.Joined.{is_joint, joined_after, text_of_strings, joint_after, IsStringBefore}

string_text : (count : ℕ) (octets : List ℕ) → joined_after count octets ≡ take count octets ++ text_of_strings (drop count octets)
string_text zero [] = refl
string_text (suc count) [] = refl
string_text zero (o ∷ octets) = refl
string_text (suc count) (o ∷ octets) = ap (λ l. o ∷ l) (string_text count octets)

parts_fit : (count : ℕ) (octets : List ℕ) → length (take count octets) + length (drop count octets) ≡ length octets
parts_fit zero [] = refl
parts_fit (suc count) [] = refl
parts_fit zero (o ∷ octets) = omega arith
parts_fit (suc count) (o ∷ octets) = omega (arith, parts_fit count octets)

joint_text : (index count : ℕ) (before octets : List ℕ) → joint_after index count before octets ≡ joint_after index 0 before (drop count octets)
joint_text index zero before [] = refl
joint_text index (suc count) before [] = refl
joint_text index zero before (o ∷ octets) = refl
joint_text index (suc count) before (o ∷ octets) = joint_text index count before octets

string_is : (count : ℕ) (octets : List ℕ) → IsStringBefore (count ∷ octets) (take count octets) (drop count octets)
string_is count octets = record {
  text = string_text count octets;
  joint = λ index before. ap (λ next. cond (is_joint before (take count octets)) (Some index) next) (joint_text (suc index) count (take count octets) octets);
  fewer = omega (arith, parts_fit count octets);
}

pub string_at : (strings : List ℕ) (count : ℕ) (octets : List ℕ) (size : ℕ) → strings ≡ count ∷ octets → size ≡ count → IsStringBefore strings (take size octets) (drop size octets)
string_at strings count octets size e is =
    subst (λ n. IsStringBefore strings (take n octets) (drop n octets)) (sym is) (subst (λ all. IsStringBefore all (take count octets) (drop count octets)) (sym e) (string_is count octets))

pub append_next : (all text before first others : List ℕ) → IsStringBefore before first others → text ++ text_of_strings before ≡ all → (text ++ first) ++ text_of_strings others ≡ all
append_next all text before first others h e = assoc text first (text_of_strings others) ∙ ap (λ l. text ++ l) (sym h.text) ∙ e
  where
    assoc : (a b c : List ℕ) → (a ++ b) ++ c ≡ a ++ (b ++ c)
    assoc [] b c = refl
    assoc (x ∷ a) b c = ap (λ l. x ∷ l) (assoc a b c)

pub no_more : (text rest : List ℕ) → rest ≡ [] → text ≡ text ++ text_of_strings rest
no_more text rest e = sym (ap (λ l. text ++ text_of_strings l) e ∙ nil text)
  where
    nil : (a : List ℕ) → a ++ [] ≡ a
    nil [] = refl
    nil (x ∷ a) = ap (λ l. x ∷ l) (nil a)

-- ---- joints

pub joint_next : (index : ℕ) (before strings first others : List ℕ) → IsStringBefore strings first others → is_joint before first ≡ false → joint_after index 0 before strings ≡ joint_after (index + 1) 0 first others
joint_next index before strings first others h e =
    h.joint index before ∙ ap (λ b. cond b (Some index) (joint_after (suc index) 0 first others)) e ∙ ap (λ n. joint_after n 0 first others) (omega arith)

pub joint_found : (index : ℕ) (before strings first others : List ℕ) → IsStringBefore strings first others → is_joint before first ≡ true → joint_after index 0 before strings ≡ Some index
joint_found index before strings first others h e = h.joint index before ∙ ap (λ b. cond b (Some index) (joint_after (suc index) 0 first others)) e

pub joint_none : (index : ℕ) (before strings : List ℕ) → strings ≡ [] → joint_after index 0 before strings ≡ None
joint_none index before strings e = ap (joint_after index 0 before) e
