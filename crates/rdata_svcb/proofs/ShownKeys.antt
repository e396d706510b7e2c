-- Keys are named by the texts that they print as, which have no comma and no equals sign.
use Rattle.std.proofs.Common.{ℕ, zero, suc, ◌≡◌, ◌≢◌, ◌<◌, ◌≤◌, ◌==◌, ◌&&◌, not, Bool, true, false, true≢false, List, [], ◌∷◌, ◌++◌, decimal, refl, sym, subst, arith}
use Rattle.std.specs.Prelude.{All, codes}
use Rattle.std.specs.List.{list_all}
use Rattle.std.proofs.lemmas.Bool.{and_parts, ne_eqb, eqb-false}
use Rattle.std.proofs.lemmas.Fmt.{decimal_is_IsNumeral}
use Rattle.std.proofs.lemmas.Str.Parse.{digit_at}
use Rattle.std.proofs.lemmas.List.Elements.{All-nil, All-cons, All-append, All-from_get_or}
use Rattle.rdata_svcb.specs.Items.{IsWithout}
use Rattle.rdata_svcb.specs.Keys.{NamesKey}
use Rattle.rdata_svcb.specs.ParamValues.{NamesAKey}
use Rattle.rdata_svcb.specs.ShownParams.{key_text}
use Rattle.rdata_svcb.specs.declared.keys.ValueKind.TheVariants.{Keys, Strings, Nothing, Port, Ipv4, Digits, Ipv6, Octets}

-- neither a comma nor an equals sign
abbrev pub IsNoMark : ℕ → Type 0
IsNoMark c = (c ≢ 44) × (c ≢ 61)

abbrev is_no_mark : ℕ → Bool
is_no_mark c = not (c == 44) && not (c == 61)

pub no_commas : (text : List ℕ) → All IsNoMark text → IsWithout 44 text
no_commas text h k l = (h k 0 l).0

pub no_equals : (text : List ℕ) → All IsNoMark text → IsWithout 61 text
no_equals text h k l = (h k 0 l).1

differs : (a b : ℕ) → not (a == b) ≡ true → a ≢ b
differs a b h = by (a == b) refl h
  where
    by : (t : Bool) → (a == b) ≡ t → not t ≡ true → a ≢ b
    by true e h = absurd (true≢false (sym h))
    by false e h = eqb-false a b e

pub all_no_marks : (text : List ℕ) → list_all is_no_mark text ≡ true → All IsNoMark text
all_no_marks [] h = All-nil IsNoMark
all_no_marks (c ∷ cs) h =
    let both = and_parts (is_no_mark c) (list_all is_no_mark cs) h in
    let own = and_parts (not (c == 44)) (not (c == 61)) both.0 in
    All-cons IsNoMark c cs (differs c 44 own.0, differs c 61 own.1) (all_no_marks cs both.1)

pub decimal_no_marks : (n : ℕ) → n < 65536 → All IsNoMark (decimal n)
decimal_no_marks n small = All-from_get_or IsNoMark (decimal n) 0 (λ i l.
    let d = digit_at (decimal n) i (decimal_is_IsNumeral n (omega (arith, small))).0.1 l in
    (λ e. omega (arith, d.0, d.1, e), λ e. omega (arith, d.0, d.1, e)))

-- each key below 7, and those from it on
pub by_key : (P : ℕ → Type 0) → P 0 → P 1 → P 2 → P 3 → P 4 → P 5 → P 6 → ((key : ℕ) → 7 ≤ key → P key) → (key : ℕ) → P key
by_key P a b c d e f g high zero = a
by_key P a b c d e f g high (suc zero) = b
by_key P a b c d e f g high (suc (suc zero)) = c
by_key P a b c d e f g high (suc (suc (suc zero))) = d
by_key P a b c d e f g high (suc (suc (suc (suc zero)))) = e
by_key P a b c d e f g high (suc (suc (suc (suc (suc zero))))) = f
by_key P a b c d e f g high (suc (suc (suc (suc (suc (suc zero)))))) = g
by_key P a b c d e f g high (suc (suc (suc (suc (suc (suc (suc n))))))) = high (suc (suc (suc (suc (suc (suc (suc n))))))) (omega arith)

pub high_key : (key : ℕ) → 7 ≤ key → key_text key ≡ codes "key" ++ decimal key
high_key key high =
    rw (
      ne_eqb key 0 (λ e. omega (arith, high, e)),
      ne_eqb key 1 (λ e. omega (arith, high, e)),
      ne_eqb key 2 (λ e. omega (arith, high, e)),
      ne_eqb key 3 (λ e. omega (arith, high, e)),
      ne_eqb key 4 (λ e. omega (arith, high, e)),
      ne_eqb key 5 (λ e. omega (arith, high, e)),
      ne_eqb key 6 (λ e. omega (arith, high, e)),
    ) refl

pub key_no_marks : (key : ℕ) → key < 65536 → All IsNoMark (key_text key)
key_no_marks = by_key (λ key. key < 65536 → All IsNoMark (key_text key))
    (λ l. all_no_marks (codes "mandatory") refl) (λ l. all_no_marks (codes "alpn") refl) (λ l. all_no_marks (codes "no-default-alpn") refl) (λ l. all_no_marks (codes "port") refl)
    (λ l. all_no_marks (codes "ipv4hint") refl) (λ l. all_no_marks (codes "ech") refl) (λ l. all_no_marks (codes "ipv6hint") refl)
    (λ key high l. subst (All IsNoMark) (sym (high_key key high)) (All-append IsNoMark (codes "key") (decimal key) (all_no_marks (codes "key") refl) (decimal_no_marks key l)))

-- the kind of the value of a key that is spelled as it prints
pub high_named : (key : ℕ) → 7 ≤ key → key < 65536 → NamesKey (key_text key) key Octets
high_named key high l = subst (λ text. NamesKey text key Octets) (sym (high_key key high)) ((omega (arith, l), refl), refl)

pub key_named : (key : ℕ) → key < 65536 → NamesAKey (key_text key) key
key_named = by_key (λ key. key < 65536 → NamesAKey (key_text key) key)
    (λ l. (Keys, (refl, refl))) (λ l. (Strings, (refl, refl))) (λ l. (Nothing, (refl, refl))) (λ l. (Port, (refl, refl))) (λ l. (Ipv4, (refl, refl))) (λ l. (Digits, (refl, refl))) (λ l. (Ipv6, (refl, refl)))
    (λ key high l. (Octets, high_named key high l))
