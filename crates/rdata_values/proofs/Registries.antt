-- Rows that are found in a table, and codes that parse as they print.
use Rattle.std.proofs.Common.{ℕ, ◌≡◌, ◌<◌, ◌+◌, ◌^◌, Bool, true, false, List, [], ◌∷◌, ◌++◌, length, take, drop, get_or, decimal, refl, sym, subst, arith, ap, ◌∙◌, Option, Some, None}
use Rattle.std.specs.Prelude.{◌≤◌, ◌==◌, ◌&&◌, not, nat_le, find, unwrap_or, MatchOption, cond}
use Rattle.std.specs.Char.{to_ascii_lowercase, is_ascii_digit}
use Rattle.std.specs.List.{list_all}
use Rattle.std.specs.Option.{option_map, option_map_or}
use Rattle.std.specs.Str.{bytes_eq}
use Rattle.std.specs.Str.Parse.{IsNumeral, digits_value}
use Rattle.std.proofs.lemmas.Bool.{and_parts}
use Rattle.std.proofs.lemmas.Bool.Decides.{nat_tests}
use Rattle.std.proofs.lemmas.Fmt.{decimal_is_IsNumeral}
use Rattle.std.proofs.lemmas.List.{drop_more, take-map, take_at, drop_at, get_or-append-add}
use Rattle.std.proofs.Math.ListN.{get_or-map}
use Rattle.std.proofs.lemmas.Str.Parse.{digit_at}
use Rattle.std.proofs.lemmas.Slice.Eq.{bytes_eq-Decides}
use Rattle.dns_octets.specs.Lowered.{lowered}
use Rattle.rdata_values.specs.declared.registry.Named.{Named}
use Rattle.rdata_values.specs.Registry.{Row, code_rows, row_code, row_name, FindsCode, FindsNumbered, SpellsCode, IsNumbered, code_text}

pub other : (a b : List ℕ) → (a ≡ b → ⊥) → bytes_eq a b ≡ false
other a b differ = by (bytes_eq a b) refl
  where
    by : (r : Bool) → bytes_eq a b ≡ r → r ≡ false
    by true e = absurd (differ ((bytes_eq-Decides a b).0 e))
    by false e = refl

module _ (table : List Named) (text name : List ℕ) (i : ℕ) (d : Named) (here : i < length table) (is : name ≡ (get_or table i d).1.now) (from : row_code (code_rows table) text ≡ row_code (code_rows (drop i table)) text) where
  next : (b : Bool) → bytes_eq (lowered name) (lowered text) ≡ b
      → row_code (code_rows table) text ≡ option_map (λ (row : Row). row.code) (cond b (Some (record { code = (get_or table i d).0; name = (get_or table i d).1.now })) (find (λ (row : Row). bytes_eq (lowered row.name) (lowered text)) (code_rows (drop (i + 1) table))))
  next b e =
      from ∙ ap (λ t. row_code (code_rows t) text) (drop_more table i d here)
      ∙ ap (λ c. option_map (λ (row : Row). row.code) (cond c (Some (record { code = (get_or table i d).0; name = (get_or table i d).1.now })) (find (λ (row : Row). bytes_eq (lowered row.name) (lowered text)) (code_rows (drop (i + 1) table))))) (ap (λ n. bytes_eq (lowered n) (lowered text)) (sym is) ∙ e)

  pub found : (prefix : List ℕ) (most : ℕ) → lowered name ≡ lowered text → FindsCode (code_rows table) prefix most text (Some (get_or table i d).0)
  found prefix most same =
      let is : row_code (code_rows table) text ≡ Some (get_or table i d).0 = next true ((bytes_eq-Decides (lowered name) (lowered text)).1 same) in
      subst (λ (o : Option ℕ). MatchOption o (FindsNumbered prefix most text (Some (get_or table i d).0)) (λ code. Some (get_or table i d).0 ≡ Some code)) (sym is) refl

  pub passed : (lowered name ≡ lowered text → ⊥) → row_code (code_rows table) text ≡ row_code (code_rows (drop (i + 1) table)) text
  passed differ = next false (other (lowered name) (lowered text) differ)

-- a name looks like the prefix and a number
abbrev is_like_numbered : List ℕ → List ℕ → Bool
is_like_numbered prefix name = bytes_eq (lowered (take (length prefix) name)) (lowered prefix) && is_ascii_digit (get_or name (length prefix) 0)

abbrev is_own : List Row → Row → Bool
is_own table row = option_map_or (λ code. code == row.code) (row_code table row.name) false

abbrev test : List Row → List ℕ → ℕ → Row → Bool
test table prefix most row = is_own table row && (nat_le row.code most && not (is_like_numbered prefix row.name))

-- each row's name parses to its code, which is at most `most`, and no name looks like the prefix
-- and a number
abbrev pub is_registry : List Row → List ℕ → ℕ → Bool
is_registry table prefix most = list_all (test table prefix most) table

lowered_digit : (a b : ℕ) → to_ascii_lowercase a ≡ to_ascii_lowercase b → is_ascii_digit b ≡ true → is_ascii_digit a ≡ true
lowered_digit a b same h = Prim.grind (arith, nat_tests)

pub digit_first : (c : ℕ) → 48 ≤ c → c ≤ 57 → is_ascii_digit c ≡ true
digit_first c low high = Prim.grind (arith, nat_tests)

module _ (table : List Row) (prefix : List ℕ) (most : ℕ) where
  code_is : (o : Option ℕ) (c : ℕ) → option_map_or (λ code. code == c) o false ≡ true → o ≡ Some c
  code_is None c h = cc
  code_is (Some n) c h = let same : n ≡ c = Prim.grind (arith, nat_tests) in ap Some same

  parts : (row : Row) (rs : List Row) → list_all (test table prefix most) (row ∷ rs) ≡ true
      → (is_own table row ≡ true) × (nat_le row.code most ≡ true) × (not (is_like_numbered prefix row.name) ≡ true) × (list_all (test table prefix most) rs ≡ true)
  parts row rs h =
      let all = and_parts (test table prefix most row) (list_all (test table prefix most) rs) h in
      let own = and_parts (is_own table row) (nat_le row.code most && not (is_like_numbered prefix row.name)) all.0 in
      let rest = and_parts (nat_le row.code most) (not (is_like_numbered prefix row.name)) own.1 in
      (own.0, rest.0, rest.1, all.1)

  -- a row's name parses to its code
  named : (rs : List Row) → list_all (test table prefix most) rs ≡ true → (code : ℕ) (name : List ℕ) → row_name rs code ≡ Some name → row_code table name ≡ Some code
  named [] h code name e = cc
  named (row ∷ rs) h code name e = by (row.code == code) refl e (named rs (parts row rs h).3 code name)
    where
      by : (b : Bool) → (row.code == code) ≡ b → option_map (λ (row : Row). row.name) (cond b (Some row) (find (λ (row : Row). row.code == code) rs)) ≡ Some name
          → (row_name rs code ≡ Some name → row_code table name ≡ Some code) → row_code table name ≡ Some code
      by true is e more =
          let text : row.name ≡ name = cc in
          let same : row.code ≡ code = Prim.grind (arith, nat_tests) in
          let read = code_is (row_code table row.name) row.code (parts row rs h).0 in
          ap (row_code table) (sym text) ∙ read ∙ ap Some same
      by false is e more = more e

  -- the code of a row is at most `most`
  small : (rs : List Row) → list_all (test table prefix most) rs ≡ true → (text : List ℕ) (code : ℕ) → row_code rs text ≡ Some code → code ≤ most
  small [] h text code e = cc
  small (row ∷ rs) h text code e = by (bytes_eq (lowered row.name) (lowered text)) e (small rs (parts row rs h).3 text code)
    where
      by : (b : Bool) → option_map (λ (row : Row). row.code) (cond b (Some row) (find (λ (row : Row). bytes_eq (lowered row.name) (lowered text)) rs)) ≡ Some code
          → (row_code rs text ≡ Some code → code ≤ most) → code ≤ most
      by true e more =
          let same : row.code ≡ code = cc in
          let low = (parts row rs h).1 in
          let least : row.code ≤ most = Prim.grind (arith, nat_tests) in
          omega (arith, same, least)
      by false e more = more e

  -- a text of the prefix and a number is not a row's name
  pub unnamed : (rs : List Row) → list_all (test table prefix most) rs ≡ true → (text : List ℕ) → lowered (take (length prefix) text) ≡ lowered prefix → is_ascii_digit (get_or text (length prefix) 0) ≡ true → row_code rs text ≡ None
  unnamed [] h text e d = refl
  unnamed (row ∷ rs) h text e d = by (bytes_eq (lowered row.name) (lowered text)) refl (unnamed rs (parts row rs h).3 text e d)
    where
      by : (b : Bool) → bytes_eq (lowered row.name) (lowered text) ≡ b → row_code rs text ≡ None
          → option_map (λ (row : Row). row.code) (cond b (Some row) (find (λ (row : Row). bytes_eq (lowered row.name) (lowered text)) rs)) ≡ None
      by true is more =
          let same = (bytes_eq-Decides (lowered row.name) (lowered text)).0 is in
          let begins : lowered (take (length prefix) row.name) ≡ lowered prefix =
          sym (take-map to_ascii_lowercase (length prefix) row.name) ∙ ap (take (length prefix)) same ∙ take-map to_ascii_lowercase (length prefix) text ∙ e in
          let at : to_ascii_lowercase (get_or row.name (length prefix) 0) ≡ to_ascii_lowercase (get_or text (length prefix) 0) =
          sym (get_or-map to_ascii_lowercase row.name (length prefix) 0) ∙ ap (λ t. get_or t (length prefix) 0) same ∙ get_or-map to_ascii_lowercase text (length prefix) 0 in
          let first : bytes_eq (lowered (take (length prefix) row.name)) (lowered prefix) ≡ true = (bytes_eq-Decides (lowered (take (length prefix) row.name)) (lowered prefix)).1 begins in
          let digit : is_ascii_digit (get_or row.name (length prefix) 0) ≡ true = lowered_digit (get_or row.name (length prefix) 0) (get_or text (length prefix) 0) at d in
          let yes : is_like_numbered prefix row.name ≡ true = ap (λ b. b && is_ascii_digit (get_or row.name (length prefix) 0)) first ∙ digit in
          let wrong : not true ≡ true = ap not (sym yes) ∙ (parts row rs h).2 in
          cc
      by false is more = more

  plain : (code : ℕ) → code ≤ most → most < 2 ^ 64 → IsNumbered prefix most (prefix ++ decimal code) code
  plain code few wide =
      let front = take_at prefix (decimal code) (length prefix) refl in
      let back = drop_at prefix (decimal code) (length prefix) refl in
      let is = decimal_is_IsNumeral code (omega (arith, few, wide)) in
      let value : digits_value 10 (drop (length prefix) (prefix ++ decimal code)) ≡ code = ap (digits_value 10) back ∙ is.1 in
      (ap lowered front, (subst (IsNumeral 10) (sym back) is.0, sym value), few)

  -- a number in decimal begins with a digit
  pub begins_with_digit : (code : ℕ) → code < 2 ^ 64 → is_ascii_digit (get_or (prefix ++ decimal code) (length prefix) 0) ≡ true
  begins_with_digit code wide =
      let is = decimal_is_IsNumeral code wide in
      let range = digit_at (decimal code) 0 is.0.1 is.0.0 in
      let same : get_or (prefix ++ decimal code) (length prefix) 0 ≡ get_or (decimal code) 0 0 =
      ap (λ n. get_or (prefix ++ decimal code) n 0) (omega arith) ∙ get_or-append-add prefix (decimal code) 0 0 in
      ap is_ascii_digit same ∙ digit_first (get_or (decimal code) 0 0) range.0 range.1

  module _ (h : is_registry table prefix most ≡ true) (wide : most < 2 ^ 64) where
    -- the prefix and the number of a code spell it
    pub numbered : (code : ℕ) → code ≤ most → SpellsCode table prefix most (prefix ++ decimal code) code
    numbered code few =
        let none = unnamed table h (prefix ++ decimal code) (ap lowered (take_at prefix (decimal code) (length prefix) refl)) (begins_with_digit code (omega (arith, few, wide))) in
        subst (λ (o : Option ℕ). MatchOption o (IsNumbered prefix most (prefix ++ decimal code) code) (λ c. code ≡ c)) (sym none) (plain code few wide)

    -- what a code is written as spells it
    pub spelled : (code : ℕ) → code ≤ most → SpellsCode table prefix most (code_text table prefix code) code
    spelled code few = by (row_name table code) refl
      where
        by : (o : Option (List ℕ)) → row_name table code ≡ o → SpellsCode table prefix most (unwrap_or o (prefix ++ decimal code)) code
        by None e = numbered code few
        by (Some name) e = subst (λ (o : Option ℕ). MatchOption o (IsNumbered prefix most name code) (λ c. code ≡ c)) (sym (named table h code name e)) refl

    -- the code that a text spells is at most `most`
    pub within : (text : List ℕ) (code : ℕ) → SpellsCode table prefix most text code → code ≤ most
    within text code k = by (row_code table text) refl k
      where
        by : (o : Option ℕ) → row_code table text ≡ o → MatchOption o (IsNumbered prefix most text code) (λ c. code ≡ c) → code ≤ most
        by None e k = k.2
        by (Some n) e k = let least = small table h text n e in omega (arith, least, k)

  -- a text spells one code
  pub once : (text : List ℕ) (c d : ℕ) → SpellsCode table prefix most text c → SpellsCode table prefix most text d → c ≡ d
  once text c d h k = by (row_code table text) h k
    where
      by : (o : Option ℕ) → MatchOption o (IsNumbered prefix most text c) (λ n. c ≡ n) → MatchOption o (IsNumbered prefix most text d) (λ n. d ≡ n) → c ≡ d
      by None h k = h.1.1 ∙ sym k.1.1
      by (Some n) h k = h ∙ sym k
