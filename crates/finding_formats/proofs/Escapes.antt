-- What the octets of an escaped text are like.
use Rattle.std.proofs.Common.{◌≡◌, ℕ, ◌+◌, ◌/◌, ◌%◌, ◌<◌, ◌≤◌, ◌==◌, Bool, true, false, cond, List, [], ◌∷◌, ◌++◌, refl, sym, ap, ◌∙◌, arith, inl, inr}
use Rattle.std.specs.Prelude.{◌||◌, ◌&&◌, nat_lt, nat_le, codes}
use Rattle.std.specs.Fmt.{digit_glyph}
use Rattle.std.specs.List.{flat_map, list_all}
use Rattle.std.proofs.lemmas.Bool.{and_parts, eqb-true, leb-true, ltb-true, ltb-false, or_cases}
use Rattle.std.proofs.lemmas.List.Folds.{list_all-append}
use Rattle.finding_formats.specs.Escape.{decimal_escape, github_octet, is_alphanumeric, is_github_special, is_text_octet, is_uri_octet, json_string_octet, percent_escape, uri_octet, xml_octet}

-- the octets of digits, and the marks of escapes, meet a test
pub record MeetsEscapes (p : ℕ → Bool) : Type 0 where
  pub digit : (d : ℕ) → d < 10 → p (48 + d) ≡ true
  pub upper : (d : ℕ) → d < 16 → 10 ≤ d → p (55 + d) ≡ true
  pub lower : (d : ℕ) → d < 16 → 10 ≤ d → p (87 + d) ≡ true
  pub marks : list_all p (codes "\\%u") ≡ true

module _ (p : ℕ → Bool) (m : MeetsEscapes p) where
  pub one_more : (c : ℕ) (cs : List ℕ) → p c ≡ true → list_all p cs ≡ true → list_all p (c ∷ cs) ≡ true
  one_more c cs h k = ap (λ b. b && list_all p cs) h ∙ k

  mark : p 92 ≡ true
  mark = (and_parts (p 92) _ m.marks).0

  percent : p 37 ≡ true
  percent = (and_parts (p 37) _ (and_parts (p 92) _ m.marks).1).0

  letter : p 117 ≡ true
  letter = (and_parts (p 117) _ (and_parts (p 37) _ (and_parts (p 92) _ m.marks).1).1).0

  two_more : (a b : ℕ) (cs : List ℕ) → p a ≡ true → p b ≡ true → list_all p cs ≡ true → list_all p (a ∷ b ∷ cs) ≡ true
  two_more a b cs h k l = one_more a (b ∷ cs) h (one_more b cs k l)

  decimal_meets : (c : ℕ) → list_all p (decimal_escape c) ≡ true
  decimal_meets c =
      two_more 92 (48 + c / 100 % 10) ((48 + c / 10 % 10) ∷ (48 + c % 10) ∷ []) mark (m.digit (c / 100 % 10) (omega arith))
      (two_more (48 + c / 10 % 10) (48 + c % 10) [] (m.digit (c / 10 % 10) (omega arith)) (m.digit (c % 10) (omega arith)) refl)

  glyph_by : (b upper : Bool) (n : ℕ) → n < 16 → b ≡ nat_lt n 10 → p (cond b (48 + n) (cond upper (55 + n) (87 + n))) ≡ true
  glyph_by true upper n h e = m.digit n (ltb-true n 10 (sym e))
  glyph_by false true n h e = m.upper n h (ltb-false n 10 (sym e))
  glyph_by false false n h e = m.lower n h (ltb-false n 10 (sym e))

  glyph_meets : (upper : Bool) (n : ℕ) → n < 16 → p (digit_glyph upper n) ≡ true
  glyph_meets upper n h = glyph_by (nat_lt n 10) upper n h refl

  glyphs_meet : (upper : Bool) (c : ℕ) → list_all p (digit_glyph upper (c / 16 % 16) ∷ digit_glyph upper (c % 16) ∷ []) ≡ true
  glyphs_meet upper c = two_more (digit_glyph upper (c / 16 % 16)) (digit_glyph upper (c % 16)) [] (glyph_meets upper (c / 16 % 16) (omega arith)) (glyph_meets upper (c % 16) (omega arith)) refl

  percent_meets : (c : ℕ) → list_all p (percent_escape c) ≡ true
  percent_meets c = one_more 37 (digit_glyph true (c / 16 % 16) ∷ digit_glyph true (c % 16) ∷ []) percent (glyphs_meet true c)

  unicode_meets : (c : ℕ) → list_all p (codes "\\u00" ++ digit_glyph false (c / 16 % 16) ∷ digit_glyph false (c % 16) ∷ []) ≡ true
  unicode_meets c =
      let glyphs : List ℕ = digit_glyph false (c / 16 % 16) ∷ digit_glyph false (c % 16) ∷ [] in
      two_more 92 117 (48 ∷ 48 ∷ glyphs) mark letter (two_more 48 48 glyphs (m.digit 0 (omega arith)) (m.digit 0 (omega arith)) (glyphs_meet false c))

  shown_by : (b : Bool) (c : ℕ) → (b ≡ true → p c ≡ true) → list_all p (cond b (c ∷ []) (decimal_escape c)) ≡ true
  shown_by true c t = one_more c [] (t refl) refl
  shown_by false c t = decimal_meets c

  json_by : (a b d : Bool) (c : ℕ) → (a ≡ true → p c ≡ true) → (b ≡ true → p c ≡ true)
      → list_all p (cond a (92 ∷ c ∷ []) (cond b (c ∷ []) (cond d (codes "\\u00" ++ digit_glyph false (c / 16 % 16) ∷ digit_glyph false (c % 16) ∷ []) (92 ∷ decimal_escape c)))) ≡ true
  json_by true b d c q t = two_more 92 c [] mark (q refl) refl
  json_by false true d c q t = one_more c [] (t refl) refl
  json_by false false true c q t = unicode_meets c
  json_by false false false c q t = one_more 92 (decimal_escape c) mark (decimal_meets c)

  quoted : (c : ℕ) → p 34 ≡ true → (c == 34 || c == 92) ≡ true → p c ≡ true
  quoted c q h = elim (or_cases (c == 34) (c == 92) h) [ inl e ↦ ap p (eqb-true c 34 e) ∙ q | inr e ↦ ap p (eqb-true c 92 e) ∙ mark ]

  pub json_meets : (k : Bool) (c : ℕ) → p 34 ≡ true → (is_text_octet k c ≡ true → p c ≡ true) → list_all p (json_string_octet k c) ≡ true
  json_meets k c q t = json_by (c == 34 || c == 92) (is_text_octet k c) (nat_lt c 128) c (quoted c q) t

  github_by : (a b : Bool) (c : ℕ) → (b ≡ true → a ≡ false → p c ≡ true) → list_all p (cond a (percent_escape c) (cond b (c ∷ []) (decimal_escape c))) ≡ true
  github_by true b c t = percent_meets c
  github_by false b c t = shown_by b c (λ e. t e refl)

  pub github_meets : (is_property k : Bool) (c : ℕ) → (is_text_octet k c ≡ true → is_github_special is_property c ≡ false → p c ≡ true) → list_all p (github_octet is_property k c) ≡ true
  github_meets is_property k c t = github_by (is_github_special is_property c) (is_text_octet k c) c t

  uri_by : (b : Bool) (c : ℕ) → (b ≡ true → p c ≡ true) → list_all p (cond b (c ∷ []) (percent_escape c)) ≡ true
  uri_by true c t = one_more c [] (t refl) refl
  uri_by false c t = percent_meets c

  pub uri_meets : (c : ℕ) → (is_uri_octet c ≡ true → p c ≡ true) → list_all p (uri_octet c) ≡ true
  uri_meets c t = uri_by (is_uri_octet c) c t

  -- the texts of `&`, `<`, `>`, a double quote, TAB, LF and CR
  xml_by : (e1 e2 e3 e4 e5 e6 e7 b : Bool) (c : ℕ)
      → list_all p (codes "&amp;") ≡ true → list_all p (codes "&lt;") ≡ true → list_all p (codes "&gt;") ≡ true → list_all p (codes "&quot;") ≡ true
      → list_all p (codes "&#9;") ≡ true → list_all p (codes "&#10;") ≡ true → list_all p (codes "&#13;") ≡ true
      → (b ≡ true → e2 ≡ false → e3 ≡ false → e4 ≡ false → p c ≡ true)
      → list_all p (cond e1 (codes "&amp;") (cond e2 (codes "&lt;") (cond e3 (codes "&gt;") (cond e4 (codes "&quot;") (cond e5 (codes "&#9;") (cond e6 (codes "&#10;") (cond e7 (codes "&#13;") (cond b (c ∷ []) (decimal_escape c))))))))) ≡ true
  xml_by true e2 e3 e4 e5 e6 e7 b c h1 h2 h3 h4 h5 h6 h7 t = h1
  xml_by false true e3 e4 e5 e6 e7 b c h1 h2 h3 h4 h5 h6 h7 t = h2
  xml_by false false true e4 e5 e6 e7 b c h1 h2 h3 h4 h5 h6 h7 t = h3
  xml_by false false false true e5 e6 e7 b c h1 h2 h3 h4 h5 h6 h7 t = h4
  xml_by false false false false true e6 e7 b c h1 h2 h3 h4 h5 h6 h7 t = h5
  xml_by false false false false false true e7 b c h1 h2 h3 h4 h5 h6 h7 t = h6
  xml_by false false false false false false true b c h1 h2 h3 h4 h5 h6 h7 t = h7
  xml_by false false false false false false false b c h1 h2 h3 h4 h5 h6 h7 t = shown_by b c (λ e. t e refl refl refl)

  pub xml_meets : (k : Bool) (c : ℕ)
      → list_all p (codes "&amp;") ≡ true → list_all p (codes "&lt;") ≡ true → list_all p (codes "&gt;") ≡ true → list_all p (codes "&quot;") ≡ true
      → list_all p (codes "&#9;") ≡ true → list_all p (codes "&#10;") ≡ true → list_all p (codes "&#13;") ≡ true
      → (is_text_octet k c ≡ true → (c == 60) ≡ false → (c == 62) ≡ false → (c == 34) ≡ false → p c ≡ true)
      → list_all p (xml_octet k c) ≡ true
  xml_meets k c = xml_by (c == 38) (c == 60) (c == 62) (c == 34) (c == 9) (c == 10) (c == 13) (is_text_octet k c) c

pub all_meet : (p : ℕ → Bool) (f : ℕ → List ℕ) → ((c : ℕ) → list_all p (f c) ≡ true) → (octets : List ℕ) → list_all p (flat_map f octets) ≡ true
all_meet p f h [] = refl
all_meet p f h (c ∷ cs) = list_all-append p (f c) (flat_map f cs) ∙ ap (λ b. b && list_all p (flat_map f cs)) (h c) ∙ all_meet p f h cs

-- the octets of a path in a URI
between_both : (low high c : ℕ) → (nat_le low c && nat_le c high) ≡ true → (low ≤ c) × (c ≤ high)
between_both low high c h = let both = and_parts (nat_le low c) (nat_le c high) h in (leb-true low c both.0, leb-true c high both.1)

alphanumeric_range : (c : ℕ) → is_alphanumeric c ≡ true → (45 ≤ c) × (c ≤ 126)
alphanumeric_range c h =
    elim (or_cases (nat_le 48 c && nat_le c 57) ((nat_le 65 c && nat_le c 90) || (nat_le 97 c && nat_le c 122)) h) [
      | inl digit ↦ let r = between_both 48 57 c digit in (omega (arith, r.0), omega (arith, r.1))
      | inr letter ↦ elim (or_cases (nat_le 65 c && nat_le c 90) (nat_le 97 c && nat_le c 122) letter) [
        | inl upper ↦ let r = between_both 65 90 c upper in (omega (arith, r.0), omega (arith, r.1))
        | inr lower ↦ let r = between_both 97 122 c lower in (omega (arith, r.0), omega (arith, r.1))
      ]
    ]

is_one : (c n : ℕ) → 45 ≤ n → n ≤ 126 → (c == n) ≡ true → (45 ≤ c) × (c ≤ 126)
is_one c n h k e = let same = eqb-true c n e in (omega (arith, same, h), omega (arith, same, k))

pub uri_range : (c : ℕ) → is_uri_octet c ≡ true → (45 ≤ c) × (c ≤ 126)
uri_range c h =
    elim (or_cases (is_alphanumeric c) (c == 45 || (c == 46 || (c == 47 || (c == 95 || c == 126)))) h) [
      | inl a ↦ alphanumeric_range c a
      | inr b ↦ elim (or_cases (c == 45) (c == 46 || (c == 47 || (c == 95 || c == 126))) b) [
        | inl e ↦ is_one c 45 (omega arith) (omega arith) e
        | inr d ↦ elim (or_cases (c == 46) (c == 47 || (c == 95 || c == 126)) d) [
          | inl e ↦ is_one c 46 (omega arith) (omega arith) e
          | inr f ↦ elim (or_cases (c == 47) (c == 95 || c == 126) f) [
            | inl e ↦ is_one c 47 (omega arith) (omega arith) e
            | inr g ↦ elim (or_cases (c == 95) (c == 126) g) [
              | inl e ↦ is_one c 95 (omega arith) (omega arith) e
              | inr e ↦ is_one c 126 (omega arith) (omega arith) e
            ]
          ]
        ]
      ]
    ]

pub text_low : (k : Bool) (c : ℕ) → is_text_octet k c ≡ true → 32 ≤ c
text_low k c h = leb-true 32 c (and_parts (nat_le 32 c) _ h).0
