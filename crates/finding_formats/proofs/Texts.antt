-- What escaped texts are like.
use Rattle.std.proofs.Common.{◌≡◌, ℕ, suc, ◌+◌, ◌/◌, ◌%◌, ◌<◌, ◌≤◌, ◌==◌, not, Bool, true, false, cond, ◌⊎◌, List, [], ◌∷◌, ◌++◌, length, get_or, IsUtf8, inl, inr, refl, sym, ap, ap₂, ◌∙◌, subst, arith, append_assoc, append-nil}
use Rattle.std.specs.Prelude.{◌||◌, ◌&&◌, nat_lt, nat_le, codes}
use Rattle.std.specs.Fmt.{digit_glyph}
use Rattle.std.specs.List.{flat_map, list_all}
use Rattle.std.specs.Str.{is_utf8}
use Rattle.std.proofs.lemmas.Bool.{and_parts, cases_lt, cond-false, le-leb, lt-ltb, ltb-true, ltb-false, ne_eqb}
use Rattle.std.proofs.lemmas.Str.{IsUtf8-append, IsUtf8-nil, IsUtf8-encode, IsUtf8-from_is_utf8, encode_ascii, inside_one}
use Rattle.std.proofs.lemmas.Grind.{flat_map-append}
use lib.Utf8.{scalar, scalars, encode, encodes, low_scalar}
use Rattle.finding_formats.specs.Escape.{decimal_escape, escaped, escaped_octet, github_octet, is_github_special, is_text_octet, json_string_octet, keeps_high}
use Rattle.finding_formats.specs.Laws.{after_string, is_xml_plain}
use Rattle.finding_formats.specs.declared.escape.Context.{Context}
use Rattle.finding_formats.specs.declared.escape.Context.TheVariants.{Json, Xml, Github, GithubProperty, Uri}
use Rattle.finding_formats.proofs.Escapes.{MeetsEscapes, all_meet, github_meets, json_meets, text_low, uri_meets, uri_range, xml_meets}

-- no control octets
abbrev is_high_enough : ℕ → Bool
is_high_enough c = nat_le 32 c

escapes_have_no_controls : MeetsEscapes is_high_enough
escapes_have_no_controls = record {
  digit = λ d h. le-leb 32 (48 + d) (omega arith);
  upper = λ d h k. le-leb 32 (55 + d) (omega arith);
  lower = λ d h k. le-leb 32 (87 + d) (omega arith);
  marks = refl;
}

shown_is_high : (k : Bool) (c : ℕ) → is_text_octet k c ≡ true → is_high_enough c ≡ true
shown_is_high k c h = le-leb 32 c (text_low k c h)

octet_has_none : (context : Context) (k : Bool) (c : ℕ) → list_all is_high_enough (escaped_octet context k c) ≡ true
octet_has_none Json k c = json_meets is_high_enough escapes_have_no_controls k c refl (shown_is_high k c)
octet_has_none Xml k c = xml_meets is_high_enough escapes_have_no_controls k c refl refl refl refl refl refl refl (λ h _ _ _. shown_is_high k c h)
octet_has_none Github k c = github_meets is_high_enough escapes_have_no_controls false k c (λ h _. shown_is_high k c h)
octet_has_none GithubProperty k c = github_meets is_high_enough escapes_have_no_controls true k c (λ h _. shown_is_high k c h)
octet_has_none Uri k c = uri_meets is_high_enough escapes_have_no_controls c (λ h. le-leb 32 c (omega (arith, (uri_range c h).0)))

pub no_controls : (context : Context) (octets : List ℕ) → list_all is_high_enough (escaped context octets) ≡ true
no_controls context octets = all_meet is_high_enough (escaped_octet context (keeps_high octets)) (octet_has_none context (keeps_high octets)) octets

-- no markup in XML
is_other : (c n : ℕ) → (n < c ⊎ c < n) → (c == n) ≡ false
is_other c n (inl h) = ne_eqb c n (λ e. omega (arith, h, e))
is_other c n (inr h) = ne_eqb c n (λ e. omega (arith, h, e))

plain_by : (a b d : Bool) → a ≡ false → b ≡ false → d ≡ false → not (a || (b || d)) ≡ true
plain_by a b d e f g = ap (λ x. not (x || (b || d))) e ∙ ap (λ x. not (x || d)) f ∙ ap not g

plain : (c : ℕ) → (34 < c ⊎ c < 34) → (60 < c ⊎ c < 60) → (62 < c ⊎ c < 62) → is_xml_plain c ≡ true
plain c h j k = plain_by (c == 34) (c == 60) (c == 62) (is_other c 34 h) (is_other c 60 j) (is_other c 62 k)

escapes_have_no_markup : MeetsEscapes is_xml_plain
escapes_have_no_markup = record {
  digit = λ d h. plain (48 + d) (inl (omega arith)) (inr (omega arith)) (inr (omega arith));
  upper = λ d h k. plain (55 + d) (inl (omega arith)) (inl (omega arith)) (inl (omega arith));
  lower = λ d h k. plain (87 + d) (inl (omega arith)) (inl (omega arith)) (inl (omega arith));
  marks = refl;
}

pub no_markup : (octets : List ℕ) → list_all is_xml_plain (escaped Xml octets) ≡ true
no_markup octets =
    all_meet is_xml_plain (escaped_octet Xml (keeps_high octets)) (λ c. xml_meets is_xml_plain escapes_have_no_markup (keeps_high octets) c refl refl refl refl refl refl refl
    (λ h less more quote. plain_by (c == 34) (c == 60) (c == 62) quote less more)) octets

-- no end of a property
abbrev ends_nothing : ℕ → Bool
ends_nothing c = not (c == 58 || c == 44)

neither : (a b : Bool) → a ≡ false → b ≡ false → not (a || b) ≡ true
neither a b e f = ap (λ x. not (x || b)) e ∙ ap not f

escapes_end_nothing : MeetsEscapes ends_nothing
escapes_end_nothing = record {
  digit = λ d h. neither (48 + d == 58) (48 + d == 44) (is_other (48 + d) 58 (inr (omega arith))) (is_other (48 + d) 44 (inl (omega arith)));
  upper = λ d h k. neither (55 + d == 58) (55 + d == 44) (is_other (55 + d) 58 (inl (omega arith))) (is_other (55 + d) 44 (inl (omega arith)));
  lower = λ d h k. neither (87 + d == 58) (87 + d == 44) (is_other (87 + d) 58 (inl (omega arith))) (is_other (87 + d) 44 (inl (omega arith)));
  marks = refl;
}

not_special : (a b : Bool) → (a || b) ≡ false → not b ≡ true
not_special true b h = cc
not_special false b h = ap not h

pub no_end : (octets : List ℕ) → list_all ends_nothing (escaped GithubProperty octets) ≡ true
no_end octets =
    all_meet ends_nothing (escaped_octet GithubProperty (keeps_high octets)) (λ c. github_meets ends_nothing escapes_end_nothing true (keeps_high octets) c
    (λ h other. not_special (c == 37 || (c == 13 || c == 10)) (c == 58 || c == 44) other)) octets

-- UTF-8
abbrev is_ascii : ℕ → Bool
is_ascii c = nat_lt c 128

ascii_then : (c : ℕ) (cs : List ℕ) → c < 128 → IsUtf8 cs → IsUtf8 (c ∷ cs)
ascii_then c cs small u = IsUtf8-append (c ∷ []) cs (subst IsUtf8 (encode_ascii c small) (IsUtf8-encode c (low_scalar c (omega arith)))) u

ascii_utf8 : (cs : List ℕ) → list_all is_ascii cs ≡ true → IsUtf8 cs
ascii_utf8 [] h = IsUtf8-nil
ascii_utf8 (c ∷ cs) h = let both = and_parts (is_ascii c) (list_all is_ascii cs) h in ascii_then c cs (ltb-true c 128 both.0) (ascii_utf8 cs both.1)

escapes_are_ascii : MeetsEscapes is_ascii
escapes_are_ascii = record {
  digit = λ d h. lt-ltb (48 + d) 128 (omega arith);
  upper = λ d h k. lt-ltb (55 + d) 128 (omega arith);
  lower = λ d h k. lt-ltb (87 + d) 128 (omega arith);
  marks = refl;
}

-- an octet that is below 128 if it is written as itself
octet_is_ascii : (context : Context) (k : Bool) (c : ℕ) → (is_text_octet k c ≡ true → is_ascii c ≡ true) → list_all is_ascii (escaped_octet context k c) ≡ true
octet_is_ascii Json k c t = json_meets is_ascii escapes_are_ascii k c refl t
octet_is_ascii Xml k c t = xml_meets is_ascii escapes_are_ascii k c refl refl refl refl refl refl refl (λ h _ _ _. t h)
octet_is_ascii Github k c t = github_meets is_ascii escapes_are_ascii false k c (λ h _. t h)
octet_is_ascii GithubProperty k c t = github_meets is_ascii escapes_are_ascii true k c (λ h _. t h)
octet_is_ascii Uri k c t = uri_meets is_ascii escapes_are_ascii c (λ h. lt-ltb c 128 (omega (arith, (uri_range c h).1)))

or_no : (b : Bool) → (b || false) ≡ true → b ≡ true
or_no true h = refl
or_no false h = h

not_kept : (c : ℕ) → is_text_octet false c ≡ true → is_ascii c ≡ true
not_kept c h = or_no (nat_lt c 128) (and_parts (not (c == 127)) _ (and_parts (nat_le 32 c) _ h).1).1

uri_is_ascii : (k : Bool) (c : ℕ) → list_all is_ascii (escaped_octet Uri k c) ≡ true
uri_is_ascii k c = uri_meets is_ascii escapes_are_ascii c (λ h. lt-ltb c 128 (omega (arith, (uri_range c h).1)))

-- octets from 128 on, where they are kept
is_not : (c n : ℕ) → 128 ≤ c → n < 128 → (c == n) ≡ false
is_not c n h k = is_other c n (inl (omega (arith, h, k)))

or_yes : (b : Bool) → (b || true) ≡ true
or_yes true = refl
or_yes false = refl

all_three : (a b d : Bool) → a ≡ true → b ≡ true → d ≡ true → (a && (b && d)) ≡ true
all_three a b d e f g = ap (λ x. x && (b && d)) e ∙ ap (λ x. x && d) f ∙ g

high_shown : (c : ℕ) → 128 ≤ c → is_text_octet true c ≡ true
high_shown c h = all_three (nat_le 32 c) (not (c == 127)) (nat_lt c 128 || true) (le-leb 32 c (omega (arith, h))) (ap not (is_not c 127 h (omega arith))) (or_yes (nat_lt c 128))

neither_is : (a b : Bool) → a ≡ false → b ≡ false → (a || b) ≡ false
neither_is a b e f = ap (λ x. x || b) e ∙ f

taken : (b : Bool) (x y : List ℕ) → b ≡ true → cond b x y ≡ x
taken b x y e = ap (λ v. cond v x y) e

json_high : (c : ℕ) → 128 ≤ c → escaped_octet Json true c ≡ c ∷ []
json_high c h = cond-false (c == 34 || c == 92) _ _ (neither_is (c == 34) (c == 92) (is_not c 34 h (omega arith)) (is_not c 92 h (omega arith))) ∙ taken (is_text_octet true c) _ _ (high_shown c h)

xml_high : (c : ℕ) → 128 ≤ c → escaped_octet Xml true c ≡ c ∷ []
xml_high c h =
    cond-false (c == 38) _ _ (is_not c 38 h (omega arith)) ∙ cond-false (c == 60) _ _ (is_not c 60 h (omega arith)) ∙ cond-false (c == 62) _ _ (is_not c 62 h (omega arith))
    ∙ cond-false (c == 34) _ _ (is_not c 34 h (omega arith)) ∙ cond-false (c == 9) _ _ (is_not c 9 h (omega arith)) ∙ cond-false (c == 10) _ _ (is_not c 10 h (omega arith))
    ∙ cond-false (c == 13) _ _ (is_not c 13 h (omega arith)) ∙ taken (is_text_octet true c) _ _ (high_shown c h)

and_no : (a b : Bool) → b ≡ false → (a && b) ≡ false
and_no true b e = e
and_no false b e = refl

github_high : (is_property : Bool) (c : ℕ) → 128 ≤ c → is_github_special is_property c ≡ false
github_high is_property c h =
    neither_is (c == 37 || (c == 13 || c == 10)) (is_property && (c == 58 || c == 44))
    (neither_is (c == 37) (c == 13 || c == 10) (is_not c 37 h (omega arith)) (neither_is (c == 13) (c == 10) (is_not c 13 h (omega arith)) (is_not c 10 h (omega arith))))
    (and_no is_property (c == 58 || c == 44) (neither_is (c == 58) (c == 44) (is_not c 58 h (omega arith)) (is_not c 44 h (omega arith))))

github_kept : (is_property : Bool) (c : ℕ) → 128 ≤ c → github_octet is_property true c ≡ c ∷ []
github_kept is_property c h = cond-false (is_github_special is_property c) _ _ (github_high is_property c h) ∙ taken (is_text_octet true c) _ _ (high_shown c h)

unchanged : (f : ℕ → List ℕ) → ((c : ℕ) → 128 ≤ c → f c ≡ c ∷ []) → (octets : List ℕ) → ((i : ℕ) → i < length octets → 128 ≤ get_or octets i 0) → flat_map f octets ≡ octets
unchanged f h [] high = refl
unchanged f h (c ∷ cs) high = ap₂ (λ (x y : List ℕ). x ++ y) (h c (high 0 (omega arith))) (unchanged f h cs (λ i below. high (suc i) (omega (arith, below))))

kept_all : (context : Context) (octets : List ℕ) → ((i : ℕ) → i < length octets → 128 ≤ get_or octets i 0) → IsUtf8 octets → IsUtf8 (flat_map (escaped_octet context true) octets)
kept_all Uri octets high u = ascii_utf8 _ (all_meet is_ascii (escaped_octet Uri true) (uri_is_ascii true) octets)
kept_all Json octets high u = subst IsUtf8 (sym (unchanged (escaped_octet Json true) json_high octets high)) u
kept_all Xml octets high u = subst IsUtf8 (sym (unchanged (escaped_octet Xml true) xml_high octets high)) u
kept_all Github octets high u = subst IsUtf8 (sym (unchanged (escaped_octet Github true) (github_kept false) octets high)) u
kept_all GithubProperty octets high u = subst IsUtf8 (sym (unchanged (escaped_octet GithubProperty true) (github_kept true) octets high)) u

one_char : (context : Context) (c : ℕ) → scalar c ≡ true → IsUtf8 (flat_map (escaped_octet context true) (encode c))
one_char context c ok = elim (cases_lt c 128) [
  | inl small ↦ subst (λ l. IsUtf8 (flat_map (escaped_octet context true) l)) (sym (encode_ascii c small))
      (subst IsUtf8 (sym (append-nil (escaped_octet context true c))) (ascii_utf8 _ (octet_is_ascii context true c (λ h. lt-ltb c 128 small))))
  | inr big ↦
      let high : (i : ℕ) → i < length (encode c) → 128 ≤ get_or (encode c) i 0 = λ i below. elim (cases_lt (get_or (encode c) i 0) 128) [
        | inl low ↦ absurd (omega (arith, inside_one c [] (encode c) i (sym (append-nil _)) below low, low, big))
        | inr h ↦ h
      ] in
      kept_all context (encode c) high (IsUtf8-encode c ok)
]

all_chars : (context : Context) (cs : List ℕ) → scalars cs ≡ true → IsUtf8 (flat_map (escaped_octet context true) (encodes cs))
all_chars context [] e = IsUtf8-nil
all_chars context (c ∷ cs) e =
    let both = and_parts _ _ e in
    subst IsUtf8 (sym (flat_map-append (escaped_octet context true) (encode c) (encodes cs))) (IsUtf8-append _ _ (one_char context c both.0) (all_chars context cs both.1))

of_characters : (context : Context) (octets : List ℕ) → IsUtf8 octets → IsUtf8 (flat_map (escaped_octet context true) octets)
of_characters context octets u = subst (λ l. IsUtf8 (flat_map (escaped_octet context true) l)) u.1.1 (all_chars context u.0 u.1.0)

escaped_by : (k : Bool) (context : Context) (octets : List ℕ) → k ≡ keeps_high octets → IsUtf8 (flat_map (escaped_octet context k) octets)
escaped_by true context octets e = of_characters context octets (IsUtf8-from_is_utf8 octets (and_parts (is_utf8 octets) _ (sym e)).0)
escaped_by false context octets e = ascii_utf8 _ (all_meet is_ascii (escaped_octet context false) (λ c. octet_is_ascii context false c (not_kept c)) octets)

pub is_text : (context : Context) (octets : List ℕ) → IsUtf8 (escaped context octets)
is_text context octets = escaped_by (keeps_high octets) context octets refl

-- JSON strings end where they are closed
plain_step : (c : ℕ) (rest : List ℕ) → (c == 92) ≡ false → (c == 34) ≡ false → after_string false (c ∷ rest) ≡ after_string false rest
plain_step c rest e f = cond-false (c == 92) _ _ e ∙ cond-false (c == 34) _ _ f

digit_step : (d : ℕ) (rest : List ℕ) → d < 10 → after_string false ((48 + d) ∷ rest) ≡ after_string false rest
digit_step d rest h = plain_step (48 + d) rest (is_other (48 + d) 92 (inr (omega (arith, h)))) (is_other (48 + d) 34 (inl (omega arith)))

glyph_by : (b : Bool) (n : ℕ) (rest : List ℕ) → n < 16 → b ≡ nat_lt n 10 → after_string false (cond b (48 + n) (87 + n) ∷ rest) ≡ after_string false rest
glyph_by true n rest h e = digit_step n rest (ltb-true n 10 (sym e))
glyph_by false n rest h e = plain_step (87 + n) rest (is_other (87 + n) 92 (inl (omega (arith, ltb-false n 10 (sym e))))) (is_other (87 + n) 34 (inl (omega arith)))

glyph_step : (n : ℕ) (rest : List ℕ) → n < 16 → after_string false (digit_glyph false n ∷ rest) ≡ after_string false rest
glyph_step n rest h = glyph_by (nat_lt n 10) n rest h refl

decimal_step : (c : ℕ) (rest : List ℕ) → after_string false (92 ∷ (decimal_escape c ++ rest)) ≡ after_string false rest
decimal_step c rest =
    digit_step (c / 100 % 10) ((48 + c / 10 % 10) ∷ (48 + c % 10) ∷ rest) (omega arith) ∙ digit_step (c / 10 % 10) ((48 + c % 10) ∷ rest) (omega arith) ∙ digit_step (c % 10) rest (omega arith)

unicode_step : (c : ℕ) (rest : List ℕ) → after_string false ((codes "\\u00" ++ digit_glyph false (c / 16 % 16) ∷ digit_glyph false (c % 16) ∷ []) ++ rest) ≡ after_string false rest
unicode_step c rest = glyph_step (c / 16 % 16) (digit_glyph false (c % 16) ∷ rest) (omega arith) ∙ glyph_step (c % 16) rest (omega arith)

neither_two : (a b : Bool) → (a || b) ≡ false → (a ≡ false) × (b ≡ false)
neither_two true b h = cc
neither_two false b h = (refl, h)

json_by : (a b d : Bool) (c : ℕ) (rest : List ℕ) → a ≡ (c == 34 || c == 92)
    → after_string false (cond a (92 ∷ c ∷ []) (cond b (c ∷ []) (cond d (codes "\\u00" ++ digit_glyph false (c / 16 % 16) ∷ digit_glyph false (c % 16) ∷ []) (92 ∷ decimal_escape c))) ++ rest) ≡ after_string false rest
json_by true b d c rest e = refl
json_by false true d c rest e = let neither = neither_two (c == 34) (c == 92) (sym e) in plain_step c rest neither.1 neither.0
json_by false false true c rest e = unicode_step c rest
json_by false false false c rest e = decimal_step c rest

json_step : (k : Bool) (c : ℕ) (rest : List ℕ) → after_string false (json_string_octet k c ++ rest) ≡ after_string false rest
json_step k c rest = json_by (c == 34 || c == 92) (is_text_octet k c) (nat_lt c 128) c rest refl

json_steps : (k : Bool) (octets rest : List ℕ) → after_string false (flat_map (json_string_octet k) octets ++ rest) ≡ after_string false rest
json_steps k [] rest = refl
json_steps k (c ∷ cs) rest =
    ap (after_string false) (append_assoc (json_string_octet k c) (flat_map (json_string_octet k) cs) rest) ∙ json_step k c (flat_map (json_string_octet k) cs ++ rest) ∙ json_steps k cs rest

pub ends_where_closed : (octets rest : List ℕ) → after_string false (escaped Json octets ++ 34 ∷ rest) ≡ rest
ends_where_closed octets rest = json_steps (keeps_high octets) octets (34 ∷ rest)
