-- Texts printed one octet after another.
use Rattle.std.proofs.Common.{◌≡◌, ℕ, ◌+◌, ◌<◌, List, [], ◌∷◌, ◌++◌, length, take, get_or, arith, refl}
use Rattle.std.specs.Prelude.{encode_utf8_all}
use Rattle.std.specs.List.{flat_map}
use Rattle.std.proofs.lemmas.List.{take_more}
use Rattle.std.proofs.lemmas.Str.{encodes-append, encode_ascii}
use Rattle.std.proofs.lemmas.Grind.{common_steps, flat_map-append}

-- one octet more
pub text_more : (f : ℕ → List ℕ) (xs : List ℕ) (i : ℕ) → i < length xs
    → encode_utf8_all (flat_map f (take i xs)) ++ encode_utf8_all (f (get_or xs i 0)) ≡ encode_utf8_all (flat_map f (take (i + 1) xs))
text_more f xs i h = rw (take_more xs i 0 h, flat_map-append, encodes-append) (Prim.search common_steps)

-- a text between double quotes
pub text_quoted : (text : List ℕ) → ((34 ∷ []) ++ encode_utf8_all text) ++ (34 ∷ []) ≡ encode_utf8_all (34 ∷ text ++ 34 ∷ [])
text_quoted text = rw (encodes-append text (34 ∷ []), encode_ascii 34 (omega arith)) refl
