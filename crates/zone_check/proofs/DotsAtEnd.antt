-- Whether a dot at the end of a text is escaped, octet by octet.
use Rattle.std.proofs.Common.{◌≡◌, ℕ, ◌+◌, ◌<◌, Bool, true, false, List, ◌∷◌, length, get_or, drop, sym, ap, ◌∙◌, arith}
use Rattle.std.proofs.lemmas.List.{drop_more}
use Rattle.std.specs.Prelude.{◌==◌, if◌then◌else◌}
use Rattle.zone_check.specs.Names.{ends_in_dot, passed_with}

-- the result for two octets or more is that for those after the first, or after the one that it escapes
passed : (b : Bool) (text : List ℕ) (i d : ℕ) → drop (i + 1) text ≡ d ∷ drop (i + 1 + 1) text → (if b then ends_in_dot (drop (i + 1 + 1) text) else ends_in_dot (d ∷ drop (i + 1 + 1) text)) ≡ ends_in_dot (drop (i + (if b then 2 else 1)) text)
passed true text i d next = let same : i + 1 + 1 ≡ i + 2 = omega arith in ap (λ n. ends_in_dot (drop n text)) same
passed false text i d next = sym (ap ends_in_dot next)

pub passed_octet : (text : List ℕ) (i : ℕ) → i + 1 < length text → ends_in_dot (drop i text) ≡ ends_in_dot (drop (i + passed_with (get_or text i 0)) text)
passed_octet text i within =
    let first : drop i text ≡ get_or text i 0 ∷ drop (i + 1) text = drop_more text i 0 (omega (arith, within)) in
    let next : drop (i + 1) text ≡ get_or text (i + 1) 0 ∷ drop (i + 1 + 1) text = drop_more text (i + 1) 0 within in
    ap ends_in_dot (first ∙ ap (λ rest. get_or text i 0 ∷ rest) next) ∙ passed (get_or text i 0 == 92) text i (get_or text (i + 1) 0) next
