-- The zone files that have no form, and why.
use Rattle.std.specs.Prelude.{⊤, ◌≡◌, ◌≤◌, ℕ, ◌+◌, ◌<◌, ◌⊎◌, Bool, true, false, ◌==◌, nat_eq, nat_lt, ◌&&◌, ◌||◌, not, if◌then◌else◌, List, [], ◌∷◌, ◌++◌, length, map, slice_index, Result, Ok, Err, encode_utf8_all}
use Rattle.std.specs.List.{list_all, starts_with}
use Rattle.dns_lexer.specs.Pieces.{IsFault, AreItemsOf, between, moved_fault, place_of, quote_at, word_at}
use Rattle.dns_lexer.specs.declared.pieces.Piece.{Piece}
use Rattle.dns_lexer.specs.declared.pieces.Fault.{Fault}
use Rattle.zone_format.specs.declared.line_state.Above.{Above}
use Rattle.zone_format.specs.declared.line_state.Above.TheVariants.{Nothing}
use Rattle.zone_format.specs.declared.refusal.Refusal.{Refusal}
use Rattle.zone_format.specs.declared.refusal.Refusal.TheVariants.{Wrong, Nul, OrderMark, OutOfMemory}
use Rattle.zone_format.specs.Marks.{Mark, Token, Feed, Lead, all_marks}

abbrev pub has_no_nul : List ℕ → Bool
has_no_nul t = list_all (λ c. not (c == 0)) t

-- the length of the byte order mark that octets begin with: EF BB BF of UTF-8, FE FF or FF FE of UTF-16; 0 if they begin with none
abbrev pub order_mark_length : List ℕ → ℕ
order_mark_length t = if starts_with nat_eq t (239 ∷ 187 ∷ 191 ∷ []) then 3 else if starts_with nat_eq t (254 ∷ 255 ∷ []) || starts_with nat_eq t (255 ∷ 254 ∷ []) then 2 else 0

abbrev pub begins_order_mark : List ℕ → Bool
begins_order_mark t = nat_lt 0 (order_mark_length t)

-- a text begins with one: its first thing, in the first column
abbrev pub begins_marked : (is_led : Bool) → List Mark → Bool
begins_marked is_led (Feed ∷ ms) = begins_marked false ms
begins_marked is_led (Lead ∷ ms) = begins_marked true ms
begins_marked is_led (Token glued t ∷ ms) = not is_led && begins_order_mark t
begins_marked is_led _ = false

abbrev pub mark_has_no_nul : Mark → Bool
mark_has_no_nul (Token glued t) = has_no_nul t
mark_has_no_nul _ = true

-- marks have a form: there is no NUL outside comments, and no byte order mark at the beginning
abbrev pub has_form : List Mark → Bool
has_form ms = list_all mark_has_no_nul ms && not (begins_marked false ms)

-- what follows has a form: like a separate text if there is nothing above, and else without NUL outside comments
abbrev pub may_follow : Above → List Mark → Bool
may_follow Nothing ms = has_form ms
may_follow _ ms = list_all mark_has_no_nul ms

-- so do the first pieces of octets
abbrev pub have_form : Above → List ℕ → List Piece → Bool
have_form above octets found = may_follow above (all_marks octets found)

-- a word or a quoted string from an offset to another follows these pieces
abbrev pub HasTokenAfter : List ℕ → List Piece → (s e : ℕ) → Type 0
HasTokenAfter octets found s e = (more : List (Result Piece Fault)) × (AreItemsOf octets (map Ok found ++ Ok (word_at s e) ∷ more) ⊎ AreItemsOf octets (map Ok found ++ Ok (quote_at s e) ∷ more))

-- the first error, below lines above: all pieces before a syntax error have a form; a NUL is in a token that would have a form if it ended before the NUL;
-- a byte order mark begins a token, and the pieces before it have a form, but not if the mark follows them as a token
abbrev pub HasFirstError : Above → List ℕ → Refusal → Type 0
HasFirstError above octets (Wrong f) =
    (f.at ≤ length octets) × IsFault (encode_utf8_all octets) (moved_fault (place_of octets) f) × (found : List Piece) × AreItemsOf octets (map Ok found ++ Err f ∷ []) × (have_form above octets found ≡ true)
HasFirstError above octets (Nul at) =
    (found : List Piece) × (s : ℕ) × (e : ℕ) × HasTokenAfter octets found s e × (s ≤ at) × (at < e) × (e ≤ length octets) × (slice_index octets at ≡ 0) × (have_form above octets (found ++ word_at s at ∷ []) ≡ true)
HasFirstError above octets (OrderMark at) =
    (found : List Piece) × (e : ℕ) × HasTokenAfter octets found at e × (at ≤ e) × (e ≤ length octets) × (begins_order_mark (between octets at e) ≡ true) × (have_form above octets found ≡ true)
    × (have_form above octets (found ++ word_at at (at + order_mark_length (between octets at e)) ∷ []) ≡ false)
HasFirstError above octets OutOfMemory = ⊤
