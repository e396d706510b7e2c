-- The number of entries with tokens that have ended.
use Rattle.std.proofs.Common.{◌≡◌, ℕ, ◌+◌, ◌<◌, ◌≤◌, Bool, true, false, not, List, [], ◌∷◌, ◌++◌, length, take, refl, sym, ap, ◌∙◌, arith, append-nil, append_assoc, length-append}
use Rattle.std.specs.Prelude.{Option, Some, None, map, Result, Ok, Err}
use Rattle.std.specs.Option.{is_some}
use Rattle.std.proofs.lemmas.List.{map-append}
use Rattle.dns_lexer.specs.declared.pieces.Piece.{Piece}
use Rattle.dns_lexer.specs.declared.pieces.EndOfEntry.{EndOfEntry}
use Rattle.dns_lexer.specs.declared.pieces.Piece.TheVariants.{End as EndAt}
use Rattle.dns_lexer.specs.declared.pieces.Fault.{Fault}
use Rattle.dns_lexer.specs.Pieces.{AreOctets, AreItemsOf, comment_at, end_at}
use Rattle.dns_lexer.proofs.OctetsOnce.{given_once}
use Rattle.zonetext_lib.specs.Blocks.{EndsEntryAt}
use Rattle.zonetext_lib.specs.Compare.{compared_parts}
use Rattle.zonetext_lib.specs.Comparing.{HasTwoEntries, ends}
use Rattle.zonetext_lib.specs.Entries.{ComparedPart, Token, Ends, HasTokenEntries, ended_after_pieces, ended_by, with_tokens}
use Rattle.zone_format.proofs.Same.{head_of, rest_of}
use Rattle.zone_format.proofs.Givens.{pieces_after, pieces_in, pieces_of_oks}
use Rattle.zonetext_lib.proofs.Once.{entries_once}
use Rattle.zonetext_lib.proofs.Parts.{ended_append, says_append}
use Rattle.zonetext_lib.proofs.Passing.{oks_length}
use Rattle.zonetext_lib.proofs.Same.{EndsHere, tokens_to, up_to}

-- these were returned, and `count` entries with tokens ended; if it is two, the last piece is such an end, and before it the count was less
pub record Counted (octets : List ℕ) (given left : List (Result Piece Fault)) (count : ℕ) (some : Bool) : Type 0 where
  pub found : List Piece
  pub is : given ≡ map Ok found ++ left
  pub counted : ends (compared_parts octets None found) ≡ count
  pub begun : is_some (ended_after_pieces None found) ≡ some
  pub last : 2 ≤ count → (at : ℕ) × EndsHere found at
  pub few : (xs ys : List Piece) → found ≡ xs ++ ys → 0 < length ys → ends (compared_parts octets None xs) < 2

abbrev ok : Piece → Result Piece Fault
ok p = Ok p

ok_once : (x y : Piece) → ok x ≡ ok y → x ≡ y
ok_once x y e = cc

pub none_counted : (octets : List ℕ) (given : List (Result Piece Fault)) → Counted octets given given 0 false
none_counted octets given = record {
  found = [];
  is = refl;
  counted = refl;
  begun = refl;
  last = λ h. absurd (omega (arith, h));
  few = λ xs ys e h. absurd (omega (arith, ap length e, length-append xs ys, h));
}

ends_append : (xs ys : List ComparedPart) → ends (xs ++ ys) ≡ ends xs + ends ys
ends_append [] ys = omega arith
ends_append (Token g t ∷ xs) ys = ends_append xs ys
ends_append (Ends b ∷ xs) ys = omega (arith, ends_append xs ys)

abbrev pub one_if : Bool → ℕ
one_if true = 1
one_if false = 0

-- one piece more
end_counts : (octets : List ℕ) (ended : Option ℕ) (p : EndOfEntry) → ends (compared_parts octets ended (EndAt p ∷ [])) ≡ one_if (is_some ended)
end_counts octets None p = refl
end_counts octets (Some e) p = refl

more_is : (given now left : List (Result Piece Fault)) (found : List Piece) (p : Piece) → given ≡ map Ok found ++ now → now ≡ Ok p ∷ left → given ≡ map Ok (found ++ p ∷ []) ++ left
more_is given now left found p e k =
    e ∙ ap (λ l. map Ok found ++ l) k ∙ sym (append_assoc (map Ok found) (Ok p ∷ []) left) ∙ ap (λ l. l ++ left) (sym (map-append Ok found (p ∷ [])))

sum_is : (octets : List ℕ) (found : List Piece) (p : Piece) → ends (compared_parts octets None (found ++ p ∷ [])) ≡ ends (compared_parts octets None found) + ends (compared_parts octets (ended_after_pieces None found) (p ∷ []))
sum_is octets found p = ap ends (says_append octets None found (p ∷ [])) ∙ ends_append (compared_parts octets None found) (compared_parts octets (ended_after_pieces None found) (p ∷ []))

front_ends : (octets : List ℕ) (xs ys : List Piece) → ends (compared_parts octets None xs) ≤ ends (compared_parts octets None (xs ++ ys))
front_ends octets xs ys = omega (arith, ap ends (says_append octets None xs ys), ends_append (compared_parts octets None xs) (compared_parts octets (ended_after_pieces None xs) ys))

-- a prefix of some pieces is a prefix of all but the last
all_but_last : (found xs ys : List Piece) (p : Piece) → found ++ p ∷ [] ≡ xs ++ ys → 0 < length ys → (zs : List Piece) × (found ≡ xs ++ zs)
all_but_last found [] ys p e h = (found, refl)
all_but_last [] (x ∷ xs) ys p e h = absurd (omega (arith, ap length e, length-append xs ys, h))
all_but_last (f ∷ found) (x ∷ xs) ys p e h = let r = all_but_last found xs ys p (ap rest_of e) h in (r.0, ap (λ l. f ∷ l) r.1 ∙ ap (λ y. y ∷ xs ++ r.0) (ap (head_of f) e))

few_before : (octets : List ℕ) (found : List Piece) (p : Piece) (count : ℕ) → ends (compared_parts octets None found) ≡ count → count < 2 → (xs ys : List Piece) → found ++ p ∷ [] ≡ xs ++ ys → 0 < length ys
    → ends (compared_parts octets None xs) < 2
few_before octets found p count c few xs ys e h =
    let r = all_but_last found xs ys p e h in
    omega (arith, front_ends octets xs r.0, ap (λ l. ends (compared_parts octets None l)) r.1, c, few)

-- a piece that ends no entry
pub piece_counted : (octets : List ℕ) (given now left : List (Result Piece Fault)) (count : ℕ) (some next : Bool) (p : Piece) → now ≡ Ok p ∷ left
    → ((ended : Option ℕ) → ends (compared_parts octets ended (p ∷ [])) ≡ 0) → ((ended : Option ℕ) → is_some ended ≡ some → is_some (ended_by ended p) ≡ next) → count < 2
    → Counted octets given now count some → Counted octets given left count next
piece_counted octets given now left count some next p e none begins few x = record {
  found = x.found ++ p ∷ [];
  is = more_is given now left x.found p x.is e;
  counted = sum_is octets x.found p ∙ omega (arith, x.counted, none (ended_after_pieces None x.found));
  begun = ap is_some (ended_append None x.found (p ∷ [])) ∙ begins (ended_after_pieces None x.found) x.begun;
  last = λ h. absurd (omega (arith, h, few));
  few = few_before octets x.found p count x.counted few;
}

pub end_counted : (octets : List ℕ) (given now left : List (Result Piece Fault)) (count : ℕ) (some : Bool) (p : EndOfEntry) → now ≡ Ok (EndAt p) ∷ left → count < 2
    → Counted octets given now count some → Counted octets given left (count + one_if some) false
end_counted octets given now left count some p e few x = record {
  found = x.found ++ EndAt p ∷ [];
  is = more_is given now left x.found (EndAt p) x.is e;
  counted = sum_is octets x.found (EndAt p) ∙ omega (arith, x.counted, end_counts octets (ended_after_pieces None x.found) p, ap one_if x.begun);
  begun = ap is_some (ended_append None x.found (EndAt p ∷ []));
  last = λ h. (p.at, (x.found, p.begins_blank, refl));
  few = few_before octets x.found (EndAt p) count x.counted few;
}

-- two ended, and something follows
pub end_two : (octets : List ℕ) (given left : List (Result Piece Fault)) (count : ℕ) (some : Bool) → AreOctets octets → AreItemsOf octets given → 0 < length left → 2 ≤ count
    → Counted octets given left count some → HasTwoEntries octets
end_two octets given left count some o g more two x =
    let at = x.last two in
    let u = up_to octets given left x.found [] at.0 o g x.is (omega (arith, more)) at.1 in
    (at.0, compared_parts octets None x.found, u.cut, tokens_to octets x.found at.0 at.1 u, omega (arith, x.counted, two))

tokens_once : (octets : List ℕ) (es fs : List ComparedPart) → HasTokenEntries octets es → HasTokenEntries octets fs → es ≡ fs
tokens_once octets es fs a b = sym a.2 ∙ ap (with_tokens false) (entries_once octets a.0 b.0 a.1 b.1) ∙ b.2

-- if two ended, the pieces before are known
record TwoEnd (octets : List ℕ) (given : List (Result Piece Fault)) : Type 0 where
  pub front : List Piece
  pub more : List (Result Piece Fault)
  pub is : given ≡ map Ok front ++ more
  pub some : 0 < length more
  pub two : 2 ≤ ends (compared_parts octets None front)

two_end : (octets : List ℕ) (given : List (Result Piece Fault)) → AreOctets octets → AreItemsOf octets given → HasTwoEntries octets → TwoEnd octets given
two_end octets given o g t =
    let at : ℕ = t.0 in
    let cut : EndsEntryAt octets at = t.2 in
    let end : List Piece = end_at at cut.1 ∷ [] in
    let front : List Piece = cut.0 ++ end in
    let shape : given ≡ map Ok front ++ cut.2 =
    given_once octets given (map Ok cut.0 ++ Ok (end_at at cut.1) ∷ cut.2) g cut.3 ∙ sym (append_assoc (map Ok cut.0) (map Ok end) cut.2) ∙ ap (λ l. l ++ cut.2) (sym (map-append Ok cut.0 end)) in
    let here : EndsHere front at = (cut.0, cut.1, refl) in
    let u = up_to octets given cut.2 front [] at o g shape (omega (arith, cut.4)) here in
    record {
      front = front;
      more = cut.2;
      is = shape;
      some = cut.4;
      two = omega (arith, t.4, ap ends (tokens_once (take at octets) t.1 (compared_parts octets None front) t.3 (tokens_to octets front at here u)));
    }

-- what precedes all that were returned, and something after
oks_front : (found front : List Piece) (more : List (Result Piece Fault)) → map Ok found ++ [] ≡ map Ok front ++ more → 0 < length more → (ys : List Piece) × (found ≡ front ++ ys) × (0 < length ys)
oks_front found front more e h =
    let ys : List Piece = pieces_in more in
    let is : found ≡ front ++ ys = sym (pieces_of_oks found) ∙ ap pieces_in (sym (append-nil (map Ok found)) ∙ e) ∙ pieces_after front more in
    (ys, is, omega (arith, h, ap length is, length-append front ys, ap length e, length-append (map {B = Result Piece Fault} Ok found) [], length-append (map Ok front) more, oks_length found, oks_length front))

-- what was yielded before an error
before_fault : (found front : List Piece) (f : Fault) (rest more : List (Result Piece Fault)) → map Ok found ++ Err f ∷ rest ≡ map Ok front ++ more → (ys : List Piece) × (found ≡ front ++ ys)
before_fault found [] f rest more e = (found, refl)
before_fault [] (x ∷ front) f rest more e = cc
before_fault (y ∷ found) (x ∷ front) f rest more e = let r = before_fault found front f rest more (ap rest_of e) in (r.0, ap (λ l. y ∷ l) r.1 ∙ ap (λ z. z ∷ front ++ r.0) (ok_once y x (ap (head_of (Ok y)) e)))

-- all were yielded, and no two ended that something follows
pub not_twice : (octets : List ℕ) (given left : List (Result Piece Fault)) (count : ℕ) (some : Bool) → AreOctets octets → AreItemsOf octets given → left ≡ [] → Counted octets given left count some
    → HasTwoEntries octets → ⊥
not_twice octets given left count some o g none x t =
    let e = two_end octets given o g t in
    let ys = oks_front x.found e.front e.more (ap (λ l. map Ok x.found ++ l) (sym none) ∙ sym x.is ∙ e.is) e.some in
    omega (arith, e.two, x.few e.front ys.0 ys.1 ys.2)

-- nor before an error
pub not_twice_before : (octets : List ℕ) (given left rest : List (Result Piece Fault)) (f : Fault) (count : ℕ) (some : Bool) → AreOctets octets → AreItemsOf octets given → left ≡ Err f ∷ rest → count < 2
    → Counted octets given left count some → HasTwoEntries octets → ⊥
not_twice_before octets given left rest f count some o g bad few x t =
    let e = two_end octets given o g t in
    let ys = before_fault x.found e.front f rest e.more (ap (λ l. map Ok x.found ++ l) (sym bad) ∙ sym x.is ∙ e.is) in
    omega (arith, e.two, front_ends octets e.front ys.0, ap (λ l. ends (compared_parts octets None l)) ys.1, x.counted, few)

pub not_both : (b : Bool) → not b ≡ true → b ≡ true → ⊥
not_both true h k = cc
not_both false h k = cc

pub was_true : (b : Bool) → not b ≡ false → b ≡ true
was_true true h = refl
was_true false h = cc

pub none_ends : (octets : List ℕ) (s e : ℕ) (ended : Option ℕ) → ends (compared_parts octets ended (comment_at s e ∷ [])) ≡ 0
none_ends octets s e None = refl
none_ends octets s e (Some n) = refl
