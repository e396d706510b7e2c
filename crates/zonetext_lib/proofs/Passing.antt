-- Pieces that the iterator yielded, and what remains of them.
use Rattle.std.proofs.Common.{◌≡◌, ℕ, suc, ◌+◌, ◌<◌, ◌≤◌, Bool, false, List, [], ◌∷◌, ◌++◌, length, refl, sym, ap, ◌∙◌, subst, arith, inl, inr, append-nil, append_assoc, length-append}
use Rattle.std.specs.Prelude.{◌⊎◌, ◌↔◌, IsTrue, map, Result, Ok, Err}
use Rattle.std.proofs.lemmas.Bool.{cases_lt}
use Rattle.std.proofs.lemmas.List.{map-append}
use Rattle.dns_lexer.specs.declared.pieces.Piece.{Piece}
use Rattle.dns_lexer.specs.declared.pieces.Piece.TheVariants.{Word as WordAt, Quote as QuoteAt, Comment as CommentAt, End as EndAt}
use Rattle.dns_lexer.specs.declared.pieces.Fault.{Fault}
use Rattle.dns_lexer.specs.Pieces.{AreItemsOf, EachWithin, end_at}
use Rattle.zonetext_lib.specs.Blocks.{EndsEntryAt}
use Rattle.zonetext_lib.specs.Writing.{EndsAt, FaultAfter, has_end}
use Rattle.zonetext_lib.proofs.Order.{InOrder, in_order}

-- these were yielded, and those remain
pub record Passed (given left : List (Result Piece Fault)) : Type 0 where
  pub found : List Piece
  pub is : given ≡ map Ok found ++ left

pub none_passed : (given : List (Result Piece Fault)) → Passed given given
none_passed given = record { found = []; is = refl }

pub one_passed : (given left now : List (Result Piece Fault)) (p : Piece) → now ≡ Ok p ∷ left → Passed given now → Passed given left
one_passed given left now p e x = record {
  found = x.found ++ p ∷ [];
  is = x.is ∙ ap (λ l. map Ok x.found ++ l) e ∙ sym (append_assoc (map Ok x.found) (Ok p ∷ []) left) ∙ ap (λ l. l ++ left) (sym (map-append Ok x.found (p ∷ [])));
}

none_after : (n : ℕ) (found : List Piece) (f : Fault) (rest : List (Result Piece Fault)) → InOrder n (map Ok found ++ Err f ∷ rest) → rest ≡ []
none_after n [] f rest o = o
none_after n (WordAt p ∷ found) f rest o = none_after p.start found f rest o.1
none_after n (QuoteAt p ∷ found) f rest o = none_after p.start found f rest o.1
none_after n (CommentAt p ∷ found) f rest o = none_after n found f rest o
none_after n (EndAt p ∷ found) f rest o = none_after n found f rest o

-- an error comes last
pub fault_passed : (octets : List ℕ) (given left now : List (Result Piece Fault)) (f : Fault) → AreItemsOf octets given → now ≡ Err f ∷ left → (x : Passed given now)
    → AreItemsOf octets (map Ok x.found ++ Err f ∷ [])
fault_passed octets given left now f g e x =
    let is : given ≡ map Ok x.found ++ Err f ∷ left = x.is ∙ ap (λ l. map Ok x.found ++ l) e in
    let over : left ≡ [] = none_after 0 x.found f left (subst (InOrder 0) is (in_order octets given g.0 g.1)) in
    subst (AreItemsOf octets) (is ∙ ap (λ l. map Ok x.found ++ Err f ∷ l) over) g

pub all_passed : (octets : List ℕ) (given now : List (Result Piece Fault)) → AreItemsOf octets given → now ≡ [] → (x : Passed given now) → AreItemsOf octets (map Ok x.found)
all_passed octets given now g e x = subst (AreItemsOf octets) (x.is ∙ ap (λ l. map Ok x.found ++ l) e ∙ append-nil (map Ok x.found)) g

-- an entry's end was yielded, before this many more
pub record Ended (given left : List (Result Piece Fault)) (at : ℕ) : Type 0 where
  pub found : List Piece
  pub blank : Bool
  pub more : List Piece
  pub is : given ≡ map Ok found ++ Ok (end_at at blank) ∷ (map Ok more ++ left)

pub ended_before : (given left now : List (Result Piece Fault)) (p : Piece) (at : ℕ) → now ≡ Ok p ∷ left → Ended given now at → Ended given left at
ended_before given left now p at e x = record {
  found = x.found;
  blank = x.blank;
  more = x.more ++ p ∷ [];
  is = x.is ∙ ap (λ l. map Ok x.found ++ Ok (end_at at x.blank) ∷ (map Ok x.more ++ l)) e
      ∙ ap (λ l. map Ok x.found ++ Ok (end_at at x.blank) ∷ l) (sym (append_assoc (map Ok x.more) (Ok p ∷ []) left) ∙ ap (λ l. l ++ left) (sym (map-append Ok x.more (p ∷ []))));
}

pub ended_here : (given left now : List (Result Piece Fault)) (at : ℕ) (blank : Bool) → now ≡ Ok (end_at at blank) ∷ left → Passed given now → Ended given left at
ended_here given left now at blank e x = record { found = x.found; blank = blank; more = []; is = x.is ∙ ap (λ l. map Ok x.found ++ l) e }

pub within_after : (n : ℕ) (xs : List Piece) (given : List (Result Piece Fault)) → EachWithin n (map Ok xs ++ given) → EachWithin n given
within_after n [] given w = w
within_after n (x ∷ xs) given w = within_after n xs given w.1

pub oks_length : (xs : List Piece) → length (map {B = Result Piece Fault} Ok xs) ≡ length xs
oks_length [] = refl
oks_length (x ∷ xs) = ap suc (oks_length xs)

-- it is a cut if something follows
pub ended_cut : (octets : List ℕ) (given left : List (Result Piece Fault)) (at : ℕ) → AreItemsOf octets given → (x : Ended given left at) → 0 < length x.more + length left
    → (at ≤ length octets) × EndsEntryAt octets at
ended_cut octets given left at g x some =
    let here = subst (AreItemsOf octets) x.is g in (
      (within_after (length octets) x.found _ here.1).0,
      (x.found, x.blank, map Ok x.more ++ left, here, omega (arith, some, length-append (map Ok x.more) left, oks_length x.more)),
    )

-- an entry's end was yielded, and more after it
abbrev pub EndedBefore : List (Result Piece Fault) → List (Result Piece Fault) → ℕ → Type 0
EndedBefore given left at = (x : Ended given left at) × (0 < length x.more)

pub end_then_more : (given left now : List (Result Piece Fault)) (p : Piece) (at : ℕ) → now ≡ Ok p ∷ left → Ended given now at → EndedBefore given left at
unfolding ended_before
end_then_more given left now p at e x =
    let n : 0 < length (x.more ++ p ∷ []) = omega (arith, length-append x.more (p ∷ [])) in
    (ended_before given left now p at e x, n)

-- the last entry's end, and the one before it, if there are any
abbrev pub LastEnd : List (Result Piece Fault) → List (Result Piece Fault) → ℕ → Type 0
LastEnd given left at = (at ≡ 0) ⊎ Ended given left at

abbrev pub EndBefore : List (Result Piece Fault) → List (Result Piece Fault) → ℕ → Type 0
EndBefore given left at = (at ≡ 0) ⊎ EndedBefore given left at

pub last_on : (given left now : List (Result Piece Fault)) (p : Piece) (at : ℕ) → now ≡ Ok p ∷ left → LastEnd given now at → EndBefore given left at
last_on given left now p at e (inl z) = inl z
last_on given left now p at e (inr x) = inr (end_then_more given left now p at e x)

pub end_on : (given left now : List (Result Piece Fault)) (p : Piece) (at : ℕ) → now ≡ Ok p ∷ left → LastEnd given now at → LastEnd given left at
end_on given left now p at e (inl z) = inl z
end_on given left now p at e (inr x) = inr (ended_before given left now p at e x)

-- the pieces that were passed, and the last entry's end among them
abbrev pub Walked : List (Result Piece Fault) → List (Result Piece Fault) → ℕ → Type 0
Walked given left last = Passed given left × LastEnd given left last

pub none_walked : (given : List (Result Piece Fault)) → Walked given given 0
none_walked given = (none_passed given, inl refl)

pub walked_on : (given left now : List (Result Piece Fault)) (p : Piece) (last : ℕ) → now ≡ Ok p ∷ left → Walked given now last → Walked given left last
walked_on given left now p last e w = (one_passed given left now p e w.0, end_on given left now p last e w.1)

pub walked_end : (given left now : List (Result Piece Fault)) (at last : ℕ) (blank : Bool) → now ≡ Ok (end_at at blank) ∷ left → Walked given now last → Walked given left at
walked_end given left now at last blank e w = (one_passed given left now (end_at at blank) e w.0, inr (ended_here given left now at blank e w.0))

pub before_on : (given left now : List (Result Piece Fault)) (p : Piece) (at : ℕ) → now ≡ Ok p ∷ left → EndBefore given now at → EndBefore given left at
before_on given left now p at e (inl z) = inl z
before_on given left now p at e (inr x) = inr (end_then_more given left now p at e x.0)

none_or : (octets : List ℕ) (at : ℕ) → at ≡ 0 → at ≤ length octets
none_or octets at z = omega (arith, z)

pub cut_or_none : (octets : List ℕ) (given left : List (Result Piece Fault)) (at : ℕ) → AreItemsOf octets given → 0 < length left → LastEnd given left at
    → (at ≤ length octets) × ((at ≡ 0) ⊎ EndsEntryAt octets at)
cut_or_none octets given left at g some (inl z) = (none_or octets at z, inl z)
cut_or_none octets given left at g some (inr x) = let c = ended_cut octets given left at g x (omega (arith, some)) in (c.0, inr c.1)

pub cut_before : (octets : List ℕ) (given left : List (Result Piece Fault)) (at : ℕ) → AreItemsOf octets given → EndBefore given left at → (at ≤ length octets) × ((at ≡ 0) ⊎ EndsEntryAt octets at)
cut_before octets given left at g (inl z) = (none_or octets at z, inl z)
cut_before octets given left at g (inr x) = let c = ended_cut octets given left at g x.0 (omega (arith, x.1)) in (c.0, inr c.1)

pub before_end : (at n : ℕ) (b : Bool) → (IsTrue b ↔ (n ≤ at)) → b ≡ false → at < n
before_end at n b h e = elim (cases_lt at n) [
  | inl less ↦ less
  | inr most ↦ let t : IsTrue false = subst IsTrue e (h.1 most) in cc
]

-- what was yielded, up to the last entry's end and after it
pub record Parted (given left : List (Result Piece Fault)) (at : ℕ) : Type 0 where
  pub ended : List Piece
  pub last : List Piece
  pub is : given ≡ map Ok ended ++ (map Ok last ++ left)
  pub ends : EndsAt ended at
  pub none : has_end last ≡ false

pub none_parted : (given : List (Result Piece Fault)) → Parted given given 0
none_parted given = record { ended = []; last = []; is = refl; ends = inl (refl, refl); none = refl }

one_more : (last : List Piece) (p : Piece) → has_end last ≡ false → has_end (p ∷ []) ≡ false → has_end (last ++ p ∷ []) ≡ false
one_more [] p h k = k
one_more (WordAt x ∷ last) p h k = one_more last p h k
one_more (QuoteAt x ∷ last) p h k = one_more last p h k
one_more (CommentAt x ∷ last) p h k = one_more last p h k
one_more (EndAt x ∷ last) p h k = h

pub parted_on : (given left now : List (Result Piece Fault)) (p : Piece) (at : ℕ) → now ≡ Ok p ∷ left → has_end (p ∷ []) ≡ false → Parted given now at → Parted given left at
parted_on given left now p at e h x = record {
  ended = x.ended;
  last = x.last ++ p ∷ [];
  is = x.is ∙ ap (λ l. map Ok x.ended ++ (map Ok x.last ++ l)) e
      ∙ ap (λ l. map Ok x.ended ++ l) (sym (append_assoc (map Ok x.last) (Ok p ∷ []) left) ∙ ap (λ l. l ++ left) (sym (map-append Ok x.last (p ∷ []))));
  ends = x.ends;
  none = one_more x.last p x.none h;
}

pub parted_here : (given left now : List (Result Piece Fault)) (at there : ℕ) (blank : Bool) → now ≡ Ok (end_at there blank) ∷ left → Parted given now at → Parted given left there
parted_here given left now at there blank e x =
    let end : List Piece = end_at there blank ∷ [] in
    let first : List Piece = x.ended ++ x.last in
    record {
      ended = first ++ end;
      last = [];
      is = x.is ∙ ap (λ l. map Ok x.ended ++ (map Ok x.last ++ l)) e ∙ sym (append_assoc (map Ok x.ended) (map Ok x.last) (Ok (end_at there blank) ∷ left))
          ∙ ap (λ l. l ++ Ok (end_at there blank) ∷ left) (sym (map-append Ok x.ended x.last)) ∙ sym (append_assoc (map Ok first) (map Ok end) left)
          ∙ ap (λ l. l ++ left) (sym (map-append Ok first end));
      ends = inr (first, blank, refl);
      none = refl;
    }

pub parted_bad : (octets : List ℕ) (given left now : List (Result Piece Fault)) (f : Fault) (at : ℕ) → AreItemsOf octets given → now ≡ Err f ∷ left → Parted given now at → FaultAfter octets at
parted_bad octets given left now f at g e x =
    let passed : Passed given now = record {
      found = x.ended ++ x.last;
      is = x.is ∙ sym (append_assoc (map Ok x.ended) (map Ok x.last) now) ∙ ap (λ l. l ++ now) (sym (map-append Ok x.ended x.last));
    } in
    let here : AreItemsOf octets (map Ok (x.ended ++ x.last) ++ Err f ∷ []) = fault_passed octets given left now f g e passed in
    record {
      ended = x.ended;
      last = x.last;
      fault = f;
      given = subst (AreItemsOf octets) (ap (λ l. l ++ Err f ∷ []) (map-append Ok x.ended x.last) ∙ append_assoc (map Ok x.ended) (map Ok x.last) (Err f ∷ [])) here;
      ends = x.ends;
      none = x.none;
    }

pub ends_within : (octets : List ℕ) (at : ℕ) → FaultAfter octets at → at ≤ length octets
ends_within octets at f = go f.ends
  where
    go : EndsAt f.ended at → at ≤ length octets
    go (inl z) = omega (arith, z.1)
    go (inr k) =
        let tail : List (Result Piece Fault) = map Ok f.last ++ Err f.fault ∷ [] in
        let shape : map Ok f.ended ++ tail ≡ map Ok k.0 ++ Ok (end_at at k.1) ∷ tail =
        ap (λ l. map Ok l ++ tail) k.2 ∙ ap (λ l. l ++ tail) (map-append Ok k.0 (end_at at k.1 ∷ [])) ∙ append_assoc (map Ok k.0) (Ok (end_at at k.1) ∷ []) tail in
        (within_after (length octets) k.0 _ (subst (EachWithin (length octets)) shape f.given.1)).0

pub all_parted : (octets : List ℕ) (given now : List (Result Piece Fault)) (at : ℕ) → AreItemsOf octets given → now ≡ [] → Parted given now at
    → (found : List Piece) × AreItemsOf octets (map Ok found) × (length octets ≡ length octets)
all_parted octets given now at g e x = (
  x.ended ++ x.last,
  subst (AreItemsOf octets) (x.is ∙ ap (λ l. map Ok x.ended ++ (map Ok x.last ++ l)) e ∙ ap (λ l. map Ok x.ended ++ l) (append-nil (map Ok x.last)) ∙ sym (map-append Ok x.ended x.last)) g,
  refl,
)
