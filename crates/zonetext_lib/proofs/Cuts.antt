-- Octets that follow the end of an entry.
use Rattle.std.proofs.Common.{◌≡◌, ℕ, ◌+◌, ◌<◌, ◌≤◌, Bool, false, List, [], ◌∷◌, ◌++◌, length, take, drop, refl, sym, ap, ◌∙◌, subst, arith, inl, inr}
use Rattle.std.proofs.Common.{append-nil, append_assoc, length-append, length-take-le, take_all}
use Rattle.std.specs.Prelude.{◌⊎◌, option_map, map, Result, Ok, Err}
use Rattle.std.proofs.lemmas.List.{take-append-drop, map-append}
use Rattle.dns_lexer.specs.declared.pieces.Piece.{Piece}
use Rattle.dns_lexer.specs.declared.pieces.Fault.{Fault}
use Rattle.dns_lexer.specs.Pieces.{AreOctets, AreItemsOf, end_at, later, moved_piece, moved_fault}
use Rattle.dns_lexer.proofs.Blocks.{both_octets, entries_stay, faults_stay, nothing_given}
use Rattle.dns_lexer.proofs.OctetsOnce.{run_given}
use Rattle.zonetext_lib.specs.Blocks.{EndsEntry, EndsEntryAt}
use Rattle.zonetext_lib.specs.Found.{IsZone, IsOctetFault}
use Rattle.zone_format.proofs.Givens.{first_fault, first_of_oks, moved_first, moved_oks, pieces_in, whole_of}
use Rattle.zonetext_lib.proofs.Givens.{fault_of}
use Rattle.std.proofs.lemmas.Bool.{and_parts, and_from}
use Rattle.std.specs.Prelude.{nat_lt}

pub front_octets : (xs ys : List ℕ) → AreOctets (xs ++ ys) → AreOctets xs
front_octets [] ys h = refl
front_octets (x ∷ xs) ys h = let p = and_parts (nat_lt x 256) _ h in and_from _ _ p.0 (front_octets xs ys p.1)

pub take_octets : (n : ℕ) (xs : List ℕ) → AreOctets xs → AreOctets (take n xs)
take_octets n xs h = front_octets (take n xs) (drop n xs) (subst AreOctets (sym (take-append-drop n xs)) h)

-- no octets are an entry without any
pub none_given : AreItemsOf [] (Ok (end_at 0 false) ∷ [])
none_given = run_given [] refl

-- the octets up to a cut are of the grammar, and the last entry has none
pub cut_given : (octets : List ℕ) (found : List Piece) (at : ℕ) (blank : Bool) (more : List (Result Piece Fault)) → AreOctets octets
    → AreItemsOf octets (map Ok found ++ Ok (end_at at blank) ∷ more) → 0 < length more → AreItemsOf (take at octets) (map Ok found ++ Ok (end_at at blank) ∷ Ok (end_at at false) ∷ [])
cut_given octets found at blank more o g some =
    let stay = entries_stay octets [] found at blank more (Ok (end_at 0 false) ∷ []) o refl g some none_given in
    let here : at + 0 ≡ at = omega arith in
    subst (λ l. AreItemsOf l (map Ok found ++ Ok (end_at at blank) ∷ Ok (end_at at false) ∷ [])) (append-nil (take at octets))
    (subst (λ n. AreItemsOf (take at octets ++ []) (map Ok found ++ Ok (end_at at blank) ∷ Ok (end_at n false) ∷ [])) here stay)

-- no pieces, or the last is an entry's end
abbrev pub EndedFront : List Piece → Type 0
EndedFront front = (front ≡ []) ⊎ ((first : List Piece) × (at : ℕ) × (blank : Bool) × (front ≡ first ++ end_at at blank ∷ []))

-- what follows the end of an entry is read by itself
pub record ReadOn (before octets : List ℕ) (alone : List (Result Piece Fault)) : Type 0 where
  pub front : List Piece
  pub own : AreItemsOf before (map Ok front ++ Ok (end_at (length before) false) ∷ [])
  pub ended : EndedFront front
  pub is : AreItemsOf (before ++ octets) (map Ok front ++ later (length before) alone)

pub read_on : (before octets : List ℕ) (alone : List (Result Piece Fault)) → AreOctets before → AreOctets octets → EndsEntry before → AreItemsOf octets alone → ReadOn before octets alone
read_on before octets alone b o (inl none) g =
    record {
      front = [];
      own = subst (λ l. AreItemsOf l (Ok (end_at (length l) false) ∷ [])) (sym none) none_given;
      ended = inl refl;
      is = subst (λ l. AreItemsOf (l ++ octets) (later (length l) alone)) (sym none) (nothing_given octets alone o g);
    }
read_on before octets alone b o (inr e) g =
    let found : List Piece = e.0 in
    let blank : Bool = e.1 in
    let stay = entries_stay before octets found (length before) blank (Ok (end_at (length before) false) ∷ []) alone b o e.2 (omega arith) g in
    let all : take (length before) before ≡ before = take_all (length before) before (omega arith) in
    record {
      front = found ++ end_at (length before) blank ∷ [];
      own = subst (AreItemsOf before)
          (sym (append_assoc (map Ok found) (Ok (end_at (length before) blank) ∷ []) (Ok (end_at (length before) false) ∷ []))
          ∙ ap (λ l. l ++ Ok (end_at (length before) false) ∷ []) (sym (map-append Ok found (end_at (length before) blank ∷ [])))) e.2;
      ended = inr (found, length before, blank, refl);
      is = subst (λ l. AreItemsOf (before ++ octets) l)
          (sym (append_assoc (map Ok found) (Ok (end_at (length before) blank) ∷ []) (later (length before) alone))
          ∙ ap (λ l. l ++ later (length before) alone) (sym (map-append Ok found (end_at (length before) blank ∷ []))))
          (subst (λ l. AreItemsOf (l ++ octets) (map Ok found ++ Ok (end_at (length before) blank) ∷ later (length before) alone)) all stay);
    }

-- one more entry ends
pub ended_on : (before octets : List ℕ) (at : ℕ) → AreOctets before → AreOctets octets → EndsEntry before → at ≤ length octets → EndsEntryAt octets at → EndsEntry (before ++ take at octets)
ended_on before octets at b o e within c =
    let found : List Piece = c.0 in
    let blank : Bool = c.1 in
    let x : List ℕ = take at octets in
    let n : ℕ = length before in
    let r = read_on before x _ b (take_octets at octets o) e (cut_given octets found at blank c.2 o c.3 c.4) in
    let here : n + at ≡ length (before ++ x) = omega (arith, length-append before x, length-take-le at octets within) in
    let ends : List (Result Piece Fault) = Ok (end_at (n + at) blank) ∷ Ok (end_at (n + at) false) ∷ [] in
    let shape : map Ok r.front ++ later n (map Ok found ++ Ok (end_at at blank) ∷ Ok (end_at at false) ∷ []) ≡ map Ok (r.front ++ map (moved_piece (λ i. n + i)) found) ++ ends =
    ap (λ l. map Ok r.front ++ l) (map-append _ (map Ok found) (Ok (end_at at blank) ∷ Ok (end_at at false) ∷ []) ∙ ap (λ l. l ++ ends) (moved_oks (λ i. n + i) found))
    ∙ sym (append_assoc (map Ok r.front) (map Ok (map (moved_piece (λ i. n + i)) found)) ends)
    ∙ ap (λ l. l ++ ends) (sym (map-append Ok r.front (map (moved_piece (λ i. n + i)) found))) in
    inr (
      r.front ++ map (moved_piece (λ i. n + i)) found,
      blank,
      subst (λ k. AreItemsOf (before ++ x) (map Ok (r.front ++ map (moved_piece (λ i. n + i)) found) ++ Ok (end_at k blank) ∷ Ok (end_at k false) ∷ [])) here (subst (AreItemsOf (before ++ x)) shape r.is),
    )

pub fault_after : (xs : List Piece) (given : List (Result Piece Fault)) → first_fault (map Ok xs ++ given) ≡ first_fault given
fault_after [] given = refl
fault_after (x ∷ xs) given = fault_after xs given

pub first_on : (before octets : List ℕ) (alone : List (Result Piece Fault)) (r : ReadOn before octets alone)
    → first_fault (map Ok r.front ++ later (length before) alone) ≡ option_map (moved_fault (λ i. length before + i)) (first_fault alone)
first_on before octets alone r = fault_after r.front (later (length before) alone) ∙ moved_first (λ i. length before + i) alone

-- octets of the grammar that follow
pub zone_on : (before octets : List ℕ) (found : List Piece) → AreOctets before → AreOctets octets → EndsEntry before → AreItemsOf octets (map Ok found) → IsZone (before ++ octets)
zone_on before octets found b o e g =
    let r = read_on before octets (map Ok found) b o e g in
    let none = first_on before octets (map Ok found) r ∙ ap (option_map (moved_fault (λ i. length before + i))) (first_of_oks found) in
    (pieces_in (map Ok r.front ++ later (length before) (map Ok found)), whole_of (before ++ octets) _ r.is.0 none)

-- an error that follows
pub fault_on : (before octets : List ℕ) (found : List Piece) (f : Fault) → AreOctets before → AreOctets octets → EndsEntry before → AreItemsOf octets (map Ok found ++ Err f ∷ [])
    → IsOctetFault (before ++ octets) (moved_fault (λ i. length before + i) f)
fault_on before octets found f b o e g =
    let r = read_on before octets (map Ok found ++ Err f ∷ []) b o e g in
    let some = first_on before octets (map Ok found ++ Err f ∷ []) r ∙ ap (option_map (moved_fault (λ i. length before + i))) (fault_after found (Err f ∷ [])) in
    fault_of (before ++ octets) _ _ r.is.0 r.is.1 some

-- and that no more octets mend
pub fault_stays_on : (before octets more : List ℕ) (found : List Piece) (f : Fault) → AreOctets before → AreOctets octets → AreOctets more → EndsEntry before
    → AreItemsOf octets (map Ok found ++ Err f ∷ []) → f.at < length octets → IsOctetFault (before ++ (octets ++ more)) (moved_fault (λ i. length before + i) f)
fault_stays_on before octets more found f b o m e g less = fault_on before (octets ++ more) found f b (both_octets octets more o m) e (faults_stay octets more found f o m g less)

-- the error of octets alone
pub fault_alone : (octets : List ℕ) (found : List Piece) (f : Fault) → AreItemsOf octets (map Ok found ++ Err f ∷ []) → IsOctetFault octets f
fault_alone octets found f g = fault_of octets _ f g.0 g.1 (fault_after found (Err f ∷ []))
