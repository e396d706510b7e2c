-- The items of the iterator over octets: pieces, or an error after some.
use Rattle.std.proofs.Common.{◌≡◌, ℕ, ◌≤◌, List, [], ◌∷◌, ◌++◌, length, refl, sym, ap, ◌∙◌, subst, inl, inr}
use Rattle.std.specs.Prelude.{Option, Some, None, option_map, map, Result, Ok, Err, encode_utf8_all}
use Rattle.dns_lexer.specs.declared.pieces.Piece.{Piece}
use Rattle.dns_lexer.specs.declared.pieces.Fault.{Fault}
use Rattle.dns_lexer.specs.Pieces.{AreItemsOf, Reads, ReadsOctets, IsFault, IsPieces, IsOctetPieces, EachWithin, moved, moved_piece, moved_fault, place_of}

abbrev pub first_fault : List (Result Piece Fault) → Option Fault
first_fault [] = None
first_fault (Ok p ∷ given) = first_fault given
first_fault (Err f ∷ given) = Some f

abbrev pub pieces_in : List (Result Piece Fault) → List Piece
pieces_in [] = []
pieces_in (Ok p ∷ given) = p ∷ pieces_in given
pieces_in (Err f ∷ given) = pieces_in given

pub pieces_after : (xs : List Piece) (given : List (Result Piece Fault)) → pieces_in (map Ok xs ++ given) ≡ xs ++ pieces_in given
pieces_after [] given = refl
pieces_after (x ∷ xs) given = ap (λ l. x ∷ l) (pieces_after xs given)

pub moved_first : (g : ℕ → ℕ) (given : List (Result Piece Fault)) → first_fault (map (moved g) given) ≡ option_map (moved_fault g) (first_fault given)
moved_first g [] = refl
moved_first g (Ok p ∷ given) = moved_first g given
moved_first g (Err f ∷ given) = refl

pub first_of_oks : (found : List Piece) → first_fault (map Ok found) ≡ None
first_of_oks [] = refl
first_of_oks (p ∷ found) = first_of_oks found

first_of_bad : (found : List Piece) (f : Fault) → first_fault (map Ok found ++ Err f ∷ []) ≡ Some f
first_of_bad [] f = refl
first_of_bad (p ∷ found) f = first_of_bad found f

pub all_ok : (given : List (Result Piece Fault)) → first_fault given ≡ None → given ≡ map Ok (pieces_in given)
all_ok [] h = refl
all_ok (Ok p ∷ given) h = ap (λ l. Ok p ∷ l) (all_ok given h)
all_ok (Err f ∷ given) h = cc

pub moved_oks : (g : ℕ → ℕ) (found : List Piece) → map (moved g) (map Ok found) ≡ map Ok (map (moved_piece g) found)
moved_oks g [] = refl
moved_oks g (p ∷ found) = ap (λ l. Ok (moved_piece g p) ∷ l) (moved_oks g found)

pub pieces_of_oks : (found : List Piece) → pieces_in (map Ok found) ≡ found
pieces_of_oks [] = refl
pieces_of_oks (p ∷ found) = ap (λ l. p ∷ l) (pieces_of_oks found)

-- a text without an error has the items as its pieces
reads_whole : (text : List ℕ) (given : List (Result Piece Fault)) → Reads text given → first_fault given ≡ None → IsPieces text (pieces_in given)
reads_whole text given (inl w) h = subst (IsPieces text) (sym (ap pieces_in w.is ∙ pieces_of_oks w.found)) w.placed
reads_whole text given (inr f) h = let no : None ≡ Some f.fault = sym h ∙ ap first_fault f.is ∙ first_of_bad f.found f.fault in cc

reads_fault : (text : List ℕ) (given : List (Result Piece Fault)) (e : Fault) → Reads text given → first_fault given ≡ Some e → IsFault text e
reads_fault text given e (inl w) h = let no : None ≡ Some e = sym (ap first_fault w.is ∙ first_of_oks w.found) ∙ h in cc
reads_fault text given e (inr f) h = let same : f.fault ≡ e = some_same (sym (ap first_fault f.is ∙ first_of_bad f.found f.fault) ∙ h) in subst (IsFault text) same f.is_fault
  where
    some_same : {a b : Fault} → Some a ≡ Some b → a ≡ b
    some_same e = cc

pub whole_of : (octets : List ℕ) (given : List (Result Piece Fault)) → ReadsOctets octets given → first_fault given ≡ None → IsOctetPieces octets (pieces_in given)
whole_of octets given r h =
    let g = place_of octets in
    let none : first_fault (map (moved g) given) ≡ None = moved_first g given ∙ ap (option_map (moved_fault g)) h in
    let same : pieces_in (map (moved g) given) ≡ map (moved_piece g) (pieces_in given) =
    ap (λ l. pieces_in (map (moved g) l)) (all_ok given h) ∙ ap pieces_in (moved_oks g (pieces_in given)) ∙ pieces_of_oks (map (moved_piece g) (pieces_in given)) in
    subst (IsPieces (encode_utf8_all octets)) same (reads_whole (encode_utf8_all octets) (map (moved g) given) r none)

fault_within : (n : ℕ) (given : List (Result Piece Fault)) (f : Fault) → EachWithin n given → first_fault given ≡ Some f → f.at ≤ n
fault_within n [] f w h = cc
fault_within n (Ok p ∷ given) f w h = fault_within n given f w.1 h
fault_within n (Err e ∷ given) f w h = let same : e ≡ f = cc in subst (λ (x : Fault). x.at ≤ n) same w.0

pub fault_of : (octets : List ℕ) (given : List (Result Piece Fault)) (f : Fault) → ReadsOctets octets given → EachWithin (length octets) given → first_fault given ≡ Some f → (f.at ≤ length octets) × IsFault (encode_utf8_all octets) (moved_fault (place_of octets) f)
fault_of octets given f r w h = (
  fault_within (length octets) given f w h,
  reads_fault (encode_utf8_all octets) (map (moved (place_of octets)) given) _ r (moved_first (place_of octets) given ∙ ap (option_map (moved_fault (place_of octets))) h),
)

-- nothing follows an error
none_moved : (g : ℕ → ℕ) (more : List (Result Piece Fault)) → map (moved g) more ≡ [] → more ≡ []
none_moved g [] h = refl
none_moved g (x ∷ more) h = cc

last_fault : (g : ℕ → ℕ) (xs ys : List Piece) (f e : Fault) (more : List (Result Piece Fault)) → map (moved g) (map Ok xs ++ Err f ∷ more) ≡ map Ok ys ++ Err e ∷ [] → more ≡ []
last_fault g [] [] f e more h = none_moved g more cc
last_fault g [] (y ∷ ys) f e more h = cc
last_fault g (x ∷ xs) [] f e more h = cc
last_fault g (x ∷ xs) (y ∷ ys) f e more h = let rest : map (moved g) (map Ok xs ++ Err f ∷ more) ≡ map Ok ys ++ Err e ∷ [] = cc in last_fault g xs ys f e more rest

oks_no_fault : (g : ℕ → ℕ) (xs ys : List Piece) (f : Fault) (more : List (Result Piece Fault)) → map (moved g) (map Ok xs ++ Err f ∷ more) ≡ map Ok ys → ⊥
oks_no_fault g [] [] f more h = cc
oks_no_fault g [] (y ∷ ys) f more h = cc
oks_no_fault g (x ∷ xs) [] f more h = cc
oks_no_fault g (x ∷ xs) (y ∷ ys) f more h = let rest : map (moved g) (map Ok xs ++ Err f ∷ more) ≡ map Ok ys = cc in oks_no_fault g xs ys f more rest

pub fault_last : (octets : List ℕ) (found : List Piece) (f : Fault) (more : List (Result Piece Fault)) → AreItemsOf octets (map Ok found ++ Err f ∷ more) → more ≡ []
fault_last octets found f more i = go i.0
  where
    go : Reads (encode_utf8_all octets) (map (moved (place_of octets)) (map Ok found ++ Err f ∷ more)) → more ≡ []
    go (inl w) = absurd (oks_no_fault (place_of octets) found w.found f more w.is)
    go (inr b) = last_fault (place_of octets) found b.found f b.fault more b.is
