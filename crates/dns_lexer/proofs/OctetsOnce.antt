-- Reading octets has at most one result.
use Rattle.std.proofs.Common.{◌≡◌, ℕ, zero, suc, ◌+◌, ◌-◌, ◌<◌, ◌≤◌, true, cond, ◌==◌, nat_lt, List, [], ◌∷◌, ◌++◌, length, take, drop, refl, sym, ap, ◌∙◌, subst, arith, append_assoc, get_or, ◌^◌}
use Rattle.std.proofs.Common.{length-append, length-take-le, take_all, inl, inr}
use Rattle.std.specs.Prelude.{⊤, map, Result, Ok, Err, encode_utf8, encode_utf8_all}
use Rattle.std.specs.List.{AllByRecursion, flat_map}
use Rattle.dns_symbol.specs.Symbol.{bytes}
use lib.Utf8.{scalars, low_scalar}
use Rattle.std.proofs.lemmas.Bool.{ne_eqb, cond-false, cases_lt, and_parts, and_from, ltb-true, lt-ltb}
use Rattle.std.proofs.lemmas.Str.{length-encode, len_utf8_bounds}
use Rattle.dns_lexer.specs.declared.reader.Mode.TheVariants.{Outside}
use Rattle.dns_lexer.specs.declared.pieces.Piece.{Piece}
use Rattle.dns_lexer.specs.declared.pieces.Piece.TheVariants.{Word as WordAt, Quote as QuoteAt, Comment as CommentAt, End as EndAt}
use Rattle.dns_lexer.specs.declared.pieces.Fault.{Fault}
use Rattle.dns_lexer.specs.declared.pieces.Wrong.{Wrong}
use Rattle.dns_lexer.specs.declared.pieces.Wrong.TheVariants.{Closing as Late, OpenParenthesis, OpenQuote, LoneReturn, BadEscape}
use Rattle.dns_lexer.specs.Splitting.{Splits}
use Rattle.dns_lexer.specs.Viable.{IsViable}
use Rattle.dns_lexer.specs.Token.{IsQuote}
use Rattle.dns_lexer.specs.Pieces.{word_at, quote_at, comment_at, end_at, IsWithin, EachWithin, EndsQuote, IsWrong, IsSpelled, between, moved_piece, moved_wrong, moved_fault, moved, place_of}
use Rattle.dns_lexer.specs.Pieces.{ReadsOctets, AreItemsOf, AreOctets}
use Rattle.dns_lexer.specs.Run.{first_blank, run}
use Rattle.dns_lexer.proofs.PieceSplit.{split_pieces}
use Rattle.dns_lexer.proofs.PieceMoved.{reads_octets}
use Rattle.dns_lexer.proofs.PieceParts.{each_within}
use Rattle.dns_lexer.proofs.Entries.{pieces_spelled}
use Rattle.dns_lexer.proofs.SettledOnce.{read_once}

pub octet_scalars : (octets : List ℕ) → AreOctets octets → scalars octets ≡ true
octet_scalars [] h = refl
octet_scalars (x ∷ octets) h =
    let p = and_parts (nat_lt x 256) _ h in
    let small : x < 256 = ltb-true x 256 p.0 in
    and_from _ _ (low_scalar x (omega arith)) (octet_scalars octets p.1)

pub are_octets : (l : List ℕ) → ((i : ℕ) → get_or l i 0 < 2 ^ 8) → AreOctets l
are_octets [] h = refl
are_octets (x ∷ l) h = and_from _ _ (lt-ltb x 256 (omega (arith, h 0))) (are_octets l (λ i. h (suc i)))

-- a quoted string that is open begins before the error
picked : (text : List ℕ) (first last : List Piece) (p : Piece) → AllByRecursion (IsSpelled text) (map Ok (first ++ p ∷ last)) → IsSpelled text (Ok p)
picked text [] last p h = h.0
picked text (q ∷ first) last p h = picked text first last p h.1

abbrev tail_of : List ℕ → List ℕ
tail_of [] = []
tail_of (x ∷ xs) = xs

-- two double quotes are two octets
pub short : (n : ℕ) (l m : List ℕ) → n ≤ 1 → take n l ≡ 34 ∷ (m ++ 34 ∷ []) → ⊥
short zero l m h e = cc
short (suc n) [] m h e = cc
short (suc n) (x ∷ l) m h e = go n (omega arith) (ap tail_of e)
  where
    go : (n : ℕ) → n ≡ 0 → take n l ≡ m ++ 34 ∷ [] → ⊥
    go zero z k = absurd (omega (arith, ap length k, length-append m (34 ∷ [])))
    go (suc n) z k = absurd (omega (arith, z))

pub quote_before : (front : List ℕ) (i : ℕ) → IsViable (front ++ 34 ∷ []) → EndsQuote front i → i < length front
quote_before front i v q =
    let text : List ℕ = front ++ (34 ∷ v.tail) in
    let all = split_pieces text v.found (subst (λ l. Splits l v.found) (append_assoc front (34 ∷ []) v.tail) v.splits) in
    let e = q v.tail all.0 all.1 in
    let s : IsQuote (between text i (length front + 1)) =
    picked text e.0 e.1 (quote_at i (length front + 1)) (subst (λ l. AllByRecursion (IsSpelled text) (map Ok l)) e.2 (pieces_spelled text all.0 all.1)) in
    elim (cases_lt i (length front)) [
      | inl less ↦ less
      | inr most ↦ absurd (short (length front + 1 - i) (drop i text) (flat_map bytes s.symbols) (omega (arith, most)) s.spelled)
    ]

-- the number of octets before an offset of their text
abbrev unplaced : List ℕ → ℕ → ℕ
unplaced [] k = 0
unplaced (x ∷ l) k = cond (k == 0) 0 (unplaced l (k - length (encode_utf8 x)) + 1)

restored : (l : List ℕ) (i : ℕ) → i ≤ length l → unplaced l (place_of l i) ≡ i
restored [] i h = omega (arith, h)
restored (x ∷ l) zero h = refl
restored (x ∷ l) (suc i) h =
    let w : ℕ = length (encode_utf8 x) in
    let k : ℕ = place_of l i in
    let is : place_of (x ∷ l) (suc i) ≡ w + k = length-append (encode_utf8 x) (encode_utf8_all (take i l)) in
    let some : 1 ≤ w = omega (arith, length-encode x, (len_utf8_bounds x).0) in
    let left : w + k - w ≡ k = omega arith in
    ap (unplaced (x ∷ l)) is ∙ cond-false (w + k == 0) 0 (unplaced l (w + k - w) + 1) (ne_eqb (w + k) 0 (λ e. omega (arith, e, some)))
    ∙ ap (λ n. unplaced l n + 1) left ∙ ap (λ n. n + 1) (restored l i (omega (arith, h))) ∙ omega arith

-- so the items of octets are known by their offsets in their text
abbrev Round : List ℕ → Piece → Type 0
Round l p = moved_piece (unplaced l) (moved_piece (place_of l) p) ≡ p

piece_restored : (l : List ℕ) (p : Piece) → IsWithin (length l) (Ok p) → Round l p
piece_restored l (WordAt p) h = ap (λ i. word_at i (unplaced l (place_of l p.end))) (restored l p.start (omega (arith, h.0, h.1))) ∙ ap (word_at p.start) (restored l p.end h.1)
piece_restored l (QuoteAt p) h = ap (λ i. quote_at i (unplaced l (place_of l p.end))) (restored l p.start (omega (arith, h.0, h.1))) ∙ ap (quote_at p.start) (restored l p.end h.1)
piece_restored l (CommentAt p) h = ap (λ i. comment_at i (unplaced l (place_of l p.end))) (restored l p.start (omega (arith, h.0, h.1))) ∙ ap (comment_at p.start) (restored l p.end h.1)
piece_restored l (EndAt p) h = ap (λ i. end_at i p.begins_blank) (restored l p.at h)

abbrev pub WrongWithin : ℕ → Wrong → Type 0
WrongWithin n (OpenQuote i) = i ≤ n
WrongWithin n _ = ⊤

wrong_restored : (l : List ℕ) (w : Wrong) → WrongWithin (length l) w → moved_wrong (unplaced l) (moved_wrong (place_of l) w) ≡ w
wrong_restored l (OpenQuote i) h = ap OpenQuote (restored l i h)
wrong_restored l Late h = refl
wrong_restored l OpenParenthesis h = refl
wrong_restored l LoneReturn h = refl
wrong_restored l BadEscape h = refl

abbrev fault_at : ℕ → Wrong → Fault
fault_at i w = record { at = i; wrong = w }

fault_restored : (l : List ℕ) (f : Fault) → f.at ≤ length l → WrongWithin (length l) f.wrong → moved_fault (unplaced l) (moved_fault (place_of l) f) ≡ f
fault_restored l f h k = ap (λ i. fault_at i (moved_wrong (unplaced l) (moved_wrong (place_of l) f.wrong))) (restored l f.at h) ∙ ap (fault_at f.at) (wrong_restored l f.wrong k)

abbrev EachWrong : ℕ → List (Result Piece Fault) → Type 0
EachWrong n [] = ⊤
EachWrong n (Ok p ∷ given) = EachWrong n given
EachWrong n (Err f ∷ given) = WrongWithin n f.wrong × EachWrong n given

all_restored : (l : List ℕ) (given : List (Result Piece Fault)) → EachWithin (length l) given → EachWrong (length l) given → map (moved (unplaced l)) (map (moved (place_of l)) given) ≡ given
all_restored l [] h k = refl
all_restored l (Ok p ∷ given) h k =
    ap (λ q. Ok q ∷ map (moved (unplaced l)) (map (moved (place_of l)) given)) (piece_restored l p h.0) ∙ ap (λ g. Ok p ∷ g) (all_restored l given h.1 k)
all_restored l (Err f ∷ given) h k =
    ap (λ e. Err e ∷ map (moved (unplaced l)) (map (moved (place_of l)) given)) (fault_restored l f h.0 k.0) ∙ ap (λ g. Err f ∷ g) (all_restored l given h.1 k.1)

-- a quoted string that is open begins among the octets
pub wrong_within : (l front rest : List ℕ) (w : Wrong) → length front ≤ length (encode_utf8_all l) → IsWrong front rest (moved_wrong (place_of l) w) → WrongWithin (length l) w
wrong_within l front rest Late h k = tt
wrong_within l front rest OpenParenthesis h k = tt
wrong_within l front rest LoneReturn h k = tt
wrong_within l front rest BadEscape h k = tt
wrong_within l front rest (OpenQuote i) h k = elim (cases_lt (length l) i) [
  | inl beyond ↦
      let all : place_of l i ≡ length (encode_utf8_all l) = ap (λ t. length (encode_utf8_all t)) (take_all i l (omega (arith, beyond))) in
      absurd (omega (arith, all, h, quote_before front (place_of l i) k.0 k.1))
  | inr within ↦ within
]

abbrev rest_of : List (Result Piece Fault) → List (Result Piece Fault)
rest_of [] = []
rest_of (x ∷ xs) = xs

abbrev fault_of : Fault → List (Result Piece Fault) → Fault
fault_of f (Err e ∷ given) = e
fault_of f _ = f

oks_wrong : (g : ℕ → ℕ) (n : ℕ) (given : List (Result Piece Fault)) (found : List Piece) → map (moved g) given ≡ map Ok found → EachWrong n given
oks_wrong g n [] found e = tt
oks_wrong g n (Ok p ∷ given) [] e = cc
oks_wrong g n (Ok p ∷ given) (q ∷ found) e = oks_wrong g n given found (ap rest_of e)
oks_wrong g n (Err f ∷ given) [] e = cc
oks_wrong g n (Err f ∷ given) (q ∷ found) e = cc

last_wrong : (g : ℕ → ℕ) (n : ℕ) (given : List (Result Piece Fault)) (found : List Piece) (f : Fault) → map (moved g) given ≡ map Ok found ++ Err f ∷ []
    → ((w : Wrong) → moved_wrong g w ≡ f.wrong → WrongWithin n w) → EachWrong n given
last_wrong g n [] found f e h = tt
last_wrong g n (Ok p ∷ given) [] f e h = cc
last_wrong g n (Ok p ∷ given) (q ∷ found) f e h = last_wrong g n given found f (ap rest_of e) h
last_wrong g n (Err k ∷ given) [] f e h = (h k.wrong (ap (λ (x : Fault). x.wrong) (ap (fault_of f) e)), oks_wrong g n given [] (ap rest_of e))
last_wrong g n (Err k ∷ given) (q ∷ found) f e h = cc

each_wrong : (octets : List ℕ) (given : List (Result Piece Fault)) → ReadsOctets octets given → EachWrong (length octets) given
each_wrong octets given (inl w) = oks_wrong (place_of octets) (length octets) given w.found w.is
each_wrong octets given (inr f) =
    let text : List ℕ = encode_utf8_all octets in
    let at : ℕ = f.fault.at in
    let short : length (take at text) ≤ length text = omega (arith, length-take-le at text f.is_fault.bad.at.within, f.is_fault.bad.at.within) in
    last_wrong (place_of octets) (length octets) given f.found f.fault f.is
    (λ w same. wrong_within octets (take at text) (drop at text) w short (subst (IsWrong (take at text) (drop at text)) (sym same) f.is_fault.wrong))

pub given_once : (octets : List ℕ) (given other : List (Result Piece Fault)) → AreItemsOf octets given → AreItemsOf octets other → given ≡ other
given_once octets given other g h =
    sym (all_restored octets given g.1 (each_wrong octets given g.0))
    ∙ ap (map (moved (unplaced octets))) (read_once (encode_utf8_all octets) (map (moved (place_of octets)) given) (map (moved (place_of octets)) other) g.0 h.0)
    ∙ all_restored octets other h.1 (each_wrong octets other h.0)

-- what the machine yields are the items
pub run_given : (octets : List ℕ) → AreOctets octets → AreItemsOf octets (run Outside 0 0 0 (first_blank octets) octets)
run_given octets h = (reads_octets octets (octet_scalars octets h), each_within octets (first_blank octets))

pub given_run : (octets : List ℕ) (given : List (Result Piece Fault)) → AreOctets octets → AreItemsOf octets given → given ≡ run Outside 0 0 0 (first_blank octets) octets
given_run octets given h g = given_once octets given (run Outside 0 0 0 (first_blank octets) octets) g (run_given octets h)
