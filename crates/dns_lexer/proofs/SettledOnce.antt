-- A text that is bad has one list of settled pieces.
use Rattle.std.proofs.Common.{◌≡◌, ℕ, ◌+◌, Bool, List, [], ◌∷◌, ◌++◌, length, take, sym, ap, ◌∙◌, subst, arith, append-nil, length-append, inl, inr, ◌⊎◌}
use Rattle.std.specs.Prelude.{map, Result, Ok, Err}
use Rattle.dns_lexer.specs.declared.pieces.Piece.{Piece}
use Rattle.dns_lexer.specs.declared.pieces.Fault.{Fault}
use Rattle.dns_lexer.specs.declared.pieces.Wrong.{Wrong}
use Rattle.dns_lexer.specs.declared.pieces.Wrong.TheVariants.{LoneReturn}
use Rattle.dns_lexer.specs.Pieces.{end_at, EachWithin, Begins, Settles, Faulty, Whole, Reads, tokens_by_entry}
use Rattle.dns_lexer.proofs.PieceSplit.{pieces_split, pieces_one_way}
use Rattle.dns_lexer.proofs.OneCause.{one_fault}
use Rattle.dns_lexer.proofs.PieceSettled.{Ended}

-- an end beyond isn't within
none_beyond : (n : ℕ) (found all : List Piece) → Ended all found n → EachWithin n (map Ok all) → ⊥
none_beyond n found all e h = go found (subst (λ l. EachWithin n (map Ok l)) e.1 h)
  where
    go : (found : List Piece) → EachWithin n (map Ok (found ++ end_at (n + 1) e.0 ∷ [])) → ⊥
    go [] h = absurd (omega (arith, h.0))
    go (p ∷ found) h = go found h.1

begins_settled : (front : List ℕ) (v w : Wrong) (found other : List Piece) → Settles front v found → Settles front w other → Begins other found
begins_settled front v w found other s t = go (s.longest other t.first)
  where
    go : Begins other found ⊎ ((v ≡ LoneReturn) × (b : Bool) × (other ≡ found ++ end_at (length front + 1) b ∷ [])) → Begins other found
    go (inl b) = b
    go (inr b) = elim (none_beyond (length front) found other (b.1, b.2) t.ended) [ ]

both_begin : (found other : List Piece) → Begins found other → Begins other found → found ≡ other
both_begin found other b c = go c.0 c.1 (omega (arith, ap length b.1, ap length c.1, length-append found b.0, length-append other c.0))
  where
    go : (more : List Piece) → found ≡ other ++ more → length more ≡ 0 → found ≡ other
    go [] e h = e ∙ append-nil other
    go (p ∷ more) e h = absurd (omega arith)

pub settled_once : (front : List ℕ) (v w : Wrong) (found other : List Piece) → Settles front v found → Settles front w other → found ≡ other
settled_once front v w found other s t = both_begin found other (begins_settled front w v other found t s) (begins_settled front v w found other s t)

pub faults_once : (text : List ℕ) (given other : List (Result Piece Fault)) (f : Faulty text given) (g : Faulty text other) → (f.found ≡ g.found) × (f.fault ≡ g.fault)
faults_once text given other f g =
    let same : f.fault ≡ g.fault = one_fault text f.fault g.fault f.is_fault g.is_fault in
    let place : f.fault.at ≡ g.fault.at = ap (λ (x : Fault). x.at) same in
    (settled_once (take g.fault.at text) f.fault.wrong g.fault.wrong f.found g.found (subst (λ i. Settles (take i text) f.fault.wrong f.found) place f.settled) g.settled, same)

pieces_or_fault : (text : List ℕ) (given other : List (Result Piece Fault)) → Whole text given → Faulty text other → ⊥
pieces_or_fault text given other w f = f.is_fault.bad.splits_not (tokens_by_entry text w.found) (pieces_split text w.found w.placed)

-- a text is read in one way
pub read_once : (text : List ℕ) (given other : List (Result Piece Fault)) → Reads text given → Reads text other → given ≡ other
read_once text given other (inl w) (inl v) = w.is ∙ ap (map Ok) (pieces_one_way text w.found v.found w.placed v.placed) ∙ sym v.is
read_once text given other (inl w) (inr f) = absurd (pieces_or_fault text given other w f)
read_once text given other (inr f) (inl w) = absurd (pieces_or_fault text other given w f)
read_once text given other (inr f) (inr g) =
    let same = faults_once text given other f g in
    f.is ∙ ap (λ l. map Ok l ++ Err f.fault ∷ []) same.0 ∙ ap (λ e. map Ok g.found ++ Err e ∷ []) same.1 ∙ sym g.is
