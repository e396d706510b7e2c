-- Rows and lines of octets that follow the end of an entry.
use Rattle.std.proofs.Common.{◌≡◌, ℕ, ◌+◌, ◌-◌, ◌<◌, ◌≤◌, Bool, true, false, List, [], ◌∷◌, ◌++◌, length, take, drop, refl, sym, ap, ◌∙◌, arith, inl, inr}
use Rattle.std.proofs.Common.{append-nil, append_assoc, length-drop}
use Rattle.std.specs.Prelude.{◌||◌, ◌&&◌, not, map, Option, Some, None, option_map, Result, Ok, Err, codes}
use Rattle.std.proofs.lemmas.Bool.{cases_eq, eq-eqb, ne_eqb}
use Rattle.std.proofs.lemmas.List.{take-append-le, drop-append-le}
use Rattle.std.proofs.Math.Seq.{take-append-add, drop-append-add}
use Rattle.dns_lexer.specs.declared.pieces.Piece.{Piece}
use Rattle.dns_lexer.specs.declared.pieces.Piece.TheVariants.{Word as WordAt, Quote as QuoteAt, Comment as CommentAt, End as EndAt}
use Rattle.dns_lexer.specs.declared.pieces.Fault.{Fault}
use Rattle.dns_lexer.specs.Pieces.{AreOctets, EachWithin, between, end_at, later, moved_piece}
use Rattle.dns_lexer.proofs.OctetsOnce.{given_once}
use Rattle.zonetext_lib.specs.declared.layout.Gap.{Gap}
use Rattle.zonetext_lib.specs.declared.tokens.Form.{Form}
use Rattle.zonetext_lib.specs.Blocks.{EndsEntry}
use Rattle.zonetext_lib.specs.Entries.{ComparedPart, Token, Ends, begins_glued, parts, parts_after}
use Rattle.zonetext_lib.specs.Layout.{feed_before, gap_if, laid_out, leads}
use Rattle.zone_format.specs.Place.{column_of, feeds}
use Rattle.zonetext_lib.specs.Tokens.{Appended, token_row, row_at, rows_after}
use Rattle.zonetext_lib.proofs.Parts.{parts_append, rows_append, rows_ended}
use Rattle.zonetext_lib.proofs.Cuts.{EndedFront, read_on}
use Rattle.zonetext_lib.proofs.Feeds.{EndsFeed, column_after, ends_feed, feeds_after}

-- between places of octets that come first, and of octets that follow
pub between_front : (before x : List ℕ) (s e : ℕ) → s ≤ e → e ≤ length before → between (before ++ x) s e ≡ between before s e
between_front before x s e h k =
    ap (take (e - s)) (drop-append-le s before x (omega arith)) ∙ take-append-le (e - s) (drop s before) x (omega (arith, length-drop s before))

pub between_back : (before x : List ℕ) (s e : ℕ) → between (before ++ x) (length before + s) (length before + e) ≡ between x s e
between_back before x s e =
    let n : length before + e - (length before + s) ≡ e - s = omega arith in
    ap (λ l. take (length before + e - (length before + s)) l) (drop-append-add before x s) ∙ ap (λ m. take m (drop s x)) n

-- glue is seen from places alone
glued_back : (n : ℕ) (ended : Option ℕ) (s : ℕ) → begins_glued (option_map (λ i. n + i) ended) (n + s) ≡ begins_glued ended s
glued_back n None s = refl
glued_back n (Some e) s = elim (cases_eq e s) [
  | inl is ↦ eq-eqb (n + e) (n + s) (ap (λ i. n + i) is) ∙ sym (eq-eqb e s is)
  | inr other ↦ ne_eqb (n + e) (n + s) (λ k. other (omega (arith, k))) ∙ sym (ne_eqb e s other)
]

-- their rows
row_front : (before x : List ℕ) (form : Form) (kind : List ℕ) (g : Bool) (s e : ℕ) → s ≤ e → e ≤ length before → row_at (before ++ x) 0 form kind g s e ≡ row_at before 0 form kind g s e
row_front before x form kind g s e h k =
    let t : take s (before ++ x) ≡ take s before = take-append-le s before x (omega arith) in
    ap (λ l. token_row form (0 + feeds l + 1) (column_of l) kind g (between (before ++ x) s e)) t
    ∙ ap (token_row form (0 + feeds (take s before) + 1) (column_of (take s before)) kind g) (between_front before x s e h k)

row_back : (before x : List ℕ) (form : Form) (kind : List ℕ) (ended : Option ℕ) (s e : ℕ) → EndsFeed before
    → row_at (before ++ x) 0 form kind (begins_glued (option_map (λ i. length before + i) ended) (length before + s)) (length before + s) (length before + e)
    ≡ row_at x (feeds before) form kind (begins_glued ended s) s e
row_back before x form kind ended s e f =
    let n : ℕ = length before in
    let g : Bool = begins_glued ended s in
    let l : List ℕ = take (n + s) (before ++ x) in
    let t : l ≡ before ++ take s x = take-append-add before x s in
    let line : 0 + feeds l + 1 ≡ feeds before + feeds (take s x) + 1 = omega (arith, ap feeds t, feeds_after before (take s x)) in
    let column : column_of l ≡ column_of (take s x) = ap column_of t ∙ column_after before (take s x) f in
    ap (λ b. token_row form (0 + feeds l + 1) (column_of l) kind b (between (before ++ x) (n + s) (n + e))) (glued_back n ended s)
    ∙ ap (λ i. token_row form i (column_of l) kind g (between (before ++ x) (n + s) (n + e))) line
    ∙ ap (λ c. token_row form (feeds before + feeds (take s x) + 1) c kind g (between (before ++ x) (n + s) (n + e))) column
    ∙ ap (token_row form (feeds before + feeds (take s x) + 1) (column_of (take s x)) kind g) (between_back before x s e)

pub rows_front : (before x : List ℕ) (form : Form) (ended : Option ℕ) (front : List Piece) (more : List (Result Piece Fault)) → EachWithin (length before) (map Ok front ++ more)
    → rows_after (before ++ x) 0 form ended (map Ok front) ≡ rows_after before 0 form ended (map Ok front)
rows_front before x form ended [] more w = refl
rows_front before x form ended (WordAt p ∷ front) more w =
    let g : Bool = begins_glued ended p.start in
    ap (λ l. l ++ rows_after (before ++ x) 0 form (Some p.end) (map Ok front)) (row_front before x form (codes "word") g p.start p.end w.0.0 w.0.1)
    ∙ ap (λ l. row_at before 0 form (codes "word") g p.start p.end ++ l) (rows_front before x form (Some p.end) front more w.1)
rows_front before x form ended (QuoteAt p ∷ front) more w =
    let g : Bool = begins_glued ended p.start in
    ap (λ l. l ++ rows_after (before ++ x) 0 form (Some p.end) (map Ok front)) (row_front before x form (codes "quoted") g p.start p.end w.0.0 w.0.1)
    ∙ ap (λ l. row_at before 0 form (codes "quoted") g p.start p.end ++ l) (rows_front before x form (Some p.end) front more w.1)
rows_front before x form ended (CommentAt p ∷ front) more w = rows_front before x form ended front more w.1
rows_front before x form ended (EndAt p ∷ front) more w = rows_front before x form None front more w.1

pub rows_back : (before x : List ℕ) (form : Form) (ended : Option ℕ) (alone : List (Result Piece Fault)) → EndsFeed before
    → rows_after (before ++ x) 0 form (option_map (λ i. length before + i) ended) (later (length before) alone) ≡ rows_after x (feeds before) form ended alone
rows_back before x form ended [] f = refl
rows_back before x form ended (Ok (WordAt p) ∷ alone) f =
    ap (λ l. l ++ rows_after (before ++ x) 0 form (Some (length before + p.end)) (later (length before) alone)) (row_back before x form (codes "word") ended p.start p.end f)
    ∙ ap (λ l. row_at x (feeds before) form (codes "word") (begins_glued ended p.start) p.start p.end ++ l) (rows_back before x form (Some p.end) alone f)
rows_back before x form ended (Ok (QuoteAt p) ∷ alone) f =
    ap (λ l. l ++ rows_after (before ++ x) 0 form (Some (length before + p.end)) (later (length before) alone)) (row_back before x form (codes "quoted") ended p.start p.end f)
    ∙ ap (λ l. row_at x (feeds before) form (codes "quoted") (begins_glued ended p.start) p.start p.end ++ l) (rows_back before x form (Some p.end) alone f)
rows_back before x form ended (Ok (CommentAt p) ∷ alone) f = rows_back before x form ended alone f
rows_back before x form ended (Ok (EndAt p) ∷ alone) f = rows_back before x form None alone f
rows_back before x form ended (Err e ∷ alone) f = rows_back before x form ended alone f

pub rows_follow : (before x written more : List ℕ) (form : Form) → AreOctets before → AreOctets x → EndsEntry before → Appended before 0 form [] written → Appended x (feeds before) form [] more
    → Appended (before ++ x) 0 form [] (written ++ more)
rows_follow before x written more form b o e g h =
    let r = read_on before x h.0 b o e h.1 in
    let all : List (Result Piece Fault) → List ℕ = rows_after (before ++ x) 0 form None in
    let own : List (Result Piece Fault) → List ℕ = rows_after before 0 form None in
    let last : List (Result Piece Fault) = Ok (end_at (length before) false) ∷ [] in
    let same : g.0 ≡ map Ok r.front ++ last = given_once before g.0 (map Ok r.front ++ last) g.1 r.own in
    let first : written ≡ all (map Ok r.front) =
    g.2 ∙ ap own same ∙ rows_append before 0 form None r.front last ∙ append-nil (own (map Ok r.front)) ∙ sym (rows_front before x form None r.front last r.own.1) in
    let second : more ≡ all (later (length before) h.0) = h.2 ∙ sym (rows_back before x form None h.0 (ends_feed before e)) in (
      map Ok r.front ++ later (length before) h.0,
      r.is,
      ap (λ l. l ++ more) first ∙ ap (λ l. all (map Ok r.front) ++ l) second ∙ sym (rows_ended (before ++ x) 0 form r.front (later (length before) h.0) r.ended),
    )

-- their parts
pub parts_front : (before x : List ℕ) (ended : Option ℕ) (front : List Piece) (more : List (Result Piece Fault)) → EachWithin (length before) (map Ok front ++ more)
    → parts_after (before ++ x) ended front ≡ parts_after before ended front
parts_front before x ended [] more w = refl
parts_front before x ended (WordAt p ∷ front) more w =
    let g : Bool = begins_glued ended p.start in
    ap (λ t. Token g t ∷ parts_after (before ++ x) (Some p.end) front) (between_front before x p.start p.end w.0.0 w.0.1)
    ∙ ap (λ l. Token g (between before p.start p.end) ∷ l) (parts_front before x (Some p.end) front more w.1)
parts_front before x ended (QuoteAt p ∷ front) more w =
    let g : Bool = begins_glued ended p.start in
    ap (λ t. Token g t ∷ parts_after (before ++ x) (Some p.end) front) (between_front before x p.start p.end w.0.0 w.0.1)
    ∙ ap (λ l. Token g (between before p.start p.end) ∷ l) (parts_front before x (Some p.end) front more w.1)
parts_front before x ended (CommentAt p ∷ front) more w = parts_front before x ended front more w.1
parts_front before x ended (EndAt p ∷ front) more w = ap (λ l. Ends p.begins_blank ∷ l) (parts_front before x None front more w.1)

pub token_back : (before x : List ℕ) (ended : Option ℕ) (s e : ℕ)
    → Token (begins_glued (option_map (λ i. length before + i) ended) (length before + s)) (between (before ++ x) (length before + s) (length before + e))
    ≡ Token (begins_glued ended s) (between x s e)
token_back before x ended s e =
    ap (λ b. Token b (between (before ++ x) (length before + s) (length before + e))) (glued_back (length before) ended s) ∙ ap (Token (begins_glued ended s)) (between_back before x s e)

pub parts_back : (before x : List ℕ) (ended : Option ℕ) (found : List Piece)
    → parts_after (before ++ x) (option_map (λ i. length before + i) ended) (map (moved_piece (λ i. length before + i)) found) ≡ parts_after x ended found
parts_back before x ended [] = refl
parts_back before x ended (WordAt p ∷ found) =
    ap (λ t. t ∷ parts_after (before ++ x) (Some (length before + p.end)) (map (moved_piece (λ i. length before + i)) found)) (token_back before x ended p.start p.end)
    ∙ ap (λ l. Token (begins_glued ended p.start) (between x p.start p.end) ∷ l) (parts_back before x (Some p.end) found)
parts_back before x ended (QuoteAt p ∷ found) =
    ap (λ t. t ∷ parts_after (before ++ x) (Some (length before + p.end)) (map (moved_piece (λ i. length before + i)) found)) (token_back before x ended p.start p.end)
    ∙ ap (λ l. Token (begins_glued ended p.start) (between x p.start p.end) ∷ l) (parts_back before x (Some p.end) found)
parts_back before x ended (CommentAt p ∷ found) = parts_back before x ended found
parts_back before x ended (EndAt p ∷ found) = ap (λ l. Ends p.begins_blank ∷ l) (parts_back before x None found)

-- the lines of entries that have ended, and of those that follow
leads_front : (es : List ComparedPart) (b : Bool) (fs gs : List ComparedPart) → leads (es ++ Ends b ∷ fs) ≡ leads (es ++ Ends b ∷ gs)
leads_front [] b fs gs = refl
leads_front (Token g t ∷ es) b fs gs = leads_front es b fs gs
leads_front (Ends a ∷ es) b fs gs = refl

feed_front : (es : List ComparedPart) (b : Bool) (fs gs : List ComparedPart) → feed_before (es ++ Ends b ∷ fs) ≡ feed_before (es ++ Ends b ∷ gs)
feed_front [] b fs gs = refl
feed_front (e ∷ es) b fs gs = refl

lines_on : (gap : Gap) (inside : Bool) (es : List ComparedPart) (b : Bool) (f : ComparedPart) (fs : List ComparedPart)
    → laid_out gap inside (es ++ Ends b ∷ f ∷ fs) ≡ laid_out gap inside (es ++ Ends b ∷ Ends false ∷ []) ++ laid_out gap false (f ∷ fs)
lines_on gap inside [] b f fs =
    let k : List ℕ = laid_out gap false (f ∷ fs) in
    sym (append_assoc (gap_if gap (not inside && b)) (10 ∷ []) k)
lines_on gap inside (Token g t ∷ es) b f fs =
    let k : List ℕ = laid_out gap false (f ∷ fs) in
    let m : List ℕ = laid_out gap true (es ++ Ends b ∷ Ends false ∷ []) in
    let lead : List ComparedPart → List ℕ = λ l. gap_if gap (not g && (inside || leads l)) in
    ap (λ c. gap_if gap (not g && (inside || c)) ++ (t ++ laid_out gap true (es ++ Ends b ∷ f ∷ fs))) (leads_front es b (f ∷ fs) (Ends false ∷ []))
    ∙ ap (λ l. lead (es ++ Ends b ∷ Ends false ∷ []) ++ (t ++ l)) (lines_on gap true es b f fs)
    ∙ ap (λ l. lead (es ++ Ends b ∷ Ends false ∷ []) ++ l) (sym (append_assoc t m k))
    ∙ sym (append_assoc (lead (es ++ Ends b ∷ Ends false ∷ [])) (t ++ m) k)
lines_on gap inside (Ends a ∷ es) b f fs =
    let k : List ℕ = laid_out gap false (f ∷ fs) in
    let m : List ℕ = laid_out gap false (es ++ Ends b ∷ Ends false ∷ []) in
    let feed : List ℕ = feed_before (es ++ Ends b ∷ Ends false ∷ []) in
    ap (λ l. gap_if gap (not inside && a) ++ (l ++ laid_out gap false (es ++ Ends b ∷ f ∷ fs))) (feed_front es b (f ∷ fs) (Ends false ∷ []))
    ∙ ap (λ l. gap_if gap (not inside && a) ++ (feed ++ l)) (lines_on gap false es b f fs)
    ∙ ap (λ l. gap_if gap (not inside && a) ++ l) (sym (append_assoc feed m k))
    ∙ sym (append_assoc (gap_if gap (not inside && a)) (feed ++ m) k)

pub lines_joined : (gap : Gap) (octets : List ℕ) (front : List Piece) (fs : List ComparedPart) → EndedFront front → 0 < length fs
    → laid_out gap false (parts octets front ++ Ends false ∷ []) ++ laid_out gap false fs ≡ laid_out gap false (parts octets front ++ fs)
lines_joined gap octets front [] e s = absurd (omega (arith, s))
lines_joined gap octets front (f ∷ fs) (inl none) s =
    ap (λ p. laid_out gap false (parts octets p ++ Ends false ∷ []) ++ laid_out gap false (f ∷ fs)) none
    ∙ sym (ap (λ p. laid_out gap false (parts octets p ++ f ∷ fs)) none)
lines_joined gap octets front (f ∷ fs) (inr e) s =
    let p : List ComparedPart = parts octets e.0 in
    let b : Bool = e.2 in
    let shape : parts octets front ≡ p ++ Ends b ∷ [] = ap (parts octets) e.3 ∙ parts_append octets None e.0 (end_at e.1 b ∷ []) in
    ap (λ l. laid_out gap false (l ++ Ends false ∷ []) ++ laid_out gap false (f ∷ fs)) shape
    ∙ ap (λ l. laid_out gap false l ++ laid_out gap false (f ∷ fs)) (append_assoc p (Ends b ∷ []) (Ends false ∷ []))
    ∙ sym (lines_on gap false p b f fs)
    ∙ ap (laid_out gap false) (sym (append_assoc p (Ends b ∷ []) (f ∷ fs)))
    ∙ sym (ap (λ l. laid_out gap false (l ++ f ∷ fs)) shape)
