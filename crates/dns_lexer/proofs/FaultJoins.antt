-- Errors of a text after another, with a line end between.
use Rattle.std.proofs.Common.{◌≡◌, ℕ, zero, suc, ◌+◌, ◌-◌, ◌/◌, ◌%◌, ◌<◌, ◌≤◌, Bool, true, false, ◌&&◌, ◌==◌, nat_le, List, [], ◌∷◌, ◌++◌, length, take, drop, replicate, refl, sym, ap, ◌∙◌}
use Rattle.std.proofs.Common.{subst, arith, append_assoc, length-append, inl, inr, ◌⊎◌}
use Rattle.std.specs.Prelude.{Option, Some, None, option_and_then, not, encode_utf8, encode_utf8_all}
use Rattle.std.specs.List.{flat_map, list_all}
use Rattle.std.specs.Str.{IsCharBoundary}
use Rattle.std.proofs.lemmas.Bool.{and_parts, and_from, cases_Bool, leb-true, ltb-true}
use Rattle.std.proofs.lemmas.List.{map-append}
use Rattle.std.proofs.lemmas.Str.{IsCharBoundary-from_rest}
use Rattle.std.proofs.Math.Seq.{take-append-add, drop-append-add}
use lib.Utf8.{scalar, scalars, low_scalar}
use Rattle.dns_symbol.specs.declared.symbol.Symbol.{Symbol}
use Rattle.dns_symbol.specs.declared.symbol.Symbol.TheVariants.{Char, SimpleEscape, DecimalEscape}
use Rattle.dns_symbol.specs.Symbol.{spell, is_readable, is_digit, is_printable, may_be_in_word}
use Rattle.dns_lexer.specs.declared.reader.Mode.{Mode}
use Rattle.dns_lexer.specs.declared.reader.Mode.TheVariants.{Outside, Quoted, Comment, Return, Escape, OneDigit, TwoDigits}
use Rattle.dns_lexer.specs.declared.reader.Move.{Move}
use Rattle.dns_lexer.specs.declared.reader.Within.{Within}
use Rattle.dns_lexer.specs.declared.reader.Within.TheVariants.{InWord, InQuote}
use Rattle.dns_lexer.specs.declared.pieces.Piece.{Piece}
use Rattle.dns_lexer.specs.declared.pieces.Fault.{Fault}
use Rattle.dns_lexer.specs.declared.pieces.Wrong.{Wrong}
use Rattle.dns_lexer.specs.declared.pieces.Wrong.TheVariants.{Closing as Late, OpenParenthesis, OpenQuote, LoneReturn, BadEscape}
use Rattle.dns_lexer.specs.Lexeme.{Lexeme, Blank, Line, Open, Close, Note, Word, Quote, characters, lexeme_bytes, is_lexeme, is_note_char, may_be_in_quote}
use Rattle.dns_lexer.specs.Splitting.{Splits, Entries, may_precede, are_lexemes}
use Rattle.dns_lexer.specs.Viable.{IsViable, IsBad}
use Rattle.dns_lexer.specs.Unclosed.{LacksClosing, IsOpener}
use Rattle.dns_lexer.specs.Reader.{step, after, with_open, read, may_end}
use Rattle.dns_lexer.specs.Pieces.{quote_at, end_at, IsPieces, EndsQuote, IsWrong, IsFault, moved_wrong, moved_fault}
use Rattle.dns_lexer.proofs.Complete.{allowed, bytes_all, splits_read}
use Rattle.dns_lexer.proofs.Sound.{map_some, read_splits}
use Rattle.dns_lexer.proofs.Viable.{walk, after_had, not_ended, scalars_both, begin_same}
use Rattle.dns_lexer.proofs.Steps.{scalars_rest}
use Rattle.dns_lexer.proofs.Joins.{split_joined}
use Rattle.dns_lexer.proofs.PieceSplit.{pieces_split, split_pieces, pieces_one_way}
use Rattle.dns_lexer.proofs.PieceJoins.{further, pieces_joined}

-- the characters of valid lexemes are characters
spell_scalars : (y : Symbol) → is_readable y ≡ true → scalars (spell y) ≡ true
spell_scalars (Char c) h = and_from _ _ (and_parts (scalar c) (not (c == 92)) h).0 refl
spell_scalars (SimpleEscape o) h =
    let p = and_parts (is_printable o) (not (is_digit o)) h in
    let small : o ≤ 126 = leb-true o 126 (and_parts (nat_le 32 o) (nat_le o 126) p.0).1 in
    and_from _ _ (low_scalar 92 (omega arith)) (and_from _ _ (low_scalar o (omega arith)) refl)
spell_scalars (DecimalEscape o) h =
    let small : o < 256 = ltb-true o 256 h in
    and_from _ _ (low_scalar 92 (omega arith))
    (and_from _ _ (low_scalar (48 + o / 100) (omega arith)) (and_from _ _ (low_scalar (48 + o / 10 % 10) (omega arith)) (and_from _ _ (low_scalar (48 + o % 10) (omega arith)) refl)))

readable : (q : Within) (y : Symbol) → allowed q y ≡ true → is_readable y ≡ true
readable InWord y h = (and_parts (may_be_in_word y) (is_readable y) h).1
readable InQuote y h = (and_parts (may_be_in_quote y) (is_readable y) h).1

symbols_scalars : (q : Within) (ss : List Symbol) → list_all (allowed q) ss ≡ true → scalars (flat_map spell ss) ≡ true
symbols_scalars q [] h = refl
symbols_scalars q (y ∷ ss) h =
    let p = and_parts (allowed q y) (list_all (allowed q) ss) h in
    scalars_both (spell y) (flat_map spell ss) (spell_scalars y (readable q y p.0)) (symbols_scalars q ss p.1)

note_scalars : (cs : List ℕ) → list_all is_note_char cs ≡ true → scalars cs ≡ true
note_scalars [] h = refl
note_scalars (c ∷ cs) h =
    let p = and_parts (is_note_char c) (list_all is_note_char cs) h in
    and_from _ _ (and_parts (scalar c) _ p.0).0 (note_scalars cs p.1)

lexeme_scalars : (l : Lexeme) → is_lexeme l ≡ true → scalars (characters l) ≡ true
lexeme_scalars (Blank true) h = refl
lexeme_scalars (Blank false) h = refl
lexeme_scalars (Line true) h = refl
lexeme_scalars (Line false) h = refl
lexeme_scalars Open h = refl
lexeme_scalars Close h = refl
lexeme_scalars (Note cs) h = and_from _ _ (low_scalar 59 (omega arith)) (note_scalars cs h)
lexeme_scalars (Word s ss) h = symbols_scalars InWord (s ∷ ss) h
lexeme_scalars (Quote ss) h = and_from _ _ (low_scalar 34 (omega arith)) (scalars_both (flat_map spell ss) (34 ∷ []) (symbols_scalars InQuote ss h) refl)

pub lexemes_scalars : (ls : List Lexeme) → are_lexemes ls ≡ true → scalars (flat_map characters ls) ≡ true
lexemes_scalars [] h = refl
lexemes_scalars (l ∷ ls) h =
    let p = and_parts (is_lexeme l && may_precede l ls) (are_lexemes ls) h in
    scalars_both (characters l) (flat_map characters ls) (lexeme_scalars l (and_parts (is_lexeme l) (may_precede l ls) p.0).0) (lexemes_scalars ls p.1)

-- if a text is read, each prefix is walked, and the rest is read from there
record Goes (m : Mode) (d : ℕ) (xs ys : List ℕ) : Type 0 where
  pub place : Mode × ℕ
  pub walked : walk m d xs ≡ Some place
  pub token : List ℕ
  pub found : Entries
  pub is_read : read place.0 place.1 token ys ≡ Some found

goes : (xs ys : List ℕ) (m : Mode) (d : ℕ) (t : List ℕ) (e : Entries) → read m d t (xs ++ ys) ≡ Some e → Goes m d xs ys
goes [] ys m d t e h = record { place = (m, d); walked = refl; token = t; found = e; is_read = h }
goes (c ∷ xs) ys m d t e h = go (step m d c) refl h (λ (v : Move). goes xs ys v.mode v.depth)
  where
    go : (o : Option Move) → step m d c ≡ o → option_and_then (λ (v : Move). after v.act c t (λ u. read v.mode v.depth u (xs ++ ys))) o ≡ Some e
        → ((v : Move) (u : List ℕ) (y : Entries) → read v.mode v.depth u (xs ++ ys) ≡ Some y → Goes v.mode v.depth xs ys) → Goes m d (c ∷ xs) ys
    go None s k ih = cc
    go (Some v) s k ih =
        let r = after_had v.act c t (λ u. read v.mode v.depth u (xs ++ ys)) e k in
        let g = ih v r.0 r.1 r.2 in
        record { place = g.place; walked = ap (option_and_then (λ (w : Move). walk w.mode w.depth xs)) s ∙ g.walked; token = g.token; found = g.found; is_read = g.is_read }

-- after the end of a line at which a text may end, another begins
line_read : (m : Mode) (d : ℕ) (r : Bool) (t us : List ℕ) (e : Entries) → may_end m d ≡ true → read m d t (characters (Line r) ++ us) ≡ Some e → (f : Entries) × (read Outside 0 [] us ≡ Some f)
line_read Outside zero false t us e k h = let p = map_some (λ (x : Entries). with_open t ([] ∷ x)) (read Outside 0 [] us) e h in (p.0, p.1)
line_read Comment zero false t us e k h = let p = map_some (λ (x : Entries). with_open t ([] ∷ x)) (read Outside 0 [] us) e h in (p.0, p.1)
line_read Outside zero true t us e k h =
    let p = map_some (with_open t) (read Return 0 [] (10 ∷ us)) e h in
    let q = map_some (λ (x : Entries). with_open [] ([] ∷ x)) (read Outside 0 [] us) p.0 p.1 in
    (q.0, q.1)
line_read Comment zero true t us e k h =
    let p = map_some (with_open t) (read Return 0 [] (10 ∷ us)) e h in
    let q = map_some (λ (x : Entries). with_open [] ([] ∷ x)) (read Outside 0 [] us) p.0 p.1 in
    (q.0, q.1)
line_read Outside (suc d) r t us e k h = cc
line_read Comment (suc d) r t us e k h = cc
line_read Quoted d r t us e k h = cc
line_read Return d r t us e k h = cc
line_read (Escape q) d r t us e k h = cc
line_read (OneDigit q n) d r t us e k h = cc
line_read (TwoDigits q n) d r t us e k h = cc

-- what follows a text that splits and a line's end splits too
pub behind_line : (x w : List ℕ) (r : Bool) (e g : Entries) → Splits x e → Splits (x ++ (lexeme_bytes (Line r) ++ w)) g → (f : Entries) × Splits w f
behind_line x w r e g s t =
    let xs : List ℕ = flat_map characters s.lexemes in
    let ys : List ℕ = flat_map characters t.lexemes in
    let x_is : encode_utf8_all xs ≡ x = sym (bytes_all s.lexemes) ∙ s.spelled in
    let y_is : encode_utf8_all ys ≡ x ++ (lexeme_bytes (Line r) ++ w) = sym (bytes_all t.lexemes) ∙ t.spelled in
    let p = begin_same xs ys (lexeme_bytes (Line r) ++ w) (y_is ∙ ap (λ l. l ++ (lexeme_bytes (Line r) ++ w)) (sym x_is)) in
    let q = begin_same (characters (Line r)) p.0 w p.2 in
    let h : read Outside 0 [] (xs ++ (characters (Line r) ++ q.0)) ≡ Some g = ap (λ l. read Outside 0 [] (xs ++ l)) (sym q.1) ∙ ap (read Outside 0 []) (sym p.1) ∙ splits_read ys _ g y_is t in
    let k = goes xs (characters (Line r) ++ q.0) Outside 0 [] g h in
    let f = line_read k.place.0 k.place.1 r k.token q.0 k.found (ends k.place xs k.walked (cases_Bool (may_end k.place.0 k.place.1)) (splits_read xs x e x_is s)) k.is_read in
    let ok : scalars q.0 ≡ true = scalars_rest (characters (Line r)) q.0 (ap scalars (sym q.1) ∙ scalars_rest xs p.0 (ap scalars (sym p.1) ∙ lexemes_scalars t.lexemes t.valid)) in
    (f.0, subst (λ l. Splits l f.0) q.2 (read_splits q.0 f.0 ok f.1))
  where
    ends : (p : Mode × ℕ) (xs : List ℕ) → walk Outside 0 xs ≡ Some p → (may_end p.0 p.1 ≡ true) ⊎ (may_end p.0 p.1 ≡ false) → read Outside 0 [] xs ≡ Some e → may_end p.0 p.1 ≡ true
    ends p xs h (inl k) i = k
    ends p xs h (inr k) i = absurd (not_ended xs Outside 0 p h k [] e i)

joined_more : (x l z w : List ℕ) → (x ++ (l ++ z)) ++ w ≡ x ++ (l ++ (z ++ w))
joined_more x l z w = append_assoc x (l ++ z) w ∙ ap (λ t. x ++ t) (append_assoc l z w)

-- so a prefix is viable exactly if it is so after such a text
pub viable_behind : (x z : List ℕ) (r : Bool) (e : Entries) → Splits x e → IsViable (x ++ (lexeme_bytes (Line r) ++ z)) → IsViable z
viable_behind x z r e s v =
    let f = behind_line x (z ++ v.tail) r e v.found s (subst (λ l. Splits l v.found) (joined_more x (lexeme_bytes (Line r)) z v.tail) v.splits) in
    record { tail = v.tail; is_tail = v.is_tail; found = f.0; splits = f.1 }

pub viable_joined : (x z : List ℕ) (r : Bool) (e : Entries) → Splits x e → IsViable z → IsViable (x ++ (lexeme_bytes (Line r) ++ z))
viable_joined x z r e s v = record {
  tail = v.tail;
  is_tail = v.is_tail;
  found = e ++ v.found;
  splits = subst (λ l. Splits l (e ++ v.found)) (sym (joined_more x (lexeme_bytes (Line r)) z v.tail)) (split_joined x (z ++ v.tail) r e v.found s v.splits);
}

-- the octets of the texts one after the other
take_joined : (x l y : List ℕ) (n : ℕ) → take (length x + length l + n) (x ++ (l ++ y)) ≡ x ++ (l ++ take n y)
take_joined x l y n =
    ap (λ i. take (i + n) (x ++ (l ++ y))) (sym (length-append x l)) ∙ ap (take (length (x ++ l) + n)) (sym (append_assoc x l y)) ∙ take-append-add (x ++ l) y n ∙ append_assoc x l (take n y)

drop_joined : (x l y : List ℕ) (n : ℕ) → drop (length x + length l + n) (x ++ (l ++ y)) ≡ drop n y
drop_joined x l y n =
    ap (λ i. drop (i + n) (x ++ (l ++ y))) (sym (length-append x l)) ∙ ap (drop (length (x ++ l) + n)) (sym (append_assoc x l y)) ∙ drop-append-add (x ++ l) y n

-- the second text is bad where it is bad alone
pub bad_joined : (x y : List ℕ) (r : Bool) (e : Entries) (n : ℕ) → Splits x e → IsBad y n → IsBad (x ++ (lexeme_bytes (Line r) ++ y)) (length x + length (lexeme_bytes (Line r)) + n)
bad_joined x y r e n s b =
    let l : List ℕ = lexeme_bytes (Line r) in
    let k : ℕ = length x + length l in
    let room : length (x ++ (l ++ y)) ≡ k + length y = omega (arith, length-append x (l ++ y), length-append l y) in
    record {
      splits_not = λ g t. let f = behind_line x y r e g s t in b.splits_not f.0 f.1;
      at = record {
        within = omega (arith, room, b.at.within);
        viable = subst IsViable (sym (take_joined x l y n)) (viable_joined x (take n y) r e s b.at.viable);
        longest = λ j more fits v.
            let i : ℕ = j - k in
            let same : j ≡ k + i = omega arith in
            b.at.longest i (omega arith) (omega (arith, room)) (viable_behind x (take i y) r e s (subst IsViable (ap (λ z. take z (x ++ (l ++ y))) same ∙ take_joined x l y i) v));
      };
    }

-- with a double quote after it, the same quoted string ends
quote_joined : (x front : List ℕ) (r : Bool) (e : Entries) (i : ℕ) → Splits x e → EndsQuote front i → EndsQuote (x ++ (lexeme_bytes (Line r) ++ front)) (length x + length (lexeme_bytes (Line r)) + i)
quote_joined x front r e i s h more all there =
    let l : List ℕ = lexeme_bytes (Line r) in
    let k : ℕ = length x + length l in
    let w : List ℕ = front ++ (34 ∷ more) in
    let p : IsPieces (x ++ (l ++ w)) all = subst (λ z. IsPieces z all) (joined_more x l front (34 ∷ more)) there in
    let f = behind_line x w r e _ s (pieces_split (x ++ (l ++ w)) all p) in
    let follow = split_pieces w f.0 f.1 in
    let a = split_pieces x e s in
    let both = pieces_joined x w r a.0 follow.0 a.1 follow.1 in
    let c = h more follow.0 follow.1 in
    let front_pieces : List Piece = both.0 ++ end_at k both.1 ∷ further k c.0 in
    let place : k + (length front + 1) ≡ length (x ++ (l ++ front)) + 1 = omega (arith, length-append x (l ++ front), length-append l front) in (
      front_pieces,
      further k c.1,
      pieces_one_way (x ++ (l ++ w)) all _ p both.3
          ∙ ap (λ z. both.0 ++ end_at k both.1 ∷ further k z) c.2
          ∙ ap (λ z. both.0 ++ end_at k both.1 ∷ z) (map-append _ c.0 (quote_at i (length front + 1) ∷ c.1))
          ∙ sym (append_assoc both.0 (end_at k both.1 ∷ further k c.0) _)
          ∙ ap (λ z. front_pieces ++ quote_at (k + i) z ∷ further k c.1) place,
    )

-- the same parentheses are open at the end
pub open_joined : (x front : List ℕ) (r : Bool) (e : Entries) → Splits x e → LacksClosing front → LacksClosing (x ++ (lexeme_bytes (Line r) ++ front))
open_joined x front r e s h =
    let tail : List ℕ = 10 ∷ replicate (suc h.0) 41 in
    (h.0, e ++ h.1, subst (λ l. Splits l (e ++ h.1)) (sym (joined_more x (lexeme_bytes (Line r)) front tail)) (split_joined x (front ++ tail) r e h.1 s h.2))

-- and for the same cause
wrong_joined : (x front rest : List ℕ) (r : Bool) (e : Entries) (w : Wrong) → Splits x e → IsWrong front rest w
    → IsWrong (x ++ (lexeme_bytes (Line r) ++ front)) rest (moved_wrong (λ i. length x + length (lexeme_bytes (Line r)) + i) w)
wrong_joined x front rest r e Late s h = (h.0, e ++ h.1, h.2, split_joined x front r e h.1 s h.3)
wrong_joined x front rest r e OpenParenthesis s h = (
  h.0,
  open_joined x front r e s h.1,
  subst IsViable (sym (joined_more x (lexeme_bytes (Line r)) front (9 ∷ []))) (viable_joined x (front ++ 9 ∷ []) r e s h.2),
)
wrong_joined x front rest r e (OpenQuote i) s h = (
  subst IsViable (sym (joined_more x (lexeme_bytes (Line r)) front (34 ∷ []))) (viable_joined x (front ++ 34 ∷ []) r e s h.0),
  quote_joined x front r e i s h.1,
)
wrong_joined x front rest r e LoneReturn s h = λ c fine v.
    h c fine (viable_behind x (front ++ encode_utf8 c) r e s (subst IsViable (joined_more x (lexeme_bytes (Line r)) front (encode_utf8 c)) v))
wrong_joined x front rest r e BadEscape s h = (
  λ v. h.0 (viable_behind x (front ++ 9 ∷ []) r e s (subst IsViable (joined_more x (lexeme_bytes (Line r)) front (9 ∷ [])) v)),
  λ v. h.1 (viable_behind x (front ++ 10 ∷ []) r e s (subst IsViable (joined_more x (lexeme_bytes (Line r)) front (10 ∷ [])) v)),
)

pub fault_joined : (x y : List ℕ) (r : Bool) (e : Entries) (f : Fault) → Splits x e → IsFault y f → IsFault (x ++ (lexeme_bytes (Line r) ++ y)) (moved_fault (λ i. length x + length (lexeme_bytes (Line r)) + i) f)
fault_joined x y r e f s h =
    let l : List ℕ = lexeme_bytes (Line r) in
    let k : ℕ = length x + length l in
    let all : List ℕ = x ++ (l ++ y) in
    let w : Wrong = moved_wrong (λ i. k + i) f.wrong in
    let left : drop k all ≡ y = ap (λ i. drop i all) (omega arith) ∙ drop_joined x l y 0 in
    record {
      bad = bad_joined x y r e f.at s h.bad;
      wrong = subst (λ t. IsWrong t (drop (k + f.at) all) w) (sym (take_joined x l y f.at))
          (subst (λ t. IsWrong (x ++ (l ++ take f.at y)) t w) (sym (drop_joined x l y f.at)) (wrong_joined x (take f.at y) (drop f.at y) r e f.wrong s h.wrong));
      boundary = IsCharBoundary-from_rest all k f.at (omega (arith, length-append x (l ++ y), length-append l y)) (subst (λ t. IsCharBoundary t f.at) (sym left) h.boundary);
    }

-- and the same outermost parenthesis is open
pub opener_joined : (x y : List ℕ) (r : Bool) (e : Entries) (i : ℕ) → Splits x e → IsOpener y i → IsOpener (x ++ (lexeme_bytes (Line r) ++ y)) (length x + length (lexeme_bytes (Line r)) + i)
opener_joined x y r e i s o =
    let l : List ℕ = lexeme_bytes (Line r) in
    let k : ℕ = length x + length l in
    let room : length (x ++ (l ++ y)) ≡ k + length y = omega (arith, length-append x (l ++ y), length-append l y) in
    record {
      inside = o.inside;
      opens = drop_joined x l y i ∙ o.opens;
      found = e ++ o.found;
      splits = subst (λ t. Splits t (e ++ o.found)) (sym (take_joined x l y i)) (split_joined x (take i y) r e o.found s o.splits);
      never_closed = λ j more fits g t.
          let n : ℕ = j - k in
          let same : j ≡ k + n = omega arith in
          let f = behind_line x (take n y) r e g s (subst (λ z. Splits z g) (ap (λ z. take z (x ++ (l ++ y))) same ∙ take_joined x l y n) t) in
          o.never_closed n (omega arith) (omega (arith, room)) f.0 f.1;
    }
