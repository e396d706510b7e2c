-- What `split` needs, over plain lists.
use Rattle.std.proofs.Common.{◌≡◌, ℕ, zero, suc, ◌+◌, ◌-◌, ◌*◌, ◌≤◌, Bool, true, false, cond, ◌&&◌, nat_le, List, [], ◌∷◌, ◌++◌, length, sym, ap, ◌∙◌, subst, arith, append_assoc, append-nil, IsUtf8}
use Rattle.std.specs.Prelude.{Some, None, encode_utf8, encode_utf8_all}
use Rattle.std.proofs.lemmas.Str.{encodes-append, encodes_same}
use lib.Utf8.{scalar, scalars}
use Rattle.std.specs.Str.{IsCharBoundary}
use Rattle.std.proofs.lemmas.Str.{IsCharBoundary-at_seam}
use Rattle.std.proofs.lemmas.Bool.{and_parts}
use Rattle.dns_lexer.specs.declared.reader.Mode.{Mode}
use Rattle.dns_lexer.specs.declared.reader.Mode.TheVariants.{Outside, Quoted, Comment, Return, Escape, OneDigit, TwoDigits}
use Rattle.dns_lexer.specs.declared.reader.Kind.{Kind}
use Rattle.dns_lexer.specs.declared.reader.Kind.TheVariants.{White, LineFeed, CarriageReturn, Opening, Closing, Semicolon, DoubleQuote, Backslash, Plain}
use Rattle.dns_lexer.specs.declared.reader.Act.{Act}
use Rattle.dns_lexer.specs.declared.reader.Act.TheVariants.{Add}
use Rattle.dns_lexer.specs.declared.reader.Move.{Move}
use Rattle.dns_lexer.specs.Splitting.{Splits, Entries}
use Rattle.dns_lexer.specs.Viable.{IsBad}
use Rattle.dns_symbol.specs.Symbol.{is_digit}
use Rattle.dns_lexer.specs.Reader.{kind, home, move_to, step, outside_step, quoted_step, comment_step, return_step, read, may_end}
use Rattle.dns_lexer.proofs.Complete.{Some_same}
use Rattle.dns_lexer.proofs.Sound.{read_splits}
use Rattle.dns_lexer.proofs.Viable.{walk, begin_same, stops, ends}

pub bad_step : (text ys rest : List ℕ) (c : ℕ) (m : Mode) (d : ℕ) → IsUtf8 text → encode_utf8_all ys ++ (encode_utf8 c ++ rest) ≡ text → walk Outside 0 ys ≡ Some (m, d) → step m d c ≡ None
    → IsBad text (length (encode_utf8_all ys))
bad_step text ys rest c m d u e w stop =
    let front : encode_utf8_all u.0 ≡ encode_utf8_all (ys ++ c ∷ []) ++ rest = u.1.1 ∙ sym e ∙ sym (append_assoc (encode_utf8_all ys) (encode_utf8 c) rest)
    ∙ ap (λ l. l ++ rest) (ap (λ l. encode_utf8_all ys ++ l) (sym (append-nil (encode_utf8 c))) ∙ sym (encodes-append ys (c ∷ []))) in
    let q = begin_same (ys ++ c ∷ []) u.0 rest front in
    let whole : u.0 ≡ ys ++ c ∷ q.0 = q.1 ∙ append_assoc ys (c ∷ []) q.0 in
    stops text ys q.0 c (m, d) (ap encode_utf8_all (sym whole) ∙ u.1.1) (ap scalars (sym whole) ∙ u.1.0) w stop

pub early : (text ys : List ℕ) (m : Mode) (d : ℕ) → IsUtf8 text → encode_utf8_all ys ≡ text → walk Outside 0 ys ≡ Some (m, d) → may_end m d ≡ false → IsBad text (length (encode_utf8_all ys))
early text ys m d u e w not_yet =
    let same : u.0 ≡ ys = encodes_same u.0 ys (u.1.1 ∙ sym e) in
    subst (λ t. IsBad text (length t)) (sym e) (ends text ys (m, d) e (ap scalars (sym same) ∙ u.1.0) w not_yet)

pub whole : (text ys : List ℕ) (e : Entries) → IsUtf8 text → encode_utf8_all ys ≡ text → read Outside 0 [] ys ≡ Some e → Splits text e
whole text ys e u is r =
    let same : u.0 ≡ ys = encodes_same u.0 ys (u.1.1 ∙ sym is) in
    subst (λ t. Splits t e) is (read_splits ys e (ap scalars (sym same) ∙ u.1.0) r)

pub one_more : (ys rest text : List ℕ) (all : List ℕ) (c : ℕ) → encode_utf8_all ys ++ all ≡ text → all ≡ encode_utf8 c ++ rest → encode_utf8_all (ys ++ c ∷ []) ++ rest ≡ text
one_more ys rest text all c e f =
    ap (λ l. l ++ rest) (encodes-append ys (c ∷ []) ∙ ap (λ l. encode_utf8_all ys ++ l) (append-nil (encode_utf8 c))) ∙ append_assoc (encode_utf8_all ys) (encode_utf8 c) rest
    ∙ ap (λ l. encode_utf8_all ys ++ l) (sym f) ∙ e

pub scalars_rest : (xs ys : List ℕ) → scalars (xs ++ ys) ≡ true → scalars ys ≡ true
scalars_rest [] ys h = h
scalars_rest (x ∷ xs) ys h = scalars_rest xs ys (and_parts (scalar x) (scalars (xs ++ ys)) h).1

-- a text may be cut where characters that were read end
pub boundary : (text ys rest : List ℕ) (at : ℕ) → IsUtf8 text → encode_utf8_all ys ++ rest ≡ text → at ≡ length (encode_utf8_all ys) → IsCharBoundary text at
boundary text ys rest at u e place =
    let q = begin_same ys u.0 rest (u.1.1 ∙ sym e) in
    subst (IsCharBoundary text) (sym place) (IsCharBoundary-at_seam text (encode_utf8_all ys) rest (sym e) (q.0, (scalars_rest ys q.0 (ap scalars (sym q.1) ∙ u.1.0), q.2)))

deeper : (m : Mode) (e d : ℕ) (a : Act) (v : Move) → e ≤ suc d → move_to m e a ≡ Some v → v.depth ≤ suc d
deeper m e d a v f h = subst (λ (w : Move). w.depth ≤ suc d) (Some_same h) f

gap_depth : (d : ℕ) (k : Kind) (v : Move) → outside_step d k ≡ Some v → v.depth ≤ suc d
gap_depth d Opening v h = deeper _ _ d _ v (omega arith) h
gap_depth zero Closing v h = cc
gap_depth (suc d) Closing v h = deeper _ _ (suc d) _ v (omega arith) h
gap_depth d White v h = deeper _ _ d _ v (omega arith) h
gap_depth d LineFeed v h = deeper _ _ d _ v (omega arith) h
gap_depth d CarriageReturn v h = deeper _ _ d _ v (omega arith) h
gap_depth d Semicolon v h = deeper _ _ d _ v (omega arith) h
gap_depth d DoubleQuote v h = deeper _ _ d _ v (omega arith) h
gap_depth d Backslash v h = deeper _ _ d _ v (omega arith) h
gap_depth d Plain v h = deeper _ _ d _ v (omega arith) h

quoted_depth : (d : ℕ) (k : Kind) (v : Move) → quoted_step d k ≡ Some v → v.depth ≤ suc d
quoted_depth d LineFeed v h = cc
quoted_depth d CarriageReturn v h = cc
quoted_depth d Opening v h = deeper _ _ d _ v (omega arith) h
quoted_depth d Closing v h = deeper _ _ d _ v (omega arith) h
quoted_depth d White v h = deeper _ _ d _ v (omega arith) h
quoted_depth d Semicolon v h = deeper _ _ d _ v (omega arith) h
quoted_depth d DoubleQuote v h = deeper _ _ d _ v (omega arith) h
quoted_depth d Backslash v h = deeper _ _ d _ v (omega arith) h
quoted_depth d Plain v h = deeper _ _ d _ v (omega arith) h

comment_depth : (d : ℕ) (k : Kind) (v : Move) → comment_step d k ≡ Some v → v.depth ≤ suc d
comment_depth d LineFeed v h = deeper _ _ d _ v (omega arith) h
comment_depth d CarriageReturn v h = deeper _ _ d _ v (omega arith) h
comment_depth d Opening v h = deeper _ _ d _ v (omega arith) h
comment_depth d Closing v h = deeper _ _ d _ v (omega arith) h
comment_depth d White v h = deeper _ _ d _ v (omega arith) h
comment_depth d Semicolon v h = deeper _ _ d _ v (omega arith) h
comment_depth d DoubleQuote v h = deeper _ _ d _ v (omega arith) h
comment_depth d Backslash v h = deeper _ _ d _ v (omega arith) h
comment_depth d Plain v h = deeper _ _ d _ v (omega arith) h

return_depth : (d : ℕ) (k : Kind) (v : Move) → return_step d k ≡ Some v → v.depth ≤ suc d
return_depth d LineFeed v h = deeper _ _ d _ v (omega arith) h
return_depth d CarriageReturn v h = cc
return_depth d Opening v h = cc
return_depth d Closing v h = cc
return_depth d White v h = cc
return_depth d Semicolon v h = cc
return_depth d DoubleQuote v h = cc
return_depth d Backslash v h = cc
return_depth d Plain v h = cc

only : (b : Bool) (m : Mode) (d : ℕ) (a : Act) (v : Move) → cond b (move_to m d a) None ≡ Some v → v.depth ≤ suc d
only true m d a v h = deeper m d d a v (omega arith) h
only false m d a v h = cc

begun_depth : (b g k : Bool) (m n : Mode) (d : ℕ) (v : Move) → cond b (cond g (move_to m d Add) None) (cond k (move_to n d Add) None) ≡ Some v → v.depth ≤ suc d
begun_depth true g k m n d v h = only g m d Add v h
begun_depth false g k m n d v h = only k n d Add v h

pub step_depth : (m : Mode) (d c : ℕ) (v : Move) → step m d c ≡ Some v → v.depth ≤ suc d
step_depth Outside d c v h = gap_depth d (kind c) v h
step_depth Quoted d c v h = quoted_depth d (kind c) v h
step_depth Comment d c v h = comment_depth d (kind c) v h
step_depth Return d c v h = return_depth d (kind c) v h
step_depth (Escape q) d c v h = begun_depth (is_digit c) (nat_le c 50) (nat_le 32 c && nat_le c 126) (OneDigit q (c - 48)) (home q) d v h
step_depth (OneDigit q n) d c v h = only (is_digit c && nat_le (10 * n + (c - 48)) 25) (TwoDigits q (10 * n + (c - 48))) d Add v h
step_depth (TwoDigits q n) d c v h = only (is_digit c && nat_le (10 * n + (c - 48)) 255) (home q) d Add v h

pub ended : (xs rest text : List ℕ) → xs ++ rest ≡ text → length rest ≡ 0 → xs ≡ text
ended xs [] text e h = sym (append-nil xs) ∙ e
ended xs (b ∷ rest) text e h = absurd (omega arith)
