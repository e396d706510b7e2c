-- One step of the machine of pieces.
use Rattle.std.proofs.Common.{◌≡◌, ℕ, zero, suc, ◌+◌, ◌-◌, ◌*◌, ◌<◌, Bool, true, false, cond, ◌&&◌, ◌==◌, nat_le, List, ◌∷◌, length, drop, refl, sym, ap, ◌∙◌, subst}
use Rattle.std.specs.Prelude.{Option, Some, None, option_map, unwrap_or, Result, Ok}
use Rattle.std.proofs.Common.{get_or}
use Rattle.std.proofs.lemmas.List.{drop_more}
use Rattle.std.proofs.lemmas.Bool.{eq-eqb, eqb-true, and_parts}
use Rattle.dns_lexer.specs.declared.reader.Mode.{Mode}
use Rattle.dns_lexer.specs.declared.reader.Mode.TheVariants.{Outside, Quoted, Comment, Return, Escape, OneDigit, TwoDigits}
use Rattle.dns_lexer.specs.declared.reader.Kind.{Kind}
use Rattle.dns_lexer.specs.declared.reader.Kind.TheVariants.{White, LineFeed, CarriageReturn, Opening, Closing, Semicolon, DoubleQuote, Backslash, Plain}
use Rattle.dns_lexer.specs.declared.reader.Act.{Act}
use Rattle.dns_lexer.specs.declared.reader.Act.TheVariants.{Add, BeginToken, EndToken, EndEntry, FinishToken}
use Rattle.dns_lexer.specs.declared.reader.Move.{Move}
use Rattle.dns_lexer.specs.declared.reader.Within.TheVariants.{InQuote}
use Rattle.dns_lexer.specs.declared.pieces.Piece.{Piece}
use Rattle.dns_lexer.specs.declared.pieces.Fault.{Fault}
use Rattle.dns_symbol.specs.Symbol.{is_digit}
use Rattle.dns_lexer.specs.Reader.{kind, home, move_to, step, outside_step, quoted_step, comment_step, return_step, line_end}
use Rattle.dns_lexer.specs.Pieces.{word_at}
use Rattle.dns_lexer.specs.Run.{before, closed_piece, finished, start_after, first_blank, blank_after, blank_then, fault, continues_piece, open_piece, wrong_at, run}
use Rattle.dns_lexer.proofs.Complete.{Some_same}

-- what a step yields and leaves
abbrev pub stepped : Mode → ℕ → ℕ → Bool → List ℕ → Move → List (Result Piece Fault)
stepped m s at b bs v = before (closed_piece m v.mode v.act s at) (before (finished v.act s (at + 1) b) (run v.mode v.depth (start_after m v.mode v.act s at) (at + 1) (blank_after v.act b bs) bs))

pub run_step : (m : Mode) (d s at : ℕ) (b : Bool) (c : ℕ) (bs : List ℕ) (v : Move) → step m d c ≡ Some v → run m d s at b (c ∷ bs) ≡ stepped m s at b bs v
run_step m d s at b c bs v h = ap (λ o. unwrap_or (option_map (stepped m s at b bs) o) (fault at (wrong_at m s))) h

pub run_stop : (m : Mode) (d s at : ℕ) (b : Bool) (c : ℕ) (bs : List ℕ) → step m d c ≡ None → run m d s at b (c ∷ bs) ≡ fault at (wrong_at m s)
run_stop m d s at b c bs h = ap (λ o. unwrap_or (option_map (stepped m s at b bs) o) (fault at (wrong_at m s))) h

-- the same, in a text
pub turn : (text : List ℕ) (m : Mode) (d s at : ℕ) (b : Bool) (c : ℕ) (v : Move) → at < length text → c ≡ get_or text at 0 → step m d c ≡ Some v
    → run m d s at b (drop at text) ≡ stepped m s at b (drop (at + 1) text) v
turn text m d s at b c v h e g = ap (run m d s at b) (drop_more text at 0 h ∙ ap (λ x. x ∷ drop (at + 1) text) (sym e)) ∙ run_step m d s at b c (drop (at + 1) text) v g

-- nothing is open before the octet that ended it
abbrev Reopens : Mode → ℕ → ℕ → ℕ → Bool → ℕ → List ℕ → Piece → Move → Type 0
Reopens m d s at b c bs p v = closed_piece m v.mode v.act s at ≡ Some p
    → run Outside d at at b (c ∷ bs) ≡ before (finished v.act s (at + 1) b) (run v.mode v.depth (start_after m v.mode v.act s at) (at + 1) (blank_after v.act b bs) bs)

none_some : {A : Type 0} {X : Type 0} {x : X} → None ≡ Some x → A
none_some h = cc

added : (m m' : Mode) (d s at : ℕ) (b : Bool) (c : ℕ) (bs : List ℕ) (p : Piece) (v : Move) → closed_piece m m' Add s at ≡ None → move_to m' d Add ≡ Some v → Reopens m d s at b c bs p v
added m m' d s at b c bs p v n h = subst (Reopens m d s at b c bs p) (Some_same h) (λ k. none_some (sym n ∙ k))

only_added : (t : Bool) (m m' : Mode) (d s at : ℕ) (b : Bool) (c : ℕ) (bs : List ℕ) (p : Piece) (v : Move) → closed_piece m m' Add s at ≡ None → cond t (move_to m' d Add) None ≡ Some v
    → Reopens m d s at b c bs p v
only_added true m m' d s at b c bs p v n h = added m m' d s at b c bs p v n h
only_added false m m' d s at b c bs p v n h = none_some h

one_or : (t g k : Bool) (m m' m'' : Mode) (d s at : ℕ) (b : Bool) (c : ℕ) (bs : List ℕ) (p : Piece) (v : Move) → closed_piece m m' Add s at ≡ None → closed_piece m m'' Add s at ≡ None
    → cond t (cond g (move_to m' d Add) None) (cond k (move_to m'' d Add) None) ≡ Some v → Reopens m d s at b c bs p v
one_or true g k m m' m'' d s at b c bs p v n o h = only_added g m m' d s at b c bs p v n h
one_or false g k m m' m'' d s at b c bs p v n o h = only_added k m m'' d s at b c bs p v o h

self : (at : ℕ) → (at == at) ≡ true
self at = eq-eqb at at refl

outside_again : (d s at : ℕ) (b : Bool) (c : ℕ) (bs : List ℕ) (p : Piece) (n : Mode) (e : ℕ) (a : Act) → step Outside d c ≡ move_to n e a
    → Reopens Outside d s at b c bs p (record { mode = n; depth = e; act = a })
outside_again d s at b c bs p n e Add h k = none_some k
outside_again d s at b c bs p n e FinishToken h k = none_some k
outside_again d s at b c bs p n e EndToken h k = run_step Outside d at at b c bs _ h ∙ rw (self at)
outside_again d s at b c bs p n e EndEntry h k = run_step Outside d at at b c bs _ h ∙ rw (self at)
outside_again d s at b c bs p n e BeginToken h k = run_step Outside d at at b c bs _ h ∙ rw (self at)

-- a line's end, after a comment or CR
line_again : (d at : ℕ) (b : Bool) (c : ℕ) (bs : List ℕ) → kind c ≡ LineFeed → (s : ℕ)
    → run Outside d at at b (c ∷ bs) ≡ before (finished (line_end d) s (at + 1) b) (run Outside d (at + 1) (at + 1) (blank_after (line_end d) b bs) bs)
line_again zero at b c bs k s = run_step Outside zero at at b c bs _ (ap (outside_step zero) k) ∙ rw (self at)
line_again (suc d) at b c bs k s = run_step Outside (suc d) at at b c bs _ (ap (outside_step (suc d)) k) ∙ rw (self at)

after_line : (m : Mode) (d s at : ℕ) → start_after Comment Outside (line_end d) s at ≡ at + 1
after_line m zero s at = refl
after_line m (suc d) s at = refl

after_return : (d s at : ℕ) → start_after Return Outside (line_end d) s at ≡ at + 1
after_return zero s at = refl
after_return (suc d) s at = refl

comment_again : (k : Kind) (d s at : ℕ) (b : Bool) (c : ℕ) (bs : List ℕ) (p : Piece) (v : Move) → kind c ≡ k → comment_step d k ≡ Some v → Reopens Comment d s at b c bs p v
comment_again LineFeed d s at b c bs p v k h = subst (Reopens Comment d s at b c bs p) (Some_same h) (λ _. line_again d at b c bs k s
    ∙ ap (λ n. before (finished (line_end d) s (at + 1) b) (run Outside d n (at + 1) (blank_after (line_end d) b bs) bs)) (sym (after_line Comment d s at)))
comment_again CarriageReturn d s at b c bs p v k h = subst (Reopens Comment d s at b c bs p) (Some_same h) (λ _. run_step Outside d at at b c bs _ (ap (outside_step d) k) ∙ rw (self at))
comment_again White d s at b c bs p v k h = subst (Reopens Comment d s at b c bs p) (Some_same h) (λ g. none_some g)
comment_again Opening d s at b c bs p v k h = subst (Reopens Comment d s at b c bs p) (Some_same h) (λ g. none_some g)
comment_again Closing d s at b c bs p v k h = subst (Reopens Comment d s at b c bs p) (Some_same h) (λ g. none_some g)
comment_again Semicolon d s at b c bs p v k h = subst (Reopens Comment d s at b c bs p) (Some_same h) (λ g. none_some g)
comment_again DoubleQuote d s at b c bs p v k h = subst (Reopens Comment d s at b c bs p) (Some_same h) (λ g. none_some g)
comment_again Backslash d s at b c bs p v k h = subst (Reopens Comment d s at b c bs p) (Some_same h) (λ g. none_some g)
comment_again Plain d s at b c bs p v k h = subst (Reopens Comment d s at b c bs p) (Some_same h) (λ g. none_some g)

return_again : (k : Kind) (d s at : ℕ) (b : Bool) (c : ℕ) (bs : List ℕ) (p : Piece) (v : Move) → kind c ≡ k → return_step d k ≡ Some v → Reopens Return d s at b c bs p v
return_again LineFeed d s at b c bs p v k h = subst (Reopens Return d s at b c bs p) (Some_same h) (λ _. line_again d at b c bs k s
    ∙ ap (λ n. before (finished (line_end d) s (at + 1) b) (run Outside d n (at + 1) (blank_after (line_end d) b bs) bs)) (sym (after_return d s at)))
return_again CarriageReturn d s at b c bs p v k h = none_some h
return_again White d s at b c bs p v k h = none_some h
return_again Opening d s at b c bs p v k h = none_some h
return_again Closing d s at b c bs p v k h = none_some h
return_again Semicolon d s at b c bs p v k h = none_some h
return_again DoubleQuote d s at b c bs p v k h = none_some h
return_again Backslash d s at b c bs p v k h = none_some h
return_again Plain d s at b c bs p v k h = none_some h

quoted_again : (k : Kind) (d s at : ℕ) (b : Bool) (c : ℕ) (bs : List ℕ) (p : Piece) (v : Move) → quoted_step d k ≡ Some v → Reopens Quoted d s at b c bs p v
quoted_again LineFeed d s at b c bs p v h = none_some h
quoted_again CarriageReturn d s at b c bs p v h = none_some h
quoted_again DoubleQuote d s at b c bs p v h = subst (Reopens Quoted d s at b c bs p) (Some_same h) (λ g. none_some g)
quoted_again White d s at b c bs p v h = added Quoted Quoted d s at b c bs p v refl h
quoted_again Opening d s at b c bs p v h = added Quoted Quoted d s at b c bs p v refl h
quoted_again Closing d s at b c bs p v h = added Quoted Quoted d s at b c bs p v refl h
quoted_again Semicolon d s at b c bs p v h = added Quoted Quoted d s at b c bs p v refl h
quoted_again Plain d s at b c bs p v h = added Quoted Quoted d s at b c bs p v refl h
quoted_again Backslash d s at b c bs p v h = added Quoted (Escape InQuote) d s at b c bs p v refl h

-- if the machine yields the open piece, it may be before the same octet without an open piece
pub reopens : (m : Mode) (d s at : ℕ) (b : Bool) (c : ℕ) (bs : List ℕ) (p : Piece) (v : Move) → step m d c ≡ Some v → Reopens m d s at b c bs p v
reopens Outside d s at b c bs p v h = outside_again d s at b c bs p v.mode v.depth v.act h
reopens Quoted d s at b c bs p v h = quoted_again (kind c) d s at b c bs p v h
reopens Comment d s at b c bs p v h = comment_again (kind c) d s at b c bs p v refl h
reopens Return d s at b c bs p v h = return_again (kind c) d s at b c bs p v refl h
reopens (Escape q) d s at b c bs p v h = one_or (is_digit c) (nat_le c 50) (nat_le 32 c && nat_le c 126) (Escape q) (OneDigit q (c - 48)) (home q) d s at b c bs p v refl refl h
reopens (OneDigit q n) d s at b c bs p v h = only_added (is_digit c && nat_le (10 * n + (c - 48)) 25) (OneDigit q n) (TwoDigits q (10 * n + (c - 48))) d s at b c bs p v refl h
reopens (TwoDigits q n) d s at b c bs p v h = only_added (is_digit c && nat_le (10 * n + (c - 48)) 255) (TwoDigits q n) (home q) d s at b c bs p v refl h

-- in a text: the piece, and what remains
pub turn_closed : (text : List ℕ) (m : Mode) (d s at : ℕ) (b : Bool) (c : ℕ) (p : Piece) (v : Move) → at < length text → c ≡ get_or text at 0 → step m d c ≡ Some v
    → closed_piece m v.mode v.act s at ≡ Some p
    → run m d s at b (drop at text) ≡ Ok p ∷ run Outside d at at b (drop at text)
turn_closed text m d s at b c p v h e g k =
    let rest : List ℕ = drop (at + 1) text in
    let same : drop at text ≡ c ∷ rest = drop_more text at 0 h ∙ ap (λ x. x ∷ rest) (sym e) in
    turn text m d s at b c v h e g
    ∙ ap (λ o. before o (before (finished v.act s (at + 1) b) (run v.mode v.depth (start_after m v.mode v.act s at) (at + 1) (blank_after v.act b rest) rest))) k
    ∙ ap (λ l. Ok p ∷ l) (sym (reopens m d s at b c rest p v g k))
    ∙ ap (λ l. Ok p ∷ run Outside d at at b l) (sym same)

same_blank : (a : Act) (s e : ℕ) (b : Bool) (bs : List ℕ) → finished a s e b ≡ None → blank_after a b bs ≡ b
same_blank Add s e b bs h = refl
same_blank BeginToken s e b bs h = refl
same_blank EndToken s e b bs h = refl
same_blank FinishToken s e b bs h = refl
same_blank EndEntry s e b bs h = none_some (sym h)

-- no piece ends
pub turn_on : (text : List ℕ) (m : Mode) (d s at : ℕ) (b : Bool) (c : ℕ) (v : Move) → at < length text → c ≡ get_or text at 0 → step m d c ≡ Some v → closed_piece m v.mode v.act s at ≡ None
    → finished v.act s (at + 1) b ≡ None
    → run m d s at b (drop at text) ≡ run v.mode v.depth (start_after m v.mode v.act s at) (at + 1) b (drop (at + 1) text)
turn_on text m d s at b c v h e g k f =
    let rest : List ℕ = drop (at + 1) text in
    let left : List (Result Piece Fault) = run v.mode v.depth (start_after m v.mode v.act s at) (at + 1) (blank_after v.act b rest) rest in
    turn text m d s at b c v h e g ∙ ap (λ o. before o (before (finished v.act s (at + 1) b) left)) k ∙ ap (λ o. before o left) f
    ∙ ap (λ x. run v.mode v.depth (start_after m v.mode v.act s at) (at + 1) x rest) (same_blank v.act s (at + 1) b rest f)

-- if a piece ends with an octet, the machine is outside after it, and if an entry does, no parentheses are open
abbrev is_outside : Mode → Bool
is_outside Outside = true
is_outside _ = false

abbrev is_home : Mode → ℕ → Act → Bool
is_home m d EndEntry = is_outside m && d == 0
is_home m d FinishToken = is_outside m
is_home m d _ = true

abbrev comes_home : Option Move → Bool
comes_home None = true
comes_home (Some v) = is_home v.mode v.depth v.act

either_home : (b : Bool) (x y : Option Move) → comes_home x ≡ true → comes_home y ≡ true → comes_home (cond b x y) ≡ true
either_home true x y h k = h
either_home false x y h k = k

line_home : (d : ℕ) → comes_home (move_to Outside d (line_end d)) ≡ true
line_home zero = refl
line_home (suc d) = refl

outside_home : (d : ℕ) (k : Kind) → comes_home (outside_step d k) ≡ true
outside_home d LineFeed = line_home d
outside_home zero Closing = refl
outside_home (suc d) Closing = refl
outside_home d White = refl
outside_home d CarriageReturn = refl
outside_home d Opening = refl
outside_home d Semicolon = refl
outside_home d DoubleQuote = refl
outside_home d Backslash = refl
outside_home d Plain = refl

quoted_home : (d : ℕ) (k : Kind) → comes_home (quoted_step d k) ≡ true
quoted_home d LineFeed = refl
quoted_home d CarriageReturn = refl
quoted_home d DoubleQuote = refl
quoted_home d Backslash = refl
quoted_home d White = refl
quoted_home d Opening = refl
quoted_home d Closing = refl
quoted_home d Semicolon = refl
quoted_home d Plain = refl

comment_home : (d : ℕ) (k : Kind) → comes_home (comment_step d k) ≡ true
comment_home d LineFeed = line_home d
comment_home d CarriageReturn = refl
comment_home d White = refl
comment_home d Opening = refl
comment_home d Closing = refl
comment_home d Semicolon = refl
comment_home d DoubleQuote = refl
comment_home d Backslash = refl
comment_home d Plain = refl

return_home : (d : ℕ) (k : Kind) → comes_home (return_step d k) ≡ true
return_home d LineFeed = line_home d
return_home d CarriageReturn = refl
return_home d White = refl
return_home d Opening = refl
return_home d Closing = refl
return_home d Semicolon = refl
return_home d DoubleQuote = refl
return_home d Backslash = refl
return_home d Plain = refl

step_home : (m : Mode) (d c : ℕ) → comes_home (step m d c) ≡ true
step_home Outside d c = outside_home d (kind c)
step_home Quoted d c = quoted_home d (kind c)
step_home Comment d c = comment_home d (kind c)
step_home Return d c = return_home d (kind c)
step_home (Escape q) d c = either_home (is_digit c) _ _ (either_home (nat_le c 50) _ _ refl refl) (either_home (nat_le 32 c && nat_le c 126) _ _ refl refl)
step_home (OneDigit q n) d c = either_home (is_digit c && nat_le (10 * n + (c - 48)) 25) _ _ refl refl
step_home (TwoDigits q n) d c = either_home (is_digit c && nat_le (10 * n + (c - 48)) 255) _ _ refl refl

outside_is : (m : Mode) → is_outside m ≡ true → m ≡ Outside
outside_is Outside h = refl
outside_is Quoted h = cc
outside_is Comment h = cc
outside_is Return h = cc
outside_is (Escape q) h = cc
outside_is (OneDigit q n) h = cc
outside_is (TwoDigits q n) h = cc

-- the state after the end of an entry
pub entry_home : (m : Mode) (d c : ℕ) (v : Move) → step m d c ≡ Some v → v.act ≡ EndEntry → (v.mode ≡ Outside) × (v.depth ≡ 0)
entry_home m d c v h e =
    let home : is_home v.mode v.depth v.act ≡ true = ap comes_home (sym h) ∙ step_home m d c in
    let p = and_parts (is_outside v.mode) (v.depth == 0) (ap (is_home v.mode v.depth) (sym e) ∙ home) in
    (outside_is v.mode p.0, eqb-true v.depth 0 p.1)

after_finished : (m n : Mode) (a : Act) (d s at : ℕ) (b : Bool) (bs : List ℕ) (p : Piece) → is_home n d a ≡ true → finished a s (at + 1) b ≡ Some p
    → run n d (start_after m n a s at) (at + 1) (blank_after a b bs) bs ≡ run Outside d (at + 1) (at + 1) (blank_after a b bs) bs
after_finished m n EndEntry d s at b bs p h f = ap (λ o. run o d (at + 1) (at + 1) (first_blank bs) bs) (outside_is n (and_parts (is_outside n) (d == 0) h).0)
after_finished m n FinishToken d s at b bs p h f = ap (λ o. run o d (at + 1) (at + 1) b bs) (outside_is n h)
after_finished m n Add d s at b bs p h f = none_some f
after_finished m n BeginToken d s at b bs p h f = none_some f
after_finished m n EndToken d s at b bs p h f = none_some f

-- a piece ends with the octet
pub turn_finished : (text : List ℕ) (m : Mode) (d s at : ℕ) (b : Bool) (c : ℕ) (p : Piece) (v : Move) → at < length text → c ≡ get_or text at 0 → step m d c ≡ Some v
    → closed_piece m v.mode v.act s at ≡ None → finished v.act s (at + 1) b ≡ Some p
    → run m d s at b (drop at text) ≡ Ok p ∷ run Outside v.depth (at + 1) (at + 1) (blank_after v.act b (drop (at + 1) text)) (drop (at + 1) text)
turn_finished text m d s at b c p v h e g k f =
    let rest : List ℕ = drop (at + 1) text in
    let left : List (Result Piece Fault) = run v.mode v.depth (start_after m v.mode v.act s at) (at + 1) (blank_after v.act b rest) rest in
    let home : is_home v.mode v.depth v.act ≡ true = ap comes_home (sym g) ∙ step_home m d c in
    turn text m d s at b c v h e g ∙ ap (λ o. before o (before (finished v.act s (at + 1) b) left)) k ∙ ap (λ o. before o left) f
    ∙ ap (λ l. Ok p ∷ l) (after_finished m v.mode v.act v.depth s at b rest p home f)

-- the flag after a piece that ends before an octet, and after one that ends with it
word_then : (text : List ℕ) (t : Bool) (s at : ℕ) (b : Bool) (p : Piece) → cond t None (Some (word_at s at)) ≡ Some p → blank_then text (Ok p) b ≡ b
word_then text true s at b p e = cc
word_then text false s at b p e = ap (λ q. blank_then text (Ok q) b) (sym (Some_same e))

open_then : (text : List ℕ) (m : Mode) (s at : ℕ) (b : Bool) (p : Piece) → open_piece m s at ≡ Some p → blank_then text (Ok p) b ≡ b
open_then text Comment s at b p e = ap (λ q. blank_then text (Ok q) b) (sym (Some_same e))
open_then text Outside s at b p e = word_then text (s == at) s at b p e
open_then text Quoted s at b p e = word_then text (s == at) s at b p e
open_then text Return s at b p e = word_then text (s == at) s at b p e
open_then text (Escape q) s at b p e = word_then text (s == at) s at b p e
open_then text (OneDigit q n) s at b p e = word_then text (s == at) s at b p e
open_then text (TwoDigits q n) s at b p e = word_then text (s == at) s at b p e

pub closed_then : (text : List ℕ) (m n : Mode) (a : Act) (s at : ℕ) (b : Bool) (p : Piece) → closed_piece m n a s at ≡ Some p → b ≡ blank_then text (Ok p) b
closed_then text m n a s at b p e = go (continues_piece m n a) e
  where
    go : (t : Bool) → cond t None (open_piece m s at) ≡ Some p → b ≡ blank_then text (Ok p) b
    go true h = cc
    go false h = sym (open_then text m s at b p h)

pub finished_then : (text : List ℕ) (a : Act) (s e : ℕ) (b : Bool) (p : Piece) → finished a s e b ≡ Some p → blank_after a b (drop e text) ≡ blank_then text (Ok p) b
finished_then text FinishToken s e b p h = ap (λ q. blank_then text (Ok q) b) (Some_same h)
finished_then text EndEntry s e b p h = ap (λ q. blank_then text (Ok q) b) (Some_same h)
finished_then text EndToken s e b p h = cc
finished_then text Add s e b p h = cc
finished_then text BeginToken s e b p h = cc
