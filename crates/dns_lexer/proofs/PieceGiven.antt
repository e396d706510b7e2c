-- The pieces of what the machine has walked, whatever follows, and the start of what is open.
use Rattle.std.proofs.Common.{◌≡◌, ℕ, zero, suc, ◌+◌, ◌-◌, ◌*◌, ◌<◌, ◌≤◌, Bool, true, false, List, [], ◌∷◌, ◌++◌, length, refl, sym, ap, ◌∙◌, subst, arith, append_assoc, append-nil}
use Rattle.std.proofs.Common.{length-append, inl, inr, ◌⊎◌}
use Rattle.std.specs.Prelude.{Option, Some, None, map, Result, Ok, encode_utf8, encode_utf8_all, option_and_then, nat_le, ◌&&◌, cond}
use Rattle.std.proofs.lemmas.Str.{encode_ascii, length-encode, len_utf8_bounds}
use Rattle.dns_symbol.specs.Symbol.{is_digit}
use Rattle.dns_lexer.specs.declared.reader.Mode.{Mode}
use Rattle.dns_lexer.specs.declared.reader.Mode.TheVariants.{Outside, Quoted, Comment, Return, Escape, OneDigit, TwoDigits}
use Rattle.dns_lexer.specs.declared.reader.Kind.{Kind}
use Rattle.dns_lexer.specs.declared.reader.Kind.TheVariants.{White, LineFeed, CarriageReturn, Opening, Closing, Semicolon, DoubleQuote, Backslash, Plain}
use Rattle.dns_lexer.specs.declared.reader.Act.{Act}
use Rattle.dns_lexer.specs.declared.reader.Act.TheVariants.{Add, BeginToken, EndToken, EndEntry, FinishToken}
use Rattle.dns_lexer.specs.declared.reader.Move.{Move}
use Rattle.dns_lexer.specs.declared.reader.Within.{Within}
use Rattle.dns_lexer.specs.declared.reader.Within.TheVariants.{InWord, InQuote}
use Rattle.dns_lexer.specs.declared.pieces.Piece.{Piece}
use Rattle.dns_lexer.specs.declared.pieces.Fault.{Fault}
use Rattle.dns_lexer.specs.Reader.{kind, home, move_to, step, outside_step, quoted_step, comment_step, return_step}
use Rattle.dns_lexer.specs.Pieces.{BeginsPieces}
use Rattle.dns_lexer.specs.Run.{before, closed_piece, finished, start_after, opens, in_comment, next_open, first_blank, blank_after, run}
use Rattle.dns_lexer.proofs.Complete.{Some_same, View, view, v_space, v_tab, v_lf, v_cr, v_open, v_close, v_note, v_quote, v_escape, v_plain}
use Rattle.dns_lexer.proofs.Viable.{walk}
use Rattle.dns_lexer.proofs.PieceLexemes.{run_some, first_blank_char}
use Rattle.dns_lexer.proofs.PieceWhole.{pieces_run}

-- how far a text is walked
pub record Stop (m : Mode) (d : ℕ) (cs : List ℕ) : Type 0 where
  pub ys : List ℕ
  pub zs : List ℕ
  pub is : cs ≡ ys ++ zs
  pub place : Mode × ℕ
  pub walked : walk m d ys ≡ Some place
  pub end : (zs ≡ []) ⊎ ((c : ℕ) × (ws : List ℕ) × (zs ≡ c ∷ ws) × (step place.0 place.1 c ≡ None))

pub stop : (cs : List ℕ) (m : Mode) (d : ℕ) → Stop m d cs
stop [] m d = record { ys = []; zs = []; is = refl; place = (m, d); walked = refl; end = inl refl }
stop (c ∷ cs) m d = go (step m d c) refl (λ (v : Move). stop cs v.mode v.depth)
  where
    go : (o : Option Move) → step m d c ≡ o → ((v : Move) → Stop v.mode v.depth cs) → Stop m d (c ∷ cs)
    go None e ih = record { ys = []; zs = c ∷ cs; is = refl; place = (m, d); walked = refl; end = inr (c, cs, refl, e) }
    go (Some v) e ih = let r = ih v in record {
      ys = c ∷ r.ys;
      zs = r.zs;
      is = ap (λ l. c ∷ l) r.is;
      place = r.place;
      walked = ap (option_and_then (λ (w : Move). walk w.mode w.depth r.ys)) e
          ∙ r.walked;
      end = r.end;
    }

-- what is open begins no further than here
opens_within : (n : Mode) (at : ℕ) → opens n at ≤ at + 1
opens_within Comment at = omega arith
opens_within Outside at = omega arith
opens_within Quoted at = omega arith
opens_within Return at = omega arith
opens_within (Escape q) at = omega arith
opens_within (OneDigit q n) at = omega arith
opens_within (TwoDigits q n) at = omega arith

in_comment_within : (n : Mode) (s at : ℕ) → s ≤ at → in_comment n s at ≤ at + 1
in_comment_within Comment s at h = omega arith
in_comment_within Outside s at h = omega arith
in_comment_within Quoted s at h = omega arith
in_comment_within Return s at h = omega arith
in_comment_within (Escape q) s at h = omega arith
in_comment_within (OneDigit q n) s at h = omega arith
in_comment_within (TwoDigits q n) s at h = omega arith

next_within : (m n : Mode) (s at : ℕ) → s ≤ at → next_open m n s at ≤ at + 1
next_within Comment n s at h = in_comment_within n s at h
next_within Outside n s at h = opens_within n at
next_within Quoted n s at h = opens_within n at
next_within Return n s at h = opens_within n at
next_within (Escape q) n s at h = opens_within n at
next_within (OneDigit q k) n s at h = opens_within n at
next_within (TwoDigits q k) n s at h = opens_within n at

pub start_within : (m n : Mode) (a : Act) (s at : ℕ) → s ≤ at → start_after m n a s at ≤ at + 1
start_within m n Add s at h = omega arith
start_within m n BeginToken s at h = omega arith
start_within m n EndToken s at h = next_within m n s at h
start_within m n EndEntry s at h = omega arith
start_within m n FinishToken s at h = omega arith

abbrev pub is_return : Mode → Bool
is_return Return = true
is_return _ = false

false_true : {A : Type 0} → false ≡ true → A
false_true h = cc

-- nothing but CR leads past a CR, and nothing is open there
abbrev Returns : Mode → ℕ → Move → Type 0
Returns m c v = is_return v.mode ≡ true → (c ≡ 13) × ((s at : ℕ) → start_after m v.mode v.act s at ≡ at + 1)

other : (m : Mode) (c : ℕ) (n : Mode) (d : ℕ) (a : Act) (v : Move) → is_return n ≡ false → move_to n d a ≡ Some v → Returns m c v
other m c n d a v e h = subst (Returns m c) (Some_same h) (λ k. false_true (sym e ∙ k))

only_other : (t : Bool) (m : Mode) (c : ℕ) (n : Mode) (d : ℕ) (v : Move) → is_return n ≡ false → cond t (move_to n d Add) None ≡ Some v → Returns m c v
only_other true m c n d v e h = other m c n d Add v e h
only_other false m c n d v e h = cc

one_other : (t g k : Bool) (m : Mode) (c : ℕ) (n n' : Mode) (d : ℕ) (v : Move) → is_return n ≡ false → is_return n' ≡ false
    → cond t (cond g (move_to n d Add) None) (cond k (move_to n' d Add) None) ≡ Some v → Returns m c v
one_other true g k m c n n' d v e f h = only_other g m c n d v e h
one_other false g k m c n n' d v e f h = only_other k m c n' d v f h

outside_returns : (d c : ℕ) (v : Move) → View c → step Outside d c ≡ Some v → Returns Outside c v
outside_returns d _ v v_cr h = subst (Returns Outside 13) (Some_same h) (λ k. (refl, λ s at. refl))
outside_returns d c v (v_plain p) h = other Outside c _ _ _ v refl (ap (outside_step d) (sym p.kind_is) ∙ h)
outside_returns d _ v v_space h = other Outside _ _ _ _ v refl h
outside_returns d _ v v_tab h = other Outside _ _ _ _ v refl h
outside_returns d _ v v_lf h = other Outside _ _ _ _ v refl h
outside_returns d _ v v_open h = other Outside _ _ _ _ v refl h
outside_returns zero _ v v_close h = cc
outside_returns (suc d) _ v v_close h = other Outside _ _ _ _ v refl h
outside_returns d _ v v_note h = other Outside _ _ _ _ v refl h
outside_returns d _ v v_quote h = other Outside _ _ _ _ v refl h
outside_returns d _ v v_escape h = other Outside _ _ _ _ v refl h

comment_returns : (d c : ℕ) (v : Move) → View c → step Comment d c ≡ Some v → Returns Comment c v
comment_returns d _ v v_cr h = subst (Returns Comment 13) (Some_same h) (λ k. (refl, λ s at. refl))
comment_returns d c v (v_plain p) h = other Comment c _ _ _ v refl (ap (comment_step d) (sym p.kind_is) ∙ h)
comment_returns d _ v v_space h = other Comment _ _ _ _ v refl h
comment_returns d _ v v_tab h = other Comment _ _ _ _ v refl h
comment_returns d _ v v_lf h = other Comment _ _ _ _ v refl h
comment_returns d _ v v_open h = other Comment _ _ _ _ v refl h
comment_returns d _ v v_close h = other Comment _ _ _ _ v refl h
comment_returns d _ v v_note h = other Comment _ _ _ _ v refl h
comment_returns d _ v v_quote h = other Comment _ _ _ _ v refl h
comment_returns d _ v v_escape h = other Comment _ _ _ _ v refl h

quoted_returns : (k : Kind) (d c : ℕ) (v : Move) → quoted_step d k ≡ Some v → Returns Quoted c v
quoted_returns LineFeed d c v h = cc
quoted_returns CarriageReturn d c v h = cc
quoted_returns DoubleQuote d c v h = other Quoted _ _ _ _ v refl h
quoted_returns Backslash d c v h = other Quoted _ _ _ _ v refl h
quoted_returns White d c v h = other Quoted _ _ _ _ v refl h
quoted_returns Opening d c v h = other Quoted _ _ _ _ v refl h
quoted_returns Closing d c v h = other Quoted _ _ _ _ v refl h
quoted_returns Semicolon d c v h = other Quoted _ _ _ _ v refl h
quoted_returns Plain d c v h = other Quoted _ _ _ _ v refl h

return_returns : (k : Kind) (d c : ℕ) (v : Move) → return_step d k ≡ Some v → Returns Return c v
return_returns LineFeed d c v h = other Return _ _ _ _ v refl h
return_returns CarriageReturn d c v h = cc
return_returns DoubleQuote d c v h = cc
return_returns Backslash d c v h = cc
return_returns White d c v h = cc
return_returns Opening d c v h = cc
return_returns Closing d c v h = cc
return_returns Semicolon d c v h = cc
return_returns Plain d c v h = cc

home_other : (q : Within) → is_return (home q) ≡ false
home_other InWord = refl
home_other InQuote = refl

step_returns : (m : Mode) (d c : ℕ) (v : Move) → step m d c ≡ Some v → Returns m c v
step_returns Outside d c v h = outside_returns d c v (view c) h
step_returns Comment d c v h = comment_returns d c v (view c) h
step_returns Quoted d c v h = quoted_returns (kind c) d c v h
step_returns Return d c v h = return_returns (kind c) d c v h
step_returns (Escape q) d c v h = one_other (is_digit c) (nat_le c 50) (nat_le 32 c && nat_le c 126) (Escape q) c (OneDigit q (c - 48)) (home q) d v refl (home_other q) h
step_returns (OneDigit q n) d c v h = only_other (is_digit c && nat_le (10 * n + (c - 48)) 25) (OneDigit q n) c (TwoDigits q (10 * n + (c - 48))) d v refl h
step_returns (TwoDigits q n) d c v h = only_other (is_digit c && nat_le (10 * n + (c - 48)) 255) (TwoDigits q n) c (home q) d v (home_other q) h

-- the start of what is open: after a CR, here
abbrev pub Stands : Mode → ℕ → ℕ → Type 0
Stands m s at = (s ≤ at) × (is_return m ≡ true → s ≡ at)

step_stands : (m : Mode) (d c s at : ℕ) (v : Move) → step m d c ≡ Some v → s ≤ at → Stands v.mode (start_after m v.mode v.act s at) (at + length (encode_utf8 c))
step_stands m d c s at v h w = (
  omega (arith, start_within m v.mode v.act s at w, length-encode c, (len_utf8_bounds c).0),
  λ k.
      let r = step_returns m d c v h k in
      r.1 s at ∙ ap (λ l. at + length l) (sym (encode_ascii 13 (omega arith))) ∙ ap (λ x. at + length (encode_utf8 x)) (sym r.0),
)

-- the pieces of what was walked, whatever follows
pub record Gives (m : Mode) (d s at : ℕ) (b : Bool) (ys : List ℕ) (p : Mode × ℕ) : Type 0 where
  pub found : List Piece
  pub start : ℕ
  pub gives : (rest : List ℕ) → (x : Bool) × (run m d s at b (encode_utf8_all ys ++ rest) ≡ map Ok found ++ run p.0 p.1 start (at + length (encode_utf8_all ys)) x rest)
  pub stands : Stands m s at → Stands p.0 start (at + length (encode_utf8_all ys))

abbrev listed : Option Piece → List Piece
listed None = []
listed (Some p) = p ∷ []

both : (o q : Option Piece) (found : List Piece) (k : List (Result Piece Fault)) → before o (before q (map Ok found ++ k)) ≡ map Ok (listed o ++ (listed q ++ found)) ++ k
both None None found k = refl
both None (Some q) found k = refl
both (Some o) None found k = refl
both (Some o) (Some q) found k = refl

-- one more character before
more : (c : ℕ) (ys : List ℕ) (m : Mode) (d s at : ℕ) (b x : Bool) (v : Move) (p : Mode × ℕ) → step m d c ≡ Some v → ((rest : List ℕ) → blank_after v.act b (encode_utf8_all ys ++ rest) ≡ x)
    → Gives v.mode v.depth (start_after m v.mode v.act s at) (at + length (encode_utf8 c)) x ys p → Gives m d s at b (c ∷ ys) p
more c ys m d s at b x v p h same g = record {
  found = listed (closed_piece m v.mode v.act s at) ++ (listed (finished v.act s (at + 1) b) ++ g.found);
  start = g.start;
  gives = λ rest.
      let r = g.gives rest in
      let all : List ℕ = encode_utf8_all ys ++ rest in
      let o : Option Piece = closed_piece m v.mode v.act s at in
      let q : Option Piece = finished v.act s (at + 1) b in
      let e : ℕ = at + length (encode_utf8 c) in (
        r.0,
        ap (run m d s at b) (append_assoc (encode_utf8 c) (encode_utf8_all ys) rest)
            ∙ run_some m d s at b c all v h
            ∙ ap (λ y. before o (before q (run v.mode v.depth (start_after m v.mode v.act s at) e y all))) (same rest)
            ∙ ap (λ l. before o (before q l)) r.1
            ∙ both o q g.found (run p.0 p.1 g.start (e + length (encode_utf8_all ys)) r.0 rest)
            ∙ ap (λ n. map Ok (listed o ++ (listed q ++ g.found)) ++ run p.0 p.1 g.start n r.0 rest) (omega (arith, length-append (encode_utf8 c) (encode_utf8_all ys))),
      );
  stands = λ k. subst (Stands p.0 g.start) (omega (arith, length-append (encode_utf8 c) (encode_utf8_all ys))) (g.stands (step_stands m d c s at v h k.0));
}

last_one : (c : ℕ) (m : Mode) (d s at : ℕ) (b : Bool) (v : Move) → step m d c ≡ Some v → Gives m d s at b (c ∷ []) (v.mode, v.depth)
last_one c m d s at b v h = record {
  found = listed (closed_piece m v.mode v.act s at) ++ (listed (finished v.act s (at + 1) b) ++ []);
  start = start_after m v.mode v.act s at;
  gives = λ rest.
      let o : Option Piece = closed_piece m v.mode v.act s at in
      let q : Option Piece = finished v.act s (at + 1) b in
      let t : ℕ = start_after m v.mode v.act s at in
      let x : Bool = blank_after v.act b rest in (
        x,
        ap (λ l. run m d s at b (l ++ rest)) (append-nil (encode_utf8 c))
            ∙ run_some m d s at b c rest v h
            ∙ both o q [] (run v.mode v.depth t (at + length (encode_utf8 c)) x rest)
            ∙ ap (λ l. map Ok (listed o ++ (listed q ++ [])) ++ run v.mode v.depth t (at + length l) x rest) (sym (append-nil (encode_utf8 c))),
      );
  stands = λ k. subst (λ l. Stands v.mode (start_after m v.mode v.act s at) (at + length l)) (sym (append-nil (encode_utf8 c))) (step_stands m d c s at v h k.0);
}

then_blank : (a : Act) (b : Bool) (c : ℕ) (ys rest : List ℕ) → blank_after a b (encode_utf8_all (c ∷ ys) ++ rest) ≡ blank_after a b (c ∷ [])
then_blank EndEntry b c ys rest = ap first_blank (append_assoc (encode_utf8 c) (encode_utf8_all ys) rest) ∙ first_blank_char c (encode_utf8_all ys ++ rest)
then_blank Add b c ys rest = refl
then_blank BeginToken b c ys rest = refl
then_blank EndToken b c ys rest = refl
then_blank FinishToken b c ys rest = refl

settle : (ys : List ℕ) (m : Mode) (d s at : ℕ) (b : Bool) (p : Mode × ℕ) → walk m d ys ≡ Some p → Gives m d s at b ys p
settle [] m d s at b p h = subst (Gives m d s at b []) (Some_same h)
    (record { found = []; start = s; gives = λ rest. (b, ap (λ n. run m d s n b rest) (omega arith)); stands = λ k. subst (Stands m s) (omega arith) k })
settle (c ∷ []) m d s at b p h = go (step m d c) refl h
  where
    go : (o : Option Move) → step m d c ≡ o → option_and_then (λ (v : Move). walk v.mode v.depth []) o ≡ Some p → Gives m d s at b (c ∷ []) p
    go None e k = cc
    go (Some v) e k = subst (Gives m d s at b (c ∷ [])) (Some_same k) (last_one c m d s at b v e)
settle (c ∷ y ∷ ys) m d s at b p h = go (step m d c) refl h (λ (v : Move) (t e : ℕ) (x : Bool) (k : walk v.mode v.depth (y ∷ ys) ≡ Some p). settle (y ∷ ys) v.mode v.depth t e x p k)
  where
    go : (o : Option Move) → step m d c ≡ o → option_and_then (λ (v : Move). walk v.mode v.depth (y ∷ ys)) o ≡ Some p
        → ((v : Move) (t e : ℕ) (x : Bool) → walk v.mode v.depth (y ∷ ys) ≡ Some p → Gives v.mode v.depth t e x (y ∷ ys) p) → Gives m d s at b (c ∷ y ∷ ys) p
    go None e k ih = cc
    go (Some v) e k ih = more c (y ∷ ys) m d s at b (blank_after v.act b (y ∷ [])) v p e (then_blank v.act b y ys) (ih v _ _ _ k)

abbrev pub tail_of : List (Result Piece Fault) → List (Result Piece Fault)
tail_of [] = []
tail_of (x ∷ xs) = xs

abbrev pub first_of : Piece → List (Result Piece Fault) → Piece
first_of p (Ok q ∷ xs) = q
first_of p _ = p

-- pieces that are first among pieces
pub front_of : (found all : List Piece) (l : List (Result Piece Fault)) → map Ok all ≡ map Ok found ++ l → (more : List Piece) × (all ≡ found ++ more)
front_of [] all l e = (all, refl)
front_of (p ∷ ps) [] l e = cc
front_of (p ∷ ps) (q ∷ qs) l e =
    let r = front_of ps qs l (ap tail_of e) in
    (r.0, ap (λ x. x ∷ qs) (ap (first_of q) e) ∙ ap (λ x. p ∷ x) r.1)

pub same_first : (c : ℕ) (ys r1 r2 : List ℕ) → first_blank (encode_utf8_all (c ∷ ys) ++ r1) ≡ first_blank (encode_utf8_all (c ∷ ys) ++ r2)
same_first c ys r1 r2 = then_blank EndEntry false c ys r1 ∙ sym (then_blank EndEntry false c ys r2)

-- what was walked settles its pieces
pub settled : (ys r : List ℕ) (p : Mode × ℕ) → (g : Gives Outside 0 0 0 (first_blank (encode_utf8_all ys ++ r)) ys p) → walk Outside 0 ys ≡ Some p → g.found ≡ [] ⊎ (0 < length ys)
    → BeginsPieces (encode_utf8_all ys) g.found
settled [] r p g h (inl e) rest all is = (all, ap (λ l. l ++ all) (sym e))
settled [] r p g h (inr e) rest all is = absurd (omega arith)
settled (c ∷ ys) r p g h e rest all is =
    let k = g.gives rest in
    let text : List ℕ = encode_utf8_all (c ∷ ys) ++ rest in
    front_of g.found all (run p.0 p.1 g.start (0 + length (encode_utf8_all (c ∷ ys))) k.0 rest) (sym (pieces_run text all is) ∙ ap (λ b. run Outside 0 0 0 b text) (same_first c ys rest r) ∙ k.1)

-- nothing is found in nothing
pub some_walked : (ys : List ℕ) (b : Bool) (p : Mode × ℕ) (h : walk Outside 0 ys ≡ Some p) → (g : Gives Outside 0 0 0 b ys p) × ((g.found ≡ []) ⊎ (0 < length ys))
some_walked [] b p h = (subst (Gives Outside 0 0 0 b []) (Some_same h) (record { found = []; start = 0; gives = λ rest. (b, refl); stands = λ k. k }), inl refl)
some_walked (c ∷ ys) b p h = (settle (c ∷ ys) Outside 0 0 0 b p h, inr (omega arith))
