-- The outermost open parenthesis.
use Rattle.std.proofs.Common.{◌≡◌, ℕ, zero, suc, ◌+◌, ◌-◌, ◌*◌, ◌<◌, Bool, true, false, cond, ◌&&◌, nat_le, List, [], ◌∷◌, ◌++◌, length, take, drop, replicate, refl, sym, ap, ◌∙◌, subst, arith}
use Rattle.std.proofs.Common.{append_assoc, append-nil, length-append, inl, inr, ◌⊎◌, IsUtf8}
use Rattle.std.specs.Prelude.{Some, None, option_and_then, encode_utf8, encode_utf8_all}
use Rattle.std.specs.List.{flat_map}
use lib.Utf8.{scalars}
use Rattle.std.proofs.Math.Seq.{take-append_seam, take-append-add}
use Rattle.std.proofs.lemmas.List.{drop_at, take-append-drop}
use Rattle.std.proofs.lemmas.Str.{encodes-append, encode_ascii}
use Rattle.dns_lexer.specs.declared.reader.Mode.{Mode}
use Rattle.dns_lexer.specs.declared.reader.Mode.TheVariants.{Outside, Quoted, Comment, Return, Escape, OneDigit, TwoDigits}
use Rattle.dns_lexer.specs.declared.reader.Kind.{Kind}
use Rattle.dns_lexer.specs.declared.reader.Kind.TheVariants.{White, LineFeed, CarriageReturn, Opening, Closing, Semicolon, DoubleQuote, Backslash, Plain}
use Rattle.dns_lexer.specs.declared.reader.Act.{Act}
use Rattle.dns_lexer.specs.declared.reader.Act.TheVariants.{Add, EndToken}
use Rattle.dns_lexer.specs.declared.reader.Move.{Move}
use Rattle.dns_symbol.specs.Symbol.{is_digit}
use Rattle.dns_lexer.specs.Lexeme.{characters}
use Rattle.dns_lexer.specs.Splitting.{Entries, Splits}
use Rattle.dns_lexer.specs.Reader.{kind, home, move_to, step, outside_step, quoted_step, comment_step, return_step, read, with_open, may_end}
use Rattle.dns_lexer.specs.Unclosed.{IsOpener, LacksClosing}
use Rattle.dns_lexer.specs.Run.{may_end_line}
use Rattle.dns_lexer.proofs.Complete.{Some_same, View, view, v_space, v_tab, v_lf, v_cr, v_open, v_close, v_note, v_quote, v_escape, v_plain, splits_read, bytes_all}
use Rattle.dns_lexer.proofs.Sound.{read_splits}
use Rattle.dns_lexer.proofs.Viable.{walk, walked, walk_append, walk_completes, not_ended, begin_same, line_completes, low_encodes, low_close, scalars_left}
use Rattle.dns_lexer.proofs.PieceFaults.{parenthesis}

same : (m : Mode) (d : ℕ) (a : Act) (v : Move) → move_to m d a ≡ Some v → v.depth ≡ d
same m d a v h = ap (λ (w : Move). w.depth) (sym (Some_same h))

quoted_same : (d : ℕ) (k : Kind) (v : Move) → quoted_step d k ≡ Some v → v.depth ≡ d
quoted_same d LineFeed v h = cc
quoted_same d CarriageReturn v h = cc
quoted_same d White v h = same _ d _ v h
quoted_same d Opening v h = same _ d _ v h
quoted_same d Closing v h = same _ d _ v h
quoted_same d Semicolon v h = same _ d _ v h
quoted_same d DoubleQuote v h = same _ d _ v h
quoted_same d Backslash v h = same _ d _ v h
quoted_same d Plain v h = same _ d _ v h

comment_same : (d : ℕ) (k : Kind) (v : Move) → comment_step d k ≡ Some v → v.depth ≡ d
comment_same d LineFeed v h = same _ d _ v h
comment_same d CarriageReturn v h = same _ d _ v h
comment_same d White v h = same _ d _ v h
comment_same d Opening v h = same _ d _ v h
comment_same d Closing v h = same _ d _ v h
comment_same d Semicolon v h = same _ d _ v h
comment_same d DoubleQuote v h = same _ d _ v h
comment_same d Backslash v h = same _ d _ v h
comment_same d Plain v h = same _ d _ v h

return_same : (d : ℕ) (k : Kind) (v : Move) → return_step d k ≡ Some v → v.depth ≡ d
return_same d LineFeed v h = same _ d _ v h
return_same d CarriageReturn v h = cc
return_same d White v h = cc
return_same d Opening v h = cc
return_same d Closing v h = cc
return_same d Semicolon v h = cc
return_same d DoubleQuote v h = cc
return_same d Backslash v h = cc
return_same d Plain v h = cc

only : (b : Bool) (m : Mode) (d : ℕ) (v : Move) → cond b (move_to m d Add) None ≡ Some v → v.depth ≡ d
only true m d v h = same m d Add v h
only false m d v h = cc

either : (b g k : Bool) (m n : Mode) (d : ℕ) (v : Move) → cond b (cond g (move_to m d Add) None) (cond k (move_to n d Add) None) ≡ Some v → v.depth ≡ d
either true g k m n d v h = only g m d v h
either false g k m n d v h = only k n d v h

-- the first parenthesis
record Begins (m : Mode) (c : ℕ) (v : Move) : Type 0 where
  pub outside : m ≡ Outside
  pub is : c ≡ 40

begins_outside : (c : ℕ) (v : Move) → View c → step Outside 0 c ≡ Some v → 0 < v.depth → Begins Outside c v
begins_outside _ v v_open h p = record { outside = refl; is = refl }
begins_outside _ v v_space h p = absurd (omega (arith, same _ 0 _ v h))
begins_outside _ v v_tab h p = absurd (omega (arith, same _ 0 _ v h))
begins_outside _ v v_lf h p = absurd (omega (arith, same _ 0 _ v h))
begins_outside _ v v_cr h p = absurd (omega (arith, same _ 0 _ v h))
begins_outside _ v v_close h p = cc
begins_outside _ v v_note h p = absurd (omega (arith, same _ 0 _ v h))
begins_outside _ v v_quote h p = absurd (omega (arith, same _ 0 _ v h))
begins_outside _ v v_escape h p = absurd (omega (arith, same _ 0 _ v h))
begins_outside c v (v_plain q) h p = absurd (omega (arith, same Outside 0 Add v (ap (outside_step 0) (sym q.kind_is) ∙ h)))

begins : (m : Mode) (c : ℕ) (v : Move) → step m 0 c ≡ Some v → 0 < v.depth → Begins m c v
begins Outside c v h p = begins_outside c v (view c) h p
begins Quoted c v h p = absurd (omega (arith, quoted_same 0 (kind c) v h))
begins Comment c v h p = absurd (omega (arith, comment_same 0 (kind c) v h))
begins Return c v h p = absurd (omega (arith, return_same 0 (kind c) v h))
begins (Escape q) c v h p = absurd (omega (arith, either (is_digit c) (nat_le c 50) (nat_le 32 c && nat_le c 126) (OneDigit q (c - 48)) (home q) 0 v h))
begins (OneDigit q n) c v h p = absurd (omega (arith, only (is_digit c && nat_le (10 * n + (c - 48)) 25) (TwoDigits q (10 * n + (c - 48))) 0 v h))
begins (TwoDigits q n) c v h p = absurd (omega (arith, only (is_digit c && nat_le (10 * n + (c - 48)) 255) (home q) 0 v h))

-- what was read: a parenthesis at that offset, and no return to depth 0 after it
pub record Opened (ys : List ℕ) (opened : ℕ) : Type 0 where
  pub front : List ℕ
  pub back : List ℕ
  pub is : ys ≡ front ++ 40 ∷ back
  pub place : opened ≡ length (encode_utf8_all front)
  pub outside : walk Outside 0 front ≡ Some (Outside, 0)
  pub stays : (xs zs : List ℕ) (p : Mode × ℕ) → back ≡ xs ++ zs → walk Outside 1 xs ≡ Some p → 0 < p.1

walk_on : (front zs : List ℕ) → walk Outside 0 front ≡ Some (Outside, 0) → walk Outside 0 (front ++ 40 ∷ zs) ≡ walk Outside 1 zs
walk_on front zs h = walk_append front (40 ∷ zs) Outside 0 ∙ ap (option_and_then (λ (p : Mode × ℕ). walk p.0 p.1 (40 ∷ zs))) h

tail_of : List ℕ → List ℕ
tail_of [] = []
tail_of (x ∷ xs) = xs

-- a beginning of a list and one more is all of it, or a beginning of the list
last_or : (back xs zs : List ℕ) (c : ℕ) → back ++ c ∷ [] ≡ xs ++ zs → (xs ≡ back ++ c ∷ []) ⊎ ((more : List ℕ) × (back ≡ xs ++ more))
last_or back [] zs c e = inr (back, refl)
last_or [] (x ∷ []) zs c e = let first : c ≡ x = cc in inl (ap (λ y. y ∷ []) (sym first))
last_or [] (x ∷ y ∷ xs) zs c e = cc
last_or (b ∷ back) (x ∷ xs) zs c e =
    let first : b ≡ x = cc in
    let rest : back ++ c ∷ [] ≡ xs ++ zs = cc in
    elim (last_or back xs zs c rest) [
      | inl all ↦ inl (ap (λ y. y ∷ xs) (sym first) ∙ ap (λ l. b ∷ l) all)
      | inr some ↦ inr (some.0, ap (λ l. b ∷ l) some.1 ∙ ap (λ y. y ∷ (xs ++ some.0)) first)
    ]

pub one_walked : (ys : List ℕ) (c : ℕ) (m : Mode) (d : ℕ) (v : Move) → walk Outside 0 ys ≡ Some (m, d) → step m d c ≡ Some v → walk Outside 0 (ys ++ c ∷ []) ≡ Some (v.mode, v.depth)
one_walked ys c m d v h e = walk_append ys (c ∷ []) Outside 0 ∙ ap (option_and_then (λ (p : Mode × ℕ). walk p.0 p.1 (c ∷ []))) h ∙ ap (option_and_then (λ (w : Move). walk w.mode w.depth [])) e

-- from depth 0
pub first_opened : (ys : List ℕ) (c : ℕ) (m : Mode) (d : ℕ) (v : Move) (at : ℕ) → d ≡ 0 → walk Outside 0 ys ≡ Some (m, d) → step m d c ≡ Some v → at ≡ length (encode_utf8_all ys) → 0 < v.depth
    → Opened (ys ++ c ∷ []) at
first_opened ys c m d v at zero_depth h e k p =
    let b = begins m c v (ap (λ n. step m n c) (sym zero_depth) ∙ e) p in
    record {
      front = ys;
      back = [];
      is = ap (λ x. ys ++ x ∷ []) b.is;
      place = k;
      outside = h ∙ ap (λ n. Some (m, n)) zero_depth ∙ ap (λ n. Some (n, 0)) b.outside;
      stays = λ xs zs q same w. stays_empty xs zs q same w;
    }
  where
    stays_empty : (xs zs : List ℕ) (q : Mode × ℕ) → [] ≡ xs ++ zs → walk Outside 1 xs ≡ Some q → 0 < q.1
    stays_empty [] zs q e w = subst (λ (r : Mode × ℕ). 0 < r.1) (Some_same w) (omega arith)
    stays_empty (x ∷ xs) zs q e w = cc

-- from within
pub still_opened : (ys : List ℕ) (c : ℕ) (m : Mode) (d : ℕ) (v : Move) (opened : ℕ) → walk Outside 0 ys ≡ Some (m, d) → step m d c ≡ Some v → Opened ys opened → 0 < v.depth
    → Opened (ys ++ c ∷ []) opened
still_opened ys c m d v opened h e o p = record {
  front = o.front;
  back = o.back ++ c ∷ [];
  is = ap (λ l. l ++ c ∷ []) o.is ∙ append_assoc o.front (40 ∷ o.back) (c ∷ []);
  place = o.place;
  outside = o.outside;
  stays = λ xs zs q same w. elim (last_or o.back xs zs c same) [
    | inl all ↦
        let whole : Some q ≡ Some (v.mode, v.depth) =
        sym w ∙ ap (walk Outside 1) all ∙ sym (walk_on o.front (o.back ++ c ∷ []) o.outside) ∙ ap (walk Outside 0) (sym (ap (λ l. l ++ c ∷ []) o.is ∙ append_assoc o.front (40 ∷ o.back) (c ∷ [])))
        ∙ one_walked ys c m d v h e in
        subst (λ (r : Mode × ℕ). 0 < r.1) (sym (Some_same whole)) p
    | inr some ↦ o.stays xs some.0 q some.1 w
  ];
}

cancel : (xs a b : List ℕ) → xs ++ a ≡ xs ++ b → a ≡ b
cancel [] a b e = e
cancel (x ∷ xs) a b e = let rest : xs ++ a ≡ xs ++ b = cc in cancel xs a b rest

ended_outside : (m : Mode) (d : ℕ) → may_end m d ≡ true → d ≡ 0
ended_outside Outside zero h = refl
ended_outside Outside (suc d) h = cc
ended_outside Comment zero h = refl
ended_outside Comment (suc d) h = cc
ended_outside Quoted d h = cc
ended_outside Return d h = cc
ended_outside (Escape q) d h = cc
ended_outside (OneDigit q n) d h = cc
ended_outside (TwoDigits q n) d h = cc

-- at the end of characters that split, no parenthesis is open
split_ends : (cs : List ℕ) (e : Entries) → read Outside 0 [] cs ≡ Some e → (p : Mode × ℕ) × (walk Outside 0 cs ≡ Some p) × (p.1 ≡ 0)
split_ends cs e r =
    let w = walked cs [] Outside 0 [] e (ap (read Outside 0 []) (append-nil cs) ∙ r) in
    (w.0, w.1, go w.0 w.1 (may_end w.0.0 w.0.1) refl)
  where
    go : (p : Mode × ℕ) → walk Outside 0 cs ≡ Some p → (b : Bool) → may_end p.0 p.1 ≡ b → p.1 ≡ 0
    go p h true k = ended_outside p.0 p.1 k
    go p h false k = absurd (not_ended cs Outside 0 p h k [] e r)

pub opener : (text ys : List ℕ) (opened : ℕ) → encode_utf8_all ys ≡ text → scalars ys ≡ true → Opened ys opened → IsOpener text opened
opener text ys opened is ok o =
    let front : List ℕ = encode_utf8_all o.front in
    let rest : List ℕ = encode_utf8_all (40 ∷ o.back) in
    let all : text ≡ front ++ rest = sym is ∙ ap encode_utf8_all o.is ∙ encodes-append o.front (40 ∷ o.back) in
    let k = walk_completes o.front [] Outside 0 (Outside, 0) o.outside (λ t. (with_open t ([] ∷ []), refl)) [] in
    let fine : scalars o.front ≡ true = scalars_left o.front (40 ∷ o.back) (ap scalars (sym o.is) ∙ ok) in
    record {
      inside = encode_utf8_all o.back;
      opens = ap (drop opened) all ∙ drop_at front rest opened (sym o.place) ∙ ap (λ l. l ++ encode_utf8_all o.back) (encode_ascii 40 (omega arith));
      found = k.0;
      splits = subst (λ l. Splits l k.0) (sym (ap (take opened) all ∙ ap (λ n. take n (front ++ rest)) o.place ∙ take-append_seam front rest))
          (read_splits o.front k.0 fine (ap (read Outside 0 []) (sym (append-nil o.front)) ∙ k.1));
      never_closed = λ j more within e s.
          let cs : List ℕ = flat_map characters s.lexemes in
          let spelled : encode_utf8_all cs ≡ take j text = sym (bytes_all s.lexemes) ∙ s.spelled in
          let begin : List ℕ = o.front ++ 40 ∷ [] in
          let long : length (encode_utf8_all begin) ≡ opened + 1 = ap length (encodes-append o.front (40 ∷ []) ∙ ap (λ l. front ++ (l ++ [])) (encode_ascii 40 (omega arith)))
          ∙ length-append front (40 ∷ []) ∙ ap (λ n. n + 1) (sym o.place) in
          let n : ℕ = j - (opened + 1) in
          let far : j ≡ length (encode_utf8_all begin) + n = omega arith in
          let shape : text ≡ encode_utf8_all begin ++ encode_utf8_all o.back = sym is ∙ ap encode_utf8_all (o.is ∙ sym (append_assoc o.front (40 ∷ []) o.back)) ∙ encodes-append begin o.back in
          let r : List ℕ = take n (encode_utf8_all o.back) in
          let cut : encode_utf8_all cs ≡ encode_utf8_all begin ++ r = spelled ∙ ap (take j) shape ∙ ap (λ i. take i (encode_utf8_all begin ++ encode_utf8_all o.back)) far
          ∙ take-append-add (encode_utf8_all begin) (encode_utf8_all o.back) n in
          let a = begin_same begin cs r cut in
          let b = begin_same cs ys (drop j text) (is ∙ sym (take-append-drop j text) ∙ ap (λ l. l ++ drop j text) (sym spelled)) in
          let back : o.back ≡ a.0 ++ b.0 =
          cancel begin o.back (a.0 ++ b.0) (append_assoc o.front (40 ∷ []) o.back ∙ sym o.is ∙ b.1 ∙ ap (λ l. l ++ b.0) a.1 ∙ append_assoc begin a.0 b.0) in
          let w = split_ends cs e (splits_read cs (take j text) e spelled s) in
          let there : walk Outside 1 a.0 ≡ Some w.0 = sym (walk_on o.front a.0 o.outside) ∙ ap (walk Outside 0) (sym (append_assoc o.front (40 ∷ []) a.0) ∙ sym a.1) ∙ w.1 in
          let deep = o.stays a.0 b.0 w.0 back there in
          absurd (omega (arith, deep, w.2));
    }

-- closing parentheses on a line of their own complete what may end a line inside parentheses
pub left_open : (ys : List ℕ) (m : Mode) (d : ℕ) → scalars ys ≡ true → walk Outside 0 ys ≡ Some (m, d) → 0 < d → may_end_line m ≡ true → LacksClosing (encode_utf8_all ys)
left_open ys m zero ok h p f = absurd (omega arith)
left_open ys Outside (suc d) ok h p f = parenthesis ys Outside d ok h (line_completes Outside (suc d) EndToken refl)
left_open ys Comment (suc d) ok h p f = parenthesis ys Comment d ok h (line_completes Comment (suc d) EndToken refl)
left_open ys Return (suc d) ok h p f = parenthesis ys Return d ok h (line_completes Return (suc d) EndToken refl)
left_open ys Quoted (suc d) ok h p f = cc
left_open ys (Escape q) (suc d) ok h p f = cc
left_open ys (OneDigit q n) (suc d) ok h p f = cc
left_open ys (TwoDigits q n) (suc d) ok h p f = cc

-- and nothing else
pub tail_read : (ys : List ℕ) → LacksClosing (encode_utf8_all ys) → (n : ℕ) × (p : Mode × ℕ) × (walk Outside 0 (ys ++ (10 ∷ replicate (suc n) 41)) ≡ Some p)
tail_read ys w =
    let tail : List ℕ = 10 ∷ replicate (suc w.0) 41 in
    let is : encode_utf8_all (ys ++ tail) ≡ encode_utf8_all ys ++ tail = encodes-append ys tail ∙ ap (λ l. encode_utf8_all ys ++ l) (low_encodes tail (low_close w.0)) in
    let r = split_ends (ys ++ tail) w.1 (splits_read (ys ++ tail) (encode_utf8_all ys ++ tail) w.1 is w.2) in
    (w.0, r.0, r.1)

pub not_refused : (text ys rest : List ℕ) (c : ℕ) (m : Mode) (d : ℕ) → IsUtf8 text → encode_utf8_all ys ++ (encode_utf8 c ++ rest) ≡ text → walk Outside 0 ys ≡ Some (m, d) → step m d c ≡ None
    → LacksClosing text → ⊥
not_refused text ys rest c m d u e h stop w =
    let front : encode_utf8_all u.0 ≡ encode_utf8_all (ys ++ c ∷ []) ++ rest = u.1.1 ∙ sym e ∙ sym (append_assoc (encode_utf8_all ys) (encode_utf8 c) rest)
    ∙ ap (λ l. l ++ rest) (ap (λ l. encode_utf8_all ys ++ l) (sym (append-nil (encode_utf8 c))) ∙ sym (encodes-append ys (c ∷ []))) in
    let q = begin_same (ys ++ c ∷ []) u.0 rest front in
    let t = tail_read u.0 (subst LacksClosing (sym u.1.1) w) in
    let tail : List ℕ = 10 ∷ replicate (suc t.0) 41 in
    let shape : u.0 ++ tail ≡ ys ++ c ∷ (q.0 ++ tail) = ap (λ l. l ++ tail) (q.1 ∙ append_assoc ys (c ∷ []) q.0) ∙ append_assoc ys (c ∷ q.0) tail in
    let none : None ≡ Some t.1 =
    sym (walk_append ys (c ∷ (q.0 ++ tail)) Outside 0 ∙ ap (option_and_then (λ (p : Mode × ℕ). walk p.0 p.1 (c ∷ (q.0 ++ tail)))) h
    ∙ ap (option_and_then (λ (v : Move). walk v.mode v.depth (q.0 ++ tail))) stop) ∙ ap (walk Outside 0) (sym shape) ∙ t.2 in
    cc

pub not_open : (ys : List ℕ) (m : Mode) (d : ℕ) → walk Outside 0 ys ≡ Some (m, d) → (0 < d → may_end_line m ≡ true → ⊥) → LacksClosing (encode_utf8_all ys) → ⊥
not_open ys m d h f w = go m d f (sym (walk_append ys (10 ∷ replicate (suc t.0) 41) Outside 0 ∙ ap (option_and_then (λ (p : Mode × ℕ). walk p.0 p.1 (10 ∷ replicate (suc t.0) 41))) h) ∙ t.2)
  where
    t : (n : ℕ) × (p : Mode × ℕ) × (walk Outside 0 (ys ++ (10 ∷ replicate (suc n) 41)) ≡ Some p)
    t = tail_read ys w

    go : (m : Mode) (d : ℕ) → (0 < d → may_end_line m ≡ true → ⊥) → walk m d (10 ∷ replicate (suc t.0) 41) ≡ Some t.1 → ⊥
    go Outside zero g e = cc
    go Outside (suc d) g e = g (omega arith) refl
    go Comment zero g e = cc
    go Comment (suc d) g e = g (omega arith) refl
    go Return zero g e = cc
    go Return (suc d) g e = g (omega arith) refl
    go Quoted d g e = cc
    go (Escape q) d g e = cc
    go (OneDigit q n) d g e = cc
    go (TwoDigits q n) d g e = cc
