-- The machine stops at the end of the longest viable prefix.
use Rattle.std.proofs.Common.{IsUtf8, ◌≡◌, ℕ, zero, suc, ◌+◌, ◌-◌, ◌*◌, ◌<◌, ◌≤◌, Bool, true, false, cond, ◌&&◌, if◌then◌else◌, nat_lt, nat_le, List, [], ◌∷◌, ◌++◌, length, take, replicate, refl}
use Rattle.std.proofs.Common.{sym, ap, ◌∙◌, subst, arith, append_assoc, append-nil, inl, inr, length-append}
use Rattle.std.specs.Prelude.{Option, Some, None, option_map, option_and_then, encode_utf8, encode_utf8_all}
use Rattle.std.specs.List.{flat_map, list_all}
use Rattle.std.proofs.lemmas.Bool.{and_parts, cases_lt, le-leb, leb-true, lt-leb, ltb-true, and_from, and_right, and_left, cond-true}
use Rattle.std.proofs.lemmas.Str.{encodes-append, encode_ascii, length-encode, len_utf8_bounds, cons_from_encodes, char_from_byte, byte_from_char}
use Rattle.std.proofs.Math.Seq.{take-append_seam, take-append-add, take-length}
use lib.Utf8.{scalar, scalars, low_scalar}
use Rattle.dns_lexer.specs.declared.reader.Mode.{Mode}
use Rattle.dns_lexer.specs.declared.reader.Mode.TheVariants.{Outside, Quoted, Comment, Return, Escape, OneDigit, TwoDigits}
use Rattle.dns_lexer.specs.declared.reader.Act.{Act}
use Rattle.dns_lexer.specs.declared.reader.Act.TheVariants.{EndToken, EndEntry, Add, BeginToken, FinishToken}
use Rattle.dns_lexer.specs.Splitting.{Splits, Entries}
use Rattle.dns_lexer.specs.Viable.{IsTail, IsViable, IsBad}
use Rattle.dns_lexer.specs.Lexeme.{characters}
use Rattle.dns_symbol.specs.Symbol.{is_digit}
use Rattle.dns_lexer.specs.declared.reader.Kind.{Kind}
use Rattle.dns_lexer.specs.declared.reader.Kind.TheVariants.{White, LineFeed, CarriageReturn, Opening, Closing, Semicolon, DoubleQuote, Backslash, Plain}
use Rattle.dns_lexer.specs.declared.reader.Move.{Move}
use Rattle.dns_lexer.specs.Reader.{kind, home, move_to, step, outside_step, quoted_step, comment_step, return_step, read, after, with_open, may_end}
use Rattle.dns_lexer.proofs.Complete.{splits_read, Some_same, bytes_all, View, view, v_space, v_tab, v_lf, v_cr, v_open, v_close, v_note, v_quote, v_escape, v_plain}
use Rattle.dns_lexer.proofs.Sound.{read_splits, map_some}
use Rattle.dns_lexer.specs.declared.reader.Within.{Within}
use Rattle.dns_lexer.specs.declared.reader.Within.TheVariants.{InWord, InQuote}

-- the mode and the depth after a text
abbrev pub walk : Mode → ℕ → List ℕ → Option (Mode × ℕ)
walk m d [] = Some (m, d)
walk m d (c ∷ cs) = option_and_then (λ (v : Move). walk v.mode v.depth cs) (step m d c)

pub after_had : (a : Act) (c : ℕ) (t : List ℕ) (k : List ℕ → Option Entries) (e : Entries) → after a c t k ≡ Some e → (u : List ℕ) × (y : Entries) × (k u ≡ Some y)
after_had EndToken c t k e h = let p = map_some (with_open t) (k []) e h in ([], p.0, p.1)
after_had EndEntry c t k e h = let p = map_some (λ (x : Entries). with_open t ([] ∷ x)) (k []) e h in ([], p.0, p.1)
after_had Add c t k e h = (t ++ encode_utf8 c, e, h)
after_had BeginToken c t k e h = let p = map_some (with_open t) (k (encode_utf8 c)) e h in (encode_utf8 c, p.0, p.1)
after_had FinishToken c t k e h = let p = map_some (with_open (t ++ encode_utf8 c)) (k []) e h in ([], p.0, p.1)

after_gives : (a : Act) (c : ℕ) (t : List ℕ) (k : List ℕ → Option Entries) → ((u : List ℕ) → (y : Entries) × (k u ≡ Some y)) → (e : Entries) × (after a c t k ≡ Some e)
after_gives EndToken c t k h = let p = h [] in (with_open t p.0, ap (option_map (with_open t)) p.1)
after_gives EndEntry c t k h = let p = h [] in (with_open t ([] ∷ p.0), ap (option_map (λ (x : Entries). with_open t ([] ∷ x))) p.1)
after_gives Add c t k h = h (t ++ encode_utf8 c)
after_gives BeginToken c t k h = let p = h (encode_utf8 c) in (with_open t p.0, ap (option_map (with_open t)) p.1)
after_gives FinishToken c t k h = let p = h [] in (with_open (t ++ encode_utf8 c) p.0, ap (option_map (with_open (t ++ encode_utf8 c))) p.1)

-- if a text is read, each prefix is walked
abbrev Walked : List ℕ → List ℕ → Type 0
Walked xs ys = (m : Mode) (d : ℕ) (t : List ℕ) (e : Entries) → read m d t (xs ++ ys) ≡ Some e → (p : Mode × ℕ) × (walk m d xs ≡ Some p)

walked_on : (c : ℕ) (xs ys : List ℕ) (t : List ℕ) (e : Entries) → Walked xs ys → (o : Option Move)
    → option_and_then (λ (v : Move). after v.act c t (λ u. read v.mode v.depth u (xs ++ ys))) o ≡ Some e → (p : Mode × ℕ) × (option_and_then (λ (v : Move). walk v.mode v.depth xs) o ≡ Some p)
walked_on c xs ys t e ih None h = cc
walked_on c xs ys t e ih (Some v) h = let r = after_had v.act c t (λ u. read v.mode v.depth u (xs ++ ys)) e h in ih v.mode v.depth r.0 r.1 r.2

pub walked : (xs ys : List ℕ) → Walked xs ys
walked [] ys m d t e h = ((m, d), refl)
walked (c ∷ xs) ys m d t e h = walked_on c xs ys t e (walked xs ys) (step m d c) h

-- the digits of an escape can be completed
abbrev pub Fine : Mode → Type 0
Fine (OneDigit q n) = n ≤ 2
Fine (TwoDigits q n) = n ≤ 25
Fine _ = Unit {0}

fine_home : (q : Within) → Fine (home q)
fine_home InQuote = tt
fine_home InWord = tt

abbrev pub is_quoted : Within → Bool
is_quoted InWord = false
is_quoted InQuote = true

-- what completes the text
abbrev pub tail_home : ℕ → Within → List ℕ
tail_home d q = (if is_quoted q then 34 ∷ [] else []) ++ replicate d 41

abbrev pub tail : Mode → ℕ → List ℕ
tail Outside d = replicate d 41
tail Quoted d = 34 ∷ replicate d 41
tail Comment zero = []
tail Comment (suc d) = 10 ∷ replicate (suc d) 41
tail Return d = 10 ∷ replicate d 41
tail (Escape q) d = 48 ∷ 48 ∷ 48 ∷ tail_home d q
tail (OneDigit q n) d = 48 ∷ 48 ∷ tail_home d q
tail (TwoDigits q n) d = 48 ∷ tail_home d q

abbrev pub Completes : Mode → ℕ → List ℕ → Type 0
Completes m d cs = (t : List ℕ) → (e : Entries) × (read m d t cs ≡ Some e)

-- a step to a mode that can be completed
pub step_completes : (m : Mode) (d c : ℕ) (cs : List ℕ) (v : Move) → step m d c ≡ Some v → Completes v.mode v.depth cs → Completes m d (c ∷ cs)
step_completes m d c cs v h k t =
    let p = after_gives v.act c t (λ u. read v.mode v.depth u cs) k in
    (p.0, ap (option_and_then (λ (w : Move). after w.act c t (λ u. read w.mode w.depth u cs))) h ∙ p.1)

pub close_completes : (d : ℕ) → Completes Outside d (replicate d 41)
close_completes zero t = (with_open t ([] ∷ []), refl)
close_completes (suc d) t = step_completes Outside (suc d) 41 (replicate d 41) (record { mode = Outside; depth = d; act = EndToken }) refl (close_completes d) t

pub line_completes : (m : Mode) (d : ℕ) → ((a : Act) → step m d 10 ≡ move_to Outside d a → Completes m d (10 ∷ replicate d 41))
line_completes m d a h t = step_completes m d 10 (replicate d 41) (record { mode = Outside; depth = d; act = a }) h (close_completes d) t

home_completes : (q : Within) (d : ℕ) → Completes (home q) d (tail_home d q)
home_completes InWord d = close_completes d
home_completes InQuote d = step_completes Quoted d 34 (replicate d 41) (record { mode = Outside; depth = d; act = FinishToken }) refl (close_completes d)

two_completes : (q : Within) (n d : ℕ) → n ≤ 25 → Completes (TwoDigits q n) d (48 ∷ tail_home d q)
two_completes q n d small =
    step_completes (TwoDigits q n) d 48 (tail_home d q) (record { mode = home q; depth = d; act = Add })
    (cond-true (nat_le (10 * n + 0) 255) (move_to (home q) d Add) None (le-leb (10 * n + 0) 255 (omega arith))) (home_completes q d)

one_completes : (q : Within) (n d : ℕ) → n ≤ 2 → Completes (OneDigit q n) d (48 ∷ 48 ∷ tail_home d q)
one_completes q n d small =
    step_completes (OneDigit q n) d 48 (48 ∷ tail_home d q) (record { mode = TwoDigits q (10 * n + 0); depth = d; act = Add })
    (cond-true (nat_le (10 * n + 0) 25) (move_to (TwoDigits q (10 * n + 0)) d Add) None (le-leb (10 * n + 0) 25 (omega arith))) (two_completes q (10 * n + 0) d (omega arith))

tail_completes : (m : Mode) (d : ℕ) → Fine m → Completes m d (tail m d)
tail_completes Outside d f t = close_completes d t
tail_completes Quoted d f t = home_completes InQuote d t
tail_completes Comment zero f t = (with_open t ([] ∷ []), refl)
tail_completes Comment (suc d) f t = line_completes Comment (suc d) EndToken refl t
tail_completes Return zero f t = line_completes Return zero EndEntry refl t
tail_completes Return (suc d) f t = line_completes Return (suc d) EndToken refl t
tail_completes (Escape q) d f t = step_completes (Escape q) d 48 (48 ∷ 48 ∷ tail_home d q) (record { mode = OneDigit q 0; depth = d; act = Add }) refl (one_completes q 0 d (omega arith)) t
tail_completes (OneDigit q n) d f t = one_completes q n d f t
tail_completes (TwoDigits q n) d f t = two_completes q n d f t

-- a text that is walked can be completed
abbrev pub Completed : List ℕ → List ℕ → Type 0
Completed xs cs = (m : Mode) (d : ℕ) (p : Mode × ℕ) → walk m d xs ≡ Some p → Completes p.0 p.1 cs → Completes m d (xs ++ cs)

completed_on : (c : ℕ) (xs cs : List ℕ) → Completed xs cs → (m : Mode) (d : ℕ) (p : Mode × ℕ) (o : Option Move) → step m d c ≡ o
    → option_and_then (λ (v : Move). walk v.mode v.depth xs) o ≡ Some p → Completes p.0 p.1 cs → Completes m d (c ∷ (xs ++ cs))
completed_on c xs cs ih m d p None e h k = cc
completed_on c xs cs ih m d p (Some v) e h k = step_completes m d c (xs ++ cs) v e (ih v.mode v.depth p h k)

pub walk_completes : (xs cs : List ℕ) → Completed xs cs
walk_completes [] cs m d p h k = subst (λ (r : Mode × ℕ). Completes r.0 r.1 cs) (sym (Some_same h)) k
walk_completes (c ∷ xs) cs m d p h k = completed_on c xs cs (walk_completes xs cs) m d p (step m d c) refl h k

moved : (m : Mode) (d : ℕ) (a : Act) (v : Move) → Fine m → move_to m d a ≡ Some v → Fine v.mode
moved m d a v f h = subst (λ (w : Move). Fine w.mode) (Some_same h) f

gap_fine : (d : ℕ) (k : Kind) (v : Move) → outside_step d k ≡ Some v → Fine v.mode
gap_fine d White v h = moved _ _ _ v tt h
gap_fine d LineFeed v h = moved _ _ _ v tt h
gap_fine d CarriageReturn v h = moved _ _ _ v tt h
gap_fine d Opening v h = moved _ _ _ v tt h
gap_fine zero Closing v h = cc
gap_fine (suc d) Closing v h = moved _ _ _ v tt h
gap_fine d Semicolon v h = moved _ _ _ v tt h
gap_fine d DoubleQuote v h = moved _ _ _ v tt h
gap_fine d Backslash v h = moved _ _ _ v tt h
gap_fine d Plain v h = moved _ _ _ v tt h

quoted_fine : (d : ℕ) (k : Kind) (v : Move) → quoted_step d k ≡ Some v → Fine v.mode
quoted_fine d LineFeed v h = cc
quoted_fine d CarriageReturn v h = cc
quoted_fine d DoubleQuote v h = moved _ _ _ v tt h
quoted_fine d Backslash v h = moved _ _ _ v tt h
quoted_fine d White v h = moved _ _ _ v tt h
quoted_fine d Opening v h = moved _ _ _ v tt h
quoted_fine d Closing v h = moved _ _ _ v tt h
quoted_fine d Semicolon v h = moved _ _ _ v tt h
quoted_fine d Plain v h = moved _ _ _ v tt h

comment_fine : (d : ℕ) (k : Kind) (v : Move) → comment_step d k ≡ Some v → Fine v.mode
comment_fine d LineFeed v h = moved _ _ _ v tt h
comment_fine d CarriageReturn v h = moved _ _ _ v tt h
comment_fine d DoubleQuote v h = moved _ _ _ v tt h
comment_fine d Backslash v h = moved _ _ _ v tt h
comment_fine d White v h = moved _ _ _ v tt h
comment_fine d Opening v h = moved _ _ _ v tt h
comment_fine d Closing v h = moved _ _ _ v tt h
comment_fine d Semicolon v h = moved _ _ _ v tt h
comment_fine d Plain v h = moved _ _ _ v tt h

return_fine : (d : ℕ) (k : Kind) (v : Move) → return_step d k ≡ Some v → Fine v.mode
return_fine d LineFeed v h = moved _ _ _ v tt h
return_fine d CarriageReturn v h = cc
return_fine d DoubleQuote v h = cc
return_fine d Backslash v h = cc
return_fine d White v h = cc
return_fine d Opening v h = cc
return_fine d Closing v h = cc
return_fine d Semicolon v h = cc
return_fine d Plain v h = cc

guarded : (b : Bool) (x : Option Move) (v : Move) → cond b x None ≡ Some v → (b ≡ true) × (x ≡ Some v)
guarded true x v h = (refl, h)
guarded false x v h = cc

step_fine : (m : Mode) (d c : ℕ) (v : Move) → step m d c ≡ Some v → Fine v.mode
step_fine Outside d c v h = gap_fine d (kind c) v h
step_fine Quoted d c v h = quoted_fine d (kind c) v h
step_fine Comment d c v h = comment_fine d (kind c) v h
step_fine Return d c v h = return_fine d (kind c) v h
step_fine (Escape q) d c v h = begun (is_digit c) h
  where
    begun : (b : Bool) → cond b (cond (nat_le c 50) (move_to (OneDigit q (c - 48)) d Add) None) (cond (nat_le 32 c && nat_le c 126) (move_to (home q) d Add) None) ≡ Some v → Fine v.mode
    begun true h =
        let p = guarded (nat_le c 50) (move_to (OneDigit q (c - 48)) d Add) v h in
        let low : c ≤ 50 = leb-true c 50 p.0 in
        let few : c - 48 ≤ 2 = omega arith in
        moved (OneDigit q (c - 48)) d Add v few p.1
    begun false h = moved (home q) d Add v (fine_home q) (guarded (nat_le 32 c && nat_le c 126) (move_to (home q) d Add) v h).1
step_fine (OneDigit q n) d c v h =
    let p = guarded (is_digit c && nat_le (10 * n + (c - 48)) 25) (move_to (TwoDigits q (10 * n + (c - 48))) d Add) v h in
    let few : 10 * n + (c - 48) ≤ 25 = leb-true _ _ (and_parts _ _ p.0).1 in
    moved (TwoDigits q (10 * n + (c - 48))) d Add v few p.1
step_fine (TwoDigits q n) d c v h = moved (home q) d Add v (fine_home q) (guarded (is_digit c && nat_le (10 * n + (c - 48)) 255) (move_to (home q) d Add) v h).1

abbrev FineOn : List ℕ → Type 0
FineOn xs = (m : Mode) (d : ℕ) (p : Mode × ℕ) → Fine m → walk m d xs ≡ Some p → Fine p.0

fine_on : (c : ℕ) (xs : List ℕ) → FineOn xs → (m : Mode) (d : ℕ) (p : Mode × ℕ) (o : Option Move) → step m d c ≡ o → option_and_then (λ (v : Move). walk v.mode v.depth xs) o ≡ Some p → Fine p.0
fine_on c xs ih m d p None e h = cc
fine_on c xs ih m d p (Some v) e h = ih v.mode v.depth p (step_fine m d c v e) h

pub walk_fine : (xs : List ℕ) → FineOn xs
walk_fine [] m d p f h = subst (λ (r : Mode × ℕ). Fine r.0) (Some_same h) f
walk_fine (c ∷ xs) m d p f h = fine_on c xs (walk_fine xs) m d p (step m d c) refl h

home_is : (d : ℕ) (q : Within) → tail_home d q ≡ (if is_quoted q then 34 ∷ [] else []) ++ ((if false then 10 ∷ [] else []) ++ replicate d 41)
home_is d InQuote = refl
home_is d InWord = refl

tail_is : (m : Mode) (d : ℕ) → IsTail (tail m d)
tail_is Outside d = record { zeros = 0; few = omega arith; quoted = false; lined = false; open_blocks = d; is = refl }
tail_is Quoted d = record { zeros = 0; few = omega arith; quoted = true; lined = false; open_blocks = d; is = refl }
tail_is Comment zero = record { zeros = 0; few = omega arith; quoted = false; lined = false; open_blocks = 0; is = refl }
tail_is Comment (suc d) = record { zeros = 0; few = omega arith; quoted = false; lined = true; open_blocks = suc d; is = refl }
tail_is Return d = record { zeros = 0; few = omega arith; quoted = false; lined = true; open_blocks = d; is = refl }
tail_is (Escape q) d = record { zeros = 3; few = omega arith; quoted = is_quoted q; lined = false; open_blocks = d; is = ap (λ l. 48 ∷ 48 ∷ 48 ∷ l) (home_is d q) }
tail_is (OneDigit q n) d = record { zeros = 2; few = omega arith; quoted = is_quoted q; lined = false; open_blocks = d; is = ap (λ l. 48 ∷ 48 ∷ l) (home_is d q) }
tail_is (TwoDigits q n) d = record { zeros = 1; few = omega arith; quoted = is_quoted q; lined = false; open_blocks = d; is = ap (λ l. 48 ∷ l) (home_is d q) }

abbrev pub low : List ℕ → Bool
low cs = list_all (λ c. nat_lt c 128) cs

pub low_encodes : (cs : List ℕ) → low cs ≡ true → encode_utf8_all cs ≡ cs
low_encodes [] h = refl
low_encodes (c ∷ cs) h = let p = and_parts (nat_lt c 128) (low cs) h in rw (encode_ascii c (ltb-true c 128 p.0)) (ap (λ l. c ∷ l) (low_encodes cs p.1))

pub low_scalars : (cs : List ℕ) → low cs ≡ true → scalars cs ≡ true
low_scalars [] h = refl
low_scalars (c ∷ cs) h =
    let p = and_parts (nat_lt c 128) (low cs) h in
    let small : c < 128 = ltb-true c 128 p.0 in
    and_from _ _ (low_scalar c (omega arith)) (low_scalars cs p.1)

pub low_close : (d : ℕ) → low (replicate d 41) ≡ true
low_close zero = refl
low_close (suc d) = low_close d

low_home : (d : ℕ) (q : Within) → low (tail_home d q) ≡ true
low_home d InQuote = low_close d
low_home d InWord = low_close d

low_tail : (m : Mode) (d : ℕ) → low (tail m d) ≡ true
low_tail Outside d = low_close d
low_tail Quoted d = low_close d
low_tail Comment zero = refl
low_tail Comment (suc d) = low_close d
low_tail Return d = low_close d
low_tail (Escape q) d = low_home d q
low_tail (OneDigit q n) d = low_home d q
low_tail (TwoDigits q n) d = low_home d q

pub scalars_both : (xs ys : List ℕ) → scalars xs ≡ true → scalars ys ≡ true → scalars (xs ++ ys) ≡ true
scalars_both [] ys h k = k
scalars_both (x ∷ xs) ys h k = let p = and_parts (scalar x) (scalars xs) h in and_from _ _ p.0 (scalars_both xs ys p.1 k)

-- a text that is walked is viable
pub walked_viable : (xs : List ℕ) (p : Mode × ℕ) → scalars xs ≡ true → walk Outside 0 xs ≡ Some p → IsViable (encode_utf8_all xs)
walked_viable xs p ok h =
    let rest : List ℕ = tail p.0 p.1 in
    let k = walk_completes xs rest Outside 0 p h (tail_completes p.0 p.1 (walk_fine xs Outside 0 p tt h)) [] in
    record {
      tail = rest;
      is_tail = tail_is p.0 p.1;
      found = k.0;
      splits = subst (λ text. Splits text k.0) (encodes-append xs rest ∙ ap (λ l. encode_utf8_all xs ++ l) (low_encodes rest (low_tail p.0 p.1)))
          (read_splits (xs ++ rest) k.0 (scalars_both xs rest ok (low_scalars rest (low_tail p.0 p.1))) k.1);
    }

pub walk_append : (xs ys : List ℕ) (m : Mode) (d : ℕ) → walk m d (xs ++ ys) ≡ option_and_then (λ (p : Mode × ℕ). walk p.0 p.1 ys) (walk m d xs)
walk_append [] ys m d = refl
walk_append (c ∷ xs) ys m d = go (step m d c) (λ (v : Move). walk_append xs ys v.mode v.depth)
  where
    go : (o : Option Move) → ((v : Move) → walk v.mode v.depth (xs ++ ys) ≡ option_and_then (λ (p : Mode × ℕ). walk p.0 p.1 ys) (walk v.mode v.depth xs))
        → option_and_then (λ (v : Move). walk v.mode v.depth (xs ++ ys)) o ≡ option_and_then (λ (p : Mode × ℕ). walk p.0 p.1 ys) (option_and_then (λ (v : Move). walk v.mode v.depth xs) o)
    go None ih = refl
    go (Some v) ih = ih v

-- if the walk ends at a position where no text may end, the text isn't read
pub not_ended : (xs : List ℕ) (m : Mode) (d : ℕ) (p : Mode × ℕ) → walk m d xs ≡ Some p → may_end p.0 p.1 ≡ false → (t : List ℕ) (e : Entries) → read m d t xs ≡ Some e → ⊥
not_ended [] m d p h n t e r =
    let no : may_end m d ≡ false = subst (λ (q : Mode × ℕ). may_end q.0 q.1 ≡ false) (sym (Some_same h)) n in
    let k : None ≡ Some e = subst (λ b. cond b (Some (with_open t ([] ∷ []))) None ≡ Some e) no r in
    absurd (elim (None_some k) [ ])
  where
    None_some : {A : Type 0} {x : A} → None ≡ Some x → ⊥
    None_some k = cc
not_ended (c ∷ xs) m d p h n t e r = go (step m d c) (λ (v : Move) (f : walk v.mode v.depth xs ≡ Some p) (u : List ℕ) (y : Entries)
    (g : read v.mode v.depth u xs ≡ Some y). not_ended xs v.mode v.depth p f n u y g) h r
  where
    go : (o : Option Move) → ((v : Move) → walk v.mode v.depth xs ≡ Some p → (u : List ℕ) (y : Entries) → read v.mode v.depth u xs ≡ Some y → ⊥)
        → option_and_then (λ (v : Move). walk v.mode v.depth xs) o ≡ Some p → option_and_then (λ (v : Move). after v.act c t (λ u. read v.mode v.depth u xs)) o ≡ Some e → ⊥
    go None ih h r = cc
    go (Some v) ih h r = let a = after_had v.act c t (λ u. read v.mode v.depth u xs) e r in ih v h a.0 a.1 a.2

-- beyond ASCII the machine treats all characters alike
high_kind : (c : ℕ) → View c → 128 ≤ c → kind c ≡ Plain
high_kind c (v_plain p) h = p.kind_is
high_kind _ v_space h = absurd (omega arith)
high_kind _ v_tab h = absurd (omega arith)
high_kind _ v_lf h = absurd (omega arith)
high_kind _ v_cr h = absurd (omega arith)
high_kind _ v_open h = absurd (omega arith)
high_kind _ v_close h = absurd (omega arith)
high_kind _ v_note h = absurd (omega arith)
high_kind _ v_quote h = absurd (omega arith)
high_kind _ v_escape h = absurd (omega arith)

abbrev pub high_step : Mode → ℕ → Option Move
high_step Outside d = move_to Outside d Add
high_step Quoted d = move_to Quoted d Add
high_step Comment d = move_to Comment d EndToken
high_step _ d = None

pub high_is : (m : Mode) (d c : ℕ) → 128 ≤ c → step m d c ≡ high_step m d
high_is Outside d c h = rw (high_kind c (view c) h)
high_is Quoted d c h = rw (high_kind c (view c) h)
high_is Comment d c h = rw (high_kind c (view c) h)
high_is Return d c h = rw (high_kind c (view c) h)
high_is (Escape q) d c h =
    let a : is_digit c ≡ false = and_right (nat_le 48 c) (nat_le c 57) (lt-leb c 57 (omega arith)) in
    let b : (nat_le 32 c && nat_le c 126) ≡ false = and_right (nat_le 32 c) (nat_le c 126) (lt-leb c 126 (omega arith)) in
    rw (a, b)
high_is (OneDigit q n) d c h =
    let a : is_digit c ≡ false = and_right (nat_le 48 c) (nat_le c 57) (lt-leb c 57 (omega arith)) in
    rw (and_left (is_digit c) (nat_le (10 * n + (c - 48)) 25) a)
high_is (TwoDigits q n) d c h =
    let a : is_digit c ≡ false = and_right (nat_le 48 c) (nat_le c 57) (lt-leb c 57 (omega arith)) in
    rw (and_left (is_digit c) (nat_le (10 * n + (c - 48)) 255) a)

-- characters with one first byte are read alike
alike : (m : Mode) (d c y b : ℕ) (r s v w : List ℕ) → b ∷ v ≡ encode_utf8 c ++ r → b ∷ w ≡ encode_utf8 y ++ s → step m d c ≡ step m d y
alike m d c y b r s v w e f = elim (cases_lt b 128) [
  | inl small ↦
      let is_c : c ≡ b = char_from_byte (b ∷ v) r c e small (omega arith) in
      let is_y : y ≡ b = char_from_byte (b ∷ w) s y f small (omega arith) in
      ap (step m d) (is_c ∙ sym is_y)
  | inr big ↦
      let up : (x : ℕ) (l k : List ℕ) → b ∷ l ≡ encode_utf8 x ++ k
      → 128 ≤ x = λ x l k g. elim (cases_lt x 128) [ inl less ↦ absurd (omega (arith, byte_from_char (b ∷ l) k x g less)) | inr more ↦ more ] in
      high_is m d c (up c v r e) ∙ sym (high_is m d y (up y w s f))
]

-- characters that begin with the bytes of others begin with these
pub begin_same : (xs ys r : List ℕ) → encode_utf8_all ys ≡ encode_utf8_all xs ++ r → (zs : List ℕ) × (ys ≡ xs ++ zs) × (encode_utf8_all zs ≡ r)
begin_same [] ys r h = (ys, refl, h)
begin_same (x ∷ xs) ys r h =
    let p = cons_from_encodes ys (encode_utf8_all xs ++ r) x (h ∙ append_assoc (encode_utf8 x) (encode_utf8_all xs) r) in
    let q = begin_same xs p.0 r p.2 in
    (q.0, p.1 ∙ ap (λ l. x ∷ l) q.1, q.2)

-- if the machine stops, no text that continues with this byte splits
no_further : (xs : List ℕ) (c : ℕ) (p : Mode × ℕ) → walk Outside 0 xs ≡ Some p → step p.0 p.1 c ≡ None → (b : ℕ) (v w rest : List ℕ) → b ∷ v ≡ encode_utf8 c ++ rest → (e : Entries)
    → Splits (encode_utf8_all xs ++ (b ∷ w)) e → ⊥
no_further xs c p h stop b v w rest first e s =
    let ys : List ℕ = flat_map characters s.lexemes in
    let is : encode_utf8_all ys ≡ encode_utf8_all xs ++ (b ∷ w) = sym (bytes_all s.lexemes) ∙ s.spelled in
    let q = begin_same xs ys (b ∷ w) is in
    go q.0 q.2 (ap (λ l. read Outside 0 [] l) (sym q.1) ∙ splits_read ys _ e is s)
  where
    go : (zs : List ℕ) → encode_utf8_all zs ≡ b ∷ w → read Outside 0 [] (xs ++ zs) ≡ Some e → ⊥
    go [] i r = cc
    go (y ∷ zs) i r =
        let k = walked (xs ++ y ∷ []) zs Outside 0 [] e (ap (read Outside 0 []) (append_assoc xs (y ∷ []) zs) ∙ r) in
        let l : walk Outside 0 (xs ++ y ∷ []) ≡ None = walk_append xs (y ∷ []) Outside 0 ∙ ap (option_and_then (λ (t : Mode × ℕ). walk t.0 t.1 (y ∷ []))) h
        ∙ ap (option_and_then (λ (t : Move). walk t.mode t.depth [])) (sym (alike p.0 p.1 c y b rest (encode_utf8_all zs) v w first (sym i)) ∙ stop) in
        let no : None ≡ Some k.0 = sym l ∙ k.1 in
        cc

first_byte : (c : ℕ) → (b : ℕ) × (v : List ℕ) × (encode_utf8 c ≡ b ∷ v)
first_byte c = go (encode_utf8 c) (omega (arith, length-encode c, (len_utf8_bounds c).0))
  where
    go : (l : List ℕ) → 0 < length l → (b : ℕ) × (v : List ℕ) × (l ≡ b ∷ v)
    go [] h = absurd (omega arith)
    go (b ∷ v) h = (b, v, refl)

pub scalars_left : (xs ys : List ℕ) → scalars (xs ++ ys) ≡ true → scalars xs ≡ true
scalars_left [] ys h = refl
scalars_left (x ∷ xs) ys h = let p = and_parts (scalar x) (scalars (xs ++ ys)) h in and_from _ _ p.0 (scalars_left xs ys p.1)

-- the reader stops before c
pub stops : (text xs zs : List ℕ) (c : ℕ) (p : Mode × ℕ) → encode_utf8_all (xs ++ c ∷ zs) ≡ text → scalars (xs ++ c ∷ zs) ≡ true → walk Outside 0 xs ≡ Some p → step p.0 p.1 c ≡ None
    → IsBad text (length (encode_utf8_all xs))
stops text xs zs c p is ok h stop =
    let front : List ℕ = encode_utf8_all xs in
    let f = first_byte c in
    let b : ℕ = f.0 in
    let v : List ℕ = f.1 ++ encode_utf8_all zs in
    let first : b ∷ v ≡ encode_utf8 c ++ encode_utf8_all zs = ap (λ l. l ++ encode_utf8_all zs) (sym f.2) in
    let whole : text ≡ front ++ (b ∷ v) = sym is ∙ encodes-append xs (c ∷ zs) ∙ ap (λ l. front ++ l) (sym first) in
    let room : length text ≡ length front + length (b ∷ v) = ap length whole ∙ length-append front (b ∷ v) in
    record {
      splits_not = λ e s. no_further xs c p h stop b v v (encode_utf8_all zs) first e (subst (λ x. Splits x e) whole s);
      at = record {
        within = omega arith;
        viable = subst IsViable (sym (ap (take (length front)) whole ∙ take-append_seam front (b ∷ v))) (walked_viable xs p (scalars_left xs (c ∷ zs) ok) h);
        longest = λ j more fits s.
            let k : ℕ = j - suc (length front) in
            let same : j ≡ length front + suc k = omega arith in
            let cut : take j text ++ s.tail ≡ front ++ (b ∷ (take k v ++ s.tail)) = ap (λ l. take j l ++ s.tail) whole ∙ ap (λ n. take n (front ++ (b ∷ v)) ++ s.tail) same
            ∙ ap (λ l. l ++ s.tail) (take-append-add front (b ∷ v) (suc k)) ∙ append_assoc front (b ∷ take k v) s.tail in
            no_further xs c p h stop b v (take k v ++ s.tail) (encode_utf8_all zs) first s.found (subst (λ x. Splits x s.found) cut s.splits);
      };
    }

-- the text ends too early
pub ends : (text xs : List ℕ) (p : Mode × ℕ) → encode_utf8_all xs ≡ text → scalars xs ≡ true → walk Outside 0 xs ≡ Some p → may_end p.0 p.1 ≡ false → IsBad text (length text)
ends text xs p is ok h early = record {
  splits_not = λ e s. not_ended xs Outside 0 p h early [] e (splits_read xs text e is s);
  at = record {
    within = omega arith;
    viable = subst IsViable (is ∙ sym (take-length text)) (walked_viable xs p ok h);
    longest = λ j more fits s. absurd (omega arith);
  };
}

-- what begins a text that splits is viable
pub begins_viable : (x y : List ℕ) (e : Entries) → IsUtf8 x → Splits (x ++ y) e → IsViable x
begins_viable x y e u s =
    let ys : List ℕ = flat_map characters s.lexemes in
    let is : encode_utf8_all ys ≡ x ++ y = sym (bytes_all s.lexemes) ∙ s.spelled in
    let q = begin_same u.0 ys y (is ∙ ap (λ l. l ++ y) (sym u.1.1)) in
    let w = walked u.0 q.0 Outside 0 [] e (ap (read Outside 0 []) (sym q.1) ∙ splits_read ys (x ++ y) e is s) in
    subst IsViable u.1.1 (walked_viable u.0 w.0 u.1.0 w.1)

-- no text continues with a character that the machine rejects
pub cant_follow : (xs : List ℕ) (c : ℕ) (p : Mode × ℕ) → scalars xs ≡ true → scalar c ≡ true → walk Outside 0 xs ≡ Some p → step p.0 p.1 c ≡ None → ¬ IsViable (encode_utf8_all xs ++ encode_utf8 c)
cant_follow xs c p ok fine h stop v =
    let front : List ℕ = encode_utf8_all xs in
    let f = first_byte c in
    let all : List ℕ = front ++ encode_utf8 c in
    let is : encode_utf8_all (xs ++ c ∷ []) ≡ all = encodes-append xs (c ∷ []) ∙ ap (λ l. front ++ l) (append-nil (encode_utf8 c)) in
    let bad = stops all xs [] c p is (scalars_both xs (c ∷ []) ok (and_from _ _ fine refl)) h stop in
    bad.at.longest (length all) (omega (arith, length-append front (encode_utf8 c), ap length f.2)) (omega arith) (subst IsViable (sym (take-length all)) v)
