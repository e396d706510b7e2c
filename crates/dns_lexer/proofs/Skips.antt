-- Skipped octets, and the machine that reads them one by one.
use Rattle.std.proofs.Common.{◌≡◌, ℕ, zero, suc, ◌+◌, ◌-◌, ◌*◌, ◌/◌, ◌%◌, ◌<◌, ◌≤◌, arith, rules, Bool, true, false, not, ◌&&◌, nat_le, List, ◌∷◌, ◌++◌, length, length-append, take, drop, Ok, refl, ap, ◌∙◌, subst, inl, inr, ◌⊎◌}
use Rattle.std.proofs.Common.{get_or}
use Rattle.std.proofs.lemmas.List.{drop_more, drop-drop, length-drop, take_all}
use Rattle.std.proofs.lemmas.Bool.{and_parts, eq-eqb, cond-true, cond-false, cases_lt, le-leb}
use Rattle.std.proofs.lemmas.Bool.Decides.{nat_tests}
use Rattle.dns_lexer.specs.declared.reader.Mode.{Mode}
use Rattle.dns_lexer.specs.declared.reader.Mode.TheVariants.{Outside, Quoted, Comment, Escape, OneDigit, TwoDigits}
use Rattle.dns_lexer.specs.declared.reader.Act.TheVariants.{Add, EndToken}
use Rattle.dns_lexer.specs.declared.reader.Within.{Within}
use Rattle.dns_lexer.specs.declared.reader.Within.TheVariants.{InQuote, InWord}
use Rattle.dns_lexer.specs.declared.runs.OctetClass.{OctetClass}
use Rattle.dns_lexer.specs.declared.runs.OctetClass.TheVariants.{Word, Quote, Comment as Note, Blank}
use Rattle.dns_lexer.specs.declared.skip.NestedOffset.{NestedOffset}
use Rattle.dns_symbol.specs.Escape.{ReadsEscape, escape_symbol}
use Rattle.dns_symbol.specs.Symbol.{spell, is_digit, is_escape_by, is_printable}
use Rattle.dns_symbol.specs.declared.escape.EscapedOctet.{EscapedOctet}
use Rattle.dns_symbol.specs.declared.escape.EscapeRule.TheVariants.{Printable}
use Rattle.dns_symbol.specs.declared.symbol.Symbol.{Symbol}
use Rattle.dns_symbol.specs.declared.symbol.Symbol.TheVariants.{Char, SimpleEscape, DecimalEscape}
use Rattle.dns_symbol.proofs.Spelled.{spell_some}
use Rattle.dns_lexer.specs.Reader.{home, move_to, step}
use Rattle.dns_lexer.specs.Run.{run, before, closed_piece, Still, SameRun, Skips, ContinuesPiece, Passes, EndsWord, EndsComment, YieldsPiece}
use Rattle.dns_lexer.specs.Pieces.{word_at, quote_at, comment_at}
use Rattle.dns_lexer.specs.Skip.{is_in, EachIn, class_of}
use Rattle.dns_lexer.proofs.PieceSteps.{run_step}

-- ---- classes
-- one more octet, and a run of them
pub each_none : (k : OctetClass) (text : List ℕ) (i : ℕ) → EachIn k text i i
each_none k text i n from to = absurd (omega arith)

pub each_more : (k : OctetClass) (text : List ℕ) (i j : ℕ) → EachIn k text i j → is_in k (get_or text j 0) ≡ true → EachIn k text i (j + 1)
each_more k text i j all here n from to = elim (cases_lt n j) [ inl early ↦ all n from early | inr late ↦ subst (λ m. is_in k (get_or text m 0) ≡ true) (omega arith) here ]

pub each_joined : (k : OctetClass) (text : List ℕ) (i j e : ℕ) → EachIn k text i j → EachIn k text j e → EachIn k text i e
each_joined k text i j e front back n from to = elim (cases_lt n j) [ inl early ↦ front n from early | inr late ↦ back n late to ]

-- an octet of a class changes nothing in its mode
pub word_still : (c : ℕ) → is_in Word c ≡ true → Still Outside c
word_still c h d s at b bs = search rules

pub quote_still : (c : ℕ) → is_in Quote c ≡ true → Still Quoted c
quote_still c h d s at b bs = search rules

pub note_still : (c : ℕ) → is_in Note c ≡ true → Still Comment c
note_still c h d s at b bs = search rules

at_drop : (text : List ℕ) (i : ℕ) → i < length text → drop i text ≡ get_or text i 0 ∷ drop (i + 1) text
at_drop text i h = drop_more text i 0 h

-- octets that change nothing, one after the other
still_run : (m : Mode) (k : OctetClass) → ((c : ℕ) → is_in k c ≡ true → Still m c) → (text : List ℕ) (i r : ℕ) → i + r ≤ length text → EachIn k text i (i + r) → SameRun m text i (i + r)
still_run m k still text i zero w all = subst (λ j. SameRun m text i j) (omega arith) (λ d s b. refl)
still_run m k still text i (suc r) w all = λ d s b.
    let here : is_in k (get_or text i 0) ≡ true = all i (omega arith) (omega arith) in
    let rest : SameRun m text (i + 1) (i + 1 + r) = still_run m k still text (i + 1) r (omega (arith, w)) (λ n from to. all n (omega arith) (omega (arith, to))) in
    let further : i + 1 + r ≡ i + suc r = omega arith in
    let moved : SameRun m text (i + 1) (i + suc r) = subst (λ j. SameRun m text (i + 1) j) further rest in
    ap (run m d s i b) (at_drop text i (omega (arith, w))) ∙ still (get_or text i 0) here d s i b (drop (i + 1) text) ∙ moved d s b

pub still_between : (m : Mode) (k : OctetClass) → ((c : ℕ) → is_in k c ≡ true → Still m c) → (text : List ℕ) (i j : ℕ) → i ≤ j → j ≤ length text → EachIn k text i j → SameRun m text i j
still_between m k still text i j o w all = subst (λ e. SameRun m text i e) (omega arith) (still_run m k still text i (j - i) (omega (arith, o, w)) (λ n from to. all n from (omega (arith, o, to))))

-- an octet before and after which nothing is open
pub moved_on : (c d n i : ℕ) (b : Bool) (bs : List ℕ) → step Outside d c ≡ move_to Outside n EndToken → run Outside d i i b (c ∷ bs) ≡ run Outside n (i + 1) (i + 1) b bs
moved_on c d n i b bs h = run_step Outside d i i b c bs _ h ∙ ap (λ o. before o (run Outside n (i + 1) (i + 1) b bs)) (cond-true _ _ _ (eq-eqb i i refl))

blank_step : (c d : ℕ) → is_in Blank c ≡ true → step Outside d c ≡ move_to Outside d EndToken
blank_step c d h = search rules

pub blank_skipped : (c d i : ℕ) (b : Bool) (bs : List ℕ) → is_in Blank c ≡ true → run Outside d i i b (c ∷ bs) ≡ run Outside d (i + 1) (i + 1) b bs
blank_skipped c d i b bs h = moved_on c d d i b bs (blank_step c d h)

blank_run : (text : List ℕ) (i r : ℕ) → i + r ≤ length text → EachIn Blank text i (i + r) → (d : ℕ) (b : Bool) → run Outside d i i b (drop i text) ≡ run Outside d (i + r) (i + r) b (drop (i + r) text)
blank_run text i zero w all d b = subst (λ j. run Outside d i i b (drop i text) ≡ run Outside d j j b (drop j text)) (omega arith) refl
blank_run text i (suc r) w all d b =
    let here : is_in Blank (get_or text i 0) ≡ true = all i (omega arith) (omega arith) in
    let rest = blank_run text (i + 1) r (omega (arith, w)) (λ n from to. all n (omega arith) (omega (arith, to))) d b in
    let further : i + 1 + r ≡ i + suc r = omega arith in
    ap (run Outside d i i b) (at_drop text i (omega (arith, w))) ∙ blank_skipped (get_or text i 0) d i b (drop (i + 1) text) here
    ∙ subst (λ j. run Outside d (i + 1) (i + 1) b (drop (i + 1) text) ≡ run Outside d j j b (drop j text)) further rest

pub blank_between : (text : List ℕ) (i j : ℕ) → i ≤ j → j ≤ length text → EachIn Blank text i j → (d : ℕ) (b : Bool) → run Outside d i i b (drop i text) ≡ run Outside d j j b (drop j text)
blank_between text i j o w all d b = subst (λ e. run Outside d i i b (drop i text) ≡ run Outside d e e b (drop e text)) (omega arith)
    (blank_run text i (j - i) (omega (arith, o, w)) (λ n from to. all n from (omega (arith, o, to))) d b)

-- ---- escapes
-- one octet that joins the token
joins : (m n : Mode) (d s at : ℕ) (b : Bool) (c : ℕ) (bs : List ℕ) → step m d c ≡ move_to n d Add → run m d s at b (c ∷ bs) ≡ before (closed_piece m n Add s at) (run n d s (at + 1) b bs)
joins m n d s at b c bs h = run_step m d s at b c bs _ h

-- after the backslash
simple_left : (q : Within) (c d s at : ℕ) (b : Bool) (bs : List ℕ) → is_printable c ≡ true → is_digit c ≡ false → run (Escape q) d s at b (c ∷ bs) ≡ run (home q) d s (at + 1) b bs
simple_left InWord c d s at b bs p g = run_step (Escape InWord) d s at b c bs _ (cond-false _ _ _ g ∙ cond-true _ _ _ p)
simple_left InQuote c d s at b bs p g = run_step (Escape InQuote) d s at b c bs _ (cond-false _ _ _ g ∙ cond-true _ _ _ p)

both : (a c : Bool) → a ≡ true → c ≡ true → (a && c) ≡ true
both a c p q = rw p q

third_left : (q : Within) (n c d s at : ℕ) (b : Bool) (bs : List ℕ) → is_digit c ≡ true → nat_le (10 * n + (c - 48)) 255 ≡ true → run (TwoDigits q n) d s at b (c ∷ bs) ≡ run (home q) d s (at + 1) b bs
third_left InWord n c d s at b bs g h = run_step (TwoDigits InWord n) d s at b c bs _ (cond-true _ _ _ (both _ _ g h))
third_left InQuote n c d s at b bs g h = run_step (TwoDigits InQuote n) d s at b c bs _ (cond-true _ _ _ (both _ _ g h))

second_left : (q : Within) (n c d s at : ℕ) (b : Bool) (bs : List ℕ) → is_digit c ≡ true → nat_le (10 * n + (c - 48)) 25 ≡ true
    → run (OneDigit q n) d s at b (c ∷ bs) ≡ run (TwoDigits q (10 * n + (c - 48))) d s (at + 1) b bs
second_left q n c d s at b bs g h = run_step (OneDigit q n) d s at b c bs _ (cond-true _ _ _ (both _ _ g h))

first_left : (q : Within) (c d s at : ℕ) (b : Bool) (bs : List ℕ) → is_digit c ≡ true → nat_le c 50 ≡ true → run (Escape q) d s at b (c ∷ bs) ≡ run (OneDigit q (c - 48)) d s (at + 1) b bs
first_left q c d s at b bs g h = run_step (Escape q) d s at b c bs _ (cond-true _ _ _ g ∙ cond-true _ _ _ h)

begun : (q : Within) (d s at : ℕ) (b : Bool) (bs : List ℕ) → run (home q) d s at b (92 ∷ bs) ≡ run (Escape q) d s (at + 1) b bs
begun InWord d s at b bs = refl
begun InQuote d s at b bs = refl

-- an escape, one octet after the other
escape_run : (q : Within) (x : Symbol) → is_escape_by Printable x ≡ true → (d s at : ℕ) (b : Bool) (rest : List ℕ)
    → run (home q) d s at b (spell x ++ rest) ≡ run (home q) d s (at + length (spell x)) b rest
escape_run q (Char c) is d s at b rest = absurd (cc)
escape_run q (SimpleEscape o) is d s at b rest =
    let parts = and_parts (is_printable o) (not (is_digit o)) is in
    let isnt : not (is_digit o) ≡ true = parts.1 in
    begun q d s at b (o ∷ rest) ∙ simple_left q o d s (at + 1) b rest parts.0 (grind (arith, nat_tests)) ∙ ap (λ j. run (home q) d s j b rest) (omega arith)
escape_run q (DecimalEscape o) is d s at b rest =
    let low : o < 256 = grind (arith, nat_tests) in
    let x : ℕ = 48 + o / 100 in
    let y : ℕ = 48 + o / 10 % 10 in
    let z : ℕ = 48 + o % 10 in
    let small : o / 100 < 3 = omega arith in
    let digit_x : is_digit x ≡ true = grind (arith, nat_tests) in
    let digit_y : is_digit y ≡ true = digit (o / 10 % 10) (omega arith) in
    let digit_z : is_digit z ≡ true = digit (o % 10) (omega arith) in
    let first : nat_le x 50 ≡ true = le-leb x 50 (omega arith) in
    let second : nat_le (10 * (x - 48) + (y - 48)) 25 ≡ true = le-leb (10 * (x - 48) + (y - 48)) 25 (omega arith) in
    let third : nat_le (10 * (10 * (x - 48) + (y - 48)) + (z - 48)) 255 ≡ true = le-leb (10 * (10 * (x - 48) + (y - 48)) + (z - 48)) 255 (omega arith) in
    begun q d s at b (x ∷ y ∷ z ∷ rest) ∙ first_left q x d s (at + 1) b (y ∷ z ∷ rest) digit_x first
    ∙ second_left q (x - 48) y d s (at + 1 + 1) b (z ∷ rest) digit_y second
    ∙ third_left q (10 * (x - 48) + (y - 48)) z d s (at + 1 + 1 + 1) b rest digit_z third ∙ ap (λ j. run (home q) d s j b rest) (omega arith)
  where
    digit : (n : ℕ) → n < 10 → is_digit (48 + n) ≡ true
    digit n few = grind (arith, nat_tests)

-- and in a text, in a word and in a quoted string
pub escape_skipped : (text : List ℕ) (i : ℕ) (e : EscapedOctet) → i < length text → ReadsEscape Printable (take (length text - i) (drop i text)) (Ok e)
    → Skips text i (i + length (spell (escape_symbol e)))
escape_skipped text i e in_text read = record {
  on = omega (arith, spell_some (escape_symbol e));
  within = omega (arith, in_text, few, ap length here.1, length-append (spell (escape_symbol e)) (drop (length (spell (escape_symbol e))) (drop i text)));
  word = same InWord;
  quoted = same InQuote;
}
  where
    few : length text - i ≡ length (drop i text)
    few = simp length-drop refl

    here : ReadsEscape Printable (drop i text) (Ok e)
    here = subst (λ t. ReadsEscape Printable t (Ok e)) (take_all (length text - i) (drop i text) (omega (arith, few))) read

    same : (q : Within) → SameRun (home q) text i (i + length (spell (escape_symbol e)))
    same q d s b =
        let n : ℕ = length (spell (escape_symbol e)) in
        ap (run (home q) d s i b) here.1 ∙ escape_run q (escape_symbol e) here.0 d s i b (drop n (drop i text)) ∙ ap (run (home q) d s (i + n) b) (drop-drop n i text)

-- ---- tokens
-- a class in its mode
pub class_still : (q : Within) (c : ℕ) → is_in (class_of q) c ≡ true → Still (home q) c
class_still InWord c h = word_still c h
class_still InQuote c h = quote_still c h

pub class_run : (q : Within) (text : List ℕ) (i j : ℕ) → i ≤ j → j ≤ length text → EachIn (class_of q) text i j → SameRun (home q) text i j
class_run q text i j o w all = still_between (home q) (class_of q) (class_still q) text i j o w all

pub run_joined : (m : Mode) (text : List ℕ) (i j e : ℕ) → SameRun m text i j → SameRun m text j e → SameRun m text i e
run_joined m text i j e front back d s b = front d s b ∙ back d s b

-- a run of the class, after what yielded the same
pub class_more : (q : Within) (k : OctetClass) → k ≡ class_of q → (text : List ℕ) (i j e : ℕ) → SameRun (home q) text i j → j ≤ e → e ≤ length text → EachIn k text j e → SameRun (home q) text i e
class_more q k is text i j e before on within each =
    run_joined (home q) text i j e before (class_run q text j e on within (subst (λ l. EachIn l text j e) is each))

-- an octet that joins a token, in a text
pub one_on : (q : Within) (text : List ℕ) (i : ℕ) → i < length text → Still (home q) (get_or text i 0) → ContinuesPiece q text i (i + 1)
one_on q text i h still = record {
  on = omega arith;
  within = omega arith;
  same = λ d s b. ap (run (home q) d s i b) (at_drop text i h) ∙ still d s i b (drop (i + 1) text);
}

pub escape_on : (q : Within) (text : List ℕ) (i j : ℕ) → Skips text i j → ContinuesPiece q text i j
escape_on InWord text i j h = record { on = h.on; within = h.within; same = h.word }
escape_on InQuote text i j h = record { on = h.on; within = h.within; same = h.quoted }

-- ---- later places
pub blanks_passed : (text : List ℕ) (p : NestedOffset) (e : ℕ) → p.at < length text → p.depth ≤ p.at → is_in Blank (get_or text p.at 0) ≡ true
    → p.at + 1 ≤ e → e ≤ length text → EachIn Blank text (p.at + 1) e → Passes text p (record { depth = p.depth; at = e })
blanks_passed text p e w deep here o v rest =
    let all = each_joined Blank text p.at (p.at + 1) e (each_more Blank text p.at p.at (each_none Blank text p.at) here) rest in
    record {
      on = omega (arith, o);
      within = v;
      deep = omega (arith, o, deep);
      same = λ b. blank_between text p.at e (omega (arith, o)) v all p.depth b;
    }

pub blank_is : (c : ℕ) → (c ≡ 9) ⊎ (c ≡ 32) → is_in Blank c ≡ true
blank_is c (inl e) = ap (is_in Blank) e
blank_is c (inr e) = ap (is_in Blank) e

-- one octet after which nothing is open
pub one_passed : (text : List ℕ) (p : NestedOffset) (n : ℕ) → p.at < length text → n ≤ p.at + 1 → step Outside p.depth (get_or text p.at 0) ≡ move_to Outside n EndToken → Passes text p (record { depth = n; at = p.at + 1 })
one_passed text p n w deep h = record {
  on = omega arith;
  within = omega (arith, w);
  deep = deep;
  same = λ b. ap (run Outside p.depth p.at p.at b) (at_drop text p.at w) ∙ moved_on (get_or text p.at 0) p.depth n p.at b (drop (p.at + 1) text) h;
}

pub open_step : (c d : ℕ) → c ≡ 40 → step Outside d c ≡ move_to Outside (d + 1) EndToken
open_step c d is = let more : suc d ≡ d + 1 = omega arith in ap (step Outside d) is ∙ ap (λ n. move_to Outside n EndToken) more

pub close_step : (c d : ℕ) → c ≡ 41 → 0 < d → step Outside d c ≡ move_to Outside (d - 1) EndToken
close_step c zero is some = absurd (omega (arith, some))
close_step c (suc d) is some = let less : d ≡ suc d - 1 = omega arith in ap (step Outside (suc d)) is ∙ ap (λ n. move_to Outside n EndToken) less

pub feed_step : (c d : ℕ) → c ≡ 10 → 0 < d → step Outside d c ≡ move_to Outside d EndToken
feed_step c zero is some = absurd (omega (arith, some))
feed_step c (suc d) is some = ap (step Outside (suc d)) is

-- ---- pieces
opens_comment : (d at : ℕ) (b : Bool) (bs : List ℕ) → run Outside d at at b (59 ∷ bs) ≡ run Comment d at (at + 1) b bs
opens_comment d at b bs = run_step Outside d at at b 59 bs _ refl ∙ ap (λ o. before o (run Comment d at (at + 1) b bs)) (cond-true _ _ _ (eq-eqb at at refl))

opens_quote : (d at : ℕ) (b : Bool) (bs : List ℕ) → run Outside d at at b (34 ∷ bs) ≡ run Quoted d at (at + 1) b bs
opens_quote d at b bs = run_step Outside d at at b 34 bs _ refl ∙ ap (λ o. before o (run Quoted d at (at + 1) b bs)) (cond-true _ _ _ (eq-eqb at at refl))

opened : (m : Mode) (n : ℕ) → ((d at : ℕ) (b : Bool) (bs : List ℕ) → run Outside d at at b (n ∷ bs) ≡ run m d at (at + 1) b bs)
    → (text : List ℕ) (i : ℕ) → i < length text → get_or text i 0 ≡ n → (d : ℕ) (b : Bool) → run Outside d i i b (drop i text) ≡ run m d i (i + 1) b (drop (i + 1) text)
opened m n opens text i w is d b = ap (run Outside d i i b) (at_drop text i w ∙ ap (λ c. c ∷ drop (i + 1) text) is) ∙ opens d i b (drop (i + 1) text)

pub comment_given : (text : List ℕ) (p : NestedOffset) (b : Bool) (e : ℕ) → p.at < length text → get_or text p.at 0 ≡ 59 → p.at + 1 ≤ e → e ≤ length text → EachIn Note text (p.at + 1) e
    → EndsComment text p.depth e → YieldsPiece text p b (record { piece = comment_at p.at e; at = e; begins_blank = b })
comment_given text p b e w is o v all ends = record {
  on = omega (arith, o);
  within = v;
  same = opened Comment 59 opens_comment text p.at w is p.depth b ∙ still_between Comment Note note_still text (p.at + 1) e o v all p.depth p.at b ∙ ends p.at b;
  blank = refl;
}

pub quote_given : (text : List ℕ) (p : NestedOffset) (b : Bool) (e : ℕ) → p.at < length text → get_or text p.at 0 ≡ 34 → p.at + 1 ≤ e → e < length text → SameRun Quoted text (p.at + 1) e
    → get_or text e 0 ≡ 34 → YieldsPiece text p b (record { piece = quote_at p.at (e + 1); at = e + 1; begins_blank = b })
quote_given text p b e w is o v same ends = record {
  on = omega (arith, o);
  within = omega (arith, v);
  same = opened Quoted 34 opens_quote text p.at w is p.depth b ∙ same p.depth p.at b ∙ ap (run Quoted p.depth p.at e b) (at_drop text e v ∙ ap (λ c. c ∷ drop (e + 1) text) ends);
  blank = refl;
}

pub word_given : (text : List ℕ) (p : NestedOffset) (b : Bool) (e at : ℕ) → p.at < e → SameRun Outside text p.at e → EndsWord text p.depth e at
    → YieldsPiece text p b (record { piece = word_at p.at e; at = at; begins_blank = b })
word_given text p b e at o same ends = record {
  on = omega (arith, o, ends.on);
  within = ends.within;
  same = same p.depth p.at b ∙ ends.same p.at b o;
  blank = refl;
}
