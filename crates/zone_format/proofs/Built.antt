-- The marks of lexemes that are built are those that were read, with runs of line ends shortened.
use Rattle.std.proofs.Common.{◌≡◌, ℕ, zero, suc, Bool, true, false, List, [], ◌∷◌, ◌++◌, drop, refl, sym, ap, ◌∙◌}
use Rattle.dns_lexer.specs.Lexeme.{Lexeme, Blank, Line, Open, Close, Note, Word, Quote, lexeme_bytes}
use Rattle.dns_lexer.specs.Splitting.{nests}
use Rattle.dns_lexer.specs.Pieces.{begins_blank}
use Rattle.zone_format.specs.declared.line_state.Above.{Above}
use Rattle.zone_format.specs.declared.line_state.Above.TheVariants.{Nothing, Line as AtLine, Gap as AtGap}
use Rattle.zone_format.specs.Form.{blank_below, gap}
use Rattle.zone_format.specs.Marks.{Mark, Feed, lead, shortened}
use Rattle.zone_format.specs.Marks.{Token as TokenMark, Note as NoteMark, Open as OpenMark, Close as CloseMark}
use Rattle.zone_format.proofs.Respelling.{count, deep, first_of, lead_in, some, sq}
use Rattle.zone_format.proofs.Build.{blanks, build, marks_of, spaces}
use Rattle.zone_format.proofs.Short.{note_short, short_twice}

plain_marks : (n d : ℕ) (ls : List Lexeme) → marks_of false d (blanks n ++ ls) ≡ marks_of false d ls
plain_marks zero d ls = refl
plain_marks (suc n) d ls = plain_marks n d ls

-- on a line
glued_marks : (k : Bool) (deep led : Bool) (n d : ℕ) (ls : List Lexeme) → marks_of k d (blanks (count k true deep led n) ++ ls) ≡ marks_of k d ls
glued_marks true deep led n d ls = refl
glued_marks false deep led n d ls = plain_marks (some n) d ls

some_marks : (k : Bool) (n d : ℕ) (ls : List Lexeme) → marks_of k d (blanks (some n) ++ ls) ≡ marks_of false d ls
some_marks k zero d ls = refl
some_marks k (suc n) d ls = plain_marks n d ls

-- inside parentheses, at the beginning of a line
inner_marks : (a : Above) (n d : ℕ) (ls : List Lexeme) → marks_of false (suc d) (spaces a false n ++ ls) ≡ gap Feed a ++ marks_of false (suc d) ls
inner_marks Nothing n d ls = plain_marks n (suc d) ls
inner_marks AtLine n d ls = plain_marks n (suc d) ls
inner_marks AtGap n d ls = ap (λ l. Feed ∷ l) (plain_marks n (suc d) ls)

-- outside of them
some_blank : (n : ℕ) (ls : List Lexeme) → begins_blank (blanks (some n) ++ ls) ≡ true
some_blank zero ls = refl
some_blank (suc n) ls = refl

led_blank : (led : Bool) (n : ℕ) (ls : List Lexeme) → begins_blank ls ≡ false → begins_blank (blanks (count false false false led n) ++ ls) ≡ led
led_blank true n ls h = some_blank n ls
led_blank false n ls h = h

abbrev begun : ℕ → List Lexeme → List Mark
begun d ls = lead (begins_blank ls) ++ marks_of false d ls

led_marks : (led : Bool) (n : ℕ) (ls : List Lexeme) → begins_blank ls ≡ false → begun 0 (blanks (count false false false led n) ++ ls) ≡ lead led ++ marks_of false 0 ls
led_marks led n ls h =
    ap (λ b. lead b ++ marks_of false 0 (blanks (count false false false led n) ++ ls)) (led_blank led n ls h) ∙ ap (λ l. lead led ++ l) (plain_marks (count false false false led n) 0 ls)

outer_marks : (a : Above) (led : Bool) (n : ℕ) (ls : List Lexeme) → begins_blank ls ≡ false → begun 0 (spaces a false (count false false false led n) ++ ls) ≡ lead_in a false led ++ marks_of false 0 ls
outer_marks Nothing led n ls h = led_marks led n ls h
outer_marks AtLine led n ls h = led_marks led n ls h
outer_marks AtGap led n ls h = ap (λ l. Feed ∷ l) (led_marks led n ls h)

pub sq_lead : (b : Bool) (a : Above) (w : Bool) (ms : List Mark) → sq a w false (lead b ++ ms) ≡ sq a w b ms
sq_lead true a w ms = refl
sq_lead false a w ms = refl

note_same : (cs : List ℕ) → shortened (lexeme_bytes (Note (shortened cs))) ≡ shortened (lexeme_bytes (Note cs))
note_same cs = ap shortened (note_short cs) ∙ short_twice (lexeme_bytes (Note cs))

inner_put : (a : Above) (m : Mark) (xs ys : List Mark) → xs ≡ ys → gap Feed a ++ (m ∷ xs) ≡ lead_in a false false ++ (m ∷ ys)
inner_put Nothing m xs ys e = ap (λ l. m ∷ l) e
inner_put AtLine m xs ys e = ap (λ l. m ∷ l) e
inner_put AtGap m xs ys e = ap (λ l. Feed ∷ m ∷ l) e

-- what is built after a blank begins with nothing that could be glued
unglued : (ls : List Lexeme) (plan : List ℕ) (a : Above) (d : ℕ) (led : Bool) → marks_of true d (build plan false a true d led ls) ≡ marks_of false d (build plan false a true d led ls)
unglued [] plan a zero led = refl
unglued [] plan a (suc d) led = refl
unglued (Blank t ∷ ls) plan a d led = unglued ls plan a d led
unglued (Open ∷ ls) plan a d led = some_marks true (first_of plan) d _ ∙ sym (some_marks false (first_of plan) d _)
unglued (Close ∷ ls) plan a zero led = refl
unglued (Close ∷ ls) plan a (suc d) led = some_marks true (first_of plan) (suc d) _ ∙ sym (some_marks false (first_of plan) (suc d) _)
unglued (Line r ∷ ls) plan a zero led = refl
unglued (Line r ∷ ls) plan a (suc d) led = refl
unglued (Word s ss ∷ ls) plan a d led = some_marks true (first_of plan) d _ ∙ sym (some_marks false (first_of plan) d _)
unglued (Quote ss ∷ ls) plan a d led = some_marks true (first_of plan) d _ ∙ sym (some_marks false (first_of plan) d _)
unglued (Note cs ∷ ls) plan a d led = some_marks true (first_of plan) d _ ∙ sym (some_marks false (first_of plan) d _)

abbrev Within : List Lexeme → Type 0
Within ls = (plan : List ℕ) (k : Bool) (a : Above) (d : ℕ) (led : Bool) → nests d ls ≡ true → marks_of k d (build plan k a true d led ls) ≡ sq a true led (marks_of k d ls)

abbrev Outer : List Lexeme → Type 0
Outer ls = (plan : List ℕ) (a : Above) (led : Bool) → nests 0 ls ≡ true → begun 0 (build plan false a false 0 led ls) ≡ sq a false led (marks_of false 0 ls)

abbrev Inner : List Lexeme → Type 0
Inner ls = (plan : List ℕ) (a : Above) (d : ℕ) → nests (suc d) ls ≡ true → marks_of false (suc d) (build plan false a false (suc d) false ls) ≡ sq a false false (marks_of false (suc d) ls)

within_line : (ls : List Lexeme) (r : Bool) → Outer ls → Inner ls → Within (Line r ∷ ls)
within_line ls r o i plan k a zero led n = ap (λ l. Feed ∷ l) (o plan AtLine (begins_blank ls) n ∙ sym (sq_lead (begins_blank ls) AtLine false (marks_of false zero ls)))
within_line ls r o i plan k a (suc d) led n = ap (λ l. Feed ∷ l) (i plan AtLine d n)

within_close : (ls : List Lexeme) → Within ls → Within (Close ∷ ls)
within_close ls h plan k a zero led n = cc
within_close ls h plan k a (suc d) led n = some_marks k (first_of plan) (suc d) _ ∙ ap (λ l. CloseMark ∷ l) (h (drop 1 plan) false a d false n)

last_within : Within []
last_within plan k a zero led n = refl
last_within plan k a (suc d) led n = cc

abbrev All : List Lexeme → Type 0
All ls = Within ls × Outer ls × Inner ls

pub built_marks : (ls : List Lexeme) → All ls
built_marks [] = (last_within, λ plan a led n. refl, λ plan a d n. cc)
built_marks (Blank t ∷ ls) = (λ plan k a d led n. blank_within ls k (built_marks ls).0 plan a d led n, λ plan a led n. (built_marks ls).1 plan a led n, λ plan a d n. (built_marks ls).2 plan a d n)
  where
    blank_within : (ls : List Lexeme) (k : Bool) → Within ls → (plan : List ℕ) (a : Above) (d : ℕ) (led : Bool) → nests d ls ≡ true → marks_of k d (build plan false a true d led ls) ≡ sq a true led (marks_of false d ls)
    blank_within ls true h plan a d led n = unglued ls plan a d led ∙ h plan false a d led n
    blank_within ls false h plan a d led n = h plan false a d led n
built_marks (Open ∷ ls) = (
  λ plan k a d led n. some_marks k (first_of plan) d _ ∙ ap (λ l. OpenMark ∷ l) ((built_marks ls).0 (drop 1 plan) false a (suc d) false n),
  λ plan a led n. outer_marks a led (first_of plan) _ refl ∙ ap (λ l. lead_in a false led ++ (OpenMark ∷ l)) ((built_marks ls).0 (drop 1 plan) false a 1 false n),
  λ plan a d n. inner_marks a _ d _ ∙ inner_put a OpenMark _ _ ((built_marks ls).0 (drop 1 plan) false a (suc (suc d)) false n),
)
built_marks (Close ∷ ls) = (
  within_close ls (built_marks ls).0,
  λ plan a led n. cc,
  λ plan a d n. inner_marks a _ d _ ∙ inner_put a CloseMark _ _ ((built_marks ls).0 (drop 1 plan) false a d false n),
)
built_marks (Line r ∷ ls) = (
  within_line ls r (built_marks ls).1 (built_marks ls).2,
  λ plan a led n. (built_marks ls).1 plan (blank_below a) (begins_blank ls) n ∙ sym (sq_lead (begins_blank ls) (blank_below a) false (marks_of false 0 ls)),
  λ plan a d n. (built_marks ls).2 plan (blank_below a) d n,
)
built_marks (Word s ss ∷ ls) = (
  λ plan k a d led n. glued_marks k (deep d) led (first_of plan) d _ ∙ ap (λ l. TokenMark k (lexeme_bytes (Word s ss)) ∷ l) ((built_marks ls).0 (drop 1 plan) true a d false n),
  λ plan a led n. outer_marks a led (first_of plan) _ refl ∙ ap (λ l. lead_in a false led ++ (TokenMark false (lexeme_bytes (Word s ss)) ∷ l)) ((built_marks ls).0 (drop 1 plan) true a 0 false n),
  λ plan a d n. inner_marks a _ d _ ∙ inner_put a (TokenMark false (lexeme_bytes (Word s ss))) _ _ ((built_marks ls).0 (drop 1 plan) true a (suc d) false n),
)
built_marks (Quote ss ∷ ls) = (
  λ plan k a d led n. glued_marks k (deep d) led (first_of plan) d _ ∙ ap (λ l. TokenMark k (lexeme_bytes (Quote ss)) ∷ l) ((built_marks ls).0 (drop 1 plan) true a d false n),
  λ plan a led n. outer_marks a led (first_of plan) _ refl ∙ ap (λ l. lead_in a false led ++ (TokenMark false (lexeme_bytes (Quote ss)) ∷ l)) ((built_marks ls).0 (drop 1 plan) true a 0 false n),
  λ plan a d n. inner_marks a _ d _ ∙ inner_put a (TokenMark false (lexeme_bytes (Quote ss))) _ _ ((built_marks ls).0 (drop 1 plan) true a (suc d) false n),
)
built_marks (Note cs ∷ ls) = (
  λ plan k a d led n. some_marks k (first_of plan) d _ ∙ ap (λ t. NoteMark t ∷ marks_of false d (build (drop 1 plan) false a true d false ls)) (note_same cs)
      ∙ ap (λ l. NoteMark (shortened (lexeme_bytes (Note cs))) ∷ l) ((built_marks ls).0 (drop 1 plan) false a d false n),
  λ plan a led n. outer_marks a led (first_of plan) _ refl ∙ ap (λ t. lead_in a false led ++ (NoteMark t ∷ marks_of false 0 (build (drop 1 plan) false a true 0 false ls))) (note_same cs)
      ∙ ap (λ l. lead_in a false led ++ (NoteMark (shortened (lexeme_bytes (Note cs))) ∷ l)) ((built_marks ls).0 (drop 1 plan) false a 0 false n),
  λ plan a d n. inner_marks a _ d _ ∙ ap (λ t. gap Feed a ++ (NoteMark t ∷ marks_of false (suc d) (build (drop 1 plan) false a true (suc d) false ls))) (note_same cs)
      ∙ inner_put a (NoteMark (shortened (lexeme_bytes (Note cs)))) _ _ ((built_marks ls).0 (drop 1 plan) false a (suc d) false n),
)
