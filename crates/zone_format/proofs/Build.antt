-- Lexemes whose blanks and line ends are written again.
use Rattle.std.proofs.Common.{◌≡◌, ℕ, zero, suc, ◌+◌, ◌-◌, Bool, true, false, ◌&&◌, List, [], ◌∷◌, ◌++◌, drop, refl, ap, ◌∙◌, arith}
use Rattle.std.specs.Prelude.{replicate}
use Rattle.std.specs.List.{flat_map}
use lib.Utf8.{encode}
use Rattle.std.proofs.lemmas.Bool.{and_parts, and_from}
use Rattle.std.proofs.lemmas.Grind.{flat_map-append}
use Rattle.dns_symbol.specs.declared.symbol.Symbol.{Symbol}
use Rattle.dns_lexer.specs.Lexeme.{Lexeme, Blank, Line, Open, Close, Note, Word, Quote, lexeme_bytes, is_lexeme}
use Rattle.dns_lexer.specs.Splitting.{are_lexemes, may_precede, nests}
use Rattle.dns_lexer.specs.Pieces.{begins_blank}
use Rattle.zone_format.specs.declared.line_state.Above.{Above}
use Rattle.zone_format.specs.declared.line_state.Above.TheVariants.{Nothing, Line as AtLine, Gap as AtGap}
use Rattle.zone_format.specs.Marks.{Mark, Feed, lead, shortened}
use Rattle.zone_format.specs.Marks.{Token as TokenMark, Note as NoteMark, Open as OpenMark, Close as CloseMark}
use Rattle.zone_format.proofs.Respelling.{count, deep, end_if, first_of, gap_unless, next, respelt, some, space}
use Rattle.zone_format.proofs.Short.{note_short, note_valid}

-- the marks of lexemes, after a token or not
abbrev pub marks_of : Bool → ℕ → List Lexeme → List Mark
marks_of k d [] = []
marks_of k d (Blank t ∷ ls) = marks_of false d ls
marks_of k d (Open ∷ ls) = OpenMark ∷ marks_of false (suc d) ls
marks_of k zero (Close ∷ ls) = CloseMark ∷ marks_of false zero ls
marks_of k (suc d) (Close ∷ ls) = CloseMark ∷ marks_of false d ls
marks_of k zero (Line r ∷ ls) = Feed ∷ (lead (begins_blank ls) ++ marks_of false zero ls)
marks_of k (suc d) (Line r ∷ ls) = Feed ∷ marks_of false (suc d) ls
marks_of k d (Word s ss ∷ ls) = TokenMark k (lexeme_bytes (Word s ss)) ∷ marks_of true d ls
marks_of k d (Quote ss ∷ ls) = TokenMark k (lexeme_bytes (Quote ss)) ∷ marks_of true d ls
marks_of k d (Note cs ∷ ls) = NoteMark (shortened (lexeme_bytes (Note cs))) ∷ marks_of false d ls

abbrev pub blanks : ℕ → List Lexeme
blanks n = replicate n (Blank false)

abbrev pub spaces : Above → Bool → ℕ → List Lexeme
spaces a w n = gap_unless (Line false) w a ++ blanks n

abbrev pub build : List ℕ → Bool → Above → Bool → ℕ → Bool → List Lexeme → List Lexeme
build plan k a w d led [] = end_if (Line false) w
build plan k a w d led (Blank t ∷ ls) = build plan false a w d led ls
build plan k a w d led (Open ∷ ls) = spaces a w (count false w (deep d) led (first_of plan)) ++ (Open ∷ build (drop 1 plan) false a true (suc d) false ls)
build plan k a w zero led (Close ∷ ls) = []
build plan k a w (suc d) led (Close ∷ ls) = spaces a w (count false w (deep (suc d)) led (first_of plan)) ++ (Close ∷ build (drop 1 plan) false a true d false ls)
build plan k a w zero led (Line r ∷ ls) = end_if (Line false) w ++ build plan false (next w a) false zero (begins_blank ls) ls
build plan k a w (suc d) led (Line r ∷ ls) = end_if (Line false) w ++ build plan false (next w a) false (suc d) false ls
build plan k a w d led (Word s ss ∷ ls) = spaces a w (count k w (deep d) led (first_of plan)) ++ (Word s ss ∷ build (drop 1 plan) true a true d false ls)
build plan k a w d led (Quote ss ∷ ls) = spaces a w (count k w (deep d) led (first_of plan)) ++ (Quote ss ∷ build (drop 1 plan) true a true d false ls)
build plan k a w d led (Note cs ∷ ls) = spaces a w (count false w (deep d) led (first_of plan)) ++ (Note (shortened cs) ∷ build (drop 1 plan) false a true d false ls)

-- their bytes
blanks_bytes : (n : ℕ) → flat_map lexeme_bytes (blanks n) ≡ replicate n 32
unfolding encode
blanks_bytes zero = refl
blanks_bytes (suc n) = ap (λ l. 32 ∷ l) (blanks_bytes n)

gap_bytes : (w : Bool) (a : Above) → flat_map lexeme_bytes (gap_unless (Line false) w a) ≡ gap_unless 10 w a
unfolding encode
gap_bytes true a = refl
gap_bytes false Nothing = refl
gap_bytes false AtLine = refl
gap_bytes false AtGap = refl

end_bytes : (w : Bool) → flat_map lexeme_bytes (end_if (Line false) w) ≡ end_if 10 w
unfolding encode
end_bytes true = refl
end_bytes false = refl

spaces_bytes : (a : Above) (w : Bool) (n : ℕ) → flat_map lexeme_bytes (spaces a w n) ≡ space a w n
spaces_bytes a w n = flat_map-append lexeme_bytes (gap_unless (Line false) w a) (blanks n) ∙ ap (λ l. l ++ flat_map lexeme_bytes (blanks n)) (gap_bytes w a) ∙ ap (λ l. gap_unless 10 w a ++ l) (blanks_bytes n)

put : (a : Above) (w : Bool) (n : ℕ) (l : Lexeme) (rest : List Lexeme) (t r : List ℕ) → lexeme_bytes l ≡ t → flat_map lexeme_bytes rest ≡ r → flat_map lexeme_bytes (spaces a w n ++ (l ∷ rest)) ≡ space a w n ++ (t ++ r)
put a w n l rest t r h k =
    flat_map-append lexeme_bytes (spaces a w n) (l ∷ rest) ∙ ap (λ x. x ++ (lexeme_bytes l ++ flat_map lexeme_bytes rest)) (spaces_bytes a w n)
    ∙ ap (λ x. space a w n ++ (x ++ flat_map lexeme_bytes rest)) h ∙ ap (λ x. space a w n ++ (t ++ x)) k

one_more : (d : ℕ) → suc d ≡ d + 1
one_more d = omega arith

one_less : (d : ℕ) → d ≡ suc d - 1
one_less d = omega arith

open_is : lexeme_bytes Open ≡ 40 ∷ []
unfolding encode
open_is = refl

close_is : lexeme_bytes Close ≡ 41 ∷ []
unfolding encode
close_is = refl

line_put : (w : Bool) (rest : List Lexeme) (r : List ℕ) → flat_map lexeme_bytes rest ≡ r → flat_map lexeme_bytes (end_if (Line false) w ++ rest) ≡ end_if 10 w ++ r
line_put w rest r h = flat_map-append lexeme_bytes (end_if (Line false) w) rest ∙ ap (λ l. l ++ flat_map lexeme_bytes rest) (end_bytes w) ∙ ap (λ l. end_if 10 w ++ l) h

respelt_lead : (b : Bool) (plan : List ℕ) (a : Above) (w : Bool) (d : ℕ) (ms : List Mark) → respelt plan a w d b ms ≡ respelt plan a w d false (lead b ++ ms)
respelt_lead true plan a w d ms = refl
respelt_lead false plan a w d ms = refl

pub built_bytes : (ls : List Lexeme) (plan : List ℕ) (k : Bool) (a : Above) (w : Bool) (d : ℕ) (led : Bool) → nests d ls ≡ true → flat_map lexeme_bytes (build plan k a w d led ls) ≡ respelt plan a w d led (marks_of k d ls)
built_bytes [] plan k a w d led n = end_bytes w
built_bytes (Blank t ∷ ls) plan k a w d led n = built_bytes ls plan false a w d led n
built_bytes (Open ∷ ls) plan k a w d led n =
    put a w (count false w (deep d) led (first_of plan)) Open _ (40 ∷ []) (respelt (drop 1 plan) a true (d + 1) false (marks_of false (suc d) ls)) open_is
    (built_bytes ls (drop 1 plan) false a true (suc d) false n ∙ ap (λ m. respelt (drop 1 plan) a true m false (marks_of false (suc d) ls)) (one_more d))
built_bytes (Close ∷ ls) plan k a w zero led n = cc
built_bytes (Close ∷ ls) plan k a w (suc d) led n =
    put a w (count false w (deep (suc d)) led (first_of plan)) Close _ (41 ∷ []) (respelt (drop 1 plan) a true (suc d - 1) false (marks_of false d ls)) close_is
    (built_bytes ls (drop 1 plan) false a true d false n ∙ ap (λ m. respelt (drop 1 plan) a true m false (marks_of false d ls)) (one_less d))
built_bytes (Line r ∷ ls) plan k a w zero led n = line_put w _ _ (built_bytes ls plan false (next w a) false zero (begins_blank ls) n ∙ respelt_lead (begins_blank ls) plan (next w a) false zero (marks_of false zero ls))
built_bytes (Line r ∷ ls) plan k a w (suc d) led n = line_put w _ _ (built_bytes ls plan false (next w a) false (suc d) false n)
built_bytes (Word s ss ∷ ls) plan k a w d led n = put a w (count k w (deep d) led (first_of plan)) (Word s ss) _ (lexeme_bytes (Word s ss)) _ refl (built_bytes ls (drop 1 plan) true a true d false n)
built_bytes (Quote ss ∷ ls) plan k a w d led n = put a w (count k w (deep d) led (first_of plan)) (Quote ss) _ (lexeme_bytes (Quote ss)) _ refl (built_bytes ls (drop 1 plan) true a true d false n)
built_bytes (Note cs ∷ ls) plan k a w d led n = put a w (count false w (deep d) led (first_of plan)) (Note (shortened cs)) _ (shortened (lexeme_bytes (Note cs))) _ (note_short cs) (built_bytes ls (drop 1 plan) false a true d false n)

-- they nest
blanks_nest : (n d : ℕ) (ls : List Lexeme) → nests d (blanks n ++ ls) ≡ nests d ls
blanks_nest zero d ls = refl
blanks_nest (suc n) d ls = blanks_nest n d ls

spaces_nest : (a : Above) (w : Bool) (n d : ℕ) (ls : List Lexeme) → nests d (spaces a w n ++ ls) ≡ nests d ls
spaces_nest a true n d ls = blanks_nest n d ls
spaces_nest Nothing false n d ls = blanks_nest n d ls
spaces_nest AtLine false n d ls = blanks_nest n d ls
spaces_nest AtGap false n d ls = blanks_nest n d ls

end_nests : (w : Bool) (d : ℕ) (ls : List Lexeme) → nests d (end_if (Line false) w ++ ls) ≡ nests d ls
end_nests true d ls = refl
end_nests false d ls = refl

last_nests : (w : Bool) (d : ℕ) → nests d [] ≡ true → nests d (end_if (Line false) w) ≡ true
last_nests true zero n = refl
last_nests true (suc d) n = cc
last_nests false d n = n

pub built_nests : (ls : List Lexeme) (plan : List ℕ) (k : Bool) (a : Above) (w : Bool) (d : ℕ) (led : Bool) → nests d ls ≡ true → nests d (build plan k a w d led ls) ≡ true
built_nests [] plan k a w d led n = last_nests w d n
built_nests (Blank t ∷ ls) plan k a w d led n = built_nests ls plan false a w d led n
built_nests (Open ∷ ls) plan k a w d led n = spaces_nest a w _ d _ ∙ built_nests ls (drop 1 plan) false a true (suc d) false n
built_nests (Close ∷ ls) plan k a w zero led n = cc
built_nests (Close ∷ ls) plan k a w (suc d) led n = spaces_nest a w _ (suc d) _ ∙ built_nests ls (drop 1 plan) false a true d false n
built_nests (Line r ∷ ls) plan k a w zero led n = end_nests w zero _ ∙ built_nests ls plan false (next w a) false zero (begins_blank ls) n
built_nests (Line r ∷ ls) plan k a w (suc d) led n = end_nests w (suc d) _ ∙ built_nests ls plan false (next w a) false (suc d) false n
built_nests (Word s ss ∷ ls) plan k a w d led n = spaces_nest a w _ d _ ∙ built_nests ls (drop 1 plan) true a true d false n
built_nests (Quote ss ∷ ls) plan k a w d led n = spaces_nest a w _ d _ ∙ built_nests ls (drop 1 plan) true a true d false n
built_nests (Note cs ∷ ls) plan k a w d led n = spaces_nest a w _ d _ ∙ built_nests ls (drop 1 plan) false a true d false n

-- they are lexemes
blanks_valid : (n : ℕ) (ls : List Lexeme) → are_lexemes ls ≡ true → are_lexemes (blanks n ++ ls) ≡ true
blanks_valid zero ls v = v
blanks_valid (suc n) ls v = blanks_valid n ls v

spaces_valid : (a : Above) (w : Bool) (n : ℕ) (ls : List Lexeme) → are_lexemes ls ≡ true → are_lexemes (spaces a w n ++ ls) ≡ true
spaces_valid a true n ls v = blanks_valid n ls v
spaces_valid Nothing false n ls v = blanks_valid n ls v
spaces_valid AtLine false n ls v = blanks_valid n ls v
spaces_valid AtGap false n ls v = blanks_valid n ls v

end_valid : (w : Bool) (ls : List Lexeme) → are_lexemes ls ≡ true → are_lexemes (end_if (Line false) w ++ ls) ≡ true
end_valid true ls v = v
end_valid false ls v = v

last_valid : (w : Bool) → are_lexemes (end_if (Line false) w) ≡ true
last_valid true = refl
last_valid false = refl

abbrev no_word : List Lexeme → Bool
no_word (Word s ss ∷ ls) = false
no_word _ = true

may_word : (s : Symbol) (ss : List Symbol) (ls : List Lexeme) → no_word ls ≡ true → may_precede (Word s ss) ls ≡ true
may_word s ss [] n = refl
may_word s ss (Word a b ∷ ls) n = cc
may_word s ss (Quote a ∷ ls) n = refl
may_word s ss (Blank a ∷ ls) n = refl
may_word s ss (Line a ∷ ls) n = refl
may_word s ss (Open ∷ ls) n = refl
may_word s ss (Close ∷ ls) n = refl
may_word s ss (Note a ∷ ls) n = refl

-- a blank precedes what isn't adjacent
some_first : (n : ℕ) (ls : List Lexeme) → no_word (blanks (some n) ++ ls) ≡ true
some_first zero ls = refl
some_first (suc n) ls = refl

-- before something other than a word
plain_first : (n : ℕ) (ls : List Lexeme) → no_word ls ≡ true → no_word (blanks n ++ ls) ≡ true
plain_first zero ls h = h
plain_first (suc n) ls h = refl

parted : (ls : List Lexeme) (plan : List ℕ) (a : Above) (d : ℕ) (led : Bool) → no_word (build plan false a true d led ls) ≡ true
parted [] plan a d led = refl
parted (Blank t ∷ ls) plan a d led = parted ls plan a d led
parted (Open ∷ ls) plan a d led = some_first (first_of plan) _
parted (Close ∷ ls) plan a zero led = refl
parted (Close ∷ ls) plan a (suc d) led = some_first (first_of plan) _
parted (Line r ∷ ls) plan a zero led = refl
parted (Line r ∷ ls) plan a (suc d) led = refl
parted (Word s ss ∷ ls) plan a d led = some_first (first_of plan) _
parted (Quote ss ∷ ls) plan a d led = some_first (first_of plan) _
parted (Note cs ∷ ls) plan a d led = some_first (first_of plan) _

after_word : (s : Symbol) (ss : List Symbol) (ls : List Lexeme) (plan : List ℕ) (a : Above) (d : ℕ) (led : Bool) → may_precede (Word s ss) ls ≡ true → no_word (build plan true a true d led ls) ≡ true
after_word s ss [] plan a d led h = refl
after_word s ss (Blank t ∷ ls) plan a d led h = parted ls plan a d led
after_word s ss (Open ∷ ls) plan a d led h = some_first (first_of plan) _
after_word s ss (Close ∷ ls) plan a zero led h = refl
after_word s ss (Close ∷ ls) plan a (suc d) led h = some_first (first_of plan) _
after_word s ss (Line r ∷ ls) plan a zero led h = refl
after_word s ss (Line r ∷ ls) plan a (suc d) led h = refl
after_word s ss (Word x y ∷ ls) plan a d led h = cc
after_word s ss (Quote x ∷ ls) plan a d led h = refl
after_word s ss (Note cs ∷ ls) plan a d led h = some_first (first_of plan) _

after_note : (cs ds : List ℕ) (ls : List Lexeme) (plan : List ℕ) (a : Above) (d : ℕ) (led : Bool) → may_precede (Note cs) ls ≡ true → may_precede (Note ds) (build plan false a true d led ls) ≡ true
after_note cs ds [] plan a d led h = refl
after_note cs ds (Line r ∷ ls) plan a zero led h = refl
after_note cs ds (Line r ∷ ls) plan a (suc d) led h = refl
after_note cs ds (Blank t ∷ ls) plan a d led h = cc
after_note cs ds (Open ∷ ls) plan a d led h = cc
after_note cs ds (Close ∷ ls) plan a d led h = cc
after_note cs ds (Word s ss ∷ ls) plan a d led h = cc
after_note cs ds (Quote ss ∷ ls) plan a d led h = cc
after_note cs ds (Note es ∷ ls) plan a d led h = cc

pub valid_parts : (l : Lexeme) (ls : List Lexeme) → are_lexemes (l ∷ ls) ≡ true → (is_lexeme l ≡ true) × (may_precede l ls ≡ true) × (are_lexemes ls ≡ true)
valid_parts l ls v =
    let q = and_parts (is_lexeme l && may_precede l ls) (are_lexemes ls) v in
    let p = and_parts (is_lexeme l) (may_precede l ls) q.0 in (p.0, p.1, q.1)

valid_from : (l : Lexeme) (ls : List Lexeme) → is_lexeme l ≡ true → may_precede l ls ≡ true → are_lexemes ls ≡ true → are_lexemes (l ∷ ls) ≡ true
valid_from l ls a b c = and_from (is_lexeme l && may_precede l ls) (are_lexemes ls) (and_from (is_lexeme l) (may_precede l ls) a b) c

pub built_valid : (ls : List Lexeme) (plan : List ℕ) (k : Bool) (a : Above) (w : Bool) (d : ℕ) (led : Bool) → are_lexemes ls ≡ true → are_lexemes (build plan k a w d led ls) ≡ true
built_valid [] plan k a w d led v = last_valid w
built_valid (Blank t ∷ ls) plan k a w d led v = built_valid ls plan false a w d led (valid_parts (Blank t) ls v).2
built_valid (Open ∷ ls) plan k a w d led v = let rest = build (drop 1 plan) false a true (suc d) false ls in spaces_valid a w _ (Open ∷ rest) (valid_from Open rest refl refl (built_valid ls (drop 1 plan) false a true (suc d) false (valid_parts Open ls v).2))
built_valid (Close ∷ ls) plan k a w zero led v = refl
built_valid (Close ∷ ls) plan k a w (suc d) led v = let rest = build (drop 1 plan) false a true d false ls in spaces_valid a w _ (Close ∷ rest) (valid_from Close rest refl refl (built_valid ls (drop 1 plan) false a true d false (valid_parts Close ls v).2))
built_valid (Line r ∷ ls) plan k a w zero led v = end_valid w _ (built_valid ls plan false (next w a) false zero (begins_blank ls) (valid_parts (Line r) ls v).2)
built_valid (Line r ∷ ls) plan k a w (suc d) led v = end_valid w _ (built_valid ls plan false (next w a) false (suc d) false (valid_parts (Line r) ls v).2)
built_valid (Word s ss ∷ ls) plan k a w d led v =
    let p = valid_parts (Word s ss) ls v in
    let rest = build (drop 1 plan) true a true d false ls in
    spaces_valid a w _ _ (valid_from (Word s ss) rest p.0 (may_word s ss rest (after_word s ss ls (drop 1 plan) a d false p.1)) (built_valid ls (drop 1 plan) true a true d false p.2))
built_valid (Quote ss ∷ ls) plan k a w d led v =
    let p = valid_parts (Quote ss) ls v in
    let rest = build (drop 1 plan) true a true d false ls in
    spaces_valid a w _ (Quote ss ∷ rest) (valid_from (Quote ss) rest p.0 refl (built_valid ls (drop 1 plan) true a true d false p.2))
built_valid (Note cs ∷ ls) plan k a w d led v =
    let p = valid_parts (Note cs) ls v in
    let rest = build (drop 1 plan) false a true d false ls in
    spaces_valid a w _ _ (valid_from (Note (shortened cs)) rest (note_valid cs p.0) (after_note cs (shortened cs) ls (drop 1 plan) a d false p.1) (built_valid ls (drop 1 plan) false a true d false p.2))
