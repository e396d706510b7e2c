-- Texts one after the other, with a line end between.
use Rattle.std.proofs.Common.{◌≡◌, ℕ, zero, suc, ◌<◌, Bool, true, ◌&&◌, List, [], ◌∷◌, ◌++◌, length, refl, sym, ap, ◌∙◌, arith, length-append}
use Rattle.std.specs.List.{flat_map}
use Rattle.std.proofs.lemmas.Bool.{and_parts, and_from}
use Rattle.std.proofs.lemmas.Grind.{flat_map-append}
use Rattle.dns_lexer.specs.Lexeme.{Lexeme, Blank, Line, Open, Close, Note, Word, Quote, lexeme_bytes, is_lexeme}
use Rattle.dns_lexer.specs.Splitting.{Splits, Entries, may_precede, are_lexemes, nests, with_token, entries}

-- whatever may be last may precede a line end
line_after : (l : Lexeme) (ls more : List Lexeme) (r : Bool) → may_precede l ls ≡ true → may_precede l (ls ++ Line r ∷ more) ≡ true
line_after (Word s ss) [] more r h = refl
line_after (Word s ss) (Word _ _ ∷ ls) more r h = cc
line_after (Word s ss) (Blank _ ∷ ls) more r h = refl
line_after (Word s ss) (Line _ ∷ ls) more r h = refl
line_after (Word s ss) (Open ∷ ls) more r h = refl
line_after (Word s ss) (Close ∷ ls) more r h = refl
line_after (Word s ss) (Note _ ∷ ls) more r h = refl
line_after (Word s ss) (Quote _ ∷ ls) more r h = refl
line_after (Note cs) [] more r h = refl
line_after (Note cs) (Line _ ∷ ls) more r h = refl
line_after (Note cs) (Word _ _ ∷ ls) more r h = cc
line_after (Note cs) (Blank _ ∷ ls) more r h = cc
line_after (Note cs) (Open ∷ ls) more r h = cc
line_after (Note cs) (Close ∷ ls) more r h = cc
line_after (Note cs) (Note _ ∷ ls) more r h = cc
line_after (Note cs) (Quote _ ∷ ls) more r h = cc
line_after (Blank _) ls more r h = refl
line_after (Line _) ls more r h = refl
line_after Open ls more r h = refl
line_after Close ls more r h = refl
line_after (Quote ss) ls more r h = refl

-- whatever precedes a line end may be last
pub last_before : (l : Lexeme) (ls more : List Lexeme) (r : Bool) → may_precede l (ls ++ Line r ∷ more) ≡ true → may_precede l ls ≡ true
last_before (Word s ss) [] more r h = refl
last_before (Word s ss) (Word _ _ ∷ ls) more r h = cc
last_before (Word s ss) (Blank _ ∷ ls) more r h = refl
last_before (Word s ss) (Line _ ∷ ls) more r h = refl
last_before (Word s ss) (Open ∷ ls) more r h = refl
last_before (Word s ss) (Close ∷ ls) more r h = refl
last_before (Word s ss) (Note _ ∷ ls) more r h = refl
last_before (Word s ss) (Quote _ ∷ ls) more r h = refl
last_before (Note cs) [] more r h = refl
last_before (Note cs) (Line _ ∷ ls) more r h = refl
last_before (Note cs) (Word _ _ ∷ ls) more r h = cc
last_before (Note cs) (Blank _ ∷ ls) more r h = cc
last_before (Note cs) (Open ∷ ls) more r h = cc
last_before (Note cs) (Close ∷ ls) more r h = cc
last_before (Note cs) (Note _ ∷ ls) more r h = cc
last_before (Note cs) (Quote _ ∷ ls) more r h = cc
last_before (Blank _) ls more r h = refl
last_before (Line _) ls more r h = refl
last_before Open ls more r h = refl
last_before Close ls more r h = refl
last_before (Quote ss) ls more r h = refl

pub join_lexemes : (ls more : List Lexeme) (r : Bool) → are_lexemes ls ≡ true → are_lexemes more ≡ true → are_lexemes (ls ++ Line r ∷ more) ≡ true
join_lexemes [] more r h k = k
join_lexemes (l ∷ ls) more r h k =
    let p = and_parts (is_lexeme l && may_precede l ls) (are_lexemes ls) h in
    let q = and_parts (is_lexeme l) (may_precede l ls) p.0 in
    and_from _ _ (and_from _ _ q.0 (line_after l ls more r q.1)) (join_lexemes ls more r p.1 k)

cut_lexemes : (ls more : List Lexeme) (r : Bool) → are_lexemes (ls ++ Line r ∷ more) ≡ true → (are_lexemes ls ≡ true) × (are_lexemes more ≡ true)
cut_lexemes [] more r h = (refl, h)
cut_lexemes (l ∷ ls) more r h =
    let p = and_parts (is_lexeme l && may_precede l (ls ++ Line r ∷ more)) (are_lexemes (ls ++ Line r ∷ more)) h in
    let q = and_parts (is_lexeme l) (may_precede l (ls ++ Line r ∷ more)) p.0 in
    let e = cut_lexemes ls more r p.1 in
    (and_from _ _ (and_from _ _ q.0 (last_before l ls more r q.1)) e.0, e.1)

pub join_nests : (ls more : List Lexeme) (r : Bool) (d : ℕ) → nests d ls ≡ true → nests 0 more ≡ true → nests d (ls ++ Line r ∷ more) ≡ true
join_nests [] more r zero h k = k
join_nests [] more r (suc d) h k = cc
join_nests (Open ∷ ls) more r d h k = join_nests ls more r (suc d) h k
join_nests (Close ∷ ls) more r zero h k = cc
join_nests (Close ∷ ls) more r (suc d) h k = join_nests ls more r d h k
join_nests (Blank _ ∷ ls) more r d h k = join_nests ls more r d h k
join_nests (Line _ ∷ ls) more r d h k = join_nests ls more r d h k
join_nests (Note _ ∷ ls) more r d h k = join_nests ls more r d h k
join_nests (Word _ _ ∷ ls) more r d h k = join_nests ls more r d h k
join_nests (Quote _ ∷ ls) more r d h k = join_nests ls more r d h k

-- there is an entry
some_entry : (ls : List Lexeme) (d : ℕ) → 0 < length (entries d ls)
some_entry [] d = omega arith
some_entry (Open ∷ ls) d = some_entry ls (suc d)
some_entry (Close ∷ ls) zero = some_entry ls zero
some_entry (Close ∷ ls) (suc d) = some_entry ls d
some_entry (Line _ ∷ ls) zero = omega arith
some_entry (Line _ ∷ ls) (suc d) = some_entry ls (suc d)
some_entry (Blank _ ∷ ls) d = some_entry ls d
some_entry (Note _ ∷ ls) d = some_entry ls d
some_entry (Word s ss ∷ ls) d = with_some (lexeme_bytes (Word s ss)) (entries d ls)
  where
    with_some : (t : List ℕ) (e : Entries) → 0 < length (with_token t e)
    with_some t [] = omega arith
    with_some t (x ∷ e) = omega arith
some_entry (Quote ss ∷ ls) d = with_some (lexeme_bytes (Quote ss)) (entries d ls)
  where
    with_some : (t : List ℕ) (e : Entries) → 0 < length (with_token t e)
    with_some t [] = omega arith
    with_some t (x ∷ e) = omega arith

token_joined : (t : List ℕ) (e f : Entries) → 0 < length e → with_token t (e ++ f) ≡ with_token t e ++ f
token_joined t [] f h = absurd (omega arith)
token_joined t (x ∷ e) f h = refl

join_entries : (ls more : List Lexeme) (r : Bool) (d : ℕ) → nests d ls ≡ true → entries d (ls ++ Line r ∷ more) ≡ entries d ls ++ entries 0 more
join_entries [] more r zero h = refl
join_entries [] more r (suc d) h = cc
join_entries (Open ∷ ls) more r d h = join_entries ls more r (suc d) h
join_entries (Close ∷ ls) more r zero h = cc
join_entries (Close ∷ ls) more r (suc d) h = join_entries ls more r d h
join_entries (Line _ ∷ ls) more r zero h = ap (λ e. [] ∷ e) (join_entries ls more r zero h)
join_entries (Line _ ∷ ls) more r (suc d) h = join_entries ls more r (suc d) h
join_entries (Blank _ ∷ ls) more r d h = join_entries ls more r d h
join_entries (Note _ ∷ ls) more r d h = join_entries ls more r d h
join_entries (Word s ss ∷ ls) more r d h = ap (with_token (lexeme_bytes (Word s ss))) (join_entries ls more r d h) ∙ token_joined (lexeme_bytes (Word s ss)) (entries d ls) (entries 0 more) (some_entry ls d)
join_entries (Quote ss ∷ ls) more r d h = ap (with_token (lexeme_bytes (Quote ss))) (join_entries ls more r d h) ∙ token_joined (lexeme_bytes (Quote ss)) (entries d ls) (entries 0 more) (some_entry ls d)

pub join_bytes : (ls more : List Lexeme) (r : Bool) → flat_map lexeme_bytes (ls ++ Line r ∷ more) ≡ flat_map lexeme_bytes ls ++ (lexeme_bytes (Line r) ++ flat_map lexeme_bytes more)
join_bytes ls more r = flat_map-append lexeme_bytes ls (Line r ∷ more)

-- texts that split, with a line's end between
pub split_joined : (x y : List ℕ) (r : Bool) (e f : Entries) → Splits x e → Splits y f → Splits (x ++ (lexeme_bytes (Line r) ++ y)) (e ++ f)
split_joined x y r e f s t = record {
  lexemes = s.lexemes ++ Line r ∷ t.lexemes;
  spelled = join_bytes s.lexemes t.lexemes r ∙ ap (λ l. l ++ (lexeme_bytes (Line r) ++ flat_map lexeme_bytes t.lexemes)) s.spelled ∙ ap (λ l. x ++ (lexeme_bytes (Line r) ++ l)) t.spelled;
  valid = join_lexemes s.lexemes t.lexemes r s.valid t.valid;
  nested = join_nests s.lexemes t.lexemes r 0 s.nested t.nested;
  cut = join_entries s.lexemes t.lexemes r 0 s.nested ∙ ap (λ l. l ++ entries 0 t.lexemes) s.cut ∙ ap (λ l. e ++ l) t.cut;
}

-- lexemes cut after a number of entries
record IsCut (d : ℕ) (ls : List Lexeme) (e f : Entries) : Type 0 where
  pub front : List Lexeme
  pub ends : Bool
  pub back : List Lexeme
  pub is : ls ≡ front ++ Line ends ∷ back
  pub nested : nests d front ≡ true
  pub left : nests 0 back ≡ true
  pub found : entries d front ≡ e
  pub follow : entries 0 back ≡ f

abbrev Cuts : List Lexeme → Type 0
Cuts ls = (d : ℕ) (e f : Entries) → nests d ls ≡ true → entries d ls ≡ e ++ f → 0 < length e → 0 < length f → IsCut d ls e f

-- the same with another lexeme before, if the depth and the entries are those of the rest
one_before : (l : Lexeme) (ls : List Lexeme) (d d' : ℕ) (e e' f : Entries) → IsCut d' ls e' f → ((more : List Lexeme) → nests d (l ∷ more) ≡ nests d' more)
    → ((more : List Lexeme) → entries d' more ≡ e' → entries d (l ∷ more) ≡ e) → IsCut d (l ∷ ls) e f
one_before l ls d d' e e' f c n k = record {
  front = l ∷ c.front;
  ends = c.ends;
  back = c.back;
  is = ap (λ x. l ∷ x) c.is;
  nested = n c.front ∙ c.nested;
  left = c.left;
  found = k c.front c.found;
  follow = c.follow;
}

tail_of : Entries → Entries
tail_of [] = []
tail_of (x ∷ e) = e

-- a token before entries
token_front : (t : List ℕ) (g e f : Entries) → 0 < length g → 0 < length e → with_token t g ≡ e ++ f → (e' : Entries) × (0 < length e') × (g ≡ e' ++ f) × (with_token t e' ≡ e)
token_front t [] e f h k is = absurd (omega arith)
token_front t (x ∷ g) [] f h k is = absurd (omega arith)
token_front t (x ∷ g) (y ∷ e) f h k is =
    let same : (t ∷ x) ∷ g ≡ y ∷ (e ++ f) = is in
    let first : t ∷ x ≡ y = cc in
    let rest : g ≡ e ++ f = cc in
    (x ∷ e, omega arith, ap (λ l. x ∷ l) rest, ap (λ z. z ∷ e) first)

cuts : (ls : List Lexeme) → Cuts ls
cuts [] d e f n is h k = absurd (omega (arith, ap length is, length-append e f))
cuts (Open ∷ ls) d e f n is h k = one_before Open ls d (suc d) e e f (cuts ls (suc d) e f n is h k) (λ more. refl) (λ more g. g)
cuts (Close ∷ ls) zero e f n is h k = cc
cuts (Close ∷ ls) (suc d) e f n is h k = one_before Close ls (suc d) d e e f (cuts ls d e f n is h k) (λ more. refl) (λ more g. g)
cuts (Line r ∷ ls) zero [] f n is h k = absurd (omega arith)
cuts (Line r ∷ ls) zero (x ∷ []) f n is h k =
    let same : [] ∷ entries zero ls ≡ x ∷ f = is in
    let first : [] ≡ x = cc in
    let rest : entries zero ls ≡ f = cc in
    record { front = []; ends = r; back = ls; is = refl; nested = refl; left = n; found = ap (λ y. y ∷ []) first; follow = rest }
cuts (Line r ∷ ls) zero (x ∷ y ∷ e) f n is h k =
    let same : [] ∷ entries zero ls ≡ x ∷ ((y ∷ e) ++ f) = is in
    let first : [] ≡ x = cc in
    let rest : entries zero ls ≡ (y ∷ e) ++ f = cc in
    one_before (Line r) ls zero zero (x ∷ y ∷ e) (y ∷ e) f (cuts ls zero (y ∷ e) f n rest (omega arith) k) (λ more. refl) (λ more g. ap (λ l. [] ∷ l) g ∙ ap (λ z. z ∷ (y ∷ e)) first)
cuts (Line r ∷ ls) (suc d) e f n is h k = one_before (Line r) ls (suc d) (suc d) e e f (cuts ls (suc d) e f n is h k) (λ more. refl) (λ more g. g)
cuts (Blank b ∷ ls) d e f n is h k = one_before (Blank b) ls d d e e f (cuts ls d e f n is h k) (λ more. refl) (λ more g. g)
cuts (Note cs ∷ ls) d e f n is h k = one_before (Note cs) ls d d e e f (cuts ls d e f n is h k) (λ more. refl) (λ more g. g)
cuts (Word s ss ∷ ls) d e f n is h k =
    let p = token_front (lexeme_bytes (Word s ss)) (entries d ls) e f (some_entry ls d) h is in
    one_before (Word s ss) ls d d e p.0 f (cuts ls d p.0 f n p.2 p.1 k) (λ more. refl) (λ more g. ap (with_token (lexeme_bytes (Word s ss))) g ∙ p.3)
cuts (Quote ss ∷ ls) d e f n is h k =
    let p = token_front (lexeme_bytes (Quote ss)) (entries d ls) e f (some_entry ls d) h is in
    one_before (Quote ss) ls d d e p.0 f (cuts ls d p.0 f n p.2 p.1 k) (λ more. refl) (λ more g. ap (with_token (lexeme_bytes (Quote ss))) g ∙ p.3)

-- a text that splits, cut after some of its entries
pub split_cut : (text : List ℕ) (e f : Entries) → Splits text (e ++ f) → 0 < length e → 0 < length f
    → (x : List ℕ) × (y : List ℕ) × (r : Bool) × (text ≡ x ++ (lexeme_bytes (Line r) ++ y)) × Splits x e × Splits y f
split_cut text e f s h k =
    let c = cuts s.lexemes 0 e f s.nested s.cut h k in
    let v = cut_lexemes c.front c.back c.ends (ap are_lexemes (sym c.is) ∙ s.valid) in (
      flat_map lexeme_bytes c.front,
      flat_map lexeme_bytes c.back,
      c.ends,
      sym s.spelled ∙ ap (flat_map lexeme_bytes) c.is ∙ join_bytes c.front c.back c.ends,
      record { lexemes = c.front; spelled = refl; valid = v.0; nested = c.nested; cut = c.found },
      record { lexemes = c.back; spelled = refl; valid = v.1; nested = c.left; cut = c.follow },
    )
