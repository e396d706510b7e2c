-- Pieces of texts one after the other, and of what follows an entry's end.
use Rattle.std.proofs.Common.{◌≡◌, ℕ, zero, suc, ◌+◌, Bool, true, ◌&&◌, List, [], ◌∷◌, ◌++◌, length, drop, refl, sym, ap, ◌∙◌, subst, arith, add_assoc, append_assoc, length-append, ◌⊎◌, inl, inr}
use Rattle.std.specs.Prelude.{map}
use Rattle.std.specs.List.{flat_map}
use Rattle.std.proofs.lemmas.Bool.{and_parts}
use Rattle.std.proofs.lemmas.Grind.{flat_map-append}
use Rattle.std.proofs.lemmas.List.{drop_at}
use Rattle.dns_lexer.specs.declared.pieces.Piece.{Piece}
use Rattle.dns_lexer.specs.declared.pieces.Piece.TheVariants.{End as EndAt}
use Rattle.dns_lexer.specs.Lexeme.{Lexeme, Blank, Line, Open, Close, Note, Word, Quote, lexeme_bytes, is_lexeme}
use Rattle.dns_lexer.specs.Splitting.{may_precede, are_lexemes, nests}
use Rattle.dns_lexer.specs.Pieces.{word_at, quote_at, comment_at, end_at, begins_blank, pieces, IsPieces, moved_piece}
use Rattle.dns_lexer.proofs.Joins.{join_lexemes, join_nests, join_bytes}

abbrev pub further : ℕ → List Piece → List Piece
further n found = map (moved_piece (λ i. n + i)) found

-- the same lexemes further on
pieces_further : (ls : List Lexeme) (n at d : ℕ) (b : Bool) → pieces (n + at) d b ls ≡ further n (pieces at d b ls)
pieces_further [] n at d b = refl
pieces_further (Open ∷ ls) n at d b = ap (λ k. pieces k (suc d) b ls) (add_assoc n at (length (lexeme_bytes Open))) ∙ pieces_further ls n (at + length (lexeme_bytes Open)) (suc d) b
pieces_further (Close ∷ ls) n at zero b = ap (λ k. pieces k zero b ls) (add_assoc n at (length (lexeme_bytes Close))) ∙ pieces_further ls n (at + length (lexeme_bytes Close)) zero b
pieces_further (Close ∷ ls) n at (suc d) b = ap (λ k. pieces k d b ls) (add_assoc n at (length (lexeme_bytes Close))) ∙ pieces_further ls n (at + length (lexeme_bytes Close)) d b
pieces_further (Line r ∷ ls) n at zero b =
    let w : ℕ = length (lexeme_bytes (Line r)) in
    ap (λ k. end_at k b ∷ pieces k zero (begins_blank ls) ls) (add_assoc n at w) ∙ ap (λ l. end_at (n + (at + w)) b ∷ l) (pieces_further ls n (at + w) zero (begins_blank ls))
pieces_further (Line r ∷ ls) n at (suc d) b = ap (λ k. pieces k (suc d) b ls) (add_assoc n at (length (lexeme_bytes (Line r)))) ∙ pieces_further ls n (at + length (lexeme_bytes (Line r))) (suc d) b
pieces_further (Blank t ∷ ls) n at d b = ap (λ k. pieces k d b ls) (add_assoc n at (length (lexeme_bytes (Blank t)))) ∙ pieces_further ls n (at + length (lexeme_bytes (Blank t))) d b
pieces_further (Note cs ∷ ls) n at d b =
    let w : ℕ = length (lexeme_bytes (Note cs)) in
    ap (λ k. comment_at (n + at) k ∷ pieces k d b ls) (add_assoc n at w) ∙ ap (λ l. comment_at (n + at) (n + (at + w)) ∷ l) (pieces_further ls n (at + w) d b)
pieces_further (Word s ss ∷ ls) n at d b =
    let w : ℕ = length (lexeme_bytes (Word s ss)) in
    ap (λ k. word_at (n + at) k ∷ pieces k d b ls) (add_assoc n at w) ∙ ap (λ l. word_at (n + at) (n + (at + w)) ∷ l) (pieces_further ls n (at + w) d b)
pieces_further (Quote ss ∷ ls) n at d b =
    let w : ℕ = length (lexeme_bytes (Quote ss)) in
    ap (λ k. quote_at (n + at) k ∷ pieces k d b ls) (add_assoc n at w) ∙ ap (λ l. quote_at (n + at) (n + (at + w)) ∷ l) (pieces_further ls n (at + w) d b)

-- lexemes, a line's end and more lexemes
record Joined (at d : ℕ) (b : Bool) (ls more : List Lexeme) (r : Bool) (end next : ℕ) : Type 0 where
  pub front : List Piece
  pub blank : Bool
  pub first : pieces at d b ls ≡ front ++ end_at end blank ∷ []
  pub both : pieces at d b (ls ++ Line r ∷ more) ≡ front ++ end_at next blank ∷ pieces next 0 (begins_blank more) more

abbrev Joins : List Lexeme → Type 0
Joins ls = (more : List Lexeme) (r : Bool) (at d : ℕ) (b : Bool) → nests d ls ≡ true
    → Joined at d b ls more r (at + length (flat_map lexeme_bytes ls)) (at + length (flat_map lexeme_bytes ls) + length (lexeme_bytes (Line r)))

-- one more lexeme, with these pieces
one_more : (l : Lexeme) (ls more : List Lexeme) (r : Bool) (at d d' : ℕ) (b b' : Bool) (given : List Piece) → pieces at d b (l ∷ ls) ≡ given ++ pieces (at + length (lexeme_bytes l)) d' b' ls
    → pieces at d b (l ∷ (ls ++ Line r ∷ more)) ≡ given ++ pieces (at + length (lexeme_bytes l)) d' b' (ls ++ Line r ∷ more)
    → Joined (at + length (lexeme_bytes l)) d' b' ls more r (at + length (lexeme_bytes l) + length (flat_map lexeme_bytes ls)) (at + length (lexeme_bytes l) + length (flat_map lexeme_bytes ls) + length (lexeme_bytes (Line r)))
    → Joined at d b (l ∷ ls) more r (at + length (flat_map lexeme_bytes (l ∷ ls))) (at + length (flat_map lexeme_bytes (l ∷ ls)) + length (lexeme_bytes (Line r)))
one_more l ls more r at d d' b b' given e f j =
    let n : at + length (lexeme_bytes l) + length (flat_map lexeme_bytes ls) ≡ at + length (flat_map lexeme_bytes (l ∷ ls)) = omega (arith, length-append (lexeme_bytes l) (flat_map lexeme_bytes ls)) in
    record {
      front = given ++ j.front;
      blank = j.blank;
      first = e ∙ ap (λ x. given ++ x) j.first ∙ sym (append_assoc given j.front (end_at (at + length (lexeme_bytes l) + length (flat_map lexeme_bytes ls)) j.blank ∷ []))
          ∙ ap (λ k. (given ++ j.front) ++ end_at k j.blank ∷ []) n;
      both = f ∙ ap (λ x. given ++ x) j.both ∙ sym (append_assoc given j.front _)
          ∙ ap (λ k. (given ++ j.front) ++ end_at (k + length (lexeme_bytes (Line r))) j.blank ∷ pieces (k + length (lexeme_bytes (Line r))) 0 (begins_blank more) more) n;
    }

same_blank : (ls more : List Lexeme) (r : Bool) → begins_blank (ls ++ Line r ∷ more) ≡ begins_blank ls
same_blank [] more r = refl
same_blank (Blank _ ∷ ls) more r = refl
same_blank (Line _ ∷ ls) more r = refl
same_blank (Open ∷ ls) more r = refl
same_blank (Close ∷ ls) more r = refl
same_blank (Note _ ∷ ls) more r = refl
same_blank (Word _ _ ∷ ls) more r = refl
same_blank (Quote _ ∷ ls) more r = refl

joins : (ls : List Lexeme) → Joins ls
joins [] more r at zero b h = let n : at + length (flat_map lexeme_bytes []) ≡ at = omega arith in
    subst (λ k. Joined at zero b [] more r k (k + length (lexeme_bytes (Line r)))) (sym n) (record { front = []; blank = b; first = refl; both = refl })
joins [] more r at (suc d) b h = cc
joins (Open ∷ ls) more r at d b h = one_more Open ls more r at d (suc d) b b [] refl refl (joins ls more r _ (suc d) b h)
joins (Close ∷ ls) more r at zero b h = cc
joins (Close ∷ ls) more r at (suc d) b h = one_more Close ls more r at (suc d) d b b [] refl refl (joins ls more r _ d b h)
joins (Line t ∷ ls) more r at zero b h =
    let w : ℕ = at + length (lexeme_bytes (Line t)) in
    one_more (Line t) ls more r at zero zero b (begins_blank ls) (end_at w b ∷ []) refl (ap (λ x. end_at w b ∷ pieces w zero x (ls ++ Line r ∷ more)) (same_blank ls more r))
    (joins ls more r w zero (begins_blank ls) h)
joins (Line t ∷ ls) more r at (suc d) b h = one_more (Line t) ls more r at (suc d) (suc d) b b [] refl refl (joins ls more r _ (suc d) b h)
joins (Blank t ∷ ls) more r at d b h = one_more (Blank t) ls more r at d d b b [] refl refl (joins ls more r _ d b h)
joins (Note cs ∷ ls) more r at d b h = one_more (Note cs) ls more r at d d b b (comment_at at (at + length (lexeme_bytes (Note cs))) ∷ []) refl refl (joins ls more r _ d b h)
joins (Word s ss ∷ ls) more r at d b h = one_more (Word s ss) ls more r at d d b b (word_at at (at + length (lexeme_bytes (Word s ss))) ∷ []) refl refl (joins ls more r _ d b h)
joins (Quote ss ∷ ls) more r at d b h = one_more (Quote ss) ls more r at d d b b (quote_at at (at + length (lexeme_bytes (Quote ss))) ∷ []) refl refl (joins ls more r _ d b h)

-- the pieces of texts one after the other, with a line's end between
pub pieces_joined : (x y : List ℕ) (r : Bool) (found follow : List Piece) → IsPieces x found → IsPieces y follow
    → (front : List Piece) × (b : Bool) × (found ≡ front ++ end_at (length x) b ∷ [])
    × IsPieces (x ++ (lexeme_bytes (Line r) ++ y)) (front ++ end_at (length x + length (lexeme_bytes (Line r))) b ∷ further (length x + length (lexeme_bytes (Line r))) follow)
pieces_joined x y r found follow p q =
    let j = joins p.lexemes q.lexemes r 0 0 (begins_blank p.lexemes) p.nested in
    let n : 0 + length (flat_map lexeme_bytes p.lexemes) ≡ length x = omega (arith, ap length p.spelled) in
    let next : ℕ = length x + length (lexeme_bytes (Line r)) in
    let w : next ≡ next + 0 = omega arith in (
      j.front,
      j.blank,
      sym p.placed ∙ j.first ∙ ap (λ k. j.front ++ end_at k j.blank ∷ []) n,
      record {
        lexemes = p.lexemes ++ Line r ∷ q.lexemes;
        spelled = join_bytes p.lexemes q.lexemes r ∙ ap (λ l. l ++ (lexeme_bytes (Line r) ++ flat_map lexeme_bytes q.lexemes)) p.spelled ∙ ap (λ l. x ++ (lexeme_bytes (Line r) ++ l)) q.spelled;
        valid = join_lexemes p.lexemes q.lexemes r p.valid q.valid;
        nested = join_nests p.lexemes q.lexemes r 0 p.nested q.nested;
        placed = ap (λ t. pieces 0 0 t (p.lexemes ++ Line r ∷ q.lexemes)) (same_blank p.lexemes q.lexemes r) ∙ j.both
            ∙ ap (λ k. j.front ++ end_at (k + length (lexeme_bytes (Line r))) j.blank ∷ pieces (k + length (lexeme_bytes (Line r))) 0 (begins_blank q.lexemes) q.lexemes) n
            ∙ ap (λ k. j.front ++ end_at next j.blank ∷ pieces k 0 (begins_blank q.lexemes) q.lexemes) w
            ∙ ap (λ l. j.front ++ end_at next j.blank ∷ l) (pieces_further q.lexemes next 0 0 (begins_blank q.lexemes) ∙ ap (further next) q.placed);
      },
    )

-- what follows an entry's end
record GoesOn (at : ℕ) (ls : List Lexeme) (e : ℕ) (more : List Piece) : Type 0 where
  pub front : List Lexeme
  pub back : List Lexeme
  pub is : ls ≡ front ++ back
  pub nested : nests 0 back ≡ true
  pub valid : are_lexemes back ≡ true
  pub placed : pieces e 0 (begins_blank back) back ≡ more
  pub place : e ≡ at + length (flat_map lexeme_bytes front)

abbrev Goes : List Lexeme → Type 0
Goes ls = (at d : ℕ) (b : Bool) (found more : List Piece) (e : ℕ) (t : Bool) → are_lexemes ls ≡ true → nests d ls ≡ true → pieces at d b ls ≡ found ++ end_at e t ∷ more
    → (more ≡ []) ⊎ GoesOn at ls e more

behind : (l : Lexeme) (ls : List Lexeme) (at e : ℕ) (more : List Piece) → (more ≡ []) ⊎ GoesOn (at + length (lexeme_bytes l)) ls e more → (more ≡ []) ⊎ GoesOn at (l ∷ ls) e more
behind l ls at e more (inl h) = inl h
behind l ls at e more (inr g) = inr (record {
  front = l ∷ g.front;
  back = g.back;
  is = ap (λ x. l ∷ x) g.is;
  nested = g.nested;
  valid = g.valid;
  placed = g.placed;
  place = omega (arith, g.place, length-append (lexeme_bytes l) (flat_map lexeme_bytes g.front));
})

no_end : (found more : List Piece) (p : Piece) → [] ≡ found ++ p ∷ more → ⊥
no_end [] more p h = cc
no_end (x ∷ found) more p h = cc

abbrev place_in : Piece → ℕ
place_in (EndAt p) = p.at
place_in _ = 0

abbrev first_in : List Piece → ℕ
first_in [] = 0
first_in (x ∷ xs) = place_in x

-- after a piece other than an end
past : (l : Lexeme) (ls : List Lexeme) (p : Piece) (at d : ℕ) (b : Bool) (found more : List Piece) (e : ℕ) (t : Bool) → ((q : Piece) → p ≡ q → q ≡ end_at e t → ⊥) → Goes ls
    → are_lexemes ls ≡ true → nests d ls ≡ true → p ∷ pieces (at + length (lexeme_bytes l)) d b ls ≡ found ++ end_at e t ∷ more
    → (more ≡ []) ⊎ GoesOn at (l ∷ ls) e more
past l ls p at d b [] more e t other ih v n is = absurd (other p refl (cc))
past l ls p at d b (x ∷ found) more e t other ih v n is = behind l ls at e more (ih (at + length (lexeme_bytes l)) d b found more e t v n (cc))

valid_rest : (l : Lexeme) (ls : List Lexeme) → are_lexemes (l ∷ ls) ≡ true → are_lexemes ls ≡ true
valid_rest l ls v = (and_parts (is_lexeme l && may_precede l ls) (are_lexemes ls) v).1

goes : (ls : List Lexeme) → Goes ls
goes [] at d b [] more e t v n is = inl (cc)
goes [] at d b (x ∷ found) more e t v n is = elim (no_end found more (end_at e t) (cc)) [ ]
goes (Open ∷ ls) at d b found more e t v n is = behind Open ls at e more (goes ls _ (suc d) b found more e t (valid_rest Open ls v) n is)
goes (Close ∷ ls) at zero b found more e t v n is = cc
goes (Close ∷ ls) at (suc d) b found more e t v n is = behind Close ls at e more (goes ls _ d b found more e t (valid_rest Close ls v) n is)
goes (Line r ∷ ls) at zero b [] more e t v n is =
    let k : at + length (lexeme_bytes (Line r)) ≡ e = ap first_in is in
    let rest : pieces (at + length (lexeme_bytes (Line r))) zero (begins_blank ls) ls ≡ more = cc in
    inr (record {
      front = Line r ∷ [];
      back = ls;
      is = refl;
      nested = n;
      valid = valid_rest (Line r) ls v;
      placed = ap (λ i. pieces i zero (begins_blank ls) ls) (sym k) ∙ rest;
      place = omega (arith, k, length-append (lexeme_bytes (Line r)) []);
    })
goes (Line r ∷ ls) at zero b (x ∷ found) more e t v n is = behind (Line r) ls at e more (goes ls _ zero (begins_blank ls) found more e t (valid_rest (Line r) ls v) n (cc))
goes (Line r ∷ ls) at (suc d) b found more e t v n is = behind (Line r) ls at e more (goes ls _ (suc d) b found more e t (valid_rest (Line r) ls v) n is)
goes (Blank x ∷ ls) at d b found more e t v n is = behind (Blank x) ls at e more (goes ls _ d b found more e t (valid_rest (Blank x) ls v) n is)
goes (Note cs ∷ ls) at d b found more e t v n is = past (Note cs) ls (comment_at at (at + length (lexeme_bytes (Note cs)))) at d b found more e t (λ q f g. cc) (goes ls) (valid_rest (Note cs) ls v) n is
goes (Word s ss ∷ ls) at d b found more e t v n is = past (Word s ss) ls (word_at at (at + length (lexeme_bytes (Word s ss)))) at d b found more e t (λ q f g. cc) (goes ls) (valid_rest (Word s ss) ls v) n is
goes (Quote ss ∷ ls) at d b found more e t v n is = past (Quote ss) ls (quote_at at (at + length (lexeme_bytes (Quote ss)))) at d b found more e t (λ q f g. cc) (goes ls) (valid_rest (Quote ss) ls v) n is

-- after an entry's end that isn't the text's, the rest alone has the pieces that follow
pub pieces_continue : (text : List ℕ) (found more : List Piece) (at : ℕ) (b : Bool) → IsPieces text (found ++ end_at at b ∷ more)
    → (more ≡ []) ⊎ ((alone : List Piece) × IsPieces (drop at text) alone × (more ≡ further at alone))
pieces_continue text found more at b p = go (goes p.lexemes 0 0 (begins_blank p.lexemes) found more at b p.valid p.nested p.placed)
  where
    go : (more ≡ []) ⊎ GoesOn 0 p.lexemes at more → (more ≡ []) ⊎ ((alone : List Piece) × IsPieces (drop at text) alone × (more ≡ further at alone))
    go (inl h) = inl h
    go (inr g) =
        let left : flat_map lexeme_bytes g.back ≡ drop at text =
        sym (drop_at (flat_map lexeme_bytes g.front) (flat_map lexeme_bytes g.back) at (omega (arith, g.place)))
        ∙ ap (drop at) (sym (flat_map-append lexeme_bytes g.front g.back) ∙ ap (flat_map lexeme_bytes) (sym g.is) ∙ p.spelled) in
        let n : at ≡ at + 0 = omega arith in
        inr (
          pieces 0 0 (begins_blank g.back) g.back,
          record { lexemes = g.back; spelled = left; valid = g.valid; nested = g.nested; placed = refl },
          sym g.placed ∙ ap (λ k. pieces k 0 (begins_blank g.back) g.back) n ∙ pieces_further g.back at 0 0 (begins_blank g.back),
        )
