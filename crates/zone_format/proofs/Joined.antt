-- The marks of octets that follow whole entries.
use Rattle.std.proofs.Common.{◌≡◌, ℕ, zero, suc, ◌+◌, ◌-◌, Bool, true, false, ◌&&◌, ◌==◌, List, [], ◌∷◌, ◌++◌, refl, sym, ap, ◌∙◌, subst, arith, inl, inr, append-nil, append_assoc}
use Rattle.std.specs.Prelude.{map, encode_utf8_all}
use Rattle.std.specs.List.{flat_map}
use Rattle.std.proofs.lemmas.Bool.{and_parts, eqb-true}
use Rattle.std.proofs.lemmas.List.{map-append}
use Rattle.std.proofs.lemmas.Str.{encodes-append}
use Rattle.dns_lexer.specs.Lexeme.{Lexeme, Blank, Line, Open, Close, Note, Word, Quote, lexeme_bytes}
use Rattle.dns_lexer.specs.Splitting.{are_lexemes, nests}
use Rattle.dns_lexer.specs.Pieces.{IsPieces, begins_blank, pieces}
use Rattle.dns_lexer.proofs.Joins.{join_bytes, join_lexemes, join_nests, split_joined}
use Rattle.zone_format.specs.declared.line_state.LineState.{LineState}
use Rattle.zone_format.specs.Blocks.{AreEntries, EndsInLine, resting, seam_of}
use Rattle.zone_format.specs.Form.{start}
use Rattle.zone_format.specs.Marks.{Mark, Feed, Lead, HasMarks, all_marks, lead, shortened}
use Rattle.zone_format.specs.Marks.{Token as TokenMark, Note as NoteMark, Open as OpenMark, Close as CloseMark}
use Rattle.zone_format.specs.Writing.{fed, led, pushed_note, pushed_parenthesis, pushed_token, state_after}
use Rattle.zone_format.proofs.Build.{marks_of}
use Rattle.zone_format.proofs.Reading.{all_is}
use Rattle.zone_format.proofs.Same.{encoded_mark, marks_once, moved_all, octets_have, same_marks}

-- what follows a line's end outside parentheses has its own marks
blank_joined : (ls more : List Lexeme) (r : Bool) → begins_blank (ls ++ Line r ∷ more) ≡ begins_blank (ls ++ Line r ∷ [])
blank_joined [] more r = refl
blank_joined (Blank t ∷ ls) more r = refl
blank_joined (Line s ∷ ls) more r = refl
blank_joined (Open ∷ ls) more r = refl
blank_joined (Close ∷ ls) more r = refl
blank_joined (Note cs ∷ ls) more r = refl
blank_joined (Word s ss ∷ ls) more r = refl
blank_joined (Quote ss ∷ ls) more r = refl

abbrev whole : List Lexeme → List Mark
whole ls = lead (begins_blank ls) ++ marks_of false 0 ls

marks_joined : (ls more : List Lexeme) (r k : Bool) (d : ℕ) → nests d ls ≡ true → marks_of k d (ls ++ Line r ∷ more) ≡ marks_of k d (ls ++ Line r ∷ []) ++ whole more
marks_joined [] more r k zero h = refl
marks_joined [] more r k (suc d) h = cc
marks_joined (Open ∷ ls) more r k d h = ap (λ l. OpenMark ∷ l) (marks_joined ls more r false (suc d) h)
marks_joined (Close ∷ ls) more r k zero h = cc
marks_joined (Close ∷ ls) more r k (suc d) h = ap (λ l. CloseMark ∷ l) (marks_joined ls more r false d h)
marks_joined (Blank t ∷ ls) more r k d h = marks_joined ls more r false d h
marks_joined (Line s ∷ ls) more r k zero h =
    let b = begins_blank (ls ++ Line r ∷ []) in
    ap (λ c. Feed ∷ (lead c ++ marks_of false zero (ls ++ Line r ∷ more))) (blank_joined ls more r) ∙ ap (λ l. Feed ∷ (lead b ++ l)) (marks_joined ls more r false zero h)
    ∙ ap (λ l. Feed ∷ l) (sym (append_assoc (lead b) (marks_of false zero (ls ++ Line r ∷ [])) (whole more)))
marks_joined (Line s ∷ ls) more r k (suc d) h = ap (λ l. Feed ∷ l) (marks_joined ls more r false (suc d) h)
marks_joined (Note cs ∷ ls) more r k d h = ap (λ l. NoteMark (shortened (lexeme_bytes (Note cs))) ∷ l) (marks_joined ls more r false d h)
marks_joined (Word s ss ∷ ls) more r k d h = ap (λ l. TokenMark k (lexeme_bytes (Word s ss)) ∷ l) (marks_joined ls more r true d h)
marks_joined (Quote ss ∷ ls) more r k d h = ap (λ l. TokenMark k (lexeme_bytes (Quote ss)) ∷ l) (marks_joined ls more r true d h)

whole_joined : (ls more : List Lexeme) (r : Bool) → nests 0 ls ≡ true → whole (ls ++ Line r ∷ more) ≡ whole (ls ++ Line r ∷ []) ++ whole more
whole_joined ls more r h =
    let b = begins_blank (ls ++ Line r ∷ []) in
    ap (λ c. lead c ++ marks_of false 0 (ls ++ Line r ∷ more)) (blank_joined ls more r) ∙ ap (λ l. lead b ++ l) (marks_joined ls more r false 0 h)
    ∙ sym (append_assoc (lead b) (marks_of false 0 (ls ++ Line r ∷ [])) (whole more))

-- marks that end with a line end outside parentheses, from a depth of parentheses
abbrev rests : ℕ → Bool → List Mark → Bool
rests d f [] = f && (d == 0)
rests d f (TokenMark g t ∷ ms) = rests d false ms
rests d f (NoteMark t ∷ ms) = rests d false ms
rests d f (OpenMark ∷ ms) = rests (suc d) false ms
rests zero f (CloseMark ∷ ms) = rests zero false ms
rests (suc d) f (CloseMark ∷ ms) = rests d false ms
rests d f (Feed ∷ ms) = rests d true ms
rests d f (Lead ∷ ms) = rests d false ms

rests_lead : (b f : Bool) (d : ℕ) (ms : List Mark) → ((g : Bool) → rests d g ms ≡ true) → rests d f (lead b ++ ms) ≡ true
rests_lead true f d ms h = h false
rests_lead false f d ms h = h f

rests_marks : (ls : List Lexeme) (r k f : Bool) (d : ℕ) → nests d ls ≡ true → rests d f (marks_of k d (ls ++ Line r ∷ [])) ≡ true
rests_marks [] r k f zero h = refl
rests_marks [] r k f (suc d) h = cc
rests_marks (Open ∷ ls) r k f d h = rests_marks ls r false false (suc d) h
rests_marks (Close ∷ ls) r k f zero h = cc
rests_marks (Close ∷ ls) r k f (suc d) h = rests_marks ls r false false d h
rests_marks (Blank t ∷ ls) r k f d h = rests_marks ls r false f d h
rests_marks (Line s ∷ ls) r k f zero h = rests_lead (begins_blank (ls ++ Line r ∷ [])) true zero _ (λ g. rests_marks ls r false g zero h)
rests_marks (Line s ∷ ls) r k f (suc d) h = rests_marks ls r false true (suc d) h
rests_marks (Note cs ∷ ls) r k f d h = rests_marks ls r false false d h
rests_marks (Word s ss ∷ ls) r k f d h = rests_marks ls r true false d h
rests_marks (Quote ss ∷ ls) r k f d h = rests_marks ls r true false d h

rests_encoded : (ms : List Mark) (d : ℕ) (f : Bool) → rests d f (map encoded_mark ms) ≡ rests d f ms
rests_encoded [] d f = refl
rests_encoded (TokenMark g t ∷ ms) d f = rests_encoded ms d false
rests_encoded (NoteMark t ∷ ms) d f = rests_encoded ms d false
rests_encoded (OpenMark ∷ ms) d f = rests_encoded ms (suc d) false
rests_encoded (CloseMark ∷ ms) zero f = rests_encoded ms zero false
rests_encoded (CloseMark ∷ ms) (suc d) f = rests_encoded ms d false
rests_encoded (Feed ∷ ms) d f = rests_encoded ms d true
rests_encoded (Lead ∷ ms) d f = rests_encoded ms d false

-- a line is empty
record IsFresh (s : LineState) : Type 0 where
  pub turn : s.turn ≡ start s.depth
  pub note : s.note ≡ 0
  pub end : s.end ≡ 0

no_flag : (s : LineState) → false ≡ true → IsFresh s
no_flag s e = cc

at_rest : (s : LineState) → s.depth ≡ 0 → IsFresh s → s ≡ resting (seam_of s)
at_rest s d f =
    ap (λ n. record { above = s.above; depth = n; noted = s.noted; note = s.note; turn = s.turn; end = s.end }) d
    ∙ ap (λ t. record { above = s.above; depth = 0; noted = s.noted; note = s.note; turn = t; end = s.end }) (f.turn ∙ ap start d)
    ∙ ap (λ n. record { above = s.above; depth = 0; noted = s.noted; note = n; turn = start 0; end = s.end }) f.note
    ∙ ap (λ n. record { above = s.above; depth = 0; noted = s.noted; note = 0; turn = start 0; end = n }) f.end

rested : (ms : List Mark) (s : LineState) (d : ℕ) (f : Bool) → s.depth ≡ d → (f ≡ true → IsFresh s) → rests d f ms ≡ true → state_after s ms ≡ resting (seam_of (state_after s ms))
rested [] s d f h k r = let p = and_parts f (d == 0) r in at_rest s (h ∙ eqb-true d 0 p.1) (k p.0)
rested (TokenMark g t ∷ ms) s d f h k r = rested ms (pushed_token s g t) d false h (no_flag _) r
rested (NoteMark t ∷ ms) s d f h k r = rested ms (pushed_note s t) d false h (no_flag _) r
rested (OpenMark ∷ ms) s d f h k r = rested ms (pushed_parenthesis s (s.depth + 1)) (suc d) false (omega (arith, h)) (no_flag _) r
rested (CloseMark ∷ ms) s zero f h k r = rested ms (pushed_parenthesis s (s.depth - 1)) zero false (omega (arith, h)) (no_flag _) r
rested (CloseMark ∷ ms) s (suc d) f h k r = rested ms (pushed_parenthesis s (s.depth - 1)) d false (omega (arith, h)) (no_flag _) r
rested (Feed ∷ ms) s d f h k r = rested ms (fed s) d true h (λ _. record { turn = refl; note = refl; end = refl }) r
rested (Lead ∷ ms) s d f h k r = rested ms (led s) d false h (no_flag _) r

-- octets whose text has lexemes, and lexemes of octets that have marks
record Lexed (octets : List ℕ) (ms : List Mark) : Type 0 where
  pub lexemes : List Lexeme
  pub spelled : flat_map lexeme_bytes lexemes ≡ encode_utf8_all octets
  pub valid : are_lexemes lexemes ≡ true
  pub nested : nests 0 lexemes ≡ true
  pub marks : map encoded_mark ms ≡ whole lexemes

lexed : (octets : List ℕ) (ms : List Mark) → HasMarks octets ms → Lexed octets ms
lexed octets ms h =
    let p = h.1 in
    record { lexemes = p.lexemes; spelled = p.spelled; valid = p.valid; nested = p.nested; marks = ap (map encoded_mark) (sym h.3) ∙ sym (moved_all octets h.0 h.2) ∙ all_is (encode_utf8_all octets) _ p }

marked : (octets : List ℕ) (ls : List Lexeme) → flat_map lexeme_bytes ls ≡ encode_utf8_all octets → are_lexemes ls ≡ true → nests 0 ls ≡ true → (ms : List Mark) × HasMarks octets ms × (map encoded_mark ms ≡ whole ls)
marked octets ls e v n =
    let text = encode_utf8_all octets in
    let p : IsPieces text (pieces 0 0 (begins_blank ls) ls) = record { lexemes = ls; spelled = e; valid = v; nested = n; placed = refl } in
    let a = octets_have octets (pieces 0 0 (begins_blank ls) ls) p in (
      all_marks octets a.0,
      (a.0, subst (IsPieces text) (sym a.1) p, a.2, refl),
      sym (moved_all octets a.0 a.2) ∙ ap (all_marks text) a.1 ∙ all_is text (pieces 0 0 (begins_blank ls) ls) p,
    )

-- of no octets
pub none_marked : HasMarks [] []
none_marked = let m = marked [] [] refl refl refl in subst (HasMarks []) (same_marks m.0 [] m.2) m.1

-- of octets that end with a line's end
line_marked : (octets : List ℕ) (l : EndsInLine octets) (ms : List Mark) → HasMarks octets ms → map encoded_mark ms ≡ whole (l.splits.lexemes ++ Line l.has_cr ∷ [])
line_marked octets l ms h =
    let ls = l.splits.lexemes in
    let r = l.has_cr in
    let spelled : flat_map lexeme_bytes (ls ++ Line r ∷ []) ≡ encode_utf8_all octets =
    join_bytes ls [] r ∙ ap (λ t. t ++ (lexeme_bytes (Line r) ++ [])) l.splits.spelled ∙ ap (λ t. l.front ++ t) (append-nil (lexeme_bytes (Line r))) ∙ sym l.is in
    let m = marked octets (ls ++ Line r ∷ []) spelled (join_lexemes ls [] r l.splits.valid refl) (join_nests ls [] r 0 l.splits.nested refl) in
    ap (map encoded_mark) (marks_once octets ms m.0 h m.1) ∙ m.2

pub entries_rest : (octets : List ℕ) (ms : List Mark) (s : LineState) → AreEntries octets → HasMarks octets ms → s ≡ resting (seam_of s) → state_after s ms ≡ resting (seam_of (state_after s ms))
entries_rest octets ms s (inl none) h k =
    let nothing : ms ≡ [] = marks_once [] ms [] (subst (λ l. HasMarks l ms) none h) none_marked in
    ap (state_after s) nothing ∙ k ∙ ap (λ l. resting (seam_of (state_after s l))) (sym nothing)
entries_rest octets ms s (inr l) h k =
    let is = line_marked octets l ms h in
    let ls = l.splits.lexemes in
    let r : rests 0 true (whole (ls ++ Line l.has_cr ∷ [])) ≡ true = rests_lead (begins_blank (ls ++ Line l.has_cr ∷ [])) true 0 _ (λ g. rests_marks ls l.has_cr false g 0 l.splits.nested) in
    rested ms s 0 true (ap (λ (t : LineState). t.depth) k) (λ _. fresh) (sym (rests_encoded ms 0 true) ∙ ap (rests 0 true) is ∙ r)
  where
    fresh : IsFresh s
    fresh = subst IsFresh (sym k) (record { turn = refl; note = refl; end = refl })

-- octets that follow whole entries
pub marks_join : (before x : List ℕ) (ms ns : List Mark) → AreEntries before → HasMarks before ms → HasMarks x ns → HasMarks (before ++ x) (ms ++ ns)
marks_join before x ms ns (inl none) h k =
    let nothing : ms ≡ [] = marks_once [] ms [] (subst (λ l. HasMarks l ms) none h) none_marked in
    subst (λ l. HasMarks (l ++ x) (ms ++ ns)) (sym none) (subst (λ l. HasMarks x (l ++ ns)) (sym nothing) k)
marks_join before x ms ns (inr l) h k =
    let ls = l.splits.lexemes in
    let r = l.has_cr in
    let n = lexed x ns k in
    let more = n.lexemes in
    let spelled : flat_map lexeme_bytes (ls ++ Line r ∷ more) ≡ encode_utf8_all (before ++ x) =
    join_bytes ls more r ∙ ap (λ t. t ++ (lexeme_bytes (Line r) ++ flat_map lexeme_bytes more)) l.splits.spelled ∙ ap (λ t. l.front ++ (lexeme_bytes (Line r) ++ t)) n.spelled
    ∙ sym (append_assoc l.front (lexeme_bytes (Line r)) (encode_utf8_all x)) ∙ ap (λ t. t ++ encode_utf8_all x) (sym l.is) ∙ sym (encodes-append before x) in
    let all = marked (before ++ x) (ls ++ Line r ∷ more) spelled (join_lexemes ls more r l.splits.valid n.valid) (join_nests ls more r 0 l.splits.nested n.nested) in
    let same : map encoded_mark all.0 ≡ map encoded_mark (ms ++ ns) =
    all.2 ∙ whole_joined ls more r l.splits.nested ∙ ap (λ t. t ++ whole more) (sym (line_marked before l ms h)) ∙ ap (λ t. map encoded_mark ms ++ t) (sym n.marks) ∙ sym (map-append encoded_mark ms ns) in
    subst (HasMarks (before ++ x)) (same_marks all.0 (ms ++ ns) same) all.1

pub entries_join : (before x : List ℕ) → AreEntries before → AreEntries x → AreEntries (before ++ x)
entries_join before x (inl none) k = subst (λ l. AreEntries (l ++ x)) (sym none) k
entries_join before x (inr l) (inl none) = subst (λ t. AreEntries (before ++ t)) (sym none) (subst AreEntries (sym (append-nil before)) (inr l))
entries_join before x (inr l) (inr m) = inr (record {
  front = l.front ++ (lexeme_bytes (Line l.has_cr) ++ m.front);
  found = l.found ++ m.found;
  has_cr = m.has_cr;
  splits = split_joined l.front m.front l.has_cr l.found m.found l.splits m.splits;
  is = encodes-append before x ∙ ap (λ t. t ++ encode_utf8_all x) l.is ∙ ap (λ t. (l.front ++ lexeme_bytes (Line l.has_cr)) ++ t) m.is
      ∙ append_assoc l.front (lexeme_bytes (Line l.has_cr)) (m.front ++ lexeme_bytes (Line m.has_cr))
      ∙ ap (λ t. l.front ++ t) (sym (append_assoc (lexeme_bytes (Line l.has_cr)) m.front (lexeme_bytes (Line m.has_cr))))
      ∙ sym (append_assoc l.front (lexeme_bytes (Line l.has_cr) ++ m.front) (lexeme_bytes (Line m.has_cr)));
})
