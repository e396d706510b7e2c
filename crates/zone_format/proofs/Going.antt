-- The rest to write after marks that were written.
use Rattle.std.proofs.Common.{◌≡◌, ◌==◌, ℕ, ◌+◌, ◌-◌, Bool, true, false, ◌&&◌, List, [], ◌∷◌, ◌++◌, refl, sym, ap, ◌∙◌, append_assoc}
use Rattle.std.specs.Prelude.{if◌then◌else◌}
use Rattle.std.specs.List.{flat_map}
use Rattle.std.proofs.lemmas.Bool.{and_parts}
use Rattle.zone_format.specs.declared.line_state.LineState.{LineState}
use Rattle.zone_format.specs.Marks.{Mark, Token, Note, Open, Close, Feed, Lead, gap_mark, lead}
use Rattle.zone_format.specs.Writing.{Accepts, WritesMarks, PushesNote, PushesToken, accepts, accepts_from, fed, led, note_before, pushed_note, pushed_parenthesis, pushed_token, state_after, token_before, written_from}

pub written_on : (old before t new rest : List ℕ) → new ≡ old ++ (before ++ t) → new ++ rest ≡ old ++ (before ++ (t ++ rest))
written_on old before t new rest e = ap (λ l. l ++ rest) e ∙ append_assoc old (before ++ t) rest ∙ ap (λ l. old ++ l) (append_assoc before t rest)

-- one after another
pub goes_on : (xs ys : List Mark) (a b c : List ℕ) (s t u : LineState) → WritesMarks xs a s b t → WritesMarks ys b t c u → WritesMarks (xs ++ ys) a s c u
goes_on xs ys a b c s t u g h = λ ms. h ms ∙ g (ys ++ ms) ∙ ap (λ l. a ++ written_from s l) (sym (append_assoc xs ys ms))

pub accepts_on : (xs ys : List Mark) (s t u : LineState) → Accepts xs s t → Accepts ys t u → Accepts (xs ++ ys) s u
accepts_on xs ys s t u g h = λ ms. h ms ∙ g (ys ++ ms) ∙ ap (accepts_from s) (sym (append_assoc xs ys ms))

pub token_goes : (old : List ℕ) (s : LineState) (glued : Bool) (x new : List ℕ) (u : LineState) → PushesToken old s glued x new u → WritesMarks (Token glued x ∷ []) old s new u
token_goes old s glued x new u p = λ ms. ap (λ v. new ++ written_from v ms) p.line_state ∙ written_on old (token_before s glued x) x new (written_from (pushed_token s glued x) ms) p.out

pub token_accepts : (old : List ℕ) (s : LineState) (glued : Bool) (x new : List ℕ) (u : LineState) → accepts s x ≡ true → PushesToken old s glued x new u → Accepts (Token glued x ∷ []) s u
token_accepts old s glued x new u a p = λ ms. ap (λ v. accepts_from v ms) p.line_state ∙ ap (λ b. b && accepts_from (pushed_token s glued x) ms) (sym a)

pub note_goes : (old : List ℕ) (s : LineState) (x new : List ℕ) (u : LineState) → PushesNote old s x new u → WritesMarks (Note x ∷ []) old s new u
note_goes old s x new u p = λ ms. ap (λ v. new ++ written_from v ms) p.line_state ∙ written_on old (note_before s x) x new (written_from (pushed_note s x) ms) p.out

pub note_accepts : (old : List ℕ) (s : LineState) (x new : List ℕ) (u : LineState) → PushesNote old s x new u → Accepts (Note x ∷ []) s u
note_accepts old s x new u p = λ ms. ap (λ v. accepts_from v ms) p.line_state

pub lead_goes : (b : Bool) (old : List ℕ) (s u : LineState) → u ≡ (if b then led s else s) → WritesMarks (lead b) old s old u
lead_goes true old s u e = λ ms. ap (λ v. old ++ written_from v ms) e
lead_goes false old s u e = λ ms. ap (λ v. old ++ written_from v ms) e

pub lead_accepts : (b : Bool) (s u : LineState) → u ≡ (if b then led s else s) → Accepts (lead b) s u
lead_accepts true s u e = λ ms. ap (λ v. accepts_from v ms) e
lead_accepts false s u e = λ ms. ap (λ v. accepts_from v ms) e

-- the state of writing after marks followed by others
pub stands_append : (s : LineState) (ms ns : List Mark) → state_after s (ms ++ ns) ≡ state_after (state_after s ms) ns
stands_append s [] ns = refl
stands_append s (Token g t ∷ ms) ns = stands_append (pushed_token s g t) ms ns
stands_append s (Note t ∷ ms) ns = stands_append (pushed_note s t) ms ns
stands_append s (Open ∷ ms) ns = stands_append (pushed_parenthesis s (s.depth + 1)) ms ns
stands_append s (Close ∷ ms) ns = stands_append (pushed_parenthesis s (s.depth - 1)) ms ns
stands_append s (Feed ∷ ms) ns = stands_append (fed s) ms ns
stands_append s (Lead ∷ ms) ns = stands_append (led s) ms ns

pub stands_on : (xs ys : List Mark) (s t u : LineState) → t ≡ state_after s xs → u ≡ state_after t ys → u ≡ state_after s (xs ++ ys)
stands_on xs ys s t u g h = h ∙ ap (λ v. state_after v ys) g ∙ sym (stands_append s xs ys)

pub token_stands : (old : List ℕ) (s : LineState) (glued : Bool) (x new : List ℕ) (u : LineState) → PushesToken old s glued x new u → u ≡ state_after s (Token glued x ∷ [])
token_stands old s glued x new u p = p.line_state

pub note_stands : (old : List ℕ) (s : LineState) (x new : List ℕ) (u : LineState) → PushesNote old s x new u → u ≡ state_after s (Note x ∷ [])
note_stands old s x new u p = p.line_state

pub lead_stands : (b : Bool) (s u : LineState) → u ≡ (if b then led s else s) → u ≡ state_after s (lead b)
lead_stands true s u e = e
lead_stands false s u e = e

-- what is accepted after marks that are
pub accepts_parted : (ms more : List Mark) (s : LineState) → accepts_from s ms ≡ true → accepts_from s (ms ++ more) ≡ accepts_from (state_after s ms) more
accepts_parted [] more s h = refl
accepts_parted (Token g t ∷ ms) more s h =
    let p = and_parts (accepts s t) (accepts_from (pushed_token s g t) ms) h in
    ap (λ b. b && accepts_from (pushed_token s g t) (ms ++ more)) p.0 ∙ accepts_parted ms more (pushed_token s g t) p.1
accepts_parted (Note t ∷ ms) more s h = accepts_parted ms more (pushed_note s t) h
accepts_parted (Open ∷ ms) more s h = accepts_parted ms more (pushed_parenthesis s (s.depth + 1)) h
accepts_parted (Close ∷ ms) more s h = accepts_parted ms more (pushed_parenthesis s (s.depth - 1)) h
accepts_parted (Feed ∷ ms) more s h = accepts_parted ms more (fed s) h
accepts_parted (Lead ∷ ms) more s h = accepts_parted ms more (led s) h

-- the octets between two pieces are
abbrev Passes : List Mark → Type 0
Passes ms = (s : LineState) → accepts_from s ms ≡ true

gap_step : (a b c : Bool) (ms : List Mark) → Passes ms → Passes ((if a then Open ∷ [] else if b then Close ∷ [] else if c then Feed ∷ [] else []) ++ ms)
gap_step true b c ms h = λ s. h (pushed_parenthesis s (s.depth + 1))
gap_step false true c ms h = λ s. h (pushed_parenthesis s (s.depth - 1))
gap_step false false true ms h = λ s. h (fed s)
gap_step false false false ms h = h

pub gap_accepted : (gap : List ℕ) → Passes (flat_map gap_mark gap)
gap_accepted [] = λ s. refl
gap_accepted (c ∷ gap) = gap_step (c == 40) (c == 41) (c == 10) (flat_map gap_mark gap) (gap_accepted gap)
