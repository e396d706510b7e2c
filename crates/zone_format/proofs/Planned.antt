-- Marks that are written at their columns are written by some plan.
use Rattle.std.proofs.Common.{◌≡◌, ℕ, zero, suc, ◌+◌, ◌-◌, ◌≤◌, Bool, true, false, ◌==◌, ◌&&◌, not, nat_lt, nat_le, List, [], ◌∷◌, ◌++◌, refl, sym, ap, ◌∙◌, subst, arith}
use Rattle.std.specs.Prelude.{if◌then◌else◌, replicate}
use Rattle.std.proofs.lemmas.Bool.{and_parts, ltb-true}
use Rattle.zone_format.specs.declared.columns.Role.{Role}
use Rattle.zone_format.specs.declared.columns.Role.TheVariants.{Ttl, Class, RecordType}
use Rattle.zone_format.specs.declared.columns.Turn.{Turn}
use Rattle.zone_format.specs.declared.columns.Turn.TheVariants.{Edge, Led, Inside, Owned, Head, Typed, Rest}
use Rattle.zone_format.specs.declared.line_state.Above.{Above}
use Rattle.zone_format.specs.declared.line_state.Above.TheVariants.{Nothing, Line}
use Rattle.zone_format.specs.declared.line_state.LineState.{LineState}
use Rattle.zone_format.specs.Columns.{after_token, first_column, later_column, next_eighth, note_column, parenthesis_column, parted_column, role_of, token_column, under, has_second, width_of}
use Rattle.zone_format.specs.Form.{blank_below, gap, led_turn, start}
use Rattle.zone_format.specs.Marks.{Mark, Token, Note, Open, Close, Feed, Lead}
use Rattle.zone_format.specs.Writing.{fed, is_start, led, pushed_note, pushed_parenthesis, pushed_token, written_from}
use Rattle.zone_format.proofs.Formed.{after_within, first_stand, led_start, line_state}
use Rattle.zone_format.proofs.Respelling.{count, deep, respelt, some}

abbrev pub blanks_to : ℕ → ℕ → ℕ
blanks_to c e = c - (e + 1)

abbrev pub plan_of : LineState → List Mark → List ℕ
plan_of s [] = []
plan_of s (Token g x ∷ ms) = blanks_to (token_column s.turn s.end g x) s.end ∷ plan_of (pushed_token s g x) ms
plan_of s (Note x ∷ ms) = blanks_to (note_column s.noted s.turn s.end x) s.end ∷ plan_of (pushed_note s x) ms
plan_of s (Open ∷ ms) = blanks_to (parenthesis_column s.turn s.end) s.end ∷ plan_of (pushed_parenthesis s (s.depth + 1)) ms
plan_of s (Close ∷ ms) = blanks_to (parenthesis_column s.turn s.end) s.end ∷ plan_of (pushed_parenthesis s (s.depth - 1)) ms
plan_of s (Feed ∷ ms) = plan_of (fed s) ms
plan_of s (Lead ∷ ms) = plan_of (led s) ms

-- how a line begins, outside of parentheses or inside
abbrev pub begin_turn : Bool → Bool → Turn
begin_turn outside is_led = if outside then (if is_led then Led else Edge) else Inside

pub begin_start : (o l : Bool) → is_start (begin_turn o l) ≡ true
begin_start true true = refl
begin_start true false = refl
begin_start false l = refl

pub led_begin : (o l : Bool) → led_turn (begin_turn o l) ≡ begin_turn o true
led_begin true true = refl
led_begin true false = refl
led_begin false l = refl

some_same : (n : ℕ) → 1 ≤ n → some n ≡ n
some_same zero h = absurd (omega (arith, h))
some_same (suc n) h = refl

eighth : (n : ℕ) → n ≤ next_eighth n
eighth n = omega arith

-- a blank remains
first_far : (r : Role) (e n : ℕ) → e + 2 ≤ first_column r e n
first_far Ttl e n = omega (arith, eighth ((e + n + 2) - 31))
first_far Class e n = omega (arith, eighth ((e + 2) - 32))
first_far RecordType e n = omega (arith, eighth ((e + 2) - 35))

later_far : (r : Role) (m e : ℕ) → e + 2 ≤ later_column r m e
later_far Ttl m e = omega arith
later_far Class m e = omega arith
later_far RecordType m e = omega arith

parted_far : (t : Turn) (e : ℕ) (x : List ℕ) → is_start t ≡ false → e + 2 ≤ parted_column t e x
parted_far Edge e x h = cc
parted_far Led e x h = cc
parted_far Inside e x h = cc
parted_far Owned e x h = first_far (role_of false false x) e (width_of x)
parted_far (Head m a b) e x h = later_far (role_of a b x) m e
parted_far (Typed m) e x h = omega arith
parted_far Rest e x h = omega arith

note_far : (t : Turn) (noted e : ℕ) (x : List ℕ) → is_start t ≡ false → e + 2 ≤ note_column noted t e x
note_far Edge noted e x h = cc
note_far Led noted e x h = cc
note_far Inside noted e x h = cc
note_far Owned noted e x h = omega (arith, eighth ((e + 2) - 57))
note_far (Head m a b) noted e x h = omega (arith, eighth ((e + 2) - 57))
note_far (Typed m) noted e x h = omega (arith, eighth ((e + 2) - 57))
note_far Rest noted e x h = omega (arith, eighth ((e + 2) - 57))

parenthesis_far : (t : Turn) (e : ℕ) → is_start t ≡ false → e + 2 ≤ parenthesis_column t e
parenthesis_far Edge e h = cc
parenthesis_far Led e h = cc
parenthesis_far Inside e h = cc
parenthesis_far Owned e h = omega arith
parenthesis_far (Head m a b) e h = omega arith
parenthesis_far (Typed m) e h = omega arith
parenthesis_far Rest e h = omega arith

-- the blanks that are counted on a line
some_blanks : (c e : ℕ) → e + 2 ≤ c → blanks_to c e ≡ some (blanks_to c e)
some_blanks c e h = sym (some_same (blanks_to c e) (omega (arith, h)))

no_blanks : (e : ℕ) → blanks_to (e + 1) e ≡ 0
no_blanks e = omega arith

token_count : (t : Turn) (e : ℕ) (g : Bool) (x : List ℕ) (deep led : Bool) → is_start t ≡ false → blanks_to (token_column t e g x) e ≡ count g true deep led (blanks_to (token_column t e g x) e)
token_count t e true x deep led h = no_blanks e
token_count t e false x deep led h = some_blanks (parted_column t e x) e (parted_far t e x h)

-- and those at the beginning of a line
value_under : (b : Bool) (above column : ℕ) → 2 ≤ column → (b ≡ true → 2 ≤ above) → 2 ≤ (if b then above else column)
value_under true above column h k = k refl
value_under false above column h k = h

first_token : (o l : Bool) (g : Bool) (x : List ℕ) → blanks_to (token_column (begin_turn o l) 0 g x) 0 ≡ count g false (not o) l (blanks_to (token_column (begin_turn o l) 0 g x) 0)
first_token o l true x = refl
first_token true true false x = some_blanks (first_column (role_of false false x) 0 (width_of x)) 0 (first_far (role_of false false x) 0 (width_of x))
first_token true false false x = refl
first_token false l false x = refl

first_parenthesis : (o l : Bool) → blanks_to (parenthesis_column (begin_turn o l) 0) 0 ≡ count false false (not o) l (blanks_to (parenthesis_column (begin_turn o l) 0) 0)
first_parenthesis true true = refl
first_parenthesis true false = refl
first_parenthesis false l = refl

under_far : (above : ℕ) (x : List ℕ) → 2 ≤ under above x 9
under_far above x = value_under (nat_lt 1 above && nat_le above 97 && not (has_second x)) above 9 (omega arith)
    (λ h. ltb-true 1 above (and_parts (nat_lt 1 above) (nat_le above 97) (and_parts (nat_lt 1 above && nat_le above 97) (not (has_second x)) h).0).0)

first_note : (o l : Bool) (noted : ℕ) (x : List ℕ) → blanks_to (note_column noted (begin_turn o l) 0 x) 0 ≡ count false false (not o) l (blanks_to (note_column noted (begin_turn o l) 0 x) 0)
first_note true true noted x = some_blanks (under noted x 9) 0 (under_far noted x)
first_note true false noted x = refl
first_note false l noted x = refl

put_same : (b : Bool) (g h : List ℕ) (n m : ℕ) (x r s : List ℕ) → (if b then g else []) ≡ h → n ≡ m → r ≡ s → ((if b then g else []) ++ replicate n 32) ++ (x ++ r) ≡ (h ++ replicate m 32) ++ (x ++ s)
put_same b g h n m x r s e f k = ap (λ l. (l ++ replicate n 32) ++ (x ++ r)) e ∙ ap (λ i. (h ++ replicate i 32) ++ (x ++ r)) f ∙ ap (λ l. (h ++ replicate m 32) ++ (x ++ l)) k

no_gap : (b : Bool) (g : List ℕ) → b ≡ false → (if b then g else []) ≡ []
no_gap b g h = ap (λ c. if c then g else []) h

its_gap : (b : Bool) (g : List ℕ) → b ≡ true → (if b then g else []) ≡ g
its_gap b g h = ap (λ c. if c then g else []) h

abbrev Within : List Mark → Type 0
Within ms = (a : Above) (d noted note : ℕ) (t : Turn) (e : ℕ) (l : Bool) → is_start t ≡ false → written_from (line_state a d noted note t e) ms ≡ respelt (plan_of (line_state a d noted note t e) ms) a true d l ms

abbrev pub begin_stand : Above → ℕ → ℕ → Bool → LineState
begin_stand a d noted l = line_state a d noted 0 (begin_turn (d == 0) l) 0

abbrev Starts : List Mark → Type 0
Starts ms = (a : Above) (d noted : ℕ) (l : Bool) → written_from (begin_stand a d noted l) ms ≡ respelt (plan_of (begin_stand a d noted l) ms) a false d l ms

abbrev feed_unless : Bool → List ℕ
feed_unless b = if b then [] else 10 ∷ []

feed_within : (ms : List Mark) → Starts ms → Within (Feed ∷ ms)
feed_within ms f a d noted note t e l h =
    subst (λ b. feed_unless b ++ written_from (line_state (if b then blank_below a else Line) d note 0 (start d) 0) ms ≡ 10 ∷ respelt (plan_of (line_state (if b then blank_below a else Line) d note 0 (start d) 0) ms) Line false d false ms) (sym h)
    (ap (λ r. 10 ∷ r) (f Line d note false))

feed_start : (ms : List Mark) → Starts ms → Starts (Feed ∷ ms)
feed_start ms f a d noted l =
    subst (λ b. feed_unless b ++ written_from (line_state (if b then blank_below a else Line) d 0 0 (start d) 0) ms ≡ respelt (plan_of (line_state (if b then blank_below a else Line) d 0 0 (start d) 0) ms) (blank_below a) false d false ms) (sym (begin_start (d == 0) l))
    (f (blank_below a) d 0 false)

lead_start : (ms : List Mark) → Starts ms → Starts (Lead ∷ ms)
lead_start ms f a d noted l = subst (λ (t : Turn). written_from (line_state a d noted 0 t 0) ms ≡ respelt (plan_of (line_state a d noted 0 t 0) ms) a false d true ms) (sym (led_begin (d == 0) l)) (f a d noted true)

both : (ms : List Mark) → Within ms × Starts ms
both [] = (λ a d noted note t e l h. ap feed_unless h, λ a d noted l. ap feed_unless (begin_start (d == 0) l))
both (Feed ∷ ms) = (feed_within ms (both ms).1, feed_start ms (both ms).1)
both (Lead ∷ ms) = (λ a d noted note t e l h. (both ms).0 a d noted note (led_turn t) e true (led_start t ∙ h), lead_start ms (both ms).1)
both (Token g x ∷ ms) = (
  λ a d noted note t e l h. put_same (is_start t) (gap 10 a) [] _ _ x _ _ (no_gap (is_start t) (gap 10 a) h) (token_count t e g x (deep d) l h)
      ((both ms).0 a d noted note (after_token t e g x) ((token_column t e g x - 1) + width_of x) false (after_within t e g x)),
  λ a d noted l. let t = begin_turn (d == 0) l in put_same (is_start t) (gap 10 a) (gap 10 a) _ _ x _ _ (its_gap (is_start t) (gap 10 a) (begin_start (d == 0) l)) (first_token (d == 0) l g x)
      ((both ms).0 a d noted 0 (after_token t 0 g x) ((token_column t 0 g x - 1) + width_of x) false (after_within t 0 g x)),
)
both (Note x ∷ ms) = (
  λ a d noted note t e l h. put_same (is_start t) (gap 10 a) [] _ _ x _ _ (no_gap (is_start t) (gap 10 a) h) (some_blanks (note_column noted t e x) e (note_far t noted e x h))
      ((both ms).0 a d noted (note_column noted t e x) Rest ((note_column noted t e x - 1) + width_of x) false refl),
  λ a d noted l. let t = begin_turn (d == 0) l in put_same (is_start t) (gap 10 a) (gap 10 a) _ _ x _ _ (its_gap (is_start t) (gap 10 a) (begin_start (d == 0) l)) (first_note (d == 0) l noted x)
      ((both ms).0 a d noted (note_column noted t 0 x) Rest ((note_column noted t 0 x - 1) + width_of x) false refl),
)
both (Open ∷ ms) = (
  λ a d noted note t e l h. put_same (is_start t) (gap 10 a) [] _ _ (40 ∷ []) _ _ (no_gap (is_start t) (gap 10 a) h) (some_blanks (parenthesis_column t e) e (parenthesis_far t e h))
      ((both ms).0 a (d + 1) noted note Rest (parenthesis_column t e) false refl),
  λ a d noted l. let t = begin_turn (d == 0) l in put_same (is_start t) (gap 10 a) (gap 10 a) _ _ (40 ∷ []) _ _ (its_gap (is_start t) (gap 10 a) (begin_start (d == 0) l)) (first_parenthesis (d == 0) l)
      ((both ms).0 a (d + 1) noted 0 Rest (parenthesis_column t 0) false refl),
)
both (Close ∷ ms) = (
  λ a d noted note t e l h. put_same (is_start t) (gap 10 a) [] _ _ (41 ∷ []) _ _ (no_gap (is_start t) (gap 10 a) h) (some_blanks (parenthesis_column t e) e (parenthesis_far t e h))
      ((both ms).0 a (d - 1) noted note Rest (parenthesis_column t e) false refl),
  λ a d noted l. let t = begin_turn (d == 0) l in put_same (is_start t) (gap 10 a) (gap 10 a) _ _ (41 ∷ []) _ _ (its_gap (is_start t) (gap 10 a) (begin_start (d == 0) l)) (first_parenthesis (d == 0) l)
      ((both ms).0 a (d - 1) noted 0 Rest (parenthesis_column t 0) false refl),
)

pub planned : (ms : List Mark) → written_from first_stand ms ≡ respelt (plan_of first_stand ms) Nothing false 0 false ms
planned ms = (both ms).1 Nothing 0 0 false
