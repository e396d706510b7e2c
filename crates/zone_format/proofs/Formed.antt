-- Marks that are written one after another are the forms of their lines.
use Rattle.std.proofs.Common.{◌≡◌, ℕ, ◌+◌, ◌-◌, ◌==◌, Bool, true, false, List, [], ◌∷◌, ◌++◌, refl, sym, ap, ◌∙◌, arith, append_assoc}
use Rattle.std.specs.Prelude.{if◌then◌else◌, replicate}
use Rattle.zone_format.specs.declared.columns.Role.{Role}
use Rattle.zone_format.specs.declared.columns.Role.TheVariants.{Ttl, Class, RecordType}
use Rattle.zone_format.specs.declared.columns.Turn.{Turn}
use Rattle.zone_format.specs.declared.columns.Turn.TheVariants.{Edge, Led, Inside, Owned, Head, Typed, Rest}
use Rattle.zone_format.specs.declared.line_state.Above.{Above}
use Rattle.zone_format.specs.declared.line_state.Above.TheVariants.{Nothing, Line}
use Rattle.zone_format.specs.declared.line_state.LineState.{LineState}
use Rattle.zone_format.specs.Columns.{after_token, begins_dollar, first_moved, head_after, note_column, parenthesis_column, role_of, token_column, width_of}
use Rattle.zone_format.specs.Form.{Before, Placed, blank_below, depth_after, form, forms, gap, is_blank_line, led_turn, lines, noted_in, places, start, with_mark, written}
use Rattle.zone_format.specs.Marks.{Mark, Token, Note, Open, Close, Feed, Lead}
use Rattle.zone_format.specs.Writing.{is_start, written_from}

abbrev pub line_state : Above → ℕ → ℕ → ℕ → Turn → ℕ → LineState
line_state a d noted note t e = record { above = a; depth = d; noted = noted; note = note; turn = t; end = e }

-- at the beginning of a text
abbrev pub first_stand : LineState
first_stand = line_state Nothing 0 0 0 Edge 0

abbrev pub before_line : ℕ → ℕ → Before
before_line d n = record { depth = d; noted = n }

abbrev pub first_line : List Mark → List Mark
first_line [] = []
first_line (Feed ∷ ms) = []
first_line (Token g x ∷ ms) = Token g x ∷ first_line ms
first_line (Note x ∷ ms) = Note x ∷ first_line ms
first_line (Open ∷ ms) = Open ∷ first_line ms
first_line (Close ∷ ms) = Close ∷ first_line ms
first_line (Lead ∷ ms) = Lead ∷ first_line ms

abbrev pub more_lines : List Mark → List (List Mark)
more_lines [] = []
more_lines (Feed ∷ ms) = lines ms
more_lines (Token g x ∷ ms) = more_lines ms
more_lines (Note x ∷ ms) = more_lines ms
more_lines (Open ∷ ms) = more_lines ms
more_lines (Close ∷ ms) = more_lines ms
more_lines (Lead ∷ ms) = more_lines ms

pub lines_are : (ms : List Mark) → lines ms ≡ first_line ms ∷ more_lines ms
lines_are [] = refl
lines_are (Feed ∷ ms) = refl
lines_are (Token g x ∷ ms) = ap (with_mark (Token g x)) (lines_are ms)
lines_are (Note x ∷ ms) = ap (with_mark (Note x)) (lines_are ms)
lines_are (Open ∷ ms) = ap (with_mark Open) (lines_are ms)
lines_are (Close ∷ ms) = ap (with_mark Close) (lines_are ms)
lines_are (Lead ∷ ms) = ap (with_mark Lead) (lines_are ms)

-- after something a line is not empty
head_within : (r : Role) (m : ℕ) (a b : Bool) → is_start (head_after r m a b) ≡ false
head_within Ttl m a b = refl
head_within Class m a b = refl
head_within RecordType m a b = refl

dollar_within : (b : Bool) → is_start (if b then Rest else Owned) ≡ false
dollar_within true = refl
dollar_within false = refl

pub after_within : (t : Turn) (e : ℕ) (g : Bool) (x : List ℕ) → is_start (after_token t e g x) ≡ false
after_within Edge e g x = dollar_within (begins_dollar x)
after_within Led e g x = head_within (role_of false false x) (first_moved g (role_of false false x) e (width_of x)) false false
after_within Inside e g x = refl
after_within Owned e g x = head_within (role_of false false x) (first_moved g (role_of false false x) e (width_of x)) false false
after_within (Head m a b) e g x = head_within (role_of a b x) m a b
after_within (Typed m) e g x = refl
after_within Rest e g x = refl

pub led_start : (t : Turn) → is_start (led_turn t) ≡ is_start t
led_start Edge = refl
led_start Led = refl
led_start Inside = refl
led_start Owned = refl
led_start (Head m a b) = refl
led_start (Typed m) = refl
led_start Rest = refl

pub starts : (d : ℕ) → is_start (start d) ≡ true
starts d = begin_starts (d == 0)
  where
    begin_starts : (b : Bool) → is_start (if b then Edge else Inside) ≡ true
    begin_starts true = refl
    begin_starts false = refl

-- the rest of a line, and what is below it
abbrev rest_of : ℕ → ℕ → ℕ → Turn → ℕ → List Mark → List (List Mark) → List ℕ
rest_of d noted note t e l ls = written e (places noted t e l) ++ (10 ∷ forms Line (before_line (depth_after d l) (noted_in note (places noted t e l))) ls)

abbrev line_of : Bool → Above → ℕ → ℕ → Turn → List Mark → List (List Mark) → List ℕ
line_of blank a d noted t l ls = if blank then forms (blank_below a) (before_line (depth_after d l) (noted_in 0 (places noted t 0 l))) ls else gap 10 a ++ rest_of d noted 0 t 0 l ls

abbrev Within : List Mark → Type 0
Within ms = (a : Above) (d noted note : ℕ) (t : Turn) (e : ℕ) → is_start t ≡ false → written_from (line_state a d noted note t e) ms ≡ rest_of d noted note t e (first_line ms) (more_lines ms)

abbrev Starts : List Mark → Type 0
Starts ms = (a : Above) (d noted : ℕ) (t : Turn) → is_start t ≡ true → written_from (line_state a d noted 0 t 0) ms ≡ line_of (is_blank_line (first_line ms)) a d noted t (first_line ms) (more_lines ms)

-- something, and the rest of its line
put : (spaces x w tail more : List ℕ) → more ≡ w ++ tail → spaces ++ (x ++ more) ≡ (spaces ++ (x ++ w)) ++ tail
put spaces x w tail more e = ap (λ l. spaces ++ (x ++ l)) e ∙ sym (append_assoc spaces (x ++ w) tail ∙ ap (λ l. spaces ++ l) (append_assoc x w tail))

put_within : (b : Bool) (gap spaces x w tail more : List ℕ) → b ≡ false → more ≡ w ++ tail → ((if b then gap else []) ++ spaces) ++ (x ++ more) ≡ (spaces ++ (x ++ w)) ++ tail
put_within b gap spaces x w tail more h e = ap (λ c. ((if c then gap else []) ++ spaces) ++ (x ++ more)) h ∙ put spaces x w tail more e

put_first : (b : Bool) (gap spaces x w tail more : List ℕ) → b ≡ true → more ≡ w ++ tail → ((if b then gap else []) ++ spaces) ++ (x ++ more) ≡ gap ++ ((spaces ++ (x ++ w)) ++ tail)
put_first b gap spaces x w tail more h e =
    ap (λ c. ((if c then gap else []) ++ spaces) ++ (x ++ more)) h ∙ append_assoc gap spaces (x ++ more) ∙ ap (λ l. gap ++ l) (put spaces x w tail more e)

abbrev blanks : ℕ → ℕ → List ℕ
blanks c e = replicate (c - (e + 1)) 32

-- a whole line
pub from_start : (ms : List Mark) → Starts ms → (a : Above) (d noted : ℕ) → written_from (line_state a d noted 0 (start d) 0) ms ≡ forms a (before_line d noted) (lines ms)
from_start ms h a d noted = h a d noted (start d) (starts d) ∙ ap (forms a (before_line d noted)) (sym (lines_are ms))

abbrev feed_unless : Bool → List ℕ
feed_unless b = if b then [] else 10 ∷ []

end_within : (b : Bool) → b ≡ false → feed_unless b ≡ 10 ∷ []
end_within b h = ap feed_unless h

end_start : (b : Bool) → b ≡ true → feed_unless b ≡ []
end_start b h = ap feed_unless h

feed_within : (ms : List Mark) → Starts ms → Within (Feed ∷ ms)
feed_within ms f a d noted note t e h =
    ap (λ b. feed_unless b ++ written_from (line_state (if b then blank_below a else Line) d note 0 (start d) 0) ms) h
    ∙ ap (λ l. 10 ∷ l) (from_start ms f Line d note)

feed_start : (ms : List Mark) → Starts ms → Starts (Feed ∷ ms)
feed_start ms f a d noted t h =
    ap (λ b. feed_unless b ++ written_from (line_state (if b then blank_below a else Line) d 0 0 (start d) 0) ms) h
    ∙ from_start ms f (blank_below a) d 0

-- a parenthesis ends at its column
ends_there : (t : Turn) (e : ℕ) → parenthesis_column t e ≡ (parenthesis_column t e - 1) + 1
ends_there Edge e = refl
ends_there Led e = omega arith
ends_there Inside e = refl
ends_there Owned e = omega arith
ends_there (Head m a b) e = omega arith
ends_there (Typed m) e = omega arith
ends_there Rest e = omega arith

parted : (t : Turn) (e : ℕ) (ps : List Placed) (tail more : List ℕ) → more ≡ written (parenthesis_column t e) ps ++ tail → more ≡ written ((parenthesis_column t e - 1) + 1) ps ++ tail
parted t e ps tail more h = h ∙ ap (λ n. written n ps ++ tail) (ends_there t e)

pub both : (ms : List Mark) → Within ms × Starts ms
both [] = (λ a d noted note t e h. end_within (is_start t) h, λ a d noted t h. end_start (is_start t) h)
both (Feed ∷ ms) = (feed_within ms (both ms).1, feed_start ms (both ms).1)
both (Lead ∷ ms) = (
  λ a d noted note t e h. (both ms).0 a d noted note (led_turn t) e (led_start t ∙ h),
  λ a d noted t h. (both ms).1 a d noted (led_turn t) (led_start t ∙ h),
)
both (Token g x ∷ ms) = (
  λ a d noted note t e h. put_within (is_start t) (gap 10 a) (blanks (token_column t e g x) e) x _ _ _ h
      ((both ms).0 a d noted note (after_token t e g x) ((token_column t e g x - 1) + width_of x) (after_within t e g x)),
  λ a d noted t h. put_first (is_start t) (gap 10 a) (blanks (token_column t 0 g x) 0) x _ _ _ h
      ((both ms).0 a d noted 0 (after_token t 0 g x) ((token_column t 0 g x - 1) + width_of x) (after_within t 0 g x)),
)
both (Note x ∷ ms) = (
  λ a d noted note t e h. put_within (is_start t) (gap 10 a) (blanks (note_column noted t e x) e) x _ _ _ h
      ((both ms).0 a d noted (note_column noted t e x) Rest ((note_column noted t e x - 1) + width_of x) refl),
  λ a d noted t h. put_first (is_start t) (gap 10 a) (blanks (note_column noted t 0 x) 0) x _ _ _ h
      ((both ms).0 a d noted (note_column noted t 0 x) Rest ((note_column noted t 0 x - 1) + width_of x) refl),
)
both (Open ∷ ms) = (
  λ a d noted note t e h. put_within (is_start t) (gap 10 a) (blanks (parenthesis_column t e) e) (40 ∷ []) _ _ _ h
      (parted t e (places noted Rest (parenthesis_column t e) (first_line ms)) _ _ ((both ms).0 a (d + 1) noted note Rest (parenthesis_column t e) refl)),
  λ a d noted t h. put_first (is_start t) (gap 10 a) (blanks (parenthesis_column t 0) 0) (40 ∷ []) _ _ _ h
      (parted t 0 (places noted Rest (parenthesis_column t 0) (first_line ms)) _ _ ((both ms).0 a (d + 1) noted 0 Rest (parenthesis_column t 0) refl)),
)
both (Close ∷ ms) = (
  λ a d noted note t e h. put_within (is_start t) (gap 10 a) (blanks (parenthesis_column t e) e) (41 ∷ []) _ _ _ h
      (parted t e (places noted Rest (parenthesis_column t e) (first_line ms)) _ _ ((both ms).0 a (d - 1) noted note Rest (parenthesis_column t e) refl)),
  λ a d noted t h. put_first (is_start t) (gap 10 a) (blanks (parenthesis_column t 0) 0) (41 ∷ []) _ _ _ h
      (parted t 0 (places noted Rest (parenthesis_column t 0) (first_line ms)) _ _ ((both ms).0 a (d - 1) noted 0 Rest (parenthesis_column t 0) refl)),
)

pub written_is_form : (ms : List Mark) → written_from first_stand ms ≡ form ms
written_is_form ms = from_start ms (both ms).1 Nothing 0 0
