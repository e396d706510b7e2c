-- The form of squeezed marks is that of the marks.
use Rattle.std.proofs.Common.{◌≡◌, ℕ, ◌+◌, ◌-◌, Bool, true, false, ◌&&◌, ◌==◌, not, List, [], ◌∷◌, ◌++◌, refl, sym, ap, ◌∙◌, subst}
use Rattle.std.specs.Prelude.{if◌then◌else◌}
use Rattle.std.specs.List.{list_all}
use Rattle.zone_format.specs.declared.columns.Turn.{Turn}
use Rattle.zone_format.specs.declared.columns.Turn.TheVariants.{Edge, Led, Inside, Owned, Head, Typed, Rest}
use Rattle.zone_format.specs.declared.line_state.Above.{Above}
use Rattle.zone_format.specs.declared.line_state.Above.TheVariants.{Nothing, Line, Gap}
use Rattle.zone_format.specs.Columns.{after_token, note_column, parenthesis_column, token_column, width_of}
use Rattle.zone_format.specs.Form.{blank_below, form, led_turn, start}
use Rattle.zone_format.specs.Formats.{Formats}
use Rattle.zone_format.specs.Marks.{Mark, Token, Note, Open, Close, Feed, Lead, HasMarks, lead}
use Rattle.zone_format.specs.Refusal.{begins_marked, has_form, mark_has_no_nul}
use Rattle.zone_format.specs.Squeezed.{squeezed}
use Rattle.zone_format.specs.Writing.{is_start, note_before, parenthesis_before, token_before, written_from}
use Rattle.zone_format.proofs.Formed.{after_within, first_stand, line_state, written_is_form}
use Rattle.zone_format.proofs.Planned.{begin_stand, begin_start, begin_turn, led_begin, plan_of, planned}
use Rattle.zone_format.proofs.Reading.{rewritten}
use Rattle.zone_format.proofs.Respelling.{end_if, lead_in, next, sq}
use Rattle.zone_format.proofs.Same.{marks_once, marks_written}
use Rattle.zone_format.proofs.Squeezing.{sq_is_squeezed}

-- the state above if blank lines are dropped
abbrev base : Above → Above
base Nothing = Nothing
base Line = Line
base Gap = Line

abbrev Suits : Above → ℕ → ℕ → Type 0
Suits Nothing m n = (m ≡ 0) × (n ≡ 0)
Suits Line m n = m ≡ n
Suits Gap m n = n ≡ 0

abbrev feed_unless : Bool → List ℕ
feed_unless b = if b then [] else 10 ∷ []

-- a line end at the beginning of a line
fed_begin : (a : Above) (d n : ℕ) (l : Bool) (ms : List Mark) → written_from (begin_stand a d n l) (Feed ∷ ms) ≡ written_from (begin_stand (blank_below a) d 0 false) ms
fed_begin a d n l ms =
    subst (λ b. feed_unless b ++ written_from (line_state (if b then blank_below a else Line) d 0 0 (start d) 0) ms ≡ written_from (begin_stand (blank_below a) d 0 false) ms) (sym (begin_start (d == 0) l)) refl

lead_begin : (a : Above) (d n : ℕ) (l : Bool) (ms : List Mark) → written_from (begin_stand a d n false) (lead l ++ ms) ≡ written_from (begin_stand a d n l) ms
lead_begin a d n true ms = ap (λ (t : Turn). written_from (line_state a d n 0 t 0) ms) (led_begin (d == 0) false)
lead_begin a d n false ms = refl

arrive : (a : Above) (d m n : ℕ) (l : Bool) (ms : List Mark) → Suits a m n → written_from (begin_stand (base a) d m false) (lead_in a false l ++ ms) ≡ written_from (begin_stand a d n l) ms
arrive Nothing d m n l ms s = ap (λ i. written_from (begin_stand Nothing d i false) (lead l ++ ms)) (s.0 ∙ sym s.1) ∙ lead_begin Nothing d n l ms
arrive Line d m n l ms s = ap (λ i. written_from (begin_stand Line d i false) (lead l ++ ms)) s ∙ lead_begin Line d n l ms
arrive Gap d m n l ms s = fed_begin Line d m false (lead l ++ ms) ∙ lead_begin Gap d 0 l ms ∙ ap (λ i. written_from (begin_stand Gap d i l) ms) (sym s)

abbrev Within : List Mark → Type 0
Within ms = (b a : Above) (d noted note : ℕ) (t : Turn) (e : ℕ) (l : Bool) → is_start t ≡ false → written_from (line_state a d noted note t e) (sq b true l ms) ≡ written_from (line_state a d noted note t e) ms

abbrev Starts : List Mark → Type 0
Starts ms = (a : Above) (d m n : ℕ) (l : Bool) → Suits a m n → written_from (begin_stand (base a) d m false) (sq a false l ms) ≡ written_from (begin_stand a d n l) ms

feed_within : (ms : List Mark) → Starts ms → Within (Feed ∷ ms)
feed_within ms f b a d noted note t e l h =
    subst (λ c. feed_unless c ++ written_from (line_state (if c then blank_below a else Line) d note 0 (start d) 0) (sq Line false false ms) ≡ feed_unless c ++ written_from (line_state (if c then blank_below a else Line) d note 0 (start d) 0) ms) (sym h)
    (ap (λ r. 10 ∷ r) (f Line d note note false refl))

feed_start : (ms : List Mark) → Starts ms → Starts (Feed ∷ ms)
feed_start ms f Nothing d m n l s = f Nothing d m 0 false (s.0, refl) ∙ sym (fed_begin Nothing d n l ms)
feed_start ms f Line d m n l s = f Gap d m 0 false refl ∙ sym (fed_begin Line d n l ms)
feed_start ms f Gap d m n l s = f Gap d m 0 false refl ∙ sym (fed_begin Gap d n l ms)

lead_start : (ms : List Mark) → Starts ms → Starts (Lead ∷ ms)
lead_start ms f a d m n l s = f a d m n true s ∙ ap (λ (t : Turn). written_from (line_state a d n 0 t 0) ms) (sym (led_begin (d == 0) l))

last_start : Starts []
last_start a d m n l s = ap feed_unless (begin_start (d == 0) false) ∙ sym (ap feed_unless (begin_start (d == 0) l))

-- the last line ends
last_within : Within []
last_within b a d noted note t e l h = subst (λ c. feed_unless c ++ feed_unless (is_start (start d)) ≡ feed_unless c) (sym h) (ap (λ r. 10 ∷ feed_unless r) (begin_start (d == 0) false))

-- on a line a blank at an entry's beginning isn't possible
same_turn : (t : Turn) → is_start t ≡ false → led_turn t ≡ t
same_turn Edge h = cc
same_turn Led h = cc
same_turn Inside h = cc
same_turn Owned h = refl
same_turn (Head m x y) h = refl
same_turn (Typed m) h = refl
same_turn Rest h = refl

lead_within : (ms : List Mark) → Within ms → Within (Lead ∷ ms)
lead_within ms f b a d noted note t e l h = f b a d noted note t e true h ∙ ap (λ (u : Turn). written_from (line_state a d noted note u e) ms) (sym (same_turn t h))

both : (ms : List Mark) → Within ms × Starts ms
both [] = (last_within, last_start)
both (Feed ∷ ms) = (feed_within ms (both ms).1, feed_start ms (both ms).1)
both (Lead ∷ ms) = (lead_within ms (both ms).0, lead_start ms (both ms).1)
both (Token g x ∷ ms) = (
  λ b a d noted note t e l h. ap (λ r. token_before (line_state a d noted note t e) g x ++ (x ++ r)) ((both ms).0 b a d noted note (after_token t e g x) ((token_column t e g x - 1) + width_of x) false (after_within t e g x)),
  λ a d m n l s. let t = begin_turn (d == 0) l in arrive a d m n l (Token g x ∷ sq a true false ms) s
      ∙ ap (λ r. token_before (begin_stand a d n l) g x ++ (x ++ r)) ((both ms).0 a a d n 0 (after_token t 0 g x) ((token_column t 0 g x - 1) + width_of x) false (after_within t 0 g x)),
)
both (Note x ∷ ms) = (
  λ b a d noted note t e l h. ap (λ r. note_before (line_state a d noted note t e) x ++ (x ++ r)) ((both ms).0 b a d noted (note_column noted t e x) Rest ((note_column noted t e x - 1) + width_of x) false refl),
  λ a d m n l s. let t = begin_turn (d == 0) l in arrive a d m n l (Note x ∷ sq a true false ms) s
      ∙ ap (λ r. note_before (begin_stand a d n l) x ++ (x ++ r)) ((both ms).0 a a d n (note_column n t 0 x) Rest ((note_column n t 0 x - 1) + width_of x) false refl),
)
both (Open ∷ ms) = (
  λ b a d noted note t e l h. ap (λ r. parenthesis_before (line_state a d noted note t e) ++ (40 ∷ r)) ((both ms).0 b a (d + 1) noted note Rest (parenthesis_column t e) false refl),
  λ a d m n l s. let t = begin_turn (d == 0) l in arrive a d m n l (Open ∷ sq a true false ms) s
      ∙ ap (λ r. parenthesis_before (begin_stand a d n l) ++ (40 ∷ r)) ((both ms).0 a a (d + 1) n 0 Rest (parenthesis_column t 0) false refl),
)
both (Close ∷ ms) = (
  λ b a d noted note t e l h. ap (λ r. parenthesis_before (line_state a d noted note t e) ++ (41 ∷ r)) ((both ms).0 b a (d - 1) noted note Rest (parenthesis_column t e) false refl),
  λ a d m n l s. let t = begin_turn (d == 0) l in arrive a d m n l (Close ∷ sq a true false ms) s
      ∙ ap (λ r. parenthesis_before (begin_stand a d n l) ++ (41 ∷ r)) ((both ms).0 a a (d - 1) n 0 Rest (parenthesis_column t 0) false refl),
)

pub form_of_squeezed : (ms : List Mark) → form (squeezed ms) ≡ form ms
form_of_squeezed ms = ap form (sym (sq_is_squeezed ms)) ∙ sym (written_is_form (sq Nothing false false ms)) ∙ (both ms).1 Nothing 0 0 0 false (refl, refl) ∙ written_is_form ms

-- the form has the marks, with blank lines squeezed
pub form_has_marks : (octets : List ℕ) (ms : List Mark) → HasMarks octets ms → HasMarks (form ms) (squeezed ms)
form_has_marks octets ms h =
    let plan = plan_of first_stand ms in
    let same : rewritten plan ms ≡ form ms = sym (planned ms) ∙ written_is_form ms in
    subst (λ l. HasMarks l (squeezed ms)) same (subst (HasMarks (rewritten plan ms)) (sq_is_squeezed ms) (marks_written octets plan ms h))

-- and isn't rejected
fine_in : (a : Above) (w l : Bool) (ms : List Mark) → list_all mark_has_no_nul (lead_in a w l ++ ms) ≡ list_all mark_has_no_nul ms
fine_in a true l ms = refl
fine_in Nothing false true ms = refl
fine_in Nothing false false ms = refl
fine_in Line false true ms = refl
fine_in Line false false ms = refl
fine_in Gap false true ms = refl
fine_in Gap false false ms = refl

fine_end : (w : Bool) (ms : List Mark) → list_all mark_has_no_nul (end_if Feed w ++ ms) ≡ list_all mark_has_no_nul ms
fine_end true ms = refl
fine_end false ms = refl

last_fine : (w : Bool) → list_all mark_has_no_nul (end_if Feed w) ≡ true
last_fine true = refl
last_fine false = refl

fine_sq : (ms : List Mark) (a : Above) (w l : Bool) → list_all mark_has_no_nul (sq a w l ms) ≡ list_all mark_has_no_nul ms
fine_sq [] a w l = last_fine w
fine_sq (Token g x ∷ ms) a w l = fine_in a w l (Token g x ∷ sq a true false ms) ∙ ap (λ b. mark_has_no_nul (Token g x) && b) (fine_sq ms a true false)
fine_sq (Note x ∷ ms) a w l = fine_in a w l (Note x ∷ sq a true false ms) ∙ fine_sq ms a true false
fine_sq (Open ∷ ms) a w l = fine_in a w l (Open ∷ sq a true false ms) ∙ fine_sq ms a true false
fine_sq (Close ∷ ms) a w l = fine_in a w l (Close ∷ sq a true false ms) ∙ fine_sq ms a true false
fine_sq (Feed ∷ ms) a w l = fine_end w (sq (next w a) false false ms) ∙ fine_sq ms (next w a) false false
fine_sq (Lead ∷ ms) a w l = fine_sq ms a w true

marked_sq : (ms : List Mark) (l : Bool) → begins_marked false (sq Nothing false l ms) ≡ begins_marked l ms
marked_sq [] l = refl
marked_sq (Token g x ∷ ms) true = refl
marked_sq (Token g x ∷ ms) false = refl
marked_sq (Note x ∷ ms) true = refl
marked_sq (Note x ∷ ms) false = refl
marked_sq (Open ∷ ms) true = refl
marked_sq (Open ∷ ms) false = refl
marked_sq (Close ∷ ms) true = refl
marked_sq (Close ∷ ms) false = refl
marked_sq (Feed ∷ ms) l = marked_sq ms false
marked_sq (Lead ∷ ms) l = marked_sq ms true

squeezed_has_form : (ms : List Mark) → has_form (squeezed ms) ≡ has_form ms
squeezed_has_form ms = ap has_form (sym (sq_is_squeezed ms)) ∙ ap (λ b. b && not (begins_marked false (sq Nothing false false ms))) (fine_sq ms Nothing false false) ∙ ap (λ b. list_all mark_has_no_nul ms && not b) (marked_sq ms false)

-- the form of a form is itself
pub form_again : (octets f : List ℕ) → Formats octets [] f → Formats f [] f
form_again octets f h = record {
  marks = squeezed h.marks;
  read = subst (λ l. HasMarks l (squeezed h.marks)) (sym h.out) (form_has_marks octets h.marks h.read);
  formed = squeezed_has_form h.marks ∙ h.formed;
  out = h.out ∙ sym (form_of_squeezed h.marks);
}

-- if the marks are the same, the forms are
pub same_form : (octets other : List ℕ) (ms : List Mark) (f g : List ℕ) → HasMarks octets ms → HasMarks other ms → Formats octets [] f → Formats other [] g → f ≡ g
same_form octets other ms f g a b h k = h.out ∙ ap form (marks_once octets h.marks ms h.read a) ∙ sym (ap form (marks_once other k.marks ms k.read b)) ∙ sym k.out
