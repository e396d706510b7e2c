-- Marks that are accepted one after another have a form.
use Rattle.std.proofs.Common.{◌≡◌, ℕ, ◌+◌, ◌-◌, Bool, true, false, ◌&&◌, not, List, [], ◌∷◌, refl, ap, ◌∙◌}
use Rattle.std.specs.Prelude.{if◌then◌else◌}
use Rattle.std.specs.List.{list_all}
use Rattle.zone_format.specs.declared.columns.Turn.{Turn}
use Rattle.zone_format.specs.declared.columns.Turn.TheVariants.{Edge, Led, Inside, Owned, Head, Typed, Rest}
use Rattle.zone_format.specs.declared.line_state.Above.{Above}
use Rattle.zone_format.specs.declared.line_state.Above.TheVariants.{Nothing, Line, Gap}
use Rattle.zone_format.specs.Columns.{after_token, note_column, parenthesis_column, token_column, width_of}
use Rattle.zone_format.specs.Form.{blank_below, led_turn, start}
use Rattle.zone_format.specs.Marks.{Mark, Token, Note, Open, Close, Feed, Lead}
use Rattle.zone_format.specs.Refusal.{begins_marked, begins_order_mark, has_form, has_no_nul, mark_has_no_nul}
use Rattle.zone_format.specs.Writing.{accepts_from, is_edge, is_start}
use Rattle.zone_format.proofs.Formed.{after_within, first_stand, led_start, line_state}

-- a line was written, or is being written
abbrev pub is_settled : Above → Bool → Bool
is_settled Nothing starts = not starts
is_settled Line starts = true
is_settled Gap starts = true

no_edge : (a : Above) (t : Turn) → is_settled a (is_start t) ≡ true → is_edge a t ≡ false
no_edge Nothing Edge h = cc
no_edge Nothing Led h = refl
no_edge Nothing Inside h = refl
no_edge Nothing Owned h = refl
no_edge Nothing (Head m x y) h = refl
no_edge Nothing (Typed m) h = refl
no_edge Nothing Rest h = refl
no_edge Line t h = refl
no_edge Gap t h = refl

within_settled : (a : Above) → is_settled a false ≡ true
within_settled Nothing = refl
within_settled Line = refl
within_settled Gap = refl

fed_settled : (a : Above) (s z : Bool) → is_settled a s ≡ true → is_settled (if s then blank_below a else Line) z ≡ true
fed_settled Nothing true z h = cc
fed_settled Nothing false z h = refl
fed_settled Line true z h = refl
fed_settled Line false z h = refl
fed_settled Gap true z h = refl
fed_settled Gap false z h = refl

-- a token that is not at the edge
plain_token : (p e m r : Bool) → e ≡ false → ((p && not (e && m)) && r) ≡ (p && r)
plain_token true e m r h = ap (λ x. not (x && m) && r) h
plain_token false e m r h = refl

pub settled : (ms : List Mark) (a : Above) (d noted note : ℕ) (t : Turn) (e : ℕ) → is_settled a (is_start t) ≡ true → accepts_from (line_state a d noted note t e) ms ≡ list_all mark_has_no_nul ms
settled [] a d noted note t e h = refl
settled (Token g x ∷ ms) a d noted note t e h =
    plain_token (has_no_nul x) (is_edge a t) (begins_order_mark x) _ (no_edge a t h)
    ∙ ap (λ b. has_no_nul x && b) (settled ms a d noted note (after_token t e g x) ((token_column t e g x - 1) + width_of x) (ap (is_settled a) (after_within t e g x) ∙ within_settled a))
settled (Note x ∷ ms) a d noted note t e h = settled ms a d noted (note_column noted t e x) Rest ((note_column noted t e x - 1) + width_of x) (within_settled a)
settled (Open ∷ ms) a d noted note t e h = settled ms a (d + 1) noted note Rest (parenthesis_column t e) (within_settled a)
settled (Close ∷ ms) a d noted note t e h = settled ms a (d - 1) noted note Rest (parenthesis_column t e) (within_settled a)
settled (Feed ∷ ms) a d noted note t e h = settled ms (if is_start t then blank_below a else Line) d note 0 (start d) 0 (fed_settled a (is_start t) (is_start (start d)) h)
settled (Lead ∷ ms) a d noted note t e h = settled ms a d noted note (led_turn t) e (ap (is_settled a) (led_start t) ∙ h)

abbrev turn_of : Bool → Turn
turn_of true = Led
turn_of false = Edge

-- the first thing
first_token : (p m r : Bool) → ((p && not m) && r) ≡ ((p && r) && not m)
first_token true true true = refl
first_token true true false = refl
first_token true false true = refl
first_token true false false = refl
first_token false m r = refl

none_marked : (r : Bool) → r ≡ (r && not false)
none_marked true = refl
none_marked false = refl

abbrev edge_of : Bool → Bool
edge_of b = is_edge Nothing (turn_of b)

edge_is : (b : Bool) → is_edge Nothing (turn_of b) ≡ not b
edge_is true = refl
edge_is false = refl

pub accepted : (ms : List Mark) (b : Bool) (noted : ℕ) → accepts_from (line_state Nothing 0 noted 0 (turn_of b) 0) ms ≡ (list_all mark_has_no_nul ms && not (begins_marked b ms))
accepted [] b noted = refl
accepted (Token g x ∷ ms) b noted =
    ap (λ r. (has_no_nul x && not (is_edge Nothing (turn_of b) && begins_order_mark x)) && r)
    (settled ms Nothing 0 noted 0 (after_token (turn_of b) 0 g x) ((token_column (turn_of b) 0 g x - 1) + width_of x) (ap (is_settled Nothing) (after_within (turn_of b) 0 g x)))
    ∙ ap (λ m. (has_no_nul x && not (m && begins_order_mark x)) && list_all mark_has_no_nul ms) (edge_is b)
    ∙ first_token (has_no_nul x) (not b && begins_order_mark x) (list_all mark_has_no_nul ms)
accepted (Note x ∷ ms) b noted = settled ms Nothing 0 noted (note_column noted (turn_of b) 0 x) Rest ((note_column noted (turn_of b) 0 x - 1) + width_of x) refl ∙ none_marked (list_all mark_has_no_nul ms)
accepted (Open ∷ ms) b noted = settled ms Nothing 1 noted 0 Rest (parenthesis_column (turn_of b) 0) refl ∙ none_marked (list_all mark_has_no_nul ms)
accepted (Close ∷ ms) b noted = settled ms Nothing 0 noted 0 Rest (parenthesis_column (turn_of b) 0) refl ∙ none_marked (list_all mark_has_no_nul ms)
accepted (Feed ∷ ms) true noted = accepted ms false 0
accepted (Feed ∷ ms) false noted = accepted ms false 0
accepted (Lead ∷ ms) true noted = accepted ms true noted
accepted (Lead ∷ ms) false noted = accepted ms true noted

pub accepted_is_form : (ms : List Mark) → accepts_from first_stand ms ≡ has_form ms
accepted_is_form ms = accepted ms false 0
