-- The invariant from piece to piece.
use Rattle.std.proofs.Common.{◌≡◌, ℕ, ◌==◌, Bool, true, false, ◌&&◌, List, [], ◌∷◌, ◌++◌, length, refl, sym, ap, ◌∙◌, subst, arith, append-nil, append_assoc}
use Rattle.std.specs.Prelude.{if◌then◌else◌, map, Result, Ok}
use Rattle.std.proofs.lemmas.List.{map-append}
use Rattle.dns_lexer.specs.declared.pieces.EndOfEntry.{EndOfEntry}
use Rattle.dns_lexer.specs.declared.pieces.Piece.{Piece}
use Rattle.dns_lexer.specs.declared.pieces.Piece.TheVariants.{Word as WordAt, Quote as QuoteAt, Comment as CommentAt, End as EndAt}
use Rattle.dns_lexer.specs.declared.pieces.Fault.{Fault}
use Rattle.dns_lexer.specs.declared.pieces.Span.{Span}
use Rattle.dns_lexer.specs.Pieces.{EachWithin, between}
use Rattle.dns_lexer.specs.CursorStates.{blank_at}
use Rattle.zone_format.specs.declared.format.Progress.{Progress}
use Rattle.zone_format.specs.declared.line_state.LineState.{LineState}
use Rattle.zone_format.specs.declared.line_state.FormatState.{FormatState}
use Rattle.zone_format.specs.Blocks.{resting}
use Rattle.zone_format.specs.Marks.{Mark, Token, Note, Lead, gap_marks, lead, marks, shortened}
use Rattle.zone_format.specs.Writing.{Advances, LineFits, Reaches, WritesEnd, WritesNote, WritesToken, accepts_from, led, state_after, written_from}
use Rattle.zone_format.proofs.Follow.{Follows}
use Rattle.zone_format.proofs.Going.{accepts_parted, stands_append}
use Rattle.zone_format.proofs.Givens.{first_fault, pieces_in}

pub record Stays (octets : List ℕ) (all : List (Result Piece Fault)) (old : List ℕ) (from : Progress) (rest : List (Result Piece Fault)) (new : List ℕ) (p : Progress) : Type 0 where
  pub fault : first_fault rest ≡ first_fault all
  pub within : EachWithin (length octets) rest
  pub order : Follows p.at rest
  -- the pieces so far, and their marks, which were accepted
  pub found : List Piece
  pub split : all ≡ map Ok found ++ rest
  pub done : List Mark
  pub marked : (more : List Piece) → marks octets from.is_token from.at (found ++ more) ≡ done ++ marks octets p.is_token p.at more
  pub done_accepted : accepts_from from.line_state done ≡ true
  pub done_state : p.line_state ≡ state_after from.line_state done
  pub fits : LineFits new p.line_state
  pub reaches : Reaches octets p
  pub line_state : state_after p.line_state (marks octets p.is_token p.at (pieces_in rest)) ≡ state_after from.line_state (marks octets from.is_token from.at (pieces_in all))
  pub out : new ++ written_from p.line_state (marks octets p.is_token p.at (pieces_in rest)) ≡ old ++ written_from from.line_state (marks octets from.is_token from.at (pieces_in all))
  pub accepted : accepts_from p.line_state (marks octets p.is_token p.at (pieces_in rest)) ≡ accepts_from from.line_state (marks octets from.is_token from.at (pieces_in all))

-- marks were written, and those of the remaining pieces follow them
written_after : (octets : List ℕ) (ms : List Mark) (old : List ℕ) (p : Progress) (to : ℕ) (tied : Bool) (new : List ℕ) (q : Progress) (ps : List Piece) → Advances octets ms old p to tied new q
    → new ++ written_from q.line_state (marks octets q.is_token q.at ps) ≡ old ++ written_from p.line_state (ms ++ marks octets tied to ps)
written_after octets ms old p to tied new q ps a =
    ap (λ b. new ++ written_from q.line_state (marks octets b q.at ps)) a.is_token ∙ ap (λ n. new ++ written_from q.line_state (marks octets tied n ps)) a.at ∙ a.goes (marks octets tied to ps)

accepted_after : (octets : List ℕ) (ms : List Mark) (old : List ℕ) (p : Progress) (to : ℕ) (tied : Bool) (new : List ℕ) (q : Progress) (ps : List Piece) → Advances octets ms old p to tied new q
    → accepts_from q.line_state (marks octets q.is_token q.at ps) ≡ accepts_from p.line_state (ms ++ marks octets tied to ps)
accepted_after octets ms old p to tied new q ps a =
    ap (λ b. accepts_from q.line_state (marks octets b q.at ps)) a.is_token ∙ ap (λ n. accepts_from q.line_state (marks octets tied n ps)) a.at ∙ a.accepts (marks octets tied to ps)

stand_after : (octets : List ℕ) (ms : List Mark) (old : List ℕ) (p : Progress) (to : ℕ) (tied : Bool) (new : List ℕ) (q : Progress) (ps : List Piece) → Advances octets ms old p to tied new q
    → state_after q.line_state (marks octets q.is_token q.at ps) ≡ state_after p.line_state (ms ++ marks octets tied to ps)
stand_after octets ms old p to tied new q ps a =
    ap (λ b. state_after q.line_state (marks octets b q.at ps)) a.is_token ∙ ap (λ n. state_after q.line_state (marks octets tied n ps)) a.at ∙ ap (λ s. state_after s (marks octets tied to ps)) a.line_state
    ∙ sym (stands_append p.line_state ms (marks octets tied to ps))

stays : (octets : List ℕ) (all : List (Result Piece Fault)) (old : List ℕ) (from : Progress) (x : Piece) (rest : List (Result Piece Fault)) (mid : List ℕ) (p : Progress) (ms : List Mark) (to : ℕ) (tied : Bool) (new : List ℕ) (q : Progress)
    → Stays octets all old from (Ok x ∷ rest) mid p → Advances octets ms mid p to tied new q
    → ((more : List Piece) → ms ++ marks octets tied to more ≡ marks octets p.is_token p.at (x ∷ more)) → Follows to rest → Stays octets all old from rest new q
stays octets all old from x rest mid p ms to tied new q h a e f = record {
  fault = h.fault;
  within = h.within.1;
  order = subst (λ n. Follows n rest) (sym a.at) f;
  found = h.found ++ x ∷ [];
  split = h.split ∙ sym (append_assoc (map Ok h.found) (Ok x ∷ []) rest) ∙ ap (λ l. l ++ rest) (sym (map-append Ok h.found (x ∷ [])));
  done = h.done ++ ms;
  marked = λ more. ap (marks octets from.is_token from.at) (append_assoc h.found (x ∷ []) more) ∙ h.marked (x ∷ more) ∙ ap (λ l. h.done ++ l) (sym (e more))
      ∙ sym (append_assoc h.done ms (marks octets tied to more)) ∙ ap (λ n. (h.done ++ ms) ++ marks octets tied n more) (sym a.at) ∙ ap (λ b. (h.done ++ ms) ++ marks octets b q.at more) (sym a.is_token);
  done_accepted = accepts_parted h.done ms from.line_state h.done_accepted ∙ ap (λ s. accepts_from s ms) (sym h.done_state) ∙ ap (accepts_from p.line_state) (sym (append-nil ms)) ∙ sym (a.accepts []);
  done_state = a.line_state ∙ ap (λ s. state_after s ms) h.done_state ∙ sym (stands_append from.line_state h.done ms);
  fits = a.fits;
  reaches = a.reaches;
  line_state = stand_after octets ms mid p to tied new q (pieces_in rest) a ∙ ap (state_after p.line_state) (e (pieces_in rest)) ∙ h.line_state;
  out = written_after octets ms mid p to tied new q (pieces_in rest) a ∙ ap (λ l. mid ++ written_from p.line_state l) (e (pieces_in rest)) ∙ h.out;
  accepted = accepted_after octets ms mid p to tied new q (pieces_in rest) a ∙ ap (accepts_from p.line_state) (e (pieces_in rest)) ∙ h.accepted;
}

pub stays_word : (octets : List ℕ) (all : List (Result Piece Fault)) (old : List ℕ) (from : Progress) (x : Span) (rest : List (Result Piece Fault)) (mid : List ℕ) (p : Progress) (new : List ℕ) (q : Progress)
    → Stays octets all old from (Ok (WordAt x) ∷ rest) mid p → WritesToken octets p x mid new q → Stays octets all old from rest new q
stays_word octets all old from x rest mid p new q h a =
    stays octets all old from (WordAt x) rest mid p _ x.end true new q h a
    (λ more. append_assoc (gap_marks octets p.at x.start) (Token (p.is_token && (x.start == p.at)) (between octets x.start x.end) ∷ []) (marks octets true x.end more)) h.order.1

pub stays_quote : (octets : List ℕ) (all : List (Result Piece Fault)) (old : List ℕ) (from : Progress) (x : Span) (rest : List (Result Piece Fault)) (mid : List ℕ) (p : Progress) (new : List ℕ) (q : Progress)
    → Stays octets all old from (Ok (QuoteAt x) ∷ rest) mid p → WritesToken octets p x mid new q → Stays octets all old from rest new q
stays_quote octets all old from x rest mid p new q h a =
    stays octets all old from (QuoteAt x) rest mid p _ x.end true new q h a
    (λ more. append_assoc (gap_marks octets p.at x.start) (Token (p.is_token && (x.start == p.at)) (between octets x.start x.end) ∷ []) (marks octets true x.end more)) h.order.1

pub stays_note : (octets : List ℕ) (all : List (Result Piece Fault)) (old : List ℕ) (from : Progress) (x : Span) (rest : List (Result Piece Fault)) (mid : List ℕ) (p : Progress) (new : List ℕ) (q : Progress)
    → Stays octets all old from (Ok (CommentAt x) ∷ rest) mid p → WritesNote octets p x mid new q → Stays octets all old from rest new q
stays_note octets all old from x rest mid p new q h a =
    stays octets all old from (CommentAt x) rest mid p _ x.end false new q h a
    (λ more. append_assoc (gap_marks octets p.at x.start) (Note (shortened (between octets x.start x.end)) ∷ []) (marks octets false x.end more)) h.order.1

pub stays_end : (octets : List ℕ) (all : List (Result Piece Fault)) (old : List ℕ) (from : Progress) (x : EndOfEntry) (rest : List (Result Piece Fault)) (mid : List ℕ) (p : Progress) (new : List ℕ) (q : Progress)
    → Stays octets all old from (Ok (EndAt x) ∷ rest) mid p → WritesEnd octets p x.at mid new q → Stays octets all old from rest new q
stays_end octets all old from x rest mid p new q h a =
    stays octets all old from (EndAt x) rest mid p _ x.at false new q h a
    (λ more. append_assoc (gap_marks octets p.at x.at) (lead (blank_at octets x.at)) (marks octets false x.at more)) h.order.1

-- the beginning
first_is : (b c : Bool) (s t z : LineState) → t ≡ z → s ≡ (if b then led t else t) → b ≡ c → s ≡ (if c then led z else z)
first_is b c s t z e f g = f ∙ ap (λ y. if y then led t else t) g ∙ ap (λ x. if c then led x else x) e

led_fits : (c : Bool) (octets : List ℕ) (m : FormatState) → LineFits octets (if c then led (resting m) else resting m)
led_fits true octets m = record { moved = omega arith; few = omega arith }
led_fits false octets m = record { moved = omega arith; few = omega arith }

pub first_fits : (octets : List ℕ) (b c : Bool) (s t : LineState) (m : FormatState) → t ≡ resting m → s ≡ (if b then led t else t) → b ≡ c → LineFits octets s
first_fits octets b c s t m e f g = subst (LineFits octets) (sym (first_is b c s t (resting m) e f g)) (led_fits c octets m)

led_reaches : (c : Bool) (octets : List ℕ) (m : FormatState) → Reaches octets (record { line_state = if c then led (resting m) else resting m; at = 0; is_token = false })
led_reaches true octets m = record { within = omega arith; depth = omega arith }
led_reaches false octets m = record { within = omega arith; depth = omega arith }

pub first_reaches : (octets : List ℕ) (b c : Bool) (s t : LineState) (m : FormatState) → t ≡ resting m → s ≡ (if b then led t else t) → b ≡ c → Reaches octets (record { line_state = s; at = 0; is_token = false })
first_reaches octets b c s t m e f g = subst (λ (x : LineState). Reaches octets (record { line_state = x; at = 0; is_token = false })) (sym (first_is b c s t (resting m) e f g)) (led_reaches c octets m)

-- what continues from there continues after the blank that an entry begins with
module _ {A : Type 0} (goes : LineState → List Mark → A) (led_on : (s : LineState) (ms : List Mark) → goes (led s) ms ≡ goes s (Lead ∷ ms)) where
  led_goes : (c : Bool) (z : LineState) (ms : List Mark) → goes (if c then led z else z) ms ≡ goes z (lead c ++ ms)
  led_goes true z ms = led_on z ms
  led_goes false z ms = refl

  pub first_goes : (b c : Bool) (s t z : LineState) (ms : List Mark) → t ≡ z → s ≡ (if b then led t else t) → b ≡ c → goes s ms ≡ goes z (lead c ++ ms)
  first_goes b c s t z ms e f g = ap (λ x. goes x ms) (first_is b c s t z e f g) ∙ led_goes c z ms
