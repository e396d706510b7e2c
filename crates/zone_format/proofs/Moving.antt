-- Marks that were written up to an offset.
use Rattle.std.proofs.Common.{◌≡◌, ℕ, suc, ◌+◌, ◌-◌, ◌<◌, ◌≤◌, Bool, true, false, ◌&&◌, ◌==◌, List, [], ◌∷◌, ◌++◌, length, take, drop, get_or, refl, sym, ap, ◌∙◌, subst, arith, append-nil}
use Rattle.std.specs.Prelude.{if◌then◌else◌}
use Rattle.std.specs.List.{flat_map}
use Rattle.std.proofs.lemmas.Bool.{ne_eqb}
use Rattle.std.proofs.lemmas.Grind.{flat_map-append}
use Rattle.std.proofs.lemmas.List.{length-take}
use Rattle.std.proofs.Math.Seq.{take-suc}
use Rattle.dns_lexer.specs.Pieces.{between}
use Rattle.dns_lexer.specs.Run.{is_blank}
use Rattle.dns_lexer.specs.declared.pieces.Span.{Span}
use Rattle.dns_lexer.specs.CursorStates.{blank_at}
use Rattle.zone_format.specs.declared.columns.Turn.{Turn}
use Rattle.zone_format.specs.declared.columns.Turn.TheVariants.{Edge, Led, Inside, Owned, Head, Typed, Rest}
use Rattle.zone_format.specs.declared.format.Progress.{Progress}
use Rattle.zone_format.specs.declared.line_state.LineState.{LineState}
use Rattle.zone_format.specs.Columns.{moved_in}
use Rattle.zone_format.specs.Form.{led_turn}
use Rattle.zone_format.specs.Marks.{Mark, Token, Note, Open, Close, Feed, gap_mark, gap_marks, lead, shortened}
use Rattle.zone_format.specs.Writing.{Accepts, Advances, LineFits, WritesMarks, Moves, PushesNote, PushesToken, Reaches, WritesEnd, WritesNote, WritesToken, accepts, led, state_after}
use Rattle.zone_format.proofs.Going.{accepts_on, goes_on, lead_accepts, lead_goes, lead_stands, note_accepts, note_goes, stands_on, token_accepts, token_goes}

-- octets between two pieces, one by one
gap_more : (gap : List ℕ) (i : ℕ) → i < length gap → flat_map gap_mark (take (i + 1) gap) ≡ flat_map gap_mark (take i gap) ++ gap_mark (get_or gap i 0)
gap_more gap i h =
    let n : i + 1 ≡ suc i = omega arith in
    ap (λ k. flat_map gap_mark (take k gap)) n ∙ ap (flat_map gap_mark) (take-suc gap i 0 h) ∙ flat_map-append gap_mark (take i gap) (get_or gap i 0 ∷ [])
    ∙ ap (λ l. flat_map gap_mark (take i gap) ++ l) (append-nil (gap_mark (get_or gap i 0)))

pub gap_turn : (gap old mid new : List ℕ) (s t u : LineState) (i : ℕ) → i < length gap → Moves (flat_map gap_mark (take i gap)) old s i mid t → Moves (gap_mark (get_or gap i 0)) mid t 1 new u
    → Moves (flat_map gap_mark (take (i + 1) gap)) old s (i + 1) new u
gap_turn gap old mid new s t u i h a b =
    let xs = flat_map gap_mark (take i gap) in
    let ys = gap_mark (get_or gap i 0) in
    subst (λ l. Moves l old s (i + 1) new u) (sym (gap_more gap i h)) (record {
      goes = goes_on xs ys old mid new s t u a.goes b.goes;
      accepts = accepts_on xs ys s t u a.accepts b.accepts;
      line_state = stands_on xs ys s t u a.line_state b.line_state;
      fits = b.fits;
      depth = omega (arith, a.depth, b.depth);
    })

no_blank : (x c : ℕ) → c ≡ x → is_blank x ≡ false → is_blank c ≡ true → ⊥
no_blank x c e f h = let w : false ≡ true = sym f ∙ ap is_blank (sym e) ∙ h in cc

blank_mark : (c : ℕ) → is_blank c ≡ true → gap_mark c ≡ []
blank_mark c h =
    ap (λ x. if x then Open ∷ [] else if c == 41 then Close ∷ [] else if c == 10 then Feed ∷ [] else []) (ne_eqb c 40 (λ e. no_blank 40 c e refl h))
    ∙ ap (λ x. if x then Close ∷ [] else if c == 10 then Feed ∷ [] else []) (ne_eqb c 41 (λ e. no_blank 41 c e refl h))
    ∙ ap (λ x. if x then Feed ∷ [] else []) (ne_eqb c 10 (λ e. no_blank 10 c e refl h))

stays : (octets : List ℕ) (s : LineState) → LineFits octets s → Moves [] octets s 1 octets s
stays octets s f = record { goes = λ more. refl; accepts = λ more. refl; line_state = refl; fits = f; depth = omega arith }

pub gap_blank : (gap old mid : List ℕ) (s t : LineState) (i : ℕ) → i < length gap → is_blank (get_or gap i 0) ≡ true → Moves (flat_map gap_mark (take i gap)) old s i mid t → Moves (flat_map gap_mark (take (i + 1) gap)) old s (i + 1) mid t
gap_blank gap old mid s t i h b a =
    gap_turn gap old mid mid s t t i h a (subst (λ ms. Moves ms mid t 1 mid t) (sym (blank_mark (get_or gap i 0) b)) (stays mid t a.fits))

-- the octets between two pieces, followed by something
pub advanced : (octets : List ℕ) (ms : List Mark) (old mid new : List ℕ) (p : Progress) (s to : ℕ) (tied : Bool) (t u : LineState) → Moves (gap_marks octets p.at s) old p.line_state (length (between octets p.at s)) mid t
    → WritesMarks ms mid t new u → Accepts ms t u → u ≡ state_after t ms → LineFits new u → u.depth ≡ t.depth → Reaches octets p → p.at ≤ s → s ≤ to → to ≤ length octets
    → Advances octets (gap_marks octets p.at s ++ ms) old p to tied new (record { line_state = u; at = to; is_token = tied })
advanced octets ms old mid new p s to tied t u m g a k f d r o some w =
    let gs = gap_marks octets p.at s in
    let short : length (between octets p.at s) ≤ s - p.at = omega (arith, length-take (s - p.at) (drop p.at octets)) in
    record {
      goes = goes_on gs ms old mid new p.line_state t u m.goes g;
      accepts = accepts_on gs ms p.line_state t u m.accepts a;
      line_state = stands_on gs ms p.line_state t u m.line_state k;
      fits = f;
      reaches = record { within = w; depth = omega (arith, d, m.depth, r.depth, short, o, some) };
      at = refl;
      is_token = refl;
    }

pub writes_token : (octets old mid new x : List ℕ) (glued : Bool) (p : Progress) (span : Span) (t u : LineState) → Moves (gap_marks octets p.at span.start) old p.line_state (length (between octets p.at span.start)) mid t
    → x ≡ between octets span.start span.end → glued ≡ (p.is_token && (span.start == p.at)) → accepts t x ≡ true → PushesToken mid t glued x new u
    → Reaches octets p → p.at ≤ span.start → span.start ≤ span.end → span.end ≤ length octets → WritesToken octets p span old new (record { line_state = u; at = span.end; is_token = true })
writes_token octets old mid new x glued p span t u m e g a k r o some w =
    let all = advanced octets (Token glued x ∷ []) old mid new p span.start span.end true t u m (token_goes mid t glued x new u k) (token_accepts mid t glued x new u a k) k.line_state k.fits (ap (λ (v : LineState). v.depth) k.line_state) r o some w in
    subst (λ b. Advances octets (gap_marks octets p.at span.start ++ (Token b (between octets span.start span.end) ∷ [])) old p span.end true new (record { line_state = u; at = span.end; is_token = true })) g
    (subst (λ l. Advances octets (gap_marks octets p.at span.start ++ (Token glued l ∷ [])) old p span.end true new (record { line_state = u; at = span.end; is_token = true })) e all)

pub writes_note : (octets old mid new x : List ℕ) (p : Progress) (span : Span) (t u : LineState) → Moves (gap_marks octets p.at span.start) old p.line_state (length (between octets p.at span.start)) mid t
    → x ≡ shortened (between octets span.start span.end) → PushesNote mid t x new u
    → Reaches octets p → p.at ≤ span.start → span.start ≤ span.end → span.end ≤ length octets → WritesNote octets p span old new (record { line_state = u; at = span.end; is_token = false })
writes_note octets old mid new x p span t u m e k r o some w =
    let all = advanced octets (Note x ∷ []) old mid new p span.start span.end false t u m (note_goes mid t x new u k) (note_accepts mid t x new u k) k.line_state k.fits (ap (λ (v : LineState). v.depth) k.line_state) r o some w in
    subst (λ l. Advances octets (gap_marks octets p.at span.start ++ (Note l ∷ [])) old p span.end false new (record { line_state = u; at = span.end; is_token = false })) e all

same_moved : (t : Turn) → moved_in (led_turn t) ≡ moved_in t
same_moved Edge = refl
same_moved Led = refl
same_moved Inside = refl
same_moved Owned = refl
same_moved (Head m a b) = refl
same_moved (Typed m) = refl
same_moved Rest = refl

led_fits : (b : Bool) (octets : List ℕ) (t u : LineState) → u ≡ (if b then led t else t) → LineFits octets t → LineFits octets u
led_fits true octets t u e f = subst (LineFits octets) (sym e) (record { moved = omega (arith, same_moved t.turn, f.moved); few = f.few })
led_fits false octets t u e f = subst (LineFits octets) (sym e) f

led_depth : (b : Bool) (t u : LineState) → u ≡ (if b then led t else t) → u.depth ≡ t.depth
led_depth true t u e = ap (λ (v : LineState). v.depth) e
led_depth false t u e = ap (λ (v : LineState). v.depth) e

pub writes_end : (octets old mid : List ℕ) (b : Bool) (p : Progress) (at : ℕ) (t u : LineState) → Moves (gap_marks octets p.at at) old p.line_state (length (between octets p.at at)) mid t
    → b ≡ blank_at octets at → u ≡ (if b then led t else t) → Reaches octets p → p.at ≤ at → at ≤ length octets → WritesEnd octets p at old mid (record { line_state = u; at = at; is_token = false })
writes_end octets old mid b p at t u m e k r o w =
    let all = advanced octets (lead b) old mid mid p at at false t u m (lead_goes b mid t u k) (lead_accepts b t u k) (lead_stands b t u k) (led_fits b mid t u k m.fits) (led_depth b t u k) r o (omega arith) w in
    subst (λ x. Advances octets (gap_marks octets p.at at ++ lead x) old p at false mid (record { line_state = u; at = at; is_token = false })) e all
