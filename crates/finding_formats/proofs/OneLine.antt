-- A formatted finding has a line feed only at its end.
use Rattle.std.proofs.Common.{◌≡◌, ℕ, zero, suc, ◌+◌, ◌-◌, ◌/◌, ◌%◌, ◌<◌, ◌==◌, not, Bool, true, false, cond, List, [], ◌∷◌, ◌++◌, refl, sym, ap, ◌∙◌, arith, append_assoc}
use Rattle.std.specs.Prelude.{◌||◌, ◌&&◌, nat_lt, nat_le, codes, Option, Some, None, ⊤}
use Rattle.std.specs.Borrow.{Bor}
use Rattle.std.specs.Fmt.{decimal, digit_glyph, digits, digits_onto}
use Rattle.std.specs.List.{list_all}
use Rattle.std.proofs.lemmas.Bool.{ne_eqb, eqb-true, ltb-false, leb-true, and_parts, or_cases}
use Rattle.std.proofs.lemmas.List.Concat.{flat_map-cons}
use Rattle.std.proofs.lemmas.List.Folds.{list_all-append}
use Rattle.std.proofs.Common.{inl, inr}
use Rattle.dns_lexer.specs.declared.position.Position.{Position}
use Rattle.finding_codes.specs.declared.code.Code.{Code}
use Rattle.finding_codes.specs.declared.code.Code.TheVariants.{OpenQuote}
use Rattle.finding_codes.specs.declared.code.Severity.{Severity}
use Rattle.finding_codes.specs.declared.code.Severity.TheVariants.{Error, Warning}
use Rattle.finding_formats.specs.declared.finding.Finding.{Finding}
use Rattle.finding_formats.specs.declared.escape.Context.TheVariants.{Json}
use Rattle.finding_codes.specs.Code.{code_name, severity_name}
use Rattle.finding_codes.specs.Table.{finding_rows, first_rows, later_rows}
use Rattle.finding_formats.specs.Lines.{FindingsAreLines, IsOneLine, IsUpToOneLine, bold, bracketed_code, finding_line, further_line, opened_text, place_text, position_text, severity_style, severity_text, style_if, subject_part, subject_text, unstyled}
use Rattle.finding_formats.specs.Escape.{escaped}
use Rattle.finding_formats.specs.Json.{json_line}
use Rattle.finding_formats.specs.Pieces.{number_if, opening_text, parts_text, text_if}
use Rattle.finding_formats.proofs.Texts.{no_controls}
use Rattle.zone_format.specs.Place.{begins_character}
use Rattle.finding_formats.specs.Shown.{is_control, shown_octet, shown_text}

abbrev no_feed : ℕ → Bool
no_feed c = not (c == 10)

-- no octet is a line feed
abbrev HasNone : List ℕ → Type 0
HasNone xs = list_all no_feed xs ≡ true

both : (xs ys : List ℕ) → HasNone xs → HasNone ys → HasNone (xs ++ ys)
both xs ys h k = list_all-append no_feed xs ys ∙ ap (λ b. b && list_all no_feed ys) h ∙ k

one_more : (c : ℕ) (cs : List ℕ) → no_feed c ≡ true → HasNone cs → HasNone (c ∷ cs)
one_more c cs h k = ap (λ b. b && list_all no_feed cs) h ∙ k

either : (b : Bool) (xs ys : List ℕ) → HasNone xs → HasNone ys → HasNone (cond b xs ys)
either true xs ys h k = h
either false xs ys h k = k

above : (c : ℕ) → 10 < c → no_feed c ≡ true
above c h = ap not (ne_eqb c 10 (λ e. omega (arith, h, e)))

glyph_by : (b : Bool) (d : ℕ) → no_feed (cond b (48 + d) (87 + d)) ≡ true
glyph_by true d = above (48 + d) (omega arith)
glyph_by false d = above (87 + d) (omega arith)

digits_none : (k n : ℕ) (acc : List ℕ) → HasNone acc → HasNone (digits_onto k 10 false n acc)
digits_none zero n acc h = h
digits_none (suc k) n acc h =
    let more : HasNone (digit_glyph false (n % 10) ∷ acc) = one_more (digit_glyph false (n % 10)) acc (glyph_by (nat_lt (n % 10) 10) (n % 10)) h in
    either (n / 10 == 0) (digit_glyph false (n % 10) ∷ acc) (digits_onto k 10 false (n / 10) (digit_glyph false (n % 10) ∷ acc)) more (digits_none k (n / 10) (digit_glyph false (n % 10) ∷ acc) more)

decimal_none : (n : ℕ) → HasNone (decimal n)
unfolding digits
decimal_none n = digits_none 64 n [] refl

-- in octets of files as they are shown
not_control : (b d : Bool) (c : ℕ) → b ≡ nat_lt c 32 → (b || d) ≡ false → no_feed c ≡ true
not_control true d c e h = cc
not_control false d c e h = above c (omega (arith, ltb-false c 32 (sym e)))

shown_by : (t u v w : Bool) (c : ℕ) → (u ≡ false → no_feed c ≡ true) → HasNone (cond t (32 ∷ []) (cond u (63 ∷ []) (cond v (c ∷ []) (cond w (63 ∷ []) []))))
shown_by true u v w c f = refl
shown_by false true v w c f = refl
shown_by false false true w c f = one_more c [] (f refl) refl
shown_by false false false true c f = refl
shown_by false false false false c f = refl

shown_none : (k : Bool) (xs : List ℕ) → HasNone (shown_text k xs)
shown_none k [] = refl
shown_none k (c ∷ cs) =
    let one : HasNone (shown_octet k c) = shown_by (c == 9) (is_control c) (nat_lt c 128 || k) (begins_character c) c (not_control (nat_lt c 32) (c == 127) c refl) in
    ap (list_all no_feed) (flat_map-cons (shown_octet k) c cs) ∙ both (shown_octet k c) (shown_text k cs) one (shown_none k cs)

-- in texts without control octets
high_none : (xs : List ℕ) → list_all (λ c. nat_le 32 c) xs ≡ true → HasNone xs
high_none [] h = refl
high_none (c ∷ cs) h =
    let parts = and_parts (nat_le 32 c) (list_all (λ d. nat_le 32 d) cs) h in
    one_more c cs (above c (omega (arith, leb-true 32 c parts.0))) (high_none cs parts.1)

json_none : (xs : List ℕ) → HasNone (escaped Json xs)
json_none xs = high_none (escaped Json xs) (no_controls Json xs)

-- in the parts of a line
position_none : (p : Position) → HasNone (position_text p)
position_none p = both (decimal p.line ++ codes ":") (decimal p.column) (both (decimal p.line) (codes ":") (decimal_none p.line) refl) (decimal_none p.column)

style_none : (b : Bool) (xs : List ℕ) → HasNone xs → HasNone (style_if b xs)
style_none b xs h = either b xs [] h refl

severity_none : (s : Severity) → HasNone (severity_name s)
severity_none Error = refl
severity_none Warning = refl

severity_style_none : (s : Severity) → HasNone (severity_style s)
severity_style_none Error = refl
severity_style_none Warning = refl

opened_none : (o : Option Position) → HasNone (opened_text o)
opened_none None = refl
opened_none (Some p) = both (codes ", opened at ") (position_text p) refl (position_none p)

place_none : (b : Bool) (file : List ℕ) (p : Position) → HasNone (place_text b file p)
place_none b file p =
    let named : HasNone (style_if b bold ++ shown_text true file) = both (style_if b bold) (shown_text true file) (style_none b bold refl) (shown_none true file) in
    let colon : HasNone ((style_if b bold ++ shown_text true file) ++ codes ":") = both (style_if b bold ++ shown_text true file) (codes ":") named refl in
    let at : HasNone (((style_if b bold ++ shown_text true file) ++ codes ":") ++ position_text p) = both ((style_if b bold ++ shown_text true file) ++ codes ":") (position_text p) colon (position_none p) in
    let told : HasNone ((((style_if b bold ++ shown_text true file) ++ codes ":") ++ position_text p) ++ codes ":") = both (((style_if b bold ++ shown_text true file) ++ codes ":") ++ position_text p) (codes ":") at refl in
    both ((((style_if b bold ++ shown_text true file) ++ codes ":") ++ position_text p) ++ codes ":") (style_if b unstyled) told (style_none b unstyled refl)

weight_none : (b : Bool) (s : Severity) → HasNone (severity_text b s)
weight_none b s =
    let styled : HasNone (codes " " ++ style_if b (severity_style s)) = both (codes " ") (style_if b (severity_style s)) refl (style_none b (severity_style s) (severity_style_none s)) in
    let named : HasNone ((codes " " ++ style_if b (severity_style s)) ++ severity_name s) = both (codes " " ++ style_if b (severity_style s)) (severity_name s) styled (severity_none s) in
    let colon : HasNone (((codes " " ++ style_if b (severity_style s)) ++ severity_name s) ++ codes ":") = both ((codes " " ++ style_if b (severity_style s)) ++ severity_name s) (codes ":") named refl in
    let plain : HasNone ((((codes " " ++ style_if b (severity_style s)) ++ severity_name s) ++ codes ":") ++ style_if b unstyled) =
    both (((codes " " ++ style_if b (severity_style s)) ++ severity_name s) ++ codes ":") (style_if b unstyled) colon (style_none b unstyled refl) in
    both ((((codes " " ++ style_if b (severity_style s)) ++ severity_name s) ++ codes ":") ++ style_if b unstyled) (codes " ") plain refl

code_none : (c : Code) → HasNone (code_name c)
unfolding finding_rows first_rows later_rows
code_none OpenQuote = refl
code_none _ = refl

bracketed_none : (c : Code) → HasNone (bracketed_code c)
bracketed_none c = both (codes " [" ++ code_name c) (codes "]") (both (codes " [") (code_name c) refl (code_none c)) refl

part_none : (part : Option (Bor (List ℕ))) (after : List ℕ) → HasNone after → HasNone (subject_part part after)
part_none None after h = refl
part_none (Some part) after h = both (shown_text true part.now) after (shown_none true part.now) h

subject_none : (owner rtype : Option (Bor (List ℕ))) → HasNone (subject_text owner rtype)
subject_none owner None = part_none owner (codes ": ") refl
subject_none owner (Some rtype) = both (subject_part owner (codes " ")) (shown_text true rtype.now ++ codes ": ") (part_none owner (codes " ") refl) (both (shown_text true rtype.now) (codes ": ") (shown_none true rtype.now) refl)

pub finding_is_line : (b : Bool) (f : Finding) → IsOneLine (finding_line b f)
finding_is_line b f =
    let place : List ℕ = place_text b f.file.now f.position ++ severity_text b f.severity in
    let weighed : HasNone place = both (place_text b f.file.now f.position) (severity_text b f.severity) (place_none b f.file.now f.position) (weight_none b f.severity) in
    let subject : List ℕ = place ++ subject_text f.owner f.rtype in
    let named : HasNone subject = both place (subject_text f.owner f.rtype) weighed (subject_none f.owner f.rtype) in
    let message : List ℕ = subject ++ shown_text true f.message.now in
    let told : HasNone message = both subject (shown_text true f.message.now) named (shown_none true f.message.now) in
    let why : List ℕ = message ++ opened_text f.opened in
    let opened : HasNone why = both message (opened_text f.opened) told (opened_none f.opened) in
    (why ++ bracketed_code f.code, refl, both why (bracketed_code f.code) opened (bracketed_none f.code))

-- and of a help or a note
pub further_is_line : (word : List ℕ) (text : Option (Bor (List ℕ))) → HasNone word → IsUpToOneLine (further_line word text)
further_is_line word None h = inl refl
further_is_line word (Some text) h = inr (word ++ shown_text true text.now, refl, both word (shown_text true text.now) h (shown_none true text.now))

pub findings_are_lines : FindingsAreLines
findings_are_lines = record { first = finding_is_line; help = λ text. further_is_line (codes "help: ") text refl; note = λ text. further_is_line (codes "note: ") text refl }

-- in the parts of an object
json_opened_none : (line column : List ℕ) (o : Option Position) → HasNone line → HasNone column → HasNone (opening_text line column o)
json_opened_none line column None h k = refl
json_opened_none line column (Some p) h k =
    both (line ++ decimal p.line) (column ++ decimal p.column) (both line (decimal p.line) h (decimal_none p.line)) (both column (decimal p.column) k (decimal_none p.column))

number_none : (before : List ℕ) (n : Option ℕ) → HasNone before → HasNone (number_if before n)
number_none before None h = refl
number_none before (Some n) h = both before (decimal n) h (decimal_none n)

text_none : (before : List ℕ) (o : Option (Bor (List ℕ))) → HasNone before → HasNone (text_if Json before o [])
text_none before None h = refl
text_none before (Some t) h = both before (escaped Json t.now ++ []) h (both (escaped Json t.now) [] (json_none t.now) refl)

abbrev AllNone : List (List ℕ) → Type 0
AllNone [] = ⊤
AllNone (part ∷ parts) = HasNone part × AllNone parts

-- parts without a line feed, and the end of an object
ended : (parts : List (List ℕ)) → AllNone parts → IsOneLine (parts_text (parts ++ codes "\"}\n" ∷ []))
ended [] h = (codes "\"}", refl, refl)
ended (part ∷ parts) h =
    let rest = ended parts h.1 in
    (part ++ rest.0, ap (λ l. part ++ l) rest.1 ∙ sym (append_assoc part rest.0 (10 ∷ [])), both part rest.0 h.0 rest.2)

pub object_is_line : (f : Finding) → IsOneLine (json_line f)
object_is_line f =
    ended (
    codes "{\"file\":\"" ∷ escaped Json f.file.now
    ∷ codes "\",\"line\":" ∷ decimal f.position.line ∷ codes ",\"column\":" ∷ decimal f.position.column ∷ codes ",\"end_column\":" ∷ decimal f.end_column
    ∷ opening_text (codes ",\"opened_line\":") (codes ",\"opened_column\":") f.opened
    ∷ number_if (codes ",\"generate\":") f.generate
    ∷ codes ",\"severity\":\"" ∷ severity_name f.severity ∷ codes "\",\"code\":\"" ∷ escaped Json (code_name f.code)
    ∷ text_if Json (codes "\",\"owner\":\"") f.owner [] ∷ text_if Json (codes "\",\"type\":\"") f.rtype []
    ∷ codes "\",\"message\":\"" ∷ escaped Json f.message.now ∷ text_if Json (codes "\",\"help\":\"") f.help [] ∷ [])
    (refl, (json_none f.file.now, (refl, (decimal_none f.position.line, (refl, (decimal_none f.position.column, (refl, (decimal_none f.end_column, (json_opened_none (codes ",\"opened_line\":") (codes ",\"opened_column\":") f.opened refl refl, (number_none (codes ",\"generate\":") f.generate refl, (refl, (severity_none f.severity, (refl, (json_none (code_name f.code), (text_none (codes "\",\"owner\":\"") f.owner refl, (text_none (codes "\",\"type\":\"") f.rtype refl, (refl, (json_none f.message.now, (text_none (codes "\",\"help\":\"") f.help refl, tt)))))))))))))))))))
