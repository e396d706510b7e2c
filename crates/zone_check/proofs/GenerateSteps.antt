-- The parts of a text of `$GENERATE`, up to one that ends a name in a dot.
use Rattle.std.proofs.Common.{◌≡◌, ℕ, zero, suc, ◌+◌, ◌-◌, ◌<◌, ◌≤◌, Bool, true, false, if◌then◌else◌, List, [], ◌∷◌, Option, Some, None, Result, Ok, Err, length, take, drop, map, get_or, slice_get, nat_lt, length-drop, drop-drop, le-ltb, refl, sym, ap, subst, ◌∙◌, arith}
use Rattle.std.proofs.lemmas.List.{drop_all, length-map, take_rest}
use Rattle.dns_lexer.specs.EntryTokens.{TokenSeen, token_seen}
use Rattle.dns_lexer.specs.declared.entry_tokens.EntryToken.{EntryToken}
use Rattle.zone_generate.specs.Parts.{offset_after, part_of}
use Rattle.zone_generate.specs.declared.error.GenerateErrorKind.{GenerateErrorKind}
use Rattle.zone_generate.specs.declared.part.Part.{Part}
use Rattle.zone_generate.specs.declared.part.ReadPart.{ReadPart}
use Rattle.zone_check.specs.declared.generate_findings.DotPart.{DotPart}
use Rattle.zone_check.specs.GenerateFindings.{IsDotIfWhole, IsDotInWords, IsDotOfRange, IsGenerateFinding, blanks_after, dot_from, dot_or_later, is_blank_part, is_dot_part}
use Rattle.zone_check.specs.declared.finding.EntryFinding.{EntryFinding}
use Rattle.zone_check.proofs.TokenLists.{seen_at}

-- the parts from an offset on decide which part is the first
pub record DotLeft (last n : ℕ) (q o : Bool) (text : List ℕ) (at blanks : ℕ) : Type 0 where
  pub most : ℕ
  pub bound : length (drop at text) ≤ most
  pub same : dot_from (length text) last n q false 0 0 text ≡ dot_from most last n q o at blanks (drop at text)

pub dots_begin : (last n : ℕ) (q : Bool) (text : List ℕ) → DotLeft last n q false text 0 0
dots_begin last n q text = record { most = length text; bound = omega arith; same = refl }

some_left : (text : List ℕ) (at : ℕ) → at < length text → 0 < length (drop at text)
some_left text at lt = omega (arith, lt, length-drop at text)

none_left : (most last n : ℕ) (q o : Bool) (at blanks : ℕ) → dot_from most last n q o at blanks [] ≡ None
none_left zero last n q o at blanks = refl
none_left (suc most) last n q o at blanks = refl

dot_step : (most last n : ℕ) (q o : Bool) (at blanks : ℕ) (text : List ℕ) (r : Result ReadPart GenerateErrorKind) → 0 < length text → part_of last q o text ≡ r
    → dot_from (suc most) last n q o at blanks text
    ≡ dot_or_later n at blanks text r (λ p. dot_from most last n q (offset_after o p.part) (at + p.len) (blanks_after blanks p.part) (drop p.len text))
dot_step most last n q o at blanks [] r some is = absurd (omega (arith, some))
dot_step most last n q o at blanks (c ∷ text) r some is =
    ap (λ r. dot_or_later n at blanks (c ∷ text) r (λ p. dot_from most last n q (offset_after o p.part) (at + p.len) (blanks_after blanks p.part) (drop p.len (c ∷ text)))) is

module _ (last n : ℕ) (q o : Bool) (text : List ℕ) (at blanks : ℕ) (lt : at < length text) where
  abbrev all_dots : Option DotPart
  all_dots = dot_from (length text) last n q false 0 0 text

  abbrev later_dot : ℕ → ReadPart → Option DotPart
  later_dot most p = dot_from most last n q (offset_after o p.part) (at + p.len) (blanks_after blanks p.part) (drop p.len (drop at text))

  next_by : (p : ReadPart) → 0 < p.len → part_of last q o (drop at text) ≡ Ok p → is_dot_part n p.part (drop (at + p.len) text) ≡ false
      → (most : ℕ) → length (drop at text) ≤ most → all_dots ≡ dot_from most last n q o at blanks (drop at text)
      → DotLeft last n q (offset_after o p.part) text (at + p.len) (blanks_after blanks p.part)
  next_by p some is none zero bound same = absurd (omega (arith, bound, some_left text at lt))
  next_by p some is none (suc most) bound same =
      let next : drop p.len (drop at text) ≡ drop (at + p.len) text = drop-drop p.len at text in
      record {
        most = most;
        bound = omega (arith, bound, some, length-drop at text, length-drop (at + p.len) text);
        same = same ∙ dot_step most last n q o at blanks (drop at text) (Ok p) (some_left text at lt) is
            ∙ ap (λ l. if is_dot_part n p.part l then Some (record { at = at; len = p.len; blanks = blanks }) else later_dot most p) next
            ∙ ap (λ b. if b then Some (record { at = at; len = p.len; blanks = blanks }) else later_dot most p) none
            ∙ ap (λ l. dot_from most last n q (offset_after o p.part) (at + p.len) (blanks_after blanks p.part) l) next;
      }

  pub dots_next : (p : ReadPart) → 0 < p.len → part_of last q o (drop at text) ≡ Ok p → is_dot_part n p.part (drop (at + p.len) text) ≡ false
      → DotLeft last n q o text at blanks → DotLeft last n q (offset_after o p.part) text (at + p.len) (blanks_after blanks p.part)
  dots_next p some is none h = next_by p some is none h.most h.bound h.same

  found_by : (p : ReadPart) → part_of last q o (drop at text) ≡ Ok p → is_dot_part n p.part (drop (at + p.len) text) ≡ true
      → (most : ℕ) → length (drop at text) ≤ most → all_dots ≡ dot_from most last n q o at blanks (drop at text)
      → Some (record { at = at; len = p.len; blanks = blanks }) ≡ all_dots
  found_by p is it zero bound same = absurd (omega (arith, bound, some_left text at lt))
  found_by p is it (suc most) bound same =
      let next : drop p.len (drop at text) ≡ drop (at + p.len) text = drop-drop p.len at text in
      sym (same ∙ dot_step most last n q o at blanks (drop at text) (Ok p) (some_left text at lt) is
      ∙ ap (λ l. if is_dot_part n p.part l then Some (record { at = at; len = p.len; blanks = blanks }) else later_dot most p) next
      ∙ ap (λ b. if b then Some (record { at = at; len = p.len; blanks = blanks }) else later_dot most p) it)

  pub dots_found : (p : ReadPart) → part_of last q o (drop at text) ≡ Ok p → is_dot_part n p.part (drop (at + p.len) text) ≡ true
      → DotLeft last n q o text at blanks → Some (record { at = at; len = p.len; blanks = blanks }) ≡ all_dots
  dots_found p is it h = found_by p is it h.most h.bound h.same

  rejected_by : (e : GenerateErrorKind) → part_of last q o (drop at text) ≡ Err e → (most : ℕ) → length (drop at text) ≤ most
      → all_dots ≡ dot_from most last n q o at blanks (drop at text) → None ≡ all_dots
  rejected_by e is zero bound same = absurd (omega (arith, bound, some_left text at lt))
  rejected_by e is (suc most) bound same = sym (same ∙ dot_step most last n q o at blanks (drop at text) (Err e) (some_left text at lt) is)

  pub dots_rejected : (e : GenerateErrorKind) → part_of last q o (drop at text) ≡ Err e → DotLeft last n q o text at blanks → None ≡ all_dots
  dots_rejected e is h = rejected_by e is h.most h.bound h.same

pub dots_ended : (last n : ℕ) (q o : Bool) (text : List ℕ) (at blanks : ℕ) → length text ≤ at → DotLeft last n q o text at blanks
    → None ≡ dot_from (length text) last n q false 0 0 text
dots_ended last n q o text at blanks end h =
    sym (h.same ∙ ap (λ l. dot_from h.most last n q o at blanks l) (drop_all at text end) ∙ none_left h.most last n q o at blanks)

if_after : (b : Bool) (blanks at len : ℕ) → blanks ≤ at → 0 < len → (if b then blanks + 1 else blanks) ≤ at + len
if_after true blanks at len le some = omega (arith, le, some)
if_after false blanks at len le some = omega (arith, le)

-- a part has octets, and is at most one blank
pub blanks_within : (p : ReadPart) (blanks at : ℕ) → blanks ≤ at → 0 < p.len → blanks_after blanks p.part ≤ at + p.len
blanks_within p blanks at le some = if_after (is_blank_part p.part) blanks at p.len le some

pub hit_read : (n : ℕ) (part : Part) (text : List ℕ) (next : ℕ) (b c : Bool) → b ≡ is_dot_part n part (take (length text - next) (drop next text)) → b ≡ c → is_dot_part n part (drop next text) ≡ c
hit_read n part text next b c value is = sym (ap (is_dot_part n part) (take_rest text next)) ∙ sym value ∙ is

-- ---- the words of a directive

seen_before_end : (tokens : List EntryToken) (back : ℕ) (d : EntryToken) → 0 < back → back ≤ length tokens
    → slice_get (map token_seen tokens) (length (map token_seen tokens) - back) ≡ Some (token_seen (get_or tokens (length tokens - back) d))
seen_before_end tokens back d some le = ap (λ n. slice_get (map token_seen tokens) (n - back)) (length-map tokens token_seen) ∙ seen_at tokens (length tokens - back) d (omega (arith, some, le))

pub whole_words : (tokens : List EntryToken) (a b c d : EntryToken) (f : Option EntryFinding) → 5 ≤ length tokens
    → IsDotOfRange (token_seen (get_or tokens 1 a)) (token_seen (get_or tokens 2 b)) (token_seen (get_or tokens (length tokens - 2) c)) (token_seen (get_or tokens (length tokens - 1) d)) f
    → IsGenerateFinding (map token_seen tokens) f
whole_words tokens a b c d f whole h =
    let seen : List TokenSeen = map token_seen tokens in
    let is : nat_lt (length seen) 5 ≡ false = ap (λ n. nat_lt n 5) (length-map tokens token_seen) ∙ le-ltb (length tokens) 5 whole in
    let rtype : Option TokenSeen = slice_get seen (length seen - 2) in
    let rdata : Option TokenSeen = slice_get seen (length seen - 1) in
    subst (λ b. IsDotIfWhole b seen f) (sym is)
    (subst (λ w. IsDotInWords w (slice_get seen 2) rtype rdata f) (sym (seen_at tokens 1 a (omega (arith, whole))))
    (subst (λ w. IsDotInWords (Some (token_seen (get_or tokens 1 a))) w rtype rdata f) (sym (seen_at tokens 2 b (omega (arith, whole))))
    (subst (λ w. IsDotInWords (Some (token_seen (get_or tokens 1 a))) (Some (token_seen (get_or tokens 2 b))) w rdata f) (sym (seen_before_end tokens 2 c (omega arith) (omega (arith, whole))))
    (subst (λ w. IsDotInWords (Some (token_seen (get_or tokens 1 a))) (Some (token_seen (get_or tokens 2 b))) (Some (token_seen (get_or tokens (length tokens - 2) c))) w f) (sym (seen_before_end tokens 1 d (omega arith) (omega (arith, whole)))) h))))
