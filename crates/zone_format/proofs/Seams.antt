-- What was written of blocks in a row.
use Rattle.std.proofs.Common.{◌≡◌, ℕ, ◌+◌, ◌-◌, false, List, [], ◌∷◌, ◌++◌, refl, sym, ap, ◌∙◌, inl, append-nil, append_assoc}
use Rattle.dns_symbol.specs.Characters.{open_parenthesis, close_parenthesis}
use Rattle.zone_format.specs.declared.columns.Turn.TheVariants.{Edge}
use Rattle.zone_format.specs.declared.line_state.Above.{Above}
use Rattle.zone_format.specs.declared.line_state.Above.TheVariants.{Nothing, Line, Gap}
use Rattle.zone_format.specs.declared.line_state.FormatState.{FormatState}
use Rattle.zone_format.specs.declared.line_state.LineState.{LineState}
use Rattle.zone_format.specs.Blocks.{FormatsEntries, FormatsLast, FormedTo, WritesBelow, below_seam, first_seam, resting, seam_of}
use Rattle.zone_format.specs.Form.{form, forms, lines}
use Rattle.zone_format.specs.Formats.{Formats}
use Rattle.zone_format.specs.Marks.{Mark, Token, Note, Open, Close, Feed, Lead}
use Rattle.zone_format.specs.Refusal.{has_form, may_follow}
use Rattle.zone_format.specs.Writing.{accepts_from, last_line_end, fed, led, note_before, parenthesis_before, pushed_note, pushed_parenthesis, pushed_token, state_after, token_before, written_from}
use Rattle.zone_format.proofs.Accepted.{accepted, settled}
use Rattle.zone_format.proofs.Formed.{both, from_start}
use Rattle.zone_format.proofs.Going.{accepts_parted}
use Rattle.zone_format.proofs.Joined.{entries_join, entries_rest, marks_join, none_marked}

-- what is written of marks before others
abbrev written_to : LineState → List Mark → List ℕ
written_to s [] = []
written_to s (Token glued t ∷ ms) = token_before s glued t ++ (t ++ written_to (pushed_token s glued t) ms)
written_to s (Note t ∷ ms) = note_before s t ++ (t ++ written_to (pushed_note s t) ms)
written_to s (Open ∷ ms) = parenthesis_before s ++ (open_parenthesis ∷ written_to (pushed_parenthesis s (s.depth + 1)) ms)
written_to s (Close ∷ ms) = parenthesis_before s ++ (close_parenthesis ∷ written_to (pushed_parenthesis s (s.depth - 1)) ms)
written_to s (Feed ∷ ms) = last_line_end s ++ written_to (fed s) ms
written_to s (Lead ∷ ms) = written_to (led s) ms

two : (a b c d e : List ℕ) → d ≡ c ++ e → a ++ (b ++ d) ≡ (a ++ (b ++ c)) ++ e
two a b c d e h = ap (λ l. a ++ (b ++ l)) h ∙ ap (λ l. a ++ l) (sym (append_assoc b c e)) ∙ sym (append_assoc a (b ++ c) e)

one : (a c d e : List ℕ) → d ≡ c ++ e → a ++ d ≡ (a ++ c) ++ e
one a c d e h = ap (λ l. a ++ l) h ∙ sym (append_assoc a c e)

parted : (ms more : List Mark) (s : LineState) → written_from s (ms ++ more) ≡ written_to s ms ++ written_from (state_after s ms) more
parted [] more s = refl
parted (Token g t ∷ ms) more s = two (token_before s g t) t _ _ _ (parted ms more (pushed_token s g t))
parted (Note t ∷ ms) more s = two (note_before s t) t _ _ _ (parted ms more (pushed_note s t))
parted (Open ∷ ms) more s = two (parenthesis_before s) (open_parenthesis ∷ []) _ _ _ (parted ms more (pushed_parenthesis s (s.depth + 1)))
parted (Close ∷ ms) more s = two (parenthesis_before s) (close_parenthesis ∷ []) _ _ _ (parted ms more (pushed_parenthesis s (s.depth - 1)))
parted (Feed ∷ ms) more s = one (last_line_end s) _ _ _ (parted ms more (fed s))
parted (Lead ∷ ms) more s = parted ms more (led s)

-- below a seam
below : (s : FormatState) (ms : List Mark) → written_from (resting s) ms ≡ forms s.above (below_seam s) (lines ms)
below s ms = from_start ms (both ms).1 s.above 0 s.noted

pub follows : (a : Above) (noted : ℕ) (ms : List Mark) → accepts_from (record { above = a; depth = 0; noted = noted; note = 0; turn = Edge; end = 0 }) ms ≡ may_follow a ms
follows Nothing noted ms = accepted ms false noted
follows Line noted ms = settled ms Line 0 noted 0 Edge 0 refl
follows Gap noted ms = settled ms Gap 0 noted 0 Edge 0 refl

pub none_formed : FormedTo [] [] first_seam
none_formed = record { marks = []; read = none_marked; entries = inl refl; formed = λ more. refl; fit = λ more. refl }

-- one more block
module _ (octets : List ℕ) (s : FormatState) (old new : List ℕ) (t : LineState) (w : WritesBelow octets s old new t) where
  abbrev here : List ℕ
  here = written_from (resting s) w.marks

  formed_on : (all out : List ℕ) (f : FormedTo all out s) (more : List Mark) → form ((f.marks ++ w.marks) ++ more) ≡ out ++ (written_to (resting s) w.marks ++ written_from t more)
  formed_on all out f more =
      ap form (append_assoc f.marks w.marks more) ∙ f.formed (w.marks ++ more) ∙ ap (λ l. out ++ l) (sym (below s (w.marks ++ more)) ∙ parted w.marks more (resting s)
      ∙ ap (λ u. written_to (resting s) w.marks ++ written_from u more) (sym w.line_state))

  fit_on : (all out : List ℕ) (f : FormedTo all out s) (more : List Mark) → has_form ((f.marks ++ w.marks) ++ more) ≡ accepts_from t more
  fit_on all out f more =
      ap has_form (append_assoc f.marks w.marks more) ∙ f.fit (w.marks ++ more) ∙ sym (follows s.above s.noted (w.marks ++ more)) ∙ accepts_parted w.marks more (resting s) w.accepted
      ∙ ap (λ u. accepts_from u more) (sym w.line_state)

  -- all that is written of the marks
  to_end : written_to (resting s) w.marks ++ last_line_end t ≡ here
  to_end = ap (λ u. written_to (resting s) w.marks ++ last_line_end u) w.line_state ∙ sym (parted w.marks [] (resting s)) ∙ ap (written_from (resting s)) (append-nil w.marks)

  pub formats_entries : FormatsEntries octets s old new (seam_of t)
  formats_entries e =
      let rest : t ≡ resting (seam_of t) = w.line_state ∙ entries_rest octets w.marks (resting s) e w.read refl ∙ ap (λ u. resting (seam_of u)) (sym w.line_state) in
      let none : last_line_end t ≡ [] = ap last_line_end rest in
      let all_is : written_to (resting s) w.marks ≡ here = sym (append-nil (written_to (resting s) w.marks)) ∙ ap (λ l. written_to (resting s) w.marks ++ l) (sym none) ∙ to_end in (
        here,
        sym (append-nil new) ∙ ap (λ l. new ++ l) (sym none) ∙ w.out,
        λ all out f. record {
          marks = f.marks ++ w.marks;
          read = marks_join all octets f.marks w.marks f.entries f.read w.read;
          entries = entries_join all octets f.entries e;
          formed = λ more. formed_on all out f more ∙ ap (λ l. out ++ (l ++ written_from t more)) all_is ∙ sym (append_assoc out here (written_from t more))
              ∙ ap (λ u. (out ++ here) ++ written_from u more) rest ∙ ap (λ l. (out ++ here) ++ l) (below (seam_of t) more);
          fit = λ more. fit_on all out f more ∙ ap (λ u. accepts_from u more) rest ∙ follows t.above t.noted more;
        },
      )

  pub formats_last : (last : List ℕ) → last ≡ new ++ last_line_end t → FormatsLast octets s old last
  formats_last last is = (
    here,
    is ∙ w.out,
    λ all out f. record {
      marks = f.marks ++ w.marks;
      read = marks_join all octets f.marks w.marks f.entries f.read w.read;
      formed = ap has_form (sym (append-nil (f.marks ++ w.marks))) ∙ fit_on all out f [];
      out = ap (λ l. out ++ l) (sym to_end) ∙ sym (formed_on all out f []) ∙ ap form (append-nil (f.marks ++ w.marks));
    },
  )

-- of one block
pub formats_once : (octets old new : List ℕ) → FormatsLast octets first_seam old new → Formats octets old new
formats_once octets old new f =
    let all = f.2 [] [] none_formed in
    record { marks = all.marks; read = all.read; formed = all.formed; out = f.1 ∙ ap (λ l. old ++ l) all.out }
