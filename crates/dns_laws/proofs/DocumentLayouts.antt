-- Each layout of a well-formed document splits into its entries.
use Rattle.std.proofs.Common.{◌&&◌, ◌≡◌, ℕ, zero, suc, ◌<◌, Bool, true, false, List, [], ◌∷◌, ◌++◌, replicate, refl, sym, ap, ◌∙◌, subst, arith, append_assoc}
use Rattle.std.specs.Prelude.{if◌then◌else◌, ◌||◌, ◌==◌, not}
use Rattle.std.specs.List.{flat_map, list_any, AllByRecursion}
use Rattle.std.proofs.lemmas.Bool.{and_from}
use lib.Utf8.{encode}
use Rattle.dns_symbol.specs.Characters.{tab, line_feed, space, open_parenthesis, close_parenthesis, semicolon}
use Rattle.dns_lexer.proofs.Tight.{tight_all}
use Rattle.dns_lexer.specs.Splitting.{BeginsNoBlank, is_tight, is_outside, Splits, may_precede, are_lexemes, nests, with_token, entries, Entries}
use Rattle.dns_lexer.specs.Lexeme.{Lexeme, Blank, Line, Open, Close, Note, Word, Quote, lexeme_bytes}
use Rattle.dns_zone.specs.Layout.{Step, token, begin, end, comment, newline, layout, text_of_steps, depth, is_line_start, is_block_start, simple_piece, tabbed_piece, multiline_piece, is_shown}
use Rattle.dns_zone.specs.Layout.{is_row_start, is_word, since, ends_row, indent}
use Rattle.dns_zone.specs.Documents.{IsCommentText, IsProper, IsWellFormed}
use Rattle.dns_zone.specs.Nesting.{is_nested}
use Rattle.dns_zone.specs.Forming.{from_none_test}
use Rattle.dns_zone.proofs.Nested.{nested_end, nested_in, nested_newline, nested_out}
use Rattle.dns_laws.specs.Entries.{document_entries}
use Rattle.dns_lexer.proofs.Tokens.{is_token_lexeme, token_one}
use Rattle.dns_lexer.specs.Token.{IsToken}
use Rattle.dns_lexer.specs.Viable.{IsBad}
use Rattle.dns_lexer.specs.Answer.{IsSplitOf}
use Rattle.dns_lexer.specs.declared.error.SplitError.{SplitError}
use Rattle.dns_lexer.specs.declared.error.SplitError.TheVariants.{BadText, ShortBuf}
use Rattle.dns_laws.specs.Refusal.{IsDocumentRefusal}
use Rattle.dns_laws.specs.declared.layouts.Refusal.TheVariants.{Split}
use Rattle.std.specs.Prelude.{Err}
use Rattle.dns_lexer.proofs.Complete.{no_word, one_way}
use Rattle.dns_zone.specs.Printed.{printed}
use Rattle.dns_zone.specs.declared.zonefile_fmt.DisplayKind.{DisplayKind}
use Rattle.dns_zone.specs.declared.zonefile_fmt.DisplayKind.TheVariants.{Simple, Tabbed, Multiline}

-- a lexeme list of a text, at a depth, with these entries
pub record Laid (d : ℕ) (text : List ℕ) (e : Entries) : Type 0 where
  pub ls : List Lexeme
  pub spelled : flat_map lexeme_bytes ls ≡ text
  pub valid : are_lexemes ls ≡ true
  pub nested : nests d ls ≡ true
  pub cut : entries d ls ≡ e

-- the first item isn't a word, where a word precedes it
pub record LaidApart (close : Bool) (d : ℕ) (text : List ℕ) (e : Entries) : Type 0 where
  pub laid : Laid d text e
  pub apart : close ≡ true → no_word laid.ls ≡ true

token_follows : (l : Lexeme) (ls : List Lexeme) → is_token_lexeme l ≡ true → no_word ls ≡ true → may_precede l ls ≡ true
token_follows (Word s ss) [] o n = refl
token_follows (Word s ss) (Word _ _ ∷ ls) o n = cc
token_follows (Word s ss) (Blank _ ∷ ls) o n = refl
token_follows (Word s ss) (Line _ ∷ ls) o n = refl
token_follows (Word s ss) (Open ∷ ls) o n = refl
token_follows (Word s ss) (Close ∷ ls) o n = refl
token_follows (Word s ss) (Note _ ∷ ls) o n = refl
token_follows (Word s ss) (Quote _ ∷ ls) o n = refl
token_follows (Quote ss) ls o n = refl
token_follows (Blank _) ls o n = cc
token_follows (Line _) ls o n = cc
token_follows Open ls o n = cc
token_follows Close ls o n = cc
token_follows (Note _) ls o n = cc

token_nests : (d : ℕ) (l : Lexeme) (ls : List Lexeme) → is_token_lexeme l ≡ true → nests d (l ∷ ls) ≡ nests d ls
token_nests d (Word s ss) ls o = refl
token_nests d (Quote ss) ls o = refl
token_nests d (Blank _) ls o = cc
token_nests d (Line _) ls o = cc
token_nests d Open ls o = cc
token_nests d Close ls o = cc
token_nests d (Note _) ls o = cc

token_entries : (d : ℕ) (l : Lexeme) (ls : List Lexeme) → is_token_lexeme l ≡ true → entries d (l ∷ ls) ≡ with_token (lexeme_bytes l) (entries d ls)
token_entries d (Word s ss) ls o = refl
token_entries d (Quote ss) ls o = refl
token_entries d (Blank _) ls o = cc
token_entries d (Line _) ls o = cc
token_entries d Open ls o = cc
token_entries d Close ls o = cc
token_entries d (Note _) ls o = cc

-- a token before
with_one : (d : ℕ) (t text : List ℕ) (e : Entries) → IsToken t → (l : Laid d text e) → no_word l.ls ≡ true → Laid d (t ++ text) (with_token t e)
with_one d t text e token_is l n = let i = token_one token_is in record {
  ls = i.lexeme ∷ l.ls;
  spelled = ap (λ x. x ++ flat_map lexeme_bytes l.ls) i.spelled ∙ ap (λ x. t ++ x) l.spelled;
  valid = and_from _ _ (and_from _ _ i.valid (token_follows i.lexeme l.ls i.is_one n)) l.valid;
  nested = token_nests d i.lexeme l.ls i.is_one ∙ l.nested;
  cut = token_entries d i.lexeme l.ls i.is_one ∙ ap (λ x. with_token x (entries d l.ls)) i.spelled ∙ ap (with_token t) l.cut;
}

-- a blank before
with_blank : (d : ℕ) (wide : Bool) (text : List ℕ) (e : Entries) → Laid d text e → Laid d ((if wide then tab else space) ∷ text) e
unfolding encode
with_blank d true text e l = record { ls = Blank true ∷ l.ls; spelled = ap (λ x. tab ∷ x) l.spelled; valid = l.valid; nested = l.nested; cut = l.cut }
with_blank d false text e l = record { ls = Blank false ∷ l.ls; spelled = ap (λ x. space ∷ x) l.spelled; valid = l.valid; nested = l.nested; cut = l.cut }

-- a line's end before, outside parentheses and in them
with_line : (text : List ℕ) (e : Entries) → Laid zero text e → Laid zero (line_feed ∷ text) ([] ∷ e)
unfolding encode
with_line text e l = record { ls = Line false ∷ l.ls; spelled = ap (λ x. line_feed ∷ x) l.spelled; valid = l.valid; nested = l.nested; cut = ap (λ x. [] ∷ x) l.cut }

with_inner_line : (d : ℕ) (text : List ℕ) (e : Entries) → Laid (suc d) text e → Laid (suc d) (line_feed ∷ text) e
unfolding encode
with_inner_line d text e l = record { ls = Line false ∷ l.ls; spelled = ap (λ x. line_feed ∷ x) l.spelled; valid = l.valid; nested = l.nested; cut = l.cut }

with_opening : (d : ℕ) (text : List ℕ) (e : Entries) → Laid (suc d) text e → Laid d (open_parenthesis ∷ text) e
unfolding encode
with_opening d text e l = record { ls = Open ∷ l.ls; spelled = ap (λ x. open_parenthesis ∷ x) l.spelled; valid = l.valid; nested = l.nested; cut = l.cut }

with_closing : (d : ℕ) (text : List ℕ) (e : Entries) → Laid d text e → Laid (suc d) (close_parenthesis ∷ text) e
unfolding encode
with_closing d text e l = record { ls = Close ∷ l.ls; spelled = ap (λ x. close_parenthesis ∷ x) l.spelled; valid = l.valid; nested = l.nested; cut = l.cut }

pub laid_splits : (text : List ℕ) (e : Entries) → Laid 0 text e → Splits text e
laid_splits text e l = record { lexemes = l.ls; spelled = l.spelled; valid = l.valid; nested = l.nested; cut = l.cut }

-- the layouts without parentheses, where sep is whether a tab precedes a token
abbrev pub flat : (List Step → Bool) → List Step → Step → List ℕ
flat sep past (token t) = (if is_line_start past then [] else (if sep past then tab ∷ [] else space ∷ [])) ++ t
flat sep past newline = line_feed ∷ []
flat sep past _ = []

-- no token is adjacent to another
abbrev pub stands_apart : Bool → List Lexeme → Bool
stands_apart behind [] = true
stands_apart behind (Word s ss ∷ ls) = not behind && stands_apart true ls
stands_apart behind (Quote ss ∷ ls) = not behind && stands_apart true ls
stands_apart behind (_ ∷ ls) = stands_apart false ls

token_apart : (l : Lexeme) (ls : List Lexeme) → is_token_lexeme l ≡ true → stands_apart false (l ∷ ls) ≡ stands_apart true ls
token_apart (Word s ss) ls o = refl
token_apart (Quote ss) ls o = refl
token_apart (Blank _) ls o = cc
token_apart (Line _) ls o = cc
token_apart Open ls o = cc
token_apart Close ls o = cc
token_apart (Note _) ls o = cc

apart_anywhere : (ls : List Lexeme) → stands_apart true ls ≡ true → stands_apart false ls ≡ true
apart_anywhere [] h = refl
apart_anywhere (Word s ss ∷ ls) h = cc
apart_anywhere (Quote ss ∷ ls) h = cc
apart_anywhere (Blank _ ∷ ls) h = h
apart_anywhere (Line _ ∷ ls) h = h
apart_anywhere (Open ∷ ls) h = h
apart_anywhere (Close ∷ ls) h = h
apart_anywhere (Note _ ∷ ls) h = h

-- laid, no word comes first unless a line begins here, and no blank if one begins outside parentheses; tokens aren't adjacent
abbrev pub LaidFrom : Bool → ℕ → List ℕ → Entries → Type 0
LaidFrom start d text e = (l : Laid d text e) × (start ≡ false → no_word l.ls ≡ true) × (is_tight (start && is_outside d) d l.ls ≡ true) × (stands_apart (not start) l.ls ≡ true)

token_tight : (b : Bool) (d : ℕ) (l : Lexeme) (ls : List Lexeme) → is_token_lexeme l ≡ true → is_tight b d (l ∷ ls) ≡ is_tight false d ls
token_tight b d (Word s ss) ls o = refl
token_tight b d (Quote ss) ls o = refl
token_tight b d (Blank _) ls o = cc
token_tight b d (Line _) ls o = cc
token_tight b d Open ls o = cc
token_tight b d Close ls o = cc
token_tight b d (Note _) ls o = cc

flat_token : (fresh wide : Bool) (d : ℕ) (t text : List ℕ) (e : Entries) → IsToken t → LaidFrom false d text e
    → LaidFrom fresh d ((if fresh then [] else (if wide then tab ∷ [] else space ∷ [])) ++ t ++ text) (with_token t e)
unfolding with_blank with_one
flat_token true tab d t text e i r = (
  with_one d t text e i r.0 (r.1 refl),
  λ no_start. cc,
  token_tight (is_outside d) d (token_one i).lexeme r.0.ls (token_one i).is_one ∙ r.2,
  token_apart (token_one i).lexeme r.0.ls (token_one i).is_one ∙ r.3,
)
flat_token false true d t text e i r = (
  with_blank d true (t ++ text) (with_token t e) (with_one d t text e i r.0 (r.1 refl)),
  λ _. refl,
  token_tight false d (token_one i).lexeme r.0.ls (token_one i).is_one ∙ r.2,
  token_apart (token_one i).lexeme r.0.ls (token_one i).is_one ∙ r.3,
)
flat_token false false d t text e i r = (
  with_blank d false (t ++ text) (with_token t e) (with_one d t text e i r.0 (r.1 refl)),
  λ _. refl,
  token_tight false d (token_one i).lexeme r.0.ls (token_one i).is_one ∙ r.2,
  token_apart (token_one i).lexeme r.0.ls (token_one i).is_one ∙ r.3,
)

flat_laid : (sep : List Step → Bool) (steps past : List Step) → AllByRecursion IsProper steps → LaidFrom (is_line_start past) 0 (text_of_steps (flat sep) past steps) (document_entries steps)
unfolding with_line
flat_laid sep [] past p = (record { ls = []; spelled = refl; valid = refl; nested = refl; cut = refl }, λ _. refl, refl, refl)
flat_laid sep (token t ∷ steps) past p = flat_token (is_line_start past) (sep past) 0 t (text_of_steps (flat sep) (token t ∷ past) steps) (document_entries steps) p.0
    (flat_laid sep steps (token t ∷ past) p.1)
flat_laid sep (newline ∷ steps) past p = let r = flat_laid sep steps (newline ∷ past) p.1 in (with_line _ _ r.0, λ _. refl, r.2, r.3)
flat_laid sep (begin ∷ steps) past p = flat_laid sep steps (begin ∷ past) p.1
flat_laid sep (end ∷ steps) past p = flat_laid sep steps (end ∷ past) p.1
flat_laid sep (comment t ∷ steps) past p = flat_laid sep steps (comment t ∷ past) p.1

layout_same : (p q : List Step → Step → List ℕ) → ((past : List Step) (step : Step) → p past step ≡ q past step) → (steps past : List Step) → text_of_steps p past steps ≡ text_of_steps q past steps
layout_same p q h [] past = refl
layout_same p q h (step ∷ steps) past = ap (λ x. x ++ text_of_steps p (step ∷ past) steps) (h past step) ∙ ap (λ x. q past step ++ x) (layout_same p q h steps (step ∷ past))

simple_flat : (past : List Step) (step : Step) → flat (λ _. false) past step ≡ simple_piece past step
simple_flat past (token t) = refl
simple_flat past newline = refl
simple_flat past begin = refl
simple_flat past end = refl
simple_flat past (comment t) = refl

-- a tab precedes this token
abbrev is_tab : List Step → Bool
is_tab past = depth past == 0 || is_block_start past

tabbed_flat : (past : List Step) (step : Step) → flat is_tab past step ≡ tabbed_piece past step
tabbed_flat past (token t) = refl
tabbed_flat past newline = refl
tabbed_flat past begin = refl
tabbed_flat past end = refl
tabbed_flat past (comment t) = refl

pub laid_tight : (text : List ℕ) (e : Entries) → LaidFrom true 0 text e → BeginsNoBlank text
laid_tight text e r = tight_all text r.0.ls r.0.spelled r.0.valid r.0.nested r.2

simple_laid : (steps : List Step) → IsWellFormed steps → LaidFrom true 0 (layout simple_piece steps) (document_entries steps)
simple_laid steps w = subst (λ x. LaidFrom true 0 x (document_entries steps)) (layout_same (flat (λ _. false)) simple_piece simple_flat steps []) (flat_laid (λ _. false) steps [] w.1)

tabbed_laid : (steps : List Step) → IsWellFormed steps → LaidFrom true 0 (layout tabbed_piece steps) (document_entries steps)
tabbed_laid steps w = subst (λ x. LaidFrom true 0 x (document_entries steps)) (layout_same (flat is_tab) tabbed_piece tabbed_flat steps []) (flat_laid is_tab steps [] w.1)

pub simple_splits : (steps : List Step) → IsWellFormed steps → Splits (layout simple_piece steps) (document_entries steps)
simple_splits steps w = laid_splits _ _ (simple_laid steps w).0

pub tabbed_splits : (steps : List Step) → IsWellFormed steps → Splits (layout tabbed_piece steps) (document_entries steps)
tabbed_splits steps w = laid_splits _ _ (tabbed_laid steps w).0

pub simple_tight : (steps : List Step) → IsWellFormed steps → BeginsNoBlank (layout simple_piece steps)
simple_tight steps w = laid_tight _ _ (simple_laid steps w)

pub tabbed_tight : (steps : List Step) → IsWellFormed steps → BeginsNoBlank (layout tabbed_piece steps)
tabbed_tight steps w = laid_tight _ _ (tabbed_laid steps w)

with_blanks : (d n : ℕ) (text : List ℕ) (e : Entries) → Laid d text e → Laid d (replicate n space ++ text) e
with_blanks d zero text e l = l
with_blanks d (suc n) text e l = with_blank d false (replicate n space ++ text) e (with_blanks d n text e l)

blanks_tight : (d n : ℕ) (text : List ℕ) (e : Entries) (l : Laid d text e) → is_tight false d (with_blanks d n text e l).ls ≡ is_tight false d l.ls
unfolding with_blanks with_blank
blanks_tight d zero text e l = refl
blanks_tight d (suc n) text e l = blanks_tight d n text e l

blanks_apart : (d n : ℕ) (text : List ℕ) (e : Entries) (l : Laid d text e) → stands_apart false (with_blanks d n text e l).ls ≡ stands_apart false l.ls
unfolding with_blanks with_blank
blanks_apart d zero text e l = refl
blanks_apart d (suc n) text e l = blanks_apart d n text e l

-- a shown comment before, in parentheses
with_note : (d : ℕ) (t text all : List ℕ) (e : Entries) → IsCommentText t → t ++ line_feed ∷ text ≡ all → Laid (suc d) text e → Laid (suc d) (tab ∷ semicolon ∷ space ∷ all) e
unfolding encode
with_note d t text all e i same l = record {
  ls = Blank true ∷ Note (space ∷ i.characters) ∷ Line false ∷ l.ls;
  spelled = ap (λ x. tab ∷ semicolon ∷ space ∷ (x ++ line_feed ∷ flat_map lexeme_bytes l.ls)) i.spelled ∙ ap (λ x. tab ∷ semicolon ∷ space ∷ (t ++ line_feed ∷ x)) l.spelled
      ∙ ap (λ x. tab ∷ semicolon ∷ space ∷ x) same;
  valid = and_from _ _ (and_from _ _ i.plain refl) l.valid;
  nested = l.nested;
  cut = l.cut;
}

-- a word of the multiline layout
spaced_word : (start : Bool) (d : ℕ) (t text : List ℕ) (e : Entries) → IsToken t → LaidFrom false d text e → LaidFrom start d ((if start then [] else space ∷ []) ++ t ++ text) (with_token t e)
spaced_word start d t text e i r = flat_token start false d t text e i r

-- a mark of the multiline layout
spaced_mark : (start : Bool) (d c : ℕ) (text : List ℕ) (e : Entries) → (l : Laid d (c ∷ text) e) → no_word l.ls ≡ true → ((b : Bool) → is_tight b d l.ls ≡ true) → ((b : Bool) → stands_apart b l.ls ≡ true)
    → LaidFrom start d ((if start then [] else space ∷ []) ++ c ∷ [] ++ text) e
unfolding with_blank
spaced_mark true d c text e l n b a = (l, λ _. n, b (is_outside d), a false)
spaced_mark false d c text e l n b a = (with_blank d false (c ∷ text) e l, λ _. refl, b false, a false)

inner : (start : Bool) (d : ℕ) (cs : List ℕ) (ls : List Lexeme) → is_tight false (suc d) ls ≡ true
    → is_tight (start && is_outside (suc d)) (suc d) (Blank true ∷ Note (space ∷ cs) ∷ Line false ∷ ls) ≡ true
inner true d cs ls h = h
inner false d cs ls h = h

maybe_note : (shown start : Bool) (n d : ℕ) (t text : List ℕ) (e : Entries) → IsCommentText t → (shown ≡ true → 0 < d) → LaidFrom (shown || start) d text e
    → LaidFrom start d ((if shown then tab ∷ semicolon ∷ space ∷ (t ++ line_feed ∷ replicate n space) else []) ++ text) e
unfolding with_note
maybe_note false start n d t text e i inside r = r
maybe_note true start n zero t text e i inside r = absurd (omega (arith, inside refl))
maybe_note true start n (suc d) t text e i inside r = (
  with_note d t (replicate n space ++ text) _ e i (sym (append_assoc t (line_feed ∷ replicate n space) text)) (with_blanks (suc d) n text e r.0),
  λ _. refl,
  inner start d i.characters ((with_blanks (suc d) n text e r.0).ls) (blanks_tight (suc d) n text e r.0 ∙ r.2),
  blanks_apart (suc d) n text e r.0 ∙ r.3,
)

-- after a comment a row starts if the comment is shown, or if one had no word yet
start_after_comment : (past : List Step) (t : List ℕ) → is_row_start (comment t ∷ past) ≡ (is_shown past || is_row_start past)
start_after_comment past t = by (is_shown past) (since ends_row past)
  where
    by : (shown : Bool) (row : List Step) → not (list_any is_word (if shown then [] else comment t ∷ row)) ≡ (shown || not (list_any is_word row))
    by true row = refl
    by false row = refl

multiline_laid : (steps past : List Step) (d : ℕ) → is_nested d steps ≡ true → AllByRecursion IsProper steps → (is_shown past ≡ true → 0 < d)
    → LaidFrom (is_row_start past) d (text_of_steps multiline_piece past steps) (document_entries steps)
unfolding with_line with_opening with_closing
multiline_laid [] past zero w p s = (record { ls = []; spelled = refl; valid = refl; nested = refl; cut = refl }, λ _. refl, refl, refl)
multiline_laid [] past (suc d) w p s = let none = from_none_test (suc d) w in absurd (omega (arith, none))
multiline_laid (token t ∷ steps) past d w p s = spaced_word (is_row_start past) d t (text_of_steps multiline_piece (token t ∷ past) steps) (document_entries steps) p.0
    (multiline_laid steps (token t ∷ past) d w p.1 s)
multiline_laid (newline ∷ steps) past zero w p s = let r = multiline_laid steps (newline ∷ past) zero w p.1 s in (with_line _ _ r.0, λ _. refl, r.2, r.3)
multiline_laid (newline ∷ steps) past (suc d) w p s = let none = nested_newline (suc d) newline steps w refl in absurd (omega (arith, none))
multiline_laid (begin ∷ steps) past d w p s =
    let r = multiline_laid steps (begin ∷ past) (suc d) (nested_in d steps w) p.1 (λ _. omega arith) in
    spaced_mark (is_row_start past) d open_parenthesis (text_of_steps multiline_piece (begin ∷ past) steps) (document_entries steps) (with_opening d _ _ r.0) refl (λ _. r.2) (λ _. apart_anywhere r.0.ls r.3)
multiline_laid (end ∷ steps) past zero w p s = let some = nested_end zero end steps w refl in absurd (omega (arith, some))
multiline_laid (end ∷ steps) past (suc d) w p s =
    let r = multiline_laid steps (end ∷ past) d (nested_out d steps w) p.1 (λ h. cc) in
    spaced_mark (is_row_start past) (suc d) close_parenthesis (text_of_steps multiline_piece (end ∷ past) steps) (document_entries steps) (with_closing d _ _ r.0) refl (λ _. r.2) (λ _. apart_anywhere r.0.ls r.3)
multiline_laid (comment t ∷ steps) past d w p s = maybe_note (is_shown past) (is_row_start past) (indent past) d t (text_of_steps multiline_piece (comment t ∷ past) steps)
    (document_entries steps) p.0 s
    (subst (λ b. LaidFrom b d (text_of_steps multiline_piece (comment t ∷ past) steps) (document_entries steps)) (start_after_comment past t) (multiline_laid steps (comment t ∷ past) d w p.1 s))

pub multiline_splits : (steps : List Step) → IsWellFormed steps → Splits (layout multiline_piece steps) (document_entries steps)
multiline_splits steps w = laid_splits _ _ (multiline_laid steps [] 0 w.0 w.1 (λ h. cc)).0

pub multiline_tight : (steps : List Step) → IsWellFormed steps → BeginsNoBlank (layout multiline_piece steps)
multiline_tight steps w = laid_tight _ _ (multiline_laid steps [] 0 w.0 w.1 (λ h. cc))

-- each layout, by its kind
pub printed_laid : (kind : DisplayKind) (steps : List Step) → IsWellFormed steps → LaidFrom true 0 (printed kind steps) (document_entries steps)
printed_laid Simple steps w = simple_laid steps w
printed_laid Tabbed steps w = tabbed_laid steps w
printed_laid Multiline steps w = multiline_laid steps [] 0 w.0 w.1 (λ h. cc)

pub printed_splits : (kind : DisplayKind) (steps : List Step) → IsWellFormed steps → Splits (printed kind steps) (document_entries steps)
printed_splits Simple steps w = simple_splits steps w
printed_splits Tabbed steps w = tabbed_splits steps w
printed_splits Multiline steps w = multiline_splits steps w

pub printed_tight : (kind : DisplayKind) (steps : List Step) → IsWellFormed steps → BeginsNoBlank (printed kind steps)
printed_tight Simple steps w = simple_tight steps w
printed_tight Tabbed steps w = tabbed_tight steps w
printed_tight Multiline steps w = multiline_tight steps w

-- it splits into the document's entries and nothing else
pub printed_only : (kind : DisplayKind) (steps : List Step) (e : Entries) → IsWellFormed steps
    → (Splits (printed kind steps) e → e ≡ document_entries steps) × (e ≡ document_entries steps → Splits (printed kind steps) e)
printed_only kind steps e w = (λ s. one_way _ _ _ s (printed_splits kind steps w), λ is. subst (Splits (printed kind steps)) (sym is) (printed_splits kind steps w))

-- so does a text that is the layout
pub text_only : (kind : DisplayKind) (steps : List Step) (text : List ℕ) → text ≡ printed kind steps → (e : Entries) → IsWellFormed steps
    → (Splits text e → e ≡ document_entries steps) × (e ≡ document_entries steps → Splits text e)
text_only kind steps text is e w = subst (λ t. (Splits t e → e ≡ document_entries steps) × (e ≡ document_entries steps → Splits t e)) (sym is) (printed_only kind steps e w)

-- and no line of it begins with a blank
pub text_tight : (kind : DisplayKind) (steps : List Step) (text : List ℕ) → text ≡ printed kind steps → IsWellFormed steps → BeginsNoBlank text
text_tight kind steps text is w = subst BeginsNoBlank (sym is) (printed_tight kind steps w)

-- a text that is the layout is never bad
pub never_bad : (kind : DisplayKind) (steps : List Step) (text : List ℕ) (i : ℕ) → text ≡ printed kind steps → IsWellFormed steps → IsBad text i → ⊥
never_bad kind steps text i is w bad = bad.splits_not (document_entries steps) ((text_only kind steps text is (document_entries steps) w).1 refl)

-- the possible errors of splitting it
pub refusal : (A : Type 0) (kind : DisplayKind) (steps : List Step) (text : List ℕ) → text ≡ printed kind steps → IsWellFormed steps → (e : SplitError)
    → IsSplitOf {A = A} (Err e) text → IsDocumentRefusal steps (Split e)
refusal A kind steps text is w ShortBuf h = tt
refusal A kind steps text is w (BadText i) h = absurd (never_bad kind steps text i is w h)
