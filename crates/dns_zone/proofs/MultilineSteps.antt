-- The multiline writer's steps.
use Rattle.std.proofs.Common.{◌≡◌, ℕ, ◌+◌, List, [], ◌∷◌, ◌++◌, length, replicate, Bool, true, false, cond, refl, Option, Some, None, sym, ap, subst, ◌∙◌, arith, length-append, ◌<◌}
use Rattle.std.specs.List.{FoldsTo, concat}
use Rattle.std.specs.Fmt.{WritesInCalls}
use Rattle.std.proofs.Output.{writes_in_calls_append, writes_in_calls_nil, writes_in_calls_single}
use Rattle.dns_symbol.specs.Characters.{line_feed, open_parenthesis, space}
use Rattle.dns_zone.specs.Layout.{Step, token, begin, comment, line_width, comment_mark, is_shown, indent, row, word, shown_comment}
use Rattle.dns_zone.specs.Multiline.{MultilineFollows, MultilineStep}
use Rattle.dns_zone.specs.Sinks.{Counts, CountsTo}
use Rattle.dns_zone.specs.declared.zonefile_fmt.multiline.MultiLineWriter.{MultiLineWriter}
use Rattle.dns_zone.specs.declared.zonefile_fmt.blocks.Blocks.{Blocks}
use Rattle.dns_zone.specs.declared.zonefile_fmt.sink.Line.{Line}

-- the text before a word
abbrev pub gap : Bool → List ℕ
gap first = cond first [] (space ∷ [])

-- some calls that are counted
pub record Counted {W : Type 0} (most : ℕ) (took : W → List ℕ → W → Type 0) (w : Line W) (bs : List ℕ) (v : Line W) : Type 0 where
  pub column : (n : ℕ) → CountsTo most w.column n → CountsTo most v.column (n + length bs)
  pub wrote : WritesInCalls took w.writer bs v.writer

-- t is s after the space before a word
pub record SpaceWritten {W : Type 0} (most : ℕ) (took : W → List ℕ → W → Type 0) (s t : MultiLineWriter W) : Type 0 where
  pub blocks : t.blocks ≡ s.blocks
  pub block_indent : t.block_indent ≡ s.block_indent
  pub line : Counted most took s.line (gap s.first) t.line

shown_at : (b : Bool) (m n : ℕ) → cond b (Some m) None ≡ Some n → (b ≡ true) × (m ≡ n)
shown_at true m n e = (refl, cc)
shown_at false m n e = cc

module _ {W : Type 0} (most : ℕ) (took : W → List ℕ → W → Type 0) where
  pub counted_none : (w : Line W) → Counted most took w [] w
  counted_none w = record { column = λ n h. subst (λ (k : ℕ). CountsTo most w.column k) (omega arith) h; wrote = writes_in_calls_nil took w.writer }

  pub counted_one : (w : Line W) (bs : List ℕ) (v : Line W) → Counts most took w bs v → Counted most took w bs v
  counted_one w bs v p = record { column = p.column; wrote = writes_in_calls_single took _ _ _ p.wrote }

  pub counted_append : (w : Line W) (a : List ℕ) (v : Line W) (b : List ℕ) (u : Line W) → Counted most took w a v → Counted most took v b u → Counted most took w (a ++ b) u
  counted_append w a v b u p q = record {
    column = λ n h. subst (λ (k : ℕ). CountsTo most u.column k) (omega (arith, length-append a b)) (q.column (n + length a) (p.column n h));
    wrote = writes_in_calls_append took _ a _ b _ p.wrote q.wrote;
  }

  counted_calls : (w : Line W) (xs : List (List ℕ)) (v : Line W) → FoldsTo (Counts most took) w xs v → Counted most took w (concat xs) v
  counted_calls w [] v p = subst (λ (x : Line W). Counted most took w [] x) p (counted_none w)
  counted_calls w (x ∷ xs) v p = counted_append w x p.0 (concat xs) v (counted_one w x p.0 p.1) (counted_calls p.0 xs v p.2)

  pub counted : (w : Line W) (bs : List ℕ) (v : Line W) → WritesInCalls (Counts most took) w bs v → Counted most took w bs v
  counted w bs v p = subst (λ (b : List ℕ). Counted most took w b v) p.whole (counted_calls w p.parts v p.calls)

  -- a count that is there is the number
  pub counts_some : (o : Option ℕ) (m n : ℕ) → o ≡ Some m → CountsTo most o n → o ≡ Some n
  counts_some o m n e h = e ∙ ap Some (rw e at h)

  -- the line after the space and the word of a token
  word_counted : (s t : MultiLineWriter W) (v : Line W) (bs : List ℕ) (past : List Step) → SpaceWritten most took s t → WritesInCalls (Counts most took) t.line bs v
      → MultilineFollows s past → CountsTo most v.column (line_width (token bs ∷ past)) × WritesInCalls took s.line.writer (word past bs) v.writer
  word_counted s t v bs past p q h =
      let all : Counted most took s.line (gap s.first ++ bs) v = counted_append s.line (gap s.first) t.line bs v p.line (counted t.line bs v q) in
      let word_is : gap s.first ++ bs ≡ word past bs = ap (λ (b : Bool). gap b ++ bs) h.first in
      let wide : line_width past + length (gap s.first ++ bs) ≡ line_width (token bs ∷ past) = omega (arith, ap length word_is, length-append (row past) (word past bs)) in
      (subst (λ (k : ℕ). CountsTo most v.column k) wide (all.column (line_width past) (rw h.column refl)), rw (← word_is) all.wrote)

  pub multiline_token : (s t : MultiLineWriter W) (v : Line W) (bs : List ℕ) (n : ℕ) → SpaceWritten most took s t → WritesInCalls (Counts most took) t.line bs v → v.column ≡ Some n
      → MultilineStep took s (token bs) (record { first = false; blocks = t.blocks; block_indent = t.block_indent; line = v })
  multiline_token s t v bs n p q e past h =
      let at = word_counted s t v bs past p q h in
      record {
        next = record {
          first = refl;
          blocks = ap (λ b. b.count) p.blocks ∙ h.blocks;
          block_indent = p.block_indent ∙ h.block_indent;
          column = counts_some v.column n _ e at.0;
        };
        wrote = at.1;
      }

  -- a line that can't be counted is too wide
  pub token_too_wide : (s t : MultiLineWriter W) (v : Line W) (bs : List ℕ) (past : List Step) → SpaceWritten most took s t → WritesInCalls (Counts most took) t.line bs v
      → v.column ≡ None → MultilineFollows s past → most < line_width (token bs ∷ past)
  token_too_wide s t v bs past p q e h = rw e at (word_counted s t v bs past p q h).0

  -- t is s after the mark of a begin, and o the indent of its block
  begin_counted : (s t : MultiLineWriter W) (o : Option ℕ) (past : List Step) → MultilineStep took s (token (open_parenthesis ∷ [])) t
      → ((n : ℕ) → CountsTo most t.line.column n → CountsTo most o (n + 1)) → MultilineFollows s past → CountsTo most o (indent (begin ∷ past))
  begin_counted s t o past p k h =
      let at = p past h in
      k (line_width (token (open_parenthesis ∷ []) ∷ past)) (rw at.next.column refl)

  pub begin_is : (s t : MultiLineWriter W) (o : Option ℕ) (n : ℕ) (past : List Step) → MultilineStep took s (token (open_parenthesis ∷ [])) t
      → ((n : ℕ) → CountsTo most t.line.column n → CountsTo most o (n + 1)) → o ≡ Some n → MultilineFollows s past → n ≡ indent (begin ∷ past)
  begin_is s t o n past p k e h = rw e at (begin_counted s t o past p k h)

  -- an indent that can't be counted is too wide
  pub begin_too_wide : (s t : MultiLineWriter W) (o : Option ℕ) (past : List Step) → MultilineStep took s (token (open_parenthesis ∷ [])) t
      → ((n : ℕ) → CountsTo most t.line.column n → CountsTo most o (n + 1)) → o ≡ None → MultilineFollows s past → most < indent (begin ∷ past)
  begin_too_wide s t o past p k e h = rw e at (begin_counted s t o past p k h)

  pub multiline_begin : (s t : MultiLineWriter W) (o : Option ℕ) (n : ℕ) (b : Blocks) → MultilineStep took s (token (open_parenthesis ∷ [])) t
      → ((n : ℕ) → CountsTo most t.line.column n → CountsTo most o (n + 1)) → o ≡ Some n → b.count ≡ s.blocks.count + 1
      → MultilineStep took s begin (record { first = t.first; blocks = b; block_indent = Some n; line = t.line })
  multiline_begin s t o n b p k e opened past h =
      let at = p past h in
      record {
        next = record {
          first = at.next.first;
          blocks = omega (arith, opened, h.blocks);
          block_indent = ap Some (begin_is s t o n past p k e h);
          column = at.next.column;
        };
        wrote = at.wrote;
      }

  pub multiline_comment : (s : MultiLineWriter W) (n : ℕ) (a b d e : W) (bs : List ℕ) → s.block_indent ≡ Some n
      → took s.line.writer comment_mark a → WritesInCalls took a bs b → took b (line_feed ∷ []) d → WritesInCalls took d (replicate n space) e
      → MultilineStep took s (comment bs) (record { first = true; blocks = s.blocks; block_indent = s.block_indent; line = record { column = Some n; writer = e } })
  multiline_comment s n a b d e bs is p q r t past h =
      let at = shown_at (is_shown past) (indent past) n (sym h.block_indent ∙ is) in
      let end_of_row : WritesInCalls took b (line_feed ∷ replicate n space) e = writes_in_calls_append took _ (line_feed ∷ []) d _ e (writes_in_calls_single took _ _ _ r) t in
      let all : WritesInCalls took s.line.writer (shown_comment n bs) e =
      writes_in_calls_append took _ comment_mark a _ e (writes_in_calls_single took _ _ _ p) (writes_in_calls_append took _ bs b _ e q end_of_row) in
      record {
        next = record {
          first = rw at.0 refl;
          blocks = h.blocks;
          block_indent = h.block_indent;
          column = rw (at.0, at.1) (ap Some (omega arith));
        };
        wrote = rw (at.0, at.1) all;
      }
